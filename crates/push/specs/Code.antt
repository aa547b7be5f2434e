-- The instructions of a program, by label. Assumes nothing.
use Rattle.std.specs.Prelude.{ℕ, List, Option, slice_get}
use Rattle.push.specs.declared.instruction.Instruction.{Instruction}

-- The instruction at a label; none at the exit and past it.
abbrev pub fetch : List Instruction → ℕ → Option Instruction
fetch = slice_get
