-- How many places an instruction pushes, and what becomes of one that it keeps. Assumes nothing.
use Rattle.std.specs.Prelude.{ℕ}
use Rattle.lattice.specs.Order.{Order}
use Rattle.push.specs.declared.instruction.Instruction.{Instruction}
use Rattle.push.specs.declared.instruction.Instruction.TheVariants.{Store, Goto, GotoF, Swap, Drop}
use Rattle.job.specs.declared.claim.Place.{Place}
use Rattle.job.specs.Records.{Claimed}
use Rattle.checker.specs.Leaving.{level_at, raised_to}

abbrev pub pushed_by : Instruction → ℕ
pushed_by (Store _) = 0
pushed_by (Goto _) = 0
pushed_by (GotoF _ _) = 0
pushed_by Swap = 2
pushed_by Drop = 0
pushed_by _ = 1

abbrev pub kept : Order → Claimed → Instruction → Place → Place
kept o c (GotoF _ _) p = raised_to o (level_at c.stack 0) p
kept o c _ p = p
