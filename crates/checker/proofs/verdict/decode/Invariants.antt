use Rattle.std.proofs.Common.{◌≡◌, length, None}
use Rattle.job.specs.First.{first_below}
use Rattle.job.specs.Views.{sizes}
use Rattle.checker.specs.Verdict.{instruction_fault, code_below}
use Rattle.checker.proofs.verdict.decode.Given as goal

abbrev pub invariant-loop-label : goal.invariant-loop-label
invariant-loop-label l =
    let bytes = l.job.bytes.now in
    let s = sizes l.job in
    (first_below (instruction_fault bytes s) l.label ≡ None) × (l.program ≡ code_below bytes s l.label) × (length l.program ≡ l.label)
