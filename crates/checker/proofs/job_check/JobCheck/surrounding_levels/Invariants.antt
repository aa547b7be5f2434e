use Rattle.std.proofs.Common.{◌≡◌, length}
use Rattle.checker.specs.Surrounding.{SurroundingBelow}
use Rattle.checker.specs.Views.{job_of}
use Rattle.checker.proofs.job_check.JobCheck.surrounding_levels.Given as goal

abbrev pub invariant-loop-label : goal.invariant-loop-label
invariant-loop-label g l = SurroundingBelow (job_of l.self) l.label l.levels × (length l.levels ≡ 128)
