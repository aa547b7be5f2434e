use Rattle.std.proofs.Common.{take}
use Rattle.checker.specs.RegionList.{IsLowest, too_low_in}
use Rattle.checker.specs.Views.{job_of}
use Rattle.checker.proofs.job_check.JobCheck.lowest_too_low.Given as goal

abbrev pub invariant-loop-label : goal.invariant-loop-label
invariant-loop-label g l = IsLowest (too_low_in (g.L.Lattice.order l.self.lattice.now) (job_of l.self) l.guard (take l.label-index l.label-items)) l.lowest
