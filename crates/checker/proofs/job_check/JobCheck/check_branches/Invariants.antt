use Rattle.std.proofs.Common.{◌≡◌, None}
use Rattle.job.specs.First.{first_below}
use Rattle.checker.specs.Verdict.{branch_rule}
use Rattle.checker.specs.Views.{job_of}
use Rattle.checker.proofs.job_check.JobCheck.check_branches.Given as goal

abbrev pub invariant-loop-label : goal.invariant-loop-label
invariant-loop-label g l = first_below (branch_rule (g.L.Lattice.order l.self.lattice.now) (job_of l.self)) l.label ≡ None
