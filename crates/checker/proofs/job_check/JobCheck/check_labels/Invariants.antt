use Rattle.std.proofs.Common.{◌≡◌, None}
use Rattle.job.specs.First.{first_below}
use Rattle.checker.specs.Rules.{label_rule}
use Rattle.checker.specs.Views.{levels_of, job_of}
use Rattle.checker.proofs.job_check.JobCheck.check_labels.Given as goal

abbrev pub invariant-loop-label : goal.invariant-loop-label
invariant-loop-label g l = first_below (label_rule (g.L.Lattice.order l.self.lattice.now) (levels_of l.self) (job_of l.self)) l.label ≡ None
