use Rattle.std.proofs.Common.{◌≡◌, None}
use Rattle.job.specs.First.{first_below}
use Rattle.job.specs.Views.{sizes}
use Rattle.checker.specs.Verdict.{claim_record_fault}
use Rattle.checker.proofs.verdict.check_records.Given as goal

abbrev pub invariant-loop-label : goal.invariant-loop-label
invariant-loop-label g l = first_below (claim_record_fault (g.L.Lattice.order l.lattice) l.job.bytes.now (sizes l.job)) l.label ≡ None
