use Rattle.job.specs.declared.claim.Place.TheVariants.{IntegerAt}
use Rattle.job.specs.Views.{claim_says}
use Rattle.checker.specs.Views.{order_of, leaves_of}
use Rattle.checker.proofs.LeavingFacts.{FitsAbove}
use Rattle.checker.proofs.label_check.LabelCheck.all_fit_under.Given as goal

abbrev pub invariant-loop-place : goal.invariant-loop-place
invariant-loop-place g l =
    let o = g.L.Lattice.order in
    FitsAbove (order_of o l.self) (leaves_of o l.self) (claim_says l.self.check.now.job l.next).stack (IntegerAt 0) l.place
