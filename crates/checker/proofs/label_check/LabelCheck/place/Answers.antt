use Rattle.std.proofs.Common.{◌+◌, ◌-◌, sym, ap, ◌∙◌}
use Rattle.std.specs.Prelude.{slice_index_or}
use Rattle.job.specs.declared.claim.Claim.{Claim}
use Rattle.job.specs.declared.claim.Place.{Place}
use Rattle.job.specs.Views.{claim_says}
use Rattle.job.specs.declared.claim.Place.TheVariants.{IntegerAt}
use Rattle.checker.specs.Keeping.{kept}
use Rattle.checker.specs.Views.{levels_of, order_of, claimed_of}
use Rattle.checker.proofs.LeavingFacts.{kept_from}
use Rattle.checker.proofs.label_check.LabelCheck.place.Goals as goal

pub returns-else-place-pushed : goal.returns-else-place-pushed
returns-else-place-pushed g c =
    let check = c.args.self.now in
    let o = order_of g.L.Lattice.order check in
    let claimed = claimed_of check in
    let job = check.check.now.job in
    let at : Claim → Place = λ k. slice_index_or (claim_says job k).stack (c.args.place + c.args.popped - c.args.pushed) (IntegerAt 0) in
    c.kept.ensures ∙ ap (kept o claimed check.instruction) (c.stack_place.ensures.place_is_what_the_claim_says ∙ ap at c.requires.own_claim)
    ∙ sym (kept_from o (levels_of check.check.now) claimed check.instruction claimed.stack (IntegerAt 0) c.args.pushed c.args.popped c.args.place
    c.requires.pushed c.requires.popped c.if-place-pushed.false c.requires.within)
