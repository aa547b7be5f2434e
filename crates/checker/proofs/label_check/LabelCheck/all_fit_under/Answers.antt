use Rattle.std.proofs.Common.{◌≡◌, sym, ap, ap₂, refl, ◌∙◌, arith}
use Rattle.job.specs.declared.claim.Place.TheVariants.{IntegerAt}
use Rattle.job.specs.Views.{claim_says}
use Rattle.job.proofs.Stacks.{depth_said}
use Rattle.checker.specs.Leaving.{fits_under}
use Rattle.checker.specs.Views.{order_of, leaves_of}
use Rattle.checker.proofs.LeavingFacts.{lengths_differ, one_more_fits, one_does_not, all_fit}
use Rattle.checker.proofs.label_check.LabelCheck.all_fit_under.Goals as goal

pub returns-then-depth-from : goal.returns-then-depth-from
returns-then-depth-from g c =
    let next = c.args.next in
    let o = order_of g.L.Lattice.order c.args.self.now in
    let job = c.args.self.now.check.now.job in
    let left = leaves_of g.L.Lattice.order c.args.self.now in
    let deep = depth_said job next in
    sym (lengths_differ o left (claim_says job next).stack
    (λ e. c.if-depth-from.true (omega (arith, c.depth-depth.ensures.value, e, deep, c.from.ensures))))

pub loop-place-init : goal.loop-place-init
loop-place-init g c = refl

pub returns-then-not-fits_under : goal.returns-then-not-fits_under
returns-then-not-fits_under g c =
    let check = c.args.self.now in
    let o = order_of g.L.Lattice.order check in
    let job = check.check.now.job in
    let deep = depth_said job c.args.next in
    sym (one_does_not o (leaves_of g.L.Lattice.order check) (claim_says job c.args.next).stack (IntegerAt 0) c.loop-place.place
    (omega (arith, c.loop-place-test.true, c.depth-depth.ensures.value))
    (omega (arith, c.loop-place-test.true, deep, c.from.ensures, c.if-depth-from.false)) c.loop-place.invariant
    (ap₂ (fits_under o) (sym c.place-left.ensures) (sym c.stack_place.ensures.place_is_what_the_claim_says) ∙ sym c.fits_under.ensures
    ∙ c.if-not-fits_under.true))

pub loop-place-preserved : goal.loop-place-preserved
loop-place-preserved g c =
    let check = c.args.self.now in
    let o = order_of g.L.Lattice.order check in
    let job = check.check.now.job in
    let deep = depth_said job c.args.next in
    one_more_fits o (leaves_of g.L.Lattice.order check) (claim_says job c.args.next).stack (IntegerAt 0) c.loop-place.place
    (omega (arith, c.loop-place-test.true, c.depth-depth.ensures.value))
    (omega (arith, c.loop-place-test.true, deep, c.from.ensures, c.if-depth-from.false)) c.loop-place.invariant
    (ap₂ (fits_under o) (sym c.place-left.ensures) (sym c.stack_place.ensures.place_is_what_the_claim_says) ∙ sym c.fits_under.ensures
    ∙ c.if-not-fits_under.false)

pub returns : goal.returns
returns g c =
    let check = c.args.self.now in
    let o = order_of g.L.Lattice.order check in
    let job = check.check.now.job in
    let deep = depth_said job c.args.next in
    sym (all_fit o (leaves_of g.L.Lattice.order check) (claim_says job c.args.next).stack (IntegerAt 0) c.loop-place.place
    (omega (arith, c.loop-place-test.false, c.depth-depth.ensures.value))
    (omega (arith, c.loop-place-test.false, deep, c.from.ensures, c.if-depth-from.false)) c.loop-place.invariant)
