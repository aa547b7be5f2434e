use Rattle.std.proofs.Common.{◌≡◌, ◌+◌, ◌-◌, ◌<◌, ◌≤◌, map, length, drop, Some, sym, ap, ◌∙◌, length-drop, arith}
use Rattle.std.proofs.lemmas.List.{drop_all, length-map}
use Rattle.job.specs.declared.claim.Place.TheVariants.{IntegerAt}
use Rattle.job.specs.Records.{kind}
use Rattle.job.specs.Views.{claim_says}
use Rattle.push.proofs.StackKindsFacts.{was_room, was_full}
use Rattle.job.proofs.Stacks.{depth_said, kinds_within, kinds_past, kinds_from}
use Rattle.job.proofs.reader.Job.stack_kinds.Goals as goal

pub loop-place-init : goal.loop-place-init
loop-place-init c =
    let stack = (claim_says c.args.self.now c.args.claim).stack in
    let deep = depth_said c.args.self.now c.args.claim in
    let none = c.empty-kinds.ensures.has_no_places in
    record {
      so_far = none ∙ sym (ap (map kind) (drop_all c.from-place.result stack (omega (arith, deep, c.from-place.ensures))));
      room = omega (arith, ap length none);
    }

pub loop-place-preserved : goal.loop-place-preserved
loop-place-preserved c =
    let stack = (claim_says c.args.self.now c.args.claim).stack in
    let deep = depth_said c.args.self.now c.args.claim in
    let place = c.loop-place.place - 1 in
    let more = was_room c.kind.result c.loop-place.kinds c.in_ok-kinds.kinds (sym c.in_ok-kinds.was ∙ c.push.ensures.is_one_more_on_top) in
    let within : place < length stack = omega (arith, deep, c.loop-place.auto.place, c.from-place.ensures, c.loop-place-test.true) in
    let next : place + 1 ≡ c.loop-place.place = omega (arith, c.loop-place-test.true) in
    let lower = kinds_from stack place (IntegerAt 0) within in
    record {
      so_far = search (more.0, c.kind.ensures.is_its_kind, c.stack_place.ensures.place_is_what_the_claim_says, c.loop-place.invariant.so_far, next, lower);
      room = omega (arith, ap length more.0, more.1);
    }

pub returns : goal.returns
returns c =
    let stack = (claim_says c.args.self.now c.args.claim).stack in
    let none_left : c.loop-place.place ≡ 0 = omega (arith, c.loop-place-test.false) in
    let all : c.loop-place.kinds ≡ map kind stack = c.loop-place.invariant.so_far ∙ ap (λ p. map kind (drop p stack)) none_left in
    let few : length stack ≤ 8 = omega (arith, ap length all, length-map stack kind, c.loop-place.invariant.room) in
    record { kinds_are_what_the_claim_says = ap Some all ∙ sym (kinds_within stack few) }

pub returns-in_err-kinds : goal.returns-in_err-kinds
returns-in_err-kinds c =
    let stack = (claim_says c.args.self.now c.args.claim).stack in
    let deep = depth_said c.args.self.now c.args.claim in
    let full = was_full c.kind.result c.loop-place.kinds (sym c.in_err-kinds.was ∙ c.push.ensures.is_one_more_on_top) in
    let so_far = ap length c.loop-place.invariant.so_far in
    let many : 8 < length stack =
    omega (
      arith,
      full,
      so_far,
      length-map (drop c.loop-place.place stack) kind,
      length-drop c.loop-place.place stack,
      c.loop-place-test.true,
    ) in
    record { kinds_are_what_the_claim_says = c.from_residual.ensures ∙ sym (kinds_past stack many) }
