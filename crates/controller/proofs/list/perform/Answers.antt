use Rattle.std.proofs.Common.{map, vec_items, ap, ◌∙◌}
use Rattle.controller.specs.State.{SetupState}
use Rattle.controller.specs.Lists.{in_setup, transcript_from}
use Rattle.controller.specs.Views.{call_of, setup_of}
use Rattle.controller.proofs.ListFacts.{answered_turn, disallowed_turn, last_turn}
use Rattle.controller.proofs.list.perform.Goals as goal

pub loop-position-preserved : goal.loop-position-preserved
loop-position-preserved g c =
    let before = c.loop-position in
    answered_turn g.L.Lattice.order c.args.calls.now before.position before.phase (vec_items before.answers) _ before.invariant _ c.loop-position-test.true
    c.in_ok-next.field-0 c.in_ok-next.ensures c.in-Some.next c.in-Some.answer (vec_items c.push-in-loop-position.new.self) c.in-Some.is
    c.in_ok-push-2.ensures.items

pub returns-in_default : goal.returns-in_default
returns-in_default g c =
    let order = g.L.Lattice.order in
    let calls = map call_of c.args.calls.now in
    let before = c.loop-position in
    disallowed_turn order c.args.calls.now before.position before.phase (vec_items before.answers) _ before.invariant _ c.loop-position-test.true
    c.in_ok-next.field-0 c.in_ok-next.ensures (vec_items c.push.new.self) c.in_default.is c.in_ok-push.ensures.items
    ∙ ap (λ (s : SetupState _). transcript_from 0 (in_setup (setup_of order s)) calls) c.new.ensures.begins_with_highest_levels

pub returns : goal.returns
returns g c =
    let order = g.L.Lattice.order in
    let calls = map call_of c.args.calls.now in
    let before = c.loop-position in
    last_turn order c.args.calls.now before.position before.phase (vec_items before.answers) _ before.invariant c.loop-position-test.false
    ∙ ap (λ (s : SetupState _). transcript_from 0 (in_setup (setup_of order s)) calls) c.new.ensures.begins_with_highest_levels
