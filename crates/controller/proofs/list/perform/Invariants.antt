use Rattle.std.proofs.Common.{◌≡◌, ◌++◌, map, drop, vec_items}
use Rattle.controller.specs.Lists.{transcript_from}
use Rattle.controller.specs.Views.{call_of, answer_of, state_of}
use Rattle.controller.proofs.list.perform.Given as goal

-- The answers so far and those of the calls that are left are those of the whole list.
abbrev pub invariant-loop-position : goal.invariant-loop-position
invariant-loop-position g l =
    let order = g.L.Lattice.order in
    let calls = map call_of l.calls in
    map answer_of (vec_items l.answers) ++ transcript_from l.position (state_of order l.phase) (drop l.position calls)
    ≡ transcript_from 0 (state_of order l.initial.phase) calls
