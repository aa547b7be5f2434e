use Rattle.std.proofs.Common.{map, sym, subst}
use Rattle.std.proofs.lemmas.Result.{IfOk-weaker}
use Rattle.controller.specs.Calls.{AnswersOf}
use Rattle.controller.specs.Views.{call_of}
use Rattle.controller.proofs.Kept.{no_stack_faults}
use Rattle.controller.proofs.CallRules.{answers_of_transcript, transcript_follows_the_rules}
use Rattle.controller.proofs.Pairs.{closed_values_stay_closed}
use Rattle.controller.proofs.list.transcript.Goals as goal

pub returns : goal.returns
returns g c =
    let order = g.L.Lattice.order c.args.lattice in
    let laws = g.met.L.Lattice.lawful c.args.lattice in
    let calls = map call_of c.args.calls.now in
    record {
      answers_are_the_transcript = c.perform.ensures;
      answers_are_by_the_rules =
          IfOk-weaker c.perform.result _ _ (λ answers e. subst (AnswersOf order calls) (sym e) (answers_of_transcript order laws calls)) c.perform.ensures;
      transcript_follows_the_rules = transcript_follows_the_rules order laws;
      no_stack_faults = no_stack_faults order laws;
      closed_values_stay_closed = closed_values_stay_closed order laws calls;
    }
