use Rattle.std.proofs.Common.{map, vec_items, sym, ap, ◌∙◌, subst}
use Rattle.std.proofs.lemmas.Result.{IfOk-weaker}
use Rattle.controller.specs.Calls.{AnswersOf}
use Rattle.controller.specs.Theorem.{stack_faults, ShownTheSameIfAlike}
use Rattle.controller.specs.Lists.{transcript}
use Rattle.controller.specs.Views.{call_of, answer_of}
use Rattle.controller.proofs.Kept.{no_stack_faults}
use Rattle.controller.proofs.CallRules.{answers_of_transcript}
use Rattle.controller.proofs.Pairs.{closed_values_stay_closed}
use Rattle.controller.proofs.list.two_transcripts.Goals as goal

pub returns : goal.returns
returns g c =
    let o = g.L.Lattice.order c.args.lattice.now in
    let laws = g.met.L.Lattice.lawful c.args.lattice.now in
    let calls = map call_of c.args.calls.now in
    let others = map call_of c.args.others.now in
    let made = c.perform_both.ensures in
    record {
      answers_are_the_transcripts = made;
      answers_are_by_the_rules =
          IfOk-weaker c.perform_both.result _ _
          (λ both e. (
            subst (AnswersOf o calls) (sym e.0) (answers_of_transcript o laws calls),
            subst (AnswersOf o others) (sym e.1) (answers_of_transcript o laws others),
          ))
          made;
      no_stack_faults =
          IfOk-weaker c.perform_both.result _ _
          (λ both e. (ap stack_faults e.0 ∙ no_stack_faults o laws calls, ap stack_faults e.1 ∙ no_stack_faults o laws others))
          made;
      closed_values_stay_closed =
          IfOk-weaker c.perform_both.result _ _
          (λ both e observer.
          subst (λ left. ShownTheSameIfAlike o calls others left (map answer_of (vec_items both.1)) observer) (sym e.0)
          (subst (λ right. ShownTheSameIfAlike o calls others (transcript o calls) right observer) (sym e.1)
          (closed_values_stay_closed o laws calls observer others)))
          made;
    }
