use Rattle.std.proofs.Common.{◌≡◌, length, sym, refl, ap, ◌∙◌, arith}
use Rattle.std.proofs.lemmas.List.Sums.{count_by-le-length}
use Rattle.conformance.specs.Table.{after_case, cases, left_over}
use Rattle.conformance.specs.Findings.{agrees, findings_of}
use Rattle.conformance.specs.Views.{answer_to, findings_in, case_bytes}
use Rattle.conformance.proofs.Walk.{was_some, was_none, after_shorter, cases_none, left_more, left_none}
use Rattle.conformance.proofs.Turn.{onward, turn, room, onward_first, onward_none}
use Rattle.conformance.proofs.tally.Tally.count.Goals as goal

pub note-requires : goal.note-requires
note-requires c =
    let told = room (answer_to c.args.question) (findings_in c.loop-case.tally) c.args.table.now c.loop-case.rest.now (omega arith) c.loop-case.invariant.0 in
    record { room_for_one_more_run = told.0; room_for_one_more_agreed = told.1 }

pub loop-case-smaller : goal.loop-case-smaller
loop-case-smaller c =
    let was = was_some c.loop-case.rest.now (case_bytes c.in-Some.case) c.in-Some.after.now c.in-Some.ensures.first_case_and_the_rest in
    let shorter = after_shorter c.loop-case.rest.now was.0 in
    let same : length c.in-Some.after.now ≡ length (after_case c.loop-case.rest.now) = ap length was.2 in
    omega arith

pub loop-case-init : goal.loop-case-init
loop-case-init c = (onward_first (answer_to c.args.question) _, refl)

pub loop-case-preserved : goal.loop-case-preserved
loop-case-preserved c =
    let asked = answer_to c.args.question in
    let trial = case_bytes c.in-Some.case in
    let was = was_some c.loop-case.rest.now trial c.in-Some.after.now c.in-Some.ensures.first_case_and_the_rest in
    let left = ap left_over was.2 ∙ sym (left_more c.loop-case.rest.now was.0) in
    let counted = turn asked (findings_in c.loop-case.tally) (findings_in c.note.new.self) _ c.loop-case.rest.now c.in-Some.after.now trial in
    (counted c.in-Some.ensures.first_case_and_the_rest c.in_ok-note.ensures c.loop-case.invariant.0, left ∙ c.loop-case.invariant.1)

pub returns : goal.returns
returns c =
    let asked = answer_to c.args.question in
    let so_far = findings_in c.loop-case.tally in
    let rest = c.loop-case.rest.now in
    let none = was_none rest c.in_default.ensures.first_case_and_the_rest in
    let nil = sym (cases_none rest none) in
    let found : so_far ≡ findings_of asked (cases c.args.table.now) = sym (onward_none asked so_far) ∙ ap (onward asked so_far) nil ∙ c.loop-case.invariant.0 in
    let few = count_by-le-length (agrees asked) (cases c.args.table.now) in
    record {
      all_cases_are_run = found;
      left_is_past_the_cases = ap length (sym (left_none rest none) ∙ c.loop-case.invariant.1);
      agreed_were_run = omega (arith, few, ap (λ f. f.agreed) found, ap (λ f. f.run) found);
    }
