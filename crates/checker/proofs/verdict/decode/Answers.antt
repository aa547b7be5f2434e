use Rattle.std.proofs.Common.{◌≡◌, ◌+◌, ◌<◌, Result, Ok, Err, IsOk, OnOk, [], ◌∷◌, ◌++◌, length, sym, ap, ◌∙◌, subst, arith, length-append}
use Rattle.std.specs.Result.{result_err}
use Rattle.std.proofs.lemmas.Bool.{true≢false}
use Rattle.job.specs.Views.{sizes}
use Rattle.checker.specs.RegionList.{LabelsWithin}
use Rattle.checker.specs.Verdict.{decoded_at, instruction_fault, code_below}
use Rattle.checker.proofs.DecodeFacts.{code_none, code_more}
use Rattle.checker.proofs.Ends.{decoded_labels_within}
use Rattle.checker.proofs.FirstFacts.{first_none, first_more, first_handed_up}
use Rattle.checker.proofs.verdict.decode.Goals as goal

on_ok : {T E P : Type 0} → (r : Result T E) → IsOk r → OnOk r P → P
on_ok (Ok _) ok there = there
on_ok (Err _) ok there = absurd (true≢false (sym ok))

pub loop-label-init : goal.loop-label-init
loop-label-init c = (first_none _, c.empty-program.ensures.has_no_instructions ∙ sym (code_none _ _), ap length c.empty-program.ensures.has_no_instructions)

pub loop-label-preserved : goal.loop-label-preserved
loop-label-preserved c =
    let job = c.args.job.now in
    let bytes = job.bytes.now in
    let s = sizes job in
    let n = c.loop-label.label in
    let before = c.loop-label.program in
    let i = c.in_ok-instruction.instruction in
    let read : decoded_at bytes s n ≡ Ok i = sym c.instruction.ensures.instruction_is_what_the_record_says ∙ c.in_ok-instruction.was in
    let few : length before < 128 = omega (arith, c.loop-label.invariant.2, c.exit-label-end.ensures.is_the_number_of_instructions, c.requires) in
    let added : c.add.new.self ≡ before ++ (i ∷ []) =
    on_ok c.add.result (c.add.ensures.ok_exactly_below_128.1 few) c.add.ensures.added_at_the_end in (
      first_more (instruction_fault bytes s) n c.loop-label.invariant.0 (ap result_err read),
      added ∙ ap (λ is. is ++ (i ∷ [])) c.loop-label.invariant.1 ∙ sym (code_more bytes s n i read),
      ap length added ∙ length-append before (i ∷ []) ∙ ap (λ k. k + 1) c.loop-label.invariant.2,
    )

pub returns-in_err-instruction-clause-answers_the_first_fault : goal.returns-in_err-instruction-clause-answers_the_first_fault
returns-in_err-instruction-clause-answers_the_first_fault c =
    let job = c.args.job.now in
    first_handed_up (instruction_fault job.bytes.now (sizes job)) c.loop-label.label (sizes job).instructions c.in_err-instruction.field-0.0
    c.instruction.result c.from_residual.result c.loop-label.invariant.0 (ap result_err c.instruction.ensures.instruction_is_what_the_record_says)
    c.in_err-instruction.was c.from_residual.ensures.1 (omega (arith, c.loop-label-test.true, c.exit-label-end.ensures.is_the_number_of_instructions))

pub returns-clause-labels_are_within : goal.returns-clause-labels_are_within
returns-clause-labels_are_within c =
    let bytes = c.args.job.now.bytes.now in
    let s = sizes c.args.job.now in
    let all : c.loop-label.label ≡ s.instructions =
    omega (arith, c.loop-label-test.false, c.exit-label-end.ensures.is_the_number_of_instructions, c.loop-label.auto) in
    let is : c.loop-label.program ≡ code_below bytes s s.instructions = c.loop-label.invariant.1 ∙ ap (code_below bytes s) all in
    let long : length (code_below bytes s s.instructions) ≡ s.instructions = ap length (sym is) ∙ c.loop-label.invariant.2 ∙ all in
    subst LabelsWithin (sym is) (decoded_labels_within bytes s long c.requires)
