use Rattle.std.proofs.Common.{ℕ, Option, ap, ◌∙◌, arith}
use Rattle.job.specs.declared.fault.RecordFault.{RecordFault}
use Rattle.job.specs.Layout.{claim_place, claim_record}
use Rattle.job.specs.Records.{claim_fault}
use Rattle.job.specs.Views.{sizes}
use Rattle.checker.specs.Verdict.{claim_record_fault}
use Rattle.checker.proofs.FirstFacts.{first_handed_up}
use Rattle.checker.proofs.verdict.check_records.Goals as goal

pub returns-in_err-check_claim_record : goal.returns-in_err-check_claim_record
returns-in_err-check_claim_record g c =
    let job = c.args.job.now in
    let s = sizes job in
    let n = c.loop-label.label in
    let spanned : ℕ → Option RecordFault = λ span. claim_fault span s.places n (claim_place s n) (claim_record job.bytes.now s n) in
    let fault = claim_record_fault (g.L.Lattice.order c.args.lattice.now) job.bytes.now s in
    let found = c.check_claim_record.ensures.names_the_first_field_that_is_unlike ∙ ap spanned c.span-span.ensures in
    first_handed_up fault n s.instructions c.in_err-check_claim_record.field-0.0 c.check_claim_record.result c.from_residual.result
    c.loop-label.invariant found c.in_err-check_claim_record.was c.from_residual.ensures.1
    (omega (arith, c.loop-label-test.true, c.exit-label-end.ensures.is_the_number_of_instructions))
