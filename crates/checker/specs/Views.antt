-- What the checks of a job and of a label stand on, in the rules' terms. Assumes nothing.
use Rattle.std.specs.Prelude.{ℕ, List}
use Rattle.job.specs.Records.{Claimed}
use Rattle.job.specs.Views.{sizes, claim_says}
use Rattle.job.specs.declared.claim.Place.{Place}
use Rattle.lattice.specs.Order.{Order}
use Rattle.checker.specs.declared.job_check.JobCheck.{JobCheck}
use Rattle.checker.specs.declared.label_check.LabelCheck.{LabelCheck}
use Rattle.checker.specs.Leaving.{leaves}
use Rattle.checker.specs.Verdict.{claimed_job}
use Rattle.checker.specs.Rules.{ProgramWithClaims}

abbrev pub levels_of : {L : Type 0} → JobCheck L → List ℕ
levels_of check = check.levels.now

abbrev pub job_of : {L : Type 0} → JobCheck L → ProgramWithClaims
job_of check = claimed_job check.program.now check.job.bytes.now (sizes check.job)

-- The order over which a label is checked, what it claims, and what leaves it.
abbrev pub order_of : {L : Type 0} → (L → Order) → LabelCheck L → Order
order_of order label_check = order label_check.check.now.lattice.now

abbrev pub claimed_of : {L : Type 0} → LabelCheck L → Claimed
claimed_of label_check = claim_says label_check.check.now.job label_check.claim

abbrev pub leaves_of : {L : Type 0} → (L → Order) → LabelCheck L → List Place
leaves_of order label_check =
    leaves (order_of order label_check) (levels_of label_check.check.now)
    (claimed_of label_check) label_check.instruction
