-- What mount answers for each fault: number, label and cause. Assumes nothing.
use Rattle.std.specs.Prelude.{ℕ, Some, None, Option, Result}
use Rattle.std.specs.Result.{result_err}
use Rattle.job.specs.declared.field.InstructionField.{InstructionField}
use Rattle.job.specs.declared.field.ClaimField.{ClaimField}
use Rattle.job.specs.declared.field.Field.{Field}
use Rattle.job.specs.declared.field.Field.TheVariants.{Instruction, Claim}
use Rattle.job.specs.Faults.{read_place, record_number, record_label}
use Rattle.checker.specs.declared.fault.Rule.{Rule}
use Rattle.checker.specs.declared.fault.Rule.TheVariants.{Entry, Stack, Store, Successor, RegionExit, RegionLevel}
use Rattle.checker.specs.declared.fault.MountFault.{MountFault}
use Rattle.checker.specs.declared.fault.MountFault.TheVariants.{Record, Claims}

-- What a fault names beside its number and label: a byte place, a field and its byte place, a variable, or a label.
pub data Cause : Type 0 where
  nothing : Cause
  byte : ℕ → Cause
  instruction_field : InstructionField → ℕ → Cause
  claim_field : ClaimField → ℕ → Cause
  variable : ℕ → Cause
  successor : ℕ → Cause
  exit : ℕ → Cause
  region : ℕ → Cause

abbrev pub Answered : Type 0
Answered = ℕ × ℕ × Cause

-- The faults of the bytes. Each has a byte place, and in a record a field.
abbrev pub field_cause : Field → ℕ → Cause
field_cause (Instruction _ field) place = instruction_field field place
field_cause (Claim _ field) place = claim_field field place
field_cause _ place = byte place

-- The rules of claims.
abbrev pub rule_number : Rule → ℕ
rule_number Entry = 10
rule_number (Stack _) = 11
rule_number (Store _ _) = 12
rule_number (Successor _ _) = 13
rule_number (RegionExit _ _) = 14
rule_number (RegionLevel _ _) = 15

abbrev pub rule_label : Rule → ℕ
rule_label Entry = 0
rule_label (Stack label) = label
rule_label (Store label _) = label
rule_label (Successor label _) = label
rule_label (RegionExit label _) = label
rule_label (RegionLevel label _) = label

abbrev pub rule_cause : Rule → Cause
rule_cause Entry = nothing
rule_cause (Stack _) = nothing
rule_cause (Store _ v) = variable v
rule_cause (Successor _ next) = successor next
rule_cause (RegionExit _ last) = exit last
rule_cause (RegionLevel _ inside) = region inside

abbrev pub fault_answer : MountFault → Answered
fault_answer (Record r) =
    (record_number r, record_label r, field_cause r.field (read_place r.fault))
fault_answer (Claims rule) = (rule_number rule, rule_label rule, rule_cause rule)

-- A job without a fault is accepted: number and label are 0, and there is no cause.
abbrev pub accepted : Answered
accepted = (0, 0, nothing)

abbrev pub answer_to : Option MountFault → Answered
answer_to None = accepted
answer_to (Some fault) = fault_answer fault

abbrev pub mount_answer : {X : Type 0} → Result X MountFault → Answered
mount_answer mounted = answer_to (result_err mounted)

abbrev pub number_and_label : Answered → ℕ × ℕ
number_and_label answer = (answer.0, answer.1)
