-- The line of what mount answers to a job, with the cause of a refusal. Assumes nothing.
use Rattle.std.specs.Prelude.{ℕ, List, [], ◌++◌, codes, decimal}
use Rattle.lattice.specs.Order.{Order}
use Rattle.job.specs.declared.field.InstructionField.{InstructionField}
use Rattle.job.specs.declared.field.InstructionField.TheVariants.{Operation, Junction, Operand}
use Rattle.job.specs.declared.field.ClaimField.{ClaimField}
use Rattle.job.specs.declared.field.ClaimField.TheVariants.{Mark, Depth, Surrounding, Kind, Level}
use Rattle.checker.specs.Faults.{Cause, nothing, byte, instruction_field, claim_field, variable, successor, exit, region, Answered}
use Rattle.checker.specs.Verdict.{verdict}
use Rattle.report.specs.Input.{has_levels, each, level, job_behind_levels}
use Rattle.report.specs.Report.{input_text}

abbrev pub instruction_field_text : InstructionField → List ℕ
instruction_field_text Operation = codes " operation"
instruction_field_text Junction = codes " junction"
instruction_field_text Operand = codes " operand"

abbrev pub claim_field_text : ClaimField → List ℕ
claim_field_text Mark = codes " mark"
claim_field_text Depth = codes " depth"
claim_field_text Surrounding = codes " surrounding"
claim_field_text (Kind stack_place) = codes " kind " ++ decimal stack_place
claim_field_text (Level stack_place) = codes " level " ++ decimal stack_place

abbrev pub place_text : ℕ → List ℕ
place_text place = codes " place " ++ decimal place

abbrev pub cause_text : Cause → List ℕ
cause_text nothing = []
cause_text (byte place) = place_text place
cause_text (instruction_field field place) = place_text place ++ instruction_field_text field
cause_text (claim_field field place) = place_text place ++ claim_field_text field
cause_text (variable v) = codes " variable " ++ decimal v
cause_text (successor label) = codes " successor " ++ decimal label
cause_text (exit label) = codes " exit " ++ decimal label
cause_text (region label) = codes " region " ++ decimal label

-- The line of a number, a label and a cause.
abbrev pub answer_line : Answered → List ℕ
answer_line answer =
    decimal answer.0
    ++ (codes " " ++ (decimal answer.1 ++ (cause_text answer.2 ++ codes "\n")))

-- The line of the verdict on an input's job over a lattice. A code that is no level of it is taken as it is; mount
-- never meets one, since grade refuses it.
abbrev pub verdict_line : Order → List ℕ → List ℕ
verdict_line o bytes = answer_line (verdict o (each (level bytes)) (job_behind_levels bytes))

abbrev pub cause_report : List ℕ → List ℕ
cause_report bytes = input_text has_levels verdict_line bytes
