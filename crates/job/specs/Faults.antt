-- The faults of a job's bytes: of the reader's the byte place, of the records' number and label. Assumes nothing.
use Rattle.std.specs.Prelude.{ℕ, if◌then◌else◌, Bool, false, ℤ, pos, negsuc, Some, None, Ok, Err, Option, Result, ◌==◌, nat_le, nat_lt}
use Rattle.job.specs.declared.fault.ReadFault.{ReadFault}
use Rattle.job.specs.declared.fault.ReadFault.TheVariants.{TooShort, WrongLength, NotBelow, NoOperation}
use Rattle.job.specs.declared.fault.RecordFault.{RecordFault}
use Rattle.job.specs.declared.field.Field.{Field}
use Rattle.job.specs.declared.field.Field.TheVariants.{Opening, Instructions, Places, Length, Instruction, Claim}

-- Whether a signed number is from 0 to below a limit.
abbrev pub is_below : ℕ → ℤ → Bool
is_below limit (pos n) = nat_lt n limit
is_below limit (negsuc n) = false

-- The byte place of what the reader finds; of a wrong length, of the first byte that is missing or too much.
abbrev pub read_place : ReadFault → ℕ
read_place (TooShort place _ _) = place
read_place (WrongLength found right) = if nat_le found right then found else right
read_place (NotBelow place _ _) = place
read_place (NoOperation place _) = place

-- The number and the label that mount answers.
abbrev pub field_number : Field → ℕ
field_number Opening = 4
field_number Instructions = 5
field_number Places = 6
field_number Length = 7
field_number (Instruction _ _) = 8
field_number (Claim _ _) = 9

abbrev pub field_label : Field → ℕ
field_label (Instruction label _) = label
field_label (Claim label _) = label
field_label _ = 0

abbrev pub record_number : RecordFault → ℕ
record_number fault = field_number fault.field

abbrev pub record_label : RecordFault → ℕ
record_label fault = field_label fault.field

-- A record's check answers 0, or the fault's number.
abbrev pub record_answer : Result (Unit {0}) RecordFault → ℕ
record_answer (Ok _) = 0
record_answer (Err fault) = record_number fault

-- What is found wrong with a number at a place, unless it is from 0 to below a limit.
abbrev pub not_below : ℕ → ℤ → ℕ → Option ReadFault
not_below place found limit =
    if is_below limit found then None else Some (NotBelow place found limit)

abbrev pub wrong_length : ℕ → ℕ → Option ReadFault
wrong_length found right = if found == right then None else Some (WrongLength found right)

-- What the reader finds is handed up whole, with the field in which it was found.
abbrev pub handed_up : Field → Option ReadFault → Option RecordFault
handed_up field None = None
handed_up field (Some fault) = Some (record { field = field; fault = fault })
