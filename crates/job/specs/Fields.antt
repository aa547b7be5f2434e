-- The fields of the records, and what each has to be. Assumes nothing.
use Rattle.std.specs.Prelude.{◌≡◌, ℕ, ◌+◌, ◌*◌, ◌<◌, Bool, false, if◌then◌else◌, not, ◌&&◌, ◌||◌, IsTrue, List, ℤ, ◌==◌, nat_le, nat_lt, slice_index}
use Rattle.job.specs.declared.field.InstructionField.{InstructionField}
use Rattle.job.specs.declared.field.InstructionField.TheVariants.{Operation, Junction, Operand}
use Rattle.job.specs.declared.field.ClaimField.{ClaimField}
use Rattle.job.specs.declared.field.ClaimField.TheVariants.{Mark, Depth, Surrounding, Kind, Level}
use Rattle.job.specs.Faults.{is_below}

-- How many bytes of its record stand before a field.
abbrev pub instruction_offset : InstructionField → ℕ
instruction_offset Operation = 0
instruction_offset Junction = 1
instruction_offset Operand = 2

abbrev pub claim_offset : ClaimField → ℕ
claim_offset Mark = 0
claim_offset Depth = 1
claim_offset Surrounding = 2
claim_offset (Kind i) = 4 + 3 * i
claim_offset (Level i) = 5 + 3 * i

-- What an instruction record holds.
pub record InstructionFields : Type 0 where
  pub operation : ℕ
  pub junction : ℕ
  pub operand : ℤ

-- The junction bytes and the operands of an operation are from 0 to below a limit; operation 3 takes any operand.
abbrev pub junction_limit : ℕ → ℕ → ℕ
junction_limit exit operation = if operation == 10 then exit + 1 else 1

abbrev pub operand_limit : ℕ → ℕ → ℕ
operand_limit exit operation =
    if operation == 1 || operation == 2 then 32
    else if operation == 9 || operation == 10 then exit + 1
    else 1

-- Whether a field of an instruction record is like its description, where labels go up to the exit.
abbrev pub like_instruction : ℕ → InstructionFields → InstructionField → Bool
like_instruction exit r Operation = nat_le 1 r.operation && nat_le r.operation 13
like_instruction exit r Junction = nat_lt r.junction (junction_limit exit r.operation)
like_instruction exit r Operand =
    r.operation == 3 || is_below (operand_limit exit r.operation) r.operand

-- A number of two bytes, lower byte first.
abbrev pub two : List ℕ → ℕ → ℕ
two bytes at = slice_index bytes at + slice_index bytes (at + 1) * 256

-- The number in a field of a claim record.
abbrev pub claim_number : List ℕ → ClaimField → ℕ
claim_number bytes Mark = slice_index bytes 0
claim_number bytes Depth = slice_index bytes 1
claim_number bytes Surrounding = two bytes 2
claim_number bytes (Kind i) = slice_index bytes (4 + 3 * i)
claim_number bytes (Level i) = two bytes (5 + 3 * i)

-- Whether a stack place is one of those that are claimed: none is under mark 0, else those before the depth.
abbrev pub is_claimed : List ℕ → ℕ → Bool
is_claimed bytes i = not (slice_index bytes 0 == 0) && nat_lt i (slice_index bytes 1)

-- The number has to be below a limit, over a lattice of so many levels and with so many places.
-- Under mark 0, and in the places after the claimed ones, it has to be 0.
abbrev pub claim_limit : ℕ → ℕ → List ℕ → ClaimField → ℕ
claim_limit span places bytes Mark = 2
claim_limit span places bytes Depth = if slice_index bytes 0 == 0 then 1 else places + 1
claim_limit span places bytes Surrounding = if slice_index bytes 0 == 0 then 1 else span
claim_limit span places bytes (Kind i) = if is_claimed bytes i then 2 else 1
claim_limit span places bytes (Level i) = if is_claimed bytes i then span else 1

-- Whether a field of a claim record is like its description.
abbrev pub like_claim : ℕ → ℕ → List ℕ → ClaimField → Bool
like_claim span places bytes field =
    nat_lt (claim_number bytes field) (claim_limit span places bytes field)

-- The first field of a record, in the record's order, that is unlike its description: those before it are like theirs.
pub record FirstUnlike {F : Type 0} (offset : F → ℕ) (like : F → Bool) (field : F) : Type 0 where
  pub before : (earlier : F) → offset earlier < offset field → IsTrue (like earlier)
  pub unlike : like field ≡ false
