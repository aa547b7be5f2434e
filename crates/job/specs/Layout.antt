-- Where the records of a job stand. Assumes nothing.
use Rattle.std.specs.Prelude.{ℕ, ◌+◌, ◌*◌, if◌then◌else◌, List, ◌∷◌, length, take, drop, pos, Ok, Err, Result, ◌==◌, nat_lt}
use Rattle.job.specs.declared.fault.ReadFault.{ReadFault}
use Rattle.job.specs.declared.fault.ReadFault.TheVariants.{TooShort, WrongLength, NotBelow}
use Rattle.job.specs.declared.fault.RecordFault.{RecordFault}
use Rattle.job.specs.declared.field.Field.{Field}
use Rattle.job.specs.declared.field.Field.TheVariants.{Opening, Instructions, Places, Length}

-- The two sizes that a job opens with: the instructions, and the stack places of each claim.
pub record Sizes : Type 0 where
  pub instructions : ℕ
  pub places : ℕ

-- How many bytes a job of such sizes has.
abbrev pub right_length : ℕ → ℕ → ℕ
right_length n d = 4 + n * (10 + 3 * d)

abbrev pub refused_for : Field → ReadFault → Result Sizes RecordFault
refused_for field fault = Err (record { field = field; fault = fault })

abbrev pub sized : ℕ → ℕ → ℕ → Result Sizes RecordFault
sized n d found =
    if nat_lt 128 n then refused_for Instructions (NotBelow 0 (pos n) 129)
    else if nat_lt 8 d then refused_for Places (NotBelow 2 (pos d) 9)
    else if found == right_length n d then Ok (record { instructions = n; places = d })
    else refused_for Length (WrongLength found (right_length n d))

-- A job is its sizes, two bytes each, then instruction records of 6 bytes and claim records of 4 + 3 × places.
abbrev pub opening : List ℕ → Result Sizes RecordFault
opening (n0 ∷ n1 ∷ d0 ∷ d1 ∷ rest) = sized (n0 + n1 * 256) (d0 + d1 * 256) (4 + length rest)
opening bytes = refused_for Opening (TooShort 0 (length bytes) 4)

-- The byte places of the records, and the records.
abbrev pub instruction_place : ℕ → ℕ
instruction_place label = 4 + 6 * label

abbrev pub instruction_record : List ℕ → ℕ → List ℕ
instruction_record bytes label = take 6 (drop (instruction_place label) bytes)

abbrev pub claim_length : Sizes → ℕ
claim_length s = 4 + 3 * s.places

abbrev pub claim_place : Sizes → ℕ → ℕ
claim_place s label = 4 + 6 * s.instructions + label * claim_length s

-- The claim record that stands at a byte place, as far as there are bytes.
abbrev pub record_at : List ℕ → Sizes → ℕ → List ℕ
record_at bytes s place = take (claim_length s) (drop place bytes)

abbrev pub claim_record : List ℕ → Sizes → ℕ → List ℕ
claim_record bytes s label = record_at bytes s (claim_place s label)
