-- What the records of a job say. Assumes nothing.
use Rattle.std.specs.Prelude.{ℕ, ◌+◌, ◌*◌, Bool, if◌then◌else◌, not, ◌&&◌, List, [], ◌∷◌, map, length, drop, ℤ, pos, negsuc, Some, None, Ok, Err, Option, Result, ◌==◌, nat_le, nat_lt, slice_index}
use Rattle.std.specs.Int.{w32, cast_signed}
use Rattle.std.specs.List.{range_with_len}
use Rattle.std.specs.Option.{option_or}
use Rattle.push.specs.declared.instruction.Instruction.{Instruction}
use Rattle.push.specs.declared.instruction.Instruction.TheVariants.{Load, Store, Push, Add, Sub, Eq, Less, Not, Goto, GotoF, Copy, Swap, Drop}
use Rattle.push.specs.declared.kind.Kind.{Kind}
use Rattle.push.specs.declared.kind.Kind.TheVariants.{Integer, Boolean}
use Rattle.job.specs.declared.claim.Place.{Place}
use Rattle.job.specs.declared.claim.Place.TheVariants.{IntegerAt, BooleanAt}
use Rattle.job.specs.declared.field.InstructionField.{InstructionField}
use Rattle.job.specs.declared.field.InstructionField.TheVariants.{Operation, Junction, Operand}
use Rattle.job.specs.declared.field.ClaimField.{ClaimField}
use Rattle.job.specs.declared.field.ClaimField.TheVariants.{Mark, Depth, Surrounding, Kind as PlaceKind, Level as PlaceLevel}
use Rattle.job.specs.declared.field.Field.TheVariants.{Instruction as of_instruction, Claim as of_claim}
use Rattle.job.specs.declared.fault.ReadFault.{ReadFault}
use Rattle.job.specs.declared.fault.ReadFault.TheVariants.{TooShort, NotBelow, NoOperation}
use Rattle.job.specs.declared.fault.RecordFault.{RecordFault}
use Rattle.job.specs.Faults.{not_below, handed_up}
use Rattle.job.specs.First.{all_below, first_below}
use Rattle.job.specs.Fields.{InstructionFields, instruction_offset, claim_offset, claim_number, claim_limit, two, junction_limit, operand_limit, like_instruction, like_claim}

-- A field of an instruction record, and what the reader finds wrong with it.
abbrev pub Misread : Type 0
Misread = InstructionField × ReadFault

-- The instruction of a record whose fields are like their descriptions.
abbrev pub natural : ℤ → ℕ
natural (pos n) = n
natural (negsuc n) = 0

abbrev pub instruction_of : InstructionFields → Instruction
instruction_of r =
    if r.operation == 1 then Load (natural r.operand)
    else if r.operation == 2 then Store (natural r.operand)
    else if r.operation == 3 then Push r.operand
    else if r.operation == 4 then Add
    else if r.operation == 5 then Sub
    else if r.operation == 6 then Eq
    else if r.operation == 7 then Less
    else if r.operation == 8 then Not
    else if r.operation == 9 then Goto (natural r.operand)
    else if r.operation == 10 then GotoF (natural r.operand) r.junction
    else if r.operation == 11 then Copy
    else if r.operation == 12 then Swap
    else Drop

-- What the reader finds in a field, of a record at a place, that is unlike its description.
abbrev pub instruction_misread : ℕ → ℕ → InstructionFields → InstructionField → ReadFault
instruction_misread exit place r Operation = NoOperation place r.operation
instruction_misread exit place r Junction =
    NotBelow (place + instruction_offset Junction) (pos r.junction)
    (junction_limit exit r.operation)
instruction_misread exit place r Operand =
    NotBelow (place + instruction_offset Operand) r.operand (operand_limit exit r.operation)

-- The instruction, or the first such field. Junction and operand are judged for the operation.
abbrev pub refused : ℕ → ℕ → InstructionFields → InstructionField → Result Instruction Misread
refused exit place r field = Err (field, instruction_misread exit place r field)

abbrev pub decoded : ℕ → ℕ → InstructionFields → Result Instruction Misread
decoded exit place r =
    if not (like_instruction exit r Operation) then refused exit place r Operation
    else if not (like_instruction exit r Junction) then refused exit place r Junction
    else if not (like_instruction exit r Operand) then refused exit place r Operand
    else Ok (instruction_of r)

-- The fields of a record of six bytes: operation, junction byte, signed operand with its lower byte first.
abbrev pub fields_in : List ℕ → Option InstructionFields
fields_in (operation ∷ junction ∷ b0 ∷ b1 ∷ b2 ∷ b3 ∷ []) =
    Some (record {
      operation = operation;
      junction = junction;
      operand = cast_signed w32 (b0 + b1 * 256 + b2 * 65536 + b3 * 16777216);
    })
fields_in _ = None

-- A shorter one, as there is at the exit and past it, has no operation.
abbrev pub fields_decoded : ℕ → ℕ → ℕ → Option InstructionFields → Result Instruction Misread
fields_decoded exit place found None = Err (Operation, TooShort place found 6)
fields_decoded exit place found (Some r) = decoded exit place r

abbrev pub instruction_in : ℕ → ℕ → List ℕ → Result Instruction Misread
instruction_in exit place bytes = fields_decoded exit place (length bytes) (fields_in bytes)

-- What is read at a label.
abbrev pub instruction_read : ℕ → Result Instruction Misread → Result Instruction RecordFault
instruction_read label (Ok i) = Ok i
instruction_read label (Err misread) =
    Err (record { field = of_instruction label misread.0; fault = misread.1 })

-- The kind and the level of a stack place.
abbrev pub kind : Place → Kind
kind (IntegerAt _) = Integer
kind (BooleanAt _) = Boolean

abbrev pub level : Place → ℕ
level (IntegerAt l) = l
level (BooleanAt l) = l

-- What a label claims: the level that surrounds it, and its stack, top first.
pub record Claimed : Type 0 where
  pub surrounding : ℕ
  pub stack : List Place

-- The kinds of a stack; none of more than eight places, since there is no such stack.
abbrev pub stack_kinds : List Place → Option (List Kind)
stack_kinds stack = if nat_le (length stack) 8 then Some (map kind stack) else None

-- A claim record: mark, depth, surrounding level, and places of a kind byte and a level.
abbrev pub place_in : List ℕ → ℕ → Place
place_in bytes i =
    if slice_index bytes (4 + 3 * i) == 0 then IntegerAt (two bytes (5 + 3 * i))
    else BooleanAt (two bytes (5 + 3 * i))

abbrev pub stack_in : List ℕ → ℕ → List Place
stack_in bytes depth = map (place_in bytes) (range_with_len 0 depth)

abbrev pub claim_in : List ℕ → Option Claimed
claim_in bytes =
    if slice_index bytes 0 == 0 then None
    else Some (record { surrounding = two bytes 2; stack = stack_in bytes (slice_index bytes 1) })

-- Whether all bytes are 0.
abbrev pub zeros : List ℕ → Bool
zeros bytes = all_below (λ k. slice_index bytes k == 0) (length bytes)

-- Whether a stack place is like the description of a claimed one, over a lattice of so many levels.
abbrev pub like_a_place : ℕ → List ℕ → ℕ → Bool
like_a_place span bytes i =
    nat_le (slice_index bytes (4 + 3 * i)) 1 && nat_lt (two bytes (5 + 3 * i)) span

-- Whether a claim record is like its description, over a lattice of so many levels and with so many places; by cases of
-- its mark.
abbrev pub like_a_claim : ℕ → ℕ → List ℕ → Bool
like_a_claim span places bytes =
    let depth : ℕ = slice_index bytes 1 in
    if slice_index bytes 0 == 0 then zeros bytes
    else slice_index bytes 0 == 1
    && (nat_le depth places
    && (nat_lt (two bytes 2) span
    && (all_below (like_a_place span bytes) depth && zeros (drop (4 + 3 * depth) bytes))))

-- The same field by field, of a record that a job holds: whether each of its fields is like its description.
abbrev pub place_fits : ℕ → ℕ → List ℕ → ℕ → Bool
place_fits span places bytes i =
    like_claim span places bytes (PlaceKind i) && like_claim span places bytes (PlaceLevel i)

abbrev pub every_field_fits : ℕ → ℕ → List ℕ → Bool
every_field_fits span places bytes =
    like_claim span places bytes Mark
    && (like_claim span places bytes Depth
    && (like_claim span places bytes Surrounding
    && all_below (place_fits span places bytes) places))

-- What is wrong with a field of the claim record of a label, which stands at a place, if it is unlike its description.
abbrev pub claim_field_fault : ℕ → ℕ → ℕ → ℕ → List ℕ → ClaimField → Option RecordFault
claim_field_fault span places label place bytes field =
    handed_up (of_claim label field)
    (not_below (place + claim_offset field) (pos (claim_number bytes field))
    (claim_limit span places bytes field))

-- The first such field in the record's order.
abbrev pub place_fault : ℕ → ℕ → ℕ → ℕ → List ℕ → ℕ → Option RecordFault
place_fault span places label place bytes i =
    option_or (claim_field_fault span places label place bytes (PlaceKind i))
    (claim_field_fault span places label place bytes (PlaceLevel i))

abbrev pub claim_fault : ℕ → ℕ → ℕ → ℕ → List ℕ → Option RecordFault
claim_fault span places label place bytes =
    option_or (claim_field_fault span places label place bytes Mark)
    (option_or (claim_field_fault span places label place bytes Depth)
    (option_or (claim_field_fault span places label place bytes Surrounding)
    (first_below (place_fault span places label place bytes) places)))
