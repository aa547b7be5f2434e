-- A record is like its description, or its fault names the first field that is not: of claim records and of instruction
-- records. The records of a job that was read are whole. Assumes nothing.
use Rattle.std.specs.Prelude.{if◌then◌else◌, IsTrue, not}
use Rattle.std.proofs.Common.{◌≡◌, ℕ, ◌+◌, ◌*◌, ◌<◌, ◌≤◌, true, false, ◌⊎◌, inl, inr, ⊎_elim, List, [], ◌∷◌, length, drop, pos, Some, None, Ok, Err, Option, Result, refl, sym, ap, ◌∙◌, subst, length-take, length-drop, arith}
use Rattle.std.specs.Option.{option_or}
use Rattle.std.specs.Result.{result_err}
use Rattle.std.proofs.lemmas.Bool.{and_parts, and_from, cases_Bool, cases_eq, cond-true, cond-false, not_from_true, not_from_false}
use Rattle.std.proofs.lemmas.Bool.Decides.{nat_tests}
use Rattle.push.specs.declared.instruction.Instruction.{Instruction}
use Rattle.job.specs.declared.field.InstructionField.{InstructionField}
use Rattle.job.specs.declared.field.InstructionField.TheVariants.{Operation, Junction, Operand}
use Rattle.job.specs.declared.field.ClaimField.{ClaimField}
use Rattle.job.specs.declared.field.ClaimField.TheVariants.{Mark, Depth, Surrounding, Kind, Level}
use Rattle.job.specs.declared.field.Field.TheVariants.{Claim as of_claim}
use Rattle.job.specs.declared.fault.ReadFault.TheVariants.{NotBelow}
use Rattle.job.specs.declared.fault.RecordFault.{RecordFault}
use Rattle.job.specs.Faults.{read_place, handed_up, record_answer, record_number}
use Rattle.job.specs.Fields.{InstructionFields, instruction_offset, like_instruction, claim_offset, claim_number, claim_limit, like_claim, FirstUnlike}
use Rattle.job.specs.First.{first_below}
use Rattle.job.specs.Layout.{Sizes, right_length, sized, opening, instruction_place, instruction_record}
use Rattle.job.specs.Records.{Misread, instruction_of, instruction_misread, decoded, fields_in, place_fits, every_field_fits, claim_field_fault, place_fault, claim_fault}
use Rattle.job.proofs.AllBelow.{all_below_holds, all_below_from}
use Rattle.job.proofs.FirstFacts.{Clear, Found, none_below, first_found, search_first}

-- what comes first of two
or_none : {A : Type 0} (a b : Option A) → option_or a b ≡ None → (a ≡ None) × (b ≡ None)
or_none None b h = (refl, h)
or_none (Some x) b h = cc

or_second : {A : Type 0} (a b x : Option A) → a ≡ None → b ≡ x → option_or a b ≡ x
or_second a b x h k = ap (λ v. option_or v b) h ∙ k

or_first : {A : Type 0} (a b : Option A) (x : A) → a ≡ Some x → option_or a b ≡ Some x
or_first a b x h = ap (λ v. option_or v b) h

-- The claim record of a label at a place, over a lattice of so many levels and with so many places.
module _ (span places label place : ℕ) (bytes : List ℕ) where
  abbrev field_fault : ClaimField → Option RecordFault
  field_fault field = claim_field_fault span places label place bytes field

  abbrev fault_at : ℕ → Option RecordFault
  fault_at i = place_fault span places label place bytes i

  abbrev fault : Option RecordFault
  fault = claim_fault span places label place bytes

  abbrev Like : ClaimField → Type 0
  Like field = like_claim span places bytes field ≡ true

  -- each field inside is like its description
  abbrev AllLike : Type 0
  AllLike = (field : ClaimField) → claim_offset field < 4 + 3 * places → Like field

  -- or one of them is the first that is not
  record FirstOne : Type 0 where
    field : ClaimField
    inside : claim_offset field < 4 + 3 * places
    first : FirstUnlike claim_offset (like_claim span places bytes) field

  -- and its fault is this
  abbrev pub unlike_field : ClaimField → RecordFault
  unlike_field field =
      record {
        field = of_claim label field;
        fault = NotBelow (place + claim_offset field) (pos (claim_number bytes field)) (claim_limit span places bytes field);
      }

  none_where_like : (field : ClaimField) → Like field → field_fault field ≡ None
  none_where_like field h = ap (handed_up (of_claim label field)) (cond-true (like_claim span places bytes field) None _ h)

  some_where_unlike : (field : ClaimField) → like_claim span places bytes field ≡ false →
      field_fault field ≡ Some (unlike_field field)
  some_where_unlike field h = ap (handed_up (of_claim label field)) (cond-false (like_claim span places bytes field) None _ h)

  like_where_none : (field : ClaimField) → field_fault field ≡ None → Like field
  like_where_none field h =
      ⊎_elim (λ (e : Like field). e)
      (λ (e : like_claim span places bytes field ≡ false). let s = some_where_unlike field e in cc)
      (cases_Bool (like_claim span places bytes field))

  -- The fields of a place, and those before it.
  place_like : (i : ℕ) → fault_at i ≡ None → Like (Kind i) × Like (Level i)
  place_like i h = let p = or_none _ _ h in (like_where_none (Kind i) p.0, like_where_none (Level i) p.1)

  place_none : (i : ℕ) → Like (Kind i) → Like (Level i) → fault_at i ≡ None
  place_none i k l = or_second _ _ None (none_where_like (Kind i) k) (none_where_like (Level i) l)

  before_place : Like Mark → Like Depth → Like Surrounding → (n : ℕ) → ((i : ℕ) → i < n → Like (Kind i) × Like (Level i)) → (e : ClaimField) →
      claim_offset e < 4 + 3 * n → Like e
  before_place m d s n h Mark w = m
  before_place m d s n h Depth w = d
  before_place m d s n h Surrounding w = s
  before_place m d s n h (Kind i) w = (h i (omega arith)).0
  before_place m d s n h (Level i) w = (h i (omega arith)).1

  before_level : (n : ℕ) → ((e : ClaimField) → claim_offset e < 4 + 3 * n → Like e) → Like (Kind n) → (e : ClaimField) → claim_offset e < 5 + 3 * n → Like e
  before_level n h k Mark w = h Mark (omega arith)
  before_level n h k Depth w = h Depth (omega arith)
  before_level n h k Surrounding w = h Surrounding (omega arith)
  before_level n h k (Kind i) w =
      ⊎_elim (λ (q : i ≡ n). ap (λ v. like_claim span places bytes (Kind v)) q ∙ k) (λ (ne : i ≡ n → ⊥). h (Kind i) (omega (arith, ne))) (cases_eq i n)
  before_level n h k (Level i) w = h (Level i) (omega arith)

  -- The search through the fields in the record's order.
  first_of_place : Like Mark → Like Depth → Like Surrounding → (k : Found fault_at places) → FirstOne
  first_of_place m d s k =
      let before = before_place m d s k.label (λ i w. place_like i (k.before i w)) in
      let here : k.label < places = k.within in
      ⊎_elim
      (λ (e : Like (Kind k.label)).
      ⊎_elim
      (λ (f : Like (Level k.label)). let none = place_none k.label e f in let some = k.some in absurd cc)
      (λ (f : like_claim span places bytes (Level k.label) ≡ false).
      record {
        field = Level k.label;
        inside = omega arith;
        first = record { before = before_level k.label before e; unlike = f };
      })
      (cases_Bool (like_claim span places bytes (Level k.label))))
      (λ (e : like_claim span places bytes (Kind k.label) ≡ false).
      record { field = Kind k.label; inside = omega arith; first = record { before = before; unlike = e } })
      (cases_Bool (like_claim span places bytes (Kind k.label)))

  search_places : Like Mark → Like Depth → Like Surrounding → AllLike ⊎ FirstOne
  search_places m d s =
      ⊎_elim
      (λ (k : Clear fault_at places). inl (before_place m d s places (λ i w. place_like i (k.all i w))))
      (λ (k : Found fault_at places). inr (first_of_place m d s k))
      (search_first fault_at places)

  -- a field that is unlike is the first where those before it are like
  stop_at : (field : ClaimField) → claim_offset field < 4 + 3 * places → ((e : ClaimField) → claim_offset e < claim_offset field → Like e) →
      (Like field → AllLike ⊎ FirstOne) → AllLike ⊎ FirstOne
  stop_at field inside before more =
      ⊎_elim more
      (λ (u : like_claim span places bytes field ≡ false).
      inr (record { field = field; inside = inside; first = record { before = before; unlike = u } }))
      (cases_Bool (like_claim span places bytes field))

  before_mark : (e : ClaimField) → claim_offset e < 0 → Like e
  before_mark e w = absurd (omega arith)

  before_depth : Like Mark → (e : ClaimField) → claim_offset e < 1 → Like e
  before_depth m Mark w = m
  before_depth m Depth w = absurd (omega arith)
  before_depth m Surrounding w = absurd (omega arith)
  before_depth m (Kind i) w = absurd (omega arith)
  before_depth m (Level i) w = absurd (omega arith)

  before_surrounding : Like Mark → Like Depth → (e : ClaimField) → claim_offset e < 2 → Like e
  before_surrounding m d Mark w = m
  before_surrounding m d Depth w = d
  before_surrounding m d Surrounding w = absurd (omega arith)
  before_surrounding m d (Kind i) w = absurd (omega arith)
  before_surrounding m d (Level i) w = absurd (omega arith)

  search_fields : AllLike ⊎ FirstOne
  search_fields =
      stop_at Mark (omega arith) before_mark
      (λ m. stop_at Depth (omega arith) (before_depth m) (λ d. stop_at Surrounding (omega arith) (before_surrounding m d) (search_places m d)))

  -- A record is like a claim exactly if each of its fields is like its description.
  all_like : every_field_fits span places bytes ≡ true → AllLike
  all_like h =
      let m = and_parts _ _ h in
      let d = and_parts _ _ m.1 in
      let s = and_parts _ _ d.1 in
      before_place m.0 d.0 s.0 places (λ i w. and_parts _ _ (all_below_holds (place_fits span places bytes) places s.1 i w))

  like_all : AllLike → every_field_fits span places bytes ≡ true
  like_all h =
      and_from _ _ (h Mark (omega arith))
      (and_from _ _ (h Depth (omega arith))
      (and_from _ _ (h Surrounding (omega arith))
      (all_below_from (place_fits span places bytes) places
      (λ i w. and_from _ _ (h (Kind i) (omega arith)) (h (Level i) (omega arith))))))

  -- Then there is no fault.
  opened : (x : Option RecordFault) → Like Mark → Like Depth → Like Surrounding → first_below fault_at places ≡ x →
      fault ≡ x
  opened x m d s h =
      or_second _ _ x (none_where_like Mark m) (or_second _ _ x (none_where_like Depth d) (or_second _ _ x (none_where_like Surrounding s) h))

  none_where_all : AllLike → fault ≡ None
  none_where_all h =
      opened None (h Mark (omega arith)) (h Depth (omega arith)) (h Surrounding (omega arith))
      (none_below fault_at places (λ i w. place_none i (h (Kind i) (omega arith)) (h (Level i) (omega arith))))

  pub claim_none : every_field_fits span places bytes ≡ true → claim_fault span places label place bytes ≡ None
  claim_none h = none_where_all (all_like h)

  -- Else the fault names the first that is not.
  at_place : (i : ℕ) (x : RecordFault) → i < places → ((e : ClaimField) → claim_offset e < 4 + 3 * i → Like e) →
      fault_at i ≡ Some x → fault ≡ Some x
  at_place i x w before some =
      let none = none_below fault_at i (λ l v. place_none l (before (Kind l) (omega arith)) (before (Level l) (omega arith))) in
      opened (Some x) (before Mark (omega arith)) (before Depth (omega arith)) (before Surrounding (omega arith))
      (first_found fault_at i places x none some w)

  pub claim_named : (field : ClaimField) → claim_offset field < 4 + 3 * places → FirstUnlike claim_offset (like_claim span places bytes) field →
      claim_fault span places label place bytes ≡ Some (unlike_field field)
  claim_named Mark w f = or_first _ _ _ (some_where_unlike Mark f.unlike)
  claim_named Depth w f = or_second _ _ _ (none_where_like Mark (f.before Mark (omega arith))) (or_first _ _ _ (some_where_unlike Depth f.unlike))
  claim_named Surrounding w f =
      or_second _ _ _ (none_where_like Mark (f.before Mark (omega arith)))
      (or_second _ _ _ (none_where_like Depth (f.before Depth (omega arith))) (or_first _ _ _ (some_where_unlike Surrounding f.unlike)))
  claim_named (Kind i) w f = at_place i _ (omega arith) f.before (or_first _ _ _ (some_where_unlike (Kind i) f.unlike))
  claim_named (Level i) w f =
      at_place i _ (omega arith) (λ e v. f.before e (omega arith))
      (or_second _ _ _ (none_where_like (Kind i) (f.before (Kind i) (omega arith))) (some_where_unlike (Level i) f.unlike))

  pub claim_some : (x : RecordFault) → claim_fault span places label place bytes ≡ Some x →
      (field : ClaimField) × (claim_offset field < 4 + 3 * places) × FirstUnlike claim_offset (like_claim span places bytes) field
      × (x ≡ unlike_field field)
  claim_some x h =
      ⊎_elim
      (λ (a : AllLike). let none = none_where_all a in absurd cc)
      (λ (u : FirstOne). let named = claim_named u.field u.inside u.first in (u.field, u.inside, u.first, cc))
      search_fields

  pub like_or_fault : every_field_fits span places bytes ≡ false → (x : RecordFault) × (claim_fault span places label place bytes ≡ Some x)
  like_or_fault h =
      ⊎_elim
      (λ (a : AllLike). let like = like_all a in absurd cc)
      (λ (u : FirstOne). (unlike_field u.field, claim_named u.field u.inside u.first))
      search_fields

  pub fault_is_unlike : (x : RecordFault) → claim_fault span places label place bytes ≡ Some x → every_field_fits span places bytes ≡ false
  fault_is_unlike x h =
      ⊎_elim
      (λ (e : every_field_fits span places bytes ≡ true). let none = claim_none e in cc)
      (λ (e : every_field_fits span places bytes ≡ false). e)
      (cases_Bool (every_field_fits span places bytes))

  -- A check that gives this fault answers 0 exactly of records like a claim, and of others 9.
  pub claim_number_nine : (x : RecordFault) → claim_fault span places label place bytes ≡ Some x → record_number x ≡ 9
  claim_number_nine x h = let named = claim_some x h in ap record_number named.3

  pub claim_answer : (result : Result (Unit {0}) RecordFault) → result_err result ≡ claim_fault span places label place bytes →
      record_answer result ≡ (if every_field_fits span places bytes then 0 else 9)
  claim_answer (Ok y) h =
      ⊎_elim
      (λ (e : every_field_fits span places bytes ≡ true). sym (cond-true (every_field_fits span places bytes) 0 9 e))
      (λ (e : every_field_fits span places bytes ≡ false). let some = like_or_fault e in let none = some.1 in absurd cc)
      (cases_Bool (every_field_fits span places bytes))
  claim_answer (Err x) h =
      claim_number_nine x (sym h) ∙ sym (cond-false (every_field_fits span places bytes) 0 9 (fault_is_unlike x (sym h)))

-- The fields of an instruction record at a place, where labels go up to the exit.
module _ (exit place : ℕ) (r : InstructionFields) where
  abbrev Fits : InstructionField → Type 0
  Fits field = like_instruction exit r field ≡ true

  passed : (field : InstructionField) (x y z : Result Instruction Misread) → Fits field → y ≡ z → (if not (like_instruction exit r field) then x else y) ≡ z
  passed field x y z h k = cond-false (not (like_instruction exit r field)) x y (not_from_true (like_instruction exit r field) h) ∙ k

  stopped : (field : InstructionField) (x y : Result Instruction Misread) → like_instruction exit r field ≡ false →
      (if not (like_instruction exit r field) then x else y) ≡ x
  stopped field x y h = cond-true (not (like_instruction exit r field)) x y (not_from_false (like_instruction exit r field) h)

  pub decoded_whole : ((field : InstructionField) → IsTrue (like_instruction exit r field)) → decoded exit place r ≡ Ok (instruction_of r)
  decoded_whole h = passed Operation _ _ _ (h Operation) (passed Junction _ _ _ (h Junction) (passed Operand _ _ _ (h Operand) refl))

  pub decoded_named : (field : InstructionField) → FirstUnlike instruction_offset (like_instruction exit r) field →
      decoded exit place r ≡ Err (field, instruction_misread exit place r field)
  decoded_named Operation f = stopped Operation _ _ f.unlike
  decoded_named Junction f = passed Operation _ _ _ (f.before Operation (omega arith)) (stopped Junction _ _ f.unlike)
  decoded_named Operand f =
      passed Operation _ _ _ (f.before Operation (omega arith))
      (passed Junction _ _ _ (f.before Junction (omega arith)) (stopped Operand _ _ f.unlike))

  pub misread_place : (field : InstructionField) → read_place (instruction_misread exit place r field) ≡ place + instruction_offset field
  misread_place Operation = omega arith
  misread_place Junction = refl
  misread_place Operand = refl

  before_operation : (e : InstructionField) → instruction_offset e < 0 → Fits e
  before_operation e w = absurd (omega arith)

  before_junction : Fits Operation → (e : InstructionField) → instruction_offset e < 1 → Fits e
  before_junction a Operation w = a
  before_junction a Junction w = absurd (omega arith)
  before_junction a Operand w = absurd (omega arith)

  before_operand : Fits Operation → Fits Junction → (e : InstructionField) → instruction_offset e < 2 → Fits e
  before_operand a b Operation w = a
  before_operand a b Junction w = b
  before_operand a b Operand w = absurd (omega arith)

  each_fits : Fits Operation → Fits Junction → Fits Operand → (field : InstructionField) → Fits field
  each_fits a b c Operation = a
  each_fits a b c Junction = b
  each_fits a b c Operand = c

  -- what is misread is the first field that is unlike its description
  AsRead : Misread → Type 0
  AsRead m = FirstUnlike instruction_offset (like_instruction exit r) m.0 × (read_place m.1 ≡ place + instruction_offset m.0)

  read_at : (field : InstructionField) → ((e : InstructionField) → instruction_offset e < instruction_offset field → Fits e) →
      (m : Misread) → decoded exit place r ≡ Err m → (Fits field → AsRead m) → AsRead m
  unfolding AsRead
  read_at field before m h more =
      ⊎_elim more
      (λ (u : like_instruction exit r field ≡ false).
      let first : FirstUnlike instruction_offset (like_instruction exit r) field = record { before = before; unlike = u } in
      let named = decoded_named field first in
      let is : (field, instruction_misread exit place r field) ≡ m = cc in
      subst AsRead is (first, misread_place field))
      (cases_Bool (like_instruction exit r field))

  pub decoded_some : (m : Misread) → decoded exit place r ≡ Err m →
      FirstUnlike instruction_offset (like_instruction exit r) m.0 × (read_place m.1 ≡ place + instruction_offset m.0)
  unfolding AsRead
  decoded_some m h =
      read_at Operation before_operation m h
      (λ a. read_at Junction (before_junction a) m h
      (λ b. read_at Operand (before_operand a b) m h (λ c. let whole = decoded_whole (each_fits a b c) in absurd cc)))

-- The records of a job that was read are whole.
open_sized : (n d found : ℕ) (s : Sizes) → sized n d found ≡ Ok s → found ≡ right_length s.instructions s.places
open_sized n d found s h = grind (arith, nat_tests)

opened_length : (bytes : List ℕ) (s : Sizes) → opening bytes ≡ Ok s → length bytes ≡ right_length s.instructions s.places
opened_length [] s h = cc
opened_length (a ∷ []) s h = cc
opened_length (a ∷ b ∷ []) s h = cc
opened_length (a ∷ b ∷ c ∷ []) s h = cc
opened_length (a ∷ b ∷ c ∷ d ∷ rest) s h = omega (arith, open_sized (a + b * 256) (c + d * 256) (4 + length rest) s h)

six_fields : (xs : List ℕ) → length xs ≡ 6 → (r : InstructionFields) × (fields_in xs ≡ Some r)
six_fields (a ∷ b ∷ c ∷ d ∷ e ∷ f ∷ []) h = (_, refl)
six_fields [] h = absurd (omega arith)
six_fields (a ∷ []) h = absurd (omega arith)
six_fields (a ∷ b ∷ []) h = absurd (omega arith)
six_fields (a ∷ b ∷ c ∷ []) h = absurd (omega arith)
six_fields (a ∷ b ∷ c ∷ d ∷ []) h = absurd (omega arith)
six_fields (a ∷ b ∷ c ∷ d ∷ e ∷ []) h = absurd (omega arith)
six_fields (a ∷ b ∷ c ∷ d ∷ e ∷ f ∷ g ∷ xs) h = absurd (omega arith)

record_fits : (n d label : ℕ) → label < n → instruction_place label + 6 ≤ right_length n d
record_fits n d label h = omega arith

pub record_is_whole : (bytes : List ℕ) (s : Sizes) (label : ℕ) → opening bytes ≡ Ok s → label < s.instructions →
    (r : InstructionFields) × (fields_in (instruction_record bytes label) ≡ Some r)
record_is_whole bytes s label h within =
    six_fields (instruction_record bytes label)
    (omega (
      arith,
      length-take 6 (drop (instruction_place label) bytes),
      length-drop (instruction_place label) bytes,
      opened_length bytes s h,
      record_fits s.instructions s.places label within,
    ))
