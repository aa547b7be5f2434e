-- A job that decodes has sound instructions and claims over the lattice's levels. Assumes nothing.
use Rattle.std.proofs.Common.{◌≡◌, ℕ, zero, suc, ◌+◌, ◌*◌, ◌<◌, ◌≤◌, Bool, true, false, cond, eqb, ltb, List, [], ◌∷◌, ◌++◌, length, get_or, ℤ, pos, negsuc, Some, None, Ok, Err, Option, Result, sym, refl, ap, ◌∙◌, subst, add-one, arith, length-append}
use Rattle.std.specs.Prelude as std
use Rattle.std.specs.Option.{option_to_list}
use Rattle.std.specs.Result.{result_ok}
use Rattle.std.specs.List.{AllByRecursion as All}
use Rattle.std.proofs.lemmas.List.FromFn.{map-range_with_len_more}
use Rattle.std.proofs.ByRecursion.{All-append}
use Rattle.std.proofs.lemmas.Bool.{and_parts, and_from, ltb-true, lt-ltb, eqb-true, cond-true, cond-false, false≢true}
use Rattle.lattice.specs.Order.{Order}
use Rattle.push.specs.declared.instruction.Instruction.{Instruction}
use Rattle.push.specs.declared.instruction.Instruction.TheVariants.{Load, Store, Push, Add, Sub, Eq, Less, Not, Goto, GotoF, Copy, Swap, Drop}
use Rattle.push.specs.Code.{fetch}
use Rattle.job.specs.declared.claim.Place.{Place}
use Rattle.job.specs.declared.claim.Place.TheVariants.{IntegerAt, BooleanAt}
use Rattle.job.specs.declared.field.InstructionField.TheVariants.{Operation, Junction, Operand}
use Rattle.job.specs.declared.field.ClaimField.TheVariants.{Mark, Depth, Surrounding, Kind as PlaceKind, Level as PlaceLevel}
use Rattle.job.specs.Faults.{is_below}
use Rattle.job.specs.Fields.{InstructionFields, junction_limit, like_instruction, two, is_claimed, like_claim}
use Rattle.job.specs.Layout.{Sizes, instruction_place, instruction_record, claim_record}
use Rattle.job.specs.Records.{Claimed, level, Misread, natural, instruction_of, fields_in, fields_decoded, instruction_in, instruction_read, place_in, stack_in, claim_in, place_fits, every_field_fits}
use Rattle.job.proofs.AllBelow.{all_below_holds}
use Rattle.checker.specs.Verdict.{instruction_at, code_below}
use Rattle.checker.specs.WellClaimed.{Decodes}

-- An instruction whose variable is one of the 32 and whose labels are at most the exit.
pub data Sound (exit : ℕ) : Instruction → Type 0 where
  load : {v : ℕ} → v < 32 → Sound exit (Load v)
  store : {v : ℕ} → v < 32 → Sound exit (Store v)
  push : {x : ℤ} → Sound exit (Push x)
  add : Sound exit Add
  sub : Sound exit Sub
  eq : Sound exit Eq
  less : Sound exit Less
  not : Sound exit Not
  goto : {m : ℕ} → m ≤ exit → Sound exit (Goto m)
  gotof : {m j : ℕ} → m ≤ exit → j ≤ exit → Sound exit (GotoF m j)
  copy : Sound exit Copy
  swap : Sound exit Swap
  drop : Sound exit Drop

-- Places whose levels are levels of the lattice.
pub data Levels (o : Order) : List Place → Type 0 where
  none : Levels o []
  more : {p : Place} {ps : List Place} → level p < o.span → Levels o ps → Levels o (p ∷ ps)

under : (limit : ℕ) (x : ℤ) → is_below limit x ≡ true → natural x < limit
under limit (pos n) h = ltb-true n limit h
under limit (negsuc n) h = absurd (false≢true h)

-- What a record says, if anything, is sound.
module _ (exit : ℕ) where
  either : (b : Bool) (i j : Instruction) → (b ≡ true → Sound exit i) → Sound exit j → Sound exit (cond b i j)
  either true i j h k = h refl
  either false i j h k = k

  like_sound : (r : InstructionFields) → like_instruction exit r Junction ≡ true → like_instruction exit r Operand ≡ true → Sound exit (instruction_of r)
  like_sound r met h =
      let like : ℕ → Bool = λ n. like_instruction exit (record { operation = n; junction = r.junction; operand = r.operand }) Operand in
      let is : (n : ℕ) → eqb r.operation n ≡ true → like n ≡ true = λ n e. subst (λ k. like k ≡ true) (eqb-true r.operation n e) h in
      let meets : eqb r.operation 10 ≡ true → r.junction ≤ exit =
      λ e. (let lt = ltb-true r.junction (exit + 1) (subst (λ k. ltb r.junction (junction_limit exit k) ≡ true) (eqb-true r.operation 10 e) met) in
      omega arith) in
      let target : is_below (exit + 1) r.operand ≡ true → natural r.operand ≤ exit = λ k. (let lt = under (exit + 1) r.operand k in omega arith) in
      either (eqb r.operation 1) _ _ (λ e. load (under 32 r.operand (is 1 e)))
      (either (eqb r.operation 2) _ _ (λ e. store (under 32 r.operand (is 2 e)))
      (either (eqb r.operation 3) _ _ (λ _. push)
      (either (eqb r.operation 4) _ _ (λ _. add)
      (either (eqb r.operation 5) _ _ (λ _. sub)
      (either (eqb r.operation 6) _ _ (λ _. eq)
      (either (eqb r.operation 7) _ _ (λ _. less)
      (either (eqb r.operation 8) _ _ (λ _. not)
      (either (eqb r.operation 9) _ _ (λ e. goto (target (is 9 e)))
      (either (eqb r.operation 10) _ _ (λ e. gotof (target (is 10 e)) (meets e))
      (either (eqb r.operation 11) _ _ (λ _. copy)
      (either (eqb r.operation 12) _ _ (λ _. swap) drop)))))))))))

  abbrev SaysSound : {E : Type 0} → Result Instruction E → Type 0
  SaysSound said = All (Sound exit) (option_to_list (result_ok said))

  unless_refused : (like : Bool) (refused : Misread) (said : Result Instruction Misread) → (like ≡ true → SaysSound said) →
      SaysSound (cond (std.not like) (Err refused) said)
  unless_refused true refused said h = h refl
  unless_refused false refused said h = tt

  fields_sound : (place found : ℕ) (fields : Option InstructionFields) → SaysSound (fields_decoded exit place found fields)
  fields_sound place found None = tt
  fields_sound place found (Some r) =
      unless_refused (like_instruction exit r Operation) _ _
      (λ _. unless_refused (like_instruction exit r Junction) _ _
      (λ met. unless_refused (like_instruction exit r Operand) _ _ (λ h. (like_sound r met h, tt))))

  read_sound : (label : ℕ) (said : Result Instruction Misread) → SaysSound said → SaysSound (instruction_read label said)
  read_sound label (Ok i) h = h
  read_sound label (Err misread) h = tt

  record_sound : (label place : ℕ) (bytes : List ℕ) → SaysSound (instruction_read label (instruction_in exit place bytes))
  record_sound label place bytes = read_sound label _ (fields_sound place (length bytes) (fields_in bytes))

  pub all_fetched : (is : List Instruction) → All (Sound exit) is → (label : ℕ) (i : Instruction) → fetch is label ≡ Some i → Sound exit i
  all_fetched [] h label i e = cc
  all_fetched (x ∷ is) h zero i e = let same : x ≡ i = cc in subst (Sound exit) same h.0
  all_fetched (x ∷ is) h (suc label) i e = all_fetched is h.1 label i e

pub code_sound : (bytes : List ℕ) (s : Sizes) (n : ℕ) → All (Sound s.instructions) (code_below bytes s n)
unfolding code_below
code_sound bytes s zero = tt
code_sound bytes s (suc n) =
    All-append (Sound s.instructions) (code_below bytes s n) (option_to_list (instruction_at bytes s n)) (code_sound bytes s n)
    (record_sound s.instructions n (instruction_place n) (instruction_record bytes n))

-- One more place under the others.
one_under : (o : Order) (ps : List Place) (p : Place) → Levels o ps → level p < o.span → Levels o (ps ++ p ∷ [])
one_under o [] p none h = more h none
one_under o (q ∷ ps) p (more k ks) h = more k (one_under o ps p ks h)

either_level : (b : Bool) (l : ℕ) → level (cond b (IntegerAt l) (BooleanAt l)) ≡ l
either_level true l = refl
either_level false l = refl

-- A label claims where its mark is not 0.
claimed_when : (unclaimed : Bool) (x c : Claimed) → cond unclaimed None (Some x) ≡ Some c → (unclaimed ≡ false) × (x ≡ c)
claimed_when true x c e = cc
claimed_when false x c e = (refl, cc)

module _ (o : Order) (bytes : List ℕ) where
  stack_levels : (n : ℕ) → ((i : ℕ) → i < n → level (place_in bytes i) < o.span) → Levels o (stack_in bytes n)
  stack_levels zero h = none
  stack_levels (suc n) h =
      let last : stack_in bytes (suc n) ≡ stack_in bytes n ++ place_in bytes n ∷ [] =
      ap (stack_in bytes) (sym (add-one n)) ∙ map-range_with_len_more (place_in bytes) 0 n n (omega arith) in
      subst (Levels o) (sym last) (one_under o (stack_in bytes n) (place_in bytes n) (stack_levels n (λ i w. h i (omega arith))) (h n (omega arith)))

  module _ (places : ℕ) (marked : eqb (get_or bytes 0 0) 0 ≡ false) where
    place_level : (i : ℕ) → i < get_or bytes 1 0 → place_fits o.span places bytes i ≡ true → level (place_in bytes i) < o.span
    place_level i within h =
        let l = two bytes (5 + 3 * i) in
        let claimed : is_claimed bytes i ≡ true = and_from _ _ (ap std.not marked) (lt-ltb i (get_or bytes 1 0) within) in
        let at_most : l < cond (is_claimed bytes i) o.span 1 =
        ltb-true _ _ (and_parts (like_claim o.span places bytes (PlaceKind i)) (like_claim o.span places bytes (PlaceLevel i)) h).1 in
        subst (λ k. k < o.span) (sym (either_level (eqb (get_or bytes (4 + 3 * i) 0) 0) l))
        (subst (λ k. l < k) (cond-true (is_claimed bytes i) o.span 1 claimed) at_most)

    claimed_levels : every_field_fits o.span places bytes ≡ true → (two bytes 2 < o.span) × Levels o (stack_in bytes (get_or bytes 1 0))
    claimed_levels h =
        let unclaimed = eqb (get_or bytes 0 0) 0 in
        let depth = get_or bytes 1 0 in
        let p = and_parts (like_claim o.span places bytes Mark) _ h in
        let q = and_parts (like_claim o.span places bytes Depth) _ p.1 in
        let r = and_parts (like_claim o.span places bytes Surrounding) _ q.1 in
        let room : depth < places + 1 = subst (λ k. depth < k) (cond-false unclaimed 1 (places + 1) marked) (ltb-true _ _ q.0) in (
          subst (λ k. two bytes 2 < k) (cond-false unclaimed 1 o.span marked) (ltb-true _ _ r.0),
          stack_levels depth (λ i w. place_level i w (all_below_holds (place_fits o.span places bytes) places r.1 i (omega arith))),
        )

  claim_levels : (places : ℕ) (c : Claimed) → every_field_fits o.span places bytes ≡ true → claim_in bytes ≡ Some c →
      (c.surrounding < o.span) × Levels o c.stack
  claim_levels places c h e =
      let k = claimed_when (eqb (get_or bytes 0 0) 0) (record { surrounding = two bytes 2; stack = stack_in bytes (get_or bytes 1 0) }) c e in
      subst (λ x. (x.surrounding < o.span) × Levels o x.stack) k.1 (claimed_levels places k.0 h)

module _ (o : Order) (bytes : List ℕ) (s : Sizes) (d : Decodes o bytes s) where
  long : (n : ℕ) → n ≤ s.instructions → length (code_below bytes s n) ≡ n
  unfolding code_below
  long zero h = refl
  long (suc n) h =
      let one : length (option_to_list (instruction_at bytes s n)) ≡ 1 = ap (λ oi. length (option_to_list oi)) (d.instructions n h).read in
      omega (arith, length-append (code_below bytes s n) (option_to_list (instruction_at bytes s n)), long n (omega arith))

  pub exit_is : length (code_below bytes s s.instructions) ≡ s.instructions
  exit_is = long s.instructions (omega arith)

  pub fetched_sound : (label : ℕ) (i : Instruction) → fetch (code_below bytes s s.instructions) label ≡ Some i → Sound s.instructions i
  fetched_sound label i e = all_fetched s.instructions (code_below bytes s s.instructions) (code_sound bytes s s.instructions) label i e

  pub claims_are_levels : (label : ℕ) (c : Claimed) → label < s.instructions → claim_in (claim_record bytes s label) ≡ Some c →
      (c.surrounding < o.span) × Levels o c.stack
  claims_are_levels label c h e = claim_levels o (claim_record bytes s label) s.places c (d.claims label h) e
