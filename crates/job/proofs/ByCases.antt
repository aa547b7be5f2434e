-- Of a record that a job holds the two texts say the same: by cases of its mark, and field by field. Assumes nothing.
use Rattle.std.specs.Prelude.{Result, if◌then◌else◌, ◌==◌, nat_le, nat_lt, not, slice_index}
use Rattle.std.proofs.Common.{◌≡◌, ℕ, zero, suc, ◌+◌, ◌*◌, ◌-◌, ◌<◌, ◌≤◌, Bool, true, false, ◌&&◌, ⊎_elim, List, length, drop, take, refl, sym, ap, ◌∙◌, subst, length-take, length-drop, get_or-drop, arith}
use Rattle.std.specs.Result.{result_err}
use Rattle.std.proofs.lemmas.Bool.{and_parts, and_from, and_left, and_right, cases_Bool, cases_eq, cases_lt, cond-true, cond-false, not_from_true, not_from_false, ltb-true, lt-ltb, leb-true, le-leb, lt-leb, eqb-true, eqb-false, eq-eqb}
use Rattle.std.proofs.lemmas.List.{get_or_past}
use Rattle.job.specs.declared.field.ClaimField.{ClaimField}
use Rattle.job.specs.declared.field.ClaimField.TheVariants.{Mark, Depth, Surrounding, Kind, Level}
use Rattle.job.specs.declared.fault.RecordFault.{RecordFault}
use Rattle.job.specs.Faults.{record_answer}
use Rattle.job.specs.Fields.{two, is_claimed, claim_number, claim_limit, like_claim}
use Rattle.job.specs.First.{all_below}
use Rattle.job.specs.Records.{zeros, like_a_place, like_a_claim, place_fits, every_field_fits, claim_fault}
use Rattle.job.proofs.AllBelow.{all_below_holds, all_below_from}
use Rattle.job.proofs.FieldFacts.{claim_answer}

-- two tests that tell each other
same : (a b : Bool) → (a ≡ true → b ≡ true) → (b ≡ true → a ≡ true) → a ≡ b
same true b f g = sym (f refl)
same false true f g = g refl
same false false f g = refl

-- Bytes that are all 0 read as 0, at the end and past it too.
zeros_at : (bytes : List ℕ) → zeros bytes ≡ true → (k : ℕ) → slice_index bytes k ≡ 0
zeros_at bytes h k =
    ⊎_elim
    (λ (w : k < length bytes). eqb-true _ 0 (all_below_holds (λ i. slice_index bytes i == 0) (length bytes) h k w))
    (λ (w : length bytes ≤ k). get_or_past bytes k 0 w)
    (cases_lt k (length bytes))

zeros_from : (bytes : List ℕ) → ((k : ℕ) → k < length bytes → slice_index bytes k ≡ 0) → zeros bytes ≡ true
zeros_from bytes h = all_below_from (λ i. slice_index bytes i == 0) (length bytes) (λ k w. eq-eqb _ 0 (h k w))

module _ (span places : ℕ) (bytes : List ℕ) where
  abbrev depth : ℕ
  depth = slice_index bytes 1

  abbrev empty : Bool
  empty = slice_index bytes 0 == 0

  abbrev Like : ClaimField → Type 0
  Like field = like_claim span places bytes field ≡ true

  -- the text by cases where the mark is not 0
  abbrev marked : Bool
  marked =
      slice_index bytes 0 == 1
      && (nat_le depth places && (nat_lt (two bytes 2) span && (all_below (like_a_place span bytes) depth && zeros (drop (4 + 3 * depth) bytes))))

  -- A field is like its description where its number is below what its limit is.
  within : (field : ClaimField) (l : ℕ) → claim_limit span places bytes field ≡ l → claim_number bytes field < l → Like field
  within field l e h = subst (λ k. nat_lt (claim_number bytes field) k ≡ true) (sym e) (lt-ltb (claim_number bytes field) l h)

  below : (field : ClaimField) (l : ℕ) → claim_limit span places bytes field ≡ l → Like field → claim_number bytes field < l
  below field l e h = subst (λ k. claim_number bytes field < k) e (ltb-true _ _ h)

  -- A place that is not claimed: its bytes are 0 exactly if its fields are like their descriptions.
  record Blank (i : ℕ) : Type 0 where
    kind : slice_index bytes (4 + 3 * i) ≡ 0
    level : two bytes (5 + 3 * i) ≡ 0

  blank_fits : (i : ℕ) → is_claimed bytes i ≡ false → Blank i → place_fits span places bytes i ≡ true
  blank_fits i c b =
      and_from _ _
      (within (Kind i) 1 (cond-false (is_claimed bytes i) 2 1 c) (omega (arith, b.kind)))
      (within (Level i) 1 (cond-false (is_claimed bytes i) span 1 c) (omega (arith, b.level)))

  fits_blank : (i : ℕ) → is_claimed bytes i ≡ false → place_fits span places bytes i ≡ true → Blank i
  fits_blank i c h =
      let p = and_parts (like_claim span places bytes (Kind i)) (like_claim span places bytes (Level i)) h in
      record {
        kind = omega (arith, below (Kind i) 1 (cond-false (is_claimed bytes i) 2 1 c) p.0);
        level = omega (arith, below (Level i) 1 (cond-false (is_claimed bytes i) span 1 c) p.1);
      }

  -- A place that is claimed.
  kind_same : (x : ℕ) → nat_lt x 2 ≡ nat_le x 1
  kind_same x = same (nat_lt x 2) (nat_le x 1) (λ h. le-leb x 1 (omega (arith, ltb-true x 2 h))) (λ h. lt-ltb x 2 (omega (arith, leb-true x 1 h)))

  claimed_same : (i : ℕ) → is_claimed bytes i ≡ true → place_fits span places bytes i ≡ like_a_place span bytes i
  claimed_same i c =
      ap
      (λ b. nat_lt (slice_index bytes (4 + 3 * i)) (if b then 2 else 1) && nat_lt (two bytes (5 + 3 * i)) (if b then span else 1))
      c
      ∙ ap (λ b. b && nat_lt (two bytes (5 + 3 * i)) span) (kind_same (slice_index bytes (4 + 3 * i)))

  -- Each byte from a place on lies in a field.
  in_place : (n k : ℕ) → Blank n → 4 + 3 * n ≤ k → k < 7 + 3 * n → slice_index bytes k ≡ 0
  in_place n k b lo hi =
      ⊎_elim
      (λ (e : k ≡ 4 + 3 * n). ap (slice_index bytes) e ∙ b.kind)
      (λ (ne : k ≡ 4 + 3 * n → ⊥).
      ⊎_elim
      (λ (e : k ≡ 5 + 3 * n). ap (slice_index bytes) e ∙ omega (arith, b.level))
      (λ (nf : k ≡ 5 + 3 * n → ⊥).
      let e : k ≡ 5 + 3 * n + 1 = omega (arith, ne, nf) in
      ap (slice_index bytes) e ∙ omega (arith, b.level))
      (cases_eq k (5 + 3 * n)))
      (cases_eq k (4 + 3 * n))

  in_places : (d n : ℕ) → ((i : ℕ) → d ≤ i → i < n → Blank i) → (k : ℕ) → 4 + 3 * d ≤ k → k < 4 + 3 * n → slice_index bytes k ≡ 0
  in_places d zero h k lo hi = absurd (omega arith)
  in_places d (suc n) h k lo hi =
      ⊎_elim
      (λ (w : k < 4 + 3 * n). in_places d n (λ i u v. h i u (omega arith)) k lo w)
      (λ (w : 4 + 3 * n ≤ k). in_place n k (h n (omega arith) (omega arith)) w (omega arith))
      (cases_lt k (4 + 3 * n))

  -- Under mark 0.
  unmarked : empty ≡ true → (i : ℕ) → is_claimed bytes i ≡ false
  unmarked e i = and_left (not empty) (nat_lt i depth) (not_from_true empty e)

  zeros_fit : empty ≡ true → zeros bytes ≡ true → every_field_fits span places bytes ≡ true
  zeros_fit e h =
      let zero_at = zeros_at bytes h in
      and_from _ _ (within Mark 2 refl (omega (arith, zero_at 0)))
      (and_from _ _ (within Depth 1 (cond-true empty 1 (places + 1) e) (omega (arith, zero_at 1)))
      (and_from _ _ (within Surrounding 1 (cond-true empty 1 span e) (omega (arith, zero_at 2, zero_at 3)))
      (all_below_from (place_fits span places bytes) places
      (λ i w.
      blank_fits i (unmarked e i)
      (record { kind = zero_at (4 + 3 * i); level = omega (arith, zero_at (5 + 3 * i), zero_at (5 + 3 * i + 1)) })))))

  head_zero : slice_index bytes 0 ≡ 0 → slice_index bytes 1 ≡ 0 → two bytes 2 ≡ 0 → (k : ℕ) → k < 4 → slice_index bytes k ≡ 0
  head_zero m d s zero w = m
  head_zero m d s (suc zero) w = d
  head_zero m d s (suc (suc zero)) w = omega (arith, s)
  head_zero m d s (suc (suc (suc zero))) w = omega (arith, s)
  head_zero m d s (suc (suc (suc (suc k)))) w = absurd (omega arith)

  fit_zeros : length bytes ≤ 4 + 3 * places → empty ≡ true → every_field_fits span places bytes ≡ true → zeros bytes ≡ true
  fit_zeros len e h =
      let p = and_parts (like_claim span places bytes Mark) _ h in
      let q = and_parts (like_claim span places bytes Depth) _ p.1 in
      let r = and_parts (like_claim span places bytes Surrounding) _ q.1 in
      let d : slice_index bytes 1 ≡ 0 = omega (arith, below Depth 1 (cond-true empty 1 (places + 1) e) q.0) in
      let s : two bytes 2 ≡ 0 = omega (arith, below Surrounding 1 (cond-true empty 1 span e) r.0) in
      let blank : (i : ℕ) → i < places → Blank i = λ i w. fits_blank i (unmarked e i) (all_below_holds (place_fits span places bytes) places r.1 i w) in
      zeros_from bytes
      (λ k w.
      ⊎_elim
      (λ (u : k < 4). head_zero (eqb-true _ 0 e) d s k u)
      (λ (u : 4 ≤ k). in_places 0 places (λ i _ v. blank i v) k (omega arith) (omega (arith, len)))
      (cases_lt k 4))

  -- Under another mark.
  claimed : empty ≡ false → (i : ℕ) → i < depth → is_claimed bytes i ≡ true
  claimed e i w = and_from (not empty) (nat_lt i depth) (not_from_false empty e) (lt-ltb i depth w)

  unclaimed : (i : ℕ) → depth ≤ i → is_claimed bytes i ≡ false
  unclaimed i w = and_right (not empty) (nat_lt i depth) (lt-leb (suc i) depth (omega arith))

  after_zero : zeros (drop (4 + 3 * depth) bytes) ≡ true → (k : ℕ) → 4 + 3 * depth ≤ k → slice_index bytes k ≡ 0
  after_zero h k w =
      let at : 4 + 3 * depth + (k - (4 + 3 * depth)) ≡ k = omega arith in
      ap (slice_index bytes) (sym at) ∙ sym (get_or-drop (4 + 3 * depth) bytes (k - (4 + 3 * depth)) 0)
      ∙ zeros_at (drop (4 + 3 * depth) bytes) h (k - (4 + 3 * depth))

  marked_fit : empty ≡ false → marked ≡ true → every_field_fits span places bytes ≡ true
  marked_fit e h =
      let p = and_parts (slice_index bytes 0 == 1) _ h in
      let q = and_parts (nat_le depth places) _ p.1 in
      let r = and_parts (nat_lt (two bytes 2) span) _ q.1 in
      let s = and_parts (all_below (like_a_place span bytes) depth) _ r.1 in
      let zero_at = after_zero s.1 in
      and_from _ _ (within Mark 2 refl (omega (arith, eqb-true (slice_index bytes 0) 1 p.0)))
      (and_from _ _ (within Depth (places + 1) (cond-false empty 1 (places + 1) e) (omega (arith, leb-true depth places q.0)))
      (and_from _ _ (within Surrounding span (cond-false empty 1 span e) (ltb-true (two bytes 2) span r.0))
      (all_below_from (place_fits span places bytes) places
      (λ i w.
      ⊎_elim
      (λ (u : i < depth). claimed_same i (claimed e i u) ∙ all_below_holds (like_a_place span bytes) depth s.0 i u)
      (λ (u : depth ≤ i).
      blank_fits i (unclaimed i u)
      (record {
        kind = zero_at (4 + 3 * i) (omega arith);
        level = omega (arith, zero_at (5 + 3 * i) (omega arith), zero_at (5 + 3 * i + 1) (omega arith));
      }))
      (cases_lt i depth)))))

  fit_marked : length bytes ≤ 4 + 3 * places → empty ≡ false → every_field_fits span places bytes ≡ true → marked ≡ true
  fit_marked len e h =
      let p = and_parts (like_claim span places bytes Mark) _ h in
      let q = and_parts (like_claim span places bytes Depth) _ p.1 in
      let r = and_parts (like_claim span places bytes Surrounding) _ q.1 in
      let fits = all_below_holds (place_fits span places bytes) places r.1 in
      let m = below Mark 2 refl p.0 in
      let ne = eqb-false (slice_index bytes 0) 0 e in
      let d = below Depth (places + 1) (cond-false empty 1 (places + 1) e) q.0 in
      let s = below Surrounding span (cond-false empty 1 span e) r.0 in
      let room : depth ≤ places = omega (arith, d) in
      and_from _ _ (eq-eqb (slice_index bytes 0) 1 (omega (arith, m, ne)))
      (and_from _ _ (le-leb depth places room)
      (and_from _ _ (lt-ltb (two bytes 2) span s)
      (and_from _ _
      (all_below_from (like_a_place span bytes) depth (λ i w. sym (claimed_same i (claimed e i w)) ∙ fits i (omega arith)))
      (zeros_from (drop (4 + 3 * depth) bytes)
      (λ k w.
      get_or-drop (4 + 3 * depth) bytes k 0
      ∙ in_places depth places (λ i u v. fits_blank i (unclaimed i u) (fits i v)) (4 + 3 * depth + k) (omega arith)
      (omega (arith, len, length-drop (4 + 3 * depth) bytes)))))))

  pub by_cases_same : length bytes ≤ 4 + 3 * places → like_a_claim span places bytes ≡ every_field_fits span places bytes
  by_cases_same len =
      ⊎_elim
      (λ (e : empty ≡ true). cond-true empty (zeros bytes) marked e ∙ same (zeros bytes) _ (zeros_fit e) (fit_zeros len e))
      (λ (e : empty ≡ false). cond-false empty (zeros bytes) marked e ∙ same marked _ (marked_fit e) (fit_marked len e))
      (cases_Bool empty)

-- A check of such a record that gives its fault answers 0 exactly where the record is like a claim, and else 9.
pub check_answer : (span places label place : ℕ) (rest : List ℕ) (result : Result (Unit {0}) RecordFault) →
    result_err result ≡ claim_fault span places label place (take (4 + 3 * places) rest) →
    record_answer result ≡ (if like_a_claim span places (take (4 + 3 * places) rest) then 0 else 9)
check_answer span places label place rest result h =
    let bytes : List ℕ = take (4 + 3 * places) rest in
    let like = by_cases_same span places bytes (omega (arith, length-take (4 + 3 * places) rest)) in
    claim_answer span places label place bytes result h ∙ ap (λ b. if b then 0 else 9) (sym like)
