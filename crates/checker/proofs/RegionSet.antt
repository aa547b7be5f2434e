-- The table of marks holds exactly the region, the least set. Assumes nothing.
use Rattle.std.proofs.Common.{◌≡◌, ℕ, zero, suc, ◌+◌, ◌<◌, ◌≤◌, Bool, true, false, cond, eqb, ◌≢◌, ◌⊎◌, List, [], ◌∷◌, length, get_or, set, replicate, sym, refl, ap, ◌∙◌, subst, inl, inr, ⊎_elim, arith}
use Rattle.std.specs.List.{Contains}
use Rattle.checker.proofs.ContainsFacts.{contains_first, contains_rest, contains_cases, contains_none}
use native.Mathlib.Decide.{le_ind}
use Rattle.std.proofs.lemmas.List.{get_or-set_same, get_or_past, length-set, length-replicate, get_or-replicate}
use Rattle.std.specs.List.{count_by}
use Rattle.std.proofs.lemmas.List.Sums.{sum_by-cons, count_by-le-length}
use Rattle.std.proofs.lemmas.Bool.{cases_lt, cond_both, ne_eqb, eqb-false, false≢true}
use Rattle.push.specs.declared.instruction.Instruction.{Instruction}
use Rattle.std.proofs.lemmas.Option.{slice_get_past}
use Rattle.checker.specs.Region.{from_instruction, next_labels, Region, enter, onward, mark_all, spread_below, spread_times, region, MarksAreTheRegion}

-- A label that is marked.
abbrev Marked : List Bool → ℕ → Type 0
Marked m l = get_or m l false ≡ true

set_keeps : (m : List Bool) (x l : ℕ) → Marked m l → Marked (set m x true) l
set_keeps [] x l h = h
set_keeps (b ∷ m) zero zero h = refl
set_keeps (b ∷ m) zero (suc l) h = h
set_keeps (b ∷ m) (suc x) zero h = h
set_keeps (b ∷ m) (suc x) (suc l) h = set_keeps m x l h

set_only : (m : List Bool) (x l : ℕ) → Marked (set m x true) l → (l ≡ x) ⊎ Marked m l
set_only [] x l h = inr h
set_only (b ∷ m) zero zero h = inl refl
set_only (b ∷ m) zero (suc l) h = inr h
set_only (b ∷ m) (suc x) zero h = inr h
set_only (b ∷ m) (suc x) (suc l) h = ⊎_elim (λ (e : l ≡ x). inl (ap suc e)) (λ (k : Marked m l). inr k) (set_only m x l h)

-- Marks that another table keeps.
pub record Kept (m m' : List Bool) : Type 0 where
  pub long : length m ≡ length m'
  pub marks : (l : ℕ) → Marked m l → Marked m' l

kept_self : (m : List Bool) → Kept m m
kept_self m = record { long = refl; marks = λ l h. h }

kept_on : {a b c : List Bool} → Kept a b → Kept b c → Kept a c
kept_on p q = record { long = p.long ∙ q.long; marks = λ l h. q.marks l (p.marks l h) }

-- one label that is not the junction
one : ℕ → ℕ → List Bool → List Bool
one j x m = cond (eqb x j) m (set m x true)

one_keeps : (j x : ℕ) (m : List Bool) → Kept m (one j x m)
unfolding one
one_keeps j x m = cond_both (eqb x j) m (set m x true) (Kept m) (λ _. kept_self m) (λ _. record { long = sym (length-set m x true); marks = set_keeps m x })

one_marks : (j x : ℕ) (m : List Bool) → x ≢ j → x < length m → Marked (one j x m) x
unfolding one
one_marks j x m ne h = ap (λ b. get_or (cond b m (set m x true)) x false) (ne_eqb x j ne) ∙ get_or-set_same m x true false h

one_only : (j x l : ℕ) (m : List Bool) → Marked (one j x m) l → ((l ≡ x) × (x ≢ j)) ⊎ Marked m l
unfolding one
one_only j x l m =
    cond_both (eqb x j) m (set m x true) (λ r. Marked r l → ((l ≡ x) × (x ≢ j)) ⊎ Marked m l) (λ _ h. inr h)
    (λ f h. ⊎_elim (λ (e : l ≡ x). inl (e, eqb-false x j f)) (λ (k : Marked m l). inr k) (set_only m x l h))

all_keeps : (j : ℕ) (ls : List ℕ) (m : List Bool) → Kept m (mark_all j ls m)
unfolding one
all_keeps j [] m = kept_self m
all_keeps j (x ∷ ls) m = kept_on (one_keeps j x m) (all_keeps j ls (one j x m))

all_marks : (j x : ℕ) (ls : List ℕ) (m : List Bool) → Contains ls x → x ≢ j → x < length m → Marked (mark_all j ls m) x
unfolding one
all_marks j x [] m a ne h = absurd (contains_none x a)
all_marks j x (y ∷ ls) m a ne h =
    ⊎_elim (λ (e : x ≡ y). (all_keeps j ls (one j y m)).marks x (subst (λ z. Marked (one j z m) x) e (one_marks j x m ne h)))
    (λ (b : Contains ls x). all_marks j x ls (one j y m) b ne (omega (arith, h, (one_keeps j y m).long)))
    (contains_cases y ls x a)

all_only : (j l : ℕ) (ls : List ℕ) (m : List Bool) → Marked (mark_all j ls m) l → (Contains ls l × (l ≢ j)) ⊎ Marked m l
unfolding one
all_only j l [] m h = inr h
all_only j l (x ∷ ls) m h =
    ⊎_elim (λ (p : Contains ls l × (l ≢ j)). inl (contains_rest x ls l p.0, p.1))
    (λ (k : Marked (one j x m) l).
    ⊎_elim (λ (p : (l ≡ x) × (x ≢ j)). inl (subst (Contains (x ∷ ls)) (sym p.0) (contains_first x ls), λ e. p.1 (sym p.0 ∙ e))) (λ (n : Marked m l). inr n)
    (one_only j x l m k))
    (all_only j l ls (one j x m) h)

module _ (code : List Instruction) (j branch : ℕ) where
  -- every mark is in the region
  abbrev Inside : List Bool → Type 0
  Inside m = (l : ℕ) → Marked m l → Region code j branch l

  below_inside : (n : ℕ) (m : List Bool) → Inside m → Inside (spread_below code j n m)
  unfolding spread_below
  below_inside zero m h = h
  below_inside (suc n) m h =
      let before : List Bool = spread_below code j n m in
      let so_far : Inside before = below_inside n m h in
      cond_both (get_or before n false) (mark_all j (next_labels code n) before) before Inside
      (λ marked l k. ⊎_elim (λ (p : Contains (next_labels code n) l × (l ≢ j)). onward (so_far n marked) p.0 p.1) (λ (q : Marked before l). so_far l q)
      (all_only j l (next_labels code n) before k))
      (λ _. so_far)

  times_inside : (k : ℕ) (m : List Bool) → Inside m → Inside (spread_times code j k m)
  unfolding spread_times
  times_inside zero m h = h
  times_inside (suc k) m h = below_inside (length code) (spread_times code j k m) (times_inside k m h)

  below_keeps : (n : ℕ) (m : List Bool) → Kept m (spread_below code j n m)
  unfolding spread_below
  below_keeps zero m = kept_self m
  below_keeps (suc n) m =
      let before : List Bool = spread_below code j n m in
      cond_both (get_or before n false) (mark_all j (next_labels code n) before) before (Kept m)
      (λ _. kept_on (below_keeps n m) (all_keeps j (next_labels code n) before)) (λ _. below_keeps n m)

  one_label_keeps : (n : ℕ) (m : List Bool) → Kept (spread_below code j n m) (spread_below code j (suc n) m)
  unfolding spread_below
  one_label_keeps n m =
      let before : List Bool = spread_below code j n m in
      cond_both (get_or before n false) (mark_all j (next_labels code n) before) before (Kept before) (λ _. all_keeps j (next_labels code n) before)
      (λ _. kept_self before)

  later_keeps : (a b : ℕ) (m : List Bool) → a ≤ b → Kept (spread_below code j a m) (spread_below code j b m)
  later_keeps a b m =
      le_ind (λ n. Kept (spread_below code j a m) (spread_below code j n m)) (kept_self (spread_below code j a m))
      (λ n _ k. kept_on k (one_label_keeps n m)) b

  -- what comes after a marked label is marked when the round is over
  round_marks : (from label : ℕ) (m : List Bool) → from < length code → Marked m from → Contains (next_labels code from) label → label ≢ j →
      label < length m → Marked (spread_below code j (length code) m) label
  unfolding spread_below
  round_marks from label m within h a ne small =
      let before : List Bool = spread_below code j from m in
      let there_too : get_or before from false ≡ true = (below_keeps from m).marks from h in
      let here_now : Marked (spread_below code j (suc from) m) label =
      ap (λ b. get_or (cond b (mark_all j (next_labels code from) before) before) label false) there_too
      ∙ all_marks j label (next_labels code from) before a ne (omega (arith, (below_keeps from m).long)) in
      (later_keeps (suc from) (length code) m within).marks label here_now

-- How many are marked.
abbrev count : List Bool → ℕ
count m = count_by (λ b. b) m

count_more : (b : Bool) (m : List Bool) → count (b ∷ m) ≡ cond b 1 0 + count m
count_more b m = sum_by-cons (λ x. cond x 1 0) b m

-- A table that keeps another's marks is the same, or has more.
same_or_more : (m m' : List Bool) → Kept m m' → (m' ≡ m) ⊎ (count m < count m')
same_or_more [] [] k = inl refl
same_or_more [] (b ∷ m') k = absurd (omega (arith, k.long))
same_or_more (b ∷ m) [] k = absurd (omega (arith, k.long))
same_or_more (true ∷ m) (true ∷ m') k =
    ⊎_elim (λ (e : m' ≡ m). inl (ap (λ r. true ∷ r) e)) (λ (h : count m < count m'). inr (omega (arith, count_more true m, count_more true m')))
    (same_or_more m m' (record {
      long = omega (arith, k.long);
      marks = λ l. k.marks (suc l);
    }))
same_or_more (true ∷ m) (false ∷ m') k = absurd (false≢true (k.marks 0 refl))
same_or_more (false ∷ m) (true ∷ m') k =
    ⊎_elim (λ (e : m' ≡ m). inr (omega (arith, count_more true m', ap count e))) (λ (h : count m < count m'). inr (omega (arith, count_more true m')))
    (same_or_more m m' (record {
      long = omega (arith, k.long);
      marks = λ l. k.marks (suc l);
    }))
same_or_more (false ∷ m) (false ∷ m') k =
    ⊎_elim (λ (e : m' ≡ m). inl (ap (λ r. false ∷ r) e)) (λ (h : count m < count m'). inr h) (same_or_more m m' (record {
      long = omega (arith, k.long);
      marks = λ l. k.marks (suc l);
    }))

module _ (code : List Instruction) (j : ℕ) (m : List Bool) where
  abbrev after : ℕ → List Bool
  after k = spread_times code j k m

  round_keeps : (k : ℕ) → Kept (after k) (after (suc k))
  unfolding spread_times
  round_keeps k = below_keeps code j 0 (length code) (after k)

  times_keeps : (k : ℕ) → Kept m (after k)
  unfolding spread_times
  times_keeps zero = kept_self m
  times_keeps (suc k) = kept_on (times_keeps k) (round_keeps k)

  -- after k rounds nothing changes any more, or at least k labels are marked
  at_rest_or_many : (k : ℕ) → (after (suc k) ≡ after k) ⊎ (k ≤ count (after k))
  unfolding spread_times
  at_rest_or_many zero = inr (omega arith)
  at_rest_or_many (suc k) =
      ⊎_elim (λ (e : after (suc k) ≡ after k). inl (ap (spread_below code j (length code)) e))
      (λ (h : k ≤ count (after k)).
      ⊎_elim (λ (e : after (suc k) ≡ after k). inl (ap (spread_below code j (length code)) e))
      (λ (c : count (after k) < count (after (suc k))). inr (omega arith)) (same_or_more (after k) (after (suc k)) (round_keeps k)))
      (at_rest_or_many k)

  at_rest : (k : ℕ) → length m < k → after (suc k) ≡ after k
  at_rest k h =
      ⊎_elim (λ (e : after (suc k) ≡ after k). e)
      (λ (c : k ≤ count (after k)). absurd (omega (arith, count_by-le-length (λ b. b) (after k), (times_keeps k).long))) (at_rest_or_many k)

module _ (code : List Instruction) (j branch : ℕ) where
  start : List Bool
  start = mark_all j (next_labels code branch) (replicate 129 false)

  none_marked : (n l : ℕ) → Marked (replicate n false) l → ⊥
  none_marked n l h = grind (arith, get_or-replicate, get_or_past, length-replicate)

  start_long : length start ≡ 129
  unfolding start
  start_long = sym (all_keeps j (next_labels code branch) (replicate 129 false)).long ∙ length-replicate 129 false

  -- every mark of the table is in the region
  pub marks_are_region : (l : ℕ) → Marked (region code j branch) l → Region code j branch l
  marks_are_region =
      times_inside code j branch 130 (mark_all j (next_labels code branch) (replicate 129 false))
      (λ l h. ⊎_elim (λ (p : Contains (next_labels code branch) l × (l ≢ j)). enter p.0 p.1)
      (λ (k : Marked (replicate 129 false) l). absurd (none_marked 129 l k)) (all_only j l (next_labels code branch) (replicate 129 false) h))

  -- a label with something after it is an instruction's
  some_after : (from label : ℕ) → Contains (next_labels code from) label → from < length code
  some_after from label a =
      ⊎_elim (λ (h : from < length code). h) (λ (h : length code ≤ from).
      absurd (contains_none label (subst (λ o. Contains (from_instruction o from) label) (slice_get_past code from h) a))) (cases_lt from (length code))

  -- every label of the region that the table has a place for is marked
  pub region_is_marked : {l : ℕ} → length code ≤ 128 → l ≤ 128 → Region code j branch l → Marked (region code j branch) l
  unfolding start spread_times
  region_is_marked {l} few small (enter a ne) =
      (times_keeps code j start 130).marks l (all_marks j l (next_labels code branch) (replicate 129 false) a ne (omega (arith, length-replicate 129 false)))
  region_is_marked {l} few small (onward {from = from} r a ne) =
      let within : from < length code = some_after from l a in
      let was : Marked (region code j branch) from = region_is_marked few (omega arith) r in
      let spread : Marked (spread_below code j (length code) (region code j branch)) l =
      round_marks code j branch from l (region code j branch) within was a ne (omega (arith, (times_keeps code j start 130).long, start_long)) in
      subst (λ m. Marked m l) (at_rest code j start 130 (omega (arith, start_long))) spread

pub marks_are_the_region : MarksAreTheRegion
marks_are_the_region code j branch label few small = (marks_are_region code j branch label, region_is_marked code j branch few small)
