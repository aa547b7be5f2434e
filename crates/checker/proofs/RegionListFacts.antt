-- The list of a region as labels enter it: what it has then, that each label is in it once, and that there is room. Assumes
-- nothing.
use Rattle.std.proofs.Common.{◌≡◌, ℕ, zero, suc, ◌+◌, ◌<◌, ◌≤◌, Bool, true, false, cond, eqb, ◌||◌, ◌≢◌, ◌⊎◌, List, [], ◌∷◌, ◌++◌, length, get_or, set, replicate, sym, refl, ap, ◌∙◌, subst, inl, inr, ⊎_elim, arith, length-append}
use Rattle.std.specs.List.{Contains, IsDistinct}
use Rattle.std.proofs.lemmas.Bool.{cases_eq, eq-eqb, eqb-true, eqb-false, false≢true, false_from_ne_true}
use Rattle.std.proofs.lemmas.List.{get_or-set_same, get_or-set_other, get_or-replicate, length-set, length-replicate}
use Rattle.std.proofs.lemmas.Map.Keys.{IsDistinct-push}
use Rattle.std.proofs.lemmas.Map.Steps.{length-le_from_distinct_below}
use Rattle.std.proofs.lemmas.Cmp.{nat_eq_equiv}
use Rattle.checker.specs.RegionList.{has, NoDup, RegionList, with_label, with_labels, WellListed, TableOf}
use Rattle.checker.proofs.ContainsFacts.{contains_first, contains_rest, contains_cases, contains_none}

-- A list with one label more at its end.
abbrev pub Has : List ℕ → ℕ → Type 0
Has labels label = has labels label ≡ true

or_more : (b p q : Bool) → (p ≡ true → q ≡ true) → (b || p) ≡ true → (b || q) ≡ true
or_more true p q k h = refl
or_more false p q k h = k h

or_last : (b p : Bool) → p ≡ true → (b || p) ≡ true
or_last true p h = refl
or_last false p h = h

pub has_still : (labels : List ℕ) (x label : ℕ) → Has labels label → Has (labels ++ x ∷ []) label
has_still [] x label h = absurd (false≢true h)
has_still (y ∷ ys) x label h = or_more (eqb label y) (has ys label) (has (ys ++ x ∷ []) label) (has_still ys x label) h

pub has_last : (labels : List ℕ) (x : ℕ) → Has (labels ++ x ∷ []) x
has_last [] x = ap (λ b. b || false) (eq-eqb x x refl)
has_last (y ∷ ys) x = or_last (eqb x y) (has (ys ++ x ∷ []) x) (has_last ys x)

either : (b p : Bool) → (b || p) ≡ true → (b ≡ true) ⊎ (p ≡ true)
either true p h = inl refl
either false p h = inr h

pub has_only : (labels : List ℕ) (x label : ℕ) → Has (labels ++ x ∷ []) label → (label ≡ x) ⊎ Has labels label
has_only [] x label h =
    ⊎_elim (λ (e : eqb label x ≡ true). inl (eqb-true label x e)) (λ (k : false ≡ true). absurd (false≢true k)) (either (eqb label x) false h)
has_only (y ∷ ys) x label h =
    ⊎_elim (λ (e : eqb label y ≡ true). inr (ap (λ b. b || has ys label) e))
    (λ (k : Has (ys ++ x ∷ []) label).
    ⊎_elim (λ (e : label ≡ x). inl e) (λ (m : Has ys label). inr (or_last (eqb label y) (has ys label) m)) (has_only ys x label k))
    (either (eqb label y) (has (ys ++ x ∷ []) label) h)

has_not : (labels : List ℕ) (x label : ℕ) → label ≢ x → has (labels ++ x ∷ []) label ≡ has labels label
has_not labels x label ne = by (has labels label) refl
  where
    by : (b : Bool) → has labels label ≡ b → has (labels ++ x ∷ []) label ≡ b
    by true h = has_still labels x label h
    by false h =
        false_from_ne_true (has (labels ++ x ∷ []) label)
        (λ k. ⊎_elim (λ (e : label ≡ x). ne e) (λ (m : Has labels label). false≢true (sym h ∙ m)) (has_only labels x label k))

-- Where a label stands.
pub place_of : (labels : List ℕ) (label : ℕ) → Has labels label → (i : ℕ) × (i < length labels) × (get_or labels i 0 ≡ label)
place_of [] label h = absurd (false≢true h)
place_of (y ∷ ys) label h =
    ⊎_elim (λ (e : eqb label y ≡ true). (0, omega arith, sym (eqb-true label y e)))
    (λ (k : Has ys label). let p = place_of ys label k in (suc p.0, omega (arith, p.1), p.2)) (either (eqb label y) (has ys label) h)

pub has_at : (labels : List ℕ) (i : ℕ) → i < length labels → Has labels (get_or labels i 0)
has_at [] i h = absurd (omega (arith, h))
has_at (y ∷ ys) zero h = ap (λ b. b || has ys y) (eq-eqb y y refl)
has_at (y ∷ ys) (suc i) h = or_last (eqb (get_or ys i 0) y) (has ys (get_or ys i 0)) (has_at ys i (omega (arith, h)))

same_front : (labels : List ℕ) (x i : ℕ) → i < length labels → get_or (labels ++ x ∷ []) i 0 ≡ get_or labels i 0
same_front [] x i h = absurd (omega (arith, h))
same_front (y ∷ ys) x zero h = refl
same_front (y ∷ ys) x (suc i) h = same_front ys x i (omega (arith, h))

-- Labels that differ and are all below a number are at most so many, and one fewer without a label that is below it too.
without_one : (n j : ℕ) (labels : List ℕ) → NoDup labels → has labels j ≡ false → j < n + 1 →
    ((label : ℕ) → Has labels label → label < n + 1) → length labels ≤ n
without_one n j labels once left_out lower below =
    let all : length (labels ++ j ∷ []) ≤ n + 1 =
    length-le_from_distinct_below (labels ++ j ∷ []) (n + 1) (IsDistinct-push nat_eq_equiv labels j once left_out)
    (λ q h. ⊎_elim (λ (e : q ≡ j). subst (λ k. k < n + 1) (sym e) lower) (λ (k : Has labels q). below q k) (has_only labels j q h)) in
    omega (arith, all, length-append labels (j ∷ []))

pub as_many : (n : ℕ) (r : RegionList) → WellListed r → r.junction ≤ n → ((label : ℕ) → Has r.labels label → label ≤ n) → length r.labels ≤ n
as_many n r l lower below =
    without_one n r.junction r.labels l.each_once l.without_junction (omega (arith, lower)) (λ label h. omega (arith, below label h))

abbrev pub more : RegionList → ℕ → RegionList
more r label = record { junction = r.junction; labels = r.labels ++ label ∷ [] }

-- What keeps the list as it should be when a label enters it.
module _ (r : RegionList) (label : ℕ) (small : label ≤ 128) (apart : label ≢ r.junction) (new : has r.labels label ≡ false) where
  pub listed_more : WellListed r → WellListed (more r label)
  listed_more l =
      record {
        each_once = IsDistinct-push nat_eq_equiv r.labels label l.each_once new;
        without_junction = has_not r.labels label r.junction (λ e. apart (sym e)) ∙ l.without_junction;
        within =
            λ x h. ⊎_elim (λ (e : x ≡ label). subst (λ k. k ≤ 128) (sym e) small) (λ (k : Has r.labels x). l.within x k) (has_only r.labels label x h);
        junction_within = l.junction_within;
      }

  pub has_room : WellListed r → length r.labels < 128
  has_room l =
      let after = listed_more l in
      omega (arith, as_many 128 (more r label) after l.junction_within after.within, length-append r.labels (label ∷ []))

  pub table_more : (table : List Bool) → TableOf table r.labels → TableOf (set table label true) (more r label).labels
  table_more table t =
      record {
        size = length-set table label true ∙ t.size;
        says =
            λ x within.
            ⊎_elim
            (λ (e : x ≡ label).
            subst (λ k. get_or (set table label true) k false ≡ has (more r label).labels k) (sym e)
            (get_or-set_same table label true false (omega (arith, small, t.size)) ∙ sym (has_last r.labels label)))
            (λ (ne : x ≡ label → ⊥). get_or-set_other table label x true false ne ∙ t.says x within ∙ sym (has_not r.labels label x ne))
            (cases_eq x label);
      }

  -- the same of what the code holds, which is known to be this
  pub entered : (table : List Bool) (at : ℕ) (labels : List ℕ) → at ≡ label → labels ≡ (more r label).labels → WellListed r → TableOf table r.labels →
      WellListed (record { junction = r.junction; labels = labels }) × TableOf (set table at true) labels
  entered table at labels e is l t =
      subst (λ ls. WellListed (record { junction = r.junction; labels = ls }) × TableOf (set table at true) ls) (sym is)
      (listed_more l, subst (λ k. TableOf (set table k true) (more r label).labels) (sym e) (table_more table t))

listed_none : (j : ℕ) → j ≤ 128 → WellListed (record { junction = j; labels = [] })
unfolding IsDistinct
listed_none j h = record { each_once = tt; without_junction = refl; within = λ x k. absurd (false≢true k); junction_within = h }

table_none : TableOf (replicate 129 false) []
table_none = record { size = length-replicate 129 false; says = λ x h. get_or-replicate 129 x false false (omega (arith, h)) }

pub none_entered : (j : ℕ) (labels : List ℕ) → labels ≡ [] → j ≤ 128 →
    WellListed (record { junction = j; labels = labels }) × TableOf (replicate 129 false) labels
none_entered j labels is h =
    subst (λ ls. WellListed (record { junction = j; labels = ls }) × TableOf (replicate 129 false) ls) (sym is) (listed_none j h, table_none)

-- A label that the table does not have is not in the list.
pub absent : (table : List Bool) (labels : List ℕ) (label at : ℕ) → TableOf table labels → label ≤ 128 → at ≡ label → get_or table at false ≡ false →
    has labels label ≡ false
absent table labels label at t small e h = sym (t.says label small) ∙ ap (λ k. get_or table k false) (sym e) ∙ h

-- A list that has grown: nothing that it had has gone or moved.
pub record Grown (r s : RegionList) : Type 0 where
  pub junction : s.junction ≡ r.junction
  pub keeps : (label : ℕ) → Has r.labels label → Has s.labels label
  pub longer : length r.labels ≤ length s.labels
  pub front : (i : ℕ) → i < length r.labels → get_or s.labels i 0 ≡ get_or r.labels i 0

grown_self : (r : RegionList) → Grown r r
grown_self r = record { junction = refl; keeps = λ _ h. h; longer = omega arith; front = λ _ _. refl }

grown_on : {r s t : RegionList} → Grown r s → Grown s t → Grown r t
grown_on g h =
    record {
      junction = h.junction ∙ g.junction;
      keeps = λ label k. h.keeps label (g.keeps label k);
      longer = omega (arith, g.longer, h.longer);
      front = λ i within. h.front i (omega (arith, within, g.longer)) ∙ g.front i within;
    }

grown_more : (r : RegionList) (x : ℕ) → Grown r (more r x)
grown_more r x =
    record {
      junction = refl;
      keeps = λ label h. has_still r.labels x label h;
      longer = omega (arith, length-append r.labels (x ∷ []));
      front = λ i within. same_front r.labels x i within;
    }

-- One label that comes next.
module _ (r : RegionList) (x : ℕ) where
  with_one : (P : RegionList → Type 0) → ((x ≡ r.junction) ⊎ Has r.labels x → P r) → (x ≢ r.junction → has r.labels x ≡ false → P (more r x)) →
      P (with_label r x)
  with_one P there new = by (eqb x r.junction) (has r.labels x) refl refl
    where
      by : (a b : Bool) → eqb x r.junction ≡ a → has r.labels x ≡ b → P (cond (a || b) r (more r x))
      by true b e h = there (inl (eqb-true x r.junction e))
      by false true e h = there (inr h)
      by false false e h = new (eqb-false x r.junction e) h

  one_grows : Grown r (with_label r x)
  one_grows = with_one (Grown r) (λ _. grown_self r) (λ _ _. grown_more r x)

  one_has : x ≢ r.junction → Has (with_label r x).labels x
  one_has ne =
      with_one (λ s. Has s.labels x) (λ there. ⊎_elim (λ (e : x ≡ r.junction). absurd (ne e)) (λ (h : Has r.labels x). h) there)
      (λ _ _. has_last r.labels x)

  one_only : (label : ℕ) → Has (with_label r x).labels label → ((label ≡ x) × (x ≢ r.junction)) ⊎ Has r.labels label
  one_only label =
      with_one (λ s. Has s.labels label → ((label ≡ x) × (x ≢ r.junction)) ⊎ Has r.labels label) (λ _ h. inr h)
      (λ ne _ h. ⊎_elim (λ (e : label ≡ x). inl (e, ne)) (λ (k : Has r.labels label). inr k) (has_only r.labels x label h))

-- All labels that come next.
pub all_grow : (ls : List ℕ) (r : RegionList) → Grown r (with_labels r ls)
all_grow [] r = grown_self r
all_grow (x ∷ ls) r = grown_on (one_grows r x) (all_grow ls (with_label r x))

pub all_have : (ls : List ℕ) (r : RegionList) (label : ℕ) → Contains ls label → label ≢ r.junction → Has (with_labels r ls).labels label
all_have [] r label a ne = absurd (contains_none label a)
all_have (x ∷ ls) r label a ne =
    ⊎_elim
    (λ (e : label ≡ x).
    subst (λ k. Has (with_labels (with_label r x) ls).labels k) (sym e)
    ((all_grow ls (with_label r x)).keeps x (one_has r x (λ same. ne (e ∙ same)))))
    (λ (b : Contains ls label). all_have ls (with_label r x) label b (λ same. ne (same ∙ (one_grows r x).junction)))
    (contains_cases x ls label a)

pub all_only : (ls : List ℕ) (r : RegionList) (label : ℕ) → Has (with_labels r ls).labels label →
    (Contains ls label × (label ≢ r.junction)) ⊎ Has r.labels label
all_only [] r label h = inr h
all_only (x ∷ ls) r label h =
    ⊎_elim
    (λ (p : Contains ls label × (label ≢ (with_label r x).junction)).
    inl (contains_rest x ls label p.0, λ same. p.1 (same ∙ sym (one_grows r x).junction)))
    (λ (k : Has (with_label r x).labels label).
    ⊎_elim
    (λ (p : (label ≡ x) × (x ≢ r.junction)). inl (subst (Contains (x ∷ ls)) (sym p.0) (contains_first x ls), λ same. p.1 (sym p.0 ∙ same)))
    (λ (m : Has r.labels label). inr m)
    (one_only r x label k))
    (all_only ls (with_label r x) label h)
