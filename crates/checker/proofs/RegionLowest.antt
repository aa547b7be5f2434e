-- The rule of regions, asked of the list of a region, answers what it answers of the marks. Assumes nothing.
use Rattle.std.proofs.Common.{◌≡◌, ℕ, ◌+◌, ◌<◌, ◌≤◌, Bool, true, false, cond, eqb, ltb, not, ◌||◌, ◌&&◌, ◌⊎◌, List, length, get_or, take, Some, None, Option, sym, refl, ap, ◌∙◌, subst, inl, inr, ⊎_elim, arith}
use Rattle.std.proofs.lemmas.Bool.{false≢true, false_from_ne_true, and_parts, eq-eqb, eqb-true, ltb-true, ltb-false}
use Rattle.std.proofs.lemmas.List.Folds.{list_any_more}
use Rattle.lattice.specs.Order.{Order}
use Rattle.job.specs.First.{first_below}
use Rattle.job.proofs.FirstFacts.{first_found, none_below}
use Rattle.checker.specs.Rules.{ProgramWithClaims, exit}
use Rattle.checker.specs.Region.{region}
use Rattle.std.specs.Option.{MatchOption, option_map}
use Rattle.checker.specs.declared.fault.Rule.TheVariants.{RegionExit, RegionLevel}
use Rattle.checker.specs.Verdict.{claim_at_least, low_at, too_low, region_rule}
use Rattle.checker.specs.RegionList.{has, RegionList, IsTheRegion, LabelsWithin, too_low_in, IsLowest}
use Rattle.checker.specs.Surrounding.{AllInside}
use Rattle.checker.proofs.RegionSet.{marks_are_region, region_is_marked}
use Rattle.checker.proofs.RegionListFacts.{Has}
use Rattle.checker.proofs.RegionReading.{region_within}

-- A label is marked exactly if it is listed.
marks_say : (o : Order) (job : ProgramWithClaims) (branch : ℕ) (r : RegionList) → exit job ≤ 128 → IsTheRegion job.code branch r →
    (label : ℕ) → label ≤ 128 →
    get_or (region job.code r.junction branch) label false ≡ has r.labels label
marks_say o job branch r few is label small = by (has r.labels label) refl
  where
    by : (b : Bool) → has r.labels label ≡ b → get_or (region job.code r.junction branch) label false ≡ b
    by true h = region_is_marked job.code r.junction branch few small ((is label).0 h)
    by false h =
        false_from_ne_true (get_or (region job.code r.junction branch) label false)
        (λ m. false≢true (sym h ∙ (is label).1 (marks_are_region job.code r.junction branch label m)))

-- Without the exit, all listed labels are below it.
pub all_inside : (job : ProgramWithClaims) (branch : ℕ) (r : RegionList) → IsTheRegion job.code branch r → LabelsWithin job.code →
    has r.labels (exit job) ≡ false → AllInside job r.labels
all_inside job branch r is ends outside label listed =
    let inside : label ≤ exit job = region_within ends ((is label).0 listed) in
    let other : label ≡ exit job → ⊥ = λ e. false≢true (sym outside ∙ ap (has r.labels) (sym e) ∙ listed) in
    omega (arith, inside, other)

module _ (o : Order) (job : ProgramWithClaims) (g branch : ℕ) (r : RegionList) (few : exit job ≤ 128) (is : IsTheRegion job.code branch r) where
  abbrev low : ℕ → Bool
  low = too_low_in o job g r.labels

  abbrev marks : List Bool
  marks = region job.code r.junction branch

  surrounded_when : (m h c : Bool) → m ≡ h → (not m || c) ≡ not (h && not c)
  surrounded_when true true true e = refl
  surrounded_when true true false e = refl
  surrounded_when false false c e = refl
  surrounded_when true false c e = absurd (false≢true (sym e))
  surrounded_when false true c e = absurd (false≢true e)

  low_says : (label : ℕ) → label ≤ 128 → low_at o job g marks label ≡ cond (not (low label)) None (Some label)
  low_says label small =
      ap (λ b. cond b None (Some label))
      (surrounded_when (get_or marks label false) (has r.labels label) (claim_at_least o g (job.claim label)) (marks_say o job branch r few is label small))

  none_low : (n : ℕ) → n ≤ 128 → ((label : ℕ) → label < n → low label ≡ false) → first_below (low_at o job g marks) n ≡ None
  none_low n small h =
      none_below (low_at o job g marks) n
      (λ label lt. low_says label (omega (arith, lt, small)) ∙ ap (λ b. cond (not b) None (Some label)) (h label lt))

  -- the lowest listed label that is too low is the first that the marks find
  pub lowest_is_first : LabelsWithin job.code → has r.labels (exit job) ≡ false → (found : Option ℕ) → IsLowest low found → too_low o job g marks ≡ found
  lowest_is_first ends outside None h = none_low (exit job) few (λ label _. h label)
  lowest_is_first ends outside (Some lowest) h =
      let listed : Has r.labels lowest = (and_parts (has r.labels lowest) (not (claim_at_least o g (job.claim lowest))) h.0).0 in
      let inside : lowest < exit job = all_inside job branch r is ends outside lowest listed in
      first_found (low_at o job g marks) lowest (exit job) lowest
      (none_low lowest (omega (arith, inside, few)) (λ label lt. false_from_ne_true (low label) (λ t. (let least = h.1 label t in omega (arith, least, lt)))))
      (low_says lowest (omega (arith, inside, few)) ∙ ap (λ b. cond (not b) None (Some lowest)) h.0)
      inside

  -- so the rule is the one that the list tells
  pub exit_inside : (label : ℕ) → has r.labels (exit job) ≡ true → region_rule o job label g marks ≡ Some (RegionExit label (exit job))
  exit_inside label h =
      ap (λ b. cond b (Some (RegionExit label (exit job))) (option_map (RegionLevel label) (too_low o job g marks)))
      (marks_say o job branch r few is (exit job) few ∙ h)

  pub exit_outside : LabelsWithin job.code → (label : ℕ) → has r.labels (exit job) ≡ false → (found : Option ℕ) → IsLowest low found →
      region_rule o job label g marks ≡ option_map (RegionLevel label) found
  exit_outside within label h found lowest =
      ap (λ b. cond b (Some (RegionExit label (exit job))) (option_map (RegionLevel label) (too_low o job g marks)))
      (marks_say o job branch r few is (exit job) few ∙ h)
      ∙ ap (option_map (RegionLevel label)) (lowest_is_first within h found lowest)

-- Whether a label is below the lowest so far, if there is one.
abbrev pub is_lower : ℕ → Option ℕ → Bool
is_lower x None = true
is_lower x (Some lowest) = ltb x lowest

or_true : (b : Bool) → (b || true) ≡ true
or_true true = refl
or_true false = refl

pub lower_by_option : (x : ℕ) (lowest : Option ℕ) (r : Bool) → MatchOption lowest (r ≡ true) (λ l. r ≡ ltb x l) → r ≡ is_lower x lowest
lower_by_option x None r h = h
lower_by_option x (Some lowest) r h = h

-- The lowest so far, where a list is read label by label.
module _ (o : Order) (job : ProgramWithClaims) (g : ℕ) where
  abbrev Lowest : List ℕ → Option ℕ → Type 0
  Lowest labels = IsLowest (too_low_in o job g labels)

  module _ (seen more : List ℕ) (x : ℕ) (one : (label : ℕ) → has more label ≡ (has seen label || eqb label x)) where
    abbrev enough : ℕ → Bool
    enough label = claim_at_least o g (job.claim label)

    still : (h e c : Bool) → h ≡ true → not c ≡ true → ((h || e) && not c) ≡ true
    still true e c _ k = k
    still false e c bad k = absurd (false≢true bad)

    seen_still : (label : ℕ) → too_low_in o job g seen label ≡ true → too_low_in o job g more label ≡ true
    seen_still label h =
        let p = and_parts (has seen label) (not (enough label)) h in
        ap (λ b. b && not (enough label)) (one label) ∙ still (has seen label) (eqb label x) (enough label) p.0 p.1

    was_or_is : (h e c : Bool) → ((h || e) && not c) ≡ true → ((h && not c) ≡ true) ⊎ ((e ≡ true) × (not c ≡ true))
    was_or_is true e c k = inl k
    was_or_is false true c k = inr (refl, k)
    was_or_is false false c k = absurd (false≢true k)

    seen_or_it : (label : ℕ) → too_low_in o job g more label ≡ true →
        (too_low_in o job g seen label ≡ true) ⊎ ((label ≡ x) × (not (enough x) ≡ true))
    seen_or_it label h =
        ⊎_elim
        (λ (k : too_low_in o job g seen label ≡ true). inl k)
        (λ (p : (eqb label x ≡ true) × (not (enough label) ≡ true)).
        let same = eqb-true label x p.0 in inr (same, subst (λ k. not (enough k) ≡ true) same p.1))
        (was_or_is (has seen label) (eqb label x) (enough label) (sym (ap (λ b. b && not (enough label)) (one label)) ∙ h))

    none_of : (f : Bool) → (f ≡ true → ⊥) → f ≡ false
    none_of f k = false_from_ne_true f k

    -- a label that is not too low, or not lower, leaves the lowest as it was
    pub lowest_stays : (lowest : Option ℕ) → (is_lower x lowest ≡ false) ⊎ (enough x ≡ true) → Lowest seen lowest → Lowest more lowest
    lowest_stays None why h =
        λ label. none_of (too_low_in o job g more label)
        (λ k. ⊎_elim (λ (s : too_low_in o job g seen label ≡ true). false≢true (sym (h label) ∙ s))
        (λ (p : (label ≡ x) × (not (enough x) ≡ true)).
        ⊎_elim (λ (bad : true ≡ false). false≢true (sym bad)) (λ (e : enough x ≡ true). false≢true (ap not (sym e) ∙ p.1)) why)
        (seen_or_it label k))
    lowest_stays (Some lowest) why h = (
      seen_still lowest h.0,
      λ label k. ⊎_elim (λ (s : too_low_in o job g seen label ≡ true). h.1 label s)
          (λ (p : (label ≡ x) × (not (enough x) ≡ true)).
          ⊎_elim (λ (l : ltb x lowest ≡ false). omega (arith, ltb-false x lowest l, p.0))
          (λ (e : enough x ≡ true). absurd (false≢true (ap not (sym e) ∙ p.1))) why)
          (seen_or_it label k),
    )

    -- and one that is both becomes the lowest
    it_is : has more x ≡ true → enough x ≡ false → too_low_in o job g more x ≡ true
    it_is h e = ap (λ b. b && not (enough x)) h ∙ ap not e

    pub lowest_is_it : (lowest : Option ℕ) → is_lower x lowest ≡ true → enough x ≡ false → has more x ≡ true → Lowest seen lowest → Lowest more (Some x)
    lowest_is_it lowest lower e there h = (
      it_is there e,
      λ label k. ⊎_elim (λ (s : too_low_in o job g seen label ≡ true). below lowest lower h label s)
          (λ (p : (label ≡ x) × (not (enough x) ≡ true)). omega (arith, p.0)) (seen_or_it label k),
    )
      where
        below : (l : Option ℕ) → is_lower x l ≡ true → Lowest seen l → (label : ℕ) → too_low_in o job g seen label ≡ true → x ≤ label
        below None lower h label s = absurd (false≢true (sym (h label) ∙ s))
        below (Some l) lower h label s = omega (arith, ltb-true x l lower, h.1 label s)

  -- the label at a place that is read next
  pub one_more : (labels : List ℕ) (i label : ℕ) → i < length labels →
      has (take (i + 1) labels) label ≡ (has (take i labels) label || eqb label (get_or labels i 0))
  one_more labels i label lt = list_any_more (eqb label) labels i 0 lt

  pub it_is_read : (labels : List ℕ) (i : ℕ) → i < length labels → has (take (i + 1) labels) (get_or labels i 0) ≡ true
  it_is_read labels i lt =
      let x : ℕ = get_or labels i 0 in
      one_more labels i x lt ∙ ap (λ b. has (take i labels) x || b) (eq-eqb x x refl) ∙ or_true (has (take i labels) x)
