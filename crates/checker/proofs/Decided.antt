-- Each rule's test decides the relation that the rule names, and what it names is what the relation says is first. Assumes
-- nothing.
use Rattle.std.proofs.Common.{◌≡◌, ℕ, ◌<◌, ◌≤◌, Bool, true, false, not, ◌||◌, cond, eqb, leb, List, [], ◌∷◌, map, length, get_or, is_some, Some, None, Option, sym, refl, ap, ◌∙◌, subst, ⊎_elim, arith}
use Rattle.std.specs.List.{Contains, find}
use Rattle.std.specs.Prelude.{◌↔◌, IsTrue}
use Rattle.std.specs.Option.{option_and_then, option_or}
use Rattle.std.proofs.lemmas.Bool.{and_parts, and_from, leb-true, leb-false, eq-eqb, ne_eqb, cases_Bool, cases_eq, cond-true, cond-false, false≢true, false_from_ne_true}
use Rattle.std.proofs.lemmas.List.Folds.{find-append}
use Rattle.lattice.specs.Order.{Order}
use Rattle.push.specs.declared.instruction.Instruction.{Instruction}
use Rattle.push.specs.declared.instruction.Instruction.TheVariants.{Store, GotoF}
use Rattle.push.specs.declared.kind.Kind.{Kind}
use Rattle.push.specs.Language.{kinds_after, successors}
use Rattle.job.specs.declared.claim.Place.{Place}
use Rattle.job.specs.declared.claim.Place.TheVariants.{IntegerAt, BooleanAt}
use Rattle.job.specs.First.{first_below}
use Rattle.job.specs.Records.{Claimed, kind}
use Rattle.job.proofs.FirstFacts.{Clear, Found, first_found, none_below, search_first}
use Rattle.job.proofs.Stacks.{kinds_within, kinds_past}
use Rattle.checker.specs.Leaving.{joined_one, leaves, level_at, all_fit_under}
use Rattle.checker.specs.Rules.{ProgramWithClaims, exit, fits_its_stack, lowered_variable, is_empty, claim_takes, takes, first_refusing}
use Rattle.checker.specs.Region.{Region, region}
use Rattle.checker.specs.Verdict.{claim_at_least, is_surrounded_if_marked, too_low}
use Rattle.checker.specs.WellClaimed.{FitsItsStack, StoresUpward, Under, none, integer, boolean, Takes, at_exit, by_claim, SuccessorsTake, AvoidsExit, Surrounded, RegionRaised, FirstRefusing, LowestTooLow}
use Rattle.checker.proofs.ContainsFacts.{contains_first, contains_rest, contains_cases, contains_none}
use Rattle.checker.proofs.RegionSet.{marks_are_region, region_is_marked}

-- an option's test and what it holds
held : {X : Type 0} (x : Option X) → is_some x ≡ true → (v : X) × (x ≡ Some v)
held None h = absurd (false≢true h)
held (Some v) h = (v, refl)

-- whether there are kinds after an instruction on a stack's kinds, if it has kinds
abbrev runs : Instruction → Option (List Kind) → Bool
runs i ks = is_some (option_and_then (kinds_after i) ks)

pub decides_fits : (c : Claimed) (i : Instruction) → IsTrue (fits_its_stack c i) ↔ FitsItsStack c i
decides_fits c i = (by (leb (length c.stack) 8) refl, λ k. ap (runs i) (kinds_within c.stack k.room) ∙ ap is_some k.runs)
  where
    by : (b : Bool) → leb (length c.stack) 8 ≡ b → fits_its_stack c i ≡ true → FitsItsStack c i
    by true room h =
        let few = leb-true (length c.stack) 8 room in
        let after = held (kinds_after i (map kind c.stack)) (sym (ap (runs i) (kinds_within c.stack few)) ∙ h) in
        record { room = few; after = after.0; runs = after.1 }
    by false deep h = absurd (false≢true (sym (ap (runs i) (kinds_past c.stack (leb-false (length c.stack) 8 deep))) ∙ h))

-- a test that passes names nothing, and one that fails names its own
passes : {X : Type 0} (b : Bool) (x : X) → cond b None (Some x) ≡ None → b ≡ true
passes true x h = refl
passes false x h = cc

goes_on : {X : Type 0} (b : Bool) (x : X) (r : Option X) → cond (not b) (Some x) r ≡ None → (b ≡ true) × (r ≡ None)
goes_on true x r h = (refl, h)
goes_on false x r h = cc

fails : {X : Type 0} (b : Bool) (x y : X) → cond b None (Some x) ≡ Some y → (x ≡ y) × (b ≡ false)
fails true x y h = cc
fails false x y h = (cc, refl)

pub stored_upward : (o : Order) (levels : List ℕ) (c : Claimed) (i : Instruction) → lowered_variable o levels c i ≡ None → StoresUpward o levels c i
stored_upward o levels c (Store w) h v e =
    let same : w ≡ v = cc in
    ap (λ u. o.at_most (joined_one o c) (get_or levels u 0)) (sym same) ∙ passes (o.at_most (joined_one o c) (get_or levels w 0)) w h
stored_upward o levels c _ h v e = cc

pub lowers : (o : Order) (levels : List ℕ) (c : Claimed) (i : Instruction) (v : ℕ) → lowered_variable o levels c i ≡ Some v →
    (i ≡ Store v) × (StoresUpward o levels c i → ⊥)
lowers o levels c (Store w) v h =
    let k = fails (o.at_most (joined_one o c) (get_or levels w 0)) w v h in
    (ap Store k.0, λ up. false≢true (sym k.1 ∙ up w refl))
lowers o levels c _ v h = cc

pub not_lowered : (o : Order) (levels : List ℕ) (c : Claimed) (i : Instruction) → StoresUpward o levels c i → lowered_variable o levels c i ≡ None
not_lowered o levels c (Store w) k = ap (λ b. cond b None (Some w)) (k w refl)
not_lowered o levels c _ k = refl

pub is_lowered : (o : Order) (levels : List ℕ) (c : Claimed) (i : Instruction) (v : ℕ) → i ≡ Store v → (StoresUpward o levels c i → ⊥) →
    lowered_variable o levels c i ≡ Some v
is_lowered o levels c i v e k = by (lowered_variable o levels c i) refl
  where
    by : (found : Option ℕ) → lowered_variable o levels c i ≡ found → lowered_variable o levels c i ≡ Some v
    by None h = absurd (k (stored_upward o levels c i h))
    by (Some w) h = let stored : i ≡ Store w = (lowers o levels c i w h).0 in let same : w ≡ v = cc in h ∙ ap Some same

under : (o : Order) (ps qs : List Place) → all_fit_under o ps qs ≡ true → Under o ps qs
under o [] [] h = none
under o [] (q ∷ qs) h = absurd (false≢true h)
under o (p ∷ ps) [] h = absurd (false≢true h)
under o (IntegerAt a ∷ ps) (IntegerAt b ∷ qs) h = let p = and_parts (o.at_most a b) (all_fit_under o ps qs) h in integer p.0 (under o ps qs p.1)
under o (IntegerAt a ∷ ps) (BooleanAt b ∷ qs) h = absurd (false≢true h)
under o (BooleanAt a ∷ ps) (IntegerAt b ∷ qs) h = absurd (false≢true h)
under o (BooleanAt a ∷ ps) (BooleanAt b ∷ qs) h = let p = and_parts (o.at_most a b) (all_fit_under o ps qs) h in boolean p.0 (under o ps qs p.1)

under_fits : (o : Order) {ps qs : List Place} → Under o ps qs → all_fit_under o ps qs ≡ true
under_fits o none = refl
under_fits o (integer {a = a} {b = b} {ps = ps} {qs = qs} h u) = and_from (o.at_most a b) (all_fit_under o ps qs) h (under_fits o u)
under_fits o (boolean {a = a} {b = b} {ps = ps} {qs = qs} h u) = and_from (o.at_most a b) (all_fit_under o ps qs) h (under_fits o u)

pub emptied : (ps : List Place) → is_empty ps ≡ true → ps ≡ []
emptied [] h = refl
emptied (p ∷ ps) h = absurd (false≢true h)

claim_taken : (o : Order) (stack : List Place) (oc : Option Claimed) → claim_takes o stack oc ≡ true → (c : Claimed) × (oc ≡ Some c) × Under o stack c.stack
claim_taken o stack None h = absurd (false≢true h)
claim_taken o stack (Some c) h = (c, refl, under o stack c.stack h)

-- the first of a list at which a test fails is the first of which what it decides is not so
module _ (test : ℕ → Bool) (P : ℕ → Type 0) (decides : (n : ℕ) → IsTrue (test n) ↔ P n) where
  abbrev failing : List ℕ → Option ℕ
  failing = find (λ n. not (test n))

  one_more : (x : ℕ) (xs : List ℕ) → test x ≡ true → ((n : ℕ) → Contains xs n → P n) → (n : ℕ) → Contains (x ∷ xs) n → P n
  one_more x xs t k n a =
      ⊎_elim (λ (e : n ≡ x). subst P (sym e) ((decides x).0 t)) (λ (b : Contains xs n). k n b) (contains_cases x xs n a)

  none_fails : (xs : List ℕ) → failing xs ≡ None → (n : ℕ) → Contains xs n → P n
  none_fails [] h n a = absurd (contains_none n a)
  none_fails (x ∷ xs) h n a = let p = goes_on (test x) x (failing xs) h in one_more x xs p.0 (none_fails xs p.1) n a

  all_hold : (xs : List ℕ) → ((n : ℕ) → Contains xs n → P n) → failing xs ≡ None
  all_hold [] k = refl
  all_hold (x ∷ xs) k =
      ap (λ b. cond (not b) (Some x) (failing xs)) ((decides x).1 (k x (contains_first x xs))) ∙ all_hold xs (λ n a. k n (contains_rest x xs n a))

  first_fails : (xs : List ℕ) (n : ℕ) → failing xs ≡ Some n → FirstRefusing P xs n
  first_fails [] n h = cc
  first_fails (x ∷ xs) n h = by (test x) refl h (first_fails xs n)
    where
      by : (b : Bool) → test x ≡ b → cond (not b) (Some x) (failing xs) ≡ Some n → (failing xs ≡ Some n → FirstRefusing P xs n) →
          FirstRefusing P (x ∷ xs) n
      by true t h later =
          let k = later h in
          record { earlier = x ∷ k.earlier; later = k.later; among = ap (λ r. x ∷ r) k.among; taken = one_more x k.earlier t k.taken; refuses = k.refuses }
      by false t h later =
          let same : x ≡ n = cc in
          record {
            earlier = [];
            later = xs;
            among = ap (λ y. y ∷ xs) same;
            taken = λ y a. absurd (contains_none y a);
            refuses = λ k. false≢true (sym t ∙ (decides x).1 (subst P (sym same) k));
          }

  is_first : (xs : List ℕ) (n : ℕ) → FirstRefusing P xs n → failing xs ≡ Some n
  is_first xs n k =
      ap failing k.among ∙ find-append (λ y. not (test y)) k.earlier (n ∷ k.later)
      ∙ ap (λ r. option_or r (failing (n ∷ k.later))) (all_hold k.earlier k.taken)
      ∙ ap (λ b. cond (not b) (Some n) (failing k.later)) (false_from_ne_true (test n) (λ t. k.refuses ((decides n).0 t)))

module _ (o : Order) (job : ProgramWithClaims) (stack : List Place) where
  taken : (label : ℕ) → takes o job stack label ≡ true → Takes o job stack label
  taken label h =
      ⊎_elim (λ (e : label ≡ exit job). at_exit e
      (emptied stack (sym (cond-true (eqb label (exit job)) (is_empty stack) (claim_takes o stack (job.claim label)) (eq-eqb label (exit job) e)) ∙ h)))
      (λ (ne : label ≡ exit job → ⊥).
      let k =
      claim_taken o stack (job.claim label)
      (sym (cond-false (eqb label (exit job)) (is_empty stack) (claim_takes o stack (job.claim label)) (ne_eqb label (exit job) ne)) ∙ h) in
      by_claim ne k.1 k.2)
      (cases_eq label (exit job))

  takes_it : (label : ℕ) → Takes o job stack label → takes o job stack label ≡ true
  takes_it label (at_exit e none_left) =
      cond-true (eqb label (exit job)) (is_empty stack) (claim_takes o stack (job.claim label)) (eq-eqb label (exit job) e) ∙ ap is_empty none_left
  takes_it label (by_claim ne has u) =
      cond-false (eqb label (exit job)) (is_empty stack) (claim_takes o stack (job.claim label)) (ne_eqb label (exit job) ne) ∙ ap (claim_takes o stack) has
      ∙ under_fits o u

  decides_takes : (label : ℕ) → IsTrue (takes o job stack label) ↔ Takes o job stack label
  decides_takes label = (taken label, takes_it label)

module _ (o : Order) (levels : List ℕ) (job : ProgramWithClaims) (label : ℕ) (c : Claimed) (i : Instruction) where
  pub all_take : first_refusing o levels job label c i ≡ None → SuccessorsTake o levels job label c i
  all_take =
      none_fails (takes o job (leaves o levels c i)) (Takes o job (leaves o levels c i)) (decides_takes o job (leaves o levels c i)) (successors i label)

  pub first_refuses : (next : ℕ) → first_refusing o levels job label c i ≡ Some next →
      FirstRefusing (Takes o job (leaves o levels c i)) (successors i label) next
  first_refuses =
      first_fails (takes o job (leaves o levels c i)) (Takes o job (leaves o levels c i)) (decides_takes o job (leaves o levels c i)) (successors i label)

  pub none_refuses : SuccessorsTake o levels job label c i → first_refusing o levels job label c i ≡ None
  none_refuses =
      all_hold (takes o job (leaves o levels c i)) (Takes o job (leaves o levels c i)) (decides_takes o job (leaves o levels c i)) (successors i label)

  pub is_refused : (next : ℕ) → FirstRefusing (Takes o job (leaves o levels c i)) (successors i label) next →
      first_refusing o levels job label c i ≡ Some next
  is_refused =
      is_first (takes o job (leaves o levels c i)) (Takes o job (leaves o levels c i)) (decides_takes o job (leaves o levels c i)) (successors i label)

surrounded : (o : Order) (job : ProgramWithClaims) (g label : ℕ) → claim_at_least o g (job.claim label) ≡ true → Surrounded o job g label
surrounded o job g label h = by (job.claim label) refl h
  where
    by : (oc : Option Claimed) → job.claim label ≡ oc → claim_at_least o g oc ≡ true → Surrounded o job g label
    by None e h = absurd (false≢true h)
    by (Some c) e h = record { claimed = c; has = e; at_least = h }

surrounds : (o : Order) (job : ProgramWithClaims) (g label : ℕ) → Surrounded o job g label → claim_at_least o g (job.claim label) ≡ true
surrounds o job g label k = ap (claim_at_least o g) k.has ∙ k.at_least

-- where nothing is found first there is nothing, and else something is found
none_before : (f : ℕ → Option ℕ) (n : ℕ) → first_below f n ≡ None → (l : ℕ) → l < n → f l ≡ None
none_before f n h = ⊎_elim (λ (k : Clear f n). k.all) (λ (k : Found f n). absurd (let is = k.is in cc)) (search_first f n)

first_at : (f : ℕ → Option ℕ) (n x : ℕ) → first_below f n ≡ Some x → Found f n
first_at f n x h = ⊎_elim (λ (k : Clear f n). absurd (let is = k.is in cc)) (λ (k : Found f n). k) (search_first f n)

not_or_false : (a b : Bool) → (not a || b) ≡ false → a ≡ true
not_or_false true b h = refl
not_or_false false b h = cc

module _ (o : Order) (job : ProgramWithClaims) (few : exit job ≤ 128) (label : ℕ) (c : Claimed) (m j : ℕ) where
  abbrev pub marks : List Bool
  marks = region job.code j label

  pub exit_unmarked : AvoidsExit job label (GotoF m j) → get_or marks (exit job) false ≡ false
  exit_unmarked k = false_from_ne_true (get_or marks (exit job) false) (λ h. k m j refl (marks_are_region job.code j label (exit job) h))

  pub avoids : get_or marks (exit job) false ≡ false → AvoidsExit job label (GotoF m j)
  avoids h m' j' e r =
      let same : j ≡ j' = cc in
      false≢true (sym h ∙ region_is_marked job.code j label few few (subst (λ q. Region job.code q label (exit job)) (sym same) r))

  abbrev g : ℕ
  g = level_at c.stack 0

  abbrev is_high : ℕ → Bool
  is_high = is_surrounded_if_marked o job g marks

  -- the test of a label decides whether it is surrounded if it is in the region
  high_is_surrounded : (inside : ℕ) → inside < exit job → is_high inside ≡ true → Region job.code j label inside → Surrounded o job g inside
  high_is_surrounded inside within h r =
      surrounded o job g inside
      (sym (ap (λ b. not b || claim_at_least o g (job.claim inside)) (region_is_marked job.code j label few (omega arith) r)) ∙ h)

  surrounded_is_high : (inside : ℕ) → (Region job.code j label inside → Surrounded o job g inside) → is_high inside ≡ true
  surrounded_is_high inside k =
      ⊎_elim
      (λ (h : get_or marks inside false ≡ true).
      ap (λ b. not b || claim_at_least o g (job.claim inside)) h ∙ surrounds o job g inside (k (marks_are_region job.code j label inside h)))
      (λ (h : get_or marks inside false ≡ false). ap (λ b. not b || claim_at_least o g (job.claim inside)) h)
      (cases_Bool (get_or marks inside false))

  abbrev low_at : ℕ → Option ℕ
  low_at inside = cond (is_high inside) None (Some inside)

  pub raised_all : too_low o job g marks ≡ None → RegionRaised o job label c (GotoF m j)
  raised_all h m' j' inside e r within =
      let same : j ≡ j' = cc in
      high_is_surrounded inside within (passes (is_high inside) inside (none_before low_at (exit job) h inside within))
      (subst (λ q. Region job.code q label inside) (sym same) r)

  pub lowest_low : (inside : ℕ) → too_low o job g marks ≡ Some inside → LowestTooLow o job label c j inside
  lowest_low inside h =
      let k = first_at low_at (exit job) inside h in
      let named : low_at k.label ≡ Some inside = k.some ∙ sym k.is ∙ h in
      let failed = fails (is_high k.label) k.label inside named in
      let marked = not_or_false (get_or marks k.label false) (claim_at_least o g (job.claim k.label)) failed.1 in
      subst (LowestTooLow o job label c j) failed.0
      (record {
        held = marks_are_region job.code j label k.label marked;
        within = k.within;
        low = λ s. false≢true (sym failed.1 ∙ surrounded_is_high k.label (λ _. s));
        lowest = λ other below. high_is_surrounded other (omega (arith, k.within)) (passes (is_high other) other (k.before other below));
      })

  pub all_raised : RegionRaised o job label c (GotoF m j) → too_low o job g marks ≡ None
  all_raised k =
      none_below low_at (exit job)
      (λ inside within. ap (λ b. cond b None (Some inside)) (surrounded_is_high inside (λ r. k m j inside refl r within)))

  pub is_low : (inside : ℕ) → LowestTooLow o job label c j inside → too_low o job g marks ≡ Some inside
  is_low inside k =
      first_found low_at inside (exit job) inside
      (none_below low_at inside (λ l below. ap (λ b. cond b None (Some l)) (surrounded_is_high l (k.lowest l below))))
      (ap (λ b. cond b None (Some inside)) (false_from_ne_true (is_high inside) (λ h. k.low (high_is_surrounded inside k.within h k.held))))
      k.within
