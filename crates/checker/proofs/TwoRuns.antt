-- Two halted runs of an accepted job from values that agree on what is open end in such values. Assumes the laws of the
-- order.
use Rattle.std.proofs.Common.{◌≡◌, ℕ, zero, suc, ◌+◌, ◌<◌, ◌≤◌, Bool, true, false, cond, eqb, ◌⊎◌, List, [], ◌∷◌, length, get_or, ℤ, Some, sym, refl, ap, ◌∙◌, subst, inl, inr, ⊎_elim, arith}
use Rattle.std.specs.List.{Contains}
use Rattle.std.proofs.lemmas.Bool.{cases_lt, eqb-true, eqb-false}
use Rattle.lattice.specs.Order.{Order, Laws}
use Rattle.push.specs.declared.instruction.Instruction.{Instruction}
use Rattle.push.specs.declared.instruction.Instruction.TheVariants.{Add, GotoF}
use Rattle.push.specs.declared.value.Value.{Value}
use Rattle.push.specs.declared.value.Value.TheVariants.{Flag}
use Rattle.push.specs.Code.{fetch}
use Rattle.push.specs.Language.{successors}
use Rattle.push.specs.Machine as rule
use Rattle.push.specs.Machine.{Machine, at, ◌⊢◌⟶◌}
use Rattle.push.specs.Run as steps
use Rattle.push.specs.Run.{Steps, label_of, values_of}
use Rattle.std.proofs.lemmas.Option.{slice_get-get_or, same_Some}
use Rattle.job.specs.declared.claim.Place.{Place}
use Rattle.job.specs.declared.claim.Place.TheVariants.{IntegerAt, BooleanAt}
use Rattle.job.specs.Records.{Claimed, level}
use Rattle.checker.specs.Rules.{ProgramWithClaims, exit}
use Rattle.checker.specs.Region.{Region, enter, next_labels, from_instruction}
use Rattle.checker.specs.WellClaimed.{Under, none, integer, boolean, Takes, at_exit, by_claim, Surrounded}
use Rattle.checker.proofs.SoundFacts as sound
use Rattle.checker.proofs.SoundFacts.{Levels}
use Rattle.checker.proofs.Agreeing.{Agree, same_none, left_fits, right_fits, agree_under, Apart, apart, together}
use Rattle.checker.proofs.RegionWalk.{kept, Keeps, low, meet, AtJunction, junction_exit, junction_claim, reach}
use Rattle.checker.specs.Flow.{SameWhenOpen, LevelsOfVariables, KeepsClosed}
use Rattle.checker.proofs.OpenFacts.{same_then, same_back}
use Rattle.checker.proofs.Typing.{Fits, either, rule_within, one_way, Accepted, at_label}

module _ (o : Order) (laws : Laws o) (w : ℕ) (levels : List ℕ) (graded : LevelsOfVariables o levels) (job : ProgramWithClaims)
    (acc : Accepted o levels job) where
  -- Two runs at one label whose stacks agree by its claim, or at the exit.
  data PairAt (l : ℕ) (s t : List Value) : Type 0 where
    pair_exit : l ≡ exit job → PairAt l s t
    pair_claim : {c : Claimed} → (l ≡ exit job → ⊥) → job.claim l ≡ Some c → Agree o w c.stack s t → PairAt l s t

  pair_arrived : {l : ℕ} {ps : List Place} {s t : List Value} → Takes o job ps l → Agree o w ps s t → PairAt l s t
  pair_arrived (at_exit e empty) r = pair_exit e
  pair_arrived (by_claim other has u) r = pair_claim other has (agree_under o w laws u r)

  under_itself : (ps : List Place) → Levels o ps → Under o ps ps
  under_itself [] ls = none
  under_itself (IntegerAt a ∷ ps) (sound.more h ls) = integer (laws.reflexive a h) (under_itself ps ls)
  under_itself (BooleanAt a ∷ ps) (sound.more h ls) = boolean (laws.reflexive a h) (under_itself ps ls)

  module _ (from j g : ℕ) (avoids : Region job.code j from (exit job) → ⊥)
      (raised : (inside : ℕ) → Region job.code j from inside → inside < exit job → Surrounded o job g inside) (closed : o.at_most g w ≡ true → ⊥) where
    abbrev Junction : List Place → List Value → List Value → Type 0
    Junction ps s t = AtJunction o laws w levels graded job acc from j g avoids raised closed ps s t

    meet_at : {ps : List Place} {s t s' t' : List Value} → Junction ps s s' → Junction ps t t' → Agree o w ps s t → PairAt j s' t'
    meet_at (junction_exit e) other_side r = pair_exit e
    meet_at (junction_claim other has f k) (junction_exit e) r = absurd (other e)
    meet_at {ps} {t = t} {t' = t'} (junction_claim {c = c} other has f k) (junction_claim {c = d} other' has' f' k') r =
        let same_claim : d ≡ c = same_Some _ _ (sym has' ∙ has) in
        pair_claim other has (meet o w laws k (subst (λ x. Keeps o w ps t x.stack t') same_claim k') f (subst (λ x. Fits x.stack t') same_claim f') r)

  -- Two runs that parted meet again at the junction.
  record Rejoined (k : ℕ) (vs ws : List ℤ) (e f : Machine) : Type 0 where
    junction : ℕ
    left_later : ℕ
    right_later : ℕ
    fewer : left_later ≤ k
    left : List Value
    right : List Value
    left_values : List ℤ
    right_values : List ℤ
    left_goes : Steps job.code left_later (at junction left left_values) e
    right_goes : Steps job.code right_later (at junction right right_values) f
    left_unchanged : SameWhenOpen o levels w vs left_values
    right_unchanged : SameWhenOpen o levels w ws right_values
    pair : PairAt junction left right

  module _ (l : ℕ) (c : Claimed) (below : l < exit job) (has : job.claim l ≡ Some c) where
    rejoined : {i : Instruction} {ps qs : List Place} {s t : List Value} → fetch job.code l ≡ Some i → c.stack ≡ ps →
        ((next : ℕ) → Contains (successors i l) next → Takes o job qs next) → Apart o w i ps qs s t → Levels o ps → (vs ws : List ℤ) → length vs ≡ 32 →
        length ws ≡ 32 → {j k : ℕ} {m n e f : Machine} → job.code ⊢ at l s vs ⟶ m → job.code ⊢ at l t ws ⟶ n → Steps job.code j m e → Steps job.code k n f →
        label_of e ≡ exit job → label_of f ≡ exit job → Rejoined j vs ws e f
    rejoined at_l stack_is taken (apart {m = target} {j = junction} {g = g} {b = b} {d = d} {ps = ps} {s = s} {t = t} closed r)
        (sound.more hg ls) vs ws sized_left sized_right {m = m} {n = n} first second run_left run_right halts_left halts_right =
        let branch = acc.well.branches l below c (GotoF target junction) has at_l in
        let g_is : level (get_or c.stack 0 (IntegerAt 0)) ≡ g = ap (λ qs. level (get_or qs 0 (IntegerAt 0))) stack_is in
        let raised : (inside : ℕ) → Region job.code junction l inside → inside < exit job → Surrounded o job g inside =
        λ inside region lt. subst (λ x. Surrounded o job x inside) g_is (branch.raised target junction inside refl region lt) in
        let avoids = branch.avoids target junction refl in
        let keeps_left = low (kept (under_itself ps ls)) in
        let keeps_right = low (kept (under_itself ps ls)) in
        let goes_left = one_way job.code (at l (Flag b ∷ s) vs) m (at (cond b (l + 1) target) s vs) first (rule.gotof at_l) in
        let goes_right = one_way job.code (at l (Flag d ∷ t) ws) n (at (cond d (l + 1) target) t ws) second (rule.gotof at_l) in
        let left =
        reach o laws w levels graded job acc l junction g avoids raised closed run_left halts_left (cond b (l + 1) target) ps ps s s vs goes_left
        (entered (cond b (l + 1) target) (eqb (cond b (l + 1) target) junction) refl (among b)) (taken (cond b (l + 1) target) (either l target b))
        (left_fits o w r) keeps_left sized_left in
        let right =
        reach o laws w levels graded job acc l junction g avoids raised closed run_right halts_right (cond d (l + 1) target) ps ps t t ws goes_right
        (entered (cond d (l + 1) target) (eqb (cond d (l + 1) target) junction) refl (among d)) (taken (cond d (l + 1) target) (either l target d))
        (right_fits o w r) keeps_right sized_right in
        record {
          junction = junction;
          left_later = left.later;
          right_later = right.later;
          fewer = left.fewer;
          left = left.stack;
          right = right.stack;
          left_values = left.values;
          right_values = right.values;
          left_goes = left.goes_on;
          right_goes = right.goes_on;
          left_unchanged = left.unchanged;
          right_unchanged = right.unchanged;
          pair = meet_at l junction g avoids raised closed left.there_at right.there_at r;
        }
      where
        among : (q : Bool) → Contains (next_labels job.code l) (cond q (l + 1) target)
        among q = subst (λ x. Contains (from_instruction x l) (cond q (l + 1) target)) (sym at_l) (either l target q)

        entered : (next : ℕ) (x : Bool) → eqb next junction ≡ x → Contains (next_labels job.code l) next → (next ≡ junction) ⊎ Region job.code junction l next
        entered next true e a = inl (eqb-true next junction e)
        entered next false e a = inr (enter a (eqb-false next junction e))

  halted_there : (l : ℕ) (s : List Value) (vs : List ℤ) (m n : Machine) → m ≡ at l s vs → l ≡ exit job → job.code ⊢ m ⟶ n → ⊥
  halted_there l s vs m n is e r = let below = rule_within job.code l s vs n (subst (λ q. job.code ⊢ q ⟶ n) is r) in absurd (omega arith)

  both_halted : (fuel : ℕ) {j k : ℕ} {m n e f : Machine} → j ≤ fuel → Steps job.code j m e → Steps job.code k n f → label_of e ≡ exit job →
      label_of f ≡ exit job → (l : ℕ) (s t : List Value) (vs ws : List ℤ) → m ≡ at l s vs → n ≡ at l t ws → PairAt l s t → SameWhenOpen o levels w vs ws →
      SameWhenOpen o levels w (values_of e) (values_of f)
  both_halted fuel enough steps.none steps.none halts_left halts_right l s t vs ws left right pair open_same = rw (left, right) open_same
  both_halted fuel {m = m} enough steps.none (steps.more {m = n} {n = n'} r rest) halts_left halts_right l s t vs ws left right pair open_same =
      absurd (halted_there l t ws n n' right (ap label_of (sym left) ∙ halts_left) r)
  both_halted fuel {n = n} enough (steps.more {m = m} {n = m'} r rest) steps.none halts_left halts_right l s t vs ws left right pair open_same =
      absurd (halted_there l s vs m m' left (ap label_of (sym right) ∙ halts_right) r)
  both_halted fuel enough (steps.more {m = m} {n = m'} q rest) (steps.more r rest') halts_left halts_right l s t vs ws left right (pair_exit e) open_same =
      absurd (halted_there l s vs m m' left e q)
  both_halted zero enough (steps.more q rest) (steps.more r rest') halts_left halts_right l s t vs ws left right (pair_claim other has agree) open_same =
      absurd (omega arith)
  both_halted (suc fuel) {e = e} {f = f} enough (steps.more {k = j} {m = m} {n = m'} q rest)
      (steps.more {k = k} {m = n} {n = n'} r rest') halts_left halts_right l s t vs ws left right (pair_claim {c = c} other has agree) open_same =
      let first : job.code ⊢ at l s vs ⟶ m' = subst (λ x. job.code ⊢ x ⟶ m') left q in
      let second : job.code ⊢ at l t ws ⟶ n' = subst (λ x. job.code ⊢ x ⟶ n') right r in
      let below = rule_within job.code l s vs m' first in
      let i : Instruction = get_or job.code l Add in
      let at_l : fetch job.code l ≡ Some i = slice_get-get_or job.code l Add below in
      let label = at_label o laws levels job acc l c i below has at_l in
      let leveled = acc.leveled l c below has in
      ⊎_elim
      (λ both.
      let next_left = one_way job.code (at l s vs) m' (at both.next both.left both.left_values) first both.left_rule in
      let next_right = one_way job.code (at l t ws) n' (at both.next both.right both.right_values) second both.right_rule in
      both_halted fuel (omega arith) rest rest' halts_left halts_right both.next both.left both.right both.left_values both.right_values next_left next_right
      (pair_arrived (label.taken both.next both.among) both.agree) both.opened)
      (λ parts.
      let again =
      rejoined l c below has at_l refl label.taken parts leveled.1 vs ws open_same.left open_same.right first second rest rest' halts_left halts_right in
      let fewer = again.fewer in
      let same = same_then (same_back again.left_unchanged) (same_then open_same again.right_unchanged) in
      both_halted fuel (omega arith) again.left_goes again.right_goes halts_left halts_right again.junction
      again.left again.right again.left_values again.right_values refl refl again.pair same)
      (together o w laws levels graded job.code c.surrounding l leveled.0 at_l label.left leveled.1 agree open_same)

  starts : PairAt 0 [] []
  starts = ⊎_elim (λ e. pair_exit (sym e)) (λ first. by first.0 first.1 first.2 (cases_lt 0 (exit job))) acc.well.entry
    where
      by : (c : Claimed) → job.claim 0 ≡ Some c → c.stack ≡ [] → (0 < exit job) ⊎ (exit job ≤ 0) → PairAt 0 [] []
      by c has empty (inl some) = pair_claim (λ e. absurd (omega arith)) has (subst (λ ps. Agree o w ps [] []) (sym empty) same_none)
      by c has empty (inr nothing_there) = pair_exit (omega arith)

pub keeps_closed : (o : Order) (laws : Laws o) (levels : List ℕ) → LevelsOfVariables o levels → (job : ProgramWithClaims) → Accepted o levels job →
    KeepsClosed o levels job.code
keeps_closed o laws levels graded job acc w vs ws alike j k s t vs' ws' left right =
    both_halted o laws w levels graded job acc j (omega arith) left right refl refl 0 [] [] vs ws refl refl (starts o laws w levels graded job acc) alike
