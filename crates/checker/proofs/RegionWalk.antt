-- One run in the region of a branch on a closed boolean: it changes no open variable, and it comes to the junction with
-- some closed places on top of an end of the stack that the branch left. Assumes the laws of the order.
use Rattle.std.proofs.Common.{◌≡◌, ℕ, ◌+◌, ◌<◌, ◌≤◌, Bool, true, false, not, eqb, ◌⊎◌, List, [], ◌∷◌, length, get_or, set, ℤ, pos, int_lt, Some, sym, refl, ap, ◌∙◌, subst, inl, inr, arith}
use Rattle.std.specs.List.{Contains}
use Rattle.checker.proofs.ContainsFacts.{contains_first}
use Rattle.std.proofs.lemmas.Bool.{eqb-true, eqb-false}
use Rattle.std.proofs.lemmas.List.{set-get_or}
use Rattle.lattice.specs.Order.{Order, Laws}
use Rattle.lattice.specs.Levels.{join_level}
use Rattle.push.specs.declared.instruction.Instruction.{Instruction}
use Rattle.push.specs.declared.instruction.Instruction.TheVariants.{Add}
use Rattle.push.specs.declared.value.Value.{Value}
use Rattle.push.specs.declared.value.Value.TheVariants.{Int, Flag}
use Rattle.push.specs.Code.{fetch}
use Rattle.push.specs.Language.{successors}
use Rattle.std.specs.Ordering.{int_eq}
use Rattle.push.specs.Numbers.{sum, difference}
use Rattle.push.specs.Machine as rule
use Rattle.push.specs.Machine.{Machine, at, ◌⊢◌⟶◌}
use Rattle.push.specs.Run as steps
use Rattle.push.specs.Run.{Steps, label_of}
use Rattle.std.proofs.lemmas.Option.{slice_get-get_or, same_Some}
use Rattle.job.specs.declared.claim.Place.{Place}
use Rattle.job.specs.declared.claim.Place.TheVariants.{IntegerAt, BooleanAt}
use Rattle.job.specs.Records.{Claimed, level}
use Rattle.checker.specs.Leaving.{raised_to}
use Rattle.checker.specs.Rules.{ProgramWithClaims, exit}
use Rattle.checker.specs.Region.{Region, onward, next_labels, from_instruction}
use Rattle.checker.specs.WellClaimed.{Under, none, integer, boolean, Takes, at_exit, by_claim, Surrounded}
use Rattle.checker.proofs.SoundFacts as sound
use Rattle.checker.proofs.SoundFacts.{Levels}
use Rattle.checker.proofs.Leaves as leaving
use Rattle.checker.proofs.Leaves.{Leaves}
use Rattle.checker.proofs.Agreeing.{Agree, same, closed_same, agree_under, low_left, low_right}
use Rattle.checker.specs.Flow.{SameWhenOpen, LevelsOfVariables}
use Rattle.checker.proofs.OpenFacts.{same_here, same_then, written}
use Rattle.checker.proofs.Typing.{int, flag, has_raised, Fits, fits, fits_length, fits_under, either, rule_within, one_way, Accepted, at_label}

module _ (o : Order) (w : ℕ) where
  -- A stack with its places that is an end of another, its levels only risen.
  pub data End : List Place → List Value → List Place → List Value → Type 0 where
    kept : {ps qs : List Place} {s : List Value} → Under o ps qs → End ps s qs s
    under : {p : Place} {x : Value} {ps qs : List Place} {s t : List Value} → End ps s qs t → End (p ∷ ps) (x ∷ s) qs t

  -- Closed places on top of such an end.
  pub data Keeps : List Place → List Value → List Place → List Value → Type 0 where
    low : {ps qs : List Place} {s t : List Value} → End ps s qs t → Keeps ps s qs t
    above : {p : Place} {x : Value} {ps qs : List Place} {s t : List Value} → (o.at_most (level p) w ≡ true → ⊥) → Keeps ps s qs t → Keeps ps s (p ∷ qs) (x ∷ t)

  end_pop : {p : Place} {x : Value} {ps qs : List Place} {s t : List Value} → End ps s (p ∷ qs) (x ∷ t) → End ps s qs t
  end_pop (kept (integer h u)) = under (kept u)
  end_pop (kept (boolean h u)) = under (kept u)
  end_pop (under e) = under (end_pop e)

  pub keeps_pop : {p : Place} {x : Value} {ps qs : List Place} {s t : List Value} → Keeps ps s (p ∷ qs) (x ∷ t) → Keeps ps s qs t
  keeps_pop (low e) = low (end_pop e)
  keeps_pop (above h k) = k

  under_length : {ps qs : List Place} → Under o ps qs → length qs ≡ length ps
  under_length none = refl
  under_length (integer h u) = let more = under_length u in omega arith
  under_length (boolean h u) = let more = under_length u in omega arith

  end_length : {ps qs : List Place} {s t : List Value} → End ps s qs t → length qs ≤ length ps
  end_length (kept u) = omega (arith, under_length u)
  end_length (under e) = let more = end_length e in omega arith

  module _ (laws : Laws o) where
    under_then : {ps qs rs : List Place} → Under o ps qs → Under o qs rs → Under o ps rs
    under_then none none = none
    under_then (integer {a = a} {b = b} h u) (integer {b = c} k v) = integer (laws.transitive a b c h k) (under_then u v)
    under_then (boolean {a = a} {b = b} h u) (boolean {b = c} k v) = boolean (laws.transitive a b c h k) (under_then u v)

    end_under : {ps qs rs : List Place} {s t : List Value} → Under o qs rs → End ps s qs t → End ps s rs t
    end_under v (kept u) = kept (under_then u v)
    end_under v (under e) = under (end_under v e)

    pub keeps_under : {ps qs rs : List Place} {s t : List Value} → Under o qs rs → Keeps ps s qs t → Keeps ps s rs t
    keeps_under v (low e) = low (end_under v e)
    keeps_under (integer {a = a} {b = b} h v) (above high k) = above (λ l. high (laws.transitive a b w h l)) (keeps_under v k)
    keeps_under (boolean {a = a} {b = b} h v) (above high k) = above (λ l. high (laws.transitive a b w h l)) (keeps_under v k)

    -- Two runs meet: places of one end agree as they did, all others are closed.
    meet_ends : {ps qs : List Place} {s t s' t' : List Value} → End ps s qs s' → End ps t qs t' → Agree o w ps s t → Agree o w qs s' t'
    meet_ends (kept u) (kept v) r = agree_under o w laws u r
    meet_ends (under e) (under f) (same h r) = meet_ends e f r
    meet_ends (kept u) (under f) r = absurd (let long = under_length u in let short = end_length f in omega arith)
    meet_ends (under e) (kept v) r = absurd (let long = under_length v in let short = end_length e in omega arith)

    pub meet : {ps qs : List Place} {s t s' t' : List Value} → Keeps ps s qs s' → Keeps ps t qs t' → Fits qs s' → Fits qs t' → Agree o w ps s t →
        Agree o w qs s' t'
    meet (low e) (low f) fs ft r = meet_ends e f r
    meet (above high k) k' (fits h fs) (fits h' ft) r = same (closed_same o w high h h') (meet k (keeps_pop k') fs ft r)
    meet (low e) (above high k) (fits h fs) (fits h' ft) r = same (closed_same o w high h h') (meet (low (end_pop e)) k fs ft r)

    module _ (levels : List ℕ) (graded : LevelsOfVariables o levels) (code : List Instruction) (p l : ℕ) (hp : p < o.span)
        (closed : o.at_most p w ≡ true → ⊥) where
      -- One step at a label that is surrounded by a closed level.
      pub record Hidden (i : Instruction) (ps : List Place) (s : List Value) (qs : List Place) (t : List Value) (vs : List ℤ) : Type 0 where
        pub next : ℕ
        pub stack : List Value
        pub values : List ℤ
        pub by_rule : code ⊢ at l t vs ⟶ at next stack values
        pub among : Contains (successors i l) next
        pub fits : Fits qs stack
        pub keeps : Keeps ps s qs stack
        pub unchanged : SameWhenOpen o levels w vs values

      hidden : {i : Instruction} {ps : List Place} {s : List Value} {qs : List Place} {t : List Value} {vs : List ℤ} {next : ℕ} {values : List ℤ} →
          (stack : List Value) → code ⊢ at l t vs ⟶ at next stack values → Contains (successors i l) next →
          Fits qs stack → Keeps ps s qs stack → SameWhenOpen o levels w vs values → Hidden i ps s qs t vs
      hidden {next = next} {values = values} stack by_rule among f keeps unchanged =
          record {
            next = next;
            stack = stack;
            values = values;
            by_rule = by_rule;
            among = among;
            fits = f;
            keeps = keeps;
            unchanged = unchanged;
          }

      closed_join : (a : ℕ) → a < o.span → o.at_most (o.join a p) w ≡ true → ⊥
      closed_join a ha h = closed (low_right o w laws a p ha hp h)

      -- a place raised by the surrounding level is closed
      raised_closed : (q : Place) → level q < o.span → o.at_most (level (raised_to o p q)) w ≡ true → ⊥
      raised_closed (IntegerAt a) ha h = closed (low_left o w laws p a hp ha h)
      raised_closed (BooleanAt a) ha h = closed (low_left o w laws p a hp ha h)

      hidden_store : (v a : ℕ) (x : ℤ) (vs : List ℤ) → v < 32 → a < o.span → o.at_most (o.join a p) (get_or levels v 0) ≡ true → length vs ≡ 32 →
          SameWhenOpen o levels w vs (set vs v x)
      hidden_store v a x vs small ha up sized =
          let high : o.at_most (get_or levels v 0) w ≡ true → get_or vs v (pos 0) ≡ x =
          λ seen. absurd (closed_join a ha (laws.transitive (o.join a p) (get_or levels v 0) w up seen)) in
          subst (λ us. SameWhenOpen o levels w us (set vs v x)) (set-get_or vs v (pos 0))
          (written v (get_or vs v (pos 0)) x vs vs small high (same_here vs sized))

      pub hidden_step : {i : Instruction} {ps qs rs : List Place} {s t : List Value} → fetch code l ≡ Some i → Leaves o levels p i qs rs → Levels o qs →
          (vs : List ℤ) → length vs ≡ 32 → Fits qs t → Keeps ps s qs t → Hidden i ps s rs t vs
      hidden_step {t = t} at_l (leaving.load {v = v} small room) ls vs sized f k =
          hidden (Int (get_or vs v (pos 0)) ∷ t) (rule.load at_l small (omega (arith, fits_length f))) (contains_first (l + 1) []) (fits int f)
          (above (closed_join (get_or levels v 0) (graded v small)) k) (same_here vs sized)
      hidden_step at_l (leaving.store {v = v} {a = a} small up) (sound.more ha ls) vs sized (fits {s = t} (int {x = x}) f) k =
          hidden t (rule.store at_l small) (contains_first (l + 1) []) f (keeps_pop k) (hidden_store v a x vs small ha up sized)
      hidden_step {t = t} at_l (leaving.push {x = x} room) ls vs sized f k =
          hidden (Int x ∷ t) (rule.push at_l (omega (arith, fits_length f))) (contains_first (l + 1) []) (fits int f) (above closed k) (same_here vs sized)
      hidden_step at_l (leaving.add {a = a} {b = b}) (sound.more ha (sound.more hb ls)) vs sized (fits (int {x = x}) (fits {s = t} (int {x = u}) f)) k =
          hidden (Int (sum u x) ∷ t) (rule.add at_l) (contains_first (l + 1) []) (fits int f)
          (above (closed_join (o.join a b) (join_level o laws a b ha hb)) (keeps_pop (keeps_pop k))) (same_here vs sized)
      hidden_step at_l (leaving.sub {a = a} {b = b}) (sound.more ha (sound.more hb ls)) vs sized (fits (int {x = x}) (fits {s = t} (int {x = u}) f)) k =
          hidden (Int (difference u x) ∷ t) (rule.sub at_l) (contains_first (l + 1) []) (fits int f)
          (above (closed_join (o.join a b) (join_level o laws a b ha hb)) (keeps_pop (keeps_pop k))) (same_here vs sized)
      hidden_step at_l (leaving.eq {a = a} {b = b}) (sound.more ha (sound.more hb ls)) vs sized (fits (int {x = x}) (fits {s = t} (int {x = u}) f)) k =
          hidden (Flag (int_eq u x) ∷ t) (rule.eq at_l) (contains_first (l + 1) []) (fits flag f)
          (above (closed_join (o.join a b) (join_level o laws a b ha hb)) (keeps_pop (keeps_pop k))) (same_here vs sized)
      hidden_step at_l (leaving.less {a = a} {b = b}) (sound.more ha (sound.more hb ls)) vs sized (fits (int {x = x}) (fits {s = t} (int {x = u}) f)) k =
          hidden (Flag (int_lt u x) ∷ t) (rule.less at_l) (contains_first (l + 1) []) (fits flag f)
          (above (closed_join (o.join a b) (join_level o laws a b ha hb)) (keeps_pop (keeps_pop k))) (same_here vs sized)
      hidden_step at_l (leaving.not {a = a}) (sound.more ha ls) vs sized (fits {s = t} (flag {b = b}) f) k =
          hidden (Flag (not b) ∷ t) (rule.not at_l) (contains_first (l + 1) []) (fits flag f) (above (closed_join a ha) (keeps_pop k)) (same_here vs sized)
      hidden_step {t = t} at_l (leaving.goto {m = m}) ls vs sized f k =
          hidden t (rule.goto at_l) (contains_first m []) f k (same_here vs sized)
      hidden_step at_l (leaving.gotof {m = m}) ls vs sized (fits {s = t} (flag {b = b}) f) k =
          hidden t (rule.gotof at_l) (either l m b) f (keeps_pop k) (same_here vs sized)
      hidden_step at_l (leaving.copy {q = q} room) (sound.more hq ls) vs sized (fits {x = x} {s = t} h f) k =
          hidden (x ∷ x ∷ t) (rule.copy at_l (omega (arith, fits_length f))) (contains_first (l + 1) []) (fits (has_raised o p h) (fits h f))
          (above (raised_closed q hq) k) (same_here vs sized)
      hidden_step at_l (leaving.swap {q = q} {r = r}) (sound.more hq (sound.more hr ls)) vs sized (fits {x = x} h (fits {x = u} {s = t} h' f)) k =
          hidden (u ∷ x ∷ t) (rule.swap at_l) (contains_first (l + 1) []) (fits (has_raised o p h') (fits (has_raised o p h) f))
          (above (raised_closed r hr) (above (raised_closed q hq) (keeps_pop (keeps_pop k)))) (same_here vs sized)
      hidden_step at_l leaving.drop ls vs sized (fits {s = t} h f) k =
          hidden t (rule.drop at_l) (contains_first (l + 1) []) f (keeps_pop k) (same_here vs sized)

-- The walk from a label of the region, or from the junction at once, to the junction.
module _ (o : Order) (laws : Laws o) (w : ℕ) (levels : List ℕ) (graded : LevelsOfVariables o levels) (job : ProgramWithClaims) (acc : Accepted o levels job)
    (from j g : ℕ) (avoids : Region job.code j from (exit job) → ⊥)
    (raised : (inside : ℕ) → Region job.code j from inside → inside < exit job → Surrounded o job g inside) (closed : o.at_most g w ≡ true → ⊥) where
  -- The stack at the junction, where it is a claimed label.
  pub data AtJunction (ps : List Place) (s t : List Value) : Type 0 where
    junction_exit : j ≡ exit job → AtJunction ps s t
    junction_claim : {c : Claimed} → (j ≡ exit job → ⊥) → job.claim j ≡ Some c → Fits c.stack t → Keeps o w ps s c.stack t → AtJunction ps s t

  pub record Reached (k : ℕ) (ps : List Place) (s : List Value) (vs : List ℤ) (e : Machine) : Type 0 where
    pub later : ℕ
    pub fewer : later ≤ k
    pub stack : List Value
    pub values : List ℤ
    pub goes_on : Steps job.code later (at j stack values) e
    pub unchanged : SameWhenOpen o levels w vs values
    pub there_at : AtJunction ps s stack

  arrived : (ps qs : List Place) (s t : List Value) → Takes o job qs j → Fits qs t → Keeps o w ps s qs t → AtJunction ps s t
  arrived ps qs s t (at_exit e empty) f k = junction_exit e
  arrived ps qs s t (by_claim other has u) f k = junction_claim other has (fits_under u f) (keeps_under o w laws u k)

  pub reach : {k : ℕ} {m e : Machine} → Steps job.code k m e → label_of e ≡ exit job → (l : ℕ) (ps qs : List Place) (s t : List Value) (vs : List ℤ) →
      m ≡ at l t vs → (l ≡ j) ⊎ Region job.code j from l → Takes o job qs l → Fits qs t → Keeps o w ps s qs t → length vs ≡ 32 → Reached k ps s vs e
  reach {k} {m} {e} run halted l ps qs s t vs is (inl arrives) takes f keeps sized =
      record {
        later = k;
        fewer = omega arith;
        stack = t;
        values = vs;
        goes_on = subst (λ q. Steps job.code k q e) (is ∙ ap (λ x. at x t vs) arrives) run;
        unchanged = same_here vs sized;
        there_at = arrived ps qs s t (subst (Takes o job qs) arrives takes) f keeps;
      }
  reach run halted l ps qs s t vs is (inr inside) (at_exit e empty) f keeps sized = absurd (avoids (subst (Region job.code j from) e inside))
  reach steps.none halted l ps qs s t vs is (inr inside) (by_claim other has u) f keeps sized = absurd (other (ap label_of (sym is) ∙ halted))
  reach {e = e} (steps.more {k = k} {m = m} {n = n} r rest) halted l ps qs s t vs is (inr inside) (by_claim {c = c} other has u) f keeps sized =
      let first : job.code ⊢ at l t vs ⟶ n = subst (λ q. job.code ⊢ q ⟶ n) is r in
      let below = rule_within job.code l t vs n first in
      let sur = raised l inside below in
      let same_claim : sur.claimed ≡ c = same_Some _ _ (sym sur.has ∙ has) in
      let at_least : o.at_most g c.surrounding ≡ true = subst (λ d. o.at_most g d.surrounding ≡ true) same_claim sur.at_least in
      let high : o.at_most c.surrounding w ≡ true → ⊥ = λ seen. closed (laws.transitive g c.surrounding w at_least seen) in
      let i : Instruction = get_or job.code l Add in
      let at_l : fetch job.code l ≡ Some i = slice_get-get_or job.code l Add below in
      let label = at_label o laws levels job acc l c i below has at_l in
      let leveled = acc.leveled l c below has in
      let step =
      hidden_step o w laws levels graded job.code c.surrounding l leveled.0 high at_l label.left leveled.1 vs sized (fits_under u f)
      (keeps_under o w laws u keeps) in
      let then : n ≡ at step.next step.stack step.values = one_way job.code (at l t vs) n (at step.next step.stack step.values) first step.by_rule in
      let among : Contains (next_labels job.code l) step.next = subst (λ x. Contains (from_instruction x l) step.next) (sym at_l) step.among in
      let result =
      reach rest halted step.next ps label.places s step.stack step.values then (onwards step.next (eqb step.next j) refl among)
      (label.taken step.next step.among) step.fits step.keeps step.unchanged.right in
      record {
        later = result.later;
        fewer = omega (arith, result.fewer);
        stack = result.stack;
        values = result.values;
        goes_on = result.goes_on;
        unchanged = same_then step.unchanged result.unchanged;
        there_at = result.there_at;
      }
    where
      onwards : (next : ℕ) (t : Bool) → eqb next j ≡ t → Contains (next_labels job.code l) next → (next ≡ j) ⊎ Region job.code j from next
      onwards next true e a = inl (eqb-true next j e)
      onwards next false e a = inr (onward inside a (eqb-false next j e))
