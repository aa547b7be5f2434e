-- Two runs at one label that agree on what is open to an observer: under the same instruction they stay so, unless they
-- part at a branch on a closed boolean. Assumes the laws of the order.
use Rattle.std.proofs.Common.{◌≡◌, ℕ, ◌+◌, ◌<◌, Bool, true, false, cond, not, ◌⊎◌, List, [], ◌∷◌, get_or, set, ℤ, pos, int_lt, Some, sym, refl, ap, ◌∙◌, subst, ap₂, inl, inr, arith}
use Rattle.std.specs.List.{Contains}
use Rattle.checker.proofs.ContainsFacts.{contains_first}
use Rattle.std.proofs.lemmas.Bool.{true≢false}
use Rattle.lattice.specs.Order.{Order, Laws}
use Rattle.lattice.specs.Levels.{join_level}
use Rattle.push.specs.declared.instruction.Instruction.{Instruction}
use Rattle.push.specs.declared.instruction.Instruction.TheVariants.{GotoF}
use Rattle.push.specs.declared.value.Value.{Value}
use Rattle.push.specs.declared.value.Value.TheVariants.{Int, Flag}
use Rattle.push.specs.Code.{fetch}
use Rattle.push.specs.Language.{successors}
use Rattle.std.specs.Ordering.{int_eq}
use Rattle.push.specs.Numbers.{sum, difference}
use Rattle.push.specs.Machine as rule
use Rattle.push.specs.Machine.{at, ◌⊢◌⟶◌}
use Rattle.job.specs.declared.claim.Place.{Place}
use Rattle.job.specs.declared.claim.Place.TheVariants.{IntegerAt, BooleanAt}
use Rattle.job.specs.Records.{level}
use Rattle.checker.specs.Leaving.{raised_to}
use Rattle.checker.specs.WellClaimed.{Under, none, integer, boolean}
use Rattle.checker.proofs.SoundFacts as sound
use Rattle.checker.proofs.SoundFacts.{Levels}
use Rattle.checker.proofs.Leaves as leaving
use Rattle.checker.proofs.Leaves.{Leaves}
use Rattle.checker.specs.Flow.{SameWhenOpen, LevelsOfVariables}
use Rattle.checker.proofs.OpenFacts.{written}
use Rattle.checker.proofs.Typing as typing
use Rattle.checker.proofs.Typing.{Has, Fits, fits_none, fits, fits_length, either}

module _ (o : Order) (w : ℕ) where
  -- Two values of the kind of a place, equal where its level is open to w.
  pub data Same : Place → Value → Value → Type 0 where
    int : {a : ℕ} {x y : ℤ} → (o.at_most a w ≡ true → x ≡ y) → Same (IntegerAt a) (Int x) (Int y)
    flag : {a : ℕ} {b d : Bool} → (o.at_most a w ≡ true → b ≡ d) → Same (BooleanAt a) (Flag b) (Flag d)

  -- Two stacks of the claimed depth and kinds, equal at each place whose claimed level is open to w.
  pub data Agree : List Place → List Value → List Value → Type 0 where
    same_none : Agree [] [] []
    same : {q : Place} {x y : Value} {ps : List Place} {s t : List Value} → Same q x y → Agree ps s t → Agree (q ∷ ps) (x ∷ s) (y ∷ t)

  left_has : {q : Place} {x y : Value} → Same q x y → Has q x
  left_has (int h) = typing.int
  left_has (flag h) = typing.flag

  right_has : {q : Place} {x y : Value} → Same q x y → Has q y
  right_has (int h) = typing.int
  right_has (flag h) = typing.flag

  pub left_fits : {ps : List Place} {s t : List Value} → Agree ps s t → Fits ps s
  left_fits same_none = fits_none
  left_fits (same h r) = fits (left_has h) (left_fits r)

  pub right_fits : {ps : List Place} {s t : List Value} → Agree ps s t → Fits ps t
  right_fits same_none = fits_none
  right_fits (same h r) = fits (right_has h) (right_fits r)

  -- At a closed place any two values agree.
  pub closed_same : {q : Place} {x y : Value} → (o.at_most (level q) w ≡ true → ⊥) → Has q x → Has q y → Same q x y
  closed_same high typing.int typing.int = int (λ low. absurd (high low))
  closed_same high typing.flag typing.flag = flag (λ low. absurd (high low))

  -- A branch on a boolean that is closed to w.
  pub data Apart : Instruction → List Place → List Place → List Value → List Value → Type 0 where
    apart : {m j g : ℕ} {b d : Bool} {ps : List Place} {s t : List Value} → (o.at_most g w ≡ true → ⊥) → Agree ps s t →
        Apart (GotoF m j) (BooleanAt g ∷ ps) ps (Flag b ∷ s) (Flag d ∷ t)

  module _ (laws : Laws o) where
    pub agree_under : {ps qs : List Place} {s t : List Value} → Under o ps qs → Agree ps s t → Agree qs s t
    agree_under none same_none = same_none
    agree_under (integer {a = a} {b = b} le u) (same (int h) r) = same (int (λ low. h (laws.transitive a b w le low))) (agree_under u r)
    agree_under (boolean {a = a} {b = b} le u) (same (flag h) r) = same (flag (λ low. h (laws.transitive a b w le low))) (agree_under u r)

    -- what is open of a join is open of its parts
    pub low_left : (a b : ℕ) → a < o.span → b < o.span → o.at_most (o.join a b) w ≡ true → o.at_most a w ≡ true
    low_left a b ha hb h = laws.transitive a (o.join a b) w (laws.join_left a b ha hb) h

    pub low_right : (a b : ℕ) → a < o.span → b < o.span → o.at_most (o.join a b) w ≡ true → o.at_most b w ≡ true
    low_right a b ha hb h = laws.transitive b (o.join a b) w (laws.join_right a b ha hb) h

    module _ (levels : List ℕ) (graded : LevelsOfVariables o levels) (code : List Instruction) (p l : ℕ) (hp : p < o.span) where
      -- Both runs go on together.
      pub record Both (i : Instruction) (qs : List Place) (s t : List Value) (vs ws : List ℤ) : Type 0 where
        pub next : ℕ
        pub left : List Value
        pub right : List Value
        pub left_values : List ℤ
        pub right_values : List ℤ
        pub left_rule : code ⊢ at l s vs ⟶ at next left left_values
        pub right_rule : code ⊢ at l t ws ⟶ at next right right_values
        pub among : Contains (successors i l) next
        pub agree : Agree qs left right
        pub opened : SameWhenOpen o levels w left_values right_values

      both : {i : Instruction} {qs : List Place} {s t : List Value} {vs ws : List ℤ} {next : ℕ} {left_values right_values : List ℤ} →
          (left right : List Value) → code ⊢ at l s vs ⟶ at next left left_values → code ⊢ at l t ws ⟶ at next right right_values →
          Contains (successors i l) next → Agree qs left right → SameWhenOpen o levels w left_values right_values → Both i qs s t vs ws
      both {next = next} {left_values = left_values} {right_values = right_values} left right left_rule right_rule among agree opened =
          record {
            next = next;
            left = left;
            right = right;
            left_values = left_values;
            right_values = right_values;
            left_rule = left_rule;
            right_rule = right_rule;
            among = among;
            agree = agree;
            opened = opened;
          }

      -- an operand of what is open is open
      low_first : (a b : ℕ) → a < o.span → b < o.span → o.at_most (o.join (o.join a b) p) w ≡ true → o.at_most a w ≡ true
      low_first a b ha hb h = low_left a b ha hb (low_left (o.join a b) p (join_level o laws a b ha hb) hp h)

      low_second : (a b : ℕ) → a < o.span → b < o.span → o.at_most (o.join (o.join a b) p) w ≡ true → o.at_most b w ≡ true
      low_second a b ha hb h = low_right a b ha hb (low_left (o.join a b) p (join_level o laws a b ha hb) hp h)

      -- raised places agree as they did
      same_raised : {q : Place} {x y : Value} → level q < o.span → Same q x y → Same (raised_to o p q) x y
      same_raised hq (int {a = a} h) = int (λ low. h (low_right p a hp hq low))
      same_raised hq (flag {a = a} h) = flag (λ low. h (low_right p a hp hq low))

      stored : (v a : ℕ) (x y : ℤ) (vs ws : List ℤ) → v < 32 → a < o.span → o.at_most (o.join a p) (get_or levels v 0) ≡ true →
          (o.at_most a w ≡ true → x ≡ y) → SameWhenOpen o levels w vs ws → SameWhenOpen o levels w (set vs v x) (set ws v y)
      stored v a x y vs ws small ha up h opened =
          written v x y vs ws small (λ low. h (low_left a p ha hp (laws.transitive (o.join a p) (get_or levels v 0) w up low))) opened

      pub together : {i : Instruction} {ps qs : List Place} → fetch code l ≡ Some i → Leaves o levels p i ps qs → Levels o ps →
          {s t : List Value} {vs ws : List ℤ} → Agree ps s t → SameWhenOpen o levels w vs ws → Both i qs s t vs ws ⊎ Apart i ps qs s t
      together at_l (leaving.load {v = v} {ps = ps} small room) ls {s} {t} {vs} {ws} r opened =
          inl (both (Int (get_or vs v (pos 0)) ∷ s) (Int (get_or ws v (pos 0)) ∷ t) (rule.load at_l small (omega (arith, fits_length (left_fits r))))
          (rule.load at_l small (omega (arith, fits_length (right_fits r)))) (contains_first (l + 1) [])
          (same (int (λ low. opened.agree v small (low_left (get_or levels v 0) p (graded v small) hp low))) r) opened)
      together at_l (leaving.store {v = v} {a = a} small up) (sound.more ha ls) {vs = vs} {ws = ws} (same {s = s} {t = t} (int {x = x} {y = y} h) r) opened =
          inl (both s t (rule.store at_l small) (rule.store at_l small) (contains_first (l + 1) []) r (stored v a x y vs ws small ha up h opened))
      together at_l (leaving.push {x = x} room) ls {s} {t} {vs} {ws} r opened =
          inl (both (Int x ∷ s) (Int x ∷ t) (rule.push at_l (omega (arith, fits_length (left_fits r))))
          (rule.push at_l (omega (arith, fits_length (right_fits r)))) (contains_first (l + 1) []) (same (int (λ _. refl)) r) opened)
      together at_l (leaving.add {a = a} {b = b}) (sound.more ha (sound.more hb ls)) {vs = vs} {ws = ws}
          (same (int {x = x} {y = y} h) (same {s = s} {t = t} (int {x = u} {y = v} k) r)) opened =
          inl (both (Int (sum u x) ∷ s) (Int (sum v y) ∷ t) (rule.add at_l) (rule.add at_l) (contains_first (l + 1) [])
          (same (int (λ low. ap₂ sum (k (low_second a b ha hb low)) (h (low_first a b ha hb low)))) r) opened)
      together at_l (leaving.sub {a = a} {b = b}) (sound.more ha (sound.more hb ls)) {vs = vs} {ws = ws}
          (same (int {x = x} {y = y} h) (same {s = s} {t = t} (int {x = u} {y = v} k) r)) opened =
          inl (both (Int (difference u x) ∷ s) (Int (difference v y) ∷ t) (rule.sub at_l) (rule.sub at_l) (contains_first (l + 1) [])
          (same (int (λ low. ap₂ difference (k (low_second a b ha hb low)) (h (low_first a b ha hb low)))) r) opened)
      together at_l (leaving.eq {a = a} {b = b}) (sound.more ha (sound.more hb ls)) {vs = vs} {ws = ws}
          (same (int {x = x} {y = y} h) (same {s = s} {t = t} (int {x = u} {y = v} k) r)) opened =
          inl (both (Flag (int_eq u x) ∷ s) (Flag (int_eq v y) ∷ t) (rule.eq at_l) (rule.eq at_l) (contains_first (l + 1) [])
          (same (flag (λ low. ap₂ int_eq (k (low_second a b ha hb low)) (h (low_first a b ha hb low)))) r) opened)
      together at_l (leaving.less {a = a} {b = b}) (sound.more ha (sound.more hb ls)) {vs = vs} {ws = ws}
          (same (int {x = x} {y = y} h) (same {s = s} {t = t} (int {x = u} {y = v} k) r)) opened =
          inl (both (Flag (int_lt u x) ∷ s) (Flag (int_lt v y) ∷ t) (rule.less at_l) (rule.less at_l) (contains_first (l + 1) [])
          (same (flag (λ low. ap₂ int_lt (k (low_second a b ha hb low)) (h (low_first a b ha hb low)))) r) opened)
      together at_l (leaving.not {a = a}) (sound.more ha ls) {vs = vs} {ws = ws} (same {s = s} {t = t} (flag {b = b} {d = d} h) r) opened =
          inl (both (Flag (not b) ∷ s) (Flag (not d) ∷ t) (rule.not at_l) (rule.not at_l) (contains_first (l + 1) [])
          (same (flag (λ low. ap not (h (low_left a p ha hp low)))) r) opened)
      together at_l (leaving.goto {m = m}) ls {s} {t} {vs} {ws} r opened =
          inl (both s t (rule.goto at_l) (rule.goto at_l) (contains_first m []) r opened)
      together at_l (leaving.gotof {m = m} {j = j} {g = g} {ps = ps}) ls {vs = vs} {ws = ws} (same {s = s} {t = t} (flag {b = b} {d = d} h) r) opened =
          by (o.at_most g w) refl
        where
          by : (q : Bool) → o.at_most g w ≡ q →
              Both (GotoF m j) ps (Flag b ∷ s) (Flag d ∷ t) vs ws ⊎ Apart (GotoF m j) (BooleanAt g ∷ ps) ps (Flag b ∷ s) (Flag d ∷ t)
          by true low =
              inl (both s t (rule.gotof at_l) (subst (λ q. code ⊢ at l (Flag d ∷ t) ws ⟶ at (cond q (l + 1) m) t ws) (sym (h low)) (rule.gotof at_l))
              (either l m b) r opened)
          by false high = inr (apart (λ low. true≢false (sym low ∙ high)) r)
      together at_l (leaving.copy room) (sound.more ha ls) (same {x = x} {y = y} {s = s} {t = t} h r) opened =
          inl (both (x ∷ x ∷ s) (y ∷ y ∷ t) (rule.copy at_l (omega (arith, fits_length (left_fits r))))
          (rule.copy at_l (omega (arith, fits_length (right_fits r)))) (contains_first (l + 1) []) (same (same_raised ha h) (same h r)) opened)
      together at_l leaving.swap (sound.more ha (sound.more hb ls)) (same {x = x} {y = y} h (same {x = u} {y = v} {s = s} {t = t} k r)) opened =
          inl (both (u ∷ x ∷ s) (v ∷ y ∷ t) (rule.swap at_l) (rule.swap at_l) (contains_first (l + 1) [])
          (same (same_raised hb k) (same (same_raised ha h) r)) opened)
      together at_l leaving.drop ls (same {s = s} {t = t} h r) opened =
          inl (both s t (rule.drop at_l) (rule.drop at_l) (contains_first (l + 1) []) r opened)
