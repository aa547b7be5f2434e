-- At a claimed label the stack has the claim's depth and kinds, and a step keeps this; so no run of an accepted job
-- faults. Assumes the laws of the order.
use Rattle.std.proofs.Common.{◌≡◌, ℕ, ◌+◌, ◌<◌, ◌≤◌, Bool, true, false, cond, not, ◌⊎◌, List, [], ◌∷◌, length, get_or, ℤ, pos, int_lt, Some, sym, refl, ap, ◌∙◌, subst, inl, inr, ⊎_elim, arith}
use Rattle.std.specs.List.{Contains}
use Rattle.checker.proofs.ContainsFacts.{contains_first, contains_rest}
use Rattle.checker.proofs.Ends.{successors_within}
use Rattle.std.proofs.lemmas.Bool.{cases_lt}
use Rattle.lattice.specs.Order.{Order, Laws}
use Rattle.push.specs.declared.instruction.Instruction.{Instruction}
use Rattle.push.specs.declared.instruction.Instruction.TheVariants.{Add}
use Rattle.push.specs.declared.value.Value.{Value}
use Rattle.push.specs.declared.value.Value.TheVariants.{Int, Flag}
use Rattle.push.specs.Code.{fetch}
use Rattle.push.specs.Language.{successors}
use Rattle.std.specs.Ordering.{int_eq}
use Rattle.push.specs.Numbers.{sum, difference}
use Rattle.push.specs.Machine as rule
use Rattle.push.specs.Machine.{Machine, at, ◌⊢◌⟶◌, perform}
use Rattle.push.specs.Run as steps
use Rattle.push.specs.Run.{Steps, label_of}
use Rattle.std.proofs.lemmas.Option.{slice_get-get_or, slice_get_past, none-some, same_Some}
use Rattle.push.proofs.StepFacts.{rule_steps}
use Rattle.job.specs.declared.claim.Place.{Place}
use Rattle.job.specs.declared.claim.Place.TheVariants.{IntegerAt, BooleanAt}
use Rattle.job.specs.Records.{Claimed}
use Rattle.checker.specs.Rules.{ProgramWithClaims, exit}
use Rattle.checker.specs.Flow.{NeverFaults}
use Rattle.checker.specs.Leaving.{raised_to}
use Rattle.checker.specs.WellClaimed.{Under, none, integer, boolean, Takes, at_exit, by_claim, WellClaimed}
use Rattle.checker.proofs.SoundFacts.{Sound, Levels}
use Rattle.checker.proofs.Leaves as leaving
use Rattle.checker.proofs.Leaves.{Leaves, kept_leaves}

-- The rules apply only below the exit, and leave only one way.
module _ (code : List Instruction) where
  pub rule_within : (l : ℕ) (s : List Value) (vs : List ℤ) (n : Machine) → code ⊢ at l s vs ⟶ n → l < length code
  rule_within l s vs n r =
      ⊎_elim (λ h. h) (λ h. absurd (none-some n (sym (ap (λ i. perform i l s vs) (slice_get_past code l h)) ∙ rule_steps code r))) (cases_lt l (length code))

  pub one_way : (m n o : Machine) → code ⊢ m ⟶ n → code ⊢ m ⟶ o → n ≡ o
  one_way m n o r q = same_Some _ _ (sym (rule_steps code r) ∙ rule_steps code q)

-- A value of the kind of its place.
pub data Has : Place → Value → Type 0 where
  int : {a : ℕ} {x : ℤ} → Has (IntegerAt a) (Int x)
  flag : {a : ℕ} {b : Bool} → Has (BooleanAt a) (Flag b)

pub has_raised : (o : Order) (g : ℕ) {q : Place} {x : Value} → Has q x → Has (raised_to o g q) x
has_raised o g int = int
has_raised o g flag = flag

-- A stack of the claimed depth and kinds.
pub data Fits : List Place → List Value → Type 0 where
  fits_none : Fits [] []
  fits : {q : Place} {x : Value} {ps : List Place} {s : List Value} → Has q x → Fits ps s → Fits (q ∷ ps) (x ∷ s)

pub fits_length : {ps : List Place} {s : List Value} → Fits ps s → length s ≡ length ps
fits_length fits_none = refl
fits_length (fits {ps = ps} {s = s} h f) = let more = fits_length f in omega arith

pub fits_under : {o : Order} {ps qs : List Place} {s : List Value} → Under o ps qs → Fits ps s → Fits qs s
fits_under none fits_none = fits_none
fits_under (integer h u) (fits int f) = fits int (fits_under u f)
fits_under (boolean h u) (fits flag f) = fits flag (fits_under u f)

-- One step from a label: by a rule, to a successor, with a stack that fits what leaves.
pub record Goes (code : List Instruction) (i : Instruction) (l : ℕ) (s : List Value) (vs : List ℤ) (qs : List Place) : Type 0 where
  pub next : ℕ
  pub stack : List Value
  pub values : List ℤ
  pub by_rule : code ⊢ at l s vs ⟶ at next stack values
  pub among : Contains (successors i l) next
  pub fits : Fits qs stack

pub either : (l m : ℕ) (b : Bool) → Contains ((l + 1) ∷ m ∷ []) (cond b (l + 1) m)
either l m true = contains_first (l + 1) (m ∷ [])
either l m false = contains_rest (l + 1) (m ∷ []) m (contains_first m [])

module _ (o : Order) (levels : List ℕ) (code : List Instruction) (p l : ℕ) where
  steps_to : {i : Instruction} {s : List Value} {vs : List ℤ} {qs : List Place} {next : ℕ} {values : List ℤ} →
      (stack : List Value) → code ⊢ at l s vs ⟶ at next stack values → Contains (successors i l) next → Fits qs stack → Goes code i l s vs qs
  steps_to {next = next} {values = values} stack by_rule among f =
      record {
        next = next;
        stack = stack;
        values = values;
        by_rule = by_rule;
        among = among;
        fits = f;
      }

  pub goes : {i : Instruction} {ps qs : List Place} → fetch code l ≡ Some i → Leaves o levels p i ps qs → {s : List Value} (vs : List ℤ) → Fits ps s →
      Goes code i l s vs qs
  goes at_l (leaving.load {v = v} {ps = ps} small room) {s} vs f =
      steps_to (Int (get_or vs v (pos 0)) ∷ s) (rule.load at_l small (omega (arith, fits_length f))) (contains_first (l + 1) []) (fits int f)
  goes at_l (leaving.store {v = v} small up) vs (fits {s = s} (int {x = t}) f) =
      steps_to s (rule.store at_l small) (contains_first (l + 1) []) f
  goes at_l (leaving.push {x = x} room) {s} vs f =
      steps_to (Int x ∷ s) (rule.push at_l (omega (arith, fits_length f))) (contains_first (l + 1) []) (fits int f)
  goes at_l leaving.add vs (fits (int {x = t}) (fits {s = s} (int {x = u}) f)) =
      steps_to (Int (sum u t) ∷ s) (rule.add at_l) (contains_first (l + 1) []) (fits int f)
  goes at_l leaving.sub vs (fits (int {x = t}) (fits {s = s} (int {x = u}) f)) =
      steps_to (Int (difference u t) ∷ s) (rule.sub at_l) (contains_first (l + 1) []) (fits int f)
  goes at_l leaving.eq vs (fits (int {x = t}) (fits {s = s} (int {x = u}) f)) =
      steps_to (Flag (int_eq u t) ∷ s) (rule.eq at_l) (contains_first (l + 1) []) (fits flag f)
  goes at_l leaving.less vs (fits (int {x = t}) (fits {s = s} (int {x = u}) f)) =
      steps_to (Flag (int_lt u t) ∷ s) (rule.less at_l) (contains_first (l + 1) []) (fits flag f)
  goes at_l leaving.not vs (fits {s = s} (flag {b = b}) f) =
      steps_to (Flag (not b) ∷ s) (rule.not at_l) (contains_first (l + 1) []) (fits flag f)
  goes at_l (leaving.goto {m = m}) {s} vs f =
      steps_to s (rule.goto at_l) (contains_first m []) f
  goes at_l (leaving.gotof {m = m}) vs (fits {s = s} (flag {b = b}) f) =
      steps_to s (rule.gotof at_l) (either l m b) f
  goes at_l (leaving.copy room) vs (fits {x = x} {s = s} h f) =
      steps_to (x ∷ x ∷ s) (rule.copy at_l (omega (arith, fits_length f))) (contains_first (l + 1) []) (fits (has_raised o p h) (fits h f))
  goes at_l leaving.swap vs (fits {x = x} h (fits {x = y} {s = s} k f)) =
      steps_to (y ∷ x ∷ s) (rule.swap at_l) (contains_first (l + 1) []) (fits (has_raised o p k) (fits (has_raised o p h) f))
  goes at_l leaving.drop vs (fits {s = s} h f) =
      steps_to s (rule.drop at_l) (contains_first (l + 1) []) f

-- What acceptance tells of a job.
pub record Accepted (o : Order) (levels : List ℕ) (job : ProgramWithClaims) : Type 0 where
  pub well : WellClaimed o levels job
  pub sound : (label : ℕ) (i : Instruction) → fetch job.code label ≡ Some i → Sound (exit job) i
  pub leveled : (label : ℕ) (c : Claimed) → label < exit job → job.claim label ≡ Some c → (c.surrounding < o.span) × Levels o c.stack

module _ (o : Order) (laws : Laws o) (levels : List ℕ) (job : ProgramWithClaims) (acc : Accepted o levels job) where
  -- What a claimed label with an instruction leaves.
  pub record AtLabel (l : ℕ) (c : Claimed) (i : Instruction) : Type 0 where
    pub places : List Place
    pub left : Leaves o levels c.surrounding i c.stack places
    pub taken : (next : ℕ) → Contains (successors i l) next → Takes o job places next
    pub within : (next : ℕ) → Contains (successors i l) next → next ≤ exit job

  pub at_label : (l : ℕ) (c : Claimed) (i : Instruction) → l < exit job → job.claim l ≡ Some c → fetch job.code l ≡ Some i → AtLabel l c i
  at_label l c i lt has at_l =
      let kept = acc.well.labels l lt c i has at_l in
      let out = kept_leaves o laws levels job (exit job) c.surrounding c.stack i (acc.sound l i at_l) (acc.leveled l c lt has).1 kept.fits kept.stores in
      record {
        places = out.places;
        left = out.left;
        taken = λ next a. out.taken next (kept.taken next a);
        within = λ next a. successors_within (exit job) l next i (acc.sound l i at_l) lt a;
      }

  -- A machine whose stack fits the claim of its label, or that is at the exit.
  pub data Typed : Machine → Type 0 where
    typed_exit : {l : ℕ} {s : List Value} {vs : List ℤ} → l ≡ exit job → Typed (at l s vs)
    typed_claim : {l : ℕ} {s : List Value} {vs : List ℤ} {c : Claimed} → l < exit job → job.claim l ≡ Some c → Fits c.stack s → Typed (at l s vs)

  arrives : {l : ℕ} {s : List Value} {vs : List ℤ} {ps : List Place} → l ≤ exit job → Takes o job ps l → Fits ps s → Typed (at l s vs)
  arrives le (at_exit e empty) f = typed_exit e
  arrives le (by_claim other has u) f = typed_claim (omega (arith, le, other)) has (fits_under u f)

  some_instruction : (l : ℕ) → l < exit job → (i : Instruction) × (fetch job.code l ≡ Some i)
  some_instruction l lt = (get_or job.code l Add, slice_get-get_or job.code l Add lt)

  pub typed_goes : (m : Machine) → Typed m → (label_of m ≡ exit job) ⊎ ((n : Machine) × (job.code ⊢ m ⟶ n) × Typed n)
  typed_goes (at l s vs) (typed_exit e) = inl e
  typed_goes (at l s vs) (typed_claim {c = c} lt has f) =
      let some = some_instruction l lt in
      let here = at_label l c some.0 lt has some.1 in
      let step = goes o levels job.code c.surrounding l some.1 here.left vs f in
      inr (at step.next step.stack step.values, step.by_rule, arrives (here.within step.next step.among) (here.taken step.next step.among) step.fits)

  pub stays_typed : {k : ℕ} {m n : Machine} → Steps job.code k m n → Typed m → Typed n
  stays_typed steps.none t = t
  stays_typed {m = m} (steps.more {n = n} r rest) t =
      stays_typed rest (⊎_elim (λ e. absurd (at_the_exit m n r e)) (λ g. subst Typed (one_way job.code m g.0 n g.1 r) g.2) (typed_goes m t))
    where
      at_the_exit : (m n : Machine) → job.code ⊢ m ⟶ n → label_of m ≡ exit job → ⊥
      at_the_exit (at l s vs) n r e = let lt = rule_within job.code l s vs n r in absurd (omega arith)

  starts : (values : List ℤ) → Typed (at 0 [] values)
  starts values = ⊎_elim (λ e. typed_exit (sym e)) (λ first. by first.0 first.1 first.2 (cases_lt 0 (exit job))) acc.well.entry
    where
      by : (c : Claimed) → job.claim 0 ≡ Some c → c.stack ≡ [] → (0 < exit job) ⊎ (exit job ≤ 0) → Typed (at 0 [] values)
      by c has empty (inl some) = typed_claim some has (subst (λ ps. Fits ps []) (sym empty) fits_none)
      by c has empty (inr nothing_there) = typed_exit (omega arith)

  pub never_faults : NeverFaults job.code
  never_faults values k m run = ⊎_elim (λ e. inl e) (λ g. inr (g.0, g.1)) (typed_goes m (stays_typed run (starts values)))
