-- The machine: its steps as a relation with a rule for each instruction, and as a function. Assumes nothing.
use Rattle.std.specs.Prelude.{◌≡◌, ℕ, ◌+◌, ◌<◌, Bool, List, [], ◌∷◌, length, ℤ, pos, Some, None, Option, nat_lt, slice_index_or, slice_set, int_lt, if◌then◌else◌, ◌↔◌}
use Rattle.std.specs.Prelude as std
use Rattle.std.specs.Ordering.{int_eq}
use Rattle.push.specs.declared.instruction.Instruction.{Instruction}
use Rattle.push.specs.declared.instruction.Instruction.TheVariants.{Load, Store, Push, Add, Sub, Eq, Less, Not, Goto, GotoF, Copy, Swap, Drop}
use Rattle.push.specs.declared.value.Value.{Value}
use Rattle.push.specs.declared.value.Value.TheVariants.{Int, Flag}
use Rattle.push.specs.Code.{fetch}
use Rattle.push.specs.Numbers.{sum, difference}

-- A label, a stack with its top first, and the values of the variables. A run has 32 of these and at most 8 places.
pub data Machine : Type 0 where
  at : ℕ → List Value → List ℤ → Machine

infix 20 ◌⊢◌⟶◌
-- The rules, one for each instruction. Where none applies there is no step.
pub data ◌⊢◌⟶◌ (code : List Instruction) : Machine → Machine → Type 0 where
  load : {l v : ℕ} {s : List Value} {vs : List ℤ} →
      fetch code l ≡ Some (Load v) → v < 32 → length s < 8 →
      code ⊢ at l s vs ⟶ at (l + 1) (Int (slice_index_or vs v (pos 0)) ∷ s) vs
  store : {l v : ℕ} {t : ℤ} {s : List Value} {vs : List ℤ} →
      fetch code l ≡ Some (Store v) → v < 32 →
      code ⊢ at l (Int t ∷ s) vs ⟶ at (l + 1) s (slice_set vs v t)
  push : {l : ℕ} {x : ℤ} {s : List Value} {vs : List ℤ} →
      fetch code l ≡ Some (Push x) → length s < 8 →
      code ⊢ at l s vs ⟶ at (l + 1) (Int x ∷ s) vs
  add : {l : ℕ} {t u : ℤ} {s : List Value} {vs : List ℤ} →
      fetch code l ≡ Some Add →
      code ⊢ at l (Int t ∷ Int u ∷ s) vs ⟶ at (l + 1) (Int (sum u t) ∷ s) vs
  sub : {l : ℕ} {t u : ℤ} {s : List Value} {vs : List ℤ} →
      fetch code l ≡ Some Sub →
      code ⊢ at l (Int t ∷ Int u ∷ s) vs ⟶ at (l + 1) (Int (difference u t) ∷ s) vs
  eq : {l : ℕ} {t u : ℤ} {s : List Value} {vs : List ℤ} →
      fetch code l ≡ Some Eq →
      code ⊢ at l (Int t ∷ Int u ∷ s) vs ⟶ at (l + 1) (Flag (int_eq u t) ∷ s) vs
  less : {l : ℕ} {t u : ℤ} {s : List Value} {vs : List ℤ} →
      fetch code l ≡ Some Less →
      code ⊢ at l (Int t ∷ Int u ∷ s) vs ⟶ at (l + 1) (Flag (int_lt u t) ∷ s) vs
  not : {l : ℕ} {b : Bool} {s : List Value} {vs : List ℤ} →
      fetch code l ≡ Some Not →
      code ⊢ at l (Flag b ∷ s) vs ⟶ at (l + 1) (Flag (std.not b) ∷ s) vs
  goto : {l m : ℕ} {s : List Value} {vs : List ℤ} →
      fetch code l ≡ Some (Goto m) →
      code ⊢ at l s vs ⟶ at m s vs
  gotof : {l m j : ℕ} {b : Bool} {s : List Value} {vs : List ℤ} →
      fetch code l ≡ Some (GotoF m j) →
      code ⊢ at l (Flag b ∷ s) vs ⟶ at (if b then l + 1 else m) s vs
  copy : {l : ℕ} {t : Value} {s : List Value} {vs : List ℤ} →
      fetch code l ≡ Some Copy → length (t ∷ s) < 8 →
      code ⊢ at l (t ∷ s) vs ⟶ at (l + 1) (t ∷ t ∷ s) vs
  swap : {l : ℕ} {t u : Value} {s : List Value} {vs : List ℤ} →
      fetch code l ≡ Some Swap →
      code ⊢ at l (t ∷ u ∷ s) vs ⟶ at (l + 1) (u ∷ t ∷ s) vs
  drop : {l : ℕ} {t : Value} {s : List Value} {vs : List ℤ} →
      fetch code l ≡ Some Drop →
      code ⊢ at l (t ∷ s) vs ⟶ at (l + 1) s vs

-- What an instruction finds on top of a stack: an integer.
abbrev pub integer_on : List Value → Option ℤ
integer_on (Int t ∷ s) = Some t
integer_on _ = None

-- Two integers: the one under the top, and the top.
abbrev pub integers_on : List Value → Option (ℤ × ℤ)
integers_on (Int t ∷ Int u ∷ s) = Some (u, t)
integers_on _ = None

-- A boolean.
abbrev pub flag_on : List Value → Option Bool
flag_on (Flag b ∷ s) = Some b
flag_on _ = None

-- What each kind of instruction makes of it at a label, a stack and values.
abbrev pub pushed : Value → ℕ → List Value → List ℤ → Option Machine
pushed x l s vs = if nat_lt (length s) 8 then Some (at (l + 1) (x ∷ s) vs) else None

abbrev pub loaded : ℕ → ℕ → List Value → List ℤ → Option Machine
loaded v l s vs = if nat_lt v 32 then pushed (Int (slice_index_or vs v (pos 0))) l s vs else None

abbrev pub stored : ℕ → Option ℤ → ℕ → List Value → List ℤ → Option Machine
stored v None l s vs = None
stored v (Some t) l s vs =
    if nat_lt v 32 then Some (at (l + 1) (std.drop 1 s) (slice_set vs v t)) else None

abbrev pub combined :
    (ℤ → ℤ → Value) → Option (ℤ × ℤ) → ℕ → List Value → List ℤ → Option Machine
combined f None l s vs = None
combined f (Some p) l s vs = Some (at (l + 1) (f p.0 p.1 ∷ std.drop 2 s) vs)

abbrev pub negated : Option Bool → ℕ → List Value → List ℤ → Option Machine
negated None l s vs = None
negated (Some b) l s vs = Some (at (l + 1) (Flag (std.not b) ∷ std.drop 1 s) vs)

abbrev pub branched : ℕ → Option Bool → ℕ → List Value → List ℤ → Option Machine
branched m None l s vs = None
branched m (Some b) l s vs = Some (at (if b then l + 1 else m) (std.drop 1 s) vs)

abbrev pub copied : ℕ → List Value → List ℤ → Option Machine
copied l [] vs = None
copied l (t ∷ s) vs = pushed t l (t ∷ s) vs

abbrev pub swapped : ℕ → List Value → List ℤ → Option Machine
swapped l (t ∷ u ∷ s) vs = Some (at (l + 1) (u ∷ t ∷ s) vs)
swapped l _ vs = None

abbrev pub dropped : ℕ → List Value → List ℤ → Option Machine
dropped l [] vs = None
dropped l (t ∷ s) vs = Some (at (l + 1) s vs)

abbrev pub perform : Option Instruction → ℕ → List Value → List ℤ → Option Machine
perform None l s vs = None
perform (Some (Load v)) l s vs = loaded v l s vs
perform (Some (Store v)) l s vs = stored v (integer_on s) l s vs
perform (Some (Push x)) l s vs = pushed (Int x) l s vs
perform (Some Add) l s vs = combined (λ u t. Int (sum u t)) (integers_on s) l s vs
perform (Some Sub) l s vs = combined (λ u t. Int (difference u t)) (integers_on s) l s vs
perform (Some Eq) l s vs = combined (λ u t. Flag (int_eq u t)) (integers_on s) l s vs
perform (Some Less) l s vs = combined (λ u t. Flag (int_lt u t)) (integers_on s) l s vs
perform (Some Not) l s vs = negated (flag_on s) l s vs
perform (Some (Goto m)) l s vs = Some (at m s vs)
perform (Some (GotoF m j)) l s vs = branched m (flag_on s) l s vs
perform (Some Copy) l s vs = copied l s vs
perform (Some Swap) l s vs = swapped l s vs
perform (Some Drop) l s vs = dropped l s vs

abbrev pub step : List Instruction → Machine → Option Machine
step code (at l s vs) = perform (fetch code l) l s vs

-- Both say the same.
abbrev pub StepFollowsTheRules : Type 0
StepFollowsTheRules =
    (code : List Instruction) (m n : Machine) → ((code ⊢ m ⟶ n) ↔ (step code m ≡ Some n))
