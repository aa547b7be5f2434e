-- The function `step` follows the rules, and only them. Assumes nothing.
use Rattle.std.specs.Prelude.{if◌then◌else◌, nat_lt}
use Rattle.std.proofs.Common.{◌≡◌, ℕ, ◌+◌, ◌<◌, Bool, true, false, List, [], ◌∷◌, length, ℤ, Some, None, Option, int_lt, refl, ap, ◌∙◌, subst}
use Rattle.std.proofs.lemmas.Bool.{lt-ltb, ltb-true, cond-true}
use Rattle.std.proofs.lemmas.Option.{none-some, same_Some}
use Rattle.std.specs.Ordering.{int_eq}
use Rattle.push.specs.declared.instruction.Instruction.{Instruction}
use Rattle.push.specs.declared.instruction.Instruction.TheVariants.{Load, Store, Push, Add, Sub, Eq, Less, Not, Goto, GotoF, Copy, Swap, Drop}
use Rattle.push.specs.declared.value.Value.{Value}
use Rattle.push.specs.declared.value.Value.TheVariants.{Int, Flag}
use Rattle.push.specs.Code.{fetch}
use Rattle.push.specs.Machine.{Machine, at, ◌⊢◌⟶◌, load, store, push, add, sub, eq, less, not, goto, gotof, copy, swap, drop, integers_on, pushed, combined, perform, step, StepFollowsTheRules}
use Rattle.push.specs.Numbers.{sum, difference}

module _ (code : List Instruction) where
  room : (x : Value) (l : ℕ) (s : List Value) (vs : List ℤ) → length s < 8 → pushed x l s vs ≡ Some (at (l + 1) (x ∷ s) vs)
  room x l s vs h = cond-true (nat_lt (length s) 8) _ _ (lt-ltb (length s) 8 h)

  -- a rule's step is the one that `step` makes
  pub rule_steps : {m n : Machine} → code ⊢ m ⟶ n → step code m ≡ Some n
  rule_steps (load {l} {v} {s} {vs} i small h) = ap (λ j. perform j l s vs) i ∙ cond-true (nat_lt v 32) _ _ (lt-ltb v 32 small) ∙ room _ l s vs h
  rule_steps (store {l} {v} {t} {s} {vs} i small) = ap (λ j. perform j l (Int t ∷ s) vs) i ∙ cond-true (nat_lt v 32) _ _ (lt-ltb v 32 small)
  rule_steps (push {l} {x} {s} {vs} i h) = ap (λ j. perform j l s vs) i ∙ room _ l s vs h
  rule_steps (add {l} {t} {u} {s} {vs} i) = ap (λ j. perform j l (Int t ∷ Int u ∷ s) vs) i
  rule_steps (sub {l} {t} {u} {s} {vs} i) = ap (λ j. perform j l (Int t ∷ Int u ∷ s) vs) i
  rule_steps (eq {l} {t} {u} {s} {vs} i) = ap (λ j. perform j l (Int t ∷ Int u ∷ s) vs) i
  rule_steps (less {l} {t} {u} {s} {vs} i) = ap (λ j. perform j l (Int t ∷ Int u ∷ s) vs) i
  rule_steps (not {l} {b} {s} {vs} i) = ap (λ j. perform j l (Flag b ∷ s) vs) i
  rule_steps (goto {l} {m} {s} {vs} i) = ap (λ j. perform j l s vs) i
  rule_steps (gotof {l} {m} {j} {b} {s} {vs} i) = ap (λ k. perform k l (Flag b ∷ s) vs) i
  rule_steps (copy {l} {t} {s} {vs} i h) = ap (λ j. perform j l (t ∷ s) vs) i ∙ room t l (t ∷ s) vs h
  rule_steps (swap {l} {t} {u} {s} {vs} i) = ap (λ j. perform j l (t ∷ u ∷ s) vs) i
  rule_steps (drop {l} {t} {s} {vs} i) = ap (λ j. perform j l (t ∷ s) vs) i

  kept : {X : Type 0} (b : Bool) (x : Option X) (n : X) → (if b then x else None) ≡ Some n → (b ≡ true) × (x ≡ Some n)
  kept true x n e = (refl, e)
  kept false x n e = absurd (none-some n e)

  by_rule : {m n : Machine} {o : Machine} → code ⊢ m ⟶ n → Some n ≡ Some o → code ⊢ m ⟶ o
  by_rule {m} r e = subst (λ k. code ⊢ m ⟶ k) (same_Some _ _ e) r

  combined_by_rule : (f : ℤ → ℤ → Value) (l : ℕ) (s : List Value) (vs : List ℤ) (n : Machine) →
      ((t u : ℤ) (s : List Value) → code ⊢ at l (Int t ∷ Int u ∷ s) vs ⟶ at (l + 1) (f u t ∷ s) vs) →
      combined f (integers_on s) l s vs ≡ Some n → code ⊢ at l s vs ⟶ n
  combined_by_rule f l [] vs n rule e = absurd (none-some n e)
  combined_by_rule f l (Flag b ∷ s) vs n rule e = absurd (none-some n e)
  combined_by_rule f l (Int t ∷ []) vs n rule e = absurd (none-some n e)
  combined_by_rule f l (Int t ∷ Flag b ∷ s) vs n rule e = absurd (none-some n e)
  combined_by_rule f l (Int t ∷ Int u ∷ s) vs n rule e = by_rule (rule t u s) e

  -- what `step` makes is by a rule
  performed : (i : Option Instruction) (l : ℕ) (s : List Value) (vs : List ℤ) (n : Machine) →
      fetch code l ≡ i → perform i l s vs ≡ Some n → code ⊢ at l s vs ⟶ n
  performed None l s vs n i e = absurd (none-some n e)
  performed (Some (Load v)) l s vs n i e =
      let known = kept (nat_lt v 32) _ n e in
      let free = kept (nat_lt (length s) 8) _ n known.1 in
      by_rule (load i (ltb-true v 32 known.0) (ltb-true (length s) 8 free.0)) free.1
  performed (Some (Store v)) l [] vs n i e = absurd (none-some n e)
  performed (Some (Store v)) l (Flag b ∷ s) vs n i e = absurd (none-some n e)
  performed (Some (Store v)) l (Int t ∷ s) vs n i e = let known = kept (nat_lt v 32) _ n e in by_rule (store i (ltb-true v 32 known.0)) known.1
  performed (Some (Push x)) l s vs n i e = let free = kept (nat_lt (length s) 8) _ n e in by_rule (push i (ltb-true (length s) 8 free.0)) free.1
  performed (Some Add) l s vs n i e = combined_by_rule (λ u t. Int (sum u t)) l s vs n (λ t u s. add i) e
  performed (Some Sub) l s vs n i e = combined_by_rule (λ u t. Int (difference u t)) l s vs n (λ t u s. sub i) e
  performed (Some Eq) l s vs n i e = combined_by_rule (λ u t. Flag (int_eq u t)) l s vs n (λ t u s. eq i) e
  performed (Some Less) l s vs n i e = combined_by_rule (λ u t. Flag (int_lt u t)) l s vs n (λ t u s. less i) e
  performed (Some Not) l [] vs n i e = absurd (none-some n e)
  performed (Some Not) l (Int t ∷ s) vs n i e = absurd (none-some n e)
  performed (Some Not) l (Flag b ∷ s) vs n i e = by_rule (not i) e
  performed (Some (Goto m)) l s vs n i e = by_rule (goto i) e
  performed (Some (GotoF m j)) l [] vs n i e = absurd (none-some n e)
  performed (Some (GotoF m j)) l (Int t ∷ s) vs n i e = absurd (none-some n e)
  performed (Some (GotoF m j)) l (Flag b ∷ s) vs n i e = by_rule (gotof i) e
  performed (Some Copy) l [] vs n i e = absurd (none-some n e)
  performed (Some Copy) l (t ∷ s) vs n i e = let free = kept (nat_lt (length (t ∷ s)) 8) _ n e in by_rule (copy i (ltb-true (length (t ∷ s)) 8 free.0)) free.1
  performed (Some Swap) l [] vs n i e = absurd (none-some n e)
  performed (Some Swap) l (t ∷ []) vs n i e = absurd (none-some n e)
  performed (Some Swap) l (t ∷ u ∷ s) vs n i e = by_rule (swap i) e
  performed (Some Drop) l [] vs n i e = absurd (none-some n e)
  performed (Some Drop) l (t ∷ s) vs n i e = by_rule (drop i) e

  pub steps_by_rule : (m n : Machine) → step code m ≡ Some n → code ⊢ m ⟶ n
  steps_by_rule (at l s vs) n e = performed (fetch code l) l s vs n refl e

pub step_follows_the_rules : StepFollowsTheRules
step_follows_the_rules code m n = (rule_steps code, steps_by_rule code m n)
