-- An array made by a closure that changes nothing. Assumes nothing.
use Rattle.std.proofs.Common.{◌≡◌, ℕ, zero, suc, ◌+◌, ◌<◌, ◌≤◌, List, get_or, ap, ◌∙◌, sym, subst, ⊎_elim, arith}
use Rattle.std.proofs.lemmas.Bool.{cases_lt}
use Rattle.std.specs.Array.{IsFromFnResult, IsFromFnResultFrom}
use Rattle.std.specs.Fn.{Called, Mut}

module _ {F B : Type 0} (g : Mut F (ℕ × Unit {0}) B) (f : F) (ys : List B) (h : ℕ → B) (d : B)
    (same : (i : ℕ) (y : B) (q : F) → Called g f (i, tt) y q → (q ≡ f) × (y ≡ h i)) where
  made_from : (i n : ℕ) → IsFromFnResultFrom g f ys i n → (k : ℕ) → i ≤ k → k < i + n → get_or ys k d ≡ h k
  made_from i zero made k low high = absurd (omega arith)
  made_from i (suc n) (q, y, item, called, rest) k low high =
      let told = same i y q called in
      ⊎_elim
      (λ (later : i < k). made_from (i + 1) n (subst (λ s. IsFromFnResultFrom g s ys (i + 1) n) told.0 rest) k (omega arith) (omega arith))
      (λ (here : k ≤ i).
      let at : k ≡ i = omega arith in
      ap (λ j. get_or ys j d) at ∙ item.1 d ∙ told.1 ∙ ap h (sym at)) (cases_lt i k)

  pub made_at : (n : ℕ) → IsFromFnResult g f ys n → (k : ℕ) → k < n → get_or ys k d ≡ h k
  made_at n made k high = made_from 0 n made.each k (omega arith) (omega arith)
