-- A test of each number below n, one number at a time and told by lists. Assumes nothing.
use Rattle.std.proofs.Common.{◌≡◌, ℕ, zero, suc, ◌+◌, ◌<◌, Bool, true, false, ◌&&◌, ⊎_elim, List, [], ◌∷◌, map, refl, sym, ap, ◌∙◌, add-one, arith}
use Rattle.std.proofs.lemmas.Bool.{and_parts, and_from, cases_eq}
use Rattle.std.specs.List.{list_all, range_with_len}
use Rattle.std.proofs.lemmas.List.Folds.{list_all-append, list_all-map}
use Rattle.std.proofs.lemmas.List.FromFn.{map-range_with_len_more}
use Rattle.job.specs.First.{all_below}

-- it is the test of each of them
module _ (f : ℕ → Bool) where
  pub all_below_holds : (n : ℕ) → all_below f n ≡ true → (k : ℕ) → k < n → f k ≡ true
  unfolding all_below
  all_below_holds zero h k within = absurd (omega arith)
  all_below_holds (suc n) h k within =
      let p = and_parts (all_below f n) (f n) h in
      ⊎_elim (λ (e : k ≡ n). ap f e ∙ p.1) (λ (ne : k ≡ n → ⊥). all_below_holds n p.0 k (omega (arith, ne))) (cases_eq k n)

  pub all_below_from : (n : ℕ) → ((k : ℕ) → k < n → f k ≡ true) → all_below f n ≡ true
  unfolding all_below
  all_below_from zero h = refl
  all_below_from (suc n) h = and_from (all_below f n) (f n) (all_below_from n (λ k w. h k (omega arith))) (h n (omega arith))

alone : (a b : Bool) → (a && (b && true)) ≡ (a && b)
alone true true = refl
alone true false = refl
alone false b = refl

-- of the numbers in a row
pub all_of_range : (f : ℕ → Bool) (n : ℕ) → list_all f (range_with_len 0 n) ≡ all_below f n
unfolding all_below
all_of_range f zero = refl
all_of_range f (suc n) =
    let row : ℕ → List ℕ = λ k. map (λ x. x) (range_with_len 0 k) in
    ap (λ k. list_all f (range_with_len 0 k)) (sym (add-one n))
    ∙ sym (list_all-map f (λ x. x) (range_with_len 0 (n + 1)))
    ∙ ap (list_all f) (map-range_with_len_more (λ x. x) 0 n n (omega arith))
    ∙ list_all-append f (row n) (n ∷ [])
    ∙ alone (list_all f (row n)) (f n)
    ∙ ap (λ b. b && f n) (list_all-map f (λ x. x) (range_with_len 0 n) ∙ all_of_range f n)
