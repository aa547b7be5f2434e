-- What is found first, one number at a time. Assumes nothing.
use Rattle.std.proofs.Common.{◌≡◌, ℕ, zero, suc, ◌+◌, ◌<◌, ◌⊎◌, Some, None, Option, inl, inr, ⊎_elim, refl, ap, ◌∙◌, add-one, arith}
use Rattle.std.proofs.lemmas.Bool.{cases_eq}
use native.Mathlib.Decide.{le_ind}
use Rattle.std.specs.Option.{option_or}
use Rattle.job.specs.First.{first_below}

-- Nothing is found below n.
pub record Clear {A : Type 0} (f : ℕ → Option A) (n : ℕ) : Type 0 where
  pub all : (l : ℕ) → l < n → f l ≡ None
  pub is : first_below f n ≡ None

-- Something is found first at a label below n.
pub record Found {A : Type 0} (f : ℕ → Option A) (n : ℕ) : Type 0 where
  pub label : ℕ
  pub found : A
  pub within : label < n
  pub before : (l : ℕ) → l < label → f l ≡ None
  pub some : f label ≡ Some found
  pub is : first_below f n ≡ Some found

module _ {A : Type 0} (f : ℕ → Option A) where
  pub first_none : first_below f 0 ≡ None
  unfolding first_below
  first_none = refl

  clear : (n : ℕ) (x : Option A) → first_below f n ≡ None → f n ≡ x → first_below f (suc n) ≡ x
  unfolding first_below
  clear n x h k = ap (λ v. option_or v (f n)) h ∙ k

  pub first_more : (n : ℕ) → first_below f n ≡ None → f n ≡ None → first_below f (n + 1) ≡ None
  first_more n h k = ap (first_below f) (add-one n) ∙ clear n None h k

  -- what was found stays the first
  stays : (x : A) (n : ℕ) → first_below f n ≡ Some x → first_below f (suc n) ≡ Some x
  unfolding first_below
  stays x n e = ap (λ v. option_or v (f n)) e

  pub first_found : (n m : ℕ) (x : A) → first_below f n ≡ None → f n ≡ Some x → n < m → first_below f m ≡ Some x
  first_found n m x h some within = le_ind (λ k. first_below f k ≡ Some x) (clear n (Some x) h some) (λ k _ e. stays x k e) m within

  pub none_below : (n : ℕ) → ((l : ℕ) → l < n → f l ≡ None) → first_below f n ≡ None
  none_below zero h = first_none
  none_below (suc n) h = clear n None (none_below n (λ l w. h l (omega arith))) (h n (omega arith))

  one_more : (n : ℕ) (x : Option A) → Clear f n → f n ≡ x → Clear f (suc n) ⊎ Found f (suc n)
  one_more n None k e =
      inl
      (record {
        all = λ l w. ⊎_elim (λ (q : l ≡ n). ap f q ∙ e) (λ (ne : l ≡ n → ⊥). k.all l (omega (arith, ne))) (cases_eq l n);
        is = clear n None k.is e;
      })
  one_more n (Some x) k e =
      inr (record { label = n; found = x; within = omega arith; before = k.all; some = e; is = clear n (Some x) k.is e })

  pub search_first : (n : ℕ) → Clear f n ⊎ Found f n
  search_first zero = inl (record { all = λ l w. absurd (omega arith); is = first_none })
  search_first (suc n) =
      ⊎_elim
      (λ (k : Clear f n). one_more n (f n) k refl)
      (λ (k : Found f n).
      inr
      (record {
        label = k.label;
        found = k.found;
        within = omega (arith, k.within);
        before = k.before;
        some = k.some;
        is = stays k.found n k.is;
      }))
      (search_first n)
