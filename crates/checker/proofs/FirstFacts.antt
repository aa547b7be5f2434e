-- What is found first, one number at a time, as the crate below shows it: a function's attribute can name lemmas of its own
-- crate alone. Assumes nothing.
use Rattle.std.proofs.Common.{◌≡◌, ℕ, ◌+◌, ◌<◌, Some, None, Err, Option, Result, sym, ap, ◌∙◌}
use Rattle.std.specs.Result.{IsErrAnd, result_err}
use Rattle.std.proofs.lemmas.Result.{err_from_is_err_and}
use Rattle.job.specs.First.{first_below}
use Rattle.job.proofs.FirstFacts as job

module _ {A : Type 0} (f : ℕ → Option A) where
  pub first_none : first_below f 0 ≡ None
  first_none = job.first_none f

  pub first_more : (n : ℕ) → first_below f n ≡ None → f n ≡ None → first_below f (n + 1) ≡ None
  first_more = job.first_more f

  pub first_found : (n m : ℕ) (x : A) → first_below f n ≡ None → f n ≡ Some x → n < m → first_below f m ≡ Some x
  first_found = job.first_found f

  -- what a call finds wrong at the first number at which one does, handed up
  pub first_handed_up : {T U : Type 0} (n m : ℕ) (x : A) (call : Result U A) (r : Result T A) → first_below f n ≡ None → result_err call ≡ f n →
      call ≡ Err x → IsErrAnd r (λ e. e ≡ x) → n < m → result_err r ≡ first_below f m
  first_handed_up n m x call r h is was up within =
      let e = err_from_is_err_and r up in
      ap result_err (e.1 ∙ ap Err e.2) ∙ sym (first_found n m x h (sym is ∙ ap result_err was) within)
