-- Decoding a job's instructions one record at a time. Assumes nothing.
use Rattle.std.proofs.Common.{◌≡◌, ℕ, ◌+◌, List, [], ◌∷◌, ◌++◌, Ok, refl, ap, ◌∙◌, add-one}
use Rattle.std.specs.Option.{option_to_list}
use Rattle.std.specs.Result.{result_ok}
use Rattle.push.specs.declared.instruction.Instruction.{Instruction}
use Rattle.job.specs.Layout.{Sizes}
use Rattle.checker.specs.Verdict.{decoded_at, code_below}

module _ (bytes : List ℕ) (s : Sizes) where
  pub code_none : code_below bytes s 0 ≡ []
  unfolding code_below
  code_none = refl

  pub code_more : (n : ℕ) (i : Instruction) → decoded_at bytes s n ≡ Ok i → code_below bytes s (n + 1) ≡ code_below bytes s n ++ (i ∷ [])
  unfolding code_below
  code_more n i e = ap (code_below bytes s) (add-one n) ∙ ap (λ r. code_below bytes s n ++ option_to_list (result_ok r)) e
