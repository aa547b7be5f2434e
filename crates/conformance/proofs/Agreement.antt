-- What the count of agreeing cases says of the cases. Assumes nothing.
use Rattle.std.proofs.Common.{◌≡◌, ℕ, ◌+◌, true, false, cond, eqb, List, [], ◌∷◌, length, ⊎_elim, arith}
use Rattle.std.specs.List.{count_by}
use Rattle.std.proofs.lemmas.Slice.Eq.{bytes_eq-Decides}
use Rattle.std.proofs.lemmas.List.{nil_from_length}
use Rattle.std.proofs.lemmas.List.Elements.{All-nil, All-cons}
use Rattle.std.proofs.lemmas.List.Sums.{count_by-le-length, sum_by-cons}
use Rattle.std.proofs.lemmas.Bool.{cases_Bool, cond-true, cond-false, and_parts, eqb-true}
use Rattle.conformance.specs.Table.{Trial, cases, left_over}
use Rattle.conformance.specs.Findings.{agrees, AllAgree}
use Rattle.conformance.specs.Summary.{passes_by}

module _ (text : List ℕ → List ℕ) where
  pub count_more : (trial : Trial) (trials : List Trial) →
      count_by (agrees text) (trial ∷ trials) ≡ cond (agrees text trial) 1 0 + count_by (agrees text) trials
  count_more trial trials = sum_by-cons _ trial trials

  agrees_says : (trial : Trial) → agrees text trial ≡ true → text trial.0 ≡ trial.1
  unfolding agrees
  agrees_says trial h = (bytes_eq-Decides (text trial.0) trial.1).0 h

  -- a case whose text is the expected one
  abbrev IsExpected : Trial → Type 0
  IsExpected trial = text trial.0 ≡ trial.1

  all_agree : (trials : List Trial) → count_by (agrees text) trials ≡ length trials → AllAgree text trials
  all_agree [] e = All-nil IsExpected
  all_agree (trial ∷ trials) e =
      let more = count_more trial trials in
      ⊎_elim
      (λ (h : agrees text trial ≡ true).
      let rest = all_agree trials (omega (arith, e, more, cond-true {A = ℕ} (agrees text trial) 1 0 h)) in
      All-cons IsExpected trial trials (agrees_says trial h) rest)
      (λ (h : agrees text trial ≡ false).
      let few = count_by-le-length (agrees text) trials in
      absurd (omega (arith, e, more, cond-false {A = ℕ} (agrees text trial) 1 0 h, few)))
      (cases_Bool (agrees text trial))

  -- A table that passes holds whole cases only, and every one agrees.
  pub passes_conforms : (t : List ℕ) → passes_by text t ≡ true → AllAgree text (cases t) × (left_over t ≡ [])
  passes_conforms t h =
      let parts = and_parts (eqb (count_by (agrees text) (cases t)) (length (cases t))) (eqb (length (left_over t)) 0) h in
      (all_agree (cases t) (eqb-true _ _ parts.0), nil_from_length (left_over t) (eqb-true _ _ parts.1))
