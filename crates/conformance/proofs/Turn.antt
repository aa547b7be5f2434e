-- What one case more does to a tally. Assumes nothing.
use Rattle.std.proofs.Common.{◌≡◌, ℕ, suc, ◌+◌, ◌^◌, ◌<◌, Bool, true, false, List, [], ◌∷◌, length, Some, None, Option, sym, refl, ap, ◌∙◌, arith}
use Rattle.std.specs.List.{count_by}
use Rattle.std.specs.Option.{option_or}
use Rattle.std.proofs.lemmas.Bool.{cond-true, cond-false}
use Rattle.std.proofs.lemmas.List.Sums.{count_by-le-length}
use Rattle.conformance.specs.Table.{Trial, next_case, cases}
use Rattle.conformance.specs.Findings.{Findings, agrees, first_differing, findings_of, with_case}
use Rattle.conformance.proofs.Agreement.{count_more}
use Rattle.conformance.proofs.Walk.{was_some, cases_more, cases_few}

or_none : (d : Option (ℕ × Trial)) → option_or d None ≡ d
or_none None = refl
or_none (Some x) = refl

or_twice : (d : Option (ℕ × Trial)) (x : ℕ × Trial) (later : Option (ℕ × Trial)) → option_or (option_or d (Some x)) later ≡ option_or d (Some x)
or_twice None x later = refl
or_twice (Some y) x later = refl

module _ (text : List ℕ → List ℕ) where
  -- What was found, with some cases more at the end.
  abbrev pub onward : Findings → List Trial → Findings
  onward before trials =
      record {
        run = before.run + length trials;
        agreed = before.agreed + count_by (agrees text) trials;
        differs = option_or before.differs (first_differing text before.run trials);
      }

  pub onward_none : (s : Findings) → onward s [] ≡ s
  onward_none s =
      let run : s.run + 0 ≡ s.run = omega arith in
      let agreed : s.agreed + 0 ≡ s.agreed = omega arith in
      λ i. record { run = run i; agreed = agreed i; differs = or_none s.differs i }

  pub onward_first : (trials : List Trial) → onward (record { run = 0; agreed = 0; differs = None }) trials ≡ findings_of text trials
  onward_first trials =
      let run : 0 + length trials ≡ length trials = omega arith in
      let agreed : 0 + count_by (agrees text) trials ≡ count_by (agrees text) trials = omega arith in
      λ i. record { run = run i; agreed = agreed i; differs = first_differing text 0 trials }

  onward_noted : (s : Findings) (trial : Trial) (trials : List Trial) (agreed : Bool) → agreed ≡ agrees text trial →
      onward (with_case s trial agreed) trials ≡ onward s (trial ∷ trials)
  onward_noted s trial trials true e =
      let run : s.run + 1 + length trials ≡ s.run + suc (length trials) = omega arith in
      let one = cond-true {A = ℕ} (agrees text trial) 1 0 (sym e) in
      let more = count_more text trial trials in
      let counted : s.agreed + 1 + count_by (agrees text) trials ≡ s.agreed + count_by (agrees text) (trial ∷ trials) = omega (arith, more, one) in
      let later = sym (cond-true (agrees text trial) (first_differing text (s.run + 1) trials) (Some (s.run, trial)) (sym e)) in
      λ i. record { run = run i; agreed = counted i; differs = option_or s.differs (later i) }
  onward_noted s trial trials false e =
      let run : s.run + 1 + length trials ≡ s.run + suc (length trials) = omega arith in
      let none = cond-false {A = ℕ} (agrees text trial) 1 0 (sym e) in
      let more = count_more text trial trials in
      let counted : s.agreed + count_by (agrees text) trials ≡ s.agreed + count_by (agrees text) (trial ∷ trials) = omega (arith, more, none) in
      let this = sym (cond-false (agrees text trial) (first_differing text (s.run + 1) trials) (Some (s.run, trial)) (sym e)) in
      let differs = or_twice s.differs (s.run, trial) (first_differing text (s.run + 1) trials) ∙ ap (option_or s.differs) this in
      λ i. record { run = run i; agreed = counted i; differs = differs i }

  -- One case more is counted: what is to be found of all cases is the same.
  pub turn : (s next all : Findings) (t rest : List ℕ) (trial : Trial) → Some (trial, rest) ≡ next_case t → next ≡ with_case s trial (agrees text trial) →
      onward s (cases t) ≡ all → onward next (cases rest) ≡ all
  turn s next all t rest trial read counted so_far =
      let was = was_some t trial rest read in
      let here : trial ∷ cases rest ≡ cases t = (λ i. was.1 i ∷ cases (was.2 i)) ∙ sym (cases_more t was.0) in
      ap (λ n. onward n (cases rest)) counted ∙ onward_noted s trial (cases rest) (agrees text trial) refl ∙ ap (onward s) here ∙ so_far

  -- A count has room for one case more, and one that agrees.
  pub room : (s : Findings) (t rest : List ℕ) → length t < 2 ^ 64 → onward s (cases rest) ≡ findings_of text (cases t) → (s.run + 1 < 2 ^ 64) × (s.agreed + 1 < 2 ^ 64)
  room s t rest long so_far =
      let run : s.run + length (cases rest) ≡ length (cases t) = ap (λ f. f.run) so_far in
      let agreed : s.agreed + count_by (agrees text) (cases rest) ≡ count_by (agrees text) (cases t) = ap (λ f. f.agreed) so_far in
      (omega (arith, cases_few t), omega (arith, cases_few t, count_by-le-length (agrees text) (cases t)))
