-- The run of a budget is what the rules of an advance say, and only that. Assumes nothing.
use Rattle.std.specs.Prelude.{if◌then◌else◌, ◌==◌}
use Rattle.std.proofs.Common.{◌≡◌, ◌≢◌, ℕ, zero, suc, ◌+◌, ◌-◌, ◌<◌, Bool, true, false, List, length, Some, None, Option, sym, refl, ap, ◌∙◌, subst, arith}
use Rattle.std.proofs.lemmas.Bool.{false≢true, eqb-true, eqb-false, eq-eqb}
use Rattle.std.proofs.lemmas.Option.{none-some}
use Rattle.push.specs.declared.instruction.Instruction.{Instruction}
use Rattle.push.specs.declared.status.Status.{Status}
use Rattle.push.specs.declared.status.Status.TheVariants.{Going, Halted, Faulted}
use Rattle.push.specs.Machine.{Machine, step, ◌⊢◌⟶◌}
use Rattle.push.specs.Run.{RunState, going_at, halted_at, faulted_at, arrived, run, step_or_fault, is_going, is_halted, label_of, Steps, none, more, AdvancesTo, stays, goes_on, halts, faults}
use Rattle.push.proofs.StepFacts.{rule_steps, steps_by_rule}
use Rattle.push.proofs.RunFacts.{counted, run_none, run_stopped, made_one, made_none, no_step_at_exit, arrived_true}

module _ (code : List Instruction) where
  -- a machine that has come to the exit has halted, and elsewhere it is going
  at_exit : (m : Machine) → label_of m ≡ length code → arrived code m ≡ halted_at m
  at_exit m exit = ap (λ b. record { status = if b then Halted else Going; machine = m }) (eq-eqb (label_of m) (length code) exit)

  before_exit : (m : Machine) → label_of m ≢ length code → arrived code m ≡ going_at m
  before_exit m before = by (label_of m == length code) refl
    where
      by : (b : Bool) → (label_of m == length code) ≡ b → record { status = if b then Halted else Going; machine = m } ≡ going_at m
      by true e = absurd (before (eqb-true (label_of m) (length code) e))
      by false e = refl

  rule_before_exit : {m n : Machine} → code ⊢ m ⟶ n → label_of m ≢ length code
  rule_before_exit {m} {n} rule exit = none-some n (sym (no_step_at_exit code m exit) ∙ rule_steps code rule)

  begins_going : {count : ℕ} {m n : Machine} → Steps code count m n → (label_of n ≡ length code → 0 < count) → arrived code m ≡ going_at m
  begins_going {m = m} none some = before_exit m (λ exit. absurd (omega (arith, some exit)))
  begins_going {m = m} (more rule rest) some = before_exit m (rule_before_exit rule)

  counted_twice : (k : ℕ) (after : ℕ × RunState) → counted 1 (counted k after) ≡ counted (k + 1) after
  counted_twice k after = ap (λ c. (c, after.1)) (omega arith)

  -- a run that makes some steps, and what is left of its budget then
  steps_first : {count : ℕ} {m n : Machine} → Steps code count m n → (left : ℕ) →
      run code (count + left) (arrived code m) ≡ counted count (run code left (arrived code n))
  steps_first {m = m} none left =
      ap (λ k. run code k (arrived code m)) (omega arith) ∙ ap (λ c. (c, (run code left (arrived code m)).1)) (omega arith)
  steps_first (more {k = k} {m = m} {n = n} {o = o} rule rest) left =
      let more_left : k + 1 + left ≡ suc (k + left) = omega arith in
      ap (λ r. run code (k + 1 + left) r) (before_exit m (rule_before_exit rule))
      ∙ ap (λ b. run code b (going_at m)) more_left
      ∙ made_one code (k + left) (going_at m) (arrived code n) (ap (step_or_fault code m) (rule_steps code rule))
      ∙ ap (counted 1) (steps_first rest left)
      ∙ counted_twice k (run code left (arrived code o))

  -- what the rules say is what the run of the budget makes
  pub advance_runs : {budget count : ℕ} {before after : RunState} → AdvancesTo code budget before count after → run code budget before ≡ (count, after)
  advance_runs {budget = budget} (stays {r = r} stopped) = run_stopped code budget r stopped
  advance_runs {budget = budget} (goes_on {m = m} {n = n} steps before) =
      let all : budget + 0 ≡ budget = omega arith in
      ap (run code budget) (sym (begins_going steps (λ exit. absurd (before exit))))
      ∙ ap (λ b. run code b (arrived code m)) (sym all)
      ∙ steps_first steps 0
      ∙ ap (counted budget) (run_none code (arrived code n) ∙ ap (λ r. (0, r)) (before_exit n before))
      ∙ ap (λ c. (c, going_at n)) all
  advance_runs {budget = budget} (halts {count = count} {m = m} {n = n} steps some within exit) =
      let all : count + (budget - count) ≡ budget = omega arith in
      let none_more : count + 0 ≡ count = omega arith in
      ap (run code budget) (sym (begins_going steps (λ _. some)))
      ∙ ap (λ b. run code b (arrived code m)) (sym all)
      ∙ steps_first steps (budget - count)
      ∙ ap (λ r. counted count (run code (budget - count) r)) (at_exit n exit)
      ∙ ap (counted count) (run_stopped code (budget - count) (halted_at n) refl)
      ∙ ap (λ c. (c, halted_at n)) none_more
  advance_runs {budget = budget} (faults {count = count} {m = m} {n = n} steps within before stuck) =
      let all : count + suc (budget - count - 1) ≡ budget = omega arith in
      let none_more : count + 0 ≡ count = omega arith in
      ap (run code budget) (sym (begins_going steps (λ exit. absurd (before exit))))
      ∙ ap (λ b. run code b (arrived code m)) (sym all)
      ∙ steps_first steps (suc (budget - count - 1))
      ∙ ap (λ r. counted count (run code (suc (budget - count - 1)) r)) (before_exit n before)
      ∙ ap (counted count) (made_none code (budget - count - 1) (going_at n) (faulted_at n) (ap (step_or_fault code n) (nowhere (step code n) refl)))
      ∙ ap (λ c. (c, faulted_at n)) none_more
    where
      nowhere : (o : Option Machine) → step code n ≡ o → step code n ≡ None
      nowhere None e = e
      nowhere (Some o) e = absurd (stuck o (steps_by_rule code n o e))

  -- a step before an advance
  step_before : {m n : Machine} {before after : RunState} {b count : ℕ} → code ⊢ m ⟶ n →
      (budget total : ℕ) → budget ≡ b + 1 → total ≡ count + 1 →
      before ≡ arrived code n → AdvancesTo code b before count after → AdvancesTo code budget (going_at m) total after
  step_before {m = m} {n = n} rule budget total one_more counts e (stays {r = r} stopped) = by (label_of n == length code) refl
    where
      by : (b : Bool) → (label_of n == length code) ≡ b → AdvancesTo code budget (going_at m) total r
      by true exit =
          let label = eqb-true (label_of n) (length code) exit in
          let steps = subst (λ k. Steps code k m n) (sym counts) (more rule none) in
          subst (AdvancesTo code budget (going_at m) total) (sym (e ∙ at_exit n label)) (halts steps (omega arith) (omega arith) label)
      by false exit = absurd (false≢true (sym stopped ∙ ap (λ s. is_going s.status) (e ∙ before_exit n (eqb-false (label_of n) (length code) exit))))
  step_before {m = m} {b = b} rule budget total one_more counts e (goes_on {n = n'} steps before) =
      let all : budget ≡ total = omega arith in
      let on = subst (λ k. Steps code k m n') (sym one_more) (more rule (subst (λ x. Steps code b x n') (ap (λ r. r.machine) e) steps)) in
      subst (λ k. AdvancesTo code budget (going_at m) k (going_at n')) all (goes_on on before)
  step_before {m = m} rule budget total one_more counts e (halts {count = count} {n = n'} steps some within exit) =
      let on = subst (λ k. Steps code k m n') (sym counts) (more rule (subst (λ x. Steps code count x n') (ap (λ r. r.machine) e) steps)) in
      halts on (omega arith) (omega arith) exit
  step_before {m = m} rule budget total one_more counts e (faults {count = count} {n = n'} steps within before stuck) =
      let on = subst (λ k. Steps code k m n') (sym counts) (more rule (subst (λ x. Steps code count x n') (ap (λ r. r.machine) e) steps)) in
      faults on (omega arith) before stuck

  -- what the run of a budget makes of a run that is halted exactly at the exit is by the rules
  abbrev RunIsByRules : ℕ → Status → Machine → Type 0
  RunIsByRules budget status m =
      let r : RunState = record { status = status; machine = m } in
      is_halted status ≡ (label_of m == length code) → AdvancesTo code budget r (run code budget r).0 (run code budget r).1

  pub run_advances_to : (budget : ℕ) (status : Status) (m : Machine) → RunIsByRules budget status m
  run_advances_to budget Halted m honest = rw (run_stopped code budget (halted_at m) refl) (stays refl)
  run_advances_to budget Faulted m honest = rw (run_stopped code budget (faulted_at m) refl) (stays refl)
  run_advances_to zero Going m honest = rw (run_none code (going_at m)) (goes_on none (eqb-false (label_of m) (length code) (sym honest)))
  run_advances_to (suc budget) Going m honest = by (step code m) refl (run_advances_to budget)
    where
      by : (o : Option Machine) → step code m ≡ o → ((s : Status) (n : Machine) → RunIsByRules budget s n) →
          AdvancesTo code (suc budget) (going_at m) (run code (suc budget) (going_at m)).0 (run code (suc budget) (going_at m)).1
      by None stuck rest =
          rw (made_none code budget (going_at m) (faulted_at m) (ap (step_or_fault code m) stuck))
          (faults none (omega arith) (eqb-false (label_of m) (length code) (sym honest)) (λ o rule. none-some o (sym stuck ∙ rule_steps code rule)))
      by (Some n) made rest =
          let next = arrived code n in
          rw (made_one code budget (going_at m) next (ap (step_or_fault code m) made))
          (step_before (steps_by_rule code m n made) (suc budget) (1 + (run code budget next).0) (omega arith) (omega arith) refl
          (rest next.status n (arrived_true code n).halted_at_the_exit))
