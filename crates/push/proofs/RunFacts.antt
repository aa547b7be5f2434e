-- The run of a budget, step by step, and what it promises of whole runs. Assumes nothing.
use Rattle.std.specs.Prelude.{if◌then◌else◌, ◌==◌, nat_lt}
use Rattle.std.proofs.Common.{◌≡◌, ℕ, zero, suc, ◌+◌, ◌-◌, ◌<◌, Bool, true, false, ◌&&◌, List, [], length, Some, None, Option, sym, refl, ap, ◌∙◌, subst, arith}
use Rattle.std.proofs.lemmas.Bool.{true≢false, false≢true, eqb-true, lt-ltb}
use Rattle.std.proofs.lemmas.Option.{none-some, slice_get_past}
use Rattle.push.specs.declared.instruction.Instruction.{Instruction}
use Rattle.push.specs.Machine.{Machine, at, step, perform, ◌⊢◌⟶◌}
use Rattle.push.specs.declared.status.Status.{Status}
use Rattle.push.specs.declared.status.Status.TheVariants.{Going, Halted, Faulted}
use Rattle.push.specs.Stepped.{next, stepped, settled}
use Rattle.push.specs.Run.{RunState, ProgramRun, one_step, step_or_fault, arrived, run, is_going, is_halted, label_of, Steps, none, more, TrueStatus, NewRunsAreTrue, CountedSteps}
use Rattle.push.proofs.StepFacts.{rule_steps, steps_by_rule}

-- Some steps before a run of more.
abbrev pub counted : ℕ → ℕ × RunState → ℕ × RunState
counted k after = (k + after.0, after.1)

abbrev of : Status → Machine → RunState
of status m = record { status = status; machine = m }

abbrev held : List Instruction → RunState → ProgramRun
held code r = record { program = code; state = r }

module _ (code : List Instruction) where
  pub run_none : (r : RunState) → run code 0 r ≡ (0, r)
  unfolding run
  run_none r = refl

  pub made_one : (k : ℕ) (r after : RunState) → one_step code r.status r.machine ≡ (true, after) → run code (suc k) r ≡ counted 1 (run code k after)
  unfolding run
  made_one k r after e = ap (λ (p : Bool × RunState). if p.0 then counted 1 (run code k p.1) else (0, p.1)) e

  pub made_none : (k : ℕ) (r after : RunState) → one_step code r.status r.machine ≡ (false, after) → run code (suc k) r ≡ (0, after)
  unfolding run
  made_none k r after e = ap (λ (p : Bool × RunState). if p.0 then counted 1 (run code k p.1) else (0, p.1)) e

  -- a run that has stopped
  stays : (status : Status) (m : Machine) → is_going status ≡ false → one_step code status m ≡ (false, record { status = status; machine = m })
  stays Going m e = absurd (true≢false e)
  stays Halted m e = refl
  stays Faulted m e = refl

  pub run_stopped : (k : ℕ) (r : RunState) → is_going r.status ≡ false → run code k r ≡ (0, r)
  run_stopped zero r e = run_none r
  run_stopped (suc k) r e = made_none k r r (stays r.status r.machine e)

  -- at the exit there is no step
  pub no_step_at_exit : (m : Machine) → label_of m ≡ length code → step code m ≡ None
  no_step_at_exit (at l s vs) exit = ap (λ o. perform o l s vs) (slice_get_past code l (omega (arith, exit)))

  steps_before_exit : (m n : Machine) (b : Bool) → (label_of m == length code) ≡ b → step code m ≡ Some n → b ≡ false
  steps_before_exit m n true exit e = absurd (none-some n (sym (no_step_at_exit m (eqb-true (label_of m) (length code) exit)) ∙ e))
  steps_before_exit m n false before e = refl

  -- before the first step there is nothing to settle
  pub nothing_to_settle : (status : Status) (m : Machine) → (settled 0 Going (held code (of status m))).state ≡ of status m
  nothing_to_settle Going m = refl
  nothing_to_settle Halted m = refl
  nothing_to_settle Faulted m = refl

  -- a turn of the loop that makes a step, and one that makes none: the status is settled where the turns end
  pub turn_made : (total : ℕ × RunState) (k left : ℕ) (status : Status) (m : Machine) (after : ProgramRun) → 0 < left
      → total ≡ counted k (run code left (settled k Going (held code (of status m))).state)
      → (true, after) ≡ stepped (held code (of status m)) (next (held code (of status m)))
      → total ≡ counted (k + 1) (run after.program (left - 1) (settled (k + 1) Going after).state)
  turn_made total k left Halted m after some so_far e = absurd (true≢false (ap (λ p. p.0) e))
  turn_made total k left Faulted m after some so_far e = absurd (true≢false (ap (λ p. p.0) e))
  turn_made total k left Going m after some so_far e = by (step code m) refl e
    where
      before : RunState
      before = (settled k Going (held code (of Going m))).state

      stays_going : (b c : Bool) → c ≡ false → (if b && c then Halted else Going) ≡ Going
      stays_going true c e = ap (λ c. if c then Halted else Going) e
      stays_going false c e = refl

      arrives : (o : Machine) → arrived code o ≡ (settled (k + 1) Going (held code (of Going o))).state
      arrives o = ap (λ b. of (if b && (label_of o == length code) then Halted else Going) o) (sym (lt-ltb 0 (k + 1) (omega arith)))

      sums : (c : ℕ) → k + (1 + c) ≡ k + 1 + c
      sums c = omega arith

      by : (o : Option Machine) → step code m ≡ o → (true, after) ≡ stepped (held code (of Going m)) o
          → total ≡ counted (k + 1) (run after.program (left - 1) (settled (k + 1) Going after).state)
      by None stuck e = absurd (true≢false (ap (λ p. p.0) e))
      by (Some o) made e =
          let more : left ≡ suc (left - 1) = omega arith in
          let exit : Bool = label_of m == length code in
          let going : before.status ≡ Going = stays_going (nat_lt 0 k) exit (steps_before_exit m o exit refl made) in
          let turn : one_step code before.status m ≡ (true, arrived code o) = ap (λ s. one_step code s m) going ∙ ap (step_or_fault code m) made in
          so_far ∙ ap (counted k) (ap (λ c. run code c before) more ∙ made_one (left - 1) before (arrived code o) turn)
          ∙ (λ i. (sums (run code (left - 1) (arrived code o)).0 i, (run code (left - 1) (arrived code o)).1))
          ∙ ap (λ r. counted (k + 1) (run code (left - 1) r)) (arrives o)
          ∙ ap (λ p. counted (k + 1) (run p.1.program (left - 1) (settled (k + 1) Going p.1).state)) (sym e)

  ends_there : (total : ℕ × RunState) (k left : ℕ) (r end : RunState) → run code left r ≡ (0, end)
      → total ≡ counted k (run code left r)
      → (k, end) ≡ total
  ends_there total k left r end over so_far = sym (so_far ∙ ap (counted k) over ∙ (λ i. (nothing_more i, end)))
    where
      nothing_more : k + 0 ≡ k
      nothing_more = omega arith

  pub turn_refused : (total : ℕ × RunState) (k left : ℕ) (status : Status) (m : Machine) (after : ProgramRun) → 0 < left
      → total ≡ counted k (run code left (settled k Going (held code (of status m))).state)
      → (false, after) ≡ stepped (held code (of status m)) (next (held code (of status m)))
      → (k, (settled k Faulted after).state) ≡ total
  turn_refused total k left status m after some so_far e = by status so_far e
    where
      ends : (r : RunState) → after ≡ held code r → (k, (settled k Faulted (held code r)).state) ≡ total → (k, (settled k Faulted after).state) ≡ total
      ends r e there = ap (λ p. (k, (settled k Faulted p).state)) e ∙ there

      stuck_there : (halts : Bool) → step code m ≡ None → run code left (of (if halts then Halted else Going) m) ≡ (0, of (if halts then Halted else Faulted) m)
      stuck_there true stuck = run_stopped left (of Halted m) refl
      stuck_there false stuck =
          let more : left ≡ suc (left - 1) = omega arith in
          ap (λ c. run code c (of Going m)) more ∙ made_none (left - 1) (of Going m) (of Faulted m) (ap (step_or_fault code m) stuck)

      going : (o : Option Machine) → step code m ≡ o → total ≡ counted k (run code left (settled k Going (held code (of Going m))).state)
          → (false, after) ≡ stepped (held code (of Going m)) o
          → (k, (settled k Faulted after).state) ≡ total
      going None stuck so_far e =
          let halts : Bool = nat_lt 0 k && (label_of m == length code) in
          ends (of Going m) (ap (λ p. p.1) e) (ends_there total k left _ _ (stuck_there halts stuck) so_far)
      going (Some o) made so_far e = absurd (false≢true (ap (λ p. p.0) e))

      by : (status : Status) → total ≡ counted k (run code left (settled k Going (held code (of status m))).state)
          → (false, after) ≡ stepped (held code (of status m)) (next (held code (of status m)))
          → (k, (settled k Faulted after).state) ≡ total
      by Halted so_far e = ends (of Halted m) (ap (λ p. p.1) e) (ends_there total k left _ _ (run_stopped left (of Halted m) refl) so_far)
      by Faulted so_far e = ends (of Faulted m) (ap (λ p. p.1) e) (ends_there total k left _ _ (run_stopped left (of Faulted m) refl) so_far)
      by Going so_far e = going (step code m) refl so_far e

  -- the budget is used up
  pub run_over : (total : ℕ × RunState) (k left : ℕ) (r : RunState) → left ≡ 0 → total ≡ counted k (run code left r) → (k, r) ≡ total
  run_over total k left r over so_far = ends_there total k left r r (ap (λ n. run code n r) over ∙ run_none r) so_far

  -- a fault or an exit: what no step leaves
  abbrev StoppedAt : RunState → RunState → Type 0
  StoppedAt before after =
      (is_going after.status ≡ false) × (after.machine ≡ before.machine) × (TrueStatus code before → TrueStatus code after)

  stays_stopped : (r after : RunState) → is_going r.status ≡ false → r ≡ after → StoppedAt r after
  stays_stopped r after over same = subst (StoppedAt r) same (over, refl, λ t. t)

  stopped : (status : Status) (m : Machine) (after : RunState) → one_step code status m ≡ (false, after) → StoppedAt (of status m) after
  stopped Halted m after e = stays_stopped (of Halted m) after refl (ap (λ p. p.1) e)
  stopped Faulted m after e = stays_stopped (of Faulted m) after refl (ap (λ p. p.1) e)
  stopped Going m after e = by_step (step code m) refl e
    where
      by_step : (o : Option Machine) → step code m ≡ o → step_or_fault code m o ≡ (false, after) → StoppedAt (of Going m) after
      by_step None stuck e =
          subst (StoppedAt (of Going m)) (ap (λ p. p.1) e) (
            refl,
            refl,
            λ t. record {
              halted_at_the_exit = t.halted_at_the_exit;
              faulted_without_a_rule = λ _ n rule. absurd (none-some n (sym stuck ∙ rule_steps code rule));
            },
          )
      by_step (Some n) made e = absurd (true≢false (ap (λ p. p.0) e))

  pub arrived_true : (n : Machine) → TrueStatus code (arrived code n)
  arrived_true n = by (label_of n == length code) refl
    where
      by : (b : Bool) → (label_of n == length code) ≡ b → TrueStatus code (of (if label_of n == length code then Halted else Going) n)
      by true e = rw e (record { halted_at_the_exit = sym e; faulted_without_a_rule = λ f. absurd (true≢false (ap is_halted f)) })
      by false e = rw e (record { halted_at_the_exit = sym e; faulted_without_a_rule = λ f. absurd (true≢false (ap is_going f)) })

  went_on : (status : Status) (m : Machine) (after : RunState) → one_step code status m ≡ (true, after)
      → (code ⊢ m ⟶ after.machine) × TrueStatus code after
  went_on Halted m after e = absurd (false≢true (ap (λ p. p.0) e))
  went_on Faulted m after e = absurd (false≢true (ap (λ p. p.0) e))
  went_on Going m after e = by_step (step code m) refl e
    where
      by_step : (o : Option Machine) → step code m ≡ o → step_or_fault code m o ≡ (true, after) → (code ⊢ m ⟶ after.machine) × TrueStatus code after
      by_step None stuck e = absurd (false≢true (ap (λ p. p.0) e))
      by_step (Some n) made e =
          let same = ap (λ p. p.1) e in
          (subst (λ r. code ⊢ m ⟶ r.machine) same (steps_by_rule code m n made), subst (TrueStatus code) same (arrived_true n))

  -- whole runs
  pub run_advances : (budget : ℕ) (r : RunState) → CountedSteps code budget (run code budget r).0 r (run code budget r).1
  run_advances zero r = rw (run_none r) (record {
    machine_steps = none;
    within_budget = omega arith;
    short_only_if_stopped = λ h. absurd (omega arith);
    status_stays_true = λ t. t;
  })
  run_advances (suc budget) r = by (one_step code r.status r.machine).0 (one_step code r.status r.machine).1 refl (run_advances budget)
    where
      by : (b : Bool) (after : RunState) → one_step code r.status r.machine ≡ (b, after)
          → ((s : RunState) → CountedSteps code budget (run code budget s).0 s (run code budget s).1)
          → CountedSteps code (suc budget) (run code (suc budget) r).0 r (run code (suc budget) r).1
      by true after e rest =
          let unfolds : run code (suc budget) r ≡ counted 1 (run code budget after) = made_one budget r after e in
          let made = went_on r.status r.machine after e in
          let onward = rest after in
          let counts : (run code budget after).0 + 1 ≡ 1 + (run code budget after).0 = omega arith in
          rw unfolds (record {
            machine_steps = subst (λ k. Steps code k r.machine (run code budget after).1.machine) counts (more made.0 onward.machine_steps);
            within_budget = omega (arith, onward.within_budget);
            short_only_if_stopped = λ h. onward.short_only_if_stopped (omega arith);
            status_stays_true = λ _. onward.status_stays_true made.1;
          })
      by false after e rest =
          let unfolds : run code (suc budget) r ≡ (0, after) = made_none budget r after e in
          let still : StoppedAt r after = stopped r.status r.machine after e in
          rw unfolds (record {
            machine_steps = subst (λ m. Steps code 0 r.machine m) (sym still.1) none;
            within_budget = omega arith;
            short_only_if_stopped = λ _. still.0;
            status_stays_true = still.2;
          })

pub new_runs_are_true : NewRunsAreTrue
new_runs_are_true code values = arrived_true code (at 0 [] values)
