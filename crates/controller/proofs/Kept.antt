-- What every state that a list of calls can come to keeps, so that no advance answers 2. Assumes the laws of the
-- order.
use Rattle.std.proofs.Common.{◌≡◌, ℕ, ◌+◌, Bool, true, false, cond, ltb, List, [], ◌∷◌, length, get_or, set, ℤ, pos, Some, None, Option, sym, refl, ap, ◌∙◌, subst, inl, ⊎_elim, arith}
use lib.ListN.{length-replicate}
use Rattle.std.proofs.lemmas.List.{length-set}
use Rattle.std.proofs.lemmas.List.Sums.{sum_by-cons}
use Rattle.std.proofs.lemmas.Bool.{cases_lt, true≢false, ltb-true, eq-eqb}
use Rattle.lattice.specs.Order.{Order, Laws}
use Rattle.push.specs.declared.instruction.Instruction.{Instruction}
use Rattle.push.specs.declared.status.Status.{Status}
use Rattle.push.specs.declared.status.Status.TheVariants.{Going, Halted, Faulted}
use Rattle.push.specs.Machine as rule
use Rattle.push.specs.Machine.{Machine, at, ◌⊢◌⟶◌}
use Rattle.push.specs.Run as runs
use Rattle.push.specs.Run.{RunState, Steps, run, begun, is_halted, label_of, values_of, TrueStatus, status_number}
use Rattle.push.proofs.RunFacts.{run_advances, new_runs_are_true}
use Rattle.job.specs.Layout.{opening}
use Rattle.checker.specs.declared.fault.MountFault.{MountFault}
use Rattle.checker.specs.Faults.{answer_to, number_and_label}
use Rattle.checker.specs.Verdict.{first_fault, decoded_code}
use Rattle.checker.proofs.Typing.{rule_within}
use Rattle.checker.specs.Flow.{NeverFaults, KeepsClosed}
use Rattle.checker.proofs.Safety.{accepted_jobs_never_fault, accepted_jobs_keep_closed}
use Rattle.controller.specs.State.{SetupState, ReadyState, RunningState, ThirtyTwoLevels, Safe, mounted_state, ready_with}
use Rattle.controller.specs.Lists as lists
use Rattle.controller.specs.Lists.{Call, grade, seal, mount, read, show, start, advance, end, unseal, Answer, graded, mounted, was_set, ended, State, in_setup, is_ready, is_running, Outcome, allowed, disallowed, setup_call, ready_call, running_call, outcome, after_call, transcript_from, new_controller, transcript}
use Rattle.controller.specs.Theorem.{fault_in, stack_faults}
use Rattle.controller.proofs.LevelFacts.{highest_graded, regraded}

-- A run that came by the machine's steps from some values.
pub record UnderWay (code : List Instruction) (values : List ℤ) (r : RunState) : Type 0 where
  pub count : ℕ
  pub reached : Steps code count (at 0 [] values) r.machine
  pub honest : TrueStatus code r

-- A state over the lattice o that a list can come to.
pub data Good (o : Order) : State → Type 0 where
  good_setup : {levels : List ℕ} → ThirtyTwoLevels o levels → Good o (in_setup (record { lattice = o; levels = levels }))
  good_ready :
      {levels : List ℕ} {values : List ℤ} {program : List Instruction} → ThirtyTwoLevels o levels → Safe o levels program → length values ≡ 32 →
      Good o (is_ready (record { lattice = o; levels = levels; values = values; program = program }))
  good_running :
      {levels : List ℕ} {remembered : List ℤ} {program : List Instruction} {r : RunState} →
      ThirtyTwoLevels o levels → Safe o levels program → length remembered ≡ 32 → UnderWay program remembered r →
      Good o (is_running (record { lattice = o; levels = levels; remembered = remembered; program = program; run = r }))

pub run_of : {o : Order} {s : RunningState Order} → Good o (is_running s) → Safe o s.levels s.program × UnderWay s.program s.remembered s.run
run_of (good_running g safe long way) = (safe, way)

-- Steps keep the number of values, and follow one another.
rule_keeps_length : {code : List Instruction} {m n : Machine} → code ⊢ m ⟶ n → length (values_of n) ≡ length (values_of m)
rule_keeps_length (rule.store {v = v} {t = t} {vs = vs} a b) = length-set vs v t
rule_keeps_length _ = refl

pub steps_keep_length : {code : List Instruction} {k : ℕ} {m n : Machine} → Steps code k m n → length (values_of n) ≡ length (values_of m)
steps_keep_length runs.none = refl
steps_keep_length (runs.more r rest) = steps_keep_length rest ∙ rule_keeps_length r

steps_then : {code : List Instruction} {j k : ℕ} {m n p : Machine} → Steps code j m n → Steps code k n p → (i : ℕ) × Steps code i m p
steps_then {k = k} runs.none after = (k, after)
steps_then (runs.more r rest) after = let more = steps_then rest after in (more.0 + 1, runs.more r more.1)

-- A run under way has not faulted, and an advance keeps it so.
pub no_fault : (code : List Instruction) (values : List ℤ) (r : RunState) → NeverFaults code → UnderWay code values r → r.status ≡ Faulted → ⊥
no_fault code values r never way faulted =
    ⊎_elim
    (λ e. true≢false (sym (eq-eqb (label_of r.machine) (length code) e) ∙ sym way.honest.halted_at_the_exit ∙ ap is_halted faulted))
    (λ next. way.honest.faulted_without_a_rule faulted next.0 next.1)
    (never values way.count r.machine way.reached)

pub goes_on : (code : List Instruction) (values : List ℤ) (r : RunState) (budget : ℕ) → UnderWay code values r → UnderWay code values (run code budget r).1
goes_on code values r budget way =
    let advanced = run_advances code budget r in
    let all = steps_then way.reached advanced.machine_steps in
    record { count = all.0; reached = all.1; honest = advanced.status_stays_true way.honest }

pub starts_so : (code : List Instruction) (values : List ℤ) → UnderWay code values (begun code values)
starts_so code values = record { count = 0; reached = runs.none; honest = new_runs_are_true code values }

-- Where there are no levels nothing is open, so only the number of values counts.
none_open : (o : Order) → Laws o → (levels : List ℕ) (program : List Instruction) → o.span ≡ 0 → KeepsClosed o levels program
none_open o laws levels program empty w vs ws alike j k s t vs' ws' left right =
    record {
      left = steps_keep_length left ∙ alike.left;
      right = steps_keep_length right ∙ alike.right;
      agree = λ v hv low. let some = (laws.only_levels (get_or levels v 0) w low).0 in absurd (omega arith);
    }

pub accepted_is_safe :
    (o : Order) → Laws o → (levels bytes : List ℕ) → ThirtyTwoLevels o levels → first_fault o levels bytes ≡ None →
    Safe o levels (decoded_code bytes (opening bytes))
accepted_is_safe o laws levels bytes g is =
    let number = ap (λ found. number_and_label (answer_to found)) is in
    record {
      never_faults = accepted_jobs_never_fault o levels bytes laws number;
      keeps_closed =
          ⊎_elim (λ some. accepted_jobs_keep_closed o levels bytes laws number (g.are_levels some))
          (λ none. none_open o laws levels (decoded_code bytes (opening bytes)) (omega arith)) (cases_lt 0 o.span);
    }

pub mounted_is_safe :
    (o : Order) (levels bytes : List ℕ) (program : List Instruction) → Laws o → ThirtyTwoLevels o levels → first_fault o levels bytes ≡ None →
    program ≡ decoded_code bytes (opening bytes) → Safe o levels program
mounted_is_safe o levels bytes program laws g is same =
    subst (Safe o levels) (sym same) (accepted_is_safe o laws levels bytes g is)

-- The empty program is safe.
nothing_runs : {m n : Machine} → [] ⊢ m ⟶ n → ⊥
nothing_runs {m = at l s vs} {n = n} r = let below = rule_within [] l s vs n r in absurd (omega arith)

pub nothing_is_safe : (o : Order) (levels : List ℕ) → Safe o levels []
nothing_is_safe o levels = record { never_faults = stays; keeps_closed = closed }
  where
    stays : NeverFaults []
    stays values k m runs.none = inl refl
    stays values k m (runs.more r rest) = absurd (nothing_runs r)

    closed : KeepsClosed o levels []
    closed w vs ws alike j k s t vs' ws' runs.none runs.none = alike
    closed w vs ws alike j k s t vs' ws' runs.none (runs.more r rest) = absurd (nothing_runs r)
    closed w vs ws alike j k s t vs' ws' (runs.more r rest) right = absurd (nothing_runs r)

pub new_is_good : (o : Order) → Laws o → Good o (new_controller o)
new_is_good o laws = good_setup (highest_graded o laws)

-- What a call leaves of a good state is good, and no advance answers 2.
pub data GoodOutcome (o : Order) : Outcome → Type 0 where
  good_disallowed : GoodOutcome o disallowed
  good_allowed : {answer : Answer} {s : State} → fault_in answer ≡ 0 → Good o s → GoodOutcome o (allowed answer s)

module _ (o : Order) (laws : Laws o) where
  setup_good : (levels : List ℕ) → ThirtyTwoLevels o levels → (c : Call) → GoodOutcome o (setup_call (record { lattice = o; levels = levels }) c)
  setup_good levels g (grade v l) = by (ltb v 32) (ltb l o.span) refl refl
    where
      s : SetupState Order
      s = record { lattice = o; levels = levels }

      out : Bool → Bool → ℕ × SetupState Order
      out known level = cond known (cond level (0, record s { levels = set levels v l }) (2, s)) (1, s)

      by : (known level : Bool) → ltb v 32 ≡ known → ltb l o.span ≡ level →
          GoodOutcome o (allowed (graded (out known level).0) (in_setup (out known level).1))
      by true true k h = good_allowed refl (good_setup (regraded o levels v l g (ltb-true v 32 k) (ltb-true l o.span h)))
      by true false k h = good_allowed refl (good_setup g)
      by false level k h = good_allowed refl (good_setup g)
  setup_good levels g seal = good_allowed refl (good_ready g (nothing_is_safe o levels) (length-replicate 32 (pos 0)))
  setup_good levels g _ = good_disallowed

  module _ (levels : List ℕ) (values : List ℤ) (program : List Instruction)
      (g : ThirtyTwoLevels o levels) (safe : Safe o levels program) (long : length values ≡ 32) where
    abbrev ready : ReadyState Order
    ready = record { lattice = o; levels = levels; values = values; program = program }

    stays : {answer : Answer} → fault_in answer ≡ 0 → GoodOutcome o (allowed answer (is_ready ready))
    stays none = good_allowed none (good_ready g safe long)

    ready_good : (c : Call) → GoodOutcome o (ready_call ready c)
    ready_good (mount bytes) = by (first_fault o levels bytes) refl
      where
        left : Option MountFault → ReadyState Order
        left found = mounted_state ready found (decoded_code bytes (opening bytes))

        by : (found : Option MountFault) → first_fault o levels bytes ≡ found → GoodOutcome o (allowed (mounted found) (is_ready (left found)))
        by None e = good_allowed refl (good_ready g (accepted_is_safe o laws levels bytes g e) long)
        by (Some fault) e = stays refl
    ready_good (lists.set v x) = by (ltb v 32)
      where
        out : Bool → ℕ × ReadyState Order
        out known = cond known (0, record ready { values = set values v x }) (1, ready)

        by : (known : Bool) → GoodOutcome o (allowed (was_set (out known).0) (is_ready (out known).1))
        by true = good_allowed refl (good_ready g safe (length-set values v x ∙ long))
        by false = stays refl
    ready_good (read _) = stays refl
    ready_good (show _ _) = stays refl
    ready_good start = good_allowed refl (good_running g safe long (starts_so program values))
    ready_good unseal = good_allowed refl (good_setup g)
    ready_good _ = good_disallowed

    module _ (r : RunState) (way : UnderWay program values r) where
      abbrev running : RunningState Order
      running = record { lattice = o; levels = levels; remembered = values; program = program; run = r }

      running_good : (c : Call) → GoodOutcome o (running_call running c)
      running_good (advance budget) =
          let on = goes_on program values r budget way in
          let after : RunState = (run program budget r).1 in
          good_allowed (harmless after.status (no_fault program values after safe.never_faults on)) (good_running g safe long on)
        where
          harmless : (status : Status) → (status ≡ Faulted → ⊥) → fault_in (lists.advanced (status_number status, (run program budget r).0)) ≡ 0
          harmless Going h = refl
          harmless Halted h = refl
          harmless Faulted h = absurd (h refl)
      running_good end = by (is_halted r.status)
        where
          out : Bool → ℕ × ReadyState Order
          out halted = cond halted (1, ready_with running (values_of r.machine)) (0, ready)

          by : (halted : Bool) → GoodOutcome o (allowed (ended (out halted).0) (is_ready (out halted).1))
          by true = good_allowed refl (good_ready g safe (steps_keep_length way.reached ∙ long))
          by false = stays refl
      running_good _ = good_disallowed

  pub stays_good : {s : State} → Good o s → (c : Call) → GoodOutcome o (outcome s c)
  stays_good (good_setup {levels = levels} g) c = setup_good levels g c
  stays_good (good_ready {levels = levels} {values = values} {program = program} g safe long) c = ready_good levels values program g safe long c
  stays_good (good_running {levels = levels} {remembered = remembered} {program = program} {r = r} g safe long way) c =
      running_good levels remembered program g safe long r way c

  no_faults_from : (position : ℕ) (s : State) (calls : List Call) → Good o s → stack_faults (transcript_from position s calls) ≡ 0
  no_faults_from position s [] g = refl
  no_faults_from position s (c ∷ calls) g =
      by (outcome s c) (stays_good g c) (λ next good. no_faults_from (position + 1) next calls good)
    where
      left : State → List Answer
      left next = transcript_from (position + 1) next calls

      by : (out : Outcome) → GoodOutcome o out → ((next : State) → Good o next → stack_faults (left next) ≡ 0) → stack_faults (after_call position out left) ≡ 0
      by disallowed good_disallowed rest = refl
      by (allowed answer next) (good_allowed none good) rest = omega (arith, sum_by-cons fault_in answer (left next), none, rest next good)

  pub no_stack_faults : (calls : List Call) → stack_faults (transcript o calls) ≡ 0
  no_stack_faults calls = no_faults_from 0 (new_controller o) calls (new_is_good o laws)
