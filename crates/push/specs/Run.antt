-- A run: a machine with its status, and what an advance makes of it. Assumes nothing.
use Rattle.std.specs.Prelude.{◌≡◌, ◌≢◌, ℕ, zero, suc, ◌+◌, ◌<◌, ◌≤◌, Bool, true, false, List, [], length, ℤ, Some, None, Option, ◌==◌, IsFalse, if◌then◌else◌}
use Rattle.push.specs.declared.instruction.Instruction.{Instruction}
use Rattle.push.specs.declared.status.Status.{Status}
use Rattle.push.specs.declared.status.Status.TheVariants.{Going, Halted, Faulted}
use Rattle.push.specs.declared.value.Value.{Value}
use Rattle.push.specs.Machine.{Machine, at, step, ◌⊢◌⟶◌}

abbrev pub status_number : Status → ℕ
status_number Going = 0
status_number Halted = 1
status_number Faulted = 2

pub record RunState : Type 0 where
  pub status : Status
  pub machine : Machine

-- A run with its program, as contracts see it.
pub record ProgramRun : Type 0 where
  pub program : List Instruction
  pub state : RunState

abbrev pub label_of : Machine → ℕ
label_of (at l s vs) = l

abbrev pub stack_of : Machine → List Value
stack_of (at l s vs) = s

abbrev pub values_of : Machine → List ℤ
values_of (at l s vs) = vs

-- A run by its status.
abbrev pub going_at : Machine → RunState
going_at m = record { status = Going; machine = m }

abbrev pub halted_at : Machine → RunState
halted_at m = record { status = Halted; machine = m }

abbrev pub faulted_at : Machine → RunState
faulted_at m = record { status = Faulted; machine = m }

-- A machine that has come to a label: at the exit it has halted.
abbrev pub arrived : List Instruction → Machine → RunState
arrived code m = record {
  status = if label_of m == length code then Halted else Going;
  machine = m;
}

-- A new run on values.
abbrev pub begun : List Instruction → List ℤ → RunState
begun code values = arrived code (at 0 [] values)

-- Whether a step is made, and the run then: by the machine that the step leads to, if there is one. A fault changes the
-- status alone.
abbrev pub step_or_fault : List Instruction → Machine → Option Machine → Bool × RunState
step_or_fault code m None = (false, faulted_at m)
step_or_fault code m (Some n) = (true, arrived code n)

-- The same of a run, which makes no step once it has stopped.
abbrev pub one_step : List Instruction → Status → Machine → Bool × RunState
one_step code Going m = step_or_fault code m (step code m)
one_step code status m = (false, record { status = status; machine = m })

-- A run of at most so many steps: how many are made, and the run then.
unfoldable pub run : List Instruction → ℕ → RunState → ℕ × RunState
run code zero r = (0, r)
run code (suc k) r =
    let next : Bool × RunState = one_step code r.status r.machine in
    let rest : ℕ × RunState = run code k next.1 in
    if next.0 then (1 + rest.0, rest.1) else (0, next.1)

-- So many steps of the machine.
pub data Steps (code : List Instruction) : ℕ → Machine → Machine → Type 0 where
  none : {m : Machine} → Steps code 0 m m
  more : {k : ℕ} {m n o : Machine} → code ⊢ m ⟶ n → Steps code k n o → Steps code (k + 1) m o

abbrev pub is_going : Status → Bool
is_going Going = true
is_going _ = false

abbrev pub is_halted : Status → Bool
is_halted Halted = true
is_halted _ = false

-- A status is true of its machine: it is halted exactly at the exit, and faulted only where no rule applies.
pub record TrueStatus (code : List Instruction) (r : RunState) : Type 0 where
  pub halted_at_the_exit : is_halted r.status ≡ (label_of r.machine == length code)
  pub faulted_without_a_rule : r.status ≡ Faulted → (n : Machine) → ¬ (code ⊢ r.machine ⟶ n)

abbrev pub NewRunsAreTrue : Type 0
NewRunsAreTrue =
    (code : List Instruction) (values : List ℤ) → TrueStatus code (begun code values)

-- What an advance with a budget makes of a run when it answers a count.
pub record CountedSteps
    (code : List Instruction) (budget count : ℕ) (before after : RunState) : Type 0 where
  pub machine_steps : Steps code count before.machine after.machine
  pub within_budget : count ≤ budget
  pub short_only_if_stopped : count < budget → IsFalse (is_going after.status)
  pub status_stays_true : TrueStatus code before → TrueStatus code after

-- What an advance with a budget makes of a run, by rules: the run before, the count that is answered, the run after. A run
-- that has stopped stays. One that is going stands before the exit; it makes steps until the budget is used up, or it
-- comes to the exit, by one step at least, or no rule of the machine applies.
pub data AdvancesTo (code : List Instruction) (budget : ℕ) :
    RunState → ℕ → RunState → Type 0 where
  stays : {r : RunState} → IsFalse (is_going r.status) → AdvancesTo code budget r 0 r
  goes_on : {m n : Machine} →
      Steps code budget m n → label_of n ≢ length code →
      AdvancesTo code budget (going_at m) budget (going_at n)
  halts : {count : ℕ} {m n : Machine} →
      Steps code count m n → 0 < count → count ≤ budget → label_of n ≡ length code →
      AdvancesTo code budget (going_at m) count (halted_at n)
  faults : {count : ℕ} {m n : Machine} →
      Steps code count m n → count < budget → label_of n ≢ length code →
      ((o : Machine) → ¬ (code ⊢ n ⟶ o)) →
      AdvancesTo code budget (going_at m) count (faulted_at n)
