-- The states of a controller, and of each call its outcome: what it answers, and the state then. The contracts of the
-- calls go by these functions; Calls.antt says the same by rules. Assumes nothing.
use Rattle.std.specs.Prelude.{◌≡◌, ℕ, ◌<◌, if◌then◌else◌, List, [], length, replicate, ℤ, pos, Some, None, Option, nat_lt, slice_index_or, slice_set}
use Rattle.lattice.specs.Order.{Order}
use Rattle.push.specs.declared.instruction.Instruction.{Instruction}
use Rattle.push.specs.Run.{RunState, begun, run, status_number, is_halted, values_of}
use Rattle.job.specs.Layout.{opening}
use Rattle.checker.specs.declared.fault.MountFault.{MountFault}
use Rattle.checker.specs.Faults.{Answered, answer_to}
use Rattle.checker.specs.Verdict.{first_fault, decoded_code}
use Rattle.checker.specs.Flow.{NeverFaults, KeepsClosed, LevelsOfVariables}

-- In setup: the lattice, and each variable's level.
pub record SetupState (L : Type 0) : Type 0 where
  pub lattice : L
  pub levels : List ℕ

-- When ready: also each variable's value, and the mounted program.
pub record ReadyState (L : Type 0) : Type 0 where
  pub lattice : L
  pub levels : List ℕ
  pub values : List ℤ
  pub program : List Instruction

-- With a run under way: the values from before it, the program and the run.
pub record RunningState (L : Type 0) : Type 0 where
  pub lattice : L
  pub levels : List ℕ
  pub remembered : List ℤ
  pub program : List Instruction
  pub run : RunState

-- What is true of the levels in every state: there are 32, each a level of the lattice where that has levels.
pub record ThirtyTwoLevels (o : Order) (levels : List ℕ) : Type 0 where
  pub sized : length levels ≡ 32
  pub are_levels : 0 < o.span → LevelsOfVariables o levels

-- No run of the program faults, and over these levels none lets a closed value into an open variable.
pub record Safe (o : Order) (levels : List ℕ) (program : List Instruction) : Type 0 where
  pub never_faults : NeverFaults program
  pub keeps_closed : KeepsClosed o levels program

-- In what follows `order` gives the order of a lattice. A new controller has every variable at the highest level.
abbrev pub new_state : {L : Type 0} → (L → Order) → L → SetupState L
new_state order lattice =
    record { lattice = lattice; levels = replicate 32 (order lattice).highest }

abbrev pub grade_outcome : {L : Type 0} → (L → Order) → SetupState L → ℕ → ℕ → ℕ × SetupState L
grade_outcome order s variable level =
    if nat_lt variable 32
    then (if nat_lt level (order s.lattice).span
    then (0, record s { levels = slice_set s.levels variable level })
    else (2, s))
    else (1, s)

abbrev pub sealed_state : {L : Type 0} → SetupState L → ReadyState L
sealed_state s =
    record { lattice = s.lattice; levels = s.levels; values = replicate 32 (pos 0); program = [] }

-- Mount goes by the first fault of a job. Where there is none, the job's program replaces the one before; else the answer
-- is that fault's, and the state stays.
abbrev pub mounted_state :
    {L : Type 0} → ReadyState L → Option MountFault → List Instruction → ReadyState L
mounted_state s None program = record s { program = program }
mounted_state s (Some _) program = s

abbrev pub mounted :
    {L : Type 0} → ReadyState L → Option MountFault → List Instruction → Answered × ReadyState L
mounted s found program = (answer_to found, mounted_state s found program)

abbrev pub mount_outcome :
    {L : Type 0} → (L → Order) → ReadyState L → List ℕ → Answered × ReadyState L
mount_outcome order s bytes =
    mounted s (first_fault (order s.lattice) s.levels bytes) (decoded_code bytes (opening bytes))

abbrev pub set_outcome : {L : Type 0} → ReadyState L → ℕ → ℤ → ℕ × ReadyState L
set_outcome s variable value =
    if nat_lt variable 32
    then (0, record s { values = slice_set s.values variable value })
    else (1, s)

abbrev pub read_outcome : {L : Type 0} → ReadyState L → ℕ → ℕ × ℤ
read_outcome s variable =
    if nat_lt variable 32 then (0, slice_index_or s.values variable (pos 0)) else (1, pos 0)

-- Unseal keeps the levels alone; seal makes values and program anew.
abbrev pub unsealed_state : {L : Type 0} → ReadyState L → SetupState L
unsealed_state s = record { lattice = s.lattice; levels = s.levels }

-- Start begins a run on the values, and remembers them.
abbrev pub started_state : {L : Type 0} → ReadyState L → RunningState L
started_state s =
    record {
      lattice = s.lattice;
      levels = s.levels;
      remembered = s.values;
      program = s.program;
      run = begun s.program s.values;
    }

-- Advance answers the status and how many steps were made.
abbrev pub advanced : {L : Type 0} → RunningState L → ℕ × RunState → (ℕ × ℕ) × RunningState L
advanced s after = ((status_number after.1.status, after.0), record s { run = after.1 })

abbrev pub advance_outcome : {L : Type 0} → RunningState L → ℕ → (ℕ × ℕ) × RunningState L
advance_outcome s budget = advanced s (run s.program budget s.run)

-- End keeps the values of a halted run and answers 1; otherwise the remembered values come back and it answers 0.
abbrev pub ready_with : {L : Type 0} → RunningState L → List ℤ → ReadyState L
ready_with s values =
    record { lattice = s.lattice; levels = s.levels; values = values; program = s.program }

abbrev pub end_outcome : {L : Type 0} → RunningState L → ℕ × ReadyState L
end_outcome s =
    if is_halted s.run.status
    then (1, ready_with s (values_of s.run.machine))
    else (0, ready_with s s.remembered)
