-- What acceptance promises of runs: they never fault, and closed values stay out of open variables. Assumes nothing.
use Rattle.std.specs.Prelude.{◌≡◌, ℕ, ◌<◌, ◌⊎◌, IsTrue, List, [], length, ℤ, pos, slice_index, slice_index_or}
use Rattle.lattice.specs.Order.{Order}
use Rattle.push.specs.declared.instruction.Instruction.{Instruction}
use Rattle.push.specs.declared.value.Value.{Value}
use Rattle.push.specs.Machine.{Machine, at, ◌⊢◌⟶◌}
use Rattle.push.specs.Run.{Steps, label_of}
use Rattle.job.specs.Layout.{opening}
use Rattle.checker.specs.Faults.{number_and_label}
use Rattle.checker.specs.Verdict.{verdict, decoded_code}

-- Whatever a run comes to is the exit, or a rule applies there.
abbrev pub NeverFaults : List Instruction → Type 0
NeverFaults code =
    (values : List ℤ) (k : ℕ) (m : Machine) → Steps code k (at 0 [] values) m →
    (label_of m ≡ length code) ⊎ ((n : Machine) × (code ⊢ m ⟶ n))

-- Two lists of the 32 values that agree on every variable that is open to an observer.
pub record SameWhenOpen (o : Order) (levels : List ℕ) (observer : ℕ) (vs ws : List ℤ) : Type 0 where
  pub left : length vs ≡ 32
  pub right : length ws ≡ 32
  pub agree : (v : ℕ) → v < 32 → IsTrue (o.at_most (slice_index levels v) observer) →
      slice_index_or vs v (pos 0) ≡ slice_index_or ws v (pos 0)

-- Two runs from such values that both halt, at the exit, end in such values.
abbrev pub KeepsClosed : Order → List ℕ → List Instruction → Type 0
KeepsClosed o levels code =
    (observer : ℕ) (vs ws : List ℤ) → SameWhenOpen o levels observer vs ws →
    (j k : ℕ) (s t : List Value) (vs' ws' : List ℤ) →
    Steps code j (at 0 [] vs) (at (length code) s vs') →
    Steps code k (at 0 [] ws) (at (length code) t ws') →
    SameWhenOpen o levels observer vs' ws'

-- Each variable's level is a level. Else a load would join a code that is none, which gives 0.
abbrev pub LevelsOfVariables : Order → List ℕ → Type 0
LevelsOfVariables o levels = (v : ℕ) → v < 32 → slice_index levels v < o.span

-- The two promises of acceptance.
abbrev pub AcceptedJobsNeverFault : Order → List ℕ → List ℕ → Type 0
AcceptedJobsNeverFault o levels bytes =
    number_and_label (verdict o levels bytes) ≡ (0, 0) → NeverFaults (decoded_code bytes (opening bytes))

abbrev pub AcceptedJobsKeepClosed : Order → List ℕ → List ℕ → Type 0
AcceptedJobsKeepClosed o levels bytes =
    number_and_label (verdict o levels bytes) ≡ (0, 0) → LevelsOfVariables o levels →
    KeepsClosed o levels (decoded_code bytes (opening bytes))
