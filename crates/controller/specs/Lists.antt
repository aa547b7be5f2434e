-- Lists of calls on one controller, and their transcripts. A call and an answer are those of the Rust enums with numbers
-- in place of results and lists in place of slices; Views.antt turns the ones into the others. Assumes nothing.
use Rattle.std.specs.Prelude.{ℕ, ◌+◌, ◌*◌, List, [], ◌∷◌, take, replicate, ℤ, Option}
use Rattle.lattice.specs.Order.{Order}
use Rattle.checker.specs.declared.fault.MountFault.{MountFault}
use Rattle.checker.specs.Faults.{Answered}
use Rattle.checker.specs.Verdict.{first_fault}
use Rattle.controller.specs.State.{SetupState, ReadyState, RunningState, new_state, grade_outcome, sealed_state, set_outcome, read_outcome, mount_outcome, unsealed_state, started_state, advance_outcome, end_outcome}
use Rattle.controller.specs.Sheet.{show_outcome}

-- A call with its arguments; a show names an observer and the length of its buffer, which counts by its length alone.
pub data Call : Type 0 where
  grade : ℕ → ℕ → Call
  seal : Call
  mount : List ℕ → Call
  set : ℕ → ℤ → Call
  read : ℕ → Call
  show : ℕ → ℕ → Call
  start : Call
  advance : ℕ → Call
  end : Call
  unseal : Call

-- What a call answers: numbers, and for a show its bytes as well; or that its state does not allow it, and its position. A
-- mount answers no fault where the job is accepted, and else the whole fault; `fault_answer` gives its number, label and
-- cause.
pub data Answer : Type 0 where
  graded : ℕ → Answer
  sealed : Answer
  mounted : Option MountFault → Answer
  was_set : ℕ → Answer
  was_read : ℕ × ℤ → Answer
  shown : ℕ × ℕ → List ℕ → Answer
  started : Answer
  advanced : ℕ × ℕ → Answer
  ended : ℕ → Answer
  unsealed : Answer
  not_allowed : ℕ → Answer

-- The state that a controller is in. Of its lattice a list needs the order alone.
pub data State : Type 0 where
  in_setup : SetupState Order → State
  is_ready : ReadyState Order → State
  is_running : RunningState Order → State

-- The order of an order, where an outcome asks for that of a lattice.
abbrev pub the_order : Order → Order
the_order o = o

-- A state allows a call, and this is the answer and the state then; or it does not.
pub data Outcome : Type 0 where
  allowed : Answer → State → Outcome
  disallowed : Outcome

-- A show leaves a sheet at the front of its buffer, five bytes for each variable; a refused one counts none and leaves none.
abbrev pub sheet_shown : (ℕ × ℕ) × List ℕ → Answer
sheet_shown out = shown out.0 (take (5 * out.0.1) out.1)

abbrev pub setup_call : SetupState Order → Call → Outcome
setup_call s (grade variable level) =
    let out : ℕ × SetupState Order = grade_outcome the_order s variable level in
    allowed (graded out.0) (in_setup out.1)
setup_call s seal = allowed sealed (is_ready (sealed_state s))
setup_call s _ = disallowed

abbrev pub ready_call : ReadyState Order → Call → Outcome
ready_call s (mount bytes) =
    let out : Answered × ReadyState Order = mount_outcome the_order s bytes in
    allowed (mounted (first_fault s.lattice s.levels bytes)) (is_ready out.1)
ready_call s (set variable value) =
    let out : ℕ × ReadyState Order = set_outcome s variable value in
    allowed (was_set out.0) (is_ready out.1)
ready_call s (read variable) = allowed (was_read (read_outcome s variable)) (is_ready s)
ready_call s (show observer length) =
    allowed (sheet_shown (show_outcome the_order s observer (replicate length 0))) (is_ready s)
ready_call s start = allowed started (is_running (started_state s))
ready_call s unseal = allowed unsealed (in_setup (unsealed_state s))
ready_call s _ = disallowed

abbrev pub running_call : RunningState Order → Call → Outcome
running_call s (advance budget) =
    let out : (ℕ × ℕ) × RunningState Order = advance_outcome s budget in
    allowed (advanced out.0) (is_running out.1)
running_call s end =
    let out : ℕ × ReadyState Order = end_outcome s in
    allowed (ended out.0) (is_ready out.1)
running_call s _ = disallowed

abbrev pub outcome : State → Call → Outcome
outcome (in_setup s) = setup_call s
outcome (is_ready s) = ready_call s
outcome (is_running s) = running_call s

-- The answers from a call on; one that the state does not allow ends the list.
abbrev pub after_call : ℕ → Outcome → (State → List Answer) → List Answer
after_call position (allowed answer s) rest = answer ∷ rest s
after_call position disallowed rest = not_allowed position ∷ []

-- The answers of a list in order, from a position in it and a state.
abbrev pub transcript_from : ℕ → State → List Call → List Answer
transcript_from position s [] = []
transcript_from position s (call ∷ calls) =
    after_call position (outcome s call) (λ next. transcript_from (position + 1) next calls)

-- On a new controller.
abbrev pub new_controller : Order → State
new_controller o = in_setup (new_state the_order o)

abbrev pub transcript : Order → List Call → List Answer
transcript o calls = transcript_from 0 (new_controller o) calls
