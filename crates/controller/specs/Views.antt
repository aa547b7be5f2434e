-- What the Rust values of calls, answers and states are in the terms of Lists.antt. Assumes nothing.
use Rattle.std.specs.Prelude.{◌≡◌, ℕ, ◌/◌, List, [], map, length, Some, None, Ok, Err, vec_items, Option, Result}
use Rattle.std.specs.Result.{result_err}
use Rattle.lattice.specs.Order.{Order}
use Rattle.controller.specs.State.{SetupState, ReadyState, RunningState}
use Rattle.controller.specs.Answers.{refusal_number, done_answer, read_answer, advance_answer, ending_number}
use Rattle.controller.specs.Lists as plain
use Rattle.controller.specs.declared.refusal.Refusal.{Refusal}
use Rattle.controller.specs.declared.call.Call.{Call}
use Rattle.controller.specs.declared.call.Call.TheVariants.{Grade, Seal, Mount, Set, Read, Show, Start, Advance, End, Unseal}
use Rattle.controller.specs.declared.answer.Answer.{Answer}
use Rattle.controller.specs.declared.answer.Answer.TheVariants.{Graded, Sealed, Mounted, WasSet, WasRead, Shown, Started, Advanced, Ended, Unsealed, NotAllowed}
use Rattle.controller.specs.declared.sheet.Sheet.{Sheet}
use Rattle.controller.specs.declared.phase.Phase.{Phase}
use Rattle.controller.specs.declared.phase.Phase.TheVariants as phase

abbrev pub call_of : Call → plain.Call
call_of (Grade variable level) = plain.grade variable level
call_of Seal = plain.seal
call_of (Mount job) = plain.mount job.now
call_of (Set variable value) = plain.set variable value
call_of (Read variable) = plain.read variable
call_of (Show observer length) = plain.show observer length
call_of Start = plain.start
call_of (Advance budget) = plain.advance budget
call_of End = plain.end
call_of Unseal = plain.unseal

-- A sheet has five bytes for each variable that it holds.
abbrev pub sheet_count : Sheet → ℕ
sheet_count sheet = length (vec_items sheet.bytes) / 5

abbrev pub sheet_answer : Result Sheet Refusal → plain.Answer
sheet_answer (Ok sheet) = plain.shown (0, sheet_count sheet) (vec_items sheet.bytes)
sheet_answer (Err e) = plain.shown (refusal_number e, 0) []

abbrev pub answer_of : Answer → plain.Answer
answer_of (Graded r) = plain.graded (done_answer r)
answer_of Sealed = plain.sealed
answer_of (Mounted r) = plain.mounted (result_err r)
answer_of (WasSet r) = plain.was_set (done_answer r)
answer_of (WasRead r) = plain.was_read (read_answer r)
answer_of (Shown r) = sheet_answer r
answer_of Started = plain.started
answer_of (Advanced status steps) = plain.advanced (advance_answer (status, steps))
answer_of (Ended ending) = plain.ended (ending_number ending)
answer_of Unsealed = plain.unsealed
answer_of (NotAllowed position) = plain.not_allowed position

-- Some answers are the transcript of a list.
abbrev pub Transcribes : Order → List Call → List Answer → Type 0
Transcribes o calls answers = map answer_of answers ≡ plain.transcript o (map call_of calls)

-- The states over a lattice, as those over its order.
abbrev pub setup_of : {L : Type 0} → (L → Order) → SetupState L → SetupState Order
setup_of order s = record { lattice = order s.lattice; levels = s.levels }

abbrev pub ready_of : {L : Type 0} → (L → Order) → ReadyState L → ReadyState Order
ready_of order s =
    record { lattice = order s.lattice; levels = s.levels; values = s.values; program = s.program }

abbrev pub running_of : {L : Type 0} → (L → Order) → RunningState L → RunningState Order
running_of order s =
    record {
      lattice = order s.lattice;
      levels = s.levels;
      remembered = s.remembered;
      program = s.program;
      run = s.run;
    }

abbrev pub state_of : {L : Type 0} → (L → Order) → Phase L → plain.State
state_of order (phase.Setup s) = plain.in_setup (setup_of order s)
state_of order (phase.Ready s) = plain.is_ready (ready_of order s)
state_of order (phase.Running s) = plain.is_running (running_of order s)

-- What a call in some state came to.
abbrev pub outcome_of : {L : Type 0} → (L → Order) → Option (Phase L × Answer) → plain.Outcome
outcome_of order None = plain.disallowed
outcome_of order (Some step) = plain.allowed (answer_of step.1) (state_of order step.0)
