-- What each call does, by rules: by a call with its answer one state of a controller leads to another, and the answers
-- of a list of calls are a chain of such steps. State.antt and Lists.antt say the same by functions; these rules are to
-- be read first, and `TranscriptFollowsTheRules` at the end says that both agree. Assumes nothing.
use Rattle.std.specs.Prelude.{◌≡◌, ◌≢◌, ℕ, ◌+◌, ◌*◌, ◌<◌, ◌≤◌, List, [], ◌∷◌, replicate, ℤ, pos, Some, None, slice_index_or, slice_set}
use Rattle.lattice.specs.Order.{Order}
use Rattle.push.specs.declared.status.Status.TheVariants as status
use Rattle.push.specs.Run.{RunState, begun, values_of, status_number, AdvancesTo}
use Rattle.job.specs.Layout.{opening}
use Rattle.checker.specs.declared.fault.MountFault.{MountFault}
use Rattle.checker.specs.Faults.{fault_answer}
use Rattle.checker.specs.Verdict.{first_fault, decoded_code}
use Rattle.checker.specs.WellClaimed.{Mountable, FirstBroken}
use Rattle.controller.specs.declared.refusal.Refusal.TheVariants.{NoVariable, NoLevel, ShortBuffer}
use Rattle.controller.specs.declared.ending.Ending.TheVariants.{Unfinished, Halted}
use Rattle.controller.specs.Answers.{refusal_number, ending_number}
use Rattle.controller.specs.State.{SetupState, ReadyState, RunningState}
use Rattle.controller.specs.Sheet.{open_count, sheet}
use Rattle.controller.specs.Lists.{Call, grade, seal, mount, set, read, show, start, advance, end, unseal, Answer, graded, sealed, mounted, was_set, was_read, shown, started, advanced, ended, unsealed, not_allowed, State, in_setup, is_ready, is_running, allowed, disallowed, outcome, new_controller, transcript}

-- The names of the states, and the one state that each call belongs to.
pub data StateName : Type 0 where
  setup : StateName
  ready : StateName
  running : StateName

abbrev pub name_of : State → StateName
name_of (in_setup _) = setup
name_of (is_ready _) = ready
name_of (is_running _) = running

abbrev pub belongs_to : Call → StateName
belongs_to (grade _ _) = setup
belongs_to seal = setup
belongs_to (advance _) = running
belongs_to end = running
belongs_to _ = ready

-- The rules. A refused call leaves the state as it was.
pub data LeadsTo : State → Call → Answer → State → Type 0 where
  grade_accepted :
      {s : SetupState Order} {v l : ℕ} → v < 32 → l < s.lattice.span →
      LeadsTo (in_setup s) (grade v l) (graded 0)
      (in_setup (record s { levels = slice_set s.levels v l }))
  grade_no_variable :
      {s : SetupState Order} {v l : ℕ} → 32 ≤ v →
      LeadsTo (in_setup s) (grade v l) (graded (refusal_number NoVariable)) (in_setup s)
  grade_no_level :
      {s : SetupState Order} {v l : ℕ} → v < 32 → s.lattice.span ≤ l →
      LeadsTo (in_setup s) (grade v l) (graded (refusal_number NoLevel)) (in_setup s)
  seal_accepted :
      {s : SetupState Order} →
      LeadsTo (in_setup s) seal sealed
      (is_ready (record {
        lattice = s.lattice;
        levels = s.levels;
        values = replicate 32 (pos 0);
        program = [];
      }))
  mount_accepted :
      {s : ReadyState Order} {bytes : List ℕ} → Mountable s.lattice s.levels bytes →
      LeadsTo (is_ready s) (mount bytes) (mounted None)
      (is_ready (record s { program = decoded_code bytes (opening bytes) }))
  mount_refused :
      {s : ReadyState Order} {bytes : List ℕ} {fault : MountFault} →
      first_fault s.lattice s.levels bytes ≡ Some fault →
      FirstBroken s.lattice s.levels bytes (fault_answer fault).0 (fault_answer fault).1
      (fault_answer fault).2 →
      LeadsTo (is_ready s) (mount bytes) (mounted (Some fault)) (is_ready s)
  set_accepted :
      {s : ReadyState Order} {v : ℕ} {x : ℤ} → v < 32 →
      LeadsTo (is_ready s) (set v x) (was_set 0)
      (is_ready (record s { values = slice_set s.values v x }))
  set_no_variable :
      {s : ReadyState Order} {v : ℕ} {x : ℤ} → 32 ≤ v →
      LeadsTo (is_ready s) (set v x) (was_set (refusal_number NoVariable)) (is_ready s)
  read_accepted :
      {s : ReadyState Order} {v : ℕ} → v < 32 →
      LeadsTo (is_ready s) (read v) (was_read (0, slice_index_or s.values v (pos 0))) (is_ready s)
  read_no_variable :
      {s : ReadyState Order} {v : ℕ} → 32 ≤ v →
      LeadsTo (is_ready s) (read v) (was_read (refusal_number NoVariable, pos 0)) (is_ready s)
  show_accepted :
      {s : ReadyState Order} {observer length : ℕ} →
      observer < s.lattice.span → 5 * open_count s.lattice s.levels observer ≤ length →
      LeadsTo (is_ready s) (show observer length)
      (shown (0, open_count s.lattice s.levels observer)
      (sheet s.lattice s.levels s.values observer))
      (is_ready s)
  show_no_level :
      {s : ReadyState Order} {observer length : ℕ} → s.lattice.span ≤ observer →
      LeadsTo (is_ready s) (show observer length)
      (shown (refusal_number NoLevel, 0) []) (is_ready s)
  show_short_buffer :
      {s : ReadyState Order} {observer length : ℕ} →
      observer < s.lattice.span → length < 5 * open_count s.lattice s.levels observer →
      LeadsTo (is_ready s) (show observer length)
      (shown (refusal_number ShortBuffer, 0) []) (is_ready s)
  start_accepted :
      {s : ReadyState Order} →
      LeadsTo (is_ready s) start started
      (is_running (record {
        lattice = s.lattice;
        levels = s.levels;
        remembered = s.values;
        program = s.program;
        run = begun s.program s.values;
      }))
  unseal_accepted :
      {s : ReadyState Order} →
      LeadsTo (is_ready s) unseal unsealed
      (in_setup (record { lattice = s.lattice; levels = s.levels }))
  advance_accepted :
      {s : RunningState Order} {budget count : ℕ} {after : RunState} →
      AdvancesTo s.program budget s.run count after →
      LeadsTo (is_running s) (advance budget) (advanced (status_number after.status, count))
      (is_running (record s { run = after }))
  end_halted :
      {s : RunningState Order} → s.run.status ≡ status.Halted →
      LeadsTo (is_running s) end (ended (ending_number Halted))
      (is_ready (record {
        lattice = s.lattice;
        levels = s.levels;
        values = values_of s.run.machine;
        program = s.program;
      }))
  end_unfinished :
      {s : RunningState Order} → s.run.status ≢ status.Halted →
      LeadsTo (is_running s) end (ended (ending_number Unfinished))
      (is_ready (record {
        lattice = s.lattice;
        levels = s.levels;
        values = s.remembered;
        program = s.program;
      }))

-- The answers of a list from a position and a state on: each call's own, and then those of the calls that are left, on the
-- state that it leads to. A call in a state that it does not belong to is answered so, with its position, and ends the list.
pub data AnswersFrom : ℕ → State → List Call → List Answer → Type 0 where
  none : {position : ℕ} {s : State} → AnswersFrom position s [] []
  made :
      {position : ℕ} {s t : State} {call : Call} {answer : Answer} →
      {calls : List Call} {answers : List Answer} →
      LeadsTo s call answer t → AnswersFrom (position + 1) t calls answers →
      AnswersFrom position s (call ∷ calls) (answer ∷ answers)
  stopped :
      {position : ℕ} {s : State} {call : Call} {calls : List Call} → name_of s ≢ belongs_to call →
      AnswersFrom position s (call ∷ calls) (not_allowed position ∷ [])

-- The answers of a list on a new controller.
abbrev pub AnswersOf : Order → List Call → List Answer → Type 0
AnswersOf o calls answers = AnswersFrom 0 (new_controller o) calls answers

-- The functions say what the rules say: of each call its answer and the state that it leads to, and of each list its
-- answers.
pub record TranscriptFollowsTheRules (o : Order) : Type 0 where
  pub rule_gives_the_outcome :
      {s t : State} {call : Call} {answer : Answer} →
      LeadsTo s call answer t → outcome s call ≡ allowed answer t
  pub elsewhere_is_disallowed :
      (s : State) (call : Call) → name_of s ≢ belongs_to call → outcome s call ≡ disallowed
  pub rules_give_the_transcript :
      {calls : List Call} {answers : List Answer} →
      AnswersOf o calls answers → transcript o calls ≡ answers
  pub transcript_is_by_the_rules : (calls : List Call) → AnswersOf o calls (transcript o calls)
