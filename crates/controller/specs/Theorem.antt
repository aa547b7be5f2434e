-- The theorem: the stack faults and the differing bytes in lists of calls, what it means that two lists are alike for an
-- observer, and what is promised of them. Assumes nothing.
use Rattle.std.specs.Prelude.{◌≡◌, ℕ, ◌+◌, ◌<◌, Bool, false, if◌then◌else◌, List, [], ◌∷◌, length, map, ℤ, ◌==◌}
use Rattle.std.specs.List.{sum_by, flat_map, zip}
use Rattle.lattice.specs.Order.{Order}
use Rattle.controller.specs.Sheet.{is_open}
use Rattle.controller.specs.Lists.{Call, set, show, advance, Answer, shown, advanced, ended, State, in_setup, is_ready, is_running, Outcome, allowed, disallowed, outcome, new_controller, transcript}

-- Stack faults: the advances that answer 2.
abbrev pub fault_in : Answer → ℕ
fault_in (advanced answer) = if answer.0 == 2 then 1 else 0
fault_in _ = 0

abbrev pub stack_faults : List Answer → ℕ
stack_faults answers = sum_by fault_in answers

-- Whether a call is a show for an observer.
abbrev pub shows_to : ℕ → Call → Bool
shows_to observer (show other _) = other == observer
shows_to observer _ = false

-- The sheet in an answer.
abbrev pub sheet_in : Answer → List ℕ
sheet_in (shown _ bytes) = bytes
sheet_in _ = []

-- The sheets of the shows for an observer, each at its position in the list; all other positions hold no bytes.
abbrev pub sheets : ℕ → List Call → List Answer → List (List ℕ)
sheets observer calls answers =
    map (λ made. if shows_to observer made.0 then sheet_in made.1 else []) (zip calls answers)

-- What the shows for an observer answer.
abbrev pub show_answers : ℕ → List Call → List Answer → List Answer
show_answers observer calls answers =
    flat_map (λ made. if shows_to observer made.0 then made.1 ∷ [] else []) (zip calls answers)

-- Differing bytes: the byte places at which two sheets hold unequal bytes or only one holds any.
abbrev pub differing : List ℕ → List ℕ → ℕ
differing [] ys = length ys
differing (x ∷ xs) [] = 1 + length xs
differing (x ∷ xs) (y ∷ ys) = (if x == y then 0 else 1) + differing xs ys

abbrev pub differing_bytes : List (List ℕ) → List (List ℕ) → ℕ
differing_bytes [] [] = 0
differing_bytes [] (ys ∷ right) = length ys + differing_bytes [] right
differing_bytes (xs ∷ left) [] = length xs + differing_bytes left []
differing_bytes (xs ∷ left) (ys ∷ right) = differing xs ys + differing_bytes left right

-- What each end answered: 1 where the run had halted, else 0.
abbrev pub end_in : Answer → List ℕ
end_in (ended answer) = answer ∷ []
end_in _ = []

abbrev pub ends : List Answer → List ℕ
ends answers = flat_map end_in answers

-- The state after a call; a call that is not allowed leaves it.
abbrev pub state_after : State → Outcome → State
state_after s (allowed answer next) = next
state_after s disallowed = s

-- The state after a call on a state: the one that the rules lead to (Calls.antt), or the same where it is not allowed.
abbrev pub after : State → Call → State
after s call = state_after s (outcome s call)

-- Whether a variable is open to an observer in a state.
abbrev pub open_in : State → ℕ → ℕ → Bool
open_in (in_setup s) = is_open s.lattice s.levels
open_in (is_ready s) = is_open s.lattice s.levels
open_in (is_running s) = is_open s.lattice s.levels

-- Two lists alike for an observer, from a state of the first: the same calls with the same arguments, but for budgets,
-- and for the values of sets whose variable is one of the 32 and, by its level then, closed to the observer. The state of
-- the first list is enough, since levels go by the calls alone.
pub data Alike (observer : ℕ) : State → List Call → List Call → Type 0 where
  none : {s : State} → Alike observer s [] []
  same :
      {s : State} {call : Call} {calls others : List Call} →
      Alike observer (after s call) calls others → Alike observer s (call ∷ calls) (call ∷ others)
  budgets :
      {s : State} {a b : ℕ} {calls others : List Call} →
      Alike observer (after s (advance a)) calls others →
      Alike observer s (advance a ∷ calls) (advance b ∷ others)
  closed :
      {s : State} {v : ℕ} {x y : ℤ} {calls others : List Call} →
      v < 32 → open_in s observer v ≡ false →
      Alike observer (after s (set v x)) calls others →
      Alike observer s (set v x ∷ calls) (set v y ∷ others)

-- No stack fault comes in any list.
abbrev pub NoStackFaults : Order → Type 0
NoStackFaults o = (calls : List Call) → stack_faults (transcript o calls) ≡ 0

-- Two lists, each on a new controller, with their answers: if they are alike for an observer and their ends agree, the
-- observer's sheets are the same, byte for byte, and its shows answer the same.
abbrev pub ShownTheSameIfAlike :
    Order → List Call → List Call → List Answer → List Answer → ℕ → Type 0
ShownTheSameIfAlike o calls others left right observer =
    Alike observer (new_controller o) calls others → ends left ≡ ends right →
    (differing_bytes (sheets observer calls left) (sheets observer others right) ≡ 0)
    × (show_answers observer calls left ≡ show_answers observer others right)

-- So it is with the transcripts of a list and of any other. The observer is any code and the other list any list, those
-- that no program could write included.
abbrev pub ClosedValuesStayClosed : Order → List Call → Type 0
ClosedValuesStayClosed o calls =
    (observer : ℕ) (others : List Call) →
    ShownTheSameIfAlike o calls others (transcript o calls) (transcript o others) observer
