-- The numbers of the controller's answers. Assumes nothing.
use Rattle.std.specs.Prelude.{ℕ, ℤ, pos, Ok, Err, Result}
use Rattle.controller.specs.declared.refusal.Refusal.{Refusal}
use Rattle.controller.specs.declared.refusal.Refusal.TheVariants.{NoVariable, NoLevel, ShortBuffer}
use Rattle.controller.specs.declared.ending.Ending.{Ending}
use Rattle.controller.specs.declared.ending.Ending.TheVariants.{Unfinished, Halted}
use Rattle.push.specs.Run.{status_number}
use Rattle.push.specs.declared.status.Status.{Status}

abbrev pub refusal_number : Refusal → ℕ
refusal_number NoVariable = 1
refusal_number NoLevel = 2
refusal_number ShortBuffer = 3

-- Grade and set answer 0, or the refusal's number.
abbrev pub done_answer : Result (Unit {0}) Refusal → ℕ
done_answer (Ok _) = 0
done_answer (Err e) = refusal_number e

-- Read answers 0 and the value, or the refusal's number and 0.
abbrev pub read_answer : Result ℤ Refusal → ℕ × ℤ
read_answer (Ok value) = (0, value)
read_answer (Err e) = (refusal_number e, pos 0)

-- Show answers 0 and how many, or the refusal's number and 0.
abbrev pub shown_answer : Result ℕ Refusal → ℕ × ℕ
shown_answer (Ok count) = (0, count)
shown_answer (Err e) = (refusal_number e, 0)

-- Advance answers the status and how many steps it made.
abbrev pub advance_answer : Status × ℕ → ℕ × ℕ
advance_answer answer = (status_number answer.0, answer.1)

-- End answers whether the run had halted.
abbrev pub ending_number : Ending → ℕ
ending_number Unfinished = 0
ending_number Halted = 1
