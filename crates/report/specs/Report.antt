-- The report's bytes. Assumes nothing.
use Rattle.std.specs.Prelude.{ℕ, ◌+◌, ◌*◌, Bool, false, if◌then◌else◌, not, List, [], ◌∷◌, ◌++◌, ℤ, Some, None, codes, decimal, Option, ◌==◌, slice_index}
use Rattle.std.specs.Int.{w32, cast_signed}
use Rattle.std.specs.Fmt.{signed_decimal}
use Rattle.std.specs.List.{flat_map, list_any}
use Rattle.lattice.specs.Order.{Order}
use Rattle.checker.specs.Faults.{Answered, answer_to}
use Rattle.controller.specs.Lists.{Answer, graded, mounted, shown, advanced, ended, transcript}
use Rattle.report.specs.Input.{fits, kind, calls}

abbrev pub bad_input : List ℕ
bad_input = codes "input\n"

-- A variable and its value, in decimal.
abbrev pub row : ℕ → ℤ → List ℕ
row variable value = decimal variable ++ (codes " " ++ (signed_decimal value ++ codes "\n"))

-- The rows of a sheet's lines.
unfoldable pub rows : List ℕ → List ℕ
rows (variable ∷ b0 ∷ b1 ∷ b2 ∷ b3 ∷ lines) =
    row variable (cast_signed w32 (b0 + b1 * 256 + b2 * 65536 + b3 * 16777216)) ++ rows lines
rows _ = []

-- The text of a sheet with so many lines.
abbrev pub sheet_text : ℕ → List ℕ → List ℕ
sheet_text count lines = codes "sheet " ++ (decimal count ++ (codes "\n" ++ rows lines))

-- The line of a mount's number and label; the cause is not in it.
abbrev pub mount_line : Answered → List ℕ
mount_line answer =
    codes "mount " ++ (decimal answer.0 ++ (codes " " ++ (decimal answer.1 ++ codes "\n")))

abbrev pub run_line : ℕ × ℕ → List ℕ
run_line answer =
    codes "run " ++ (decimal answer.0 ++ (codes " " ++ (decimal answer.1 ++ codes "\n")))

abbrev pub end_line : ℕ → List ℕ
end_line answer = codes "end " ++ (decimal answer ++ codes "\n")

-- The lines of an answer; most calls have none.
abbrev pub answer_lines : Answer → List ℕ
answer_lines (mounted fault) = mount_line (answer_to fault)
answer_lines (advanced answer) = run_line answer
answer_lines (ended answer) = end_line answer
answer_lines (shown answer bytes) = if answer.0 == 0 then sheet_text answer.1 bytes else []
answer_lines _ = []

-- A level or an observer that is no level makes an input bad: a grade or a show is refused.
abbrev pub is_refused : Answer → Bool
is_refused (graded number) = not (number == 0)
is_refused (shown answer _) = not (answer.0 == 0)
is_refused _ = false

abbrev pub answers_text : List Answer → List ℕ
answers_text answers =
    if list_any is_refused answers then bad_input else flat_map answer_lines answers

-- The text of an input over a lattice: that of the transcript of its calls.
abbrev pub transcript_text : Order → List ℕ → List ℕ
transcript_text o bytes = answers_text (transcript o (calls bytes))

-- The text of an input, where its text over each lattice is given: that over the one that it names. Where the bytes are
-- not fitting in length, or name no kind, they are no input.
abbrev pub text_by_kind : (Order → List ℕ → List ℕ) → Option Order → List ℕ → List ℕ
text_by_kind text_over (Some o) bytes = text_over o bytes
text_by_kind text_over None bytes = bad_input

abbrev pub input_text : (List ℕ → Bool) → (Order → List ℕ → List ℕ) → List ℕ → List ℕ
input_text fitting text_over bytes =
    if fitting bytes
    then text_by_kind text_over (kind (slice_index bytes 0)) bytes
    else bad_input

abbrev pub report : List ℕ → List ℕ
report bytes = input_text fits transcript_text bytes
