-- The sheet: what one observer may see of the variables, by their levels and values. Assumes nothing.
use Rattle.std.specs.Prelude.{ℕ, zero, suc, ◌+◌, ◌*◌, ◌/◌, ◌%◌, Bool, if◌then◌else◌, List, [], ◌∷◌, ◌++◌, length, drop, ℤ, pos, nat_lt, slice_index, slice_index_or}
use Rattle.std.specs.Int.{w32, cast_unsigned}
use Rattle.lattice.specs.Order.{Order}
use Rattle.controller.specs.State.{ReadyState}

-- A variable is open to an observer when its level is at most the observer's.
abbrev pub is_open : Order → List ℕ → ℕ → ℕ → Bool
is_open o levels observer variable = o.at_most (slice_index levels variable) observer

-- A variable's number and its value, lower byte first.
abbrev pub line : ℕ → ℤ → List ℕ
line variable value =
    let code : ℕ = cast_unsigned w32 value in
    variable ∷ code % 256 ∷ code / 256 % 256 ∷ code / 65536 % 256 ∷ code / 16777216 % 256 ∷ []

-- How many of the first n variables are open.
unfoldable pub open_below : Order → List ℕ → ℕ → ℕ → ℕ
open_below o levels observer zero = 0
open_below o levels observer (suc n) =
    open_below o levels observer n + (if is_open o levels observer n then 1 else 0)

-- The lines of the open ones among the first n variables.
unfoldable pub lines_below : Order → List ℕ → List ℤ → ℕ → ℕ → List ℕ
lines_below o levels values observer zero = []
lines_below o levels values observer (suc n) =
    lines_below o levels values observer n
    ++ (if is_open o levels observer n then line n (slice_index_or values n (pos 0)) else [])

abbrev pub open_count : Order → List ℕ → ℕ → ℕ
open_count o levels observer = open_below o levels observer 32

abbrev pub sheet : Order → List ℕ → List ℤ → ℕ → List ℕ
sheet o levels values observer = lines_below o levels values observer 32

-- What is left in a buffer: a sheet at its front, and behind it what was there.
abbrev pub sheet_in_front : Order → List ℕ → List ℤ → ℕ → List ℕ → List ℕ
sheet_in_front o levels values observer buffer =
    sheet o levels values observer ++ drop (5 * open_count o levels observer) buffer

-- Show answers a number and a count, and leaves a buffer.
abbrev pub shown_over : Order → List ℕ → List ℤ → ℕ → List ℕ → (ℕ × ℕ) × List ℕ
shown_over o levels values observer buffer =
    if nat_lt observer o.span
    then (if nat_lt (length buffer) (5 * open_count o levels observer)
    then ((3, 0), buffer)
    else ((0, open_count o levels observer), sheet_in_front o levels values observer buffer))
    else ((2, 0), buffer)

abbrev pub show_outcome : {L : Type 0} → (L → Order) → ReadyState L → ℕ → List ℕ → (ℕ × ℕ) × List ℕ
show_outcome order s = shown_over (order s.lattice) s.levels s.values
