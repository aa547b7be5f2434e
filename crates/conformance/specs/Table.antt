-- The cases that a table's bytes hold. Assumes nothing.
use Rattle.std.specs.Prelude.{ℕ, zero, suc, ◌+◌, ◌*◌, Bool, if◌then◌else◌, List, [], ◌∷◌, length, take, drop, Some, None, Option, nat_le, slice_index}

-- A case is an input and the text that is expected of it.
abbrev pub Trial : Type 0
Trial = List ℕ × List ℕ

-- A case opens with the lengths of its two parts, two bytes each, lower byte first; the parts
-- follow.
abbrev pub input_length : List ℕ → ℕ
input_length table = slice_index table 0 + slice_index table 1 * 256

abbrev pub expected_length : List ℕ → ℕ
expected_length table = slice_index table 2 + slice_index table 3 * 256

abbrev pub size : List ℕ → ℕ
size table = 4 + input_length table + expected_length table

abbrev pub first_case : List ℕ → Trial
first_case table = (
  take (input_length table) (drop 4 table),
  take (expected_length table) (drop (4 + input_length table) table),
)

-- Whether a table begins with a whole case, and the table after it.
abbrev pub has_case : List ℕ → Bool
has_case table = nat_le (size table) (length table)

abbrev pub after_case : List ℕ → List ℕ
after_case table = drop (size table) table

unfoldable pub next_case : List ℕ → Option (Trial × List ℕ)
next_case table = if has_case table then Some (first_case table, after_case table) else None

-- The cases of a table, so many at most, and the bytes after them.
unfoldable pub split_within : ℕ → List ℕ → List Trial × List ℕ
split_within zero table = ([], table)
split_within (suc most) table =
    if has_case table
    then (
      first_case table ∷ (split_within most (after_case table)).0,
      (split_within most (after_case table)).1,
    )
    else ([], table)

-- All cases of a table, which are no more than its bytes, and the bytes after the last whole one.
abbrev pub cases : List ℕ → List Trial
cases table = (split_within (length table) table).0

abbrev pub left_over : List ℕ → List ℕ
left_over table = (split_within (length table) table).1
