-- Where the fields of an input stand, and what is done with them. Assumes nothing.
use Rattle.std.specs.Prelude.{ℕ, ◌+◌, ◌*◌, Bool, if◌then◌else◌, ◌&&◌, List, [], ◌∷◌, ◌++◌, map, length, drop, ℤ, Some, None, Option, ◌==◌, nat_le, nat_lt, slice_index}
use Rattle.std.specs.Int.{w32, cast_signed}
use Rattle.std.specs.List.{range_with_len}
use Rattle.lattice.specs.Order.{Order}
use Rattle.lattice.specs.Kinds.{ladder, owners, flip, pair}
use Rattle.job.specs.First.{all_below}
use Rattle.controller.specs.State.{ReadyState, sealed_state}
use Rattle.controller.specs.Lists.{Call, grade, seal, mount, set, start, advance, end, show}

abbrev pub fits : List ℕ → Bool
fits bytes = nat_le 199 (length bytes) && nat_le (length bytes) 4555

-- An input for a cause has the kind and the levels, and behind them a job.
abbrev pub has_levels : List ℕ → Bool
has_levels bytes = nat_le 65 (length bytes)

-- The lattice that a kind byte names.
abbrev pub kind : ℕ → Option Order
kind byte =
    if byte == 0 then Some (ladder 16)
    else (if byte == 1 then Some (owners 4)
    else (if byte == 2 then Some (pair (ladder 4) (flip (ladder 4))) else None))

-- A variable's level: two bytes, lower byte first.
abbrev pub level : List ℕ → ℕ → ℕ
level bytes variable =
    slice_index bytes (1 + 2 * variable) + slice_index bytes (2 + 2 * variable) * 256

-- A variable's value: four bytes, lower byte first, signed.
abbrev pub value : List ℕ → ℕ → ℤ
value bytes variable =
    cast_signed w32
    (slice_index bytes (65 + 4 * variable) + slice_index bytes (66 + 4 * variable) * 256
    + slice_index bytes (67 + 4 * variable) * 65536
    + slice_index bytes (68 + 4 * variable) * 16777216)

abbrev pub observer : List ℕ → ℕ
observer bytes = slice_index bytes 193 + slice_index bytes 194 * 256

abbrev pub budget : List ℕ → ℕ
budget bytes =
    slice_index bytes 195 + slice_index bytes 196 * 256 + slice_index bytes 197 * 65536
    + slice_index bytes 198 * 16777216

abbrev pub job : List ℕ → List ℕ
job bytes = drop 199 bytes

abbrev pub job_behind_levels : List ℕ → List ℕ
job_behind_levels bytes = drop 65 bytes

-- What f says of each variable, in rising order.
unfoldable pub each : {X : Type 0} → (ℕ → X) → List X
each f = map f (range_with_len 0 32)

-- What is done with an input: every variable is graded, the controller sealed, the job mounted and
-- every variable set; then comes one run with the budget, and the observer's sheet by way of a
-- buffer that any sheet fits.
abbrev pub calls : List ℕ → List Call
calls bytes =
    each (λ variable. grade variable (level bytes variable))
    ++ (seal ∷ mount (job bytes)
    ∷ (each (λ variable. set variable (value bytes variable))
    ++ (start ∷ advance (budget bytes) ∷ end ∷ show (observer bytes) 160 ∷ [])))

-- Whether every level is a level of the lattice.
abbrev pub all_levels : Order → List ℕ → Bool
all_levels o bytes = all_below (λ variable. nat_lt (level bytes variable) o.span) 32

-- The graded and sealed controller, and one with every value set.
abbrev pub sealed_controller : Order → List ℕ → ReadyState Order
sealed_controller o bytes = sealed_state (record { lattice = o; levels = each (level bytes) })

abbrev pub with_values : List ℕ → ReadyState Order → ReadyState Order
with_values bytes s = record s { values = each (value bytes) }
