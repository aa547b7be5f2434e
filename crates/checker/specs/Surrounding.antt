-- The surrounding levels of a job's labels, in a table. Assumes nothing.
use Rattle.std.specs.Prelude.{◌≡◌, ℕ, ◌<◌, IsTrue, List, None, Option, slice_index_or}
use Rattle.std.specs.Option.{option_map}
use Rattle.checker.specs.Rules.{ProgramWithClaims, exit}
use Rattle.checker.specs.RegionList.{has}

-- The surrounding level of a label, if it has a claim.
abbrev pub surrounding_of : ProgramWithClaims → ℕ → Option ℕ
surrounding_of job label = option_map (λ c. c.surrounding) (job.claim label)

-- A table holds the surrounding level of each label below n.
abbrev pub SurroundingBelow : ProgramWithClaims → ℕ → List (Option ℕ) → Type 0
SurroundingBelow job n table =
    (label : ℕ) → label < n → slice_index_or table label None ≡ surrounding_of job label

-- A table holds those of all labels of the instructions.
abbrev pub SurroundingOf : ProgramWithClaims → List (Option ℕ) → Type 0
SurroundingOf job table = SurroundingBelow job (exit job) table

-- All labels of a list are below the exit.
abbrev pub AllInside : ProgramWithClaims → List ℕ → Type 0
AllInside job labels = (label : ℕ) → IsTrue (has labels label) → label < exit job
