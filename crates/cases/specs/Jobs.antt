-- The jobs of the worked cases, as bytes. Assumes nothing.
use Rattle.std.specs.Prelude.{List, [], ◌∷◌, ◌++◌, ℕ, ◌-◌, replicate}

-- An instruction record with an operand below 256.
abbrev ins : ℕ → ℕ → ℕ → List ℕ
ins operation junction operand = operation ∷ junction ∷ operand ∷ 0 ∷ 0 ∷ 0 ∷ []

-- A stack place: 0 an integer, 1 a boolean, and its level.
abbrev place : ℕ → ℕ → List ℕ
place kind level = kind ∷ level ∷ 0 ∷ []

-- A claim record: the depth, the surrounding level, the places and the zeros after them.
abbrev claim : ℕ → ℕ → List ℕ → List ℕ
claim depth surrounding places = 1 ∷ depth ∷ surrounding ∷ 0 ∷ places

abbrev none : List ℕ
none = 0 ∷ 0 ∷ 0 ∷ []

-- 0 load 1, 1 store 0, with an int claimed at label 1.
abbrev pub load_store : ℕ → List ℕ
load_store level =
    (2 ∷ 0 ∷ 1 ∷ 0 ∷ []) ++ ins 1 0 1 ++ ins 2 0 0 ++ claim 0 0 none ++ claim 1 0 (place 0 level)

-- Job B, with the junction of its branch and the surrounding level of label 6.
abbrev pub job_b : ℕ → ℕ → List ℕ
job_b junction surrounding =
    (8 ∷ 0 ∷ 2 ∷ 0 ∷ [])
    ++ ins 1 0 1 ++ ins 3 0 0 ++ ins 6 0 0 ++ ins 10 junction 6
    ++ ins 3 0 5 ++ ins 9 0 7 ++ ins 3 0 9 ++ ins 2 0 2
    ++ claim 0 0 (none ++ none)
    ++ claim 1 0 (place 0 3 ++ none)
    ++ claim 2 0 (place 0 0 ++ place 0 3)
    ++ claim 1 0 (place 1 3 ++ none)
    ++ claim 0 3 (none ++ none)
    ++ claim 1 3 (place 0 3 ++ none)
    ++ claim 0 surrounding (none ++ none)
    ++ claim 1 0 (place 0 3 ++ none)

-- 0 load 1, 1 copy, 2 add, 3 store 3: label 1 is surrounded by 4, and label 2 claims a level for the copy.
abbrev pub copy_job : ℕ → List ℕ
copy_job top =
    (4 ∷ 0 ∷ 2 ∷ 0 ∷ [])
    ++ ins 1 0 1 ++ ins 11 0 0 ++ ins 4 0 0 ++ ins 2 0 3
    ++ claim 0 0 (none ++ none)
    ++ claim 1 4 (place 0 3 ++ none)
    ++ claim 2 0 (place 0 top ++ place 0 3)
    ++ claim 1 0 (place 0 4 ++ none)

-- 0 load 1, 1 push 3, 2 swap, 3 sub, 4 store 3: the surrounding level of label 2, and the levels that label 3 claims.
abbrev pub swap_job : ℕ → ℕ → ℕ → List ℕ
swap_job surrounding top under =
    (5 ∷ 0 ∷ 2 ∷ 0 ∷ [])
    ++ ins 1 0 1 ++ ins 3 0 3 ++ ins 12 0 0 ++ ins 5 0 0 ++ ins 2 0 3
    ++ claim 0 0 (none ++ none)
    ++ claim 1 0 (place 0 3 ++ none)
    ++ claim 2 surrounding (place 0 0 ++ place 0 3)
    ++ claim 2 0 (place 0 top ++ place 0 under)
    ++ claim 1 0 (place 0 4 ++ none)

-- 0 load 1, 1 push 9, 2 drop, 3 store 3: label 2 is surrounded by 4, and label 3 claims a level for what is left.
abbrev pub drop_job : ℕ → List ℕ
drop_job top =
    (4 ∷ 0 ∷ 2 ∷ 0 ∷ [])
    ++ ins 1 0 1 ++ ins 3 0 9 ++ ins 13 0 0 ++ ins 2 0 3
    ++ claim 0 0 (none ++ none)
    ++ claim 1 0 (place 0 3 ++ none)
    ++ claim 2 4 (place 0 0 ++ place 0 3)
    ++ claim 1 0 (place 0 top ++ none)

-- 0 load 1, 1 push 3, 2 less, 3 copy, 4 drop, 5 push 7, 6 swap, 7 drop, 8 store 3: the kind of the top that label 7 claims,
-- 0 or 1, where the place under it has the other kind.
abbrev pub bool_job : ℕ → List ℕ
bool_job top =
    (9 ∷ 0 ∷ 2 ∷ 0 ∷ [])
    ++ ins 1 0 1 ++ ins 3 0 3 ++ ins 7 0 0 ++ ins 11 0 0 ++ ins 13 0 0
    ++ ins 3 0 7 ++ ins 12 0 0 ++ ins 13 0 0 ++ ins 2 0 3
    ++ claim 0 0 (none ++ none)
    ++ claim 1 0 (place 0 3 ++ none)
    ++ claim 2 0 (place 0 0 ++ place 0 3)
    ++ claim 1 0 (place 1 3 ++ none)
    ++ claim 2 0 (place 1 3 ++ place 1 3)
    ++ claim 1 0 (place 1 3 ++ none)
    ++ claim 2 0 (place 0 0 ++ place 1 3)
    ++ claim 2 0 (place top 3 ++ place (1 - top) 0)
    ++ claim 1 0 (place 0 0 ++ none)

-- 0 goto 0, 1 an operation with no operand: label 1 claims so many ints at 0. All bytes of such a stack place are 0.
abbrev pub on_ints : ℕ → ℕ → List ℕ
on_ints operation depth =
    (2 ∷ 0 ∷ 8 ∷ 0 ∷ [])
    ++ ins 9 0 0 ++ ins operation 0 0
    ++ claim 0 0 (replicate 24 0)
    ++ claim depth 0 (replicate 24 0)

-- 0 goto 0.
abbrev pub goto_itself : List ℕ
goto_itself = (1 ∷ 0 ∷ 0 ∷ 0 ∷ []) ++ ins 9 0 0 ++ claim 0 0 []

-- The levels of the variables: v0 as given, v1 and v2 at 3, the others at 15.
abbrev pub levels_with : ℕ → List ℕ
levels_with v0 = v0 ∷ 3 ∷ 3 ∷ replicate 29 15
