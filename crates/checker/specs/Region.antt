-- The region of a branch: as the least set that the rule names, and as a table of marks. Assumes nothing.
use Rattle.std.specs.Prelude.{ℕ, zero, suc, ◌≤◌, Bool, true, false, if◌then◌else◌, ◌≢◌, ◌↔◌, IsTrue, List, [], ◌∷◌, length, replicate, Some, None, Option, ◌==◌, slice_index_or, slice_set}
use Rattle.std.specs.List.{Contains}
use Rattle.push.specs.declared.instruction.Instruction.{Instruction}
use Rattle.push.specs.Code.{fetch}
use Rattle.push.specs.Language.{successors}

-- The labels that an instruction, if there is one, can go to from its label; from the exit there is none.
abbrev pub from_instruction : Option Instruction → ℕ → List ℕ
from_instruction None label = []
from_instruction (Some i) label = successors i label

abbrev pub next_labels : List Instruction → ℕ → List ℕ
next_labels code label = from_instruction (fetch code label) label

-- The least set that holds each label after the branch except the junction and, with each label, those after it except
-- the junction.
pub data Region (code : List Instruction) (junction branch : ℕ) : ℕ → Type 0 where
  enter : {label : ℕ} → Contains (next_labels code branch) label → label ≢ junction →
      Region code junction branch label
  onward : {from label : ℕ} → Region code junction branch from →
      Contains (next_labels code from) label → label ≢ junction → Region code junction branch label

-- The same set by marks at the labels 0 to 128.
abbrev pub mark_all : ℕ → List ℕ → List Bool → List Bool
mark_all junction [] marks = marks
mark_all junction (label ∷ labels) marks =
    mark_all junction labels (if label == junction then marks else slice_set marks label true)

-- Marks what comes after each marked label below n, in rising order.
unfoldable pub spread_below : List Instruction → ℕ → ℕ → List Bool → List Bool
spread_below code junction zero marks = marks
spread_below code junction (suc n) marks =
    let before : List Bool = spread_below code junction n marks in
    if slice_index_or before n false then mark_all junction (next_labels code n) before else before

unfoldable pub spread_times : List Instruction → ℕ → ℕ → List Bool → List Bool
spread_times code junction zero marks = marks
spread_times code junction (suc k) marks =
    spread_below code junction (length code) (spread_times code junction k marks)

-- At most 129 rounds mark something, and none does after one that marks nothing, so 130 are enough.
abbrev pub region : List Instruction → ℕ → ℕ → List Bool
region code junction branch =
    spread_times code junction 130
    (mark_all junction (next_labels code branch) (replicate 129 false))

-- Both are the same set, for every program that can be mounted.
abbrev pub MarksAreTheRegion : Type 0
MarksAreTheRegion =
    (code : List Instruction) (junction branch label : ℕ) → length code ≤ 128 → label ≤ 128 →
    IsTrue (slice_index_or (region code junction branch) label false)
    ↔ Region code junction branch label
