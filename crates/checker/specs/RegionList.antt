-- The region of a branch as a list of labels, each once, in the order in which they are found. Assumes nothing.
use Rattle.std.specs.Prelude.{◌≡◌, ℕ, ◌≤◌, Bool, false, if◌then◌else◌, not, ◌&&◌, ◌||◌, ◌↔◌, IsTrue, List, [], ◌∷◌, ◌++◌, length, Some, None, Option, ◌==◌, slice_index_or}
use Rattle.std.specs.List.{Contains, IsDistinct, list_any}
use Rattle.lattice.specs.Order.{Order}
use Rattle.push.specs.declared.instruction.Instruction.{Instruction}
use Rattle.push.specs.declared.instruction.Instruction.TheVariants.{GotoF}
use Rattle.push.specs.Code.{fetch}
use Rattle.checker.specs.Rules.{ProgramWithClaims}
use Rattle.checker.specs.Region.{Region, next_labels}
use Rattle.checker.specs.Verdict.{claim_at_least}

-- Whether a label is in a list, and that no label is in it twice.
abbrev pub has : List ℕ → ℕ → Bool
has labels label = list_any (λ other. label == other) labels

abbrev pub NoDup : List ℕ → Type 0
NoDup = IsDistinct (λ label other. label == other)

-- What is found so far of the region of a branch with this junction.
pub record RegionList : Type 0 where
  pub junction : ℕ
  pub labels : List ℕ

-- A label that comes next: it goes to the end, unless it is the junction or there already.
abbrev pub with_label : RegionList → ℕ → RegionList
with_label r label =
    if label == r.junction || has r.labels label then r
    else record { junction = r.junction; labels = r.labels ++ label ∷ [] }

abbrev pub with_labels : RegionList → List ℕ → RegionList
with_labels r [] = r
with_labels r (label ∷ labels) = with_labels (with_label r label) labels

-- Each label once, none of them the junction, and all of them labels of the longest program: so there are at most 128.
pub record WellListed (r : RegionList) : Type 0 where
  pub each_once : NoDup r.labels
  pub without_junction : has r.labels r.junction ≡ false
  pub within : (label : ℕ) → IsTrue (has r.labels label) → label ≤ 128
  pub junction_within : r.junction ≤ 128

-- A table of the labels 0 to 128 that says which are in a list.
pub record TableOf (table : List Bool) (labels : List ℕ) : Type 0 where
  pub size : length table ≡ 129
  pub says : (label : ℕ) → label ≤ 128 → slice_index_or table label false ≡ has labels label

-- The list is the region, the least set.
abbrev pub IsTheRegion : List Instruction → ℕ → RegionList → Type 0
IsTheRegion code branch r =
    (label : ℕ) → IsTrue (has r.labels label) ↔ Region code r.junction branch label

-- A program of at most 128 instructions, where no instruction goes past the exit and no junction lies past it.
pub record LabelsWithin (code : List Instruction) : Type 0 where
  pub few : length code ≤ 128
  pub next : (label next : ℕ) → Contains (next_labels code label) next → next ≤ length code
  pub junction : (label target junction : ℕ) → fetch code label ≡ Some (GotoF target junction) →
      junction ≤ length code

-- Whether a label is in a list, and its surrounding level is not at least g.
abbrev pub too_low_in : Order → ProgramWithClaims → ℕ → List ℕ → ℕ → Bool
too_low_in o job g labels label = has labels label && not (claim_at_least o g (job.claim label))

-- The lowest label of which a test is true, or none where it is true of none.
abbrev pub IsLowest : (ℕ → Bool) → Option ℕ → Type 0
IsLowest test None = (label : ℕ) → test label ≡ false
IsLowest test (Some lowest) =
    IsTrue (test lowest) × ((label : ℕ) → IsTrue (test label) → lowest ≤ label)
