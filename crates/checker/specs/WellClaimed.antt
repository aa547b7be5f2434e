-- What the claims of a job must satisfy, as relations, and what the verdict says of them. Assumes nothing.
use Rattle.std.specs.Prelude.{◌≡◌, ℕ, ◌+◌, ◌<◌, ◌≤◌, IsTrue, ◌≢◌, ◌⊎◌, List, [], ◌∷◌, ◌++◌, map, length, Some, Ok, slice_index}
use Rattle.std.specs.List.{Contains}
use Rattle.lattice.specs.Order.{Order}
use Rattle.push.specs.declared.instruction.Instruction.{Instruction}
use Rattle.push.specs.declared.instruction.Instruction.TheVariants.{Store, GotoF}
use Rattle.push.specs.declared.kind.Kind.{Kind}
use Rattle.push.specs.Code.{fetch}
use Rattle.push.specs.Language.{kinds_after, successors}
use Rattle.job.specs.declared.claim.Place.{Place}
use Rattle.job.specs.declared.claim.Place.TheVariants.{IntegerAt, BooleanAt}
use Rattle.job.specs.declared.field.InstructionField.{InstructionField}
use Rattle.job.specs.declared.field.ClaimField.{ClaimField}
use Rattle.job.specs.Fields.{InstructionFields, two, instruction_offset, claim_offset, like_instruction, like_claim, FirstUnlike}
use Rattle.job.specs.Layout.{Sizes, right_length, opening, instruction_place, instruction_record, claim_length, claim_place, claim_record}
use Rattle.job.specs.Records.{Claimed, kind, fields_in, every_field_fits}
use Rattle.checker.specs.Faults.{Cause, accepted, number_and_label, nothing, byte, instruction_field, claim_field, variable, successor as to_successor, exit as at_exit_of, region as in_region}
use Rattle.checker.specs.Leaving.{level_at, joined_one, leaves}
use Rattle.checker.specs.Rules.{ProgramWithClaims, exit}
use Rattle.checker.specs.Region.{Region}
use Rattle.checker.specs.Verdict.{instruction_at, job_in, verdict}

-- A claimed stack has at most eight places, and there are kinds after the instruction on its kinds.
pub record FitsItsStack (c : Claimed) (i : Instruction) : Type 0 where
  pub room : length c.stack ≤ 8
  pub after : List Kind
  pub runs : kinds_after i (map kind c.stack) ≡ Some after

-- What is stored is, joined with the surrounding level, at most the variable's level.
abbrev pub StoresUpward : Order → List ℕ → Claimed → Instruction → Type 0
StoresUpward o levels c i =
    (v : ℕ) → i ≡ Store v → IsTrue (o.at_most (joined_one o c) (slice_index levels v))

-- Leaving places of the claimed kinds, each with a level at most the claimed one.
pub data Under (o : Order) : List Place → List Place → Type 0 where
  none : Under o [] []
  integer : {a b : ℕ} {ps qs : List Place} → IsTrue (o.at_most a b) → Under o ps qs →
      Under o (IntegerAt a ∷ ps) (IntegerAt b ∷ qs)
  boolean : {a b : ℕ} {ps qs : List Place} → IsTrue (o.at_most a b) → Under o ps qs →
      Under o (BooleanAt a ∷ ps) (BooleanAt b ∷ qs)

-- The exit takes the empty stack, another label what lies under its claim.
pub data Takes (o : Order) (job : ProgramWithClaims) (stack : List Place) (label : ℕ) : Type 0 where
  at_exit : label ≡ exit job → stack ≡ [] → Takes o job stack label
  by_claim : {c : Claimed} → label ≢ exit job → job.claim label ≡ Some c → Under o stack c.stack →
      Takes o job stack label

abbrev pub SuccessorsTake : Order → List ℕ → ProgramWithClaims → ℕ → Claimed → Instruction → Type 0
SuccessorsTake o levels job label c i =
    (next : ℕ) → Contains (successors i label) next → Takes o job (leaves o levels c i) next

-- The region of a branch does not hold the exit, and every label in it is surrounded by a level at least that of the
-- boolean which the branch pops.
abbrev pub AvoidsExit : ProgramWithClaims → ℕ → Instruction → Type 0
AvoidsExit job label i = (m j : ℕ) → i ≡ GotoF m j → ¬ (Region job.code j label (exit job))

pub record Surrounded (o : Order) (job : ProgramWithClaims) (g label : ℕ) : Type 0 where
  pub claimed : Claimed
  pub has : job.claim label ≡ Some claimed
  pub at_least : IsTrue (o.at_most g claimed.surrounding)

abbrev pub RegionRaised : Order → ProgramWithClaims → ℕ → Claimed → Instruction → Type 0
RegionRaised o job label c i =
    (m j inside : ℕ) → i ≡ GotoF m j → Region job.code j label inside → inside < exit job →
    Surrounded o job (level_at c.stack 0) inside

-- A run begins with the empty stack at label 0.
abbrev pub BeginsEmpty : ProgramWithClaims → Type 0
BeginsEmpty job = (exit job ≡ 0) ⊎ ((c : Claimed) × (job.claim 0 ≡ Some c) × (c.stack ≡ []))

pub record LabelKept (o : Order) (levels : List ℕ) (job : ProgramWithClaims)
    (label : ℕ) (c : Claimed) (i : Instruction) : Type 0 where
  pub fits : FitsItsStack c i
  pub stores : StoresUpward o levels c i
  pub taken : SuccessorsTake o levels job label c i

pub record BranchKept (o : Order) (job : ProgramWithClaims)
    (label : ℕ) (c : Claimed) (i : Instruction) : Type 0 where
  pub avoids : AvoidsExit job label i
  pub raised : RegionRaised o job label c i

-- What holds of a label with its claim and its instruction, if it has both.
abbrev pub WhereClaimed : ProgramWithClaims → (ℕ → Claimed → Instruction → Type 0) → ℕ → Type 0
WhereClaimed job P label =
    (c : Claimed) (i : Instruction) → job.claim label ≡ Some c → fetch job.code label ≡ Some i →
    P label c i

abbrev pub Below : ℕ → (ℕ → Type 0) → Type 0
Below n P = (label : ℕ) → label < n → P label

abbrev pub LabelsKept : Order → List ℕ → ProgramWithClaims → Type 0
LabelsKept o levels job = Below (exit job) (WhereClaimed job (LabelKept o levels job))

pub record WellClaimed (o : Order) (levels : List ℕ) (job : ProgramWithClaims) : Type 0 where
  pub entry : BeginsEmpty job
  pub labels : LabelsKept o levels job
  pub branches : Below (exit job) (WhereClaimed job (BranchKept o job))

-- The records of a job are like their descriptions.
pub record Says (bytes : List ℕ) (s : Sizes) (label : ℕ) : Type 0 where
  pub instruction : Instruction
  pub read : instruction_at bytes s label ≡ Some instruction

abbrev pub LikeAClaim : Order → List ℕ → Sizes → ℕ → Type 0
LikeAClaim o bytes s label = IsTrue (every_field_fits o.span s.places (claim_record bytes s label))

pub record Decodes (o : Order) (bytes : List ℕ) (s : Sizes) : Type 0 where
  pub opened : opening bytes ≡ Ok s
  pub instructions : Below s.instructions (Says bytes s)
  pub claims : Below s.instructions (LikeAClaim o bytes s)

pub record Mountable (o : Order) (levels bytes : List ℕ) : Type 0 where
  pub sizes : Sizes
  pub decodes : Decodes o bytes sizes
  pub well_claimed : WellClaimed o levels (job_in bytes sizes)

-- Of some labels the first that does not take what leaves: those before it take it.
pub record FirstRefusing (Take : ℕ → Type 0) (labels : List ℕ) (label : ℕ) : Type 0 where
  pub earlier : List ℕ
  pub later : List ℕ
  pub among : labels ≡ earlier ++ label ∷ later
  pub taken : (other : ℕ) → Contains earlier other → Take other
  pub refuses : ¬ (Take label)

-- The lowest label of a branch's region whose surrounding level is too low.
pub record LowestTooLow (o : Order) (job : ProgramWithClaims)
    (label : ℕ) (c : Claimed) (junction inside : ℕ) : Type 0 where
  pub held : Region job.code junction label inside
  pub within : inside < exit job
  pub low : ¬ (Surrounded o job (level_at c.stack 0) inside)
  pub lowest : (other : ℕ) → other < inside → Region job.code junction label other →
      Surrounded o job (level_at c.stack 0) other

-- The first rule that a claimed label, or a claimed branch, breaks: its number, and its cause.
pub data LabelBreaks (o : Order) (levels : List ℕ) (job : ProgramWithClaims)
    (label : ℕ) (c : Claimed) (i : Instruction) : ℕ → Cause → Type 0 where
  stack : ¬ (FitsItsStack c i) → LabelBreaks o levels job label c i 11 nothing
  store : {v : ℕ} → FitsItsStack c i → i ≡ Store v → ¬ (StoresUpward o levels c i) →
      LabelBreaks o levels job label c i 12 (variable v)
  successor : {next : ℕ} → FitsItsStack c i → StoresUpward o levels c i →
      FirstRefusing (Takes o job (leaves o levels c i)) (successors i label) next →
      LabelBreaks o levels job label c i 13 (to_successor next)

pub data BranchBreaks (o : Order) (job : ProgramWithClaims)
    (label : ℕ) (c : Claimed) (i : Instruction) : ℕ → Cause → Type 0 where
  exit_inside : ¬ (AvoidsExit job label i) → BranchBreaks o job label c i 14 (at_exit_of (exit job))
  too_low : {m j inside : ℕ} → AvoidsExit job label i → i ≡ GotoF m j →
      LowestTooLow o job label c j inside → BranchBreaks o job label c i 15 (in_region inside)

-- At a label with a claim and an instruction a rule breaks which held at all such labels before.
pub record BreaksAt (job : ProgramWithClaims) (P : ℕ → Claimed → Instruction → Type 0)
    (breaks : ℕ → Claimed → Instruction → ℕ → Cause → Type 0)
    (number label : ℕ) (cause : Cause) : Type 0 where
  pub within : label < exit job
  pub before : Below label (WhereClaimed job P)
  pub claimed : Claimed
  pub instruction : Instruction
  pub has : job.claim label ≡ Some claimed
  pub fetched : fetch job.code label ≡ Some instruction
  pub broken : breaks label claimed instruction number cause

abbrev pub LabelBreaksAt : Order → List ℕ → ProgramWithClaims → ℕ → ℕ → Cause → Type 0
LabelBreaksAt o levels job number label cause =
    BreaksAt job (LabelKept o levels job) (LabelBreaks o levels job) number label cause

abbrev pub BranchBreaksAt : Order → ProgramWithClaims → ℕ → ℕ → Cause → Type 0
BranchBreaksAt o job number label cause =
    BreaksAt job (BranchKept o job) (BranchBreaks o job) number label cause

-- What is wrong first with the opening or the length: its number and its byte place. A wrong length is named at the first
-- byte that is missing or too much.
pub data Unopened (bytes : List ℕ) : ℕ → ℕ → Type 0 where
  too_short : length bytes < 4 → Unopened bytes 4 0
  too_many_instructions : 4 ≤ length bytes → 128 < two bytes 0 → Unopened bytes 5 0
  too_many_places : 4 ≤ length bytes → two bytes 0 ≤ 128 → 8 < two bytes 2 → Unopened bytes 6 2
  bytes_missing : 4 ≤ length bytes → two bytes 0 ≤ 128 → two bytes 2 ≤ 8 →
      length bytes < right_length (two bytes 0) (two bytes 2) → Unopened bytes 7 (length bytes)
  bytes_too_many : 4 ≤ length bytes → two bytes 0 ≤ 128 → two bytes 2 ≤ 8 →
      right_length (two bytes 0) (two bytes 2) < length bytes →
      Unopened bytes 7 (right_length (two bytes 0) (two bytes 2))

-- The first rule that a job breaks, in the order in which the rules stand, by number, label and cause. Of a record the
-- cause is its first field that is unlike its description, with the byte place of that field.
pub data FirstBroken (o : Order) (levels bytes : List ℕ) : ℕ → ℕ → Cause → Type 0 where
  unopened : {number place : ℕ} → Unopened bytes number place →
      FirstBroken o levels bytes number 0 (byte place)
  instruction : {s : Sizes} {label : ℕ} {r : InstructionFields} {field : InstructionField} →
      opening bytes ≡ Ok s → label < s.instructions → Below label (Says bytes s) →
      fields_in (instruction_record bytes label) ≡ Some r →
      FirstUnlike instruction_offset (like_instruction s.instructions r) field →
      FirstBroken o levels bytes 8 label
      (instruction_field field (instruction_place label + instruction_offset field))
  claim : {s : Sizes} {label : ℕ} {field : ClaimField} →
      opening bytes ≡ Ok s → Below s.instructions (Says bytes s) →
      label < s.instructions → Below label (LikeAClaim o bytes s) →
      claim_offset field < claim_length s →
      FirstUnlike claim_offset (like_claim o.span s.places (claim_record bytes s label)) field →
      FirstBroken o levels bytes 9 label
      (claim_field field (claim_place s label + claim_offset field))
  entry : {s : Sizes} → Decodes o bytes s → ¬ (BeginsEmpty (job_in bytes s)) →
      FirstBroken o levels bytes 10 0 nothing
  label_rule : {s : Sizes} {number label : ℕ} {cause : Cause} →
      Decodes o bytes s → BeginsEmpty (job_in bytes s) →
      LabelBreaksAt o levels (job_in bytes s) number label cause →
      FirstBroken o levels bytes number label cause
  branch_rule : {s : Sizes} {number label : ℕ} {cause : Cause} →
      Decodes o bytes s → BeginsEmpty (job_in bytes s) → LabelsKept o levels (job_in bytes s) →
      BranchBreaksAt o (job_in bytes s) number label cause →
      FirstBroken o levels bytes number label cause

-- Number and label of the verdict are 0 exactly for the jobs that decode and are well claimed, and the verdict on any other
-- names the first broken rule, whichever that is.
pub record Judged (o : Order) (levels bytes : List ℕ) : Type 0 where
  pub accepted_is_mountable :
      number_and_label (verdict o levels bytes) ≡ (0, 0) → Mountable o levels bytes
  pub mountable_is_accepted : Mountable o levels bytes → verdict o levels bytes ≡ accepted
  pub refused_names_the_first :
      number_and_label (verdict o levels bytes) ≢ (0, 0) →
      FirstBroken o levels bytes (verdict o levels bytes).0 (verdict o levels bytes).1
      (verdict o levels bytes).2
  pub first_is_named :
      {number label : ℕ} {cause : Cause} → FirstBroken o levels bytes number label cause →
      verdict o levels bytes ≡ (number, label, cause)
