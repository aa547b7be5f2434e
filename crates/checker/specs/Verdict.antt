-- The verdict on a job: the first fault that it has, and what mount answers for it. Assumes nothing.
use Rattle.std.specs.Prelude.{ℕ, zero, suc, Bool, false, if◌then◌else◌, not, ◌||◌, List, [], ◌++◌, Some, None, Ok, Err, Option, Result, ◌==◌, slice_index_or, option_to_list}
use Rattle.std.specs.Option.{option_or, option_map}
use Rattle.std.specs.Result.{result_ok, result_err}
use Rattle.lattice.specs.Order.{Order}
use Rattle.push.specs.declared.instruction.Instruction.{Instruction}
use Rattle.push.specs.declared.instruction.Instruction.TheVariants.{GotoF}
use Rattle.push.specs.Code.{fetch}
use Rattle.job.specs.declared.fault.RecordFault.{RecordFault}
use Rattle.job.specs.First.{first_below}
use Rattle.job.specs.Layout.{Sizes, opening, instruction_place, instruction_record, claim_place, claim_record}
use Rattle.job.specs.Records.{Claimed, instruction_in, instruction_read, claim_in, claim_fault}
use Rattle.checker.specs.declared.fault.Rule.{Rule}
use Rattle.checker.specs.declared.fault.Rule.TheVariants.{Entry, RegionExit, RegionLevel}
use Rattle.checker.specs.declared.fault.MountFault.{MountFault}
use Rattle.checker.specs.declared.fault.MountFault.TheVariants.{Record, Claims}
use Rattle.checker.specs.Faults.{Answered, answer_to}
use Rattle.checker.specs.Leaving.{level_at}
use Rattle.checker.specs.Rules.{ProgramWithClaims, exit, is_empty, where_claimed, label_rule}
use Rattle.checker.specs.Region.{region}

-- The surrounding level of a label is at least g.
abbrev pub claim_at_least : Order → ℕ → Option Claimed → Bool
claim_at_least o g None = false
claim_at_least o g (Some c) = o.at_most g c.surrounding

-- A label is not marked, or its surrounding level is at least g.
abbrev pub is_surrounded_if_marked : Order → ProgramWithClaims → ℕ → List Bool → ℕ → Bool
is_surrounded_if_marked o job g marks label =
    not (slice_index_or marks label false) || claim_at_least o g (job.claim label)

-- A marked label whose surrounding level is not, and the lowest such label.
abbrev pub low_at : Order → ProgramWithClaims → ℕ → List Bool → ℕ → Option ℕ
low_at o job g marks label =
    if is_surrounded_if_marked o job g marks label then None else Some label

abbrev pub too_low : Order → ProgramWithClaims → ℕ → List Bool → Option ℕ
too_low o job g marks = first_below (low_at o job g marks) (exit job)

abbrev pub region_rule : Order → ProgramWithClaims → ℕ → ℕ → List Bool → Option Rule
region_rule o job label g marks =
    if slice_index_or marks (exit job) false then Some (RegionExit label (exit job))
    else option_map (RegionLevel label) (too_low o job g marks)

abbrev pub branch_at : Order → ProgramWithClaims → ℕ → Claimed → Instruction → Option Rule
branch_at o job label c (GotoF _ junction) =
    region_rule o job label (level_at c.stack 0) (region job.code junction label)
branch_at o job label c _ = None

abbrev pub branch_rule : Order → ProgramWithClaims → ℕ → Option Rule
branch_rule o job label =
    where_claimed (branch_at o job label) (job.claim label) (fetch job.code label)

-- Label 0 claims the empty stack that a run begins with.
abbrev pub empty_claim : Option Claimed → Bool
empty_claim None = false
empty_claim (Some c) = is_empty c.stack

abbrev pub entry_rule : ProgramWithClaims → Option Rule
entry_rule job =
    if exit job == 0 then None else if empty_claim (job.claim 0) then None else Some Entry

-- The records of a job: the instruction that one says, or its fault, and the fault of a claim record.
abbrev pub decoded_at : List ℕ → Sizes → ℕ → Result Instruction RecordFault
decoded_at bytes s label =
    instruction_read label
    (instruction_in s.instructions (instruction_place label) (instruction_record bytes label))

abbrev pub instruction_at : List ℕ → Sizes → ℕ → Option Instruction
instruction_at bytes s label = result_ok (decoded_at bytes s label)

abbrev pub instruction_fault : List ℕ → Sizes → ℕ → Option RecordFault
instruction_fault bytes s label = result_err (decoded_at bytes s label)

abbrev pub claim_record_fault : Order → List ℕ → Sizes → ℕ → Option RecordFault
claim_record_fault o bytes s label =
    claim_fault o.span s.places label (claim_place s label) (claim_record bytes s label)

-- The instructions of the first n records that say one.
unfoldable pub code_below : List ℕ → Sizes → ℕ → List Instruction
code_below bytes s zero = []
code_below bytes s (suc n) = code_below bytes s n ++ option_to_list (instruction_at bytes s n)

abbrev pub claimed_job : List Instruction → List ℕ → Sizes → ProgramWithClaims
claimed_job code bytes s =
    record { code = code; claim = λ label. claim_in (claim_record bytes s label) }

abbrev pub job_in : List ℕ → Sizes → ProgramWithClaims
job_in bytes s = claimed_job (code_below bytes s s.instructions) bytes s

-- The first fault of the records, the first rule of claims that is broken, and the first fault of all.
abbrev pub records_fault : Order → List ℕ → Sizes → Option RecordFault
records_fault o bytes s =
    option_or (first_below (instruction_fault bytes s) s.instructions)
    (first_below (claim_record_fault o bytes s) s.instructions)

abbrev pub broken_rule : Order → List ℕ → ProgramWithClaims → Option Rule
broken_rule o levels job =
    option_or (entry_rule job)
    (option_or (first_below (label_rule o levels job) (exit job))
    (first_below (branch_rule o job) (exit job)))

abbrev pub sized_fault : Order → List ℕ → List ℕ → Result Sizes RecordFault → Option MountFault
sized_fault o levels bytes (Err fault) = Some (Record fault)
sized_fault o levels bytes (Ok s) =
    option_or (option_map Record (records_fault o bytes s))
    (option_map Claims (broken_rule o levels (job_in bytes s)))

abbrev pub first_fault : Order → List ℕ → List ℕ → Option MountFault
first_fault o levels bytes = sized_fault o levels bytes (opening bytes)

-- The verdict is what mount answers: number, label and cause.
abbrev pub verdict : Order → List ℕ → List ℕ → Answered
verdict o levels bytes = answer_to (first_fault o levels bytes)

-- The instructions that a job's bytes say, where its opening can be read.
abbrev pub decoded_code : List ℕ → Result Sizes RecordFault → List Instruction
decoded_code bytes (Err _) = []
decoded_code bytes (Ok s) = code_below bytes s s.instructions
