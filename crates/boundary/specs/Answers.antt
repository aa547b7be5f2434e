-- What the functions for C answer: the verdict on a job in one number, and the end of its run in
-- one number. Assumes nothing.
use Rattle.std.specs.Prelude.{ℕ, ◌+◌, ◌*◌, if◌then◌else◌, List, replicate, ℤ, pos, ◌==◌}
use Rattle.lattice.specs.Kinds.{ladder}
use Rattle.push.specs.declared.instruction.Instruction.{Instruction}
use Rattle.push.specs.Run.{RunState, begun, run, status_number}
use Rattle.job.specs.Layout.{opening}
use Rattle.checker.specs.Faults.{Answered}
use Rattle.checker.specs.Verdict.{verdict, decoded_code}

-- Over a ladder of 16, with each of the 32 variables at level 0.
abbrev pub verdict_on : List ℕ → Answered
verdict_on job = verdict (ladder 16) (replicate 32 0) job

abbrev pub code_in : List ℕ → List Instruction
code_in job = decoded_code job (opening job)

abbrev pub zeros : List ℤ
zeros = replicate 32 (pos 0)

-- The number and the label of a verdict; its cause does not cross.
abbrev pub mount_number : Answered → ℕ
mount_number v = v.0 * 65536 + v.1

-- The status and the steps of a run.
abbrev pub end_number : ℕ × RunState → ℕ
end_number e = status_number e.1.status * 4294967296 + e.0

-- An accepted job runs from values that are all 0.
abbrev pub run_number : List ℕ → ℕ → ℕ
run_number job budget =
    if (verdict_on job).0 == 0
    then end_number (run (code_in job) budget (begun (code_in job) zeros))
    else 3 * 4294967296
