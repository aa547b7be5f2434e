-- What a report says, in the outcomes that the controller's calls promise. Assumes nothing.
use Rattle.std.specs.Prelude.{◌≡◌, ℕ, if◌then◌else◌, ◌&&◌, List, ◌++◌, nat_lt}
use Rattle.lattice.specs.Order.{Order}
use Rattle.checker.specs.Faults.{Answered}
use Rattle.controller.specs.State.{ReadyState, RunningState, mount_outcome, started_state, advance_outcome, end_outcome}
use Rattle.controller.specs.Sheet.{open_count, sheet}
use Rattle.controller.specs.Lists.{the_order}
use Rattle.report.specs.Input.{fits, observer, budget, job, all_levels, sealed_controller, with_values}
use Rattle.report.specs.Report.{bad_input, sheet_text, mount_line, run_line, end_line, input_text, report}

-- The job mounted on the graded and sealed controller; its run on the input's values, advanced
-- once; and the end of that.
abbrev pub mounting : Order → List ℕ → Answered × ReadyState Order
mounting o bytes = mount_outcome the_order (sealed_controller o bytes) (job bytes)

abbrev pub running : Order → List ℕ → (ℕ × ℕ) × RunningState Order
running o bytes =
    advance_outcome (started_state (with_values bytes (mounting o bytes).1)) (budget bytes)

abbrev pub ending : Order → List ℕ → ℕ × ReadyState Order
ending o bytes = end_outcome (running o bytes).1

-- A line for the answer of each of the three, and then what the observer may see of the controller
-- that is left.
abbrev pub outcome_lines : Order → List ℕ → List ℕ
outcome_lines o bytes =
    let left : ReadyState Order = (ending o bytes).1 in
    mount_line (mounting o bytes).0
    ++ (run_line (running o bytes).0
    ++ (end_line (ending o bytes).0
    ++ sheet_text (open_count o left.levels (observer bytes))
    (sheet o left.levels left.values (observer bytes))))

-- The text of an input over a lattice: these lines, where every level and the observer are levels.
abbrev pub outcomes_text : Order → List ℕ → List ℕ
outcomes_text o bytes =
    if all_levels o bytes && nat_lt (observer bytes) o.span
    then outcome_lines o bytes
    else bad_input

abbrev pub ReportIsTheOutcomes : List ℕ → Type 0
ReportIsTheOutcomes bytes = report bytes ≡ input_text fits outcomes_text bytes
