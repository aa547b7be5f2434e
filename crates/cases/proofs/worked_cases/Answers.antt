use Rattle.cases.proofs.Rows.{rows}
use Rattle.cases.proofs.worked_cases.Goals as goal

pub returns : goal.returns
returns c = record { worked_cases_hold = rows }
