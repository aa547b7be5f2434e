-- What the program's Rust values are in the terms of Table.antt and Findings.antt. Assumes nothing.
use Rattle.std.specs.Prelude.{ℕ, List, Some, None, Option}
use Rattle.std.specs.Borrow.{Bor}
use Rattle.report.specs.Report.{report}
use Rattle.report.specs.Cause.{cause_report}
use Rattle.conformance.specs.declared.question.Question.{Question}
use Rattle.conformance.specs.declared.question.Question.TheVariants.{Report, Cause}
use Rattle.conformance.specs.declared.table.Case.{Case}
use Rattle.conformance.specs.declared.tally.Tally.{Tally}
use Rattle.conformance.specs.Table.{Trial}
use Rattle.conformance.specs.Findings.{Findings}

-- The text that answers a question, of an input.
abbrev pub answer_to : Question → List ℕ → List ℕ
answer_to Report = report
answer_to Cause = cause_report

abbrev pub case_bytes : Case → Trial
case_bytes c = (c.input.now, c.expected.now)

abbrev pub case_read : Option (Case × Bor (List ℕ)) → Option (Trial × List ℕ)
case_read None = None
case_read (Some read) = Some (case_bytes read.0, read.1.now)

abbrev pub difference : Option (ℕ × Case) → Option (ℕ × Trial)
difference None = None
difference (Some differs) = Some (differs.0, case_bytes differs.1)

abbrev pub findings_in : Tally → Findings
findings_in t = record { run = t.run; agreed = t.agreed; differs = difference t.differs }
