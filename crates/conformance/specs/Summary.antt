-- The summary's bytes. Assumes nothing.
use Rattle.std.specs.Prelude.{ℕ, Bool, if◌then◌else◌, ◌&&◌, List, [], ◌++◌, length, Some, None, codes, decimal, Option, ◌==◌}
use Rattle.report.specs.Report.{report}
use Rattle.report.specs.Cause.{cause_report}
use Rattle.conformance.specs.Table.{Trial, cases, left_over}
use Rattle.conformance.specs.Findings.{Findings, findings_of}

abbrev pub counts_text : ℕ → ℕ → List ℕ
counts_text run agreed =
    decimal run ++ (codes " cases run\n" ++ (decimal agreed ++ codes " agreed\n"))

-- A text under its name and length.
abbrev pub heading : List ℕ → ℕ → List ℕ
heading name bytes = name ++ (codes ", " ++ (decimal bytes ++ codes " bytes:\n"))

abbrev pub shown_text : List ℕ → List ℕ → List ℕ
shown_text name text = heading name (length text) ++ text

-- The first case that differs: its number, the expected text and the given one.
abbrev pub number_line : ℕ → List ℕ
number_line number = codes "first that differs: case " ++ (decimal number ++ codes "\n")

abbrev pub difference_text : (List ℕ → List ℕ) → Option (ℕ × Trial) → List ℕ
difference_text text None = codes "none differs\n"
difference_text text (Some differs) =
    number_line differs.0
    ++ (shown_text (codes "expected") differs.1.1
    ++ shown_text (codes "given") (text differs.1.0))

-- A table that ends in the middle of a case is damaged.
abbrev pub left_text : ℕ → List ℕ
left_text left =
    if left == 0
    then []
    else (codes "damaged table: " ++ (decimal left ++ codes " bytes after the last whole case\n"))

abbrev pub summary_text : (List ℕ → List ℕ) → Findings → ℕ → List ℕ
summary_text text f left =
    counts_text f.run f.agreed ++ (difference_text text f.differs ++ left_text left)

-- Whether every case agreed and the table is not damaged.
abbrev pub is_clean : Findings → ℕ → Bool
is_clean f left = f.agreed == f.run && left == 0

-- The summary of a table, and whether it passes, where this text is asked of its cases.
abbrev pub summary_by : (List ℕ → List ℕ) → List ℕ → List ℕ
summary_by text table =
    summary_text text (findings_of text (cases table)) (length (left_over table))

abbrev pub passes_by : (List ℕ → List ℕ) → List ℕ → Bool
passes_by text table = is_clean (findings_of text (cases table)) (length (left_over table))

-- Of a table of reports, and of one of causes.
abbrev pub summary : List ℕ → List ℕ
summary table = summary_by report table

abbrev pub passes : List ℕ → Bool
passes table = passes_by report table

abbrev pub causes_summary : List ℕ → List ℕ
causes_summary table = summary_by cause_report table

abbrev pub causes_pass : List ℕ → Bool
causes_pass table = passes_by cause_report table

-- Both summaries, each under its table's name.
abbrev pub both_summaries : List ℕ → List ℕ → List ℕ
both_summaries reports causes =
    codes "reports:\n"
    ++ (summary reports ++ (codes "causes:\n" ++ causes_summary causes))
