-- What a run over some cases finds. Assumes nothing.
use Rattle.std.specs.Prelude.{◌≡◌, ℕ, ◌+◌, Bool, if◌then◌else◌, List, [], ◌∷◌, length, Some, None, Option, All}
use Rattle.std.specs.List.{count_by}
use Rattle.std.specs.Option.{option_or}
use Rattle.std.specs.Str.{bytes_eq}
use Rattle.report.specs.Report.{report}
use Rattle.report.specs.Cause.{cause_report}
use Rattle.conformance.specs.Table.{Trial}

-- Whether the text that is asked of a case's input is the expected one. What `text` is of an input differs by table.
unfoldable pub agrees : (List ℕ → List ℕ) → Trial → Bool
agrees text trial = bytes_eq (text trial.0) trial.1

-- What it means that all of some cases agree: where reports are asked, and where causes are.
abbrev pub AllAgree : (List ℕ → List ℕ) → List Trial → Type 0
AllAgree text trials = All (λ trial. text trial.0 ≡ trial.1) trials

abbrev pub Conforms : List Trial → Type 0
Conforms trials = AllAgree report trials

abbrev pub CausesConform : List Trial → Type 0
CausesConform trials = AllAgree cause_report trials

-- The first case that does not agree, with its number; the first of the list has the number given.
abbrev pub first_differing : (List ℕ → List ℕ) → ℕ → List Trial → Option (ℕ × Trial)
first_differing text number [] = None
first_differing text number (trial ∷ trials) =
    if agrees text trial
    then first_differing text (number + 1) trials
    else Some (number, trial)

-- How many cases there are, how many agree, and the first that differs with its number.
pub record Findings : Type 0 where
  pub run : ℕ
  pub agreed : ℕ
  pub differs : Option (ℕ × Trial)

abbrev pub findings_of : (List ℕ → List ℕ) → List Trial → Findings
findings_of text trials = record {
  run = length trials;
  agreed = count_by (agrees text) trials;
  differs = first_differing text 0 trials;
}

-- What was found, with one case more at the end.
abbrev pub with_case : Findings → Trial → Bool → Findings
with_case before trial agreed = record {
  run = before.run + 1;
  agreed = if agreed then before.agreed + 1 else before.agreed;
  differs = if agreed then before.differs else option_or before.differs (Some (before.run, trial));
}
