-- What the Rust values of a kind of lattice and of a report's result are in the definitions' terms. Assumes nothing.
use Rattle.std.specs.Prelude.{◌≡◌, ℕ, List, Some, None, Ok, Err, Option, Result, String, string_bytes, ⊤}
use Rattle.lattice.specs.Order.{Order}
use Rattle.lattice.specs.Kinds.{ladder, owners, flip, pair}
use Rattle.report.specs.declared.kinds.Kind.{Kind}
use Rattle.report.specs.declared.kinds.Kind.TheVariants.{Ladder, Owners, Pair}
use Rattle.report.specs.declared.kinds.NoKind.{NoKind}
use Rattle.report.specs.declared.no_report.NoReport.{NoReport}
use Rattle.report.specs.declared.no_report.NoReport.TheVariants.{NoInput, NoMemory}
use Rattle.report.specs.Input.{kind}
use Rattle.report.specs.Report.{bad_input}

abbrev pub order_of : Kind → Order
order_of Ladder = ladder 16
order_of Owners = owners 4
order_of Pair = pair (ladder 4) (flip (ladder 4))

abbrev pub kind_read : Result Kind NoKind → Option Order
kind_read (Ok named) = Some (order_of named)
kind_read (Err _) = None

-- A kind byte is read as the kind whose lattice it names, and as none where it names none.
abbrev pub ReadsKind : ℕ → Result Kind NoKind → Type 0
ReadsKind byte read = kind_read read ≡ kind byte

-- What was made is that text, or the error that says that the text is the line of no input. Nothing
-- is said where memory ran out.
abbrev pub IsTextUnlessNoMemory : {Z : Type 0} → Result (String Z) NoReport → List ℕ → Type 0
IsTextUnlessNoMemory (Ok made) text = string_bytes made ≡ text
IsTextUnlessNoMemory (Err NoInput) text = text ≡ bad_input
IsTextUnlessNoMemory (Err (NoMemory _)) text = ⊤
