use Rattle.std.proofs.Common.{◌≡◌, length}
use Rattle.conformance.specs.Table.{cases, left_over}
use Rattle.conformance.specs.Findings.{findings_of}
use Rattle.conformance.specs.Views.{answer_to, findings_in}
use Rattle.conformance.proofs.Turn.{onward}
use Rattle.conformance.proofs.tally.Tally.count.Given as goal

-- Without the cases still to come, nothing ties what was counted to the whole table.
abbrev pub invariant-loop-case : goal.invariant-loop-case
invariant-loop-case l =
    let asked = answer_to l.question in
    (onward asked (findings_in l.tally) (cases l.rest) ≡ findings_of asked (cases l.table)) × (left_over l.rest ≡ left_over l.table)

abbrev pub decreases-loop-case : goal.decreases-loop-case
decreases-loop-case l = length l.rest
