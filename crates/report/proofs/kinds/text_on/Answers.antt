use Rattle.std.proofs.Common.{◌≡◌, ℕ, Bool, true, List, slice_index, Some, Result, String, sym, ap, ◌∙◌, subst, ap₂, rules}
use Rattle.lattice.specs.Order.{Order}
use Rattle.lattice.specs.Kinds.{ladder, owners, flip, pair}
use Rattle.report.specs.declared.no_report.NoReport.{NoReport}
use Rattle.report.specs.Input.{kind}
use Rattle.report.specs.Report.{input_text}
use Rattle.report.specs.Views.{IsTextUnlessNoMemory}
use Rattle.report.proofs.kinds.text_on.Goals as goal

over_named : {Z : Type 0} (fitting : List ℕ → Bool) (text_over : Order → List ℕ → List ℕ) (bytes : List ℕ) (o made : Order)
    (text : Result (String Z) NoReport) → true ≡ fitting bytes → Some o ≡ kind (slice_index bytes 0) → made ≡ o →
    IsTextUnlessNoMemory text (text_over made bytes) → IsTextUnlessNoMemory text (input_text fitting text_over bytes)
over_named fitting text_over bytes o made text fit named same is =
    rw (sym fit, sym named) (subst (λ order. IsTextUnlessNoMemory text (text_over order bytes)) same is)

pub returns-in-Ladder : goal.returns-in-Ladder
returns-in-Ladder g c =
    let bytes = c.args.input.now.bytes.now in
    let read = rw c.in-Ladder.is at c.in_ok-try_from.ensures in
    let named = read ∙ ap kind c.byte.ensures.byte_or_0_past_the_end in
    let made = c.new.ensures.meaning in
    over_named g.T.Text.fits g.T.Text.over bytes (ladder 16) _ c.over.result (search rules) named made c.over.ensures

pub returns-in-Owners : goal.returns-in-Owners
returns-in-Owners g c =
    let bytes = c.args.input.now.bytes.now in
    let read = rw c.in-Owners.is at c.in_ok-try_from.ensures in
    let named = read ∙ ap kind c.byte.ensures.byte_or_0_past_the_end in
    let made = c.new-in-Owners.ensures.meaning in
    let given = c.over-in-Owners in
    over_named g.T.Text.fits g.T.Text.over bytes (owners 4) _ given.result (search rules) named made given.ensures

pub returns-in-Pair : goal.returns-in-Pair
returns-in-Pair g c =
    let bytes = c.args.input.now.bytes.now in
    let read = rw c.in-Pair.is at c.in_ok-try_from.ensures in
    let named = read ∙ ap kind c.byte.ensures.byte_or_0_past_the_end in
    let second = c.new-in-Pair-3.ensures.meaning ∙ ap flip c.new-in-Pair-2.ensures.meaning in
    let made = c.new-in-Pair-4.ensures.meaning ∙ ap₂ pair c.new-in-Pair.ensures.meaning second in
    let given = c.over-in-Pair in
    over_named g.T.Text.fits g.T.Text.over bytes (pair (ladder 4) (flip (ladder 4))) _ given.result (search rules) named made given.ensures
