use Rattle.std.proofs.Common.{◌/◌, ◌++◌, length, ap, ap₂, ◌∙◌, take_all, append_assoc, arith}
use Rattle.std.specs.List.{flat_map}
use Rattle.report.proofs.Rows.{line_row, rows_by_line}
use Rattle.report.proofs.text.push_sheet.Goals as goal

pub returns : goal.returns
returns c =
    let sheet = c.args.sheet.now in
    let lines = take_all c.loop-variable.variable-index c.as_chunks.result.0.now (omega arith) ∙ c.as_chunks.ensures.front in
    let shown = ap (flat_map line_row) lines ∙ rows_by_line (length sheet / 5) sheet (omega arith) (omega arith) in
    c.loop-variable.invariant ∙ ap₂ (λ heading rest. heading ++ rest) c.in_ok-writeln.ensures.bytes shown ∙ simp (append_assoc, c.as_chunks.ensures.front_len)
