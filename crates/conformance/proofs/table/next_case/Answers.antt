use Rattle.std.proofs.Common.{◌≤◌, length, ◌∙◌, arith}
use Rattle.conformance.specs.Table.{size}
use Rattle.conformance.proofs.Walk.{reads_none, length_read, reads_whole}
use Rattle.conformance.proofs.table.next_case.Goals as goal

pub returns-in_err-i0 : goal.returns-in_err-i0
returns-in_err-i0 c = record {
  first_case_and_the_rest = rw c.from_residual.ensures (reads_none c.args.table.now (omega (arith, c.in_err-i0.ensures.cases)));
}

pub returns-in_err-input : goal.returns-in_err-input
returns-in_err-input c =
    let table = c.args.table.now in
    let front = c.in_ok-i0.ensures.cases in
    let n = length_read table _ 0 _ (omega arith) front.0 (c.from.ensures ∙ c.from_le_bytes.ensures) in
    record {
      first_case_and_the_rest = rw c.from_residual-in_err-input.ensures (reads_none table (omega (arith, front.2, n, c.in_err-input.ensures.cases)));
    }

pub returns-in_err-expected : goal.returns-in_err-expected
returns-in_err-expected c =
    let table = c.args.table.now in
    let front = c.in_ok-i0.ensures.cases in
    let n = length_read table _ 0 _ (omega arith) front.0 (c.from.ensures ∙ c.from_le_bytes.ensures) in
    let m = length_read table _ 2 _ (omega arith) front.0 (c.from-2.ensures ∙ c.from_le_bytes-2.ensures) in
    let short = reads_none table (omega (arith, front.2, n, m, c.in_ok-input.ensures.cases, c.in_err-expected.ensures.cases)) in
    record { first_case_and_the_rest = rw c.from_residual-in_err-expected.ensures short }

pub returns : goal.returns
returns c =
    let table = c.args.table.now in
    let front = c.in_ok-i0.ensures.cases in
    let cut = c.in_ok-input.ensures.cases in
    let last = c.in_ok-expected.ensures.cases in
    let n = length_read table _ 0 _ (omega arith) front.0 (c.from.ensures ∙ c.from_le_bytes.ensures) in
    let m = length_read table _ 2 _ (omega arith) front.0 (c.from-2.ensures ∙ c.from_le_bytes-2.ensures) in
    let long : size table ≤ length table = omega (arith, front.2, n, m, cut, last) in
    record { first_case_and_the_rest = reads_whole table _ _ _ _ _ _ _ long n m front.1 cut.1 cut.2 last.1 last.2 }
