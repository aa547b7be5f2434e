-- A report's text, from the transcript of its calls to their outcomes. Assumes nothing.
use Rattle.std.proofs.Common.{◌≡◌, ℕ, ◌*◌, ◌≤◌, Bool, true, false, cond, ltb, ◌&&◌, List, [], ◌∷◌, ◌++◌, length, take, drop, replicate, slice_index, ℤ, Some, None, Option, refl, ap, ◌∙◌, append-nil, arith}
use Rattle.std.proofs.lemmas.List.{length-replicate, take_at}
use Rattle.std.proofs.lemmas.Bool.{le-ltb}
use Rattle.lattice.specs.Order.{Order}
use Rattle.push.specs.Run.{is_halted, values_of}
use Rattle.job.specs.Layout.{opening}
use Rattle.checker.specs.declared.fault.MountFault.{MountFault}
use Rattle.checker.specs.Faults.{answer_to}
use Rattle.checker.specs.Verdict.{first_fault, decoded_code}
use Rattle.controller.specs.State.{ReadyState, RunningState, ready_with, end_outcome}
use Rattle.controller.specs.Sheet.{open_count, sheet, shown_over}
use Rattle.controller.specs.Lists.{mounted, started, advanced, ended, start, advance, end, show, sheet_shown}
use Rattle.controller.proofs.SheetFacts.{open_at_most, length_lines}
use Rattle.report.specs.Input.{fits, kind, each, level, job, all_levels, observer, budget, sealed_controller}
use Rattle.report.specs.Report.{bad_input, mount_line, run_line, end_line, sheet_text, answers_text, text_by_kind, transcript_text}
use Rattle.report.specs.Outcomes.{running, ending, outcomes_text, ReportIsTheOutcomes}
use Rattle.report.proofs.AfterFacts.{lattice_stays, text_of_calls}

module _ (found : Option MountFault) (r : ℕ × ℕ) (e : ℕ) where
  -- the answers of a report, where a show gives these
  abbrev shown_text : (ℕ × ℕ) × List ℕ → List ℕ
  shown_text shown_by = answers_text (mounted found ∷ started ∷ advanced r ∷ ended e ∷ sheet_shown shown_by ∷ [])

  abbrev lines_before : List ℕ → List ℕ
  lines_before text = mount_line (answer_to found) ++ (run_line r ++ (end_line e ++ text))

  -- a show into a buffer that any sheet fits
  shown_whole : (o : Order) (levels : List ℕ) (values : List ℤ) (w : ℕ) (buffer : List ℕ) → 160 ≤ length buffer →
      shown_text (shown_over o levels values w buffer)
      ≡ cond (ltb w o.span) (lines_before (sheet_text (open_count o levels w) (sheet o levels values w))) bad_input
  shown_whole o levels values w buffer long =
      let count = open_count o levels w in
      let lines = sheet o levels values w in
      let written = lines ++ drop (5 * count) buffer in
      let fitting : Bool → (ℕ × ℕ) × List ℕ = λ short. cond short ((3, 0), buffer) ((0, count), written) in
      let out : Bool → Bool → (ℕ × ℕ) × List ℕ = λ known short. cond known (fitting short) ((2, 0), buffer) in
      let room : 5 * count ≤ length buffer = omega (arith, open_at_most o levels values w 32) in
      let whole : take (5 * count) written ≡ lines = take_at lines (drop (5 * count) buffer) (5 * count) (length_lines o levels values w 32) in
      let wanted : Bool → List ℕ = λ known. cond known (lines_before (sheet_text count lines)) bad_input in
      ap (λ short. shown_text (out (ltb w o.span) short)) (le-ltb (length buffer) (5 * count) room)
      ∙ elim (ltb w o.span) as (λ known. shown_text (out known false) ≡ wanted known) [
        | true ↦ ap (λ bytes. lines_before (sheet_text count bytes ++ [])) whole ∙ ap lines_before (append-nil (sheet_text count lines))
        | false ↦ refl
      ]

both : (a b : Bool) (x y : List ℕ) → cond a (cond b x y) y ≡ cond (a && b) x y
both true b x y = refl
both false b x y = refl

-- the controller that is left stands on the same lattice
end_leaves_lattice : (s : RunningState Order) → (end_outcome s).1.lattice ≡ s.lattice
end_leaves_lattice s =
    let out : Bool → ℕ × ReadyState Order =
    λ halted. cond halted (1, ready_with s (values_of s.run.machine)) (0, ready_with s s.remembered)
    in
    elim (is_halted s.run.status) as (λ halted. (out halted).1.lattice ≡ s.lattice) [ true ↦ refl | false ↦ refl ]

same_lattice : (o : Order) (bytes : List ℕ) → (ending o bytes).1.lattice ≡ o
same_lattice o bytes =
    let found = first_fault o (each (level bytes)) (job bytes) in
    end_leaves_lattice (running o bytes).1
    ∙ lattice_stays (sealed_controller o bytes) found (decoded_code (job bytes) (opening (job bytes)))

by_outcomes : (o : Order) (bytes : List ℕ) → transcript_text o bytes ≡ outcomes_text o bytes
by_outcomes o bytes =
    let w = observer bytes in
    let found = first_fault o (each (level bytes)) (job bytes) in
    let left : ReadyState Order = (ending o bytes).1 in
    let buffer : List ℕ = replicate 160 0 in
    let room : 160 ≤ length buffer = omega (arith, length-replicate {A = ℕ} 160 0) in
    let whole = shown_whole found (running o bytes).0 (ending o bytes).0 o left.levels left.values w buffer room in
    text_of_calls o bytes (start ∷ advance (budget bytes) ∷ end ∷ show w 160 ∷ [])
    ∙ ap (λ text. cond (all_levels o bytes) text bad_input)
    (ap (λ l. shown_text found (running o bytes).0 (ending o bytes).0 (shown_over l left.levels left.values w buffer)) (same_lattice o bytes)
    ∙ whole)
    ∙ both (all_levels o bytes) (ltb w o.span) _ bad_input

same_by_kind : (over under : Order → List ℕ → List ℕ) (bytes : List ℕ) → ((o : Order) → over o bytes ≡ under o bytes) → (named : Option Order) →
    text_by_kind over named bytes ≡ text_by_kind under named bytes
same_by_kind over under bytes same None = refl
same_by_kind over under bytes same (Some o) = same o

pub report_is_the_outcomes : (bytes : List ℕ) → ReportIsTheOutcomes bytes
report_is_the_outcomes bytes =
    ap (λ text. cond (fits bytes) text bad_input) (same_by_kind transcript_text outcomes_text bytes (λ o. by_outcomes o bytes) (kind (slice_index bytes 0)))
