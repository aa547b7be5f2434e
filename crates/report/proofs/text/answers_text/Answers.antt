use Rattle.std.proofs.Common.{take_all, sym, refl, ap, ◌∙◌, rules, arith}
use Rattle.std.specs.List.{flat_map}
use Rattle.std.proofs.lemmas.Iterator.{YieldsList-from_slice}
use Rattle.std.proofs.lemmas.Iterator.Search.{any_from_yields_List}
use Rattle.std.proofs.lemmas.List.Folds.{flat_map-map}
use Rattle.controller.specs.Views.{answer_of}
use Rattle.report.specs.Report.{answer_lines, is_refused}
use Rattle.report.proofs.CallFacts.{viewed}
use Rattle.report.proofs.text.answers_text.Goals as goal

pub returns-then-any : goal.returns-then-any
returns-then-any c =
    let answers = c.args.answers.now in
    let yielded = viewed answer_of (YieldsList-from_slice answers cc) in
    let tested = any_from_yields_List is_refused _ _ c.any.result c.any.ensures.ran yielded (λ x b q k. search rules) in
    rw (sym tested ∙ c.if-any.true) refl

pub returns : goal.returns
returns c =
    let answers = c.args.answers.now in
    let yielded = viewed answer_of (YieldsList-from_slice answers cc) in
    let tested = any_from_yields_List is_refused _ _ c.any.result c.any.ensures.ran yielded (λ x b q k. search rules) in
    let all = take_all c.loop-answer.answer-index answers (omega arith) in
    let lines = ap (flat_map (λ a. answer_lines (answer_of a))) all in
    rw (sym tested ∙ c.if-any.false) (c.loop-answer.invariant ∙ lines ∙ sym (flat_map-map answer_lines answer_of answers))
