use Rattle.std.proofs.Common.{◌≡◌, take, string_bytes}
use Rattle.std.specs.List.{flat_map}
use Rattle.controller.specs.Views.{answer_of}
use Rattle.report.specs.Report.{answer_lines}
use Rattle.report.proofs.text.answers_text.Given as goal

abbrev pub invariant-loop-answer : goal.invariant-loop-answer
invariant-loop-answer l = string_bytes l.text ≡ flat_map (λ a. answer_lines (answer_of a)) (take l.answer-index l.answers)
