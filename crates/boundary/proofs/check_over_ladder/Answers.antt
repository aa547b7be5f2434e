use Rattle.std.proofs.Common.{replicate, ap, ◌∙◌}
use Rattle.checker.specs.Verdict.{verdict}
use Rattle.boundary.proofs.check_over_ladder.Goals as goal

-- The ladder that was made is the ladder of 16.
pub returns : goal.returns
returns c = record {
  answers_the_verdict = c.check.ensures.answers_the_verdict ∙ ap (λ o. verdict o (replicate 32 0) c.args.job.now) c.new.ensures.meaning;
  program_is_what_the_bytes_say = c.check.ensures.program_is_what_the_bytes_say;
}
