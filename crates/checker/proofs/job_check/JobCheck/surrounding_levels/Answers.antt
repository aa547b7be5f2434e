use Rattle.std.proofs.Common.{◌≡◌, ◌+◌, ◌<◌, length, set, sym, ap, ◌∙◌, subst, arith, rules, tests}
use Rattle.std.specs.Option.{option_map}
use Rattle.checker.specs.Surrounding.{surrounding_of, SurroundingBelow}
use Rattle.checker.specs.Views.{job_of}
use Rattle.checker.proofs.SurroundingFacts.{holds_one_more, surrounding_claimed}
use Rattle.checker.proofs.job_check.JobCheck.surrounding_levels.Goals as goal

pub loop-label-preserved : goal.loop-label-preserved
loop-label-preserved g c =
    let self = c.args.self.now in
    let job = job_of self in
    let label = c.loop-label.label in
    let table = c.loop-label.levels in
    let within : label < length table = omega (arith, c.loop-label-test.true, c.len-label-end.ensures.at_most_128, c.loop-label.invariant.1) in
    let read : c.map.result ≡ option_map (λ k. k.surrounding) c.claim-claim.result = (search (rules, tests)) in
    let said = surrounding_claimed self.job c.claim-claim.result ∙ ap (option_map (λ k. k.surrounding)) c.claim-claim.ensures.claim_is_what_the_record_says in
    let level = read ∙ said ∙ ap (surrounding_of job) c.from.ensures in (
      subst (λ i. SurroundingBelow job (label + 1) (set table i c.map.result)) (sym c.from-in-loop-label.ensures)
          (holds_one_more job table label c.map.result c.loop-label.invariant.0 within level),
      (search (rules, tests)),
    )
