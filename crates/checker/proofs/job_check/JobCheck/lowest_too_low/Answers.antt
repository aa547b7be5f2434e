use Rattle.std.proofs.Common.{◌≡◌, ℕ, ◌+◌, ◌<◌, List, length, take, get_or, sym, ◌∙◌, subst, inl, inr, arith, rules, tests}
use Rattle.std.proofs.lemmas.List.{take_all}
use Rattle.checker.specs.RegionList.{IsLowest, too_low_in}
use Rattle.checker.specs.Views.{job_of}
use Rattle.checker.proofs.SurroundingFacts.{listed_inside}
use Rattle.checker.proofs.RegionLowest.{is_lower, lower_by_option, lowest_is_it, lowest_stays, one_more, it_is_read}
use Rattle.checker.proofs.job_check.JobCheck.lowest_too_low.Goals as goal
use Rattle.checker.proofs.job_check.JobCheck.lowest_too_low.Goals.{then-is_lower+then-not-is_at_least, else-is_lower, else-is_lower-via-then-is_lower+else-not-is_at_least, else-is_lower-via-else-is_lower}

pub is_at_least-requires-clause-inside : goal.is_at_least-requires-clause-inside
is_at_least-requires-clause-inside g c =
    listed_inside (job_of c.args.self.now) c.args.region.now.labels c.labels-label-items.result.now c.loop-label.label-index
    c.requires.inside c.labels-label-items.ensures.are_its_labels c.loop-label-test.true

pub loop-label-preserved : goal.loop-label-preserved
loop-label-preserved g c =
    let self = c.args.self.now in
    let o = g.L.Lattice.order self.lattice.now in
    let job = job_of self in
    let labels = c.labels-label-items.result.now in
    let i = c.loop-label.label-index in
    let x = get_or labels i 0 in
    let within : i < length labels = c.loop-label-test.true in
    let lower : c.is_none_or-is_lower.result ≡ is_lower x c.loop-label.lowest =
    lower_by_option x c.loop-label.lowest c.is_none_or-is_lower.result (search (rules, tests)) in
    let Then = IsLowest (too_low_in o job c.args.guard (take (i + 1) labels)) in
    elim c.if-is_lower.branch [
      | then-is_lower+then-not-is_at_least w ↦
          subst Then (sym w.lowest-is)
          (lowest_is_it o job c.args.guard (take i labels) (take (i + 1) labels) x (λ l. one_more o job c.args.guard labels i l within) c.loop-label.lowest
          (sym lower ∙ w.if-is_lower.true)
          (sym w.is_at_least.ensures ∙ w.if-not-is_at_least.true) (it_is_read o job c.args.guard labels i within) c.loop-label.invariant)
      | else-is_lower w ↦
          subst Then (sym w.lowest-is)
          (lowest_stays o job c.args.guard (take i labels) (take (i + 1) labels) x (λ l. one_more o job c.args.guard labels i l within) c.loop-label.lowest
          (elim w.else-is_lower.branch [
            | else-is_lower-via-then-is_lower+else-not-is_at_least v ↦
                inr (sym v.is_at_least.ensures ∙ v.if-not-is_at_least.false)
            | else-is_lower-via-else-is_lower v ↦ inl (sym lower ∙ v.if-is_lower.false)
          ])
          c.loop-label.invariant)
    ]

pub returns : goal.returns
returns g c =
    let self = c.args.self.now in
    let all = c.labels-label-items.ensures.are_its_labels in
    let low = λ (ls : List ℕ). too_low_in (g.L.Lattice.order self.lattice.now) (job_of self) c.args.guard ls in
    subst (λ ls. IsLowest (low ls) c.loop-label.lowest)
    (take_all _ c.labels-label-items.result.now (omega (arith, c.loop-label-test.false)) ∙ all) c.loop-label.invariant
