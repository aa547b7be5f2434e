use Rattle.std.proofs.Common.{◌≡◌, ◌+◌, ◌<◌, [], get_or, length, sym, ap, ◌∙◌, subst, arith}
use Rattle.checker.specs.Region.{next_labels}
use Rattle.checker.specs.RegionList.{with_labels}
use Rattle.checker.proofs.RegionListFacts.{all_grow}
use Rattle.checker.proofs.RegionReading.{Reading, begins, goes_on, ends, few}
use Rattle.checker.proofs.region.Region.of_branch.Goals as goal

pub loop-read-init : goal.loop-read-init
loop-read-init c =
    let code = c.args.program.now in
    let next = next_labels code c.args.branch in
    let is = c.enter_next.ensures ∙ ap (λ r. with_labels r next) c.empty-region.ensures in
    subst (λ r. Reading code c.args.branch r 0 × (r.junction ≡ c.args.junction)) (sym is)
    (begins code c.args.branch c.args.junction, (all_grow next (record { junction = c.args.junction; labels = [] })).junction)

pub loop-read-preserved : goal.loop-read-preserved
loop-read-preserved c =
    let code = c.args.program.now in
    let r = c.loop-read.region in
    let read = c.loop-read.read in
    let labels = c.labels-in-loop-read.ensures.are_its_labels in
    let within : read < length r.labels = omega (arith, ap length c.labels.ensures.are_its_labels, c.loop-read-test.true) in
    let is = c.enter_next-in-loop-read.ensures ∙ ap (λ ls. with_labels r (next_labels code (get_or ls read 0))) labels in
    subst (λ s. Reading code c.args.branch s (read + 1) × (s.junction ≡ c.args.junction)) (sym is) (
      goes_on code c.args.branch r read c.loop-read.invariant.0 within,
      (all_grow (next_labels code (get_or r.labels read 0)) r).junction ∙ c.loop-read.invariant.1,
    )

pub returns-clause-is_the_region : goal.returns-clause-is_the_region
returns-clause-is_the_region c =
    ends c.args.program.now c.args.branch c.loop-read.region c.loop-read.read c.loop-read.invariant.0
    (omega (arith, ap length c.labels.ensures.are_its_labels, c.loop-read-test.false))

pub returns-clause-each_label_once : goal.returns-clause-each_label_once
returns-clause-each_label_once c = c.labels.ensures.each_once_without_the_junction.each_once

pub returns-clause-at_most_as_many_as_instructions : goal.returns-clause-at_most_as_many_as_instructions
returns-clause-at_most_as_many_as_instructions c =
    let lower = c.requires.junction_is_within in
    few c.args.program.now c.args.branch c.loop-read.region c.requires.labels_are_within (omega (arith, lower, c.loop-read.invariant.1))
    c.labels.ensures.each_once_without_the_junction
    (ends c.args.program.now c.args.branch c.loop-read.region c.loop-read.read c.loop-read.invariant.0
    (omega (arith, ap length c.labels.ensures.are_its_labels, c.loop-read-test.false)))
