use Rattle.std.proofs.Common.{◌≤◌, Some, None, sym, ap, ◌∙◌, subst}
use Rattle.checker.specs.declared.fault.Rule.TheVariants.{RegionExit, RegionLevel}
use Rattle.checker.specs.Rules.{exit}
use Rattle.checker.specs.RegionList.{has, IsLowest, too_low_in}
use Rattle.checker.specs.Views.{job_of}
use Rattle.checker.proofs.RegionLowest.{all_inside, exit_inside, exit_outside}
use Rattle.checker.proofs.job_check.JobCheck.check_region.Goals as goal

pub lowest_too_low-requires-clause-inside : goal.lowest_too_low-requires-clause-inside
lowest_too_low-requires-clause-inside g c =
    let self = c.args.self.now in
    let r = c.args.region.now in
    let outside = ap (has r.labels) (sym c.len-exit.ensures.counts_the_instructions) ∙ sym c.has.ensures ∙ c.if-has.false in
    all_inside (job_of self) c.args.label r c.requires.is_the_region self.labels_are_within outside

pub returns-then-has : goal.returns-then-has
returns-then-has g c =
    let self = c.args.self.now in
    let r = c.args.region.now in
    let at_exit = c.len-exit.ensures.counts_the_instructions in
    let few : exit (job_of self) ≤ 128 = subst (λ n. n ≤ 128) at_exit c.len-exit.ensures.at_most_128 in
    let inside = ap (has r.labels) (sym at_exit) ∙ sym c.has.ensures ∙ c.if-has.true in
    ap (λ n. Some (RegionExit c.from-label.result n)) at_exit ∙ ap (λ l. Some (RegionExit l (exit (job_of self)))) c.from-label.ensures
    ∙ sym (exit_inside (g.L.Lattice.order self.lattice.now) (job_of self) c.args.guard c.args.label r few c.requires.is_the_region c.args.label inside)

pub returns-in-Some : goal.returns-in-Some
returns-in-Some g c =
    let self = c.args.self.now in
    let r = c.args.region.now in
    let o = g.L.Lattice.order self.lattice.now in
    let at_exit = c.len-exit.ensures.counts_the_instructions in
    let few : exit (job_of self) ≤ 128 = subst (λ n. n ≤ 128) at_exit c.len-exit.ensures.at_most_128 in
    let outside = ap (has r.labels) (sym at_exit) ∙ sym c.has.ensures ∙ c.if-has.false in
    let lowest = subst (IsLowest (too_low_in o (job_of self) c.args.guard r.labels)) c.in-Some.is c.lowest_too_low.ensures in
    ap (λ n. Some (RegionLevel c.from-label.result n)) c.from-inside.ensures ∙ ap (λ l. Some (RegionLevel l c.in-Some.inside)) c.from-label.ensures
    ∙ sym (exit_outside o (job_of self) c.args.guard c.args.label r few c.requires.is_the_region self.labels_are_within c.args.label outside
    (Some c.in-Some.inside) lowest)

pub returns-in-None : goal.returns-in-None
returns-in-None g c =
    let self = c.args.self.now in
    let r = c.args.region.now in
    let o = g.L.Lattice.order self.lattice.now in
    let at_exit = c.len-exit.ensures.counts_the_instructions in
    let few : exit (job_of self) ≤ 128 = subst (λ n. n ≤ 128) at_exit c.len-exit.ensures.at_most_128 in
    let outside = ap (has r.labels) (sym at_exit) ∙ sym c.has.ensures ∙ c.if-has.false in
    let lowest = subst (IsLowest (too_low_in o (job_of self) c.args.guard r.labels)) c.in-None.is c.lowest_too_low.ensures in
    sym (exit_outside o (job_of self) c.args.guard c.args.label r few c.requires.is_the_region self.labels_are_within c.args.label outside None lowest)
