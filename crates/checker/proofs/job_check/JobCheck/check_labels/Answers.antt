use Rattle.std.proofs.Common.{arith}
use Rattle.checker.specs.Rules.{exit, label_rule}
use Rattle.checker.specs.Views.{levels_of, job_of}
use Rattle.checker.proofs.FirstFacts.{first_handed_up}
use Rattle.checker.proofs.job_check.JobCheck.check_labels.Goals as goal

pub returns-in_err-check_label : goal.returns-in_err-check_label
returns-in_err-check_label g c =
    let self = c.args.self.now in
    let rule = label_rule (g.L.Lattice.order self.lattice.now) (levels_of self) (job_of self) in
    first_handed_up rule c.loop-label.label (exit (job_of self)) c.in_err-check_label.field-0.0 c.check_label.result c.from_residual.result
    c.loop-label.invariant c.check_label.ensures c.in_err-check_label.was c.from_residual.ensures.1
    (omega (arith, c.loop-label-test.true, c.len-label-end.ensures.counts_the_instructions))
