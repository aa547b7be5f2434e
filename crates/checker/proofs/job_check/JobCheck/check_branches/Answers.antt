use Rattle.std.proofs.Common.{arith}
use Rattle.checker.specs.Rules.{exit}
use Rattle.checker.specs.Verdict.{branch_rule}
use Rattle.checker.specs.Views.{job_of}
use Rattle.checker.proofs.FirstFacts.{first_handed_up}
use Rattle.checker.proofs.job_check.JobCheck.check_branches.Goals as goal

pub returns-in_err-check_branch : goal.returns-in_err-check_branch
returns-in_err-check_branch g c =
    let self = c.args.self.now in
    let rule = branch_rule (g.L.Lattice.order self.lattice.now) (job_of self) in
    first_handed_up rule c.loop-label.label (exit (job_of self)) c.in_err-check_branch.field-0.0 c.check_branch.result c.from_residual.result
    c.loop-label.invariant c.check_branch.ensures c.in_err-check_branch.was c.from_residual.ensures.1
    (omega (arith, c.loop-label-test.true, c.len-label-end.ensures.counts_the_instructions))
