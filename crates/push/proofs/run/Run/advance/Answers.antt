use Rattle.std.proofs.Common.{sym}
use Rattle.push.proofs.StepFacts.{step_follows_the_rules}
use Rattle.push.proofs.RunFacts.{run_advances}
use Rattle.push.proofs.AdvanceFacts.{run_advances_to}
use Rattle.push.proofs.NumberFacts.{sums_stop_at_the_ends}
use Rattle.push.proofs.StackKindsFacts.{steps_go_by_kinds}
use Rattle.push.proofs.run.Run.advance.Goals as goal

pub returns-clause-makes_the_machines_steps : goal.returns-clause-makes_the_machines_steps
returns-clause-makes_the_machines_steps c =
    let before = c.args.self.now in
    rw (sym c.steps-steps.ensures.runs_the_budget) at (run_advances before.program c.args.budget before.state)

pub returns-clause-follows_the_rules_of_an_advance : goal.returns-clause-follows_the_rules_of_an_advance
returns-clause-follows_the_rules_of_an_advance c =
    λ honest.
    let before = c.args.self.now in
    let by_the_rules = run_advances_to before.program c.args.budget before.state.status before.state.machine honest.halted_at_the_exit in
    rw (sym c.steps-steps.ensures.runs_the_budget) at by_the_rules

pub returns-clause-steps_follow_the_rules : goal.returns-clause-steps_follow_the_rules
returns-clause-steps_follow_the_rules c = step_follows_the_rules

pub returns-clause-steps_go_by_kinds : goal.returns-clause-steps_go_by_kinds
returns-clause-steps_go_by_kinds c = steps_go_by_kinds

pub returns-clause-sums_stop_at_the_ends : goal.returns-clause-sums_stop_at_the_ends
returns-clause-sums_stop_at_the_ends c = sums_stop_at_the_ends
