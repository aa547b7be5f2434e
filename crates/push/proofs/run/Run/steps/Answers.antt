use Rattle.std.proofs.Common.{◌≡◌, ◌+◌, ◌-◌, true, false, ap, ◌∙◌, arith, rules}
use Rattle.push.specs.declared.status.Status.TheVariants.{Going}
use Rattle.push.specs.Stepped.{next, stepped, settled}
use Rattle.push.proofs.RunFacts.{nothing_to_settle, run_over, turn_made, turn_refused}
use Rattle.push.proofs.run.Run.steps.Goals as goal

pub loop-steps-init : goal.loop-steps-init
loop-steps-init c =
    let before = c.args.self.now in
    let nothing : (settled 0 Going before).state ≡ before.state = nothing_to_settle before.program before.state.status before.state.machine in
    record { same_program = search rules; so_far = rw nothing (search rules) }

pub returns-then-is_none-clause-runs_the_budget : goal.returns-then-is_none-clause-runs_the_budget
returns-then-is_none-clause-runs_the_budget c =
    let before = c.loop-steps.self in
    let machine = before.state.machine in
    let none : (false, c.step.new.self) ≡ stepped before (next before) = search rules in
    let refused = turn_refused before.program _ _ _ before.state.status machine c.step.new.self (omega arith) c.loop-steps.invariant.so_far none in
    search (rules, refused)

pub loop-steps-preserved : goal.loop-steps-preserved
loop-steps-preserved c =
    let before = c.loop-steps.self in
    let machine = before.state.machine in
    let made : (true, c.step.new.self) ≡ stepped before (next before) = search rules in
    let left : c.args.budget - c.loop-steps.steps - 1 ≡ c.args.budget - (c.loop-steps.steps + 1) = omega arith in
    record {
      same_program = ap (λ p. p.1.program) made ∙ c.loop-steps.invariant.same_program;
      so_far = rw left at (turn_made before.program _ _ _ before.state.status machine c.step.new.self (omega arith) c.loop-steps.invariant.so_far made);
    }

pub returns-clause-runs_the_budget : goal.returns-clause-runs_the_budget
returns-clause-runs_the_budget c =
    let before = c.loop-steps.self in
    let settles = (settled c.loop-steps.steps Going before).state in
    let over = run_over before.program _ c.loop-steps.steps (c.args.budget - c.loop-steps.steps) settles (omega arith) c.loop-steps.invariant.so_far in
    grind (arith, over)
