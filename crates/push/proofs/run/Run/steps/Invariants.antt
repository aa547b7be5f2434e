use Rattle.std.proofs.Common.{◌≡◌, ◌-◌}
use Rattle.push.specs.declared.status.Status.TheVariants.{Going}
use Rattle.push.specs.Stepped.{settled}
use Rattle.push.specs.Run.{run}
use Rattle.push.proofs.RunFacts.{counted}
use Rattle.push.proofs.run.Run.steps.Given as goal

abbrev pub invariant-loop-steps : goal.invariant-loop-steps
invariant-loop-steps l = record {
  same_program : l.self.program ≡ l.initial.self.program;
  so_far : run l.initial.self.program l.budget l.initial.self.state
      ≡ counted l.steps (run l.self.program (l.budget - l.steps) (settled l.steps Going l.self).state);
}
