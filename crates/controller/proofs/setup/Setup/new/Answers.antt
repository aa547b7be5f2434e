use Rattle.std.proofs.Common.{replicate, sym, subst}
use Rattle.controller.specs.State.{ThirtyTwoLevels}
use Rattle.controller.proofs.LevelFacts.{highest_graded}
use Rattle.controller.proofs.setup.Setup.new.Goals as goal

pub invariant_of-result : goal.invariant_of-result
invariant_of-result g c =
    let o = g.L.Lattice.order c.args.lattice in
    subst (λ level. ThirtyTwoLevels o (replicate 32 level)) (sym c.highest-levels.ensures) (highest_graded o (g.met.L.Lattice.lawful c.args.lattice))
