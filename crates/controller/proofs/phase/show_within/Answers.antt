use Rattle.std.proofs.Common.{arith}
use Rattle.std.proofs.lemmas.Grind.{common_steps}
use Rattle.controller.proofs.SheetFacts.{open_at_most}
use Rattle.controller.proofs.phase.show_within.Goals as goal

pub returns-in-Err : goal.returns-in-Err
returns-in-Err g c =
    let s = c.args.ready.now in
    let few = open_at_most (g.L.Lattice.order s.lattice) s.levels s.values c.args.observer 32 in
    grind (arith, common_steps)
