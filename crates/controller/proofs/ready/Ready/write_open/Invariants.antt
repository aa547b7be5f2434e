use Rattle.std.proofs.Common.{◌≡◌, ◌*◌, ◌++◌, length, drop}
use Rattle.controller.specs.Sheet.{open_below, lines_below}
use Rattle.controller.proofs.ready.Ready.write_open.Given as goal

abbrev pub invariant-loop-variable : goal.invariant-loop-variable
invariant-loop-variable g l =
    let s = l.self-inside in
    let o = g.L.Lattice.order s.grades.lattice in
    let n = length l.yielded in
    (l.at ≡ 5 * open_below o s.grades.levels l.observer n)
    × (l.buffer ≡ lines_below o s.grades.levels s.values l.observer n ++ drop l.at l.initial.buffer)
