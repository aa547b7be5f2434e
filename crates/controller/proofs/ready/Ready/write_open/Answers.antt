use Rattle.std.proofs.Common.{length, sym, ap, ◌∙◌, to_z-of_z, w32, SFits, rules}
use Rattle.std.proofs.lemmas.List.{length_push}
use Rattle.std.proofs.lemmas.Iterator.{YieldsList-from_slice, YieldsList-from_zip}
use Rattle.std.proofs.lemmas.Iterator.Consumers.{YieldsList-from_enumerate, YieldsList-turn}
use Rattle.controller.specs.Sheet.{line as line_of}
use Rattle.controller.proofs.SheetFacts.{pair_at, open_turn, closed_turn}
use Rattle.controller.proofs.ready.Ready.write_open.Goals as goal

pub loop-variable-preserved-then-is_open : goal.loop-variable-preserved-then-is_open
loop-variable-preserved-then-is_open g c =
    let s = c.self.inside in
    let o = g.L.Lattice.order s.grades.lattice in
    let xs = c.loop-variable.yielded in
    let inv = c.loop-variable.invariant in
    let fits : SFits w32 c.in-Some.value.now = search rules in
    let line = c.copy_from_slice.ensures.after ∙ simp to_z-of_z at c.line.ensures in
    let walk = YieldsList-from_enumerate (YieldsList-from_zip (YieldsList-from_slice s.values (cc)) (YieldsList-from_slice s.grades.levels (cc))) (cc) in
    let here =
    pair_at s.values s.grades.levels (length xs) _ (YieldsList-turn walk xs _ c.loop-variable.yielded_by _ c.next.new.self _ c.in-Some.is c.next.ensures.steps)
    in
    rw (length_push xs (c.in-Some.variable, (c.in-Some.value, c.in-Some.level)))
    (open_turn _ s.grades.levels s.values _ _ _ _ _ inv.0 inv.1 _ (line ∙ ap (λ x. line_of x.0 x.1.0) here)
    (ap (λ x. o.at_most x.1.1 c.args.observer) (sym here) ∙ sym c.if-is_open.ensures))

pub loop-variable-preserved : goal.loop-variable-preserved
loop-variable-preserved g c =
    let s = c.self.inside in
    let o = g.L.Lattice.order s.grades.lattice in
    let xs = c.loop-variable.yielded in
    let inv = c.loop-variable.invariant in
    let walk = YieldsList-from_enumerate (YieldsList-from_zip (YieldsList-from_slice s.values (cc)) (YieldsList-from_slice s.grades.levels (cc))) (cc) in
    let here =
    pair_at s.values s.grades.levels (length xs) _ (YieldsList-turn walk xs _ c.loop-variable.yielded_by _ c.next.new.self _ c.in-Some.is c.next.ensures.steps)
    in
    rw (length_push xs (c.in-Some.variable, (c.in-Some.value, c.in-Some.level)))
    (closed_turn _ s.grades.levels s.values _ _ _ _ _ inv.0 inv.1 (ap (λ x. o.at_most x.1.1 c.args.observer) (sym here) ∙ sym c.if-is_open.ensures))
