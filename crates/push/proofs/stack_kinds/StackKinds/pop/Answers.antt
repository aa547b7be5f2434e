use Rattle.std.proofs.Common.{◌≡◌, ◌-◌, ◌/◌, ◌%◌, Some, sym, ap, ◌∙◌, arith}
use Rattle.push.specs.StackBits.{kind_of_bit, kinds_in}
use Rattle.push.specs.StackKinds.{popped}
use Rattle.push.proofs.StackKindsFacts.{popped_bit}
use Rattle.push.proofs.stack_kinds.StackKinds.pop.Goals as goal
use Rattle.push.proofs.stack_kinds.StackKinds.pop.Goals.{then-self-eq0-2, else-self-eq0-2}

pub returns-clause-top_and_rest : goal.returns-clause-top_and_rest
returns-clause-top_and_rest c =
    let depth = c.self.inside.depth in
    let bits = c.self.inside.booleans in
    let rest = kinds_in (depth - 1) (bits / 2) in
    let top : c.if-self-eq0-2.top ≡ kind_of_bit (bits % 2) =
    elim c.if-self-eq0-2.branch [
      | then-self-eq0-2 w ↦ grind (arith, w.top-is)
      | else-self-eq0-2 w ↦ grind (arith, w.top-is)
    ] in
    ap (λ k. Some (k, rest)) top ∙ ap popped (sym (popped_bit depth bits c.if-self-eq0.false) ∙ c.self.view_is)
