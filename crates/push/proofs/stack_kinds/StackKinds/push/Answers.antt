use Rattle.std.proofs.Common.{◌≡◌, suc, ◌+◌, ◌*◌, ◌<◌, ◌∷◌, length, Some, sym, ap, ◌∙◌, add-one, arith}
use mir.Val.{bool_byte}
use Rattle.push.specs.StackBits.{bit_of_kind, kinds_in, kinds_length}
use Rattle.push.proofs.StackKindsFacts.{pushed_bit, boolean_bit, one_more_fits}
use Rattle.push.proofs.stack_kinds.StackKinds.push.Goals as goal

pub returns : goal.returns
returns c =
    let depth = c.self.inside.depth in
    let bits = c.self.inside.booleans in
    let kind = c.args.kind in
    let bit : c.from-2.result ≡ bit_of_kind kind = c.from-2.ensures ∙ ap bool_byte c.eq.ensures ∙ boolean_bit kind in
    let room : length c.args.self < 8 = omega (arith, ap length c.self.view_is, kinds_length depth bits) in
    record {
      is_one_more_on_top =
          ap (λ d. Some (kinds_in d (bits * 2 + c.from-2.result))) (add-one depth)
          ∙ ap (λ b. Some (kinds_in (suc depth) (bits * 2 + b))) bit
          ∙ ap Some (pushed_bit depth bits kind ∙ ap (λ ks. kind ∷ ks) c.self.view_is)
          ∙ sym (one_more_fits kind c.args.self room);
    }
