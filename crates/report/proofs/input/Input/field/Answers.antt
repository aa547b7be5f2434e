use Rattle.std.proofs.Common.{rules, ◌+◌, slice_index}
use Rattle.report.proofs.Made.{made_at}
use Rattle.report.proofs.input.Input.field.Goals as goal

pub returns : goal.returns
returns g c = made_at _ _ _ (λ k. slice_index c.args.self.now.bytes.now (c.args.at + k)) 0 (λ i y q called. search rules) g.row.N c.from_fn.ensures.items
