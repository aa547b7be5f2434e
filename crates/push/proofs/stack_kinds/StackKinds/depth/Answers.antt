use Rattle.std.proofs.Common.{length, sym, ap, ◌∙◌}
use Rattle.push.specs.StackBits.{kinds_length}
use Rattle.push.proofs.stack_kinds.StackKinds.depth.Goals as goal

pub returns-clause-counts_the_places : goal.returns-clause-counts_the_places
returns-clause-counts_the_places c = sym (kinds_length c.self.inside.depth c.self.inside.booleans) ∙ ap length c.self.view_is
