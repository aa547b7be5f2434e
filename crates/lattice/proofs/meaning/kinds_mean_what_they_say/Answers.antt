use Rattle.lattice.proofs.Decided.{decided}
use Rattle.lattice.specs.OwnersLaws.{owners_go_by_inclusion}
use Rattle.lattice.proofs.meaning.kinds_mean_what_they_say.Goals as goal

pub returns-clause-span_and_at_most_decide : goal.returns-clause-span_and_at_most_decide
returns-clause-span_and_at_most_decide c = decided

pub returns-clause-owners_go_by_inclusion : goal.returns-clause-owners_go_by_inclusion
returns-clause-owners_go_by_inclusion c = owners_go_by_inclusion
