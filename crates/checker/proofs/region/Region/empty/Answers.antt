use Rattle.checker.proofs.RegionListFacts.{none_entered}
use Rattle.checker.proofs.region.Region.empty.Goals as goal

pub invariant_of-result : goal.invariant_of-result
invariant_of-result c = none_entered c.args.junction c.new.result.items c.new.ensures c.requires
