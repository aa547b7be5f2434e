use Rattle.std.proofs.Common.{arith}
use Rattle.checker.specs.RegionList.{RegionList}
use Rattle.checker.proofs.RegionListFacts.{absent, entered, has_room}
use Rattle.checker.proofs.region.Region.enter.Goals as goal

pub push-requires : goal.push-requires
push-requires c =
    let r : RegionList = record { junction = c.self.inside.junction; labels = c.self.inside.labels.items } in
    let new = absent c.self.inside.listed r.labels c.args.label c.from.result c.self.invariant.1 c.requires c.from.ensures c.if-not-self-from.true in
    (omega arith, has_room r c.args.label c.requires c.if-label-self.true new c.self.invariant.0)

pub invariant_of-self : goal.invariant_of-self
invariant_of-self c =
    let r : RegionList = record { junction = c.self.inside.junction; labels = c.self.inside.labels.items } in
    let table = c.self.inside.listed in
    let new = absent table r.labels c.args.label c.from.result c.self.invariant.1 c.requires c.from.ensures c.if-not-self-from.true in
    entered r c.args.label c.requires c.if-label-self.true new table c.from-then-not-self-from.result c.push.new.self.items
    c.from-then-not-self-from.ensures c.push.ensures.items c.self.invariant.0 c.self.invariant.1
