use Rattle.std.proofs.Common.{◌≡◌, ◌-◌}
use Rattle.checker.proofs.RegionReading.{Reading}
use Rattle.checker.proofs.region.Region.of_branch.Given as goal

abbrev pub invariant-loop-read : goal.invariant-loop-read
invariant-loop-read l = Reading l.program l.branch l.region l.read × (l.region.junction ≡ l.junction)

-- the labels that a list without the junction still has room for
abbrev pub decreases-loop-read : goal.decreases-loop-read
decreases-loop-read l = 128 - l.read
