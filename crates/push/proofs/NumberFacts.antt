-- A sum and a difference stop at the ends of 32 bits. Assumes nothing.
use Rattle.std.proofs.Common.{ℤ, ◌+ℤ◌, ◌-ℤ◌, arith}
use Rattle.push.specs.Numbers.{nearest, StopsAtTheEnds, SumsStopAtTheEnds}

nearest_stops : (z : ℤ) → StopsAtTheEnds z (nearest z)
nearest_stops z =
    record {
      in_range = (grind arith, grind arith);
      none_nearer = λ m h. grind (arith, h);
      exact_in_range = λ h. grind (arith, h);
      top_above = λ h. grind (arith, h);
      bottom_below = λ h. grind (arith, h);
    }

pub sums_stop_at_the_ends : SumsStopAtTheEnds
sums_stop_at_the_ends = record { sums = λ u t. nearest_stops (u +ℤ t); differences = λ u t. nearest_stops (u -ℤ t) }
