-- The order of the numbers below a span keeps the laws. Assumes nothing.
use Rattle.std.specs.Prelude.{ℕ, ◌-◌, min, max, nat_le}
use Rattle.std.proofs.Common.{arith}
use Rattle.std.proofs.lemmas.Bool.{leb-true, le-leb}
use Rattle.lattice.specs.Order.{Laws}
use Rattle.lattice.specs.Kinds.{ladder, ladder_span}
use Rattle.lattice.specs.AmongLevels.{laws_among_levels}

pub ladder_laws : (grades : ℕ) → Laws (ladder grades)
ladder_laws grades =
    laws_among_levels (ladder_span grades) nat_le max min 0 (ladder_span grades - 1)
    record {
      bound = omega arith;
      reflexive = λ a h. le-leb a a (omega arith);
      transitive = λ a b c ha hb hc h k. le-leb a c (omega (arith, leb-true a b h, leb-true b c k));
      antisymmetric = λ a b ha hb h k. omega (arith, leb-true a b h, leb-true b a k);
      join_level = λ a b ha hb. omega arith;
      join_left = λ a b ha hb. le-leb a (max a b) (omega arith);
      join_right = λ a b ha hb. le-leb b (max a b) (omega arith);
      join_least = λ a b c ha hb hc h k. le-leb (max a b) c (omega (arith, leb-true a c h, leb-true b c k));
      meet_level = λ a b ha hb. omega arith;
      meet_left = λ a b ha hb. le-leb (min a b) a (omega arith);
      meet_right = λ a b ha hb. le-leb (min a b) b (omega arith);
      meet_greatest = λ a b c ha hb hc h k. le-leb c (min a b) (omega (arith, leb-true c a h, leb-true c b k));
      lowest_level = λ h. h;
      lowest_least = λ a h. le-leb 0 a (omega arith);
      highest_level = λ h. omega arith;
      highest_greatest = λ a h. le-leb a (ladder_span grades - 1) (omega arith);
    }
