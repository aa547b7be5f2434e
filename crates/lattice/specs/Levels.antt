-- The answers of a lawful order are levels. Assumes nothing.
use Rattle.std.specs.Prelude.{ℕ, ◌<◌}
use Rattle.lattice.specs.Order.{Order, Laws}

module _ (o : Order) (l : Laws o) where
  pub join_level : (a b : ℕ) → a < o.span → b < o.span → o.join a b < o.span
  join_level a b ha hb = (l.only_levels a (o.join a b) (l.join_left a b ha hb)).1

  pub meet_level : (a b : ℕ) → a < o.span → b < o.span → o.meet a b < o.span
  meet_level a b ha hb = (l.only_levels (o.meet a b) a (l.meet_left a b ha hb)).0

  pub lowest_level : 0 < o.span → o.lowest < o.span
  lowest_level h = (l.only_levels o.lowest 0 (l.lowest_least 0 h)).0

  pub highest_level : 0 < o.span → o.highest < o.span
  highest_level h = (l.only_levels 0 o.highest (l.highest_greatest 0 h)).1
