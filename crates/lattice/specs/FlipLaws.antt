-- An order upside down keeps the laws. Assumes nothing.
use Rattle.lattice.specs.Order.{Order, Laws}
use Rattle.lattice.specs.Kinds.{flip}

pub flip_laws : (o : Order) → Laws o → Laws (flip o)
flip_laws o l = record {
  span_bound = l.span_bound;
  only_levels = λ a b h. ((l.only_levels b a h).1, (l.only_levels b a h).0);
  reflexive = l.reflexive;
  transitive = λ a b c h k. l.transitive c b a k h;
  antisymmetric = λ a b h k. l.antisymmetric a b k h;
  join_left = l.meet_left;
  join_right = l.meet_right;
  join_least = l.meet_greatest;
  meet_left = l.join_left;
  meet_right = l.join_right;
  meet_greatest = l.join_least;
  join_outside = l.meet_outside;
  meet_outside = l.join_outside;
  lowest_least = l.highest_greatest;
  highest_greatest = l.lowest_least;
  lowest_of_none = l.highest_of_none;
  highest_of_none = l.lowest_of_none;
}
