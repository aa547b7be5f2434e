-- What a lattice of levels means, and the laws that make it one. Assumes nothing.
use Rattle.std.specs.Prelude.{◌≡◌, ℕ, ◌<◌, ◌≤◌, Bool, ◌⊎◌, IsTrue}

-- The six answers. The levels are the codes below the span.
pub record Order : Type 0 where
  pub span : ℕ
  pub at_most : ℕ → ℕ → Bool
  pub join : ℕ → ℕ → ℕ
  pub meet : ℕ → ℕ → ℕ
  pub lowest : ℕ
  pub highest : ℕ

pub record Laws (o : Order) : Type 0 where
  pub span_bound : o.span ≤ 65536
  pub only_levels : (a b : ℕ) → IsTrue (o.at_most a b) → (a < o.span) × (b < o.span)
  pub reflexive : (a : ℕ) → a < o.span → IsTrue (o.at_most a a)
  pub transitive : (a b c : ℕ) →
      IsTrue (o.at_most a b) → IsTrue (o.at_most b c) → IsTrue (o.at_most a c)
  pub antisymmetric : (a b : ℕ) → IsTrue (o.at_most a b) → IsTrue (o.at_most b a) → a ≡ b
  pub join_left : (a b : ℕ) → a < o.span → b < o.span → IsTrue (o.at_most a (o.join a b))
  pub join_right : (a b : ℕ) → a < o.span → b < o.span → IsTrue (o.at_most b (o.join a b))
  pub join_least : (a b c : ℕ) →
      IsTrue (o.at_most a c) → IsTrue (o.at_most b c) → IsTrue (o.at_most (o.join a b) c)
  pub meet_left : (a b : ℕ) → a < o.span → b < o.span → IsTrue (o.at_most (o.meet a b) a)
  pub meet_right : (a b : ℕ) → a < o.span → b < o.span → IsTrue (o.at_most (o.meet a b) b)
  pub meet_greatest : (a b c : ℕ) →
      IsTrue (o.at_most c a) → IsTrue (o.at_most c b) → IsTrue (o.at_most c (o.meet a b))
  -- codes that are no level
  pub join_outside : (a b : ℕ) → (o.span ≤ a) ⊎ (o.span ≤ b) → o.join a b ≡ 0
  pub meet_outside : (a b : ℕ) → (o.span ≤ a) ⊎ (o.span ≤ b) → o.meet a b ≡ 0
  pub lowest_least : (a : ℕ) → a < o.span → IsTrue (o.at_most o.lowest a)
  pub highest_greatest : (a : ℕ) → a < o.span → IsTrue (o.at_most a o.highest)
  -- a lattice without levels
  pub lowest_of_none : o.span ≡ 0 → o.lowest ≡ 0
  pub highest_of_none : o.span ≡ 0 → o.highest ≡ 0

-- Two orders that answer every question alike.
pub record SameAnswers (o p : Order) : Type 0 where
  pub span : o.span ≡ p.span
  pub at_most : (a b : ℕ) → o.at_most a b ≡ p.at_most a b
  pub join : (a b : ℕ) → o.join a b ≡ p.join a b
  pub meet : (a b : ℕ) → o.meet a b ≡ p.meet a b
  pub lowest : o.lowest ≡ p.lowest
  pub highest : o.highest ≡ p.highest
