-- What the kinds mean in the subject's words, as theorems about their definitions. Assumes nothing.
use Rattle.std.specs.Prelude.{◌≡◌, ℕ, ◌/◌, ◌%◌, ◌<◌, ◌≤◌, IsTrue, ◌↔◌}
use Rattle.std.specs.Int.{bit_at}
use Rattle.lattice.specs.Order.{Order, Laws, SameAnswers}
use Rattle.lattice.specs.Kinds.{ladder, owners, owners_span, pair, pair_span}

-- The span and at_most are the whole meaning: lawful orders that agree in these two agree in all six answers.
abbrev pub SpanAndAtMostDecide : Type 0
SpanAndAtMostDecide =
    (o p : Order) → Laws o → Laws p →
    o.span ≡ p.span → ((a b : ℕ) → o.at_most a b ≡ p.at_most a b) → SameAnswers o p

abbrev pub LadderGoesByNumber : Type 0
LadderGoesByNumber =
    (grades a b : ℕ) → grades ≤ 65535 →
    (IsTrue ((ladder grades).at_most a b) ↔ ((a < grades) × (b < grades) × (a ≤ b)))

-- owner i is in the set with this code
abbrev pub Owns : ℕ → ℕ → Type 0
Owns code i = bit_at code i ≡ 1

abbrev pub OwnersGoByInclusion : Type 0
OwnersGoByInclusion =
    (count a b : ℕ) →
    (IsTrue ((owners count).at_most a b)
    ↔ ((a < owners_span count) × (b < owners_span count) × ((i : ℕ) → Owns a i → Owns b i)))

abbrev pub PairGoesByParts : Type 0
PairGoesByParts =
    (o p : Order) (a b : ℕ) →
    (IsTrue ((pair o p).at_most a b)
    ↔ ((a < pair_span o p) × (b < pair_span o p)
    × IsTrue (o.at_most (a / p.span) (b / p.span)) × IsTrue (p.at_most (a % p.span) (b % p.span))))
