-- The kinds of lattice, each by its six answers. Assumes nothing.
use Rattle.std.specs.Prelude.{◌≡◌, ℕ, ◌+◌, ◌-◌, ◌*◌, ◌/◌, ◌%◌, ◌^◌, ◌<◌, ◌≤◌, min, max, Bool, ◌&&◌, Some, None, Option, bit_and, bit_or, ◌==◌, nat_le, nat_lt, IfSome, if◌then◌else◌}
use Rattle.lattice.specs.Order.{Order}

-- both codes are levels
abbrev pub levels : ℕ → ℕ → ℕ → Bool
levels span a b = nat_lt a span && nat_lt b span

-- The answers among levels, with no and 0 for the codes that are none.
abbrev pub among_levels : ℕ → (ℕ → ℕ → Bool) → (ℕ → ℕ → ℕ) → (ℕ → ℕ → ℕ) → ℕ → ℕ → Order
among_levels span at_most join meet lowest highest = record {
  span = span;
  at_most = λ a b. levels span a b && at_most a b;
  join = λ a b. if levels span a b then join a b else 0;
  meet = λ a b. if levels span a b then meet a b else 0;
  lowest = if nat_lt 0 span then lowest else 0;
  highest = if nat_lt 0 span then highest else 0;
}

-- Grades in the order of the numbers. There are at most 65,535, so the law holds of every number that is asked.
abbrev pub ladder_span : ℕ → ℕ
ladder_span grades = min grades 65535

abbrev pub ladder : ℕ → Order
ladder grades = among_levels (ladder_span grades) nat_le max min 0 (ladder_span grades - 1)

-- Sets of owners by inclusion: bit i of a code stands for owner i.
abbrev pub owners_span : ℕ → ℕ
owners_span count = if nat_le count 16 then 2 ^ count else 0

abbrev pub owners : ℕ → Order
owners count =
    among_levels (owners_span count) (λ a b. bit_and a b == a) bit_or bit_and
    0 (owners_span count - 1)

-- An order upside down.
abbrev pub flip : Order → Order
flip o = record {
  span = o.span;
  at_most = λ a b. o.at_most b a;
  join = o.meet;
  meet = o.join;
  lowest = o.highest;
  highest = o.lowest;
}

-- Two orders side by side: a code is first * (span of the second) + second.
abbrev pub pair_span : Order → Order → ℕ
pair_span o p = if nat_le (o.span * p.span) 65536 then o.span * p.span else 0

abbrev pub code : Order → ℕ → ℕ → ℕ
code p first second = first * p.span + second

abbrev pub pair_at_most : Order → Order → ℕ → ℕ → Bool
pair_at_most o p a b = o.at_most (a / p.span) (b / p.span) && p.at_most (a % p.span) (b % p.span)

abbrev pub part_by_part : Order → (ℕ → ℕ → ℕ) → (ℕ → ℕ → ℕ) → ℕ → ℕ → ℕ
part_by_part p f g a b = code p (f (a / p.span) (b / p.span)) (g (a % p.span) (b % p.span))

abbrev pub pair : Order → Order → Order
pair o p =
    among_levels (pair_span o p) (pair_at_most o p)
    (part_by_part p o.join p.join) (part_by_part p o.meet p.meet)
    (code p o.lowest p.lowest) (code p o.highest p.highest)

-- The two parts of a code that is a level.
abbrev pub parts_of : Order → Order → ℕ → Option (ℕ × ℕ)
parts_of o p a = if nat_lt a (pair_span o p) then Some (a / p.span, a % p.span) else None

-- Both parts are levels, and so few that every pair of levels has a code.
abbrev pub PartsAreLevels : Order → Order → Option (ℕ × ℕ) → Type 0
PartsAreLevels o p parts =
    IfSome parts (λ k. (k.0 < o.span) × (k.1 < p.span) × (o.span * p.span ≤ 65536))

-- What is given of two levels is a level.
abbrev pub KeepsLevels : Order → (ℕ → ℕ → ℕ → Type 0) → Type 0
KeepsLevels o gives = (a b x : ℕ) → a < o.span → b < o.span → gives a b x → x < o.span

-- The code of what is given of the first parts and of the second parts of two codes.
abbrev pub IsPartByPart : Order → (ℕ → ℕ → ℕ → Type 0) → (ℕ → ℕ → ℕ → Type 0) → ℕ → ℕ → ℕ → Type 0
IsPartByPart p first second a b x =
    (y z : ℕ)
    × first (a / p.span) (b / p.span) y
    × second (a % p.span) (b % p.span) z
    × (x ≡ code p y z)
