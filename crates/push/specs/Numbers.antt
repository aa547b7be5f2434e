-- Integers of 32 bits: a sum or a difference is the one that is nearest to the exact result. Assumes nothing.
use Rattle.std.specs.Prelude.{◌≡◌, ℤ, pos, negsuc, ◌+ℤ◌, ◌-ℤ◌, ◌<ℤ◌, ◌≤◌, ◌≤ℤ◌, int_lt, unsigned_abs, if◌then◌else◌}

-- The lowest and the highest: −2,147,483,648 and 2,147,483,647.
abbrev pub bottom : ℤ
bottom = negsuc 2147483647

abbrev pub top : ℤ
top = pos 2147483647

-- The integer of 32 bits that is nearest to an integer.
abbrev pub nearest : ℤ → ℤ
nearest z = if int_lt top z then top else if int_lt z bottom then bottom else z

abbrev pub sum : ℤ → ℤ → ℤ
sum u t = nearest (u +ℤ t)

abbrev pub difference : ℤ → ℤ → ℤ
difference u t = nearest (u -ℤ t)

abbrev pub InRange : ℤ → Type 0
InRange n = (bottom ≤ℤ n) × (n ≤ℤ top)

-- What is made of an exact result z: an integer of 32 bits, and none of 32 bits is nearer to z. It is z itself where that
-- is in range, and otherwise the end that z passes.
pub record StopsAtTheEnds (z n : ℤ) : Type 0 where
  pub in_range : InRange n
  pub none_nearer : (m : ℤ) → InRange m → unsigned_abs (z -ℤ n) ≤ unsigned_abs (z -ℤ m)
  pub exact_in_range : InRange z → n ≡ z
  pub top_above : top <ℤ z → n ≡ top
  pub bottom_below : z <ℤ bottom → n ≡ bottom

pub record SumsStopAtTheEnds : Type 0 where
  pub sums : (u t : ℤ) → StopsAtTheEnds (u +ℤ t) (sum u t)
  pub differences : (u t : ℤ) → StopsAtTheEnds (u -ℤ t) (difference u t)
