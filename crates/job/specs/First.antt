-- The numbers below a limit: whether a test holds of each, and the first at which something is found. Assumes nothing.
use Rattle.std.specs.Prelude.{ℕ, zero, suc, Bool, true, ◌&&◌, None, Option}
use Rattle.std.specs.Option.{option_or}

-- Whether f holds of each number below n.
unfoldable pub all_below : (ℕ → Bool) → ℕ → Bool
all_below f zero = true
all_below f (suc n) = all_below f n && f n

-- What f finds at the first number below n at which it finds something.
unfoldable pub first_below : {A : Type 0} → (ℕ → Option A) → ℕ → Option A
first_below f zero = None
first_below f (suc n) = option_or (first_below f n) (f n)
