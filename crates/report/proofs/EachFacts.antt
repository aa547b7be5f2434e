-- What a function says of each variable, as a list. Assumes nothing.
use Rattle.std.proofs.Common.{◌≡◌, ℕ, ◌<◌, List, map, length, get_or, sym, ap}
use Rattle.std.specs.List.{range_with_len}
use Rattle.std.proofs.lemmas.List.FromFn.{fill_by_all}
use Rattle.report.specs.Input.{each}

-- a list of 32 that has what f says at each place
pub each_at : {X : Type 0} (f : ℕ → X) (xs : List X) (d : X) → length xs ≡ 32 → ((k : ℕ) → k < 32 → get_or xs k d ≡ f k) → xs ≡ each f
unfolding each
each_at f xs d long h = fill_by_all f xs 32 d long h

pub each_is : {X : Type 0} (f : ℕ → X) (n : ℕ) → n ≡ 32 → each f ≡ map f (range_with_len 0 n)
unfolding each
each_is f n e = ap (λ k. map f (range_with_len 0 k)) (sym e)
