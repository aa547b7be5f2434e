-- The claimed stack place by place. Assumes nothing.
use Rattle.std.specs.Prelude.{nat_le}
use Rattle.std.proofs.Common.{◌≡◌, ℕ, ◌+◌, ◌<◌, ◌≤◌, List, ◌∷◌, map, length, get_or, drop, Some, None, ap, arith}
use Rattle.std.proofs.lemmas.Bool.{lt-leb, le-leb, cond-true, cond-false}
use Rattle.std.proofs.lemmas.List.FromFn.{length-map-range_with_len, get_or-map-range_with_len}
use Rattle.std.proofs.lemmas.List.{drop_more, get_or_past}
use Rattle.job.specs.declared.claim.Claim.{Claim}
use Rattle.job.specs.declared.claim.Place.{Place}
use Rattle.job.specs.declared.reader.Job.{Job}
use Rattle.job.specs.Layout.{record_at}
use Rattle.job.specs.Views.{sizes, claim_says}
use Rattle.job.specs.Records.{kind, place_in, stack_in, stack_kinds}

pub stack_length : (bytes : List ℕ) (depth : ℕ) → length (stack_in bytes depth) ≡ depth
stack_length bytes depth = length-map-range_with_len (place_in bytes) 0 depth

pub stack_within : (bytes : List ℕ) (depth i : ℕ) (d : Place) → i < depth → get_or (stack_in bytes depth) i d ≡ place_in bytes i
stack_within bytes depth i d h = get_or-map-range_with_len (place_in bytes) 0 depth i i d h (omega arith)

pub stack_past : (bytes : List ℕ) (depth i : ℕ) (d : Place) → depth ≤ i → get_or (stack_in bytes depth) i d ≡ d
stack_past bytes depth i d h = get_or_past (stack_in bytes depth) i d (omega (arith, stack_length bytes depth))

-- a claim's stack is as long as its depth says
pub depth_said : (j : Job) (c : Claim) → length (claim_says j c).stack ≡ c.depth
depth_said j c = stack_length (record_at j.bytes.now (sizes j) c.record_place) c.depth

-- A stack has kinds exactly up to eight places.
pub kinds_within : (stack : List Place) → length stack ≤ 8 → stack_kinds stack ≡ Some (map kind stack)
kinds_within stack h = cond-true (nat_le (length stack) 8) _ _ (le-leb (length stack) 8 h)

pub kinds_past : (stack : List Place) → 8 < length stack → stack_kinds stack ≡ None
kinds_past stack h = cond-false (nat_le (length stack) 8) _ _ (lt-leb (length stack) 8 h)

-- The kinds of a stack's lower places, one place more.
pub kinds_from : (stack : List Place) (i : ℕ) (d : Place) → i < length stack → map kind (drop i stack) ≡ kind (get_or stack i d) ∷ map kind (drop (i + 1) stack)
kinds_from stack i d h = ap (map kind) (drop_more stack i d h)
