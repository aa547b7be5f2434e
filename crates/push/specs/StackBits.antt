-- The kinds of a stack in a depth and a byte. That the byte comes back from the kinds is shown here too, since the type
-- that holds the byte names it. Assumes nothing.
use Rattle.std.specs.Prelude.{◌≡◌, ℕ, zero, suc, ◌+◌, ◌*◌, ◌/◌, ◌%◌, ◌^◌, ◌<◌, List, [], ◌∷◌, length, ◌==◌, if◌then◌else◌}
use Rattle.std.proofs.Common.{refl, ap, arith}
use Rattle.push.specs.declared.kind.Kind.{Kind}
use Rattle.push.specs.declared.kind.Kind.TheVariants.{Integer, Boolean}

-- Bit 0 is the kind of the top, the next one that of the place under it, and so on: 0 an integer, 1 a boolean.
abbrev pub kind_of_bit : ℕ → Kind
kind_of_bit bit = if bit == 0 then Integer else Boolean

abbrev pub bit_of_kind : Kind → ℕ
bit_of_kind Integer = 0
bit_of_kind Boolean = 1

abbrev pub kinds_in : ℕ → ℕ → List Kind
kinds_in zero bits = []
kinds_in (suc depth) bits = kind_of_bit (bits % 2) ∷ kinds_in depth (bits / 2)

abbrev pub bits_of : List Kind → ℕ
bits_of [] = 0
bits_of (k ∷ ks) = bit_of_kind k + 2 * bits_of ks

pub kinds_length : (depth bits : ℕ) → length (kinds_in depth bits) ≡ depth
kinds_length zero bits = refl
kinds_length (suc depth) bits = ap suc (kinds_length depth (bits / 2))

bit_back : (bit : ℕ) → bit < 2 → bit_of_kind (kind_of_bit bit) ≡ bit
bit_back zero h = refl
bit_back (suc zero) h = refl
bit_back (suc (suc n)) h = absurd (omega arith)

pub bits_back : (depth bits : ℕ) → bits < 2 ^ depth → bits_of (kinds_in depth bits) ≡ bits
bits_back zero bits h = omega arith
bits_back (suc depth) bits h =
    let bit = bit_back (bits % 2) (omega arith) in
    let rest = bits_back depth (bits / 2) (omega arith) in
    omega (arith, bit, rest)
