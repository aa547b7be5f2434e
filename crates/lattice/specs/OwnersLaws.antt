-- Sets of owners under inclusion keep the laws, and at_most is inclusion owner by owner. Assumes nothing.
use Rattle.std.specs.Prelude.{◌≡◌, ℕ, zero, suc, ◌+◌, ◌-◌, ◌*◌, ◌/◌, ◌%◌, ◌^◌, ◌<◌, ◌≤◌, min, max, true, ◌==◌, nat_le, refl}
use Rattle.std.proofs.Common.{sym, ◌∙◌, ap, div-one, mod-lt, mod-eq_of_lt, arith, pow_mono}
use Rattle.std.specs.Int.Bits.{bit_and, bit_or, and_step, or_step, and_lt, and_self, and_zero_l}
use Rattle.std.proofs.lemmas.Nat.{shr-shr, and_shr, or_shr, or_lt, and_mask}
use Rattle.std.proofs.lemmas.Bool.{eqb-true, eq-eqb, leb-true, cond_both}
use Rattle.lattice.specs.Order.{Laws}
use Rattle.lattice.specs.Kinds.{owners, owners_span}
use Rattle.lattice.specs.Meaning.{OwnersGoByInclusion}
use Rattle.lattice.specs.AmongLevels.{parts, put, laws_among_levels}

bit : ℕ → ℕ → ℕ
bit code i = code / 2 ^ i % 2

bit_two : (a i : ℕ) → bit a i < 2
unfolding bit
bit_two a i = mod-lt (a / 2 ^ i) (omega arith)

bit_of_and : (a b i : ℕ) → bit (bit_and a b) i ≡ min (bit a i) (bit b i)
unfolding bit
bit_of_and a b i =
    let low : bit_and a b / 2 ^ i ≡ bit_and (a / 2 ^ i / 2) (b / 2 ^ i / 2) * 2 + min (a / 2 ^ i % 2) (b / 2 ^ i % 2) =
    and_shr a b i ∙ and_step (a / 2 ^ i) (b / 2 ^ i) in
    omega (arith, low)

bit_of_or : (a b i : ℕ) → bit (bit_or a b) i ≡ max (bit a i) (bit b i)
unfolding bit
bit_of_or a b i =
    let low : bit_or a b / 2 ^ i ≡ bit_or (a / 2 ^ i / 2) (b / 2 ^ i / 2) * 2 + max (a / 2 ^ i % 2) (b / 2 ^ i % 2) =
    or_shr a b i ∙ or_step (a / 2 ^ i) (b / 2 ^ i) in
    omega (arith, low)

bit_half : (a i : ℕ) → bit (a / 2) i ≡ bit a (1 + i)
unfolding bit
bit_half a i = ap (λ n. n % 2) (shr-shr a 1 i)

bit_low : (a : ℕ) → bit a 0 ≡ a % 2
unfolding bit
bit_low a = ap (λ n. n % 2) (div-one a)

-- codes with the same bits are one code
same_bits : (most a b : ℕ) → a ≤ most → b ≤ most → ((i : ℕ) → bit a i ≡ bit b i) → a ≡ b
same_bits zero a b ha hb h = omega arith
same_bits (suc most) a b ha hb h =
    let low : a % 2 ≡ b % 2 = sym (bit_low a) ∙ h 0 ∙ bit_low b in
    let high : a / 2 ≡ b / 2 = same_bits most (a / 2) (b / 2) (omega arith) (omega arith) (λ i. bit_half a i ∙ h (1 + i) ∙ sym (bit_half b i)) in
    omega (arith, low, high)

-- every owner in a is in b
abbrev Within : ℕ → ℕ → Type 0
Within a b = (i : ℕ) → bit a i ≤ bit b i

within : (a b : ℕ) → bit_and a b ≡ a → Within a b
within a b e i = omega (arith, sym (bit_of_and a b i) ∙ ap (λ n. bit n i) e)

and_within : (a b : ℕ) → Within a b → bit_and a b ≡ a
and_within a b h = same_bits (bit_and a b + a) (bit_and a b) a (omega arith) (omega arith) (λ i. omega (arith, bit_of_and a b i, h i))

or_left : (a b : ℕ) → Within a (bit_or a b)
or_left a b i = omega (arith, bit_of_or a b i)

or_right : (a b : ℕ) → Within b (bit_or a b)
or_right a b i = omega (arith, bit_of_or a b i)

or_least : (a b c : ℕ) → Within a c → Within b c → Within (bit_or a b) c
or_least a b c h k i = omega (arith, bit_of_or a b i, h i, k i)

and_left : (a b : ℕ) → Within (bit_and a b) a
and_left a b i = omega (arith, bit_of_and a b i)

and_right : (a b : ℕ) → Within (bit_and a b) b
and_right a b i = omega (arith, bit_of_and a b i)

and_greatest : (a b c : ℕ) → Within c a → Within c b → Within c (bit_and a b)
and_greatest a b c h k i = omega (arith, bit_of_and a b i, h i, k i)

-- what holds of 2 ^ count and of 0 holds of the span
by_span : (count : ℕ) (P : ℕ → Type 0) → (count ≤ 16 → P (2 ^ count)) → P 0 → P (owners_span count)
by_span count P some none = cond_both (nat_le count 16) (2 ^ count) 0 P (λ e. some (leb-true count 16 e)) (λ e. none)

span_bound : (count : ℕ) → owners_span count ≤ 65536
span_bound count = by_span count (λ s. s ≤ 65536) (λ h. pow_mono h) (omega arith)

or_level : (count a b : ℕ) → a < owners_span count → b < owners_span count → bit_or a b < owners_span count
or_level count a b = by_span count (λ s. a < s → b < s → bit_or a b < s) (λ h. or_lt count a b) (λ h k. omega arith)

and_level : (count a b : ℕ) → a < owners_span count → b < owners_span count → bit_and a b < owners_span count
and_level count a b = by_span count (λ s. a < s → b < s → bit_and a b < s) (λ h. and_lt count a b) (λ h k. omega arith)

all_owners : (count a : ℕ) → a < owners_span count → bit_and a (owners_span count - 1) ≡ a
all_owners count a =
    by_span count (λ s. a < s → bit_and a (s - 1) ≡ a) (λ _ h. and_mask a count ∙ mod-eq_of_lt h) (λ h. absurd (omega arith))

test : (a b : ℕ) → (bit_and a b == a) ≡ true → Within a b
test a b h = within a b (eqb-true (bit_and a b) a h)

passes : (a b : ℕ) → Within a b → (bit_and a b == a) ≡ true
passes a b h = eq-eqb (bit_and a b) a (and_within a b h)

pub owners_laws : (count : ℕ) → Laws (owners count)
owners_laws count =
    laws_among_levels (owners_span count) (λ a b. bit_and a b == a) bit_or bit_and 0 (owners_span count - 1)
    record {
      bound = span_bound count;
      reflexive = λ a h. eq-eqb (bit_and a a) a (and_self a);
      transitive = λ a b c ha hb hc h k. passes a c (λ i. omega (arith, test a b h i, test b c k i));
      antisymmetric = λ a b ha hb h k. same_bits (a + b) a b (omega arith) (omega arith) (λ i. omega (arith, test a b h i, test b a k i));
      join_level = or_level count;
      join_left = λ a b ha hb. passes a (bit_or a b) (or_left a b);
      join_right = λ a b ha hb. passes b (bit_or a b) (or_right a b);
      join_least = λ a b c ha hb hc h k. passes (bit_or a b) c (or_least a b c (test a c h) (test b c k));
      meet_level = and_level count;
      meet_left = λ a b ha hb. passes (bit_and a b) a (and_left a b);
      meet_right = λ a b ha hb. passes (bit_and a b) b (and_right a b);
      meet_greatest = λ a b c ha hb hc h k. passes c (bit_and a b) (and_greatest a b c (test c a h) (test c b k));
      lowest_level = λ h. h;
      lowest_least = λ a h. eq-eqb (bit_and 0 a) 0 (and_zero_l a);
      highest_level = λ h. omega arith;
      highest_greatest = λ a h. eq-eqb (bit_and a (owners_span count - 1)) a (all_owners count a h);
    }

one_implies_one : (x y : ℕ) → x < 2 → (x ≡ 1 → y ≡ 1) → x ≤ y
one_implies_one zero y h k = omega arith
one_implies_one (suc zero) y h k = omega (arith, k refl)
one_implies_one (suc (suc x)) y h k = omega arith

-- at_most says that both are levels and that every owner in a is in b
pub owners_go_by_inclusion : OwnersGoByInclusion
unfolding bit
owners_go_by_inclusion count a b = (
  λ h.
      let p = parts (owners_span count) (λ a b. bit_and a b == a) a b h in
      (p.0, p.1, λ i own. omega (arith, test a b p.2 i, bit_two b i)),
  λ h. put (owners_span count) (λ a b. bit_and a b == a) a b h.0 h.1 (passes a b (λ i. one_implies_one (bit a i) (bit b i) (bit_two a i) (h.2 i))),
)
