-- Two lawful orders side by side keep the laws. Assumes nothing.
use Rattle.std.specs.Prelude.{◌≡◌, ℕ, zero, suc, ◌+◌, ◌*◌, ◌/◌, ◌%◌, ◌<◌, ◌≤◌, true, nat_le, refl}
use Rattle.std.proofs.Common.{sym, ◌∙◌, ap₂, subst, mul-zero, arith}
use Rattle.std.proofs.lemmas.Nat.{div-add-mod', mul-add-lt, div-mul-add, mod-mul-add, div_below, mod_below}
use Rattle.std.proofs.lemmas.Bool.{cond_both, leb-true, and_parts, and_from}
use Rattle.lattice.specs.Order.{Order, Laws}
use Rattle.lattice.specs.Kinds.{pair, pair_span, pair_at_most, part_by_part, code}
use Rattle.lattice.specs.AmongLevels.{laws_among_levels}
use Rattle.lattice.specs.Levels.{join_level, meet_level, lowest_level, highest_level}

some_factor : (m n a : ℕ) → a < m * n → 0 < n
some_factor m zero a h = let none = rw mul-zero at h in omega arith
some_factor m (suc n) a h = omega arith

module _ (o p : Order) where
  pub pair_span_bound : pair_span o p ≤ 65536
  pair_span_bound =
      cond_both (nat_le (o.span * p.span) 65536) (o.span * p.span) 0 (λ s. s ≤ 65536) (leb-true (o.span * p.span) 65536) (λ e. omega arith)

  -- where there is a level, the span is the product
  pub product : (a : ℕ) → a < pair_span o p → pair_span o p ≡ o.span * p.span
  product a =
      cond_both (nat_le (o.span * p.span) 65536) (o.span * p.span) 0 (λ s. a < s → s ≡ o.span * p.span) (λ e h. refl) (λ e h. absurd (omega arith))

  pub second_span : (a : ℕ) → a < pair_span o p → 0 < p.span
  second_span a h = some_factor o.span p.span a (rw (product a h) at h)

  pub first_part : (a : ℕ) → a < pair_span o p → a / p.span < o.span
  first_part a h = div_below a p.span o.span (second_span a h) (rw (product a h) at h)

  pub first_span : (a : ℕ) → a < pair_span o p → 0 < o.span
  first_span a h = omega (arith, first_part a h)

  pub second_part : (a : ℕ) → a < pair_span o p → a % p.span < p.span
  second_part a h = mod_below a p.span (second_span a h)

  code_level : (a x y : ℕ) → a < pair_span o p → x < o.span → y < p.span → code p x y < pair_span o p
  code_level a x y h hx hy = rw (product a h) (omega (arith, mul-add-lt x p.span y o.span hx hy))

  -- at_most of codes by their parts
  apart : (a b : ℕ) → pair_at_most o p a b ≡ true → (o.at_most (a / p.span) (b / p.span) ≡ true) × (p.at_most (a % p.span) (b % p.span) ≡ true)
  apart a b = and_parts (o.at_most (a / p.span) (b / p.span)) (p.at_most (a % p.span) (b % p.span))

  together : (a b : ℕ) → o.at_most (a / p.span) (b / p.span) ≡ true → p.at_most (a % p.span) (b % p.span) ≡ true → pair_at_most o p a b ≡ true
  together a b = and_from (o.at_most (a / p.span) (b / p.span)) (p.at_most (a % p.span) (b % p.span))

  -- the same with a code that was put together of x and y
  under_code : (a x y : ℕ) → y < p.span → o.at_most (a / p.span) x ≡ true → p.at_most (a % p.span) y ≡ true → pair_at_most o p a (code p x y) ≡ true
  under_code a x y hy h k =
      together a (code p x y) (subst (λ n. o.at_most (a / p.span) n ≡ true) (sym (div-mul-add x p.span y hy)) h)
      (subst (λ n. p.at_most (a % p.span) n ≡ true) (sym (mod-mul-add x p.span y hy)) k)

  over_code : (a x y : ℕ) → y < p.span → o.at_most x (a / p.span) ≡ true → p.at_most y (a % p.span) ≡ true → pair_at_most o p (code p x y) a ≡ true
  over_code a x y hy h k =
      together (code p x y) a (subst (λ n. o.at_most n (a / p.span) ≡ true) (sym (div-mul-add x p.span y hy)) h)
      (subst (λ n. p.at_most n (a % p.span) ≡ true) (sym (mod-mul-add x p.span y hy)) k)

module _ (o p : Order) (lo : Laws o) (lp : Laws p) where
  -- the joins and the meets of the parts of two levels are levels
  join_parts : (a b : ℕ) → a < pair_span o p → b < pair_span o p →
      (o.join (a / p.span) (b / p.span) < o.span) × (p.join (a % p.span) (b % p.span) < p.span)
  join_parts a b ha hb = (
    join_level o lo (a / p.span) (b / p.span) (first_part o p a ha) (first_part o p b hb),
    join_level p lp (a % p.span) (b % p.span) (second_part o p a ha) (second_part o p b hb),
  )

  meet_parts : (a b : ℕ) → a < pair_span o p → b < pair_span o p →
      (o.meet (a / p.span) (b / p.span) < o.span) × (p.meet (a % p.span) (b % p.span) < p.span)
  meet_parts a b ha hb = (
    meet_level o lo (a / p.span) (b / p.span) (first_part o p a ha) (first_part o p b hb),
    meet_level p lp (a % p.span) (b % p.span) (second_part o p a ha) (second_part o p b hb),
  )

  pub pair_laws : Laws (pair o p)
  pair_laws =
      let s = p.span in
      let first = first_part o p in
      let second = second_part o p in
      laws_among_levels (pair_span o p) (pair_at_most o p) (part_by_part p o.join p.join) (part_by_part p o.meet p.meet)
      (code p o.lowest p.lowest) (code p o.highest p.highest)
      record {
        bound = pair_span_bound o p;
        reflexive = λ a h. together o p a a (lo.reflexive (a / s) (first a h)) (lp.reflexive (a % s) (second a h));
        transitive =
            λ a b c ha hb hc h k.
            let x = apart o p a b h in
            let y = apart o p b c k in
            together o p a c (lo.transitive (a / s) (b / s) (c / s) x.0 y.0) (lp.transitive (a % s) (b % s) (c % s) x.1 y.1);
        antisymmetric =
            λ a b ha hb h k.
            let x = apart o p a b h in
            let y = apart o p b a k in
            let firsts = lo.antisymmetric (a / s) (b / s) x.0 y.0 in
            let seconds = lp.antisymmetric (a % s) (b % s) x.1 y.1 in
            sym (div-add-mod' a s) ∙ ap₂ (λ (m n : ℕ). m * s + n) firsts seconds ∙ div-add-mod' b s;
        join_level =
            λ a b ha hb.
            let levels = join_parts a b ha hb in
            code_level o p a (o.join (a / s) (b / s)) (p.join (a % s) (b % s)) ha levels.0 levels.1;
        join_left =
            λ a b ha hb.
            under_code o p a (o.join (a / s) (b / s)) (p.join (a % s) (b % s)) (join_parts a b ha hb).1
            (lo.join_left (a / s) (b / s) (first a ha) (first b hb)) (lp.join_left (a % s) (b % s) (second a ha) (second b hb));
        join_right =
            λ a b ha hb.
            under_code o p b (o.join (a / s) (b / s)) (p.join (a % s) (b % s)) (join_parts a b ha hb).1
            (lo.join_right (a / s) (b / s) (first a ha) (first b hb)) (lp.join_right (a % s) (b % s) (second a ha) (second b hb));
        join_least =
            λ a b c ha hb hc h k.
            let x = apart o p a c h in
            let y = apart o p b c k in
            over_code o p c (o.join (a / s) (b / s)) (p.join (a % s) (b % s)) (join_parts a b ha hb).1
            (lo.join_least (a / s) (b / s) (c / s) x.0 y.0) (lp.join_least (a % s) (b % s) (c % s) x.1 y.1);
        meet_level =
            λ a b ha hb.
            let levels = meet_parts a b ha hb in
            code_level o p a (o.meet (a / s) (b / s)) (p.meet (a % s) (b % s)) ha levels.0 levels.1;
        meet_left =
            λ a b ha hb.
            over_code o p a (o.meet (a / s) (b / s)) (p.meet (a % s) (b % s)) (meet_parts a b ha hb).1
            (lo.meet_left (a / s) (b / s) (first a ha) (first b hb)) (lp.meet_left (a % s) (b % s) (second a ha) (second b hb));
        meet_right =
            λ a b ha hb.
            over_code o p b (o.meet (a / s) (b / s)) (p.meet (a % s) (b % s)) (meet_parts a b ha hb).1
            (lo.meet_right (a / s) (b / s) (first a ha) (first b hb)) (lp.meet_right (a % s) (b % s) (second a ha) (second b hb));
        meet_greatest =
            λ a b c ha hb hc h k.
            let x = apart o p c a h in
            let y = apart o p c b k in
            under_code o p c (o.meet (a / s) (b / s)) (p.meet (a % s) (b % s)) (meet_parts a b ha hb).1
            (lo.meet_greatest (a / s) (b / s) (c / s) x.0 y.0) (lp.meet_greatest (a % s) (b % s) (c % s) x.1 y.1);
        lowest_level =
            λ h.
            code_level o p 0 o.lowest p.lowest h (lowest_level o lo (first_span o p 0 h)) (lowest_level p lp (second_span o p 0 h));
        lowest_least =
            λ a h.
            over_code o p a o.lowest p.lowest (lowest_level p lp (second_span o p a h))
            (lo.lowest_least (a / s) (first a h)) (lp.lowest_least (a % s) (second a h));
        highest_level =
            λ h.
            code_level o p 0 o.highest p.highest h (highest_level o lo (first_span o p 0 h)) (highest_level p lp (second_span o p 0 h));
        highest_greatest =
            λ a h.
            under_code o p a o.highest p.highest (highest_level p lp (second_span o p a h))
            (lo.highest_greatest (a / s) (first a h)) (lp.highest_greatest (a % s) (second a h));
      }
