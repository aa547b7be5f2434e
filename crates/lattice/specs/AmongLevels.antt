-- The laws of an order made by `among_levels`, from what its answers do among levels. Assumes nothing.
use Rattle.std.specs.Prelude.{◌≡◌, ℕ, ◌<◌, ◌≤◌, Bool, true, false, ◌&&◌, ◌⊎◌, nat_lt, if◌then◌else◌}
use Rattle.std.proofs.Common.{sym, subst, ⊎_elim, arith}
use Rattle.std.proofs.lemmas.Bool.{and_parts, and_from, and_left, and_right, ltb-true, lt-ltb, le-ltb, cond-true, cond-false}
use Rattle.lattice.specs.Order.{Laws}
use Rattle.lattice.specs.Kinds.{levels, among_levels}

-- The laws for levels alone, each answer with the fact that it is a level.
pub record Sound
    (s : ℕ) (at_most : ℕ → ℕ → Bool) (join meet : ℕ → ℕ → ℕ) (lowest highest : ℕ) : Type 0 where
  pub bound : s ≤ 65536
  pub reflexive : (a : ℕ) → a < s → at_most a a ≡ true
  pub transitive :
      (a b c : ℕ) → a < s → b < s → c < s → at_most a b ≡ true → at_most b c ≡ true → at_most a c ≡ true
  pub antisymmetric : (a b : ℕ) → a < s → b < s → at_most a b ≡ true → at_most b a ≡ true → a ≡ b
  pub join_level : (a b : ℕ) → a < s → b < s → join a b < s
  pub join_left : (a b : ℕ) → a < s → b < s → at_most a (join a b) ≡ true
  pub join_right : (a b : ℕ) → a < s → b < s → at_most b (join a b) ≡ true
  pub join_least :
      (a b c : ℕ) → a < s → b < s → c < s →
      at_most a c ≡ true → at_most b c ≡ true → at_most (join a b) c ≡ true
  pub meet_level : (a b : ℕ) → a < s → b < s → meet a b < s
  pub meet_left : (a b : ℕ) → a < s → b < s → at_most (meet a b) a ≡ true
  pub meet_right : (a b : ℕ) → a < s → b < s → at_most (meet a b) b ≡ true
  pub meet_greatest :
      (a b c : ℕ) → a < s → b < s → c < s →
      at_most c a ≡ true → at_most c b ≡ true → at_most c (meet a b) ≡ true
  pub lowest_level : 0 < s → lowest < s
  pub lowest_least : (a : ℕ) → a < s → at_most lowest a ≡ true
  pub highest_level : 0 < s → highest < s
  pub highest_greatest : (a : ℕ) → a < s → at_most a highest ≡ true

module _ (s : ℕ) (at_most : ℕ → ℕ → Bool) (a b : ℕ) where
  -- both are levels, and at most
  pub parts : (levels s a b && at_most a b) ≡ true → (a < s) × (b < s) × (at_most a b ≡ true)
  parts h =
      let outer = and_parts (levels s a b) (at_most a b) h in
      let inner = and_parts (nat_lt a s) (nat_lt b s) outer.0 in
      (ltb-true a s inner.0, ltb-true b s inner.1, outer.1)

  pub both : a < s → b < s → levels s a b ≡ true
  both ha hb = and_from (nat_lt a s) (nat_lt b s) (lt-ltb a s ha) (lt-ltb b s hb)

  pub put : a < s → b < s → at_most a b ≡ true → (levels s a b && at_most a b) ≡ true
  put ha hb h = and_from (levels s a b) (at_most a b) (both ha hb) h

  neither : (s ≤ a) ⊎ (s ≤ b) → levels s a b ≡ false
  neither = ⊎_elim (λ h. and_left (nat_lt a s) (nat_lt b s) (le-ltb a s h)) (λ h. and_right (nat_lt a s) (nat_lt b s) (le-ltb b s h))

module _ (s : ℕ) (at_most : ℕ → ℕ → Bool) (join meet : ℕ → ℕ → ℕ) (lowest highest : ℕ) where
  abbrev R : ℕ → ℕ → Bool
  R a b = levels s a b && at_most a b

  -- the value of an answer at two levels
  at_levels : (f : ℕ → ℕ → ℕ) (a b : ℕ) → a < s → b < s → f a b ≡ (if levels s a b then f a b else 0)
  at_levels f a b ha hb = sym (cond-true (levels s a b) (f a b) 0 (both s at_most a b ha hb))

  at_none : (f : ℕ → ℕ → ℕ) (a b : ℕ) → (s ≤ a) ⊎ (s ≤ b) → (if levels s a b then f a b else 0) ≡ 0
  at_none f a b h = cond-false (levels s a b) (f a b) 0 (neither s at_most a b h)

  -- a code and the value of an answer at two levels, either way round
  under : (f : ℕ → ℕ → ℕ) (c a b : ℕ) → c < s → a < s → b < s → f a b < s →
      at_most c (f a b) ≡ true → R c (if levels s a b then f a b else 0) ≡ true
  under f c a b hc ha hb level h = subst (λ x. R c x ≡ true) (at_levels f a b ha hb) (put s at_most c (f a b) hc level h)

  over : (f : ℕ → ℕ → ℕ) (c a b : ℕ) → c < s → a < s → b < s → f a b < s →
      at_most (f a b) c ≡ true → R (if levels s a b then f a b else 0) c ≡ true
  over f c a b hc ha hb level h = subst (λ x. R x c ≡ true) (at_levels f a b ha hb) (put s at_most (f a b) c level hc h)

  some_level : (x : ℕ) → 0 < s → x ≡ (if nat_lt 0 s then x else 0)
  some_level x h = sym (cond-true (nat_lt 0 s) x 0 (lt-ltb 0 s h))

  no_level : (x : ℕ) → s ≡ 0 → (if nat_lt 0 s then x else 0) ≡ 0
  no_level x h = cond-false (nat_lt 0 s) x 0 (le-ltb 0 s (omega arith))

  pub laws_among_levels : Sound s at_most join meet lowest highest → Laws (among_levels s at_most join meet lowest highest)
  laws_among_levels k = record {
    span_bound = k.bound;
    only_levels = λ a b h. ((parts s at_most a b h).0, (parts s at_most a b h).1);
    reflexive = λ a h. put s at_most a a h h (k.reflexive a h);
    transitive =
        λ a b c h i.
        let p = parts s at_most a b h in
        let q = parts s at_most b c i in
        put s at_most a c p.0 q.1 (k.transitive a b c p.0 p.1 q.1 p.2 q.2);
    antisymmetric =
        λ a b h i.
        let p = parts s at_most a b h in
        let q = parts s at_most b a i in
        k.antisymmetric a b p.0 p.1 p.2 q.2;
    join_left = λ a b ha hb. under join a a b ha ha hb (k.join_level a b ha hb) (k.join_left a b ha hb);
    join_right = λ a b ha hb. under join b a b hb ha hb (k.join_level a b ha hb) (k.join_right a b ha hb);
    join_least =
        λ a b c h i.
        let p = parts s at_most a c h in
        let q = parts s at_most b c i in
        over join c a b p.1 p.0 q.0 (k.join_level a b p.0 q.0) (k.join_least a b c p.0 q.0 p.1 p.2 q.2);
    meet_left = λ a b ha hb. over meet a a b ha ha hb (k.meet_level a b ha hb) (k.meet_left a b ha hb);
    meet_right = λ a b ha hb. over meet b a b hb ha hb (k.meet_level a b ha hb) (k.meet_right a b ha hb);
    meet_greatest =
        λ a b c h i.
        let p = parts s at_most c a h in
        let q = parts s at_most c b i in
        under meet c a b p.0 p.1 q.1 (k.meet_level a b p.1 q.1) (k.meet_greatest a b c p.1 q.1 p.0 p.2 q.2);
    join_outside = at_none join;
    meet_outside = at_none meet;
    lowest_least =
        λ a h.
        let some : 0 < s = omega arith in
        subst (λ x. R x a ≡ true) (some_level lowest some) (put s at_most lowest a (k.lowest_level some) h (k.lowest_least a h));
    highest_greatest =
        λ a h.
        let some : 0 < s = omega arith in
        subst (λ x. R a x ≡ true) (some_level highest some) (put s at_most a highest h (k.highest_level some) (k.highest_greatest a h));
    lowest_of_none = no_level lowest;
    highest_of_none = no_level highest;
  }
