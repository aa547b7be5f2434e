-- The span and at_most of a lawful order decide its other four answers. Assumes nothing.
use Rattle.std.proofs.Common.{◌≡◌, ℕ, ◌<◌, ◌≤◌, true, ◌⊎◌, sym, ◌∙◌, inl, inr, ⊎_elim, arith}
use Rattle.std.proofs.lemmas.Bool.{cases_lt}
use Rattle.lattice.specs.Order.{Order, Laws}
use Rattle.lattice.specs.Kinds.{flip}
use Rattle.lattice.specs.FlipLaws.{flip_laws}
use Rattle.lattice.specs.Levels.{lowest_level}
use Rattle.lattice.specs.Meaning.{SpanAndAtMostDecide}

module _ (o p : Order) (lo : Laws o) (lp : Laws p) (spans : o.span ≡ p.span) (orders : (a b : ℕ) → o.at_most a b ≡ p.at_most a b) where
  there : {a : ℕ} → a < o.span → a < p.span
  there h = rw spans at h

  outside : {a b : ℕ} → (o.span ≤ a) ⊎ (o.span ≤ b) → (p.span ≤ a) ⊎ (p.span ≤ b)
  outside h = rw spans at h

  back : (a b : ℕ) → p.at_most a b ≡ true → o.at_most a b ≡ true
  back a b h = orders a b ∙ h

  over : (a b : ℕ) → o.at_most a b ≡ true → p.at_most a b ≡ true
  over a b h = sym (orders a b) ∙ h

  -- two levels that are at most each other, one by either order
  same : (a b : ℕ) → o.at_most a b ≡ true → p.at_most b a ≡ true → a ≡ b
  same a b h k = lo.antisymmetric a b h (back b a k)

  join_same : (a b : ℕ) → o.join a b ≡ p.join a b
  join_same a b =
      ⊎_elim
      (λ (ha : a < o.span).
      ⊎_elim
      (λ (hb : b < o.span).
      same (o.join a b) (p.join a b)
      (lo.join_least a b (p.join a b)
      (back a (p.join a b) (lp.join_left a b (there ha) (there hb))) (back b (p.join a b) (lp.join_right a b (there ha) (there hb))))
      (lp.join_least a b (o.join a b) (over a (o.join a b) (lo.join_left a b ha hb)) (over b (o.join a b) (lo.join_right a b ha hb))))
      (λ (hb : o.span ≤ b). lo.join_outside a b (inr hb) ∙ sym (lp.join_outside a b (outside (inr hb))))
      (cases_lt b o.span))
      (λ (ha : o.span ≤ a). lo.join_outside a b (inl ha) ∙ sym (lp.join_outside a b (outside (inl ha))))
      (cases_lt a o.span)

  none : o.span ≤ 0 → p.span ≡ 0
  none h = sym spans ∙ omega arith

  lowest_same : o.lowest ≡ p.lowest
  lowest_same =
      ⊎_elim
      (λ (h : 0 < o.span).
      let mine : o.lowest < o.span = lowest_level o lo h in
      let other : p.lowest < o.span = rw (← spans) at (lowest_level p lp (there h)) in
      same o.lowest p.lowest (lo.lowest_least p.lowest other) (lp.lowest_least o.lowest (there mine)))
      (λ (h : o.span ≤ 0). lo.lowest_of_none (omega arith) ∙ sym (lp.lowest_of_none (none h)))
      (cases_lt 0 o.span)

pub decided : SpanAndAtMostDecide
decided o p lo lp spans orders =
    let turned = λ (a b : ℕ). orders b a in
    record {
      span = spans;
      at_most = orders;
      join = join_same o p lo lp spans orders;
      meet = join_same (flip o) (flip p) (flip_laws o lo) (flip_laws p lp) spans turned;
      lowest = lowest_same o p lo lp spans orders;
      highest = lowest_same (flip o) (flip p) (flip_laws o lo) (flip_laws p lp) spans turned;
    }
