-- Values that agree on what is open to an observer: with themselves, by way of others, and after a write. Assumes nothing.
use Rattle.std.proofs.Common.{◌≡◌, ℕ, ◌<◌, Bool, true, false, eqb, List, length, get_or, set, ℤ, pos, sym, refl, ◌∙◌, subst, arith}
use Rattle.std.proofs.lemmas.List.{length-set, get_or-set_same, get_or-set_other}
use Rattle.std.proofs.lemmas.Bool.{eqb-true, eqb-false}
use Rattle.lattice.specs.Order.{Order}
use Rattle.checker.specs.Flow.{SameWhenOpen}

module _ {o : Order} {levels : List ℕ} {w : ℕ} where
  pub same_here : (vs : List ℤ) → length vs ≡ 32 → SameWhenOpen o levels w vs vs
  same_here vs h = record { left = h; right = h; agree = λ v hv low. refl }

  pub same_then : {us vs ws : List ℤ} → SameWhenOpen o levels w us vs → SameWhenOpen o levels w vs ws → SameWhenOpen o levels w us ws
  same_then p q = record { left = p.left; right = q.right; agree = λ v hv low. p.agree v hv low ∙ q.agree v hv low }

  pub same_back : {vs ws : List ℤ} → SameWhenOpen o levels w vs ws → SameWhenOpen o levels w ws vs
  same_back p = record { left = p.right; right = p.left; agree = λ v hv low. sym (p.agree v hv low) }

  -- two values written to one variable, equal where it is open
  pub written : (v : ℕ) (x y : ℤ) (vs ws : List ℤ) → v < 32 → (o.at_most (get_or levels v 0) w ≡ true → x ≡ y) → SameWhenOpen o levels w vs ws →
      SameWhenOpen o levels w (set vs v x) (set ws v y)
  written v x y vs ws small h same =
      record {
        left = length-set vs v x ∙ same.left;
        right = length-set ws v y ∙ same.right;
        agree = λ u hu low. at_variable u hu low (eqb u v) refl;
      }
    where
      at_variable : (u : ℕ) → u < 32 → o.at_most (get_or levels u 0) w ≡ true → (t : Bool) → eqb u v ≡ t →
          get_or (set vs v x) u (pos 0) ≡ get_or (set ws v y) u (pos 0)
      at_variable u hu low true e =
          let is = eqb-true u v e in
          subst (λ n. get_or (set vs v x) n (pos 0) ≡ get_or (set ws v y) n (pos 0)) (sym is)
          (get_or-set_same vs v x (pos 0) (omega (arith, same.left)) ∙ h (subst (λ n. o.at_most (get_or levels n 0) w ≡ true) is low)
          ∙ sym (get_or-set_same ws v y (pos 0) (omega (arith, same.right))))
      at_variable u hu low false e =
          let other = eqb-false u v e in get_or-set_other vs v u x (pos 0) other ∙ same.agree u hu low ∙ sym (get_or-set_other ws v u y (pos 0) other)
