-- The levels of the variables are 32 levels, where there are levels: of a new controller, and after each grade. Assumes
-- the laws of the order for a new one.
use Rattle.std.proofs.Common.{◌≡◌, ℕ, ◌<◌, Bool, true, false, eqb, List, get_or, set, replicate, sym, refl, subst, ◌∙◌, arith}
use lib.ListN.{length-replicate}
use Rattle.std.proofs.lemmas.List.{length-set, get_or-set_same, get_or-set_other, get_or-replicate}
use Rattle.std.proofs.lemmas.Bool.{eqb-true, eqb-false}
use Rattle.lattice.specs.Order.{Order, Laws}
use Rattle.controller.specs.State.{ThirtyTwoLevels}

pub highest_graded : (o : Order) → Laws o → ThirtyTwoLevels o (replicate 32 o.highest)
highest_graded o laws =
    record {
      sized = length-replicate 32 o.highest;
      are_levels = λ some v small.
          subst (λ level. level < o.span) (sym (get_or-replicate 32 v o.highest 0 small)) (laws.only_levels 0 o.highest (laws.highest_greatest 0 some)).1;
    }

pub regraded : (o : Order) (levels : List ℕ) (v l : ℕ) → ThirtyTwoLevels o levels → v < 32 → l < o.span → ThirtyTwoLevels o (set levels v l)
regraded o levels v l g small level =
    record { sized = length-set levels v l ∙ g.sized; are_levels = λ some u hu. at_variable u hu (eqb u v) refl }
  where
    at_variable : (u : ℕ) → u < 32 → (t : Bool) → eqb u v ≡ t → get_or (set levels v l) u 0 < o.span
    at_variable u hu true e =
        subst (λ n. get_or (set levels v l) n 0 < o.span) (sym (eqb-true u v e))
        (subst (λ x. x < o.span) (sym (get_or-set_same levels v l 0 (omega (arith, g.sized)))) level)
    at_variable u hu false e =
        subst (λ x. x < o.span) (sym (get_or-set_other levels v u l 0 (eqb-false u v e))) (g.are_levels (omega arith) u hu)
