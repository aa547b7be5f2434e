-- What leaves a label: kind by kind, and place by place. Assumes nothing.
use Rattle.std.proofs.Common.{◌≡◌, ℕ, suc, ◌+◌, ◌-◌, ◌<◌, ◌≤◌, Bool, true, false, ◌&&◌, List, [], ◌∷◌, ◌++◌, map, length, get_or, drop}
use Rattle.std.proofs.Common.{Some, refl, sym, ap, ◌∙◌, ap₂, arith}
use Rattle.std.proofs.lemmas.List.{drop_all, drop_more, length-append, length-map, get_or-append_right, get_or-map}
use Rattle.std.proofs.lemmas.Bool.{and_right}
use Rattle.std.proofs.lemmas.Option.{same_Some}
use Rattle.lattice.specs.Order.{Order}
use Rattle.push.specs.declared.instruction.Instruction.{Instruction}
use Rattle.push.specs.declared.instruction.Instruction.TheVariants.{Load, Store, Push, Add, Sub, Eq, Less, Not, Goto, GotoF, Copy, Swap, Drop}
use Rattle.push.specs.declared.kind.Kind.{Kind}
use Rattle.push.specs.declared.kind.Kind.TheVariants.{Integer, Boolean}
use Rattle.push.specs.Language.{one_more, for_two_integers, kinds_after}
use Rattle.job.specs.declared.claim.Place.{Place}
use Rattle.job.specs.declared.claim.Place.TheVariants.{IntegerAt, BooleanAt}
use Rattle.job.specs.Records.{Claimed, kind}
use Rattle.push.proofs.StackKindsFacts.{was_room}
use Rattle.checker.specs.Leaving.{level_at, raised_to, places_after, LeavesTheKindsAfter, fits_under, all_fit_under}
use Rattle.checker.specs.Keeping.{pushed_by, kept}

-- a kind more on top, where there was room for it
added : (k : Kind) (after before ks : List Kind) → after ≡ k ∷ before → one_more k before ≡ Some ks → after ≡ ks
added k after before ks e room = e ∙ sym (was_room k before ks (sym room)).0

raised_kind : (o : Order) (g : ℕ) (p : Place) → kind (raised_to o g p) ≡ kind p
raised_kind o g (IntegerAt l) = refl
raised_kind o g (BooleanAt l) = refl

raised_kinds : (o : Order) (g : ℕ) (s : List Place) → map kind (map (raised_to o g) s) ≡ map kind s
raised_kinds o g [] = refl
raised_kinds o g (p ∷ s) = ap₂ (λ k ks. k ∷ ks) (raised_kind o g p) (raised_kinds o g s)

-- a result in the place of two integers
of_two : (o : Order) (levels : List ℕ) (c : Claimed) (i : Instruction) (k : Kind) → ((ks : List Kind) → kinds_after i ks ≡ for_two_integers k ks) →
    ((a b : Place) (s : List Place) → map kind (places_after o levels c i (a ∷ b ∷ s)) ≡ k ∷ map kind s) →
    (s : List Place) (ks : List Kind) → kinds_after i (map kind s) ≡ Some ks → map kind (places_after o levels c i s) ≡ ks
of_two o levels c i k after left s ks e = by s (sym (after (map kind s)) ∙ e)
  where
    by : (s : List Place) → for_two_integers k (map kind s) ≡ Some ks → map kind (places_after o levels c i s) ≡ ks
    by [] e = cc
    by (BooleanAt a ∷ s) e = cc
    by (IntegerAt a ∷ []) e = cc
    by (IntegerAt a ∷ BooleanAt b ∷ s) e = cc
    by (IntegerAt a ∷ IntegerAt b ∷ s) e = left (IntegerAt a) (IntegerAt b) s ∙ same_Some _ ks e

-- what leaves has the kinds after, instruction by instruction
kinds_of_places : (o : Order) (levels : List ℕ) (c : Claimed) (i : Instruction) (s : List Place) (ks : List Kind) →
    kinds_after i (map kind s) ≡ Some ks → map kind (places_after o levels c i s) ≡ ks
kinds_of_places o levels c (Load v) s ks e = added Integer _ (map kind s) ks refl e
kinds_of_places o levels c (Store v) [] ks e = cc
kinds_of_places o levels c (Store v) (IntegerAt a ∷ s) ks e = same_Some _ ks e
kinds_of_places o levels c (Store v) (BooleanAt a ∷ s) ks e = cc
kinds_of_places o levels c (Push x) s ks e = added Integer _ (map kind s) ks refl e
kinds_of_places o levels c Add s ks e = of_two o levels c Add Integer (λ _. refl) (λ a b s. refl) s ks e
kinds_of_places o levels c Sub s ks e = of_two o levels c Sub Integer (λ _. refl) (λ a b s. refl) s ks e
kinds_of_places o levels c Eq s ks e = of_two o levels c Eq Boolean (λ _. refl) (λ a b s. refl) s ks e
kinds_of_places o levels c Less s ks e = of_two o levels c Less Boolean (λ _. refl) (λ a b s. refl) s ks e
kinds_of_places o levels c Not [] ks e = cc
kinds_of_places o levels c Not (IntegerAt a ∷ s) ks e = cc
kinds_of_places o levels c Not (BooleanAt a ∷ s) ks e = same_Some _ ks e
kinds_of_places o levels c (Goto m) s ks e = same_Some _ ks e
kinds_of_places o levels c (GotoF m j) [] ks e = cc
kinds_of_places o levels c (GotoF m j) (IntegerAt a ∷ s) ks e = cc
kinds_of_places o levels c (GotoF m j) (BooleanAt a ∷ s) ks e = raised_kinds o (level_at c.stack 0) s ∙ same_Some _ ks e
kinds_of_places o levels c Copy [] ks e = cc
kinds_of_places o levels c Copy (p ∷ s) ks e =
    added (kind p) _ (map kind (p ∷ s)) ks (ap (λ k. k ∷ map kind (p ∷ s)) (raised_kind o c.surrounding p)) e
kinds_of_places o levels c Swap [] ks e = cc
kinds_of_places o levels c Swap (p ∷ []) ks e = cc
kinds_of_places o levels c Swap (p ∷ q ∷ s) ks e =
    ap₂ (λ k l. k ∷ l ∷ map kind s) (raised_kind o c.surrounding q) (raised_kind o c.surrounding p) ∙ same_Some _ ks e
kinds_of_places o levels c Drop [] ks e = cc
kinds_of_places o levels c Drop (p ∷ s) ks e = same_Some _ ks e

pub leaves_the_kinds_after : LeavesTheKindsAfter
leaves_the_kinds_after o levels c i ks e = kinds_of_places o levels c i c.stack ks e

module _ (o : Order) where
  pub lengths_differ : (xs ys : List Place) → (length xs ≡ length ys → ⊥) → all_fit_under o xs ys ≡ false
  lengths_differ [] [] h = absurd (h refl)
  lengths_differ [] (y ∷ ys) h = refl
  lengths_differ (x ∷ xs) [] h = refl
  lengths_differ (x ∷ xs) (y ∷ ys) h = and_right (fits_under o x y) (all_fit_under o xs ys) (lengths_differ xs ys (λ e. h (ap suc e)))

  module _ (xs ys : List Place) (d : Place) where
    -- whether a place fits under the one that is as deep
    abbrev pub fits_at : ℕ → Bool
    fits_at i = fits_under o (get_or xs i d) (get_or ys i d)

    -- as far as all fit, the rest decides
    abbrev pub FitsAbove : ℕ → Type 0
    FitsAbove i = all_fit_under o xs ys ≡ all_fit_under o (drop i xs) (drop i ys)

    at_place : (i : ℕ) → i < length xs → i < length ys → FitsAbove i →
        all_fit_under o xs ys ≡ (fits_at i && all_fit_under o (drop (i + 1) xs) (drop (i + 1) ys))
    at_place i hx hy above = above ∙ ap₂ (all_fit_under o) (drop_more xs i d hx) (drop_more ys i d hy)

    pub one_more_fits : (i : ℕ) → i < length xs → i < length ys → FitsAbove i → fits_at i ≡ true → FitsAbove (i + 1)
    one_more_fits i hx hy above fits = at_place i hx hy above ∙ ap (λ b. b && all_fit_under o (drop (i + 1) xs) (drop (i + 1) ys)) fits

    pub one_does_not : (i : ℕ) → i < length xs → i < length ys → FitsAbove i → fits_at i ≡ false → all_fit_under o xs ys ≡ false
    one_does_not i hx hy above fits = at_place i hx hy above ∙ ap (λ b. b && all_fit_under o (drop (i + 1) xs) (drop (i + 1) ys)) fits

    pub all_fit : (i : ℕ) → length xs ≤ i → length ys ≤ i → FitsAbove i → all_fit_under o xs ys ≡ true
    all_fit i hx hy above = above ∙ ap₂ (all_fit_under o) (drop_all i xs hx) (drop_all i ys hy)

-- counted from the bottom, two stacks with the same places at the bottom agree on these
same_below : (new old s : List Place) (i : ℕ) (d : Place) → length new ≤ i →
    get_or (new ++ s) i d ≡ get_or (old ++ s) (i + length (old ++ s) - length (new ++ s)) d
same_below new old s i d h =
    let n = length-append new s in
    let o = length-append old s in
    get_or-append_right new s (length new) i d refl h
    ∙ ap (λ k. get_or s k d) (omega (arith, n, o, h))
    ∙ sym (get_or-append_right old s (length old) (i + length (old ++ s) - length (new ++ s)) d refl (omega (arith, n, o, h)))

-- the place under one more on top
under : (n k m : ℕ) → m ≡ k → suc n ≡ n + suc k - m
under n k m e = omega (arith, e)

-- Below what is pushed, each place stood as far from the bottom before; the last clause is for stacks that are too short.
kept_at : (o : Order) (levels : List ℕ) (c : Claimed) (i : Instruction) (s : List Place) (n : ℕ) (d : Place) →
    pushed_by i ≤ n → n < length (places_after o levels c i s) →
    get_or (places_after o levels c i s) n d ≡ kept o c i (get_or s (n + length s - length (places_after o levels c i s)) d)
kept_at o levels c (Load v) s n d h w = same_below (_ ∷ []) [] s n d h
kept_at o levels c (Store v) (a ∷ s) n d h w = same_below [] (a ∷ []) s n d h
kept_at o levels c (Push x) s n d h w = same_below (_ ∷ []) [] s n d h
kept_at o levels c Add (a ∷ b ∷ s) n d h w = same_below (_ ∷ []) (a ∷ b ∷ []) s n d h
kept_at o levels c Sub (a ∷ b ∷ s) n d h w = same_below (_ ∷ []) (a ∷ b ∷ []) s n d h
kept_at o levels c Eq (a ∷ b ∷ s) n d h w = same_below (_ ∷ []) (a ∷ b ∷ []) s n d h
kept_at o levels c Less (a ∷ b ∷ s) n d h w = same_below (_ ∷ []) (a ∷ b ∷ []) s n d h
kept_at o levels c Not (a ∷ s) n d h w = same_below (_ ∷ []) (a ∷ []) s n d h
kept_at o levels c (Goto m) s n d h w = same_below [] [] s n d h
kept_at o levels c (GotoF m j) (a ∷ s) n d h w =
    let raise = raised_to o (level_at c.stack 0) in
    let l = length-map s raise in
    get_or-map raise s n d d (omega (arith, l, w)) ∙ ap (λ k. raise (get_or (a ∷ s) k d)) (under n (length s) (length (map raise s)) l)
kept_at o levels c Copy (a ∷ s) n d h w = same_below (_ ∷ []) [] (a ∷ s) n d h
kept_at o levels c Swap (a ∷ b ∷ s) n d h w = same_below (_ ∷ _ ∷ []) (a ∷ b ∷ []) s n d h
kept_at o levels c Drop (a ∷ s) n d h w = same_below [] (a ∷ []) s n d h
kept_at o levels c i s n d h w = absurd (omega (arith, w))

-- the same by how many places are pushed and popped
pub kept_from : (o : Order) (levels : List ℕ) (c : Claimed) (i : Instruction) (s : List Place) (d : Place) (pushed popped n : ℕ) → pushed ≡ pushed_by i →
    length (places_after o levels c i s) + popped ≡ length s + pushed → pushed ≤ n → n < length (places_after o levels c i s) →
    get_or (places_after o levels c i s) n d ≡ kept o c i (get_or s (n + popped - pushed) d)
kept_from o levels c i s d pushed popped n is lengths h w =
    kept_at o levels c i s n d (omega (arith, is, h)) w
    ∙ ap (λ k. kept o c i (get_or s k d)) (omega (arith, is, lengths, h, w))
