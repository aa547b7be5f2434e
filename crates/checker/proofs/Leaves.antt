-- What each instruction makes of claimed places, and that a kept label does so. A branch raises nothing here: what is
-- well claimed with raised places is so without. Assumes the laws of the order.
use Rattle.std.proofs.Common.{◌≡◌, ℕ, ◌<◌, true, List, [], ◌∷◌, map, length, get_or, ℤ, Some, sym, refl, subst}
use lib.ListN.{length-map}
use Rattle.lattice.specs.Order.{Order, Laws}
use Rattle.push.specs.declared.instruction.Instruction.{Instruction}
use Rattle.push.specs.declared.instruction.Instruction.TheVariants.{Load, Store, Push, Add, Sub, Eq, Less, Not, Goto, GotoF, Copy, Swap, Drop}
use Rattle.push.specs.declared.kind.Kind.{Kind}
use Rattle.push.specs.declared.kind.Kind.TheVariants.{Integer}
use Rattle.push.specs.Language.{one_more}
use Rattle.job.specs.declared.claim.Place.{Place}
use Rattle.job.specs.declared.claim.Place.TheVariants.{IntegerAt, BooleanAt}
use Rattle.job.specs.Records.{Claimed, kind}
use Rattle.push.proofs.StackKindsFacts.{was_room}
use Rattle.checker.specs.Leaving.{leaves, raised_to}
use Rattle.checker.specs.Rules.{ProgramWithClaims}
use Rattle.checker.specs.WellClaimed.{FitsItsStack, StoresUpward, Under, none, integer, boolean, Takes, at_exit, by_claim}
use Rattle.checker.proofs.SoundFacts as sound
use Rattle.checker.proofs.SoundFacts.{Sound, Levels}

pub data Leaves (o : Order) (levels : List ℕ) (p : ℕ) : Instruction → List Place → List Place → Type 0 where
  load : {v : ℕ} {ps : List Place} → v < 32 → length ps < 8 → Leaves o levels p (Load v) ps (IntegerAt (o.join (get_or levels v 0) p) ∷ ps)
  store : {v a : ℕ} {ps : List Place} → v < 32 → o.at_most (o.join a p) (get_or levels v 0) ≡ true → Leaves o levels p (Store v) (IntegerAt a ∷ ps) ps
  push : {x : ℤ} {ps : List Place} → length ps < 8 → Leaves o levels p (Push x) ps (IntegerAt p ∷ ps)
  add : {a b : ℕ} {ps : List Place} → Leaves o levels p Add (IntegerAt a ∷ IntegerAt b ∷ ps) (IntegerAt (o.join (o.join a b) p) ∷ ps)
  sub : {a b : ℕ} {ps : List Place} → Leaves o levels p Sub (IntegerAt a ∷ IntegerAt b ∷ ps) (IntegerAt (o.join (o.join a b) p) ∷ ps)
  eq : {a b : ℕ} {ps : List Place} → Leaves o levels p Eq (IntegerAt a ∷ IntegerAt b ∷ ps) (BooleanAt (o.join (o.join a b) p) ∷ ps)
  less : {a b : ℕ} {ps : List Place} → Leaves o levels p Less (IntegerAt a ∷ IntegerAt b ∷ ps) (BooleanAt (o.join (o.join a b) p) ∷ ps)
  not : {a : ℕ} {ps : List Place} → Leaves o levels p Not (BooleanAt a ∷ ps) (BooleanAt (o.join a p) ∷ ps)
  goto : {m : ℕ} {ps : List Place} → Leaves o levels p (Goto m) ps ps
  gotof : {m j g : ℕ} {ps : List Place} → Leaves o levels p (GotoF m j) (BooleanAt g ∷ ps) ps
  copy : {q : Place} {ps : List Place} → length (q ∷ ps) < 8 → Leaves o levels p Copy (q ∷ ps) (raised_to o p q ∷ q ∷ ps)
  swap : {q r : Place} {ps : List Place} → Leaves o levels p Swap (q ∷ r ∷ ps) (raised_to o p r ∷ raised_to o p q ∷ ps)
  drop : {q : Place} {ps : List Place} → Leaves o levels p Drop (q ∷ ps) ps

-- where one more kind fits, a place was free
room : (k : Kind) (ps : List Place) (after : List Kind) → one_more k (map kind ps) ≡ Some after → length ps < 8
room k ps after e = subst (λ n. n < 8) (length-map ps kind) (was_room k (map kind ps) after (sym e)).1

-- what is under raised places is under the places themselves
module _ (o : Order) (laws : Laws o) where
  above : (g a b : ℕ) → g < o.span → a < o.span → o.at_most (o.join g a) b ≡ true → o.at_most a b ≡ true
  above g a b hg ha h = laws.transitive a (o.join g a) b (laws.join_right g a hg ha) h

  unraised : (g : ℕ) (ps qs : List Place) → g < o.span → Levels o ps → Under o (map (raised_to o g) ps) qs → Under o ps qs
  unraised g [] [] hg ls none = none
  unraised g (IntegerAt a ∷ ps) (IntegerAt b ∷ qs) hg (sound.more ha ls) (integer h u) = integer (above g a b hg ha h) (unraised g ps qs hg ls u)
  unraised g (BooleanAt a ∷ ps) (BooleanAt b ∷ qs) hg (sound.more ha ls) (boolean h u) = boolean (above g a b hg ha h) (unraised g ps qs hg ls u)
  unraised g _ _ hg ls u = elim u [ ]

  emptied : (g : ℕ) (ps : List Place) → map (raised_to o g) ps ≡ [] → ps ≡ []
  emptied g [] e = refl
  emptied g (p ∷ ps) e = cc

  -- What leaves a kept label, and is taken by whatever takes the stack that the rules speak of.
  pub record LeftBy (levels : List ℕ) (job : ProgramWithClaims) (c : Claimed) (i : Instruction) : Type 0 where
    pub places : List Place
    pub left : Leaves o levels c.surrounding i c.stack places
    pub taken : (next : ℕ) → Takes o job (leaves o levels c i) next → Takes o job places next

  module _ (levels : List ℕ) (job : ProgramWithClaims) (exit p : ℕ) where
    abbrev claim_of : List Place → Claimed
    claim_of ps = record { surrounding = p; stack = ps }

    -- what takes raised places takes the places themselves
    without : (g : ℕ) (ps : List Place) → g < o.span → Levels o ps → (next : ℕ) → Takes o job (map (raised_to o g) ps) next → Takes o job ps next
    without g ps hg ls next (at_exit e none_left) = at_exit e (emptied g ps none_left)
    without g ps hg ls next (by_claim {c} other has u) = by_claim other has (unraised g ps c.stack hg ls u)

    -- the line of the table itself
    listed : {ps : List Place} {i : Instruction} → Leaves o levels p i ps (leaves o levels (claim_of ps) i) → LeftBy levels job (claim_of ps) i
    listed left = record { places = _; left = left; taken = λ next t. t }

    -- the last clause is for the stacks on which the instruction would fault
    pub kept_leaves : (ps : List Place) (i : Instruction) → Sound exit i → Levels o ps → FitsItsStack (claim_of ps) i →
        StoresUpward o levels (claim_of ps) i → LeftBy levels job (claim_of ps) i
    kept_leaves ps (Load v) (sound.load small) ls f st = listed (load small (room Integer ps f.after f.runs))
    kept_leaves (IntegerAt a ∷ ps) (Store v) (sound.store small) ls f st = listed (store small (st v refl))
    kept_leaves ps (Push x) h ls f st = listed (push (room Integer ps f.after f.runs))
    kept_leaves (IntegerAt a ∷ IntegerAt b ∷ ps) Add h ls f st = listed add
    kept_leaves (IntegerAt a ∷ IntegerAt b ∷ ps) Sub h ls f st = listed sub
    kept_leaves (IntegerAt a ∷ IntegerAt b ∷ ps) Eq h ls f st = listed eq
    kept_leaves (IntegerAt a ∷ IntegerAt b ∷ ps) Less h ls f st = listed less
    kept_leaves (BooleanAt a ∷ ps) Not h ls f st = listed not
    kept_leaves ps (Goto m) h ls f st = listed goto
    kept_leaves (BooleanAt g ∷ ps) (GotoF m j) h (sound.more hg ls) f st = record { places = ps; left = gotof; taken = without g ps hg ls }
    kept_leaves (q ∷ ps) Copy h ls f st = listed (copy (room (kind q) (q ∷ ps) f.after f.runs))
    kept_leaves (q ∷ r ∷ ps) Swap h ls f st = listed swap
    kept_leaves (q ∷ ps) Drop h ls f st = listed drop
    kept_leaves ps i h ls f st = cc
