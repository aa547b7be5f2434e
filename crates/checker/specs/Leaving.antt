-- What leaves a claimed label: the stack after its instruction, in kinds and levels. Assumes nothing.
use Rattle.std.specs.Prelude.{◌≡◌, ℕ, Bool, true, false, ◌&&◌, List, [], ◌∷◌, map, Some, slice_index, slice_index_or}
use Rattle.lattice.specs.Order.{Order}
use Rattle.push.specs.declared.instruction.Instruction.{Instruction}
use Rattle.push.specs.declared.instruction.Instruction.TheVariants.{Load, Store, Push, Add, Sub, Eq, Less, Not, Goto, GotoF, Copy, Swap, Drop}
use Rattle.push.specs.declared.kind.Kind.{Kind}
use Rattle.push.specs.Language.{kinds_after}
use Rattle.job.specs.declared.claim.Place.{Place}
use Rattle.job.specs.declared.claim.Place.TheVariants.{IntegerAt, BooleanAt}
use Rattle.job.specs.Records.{Claimed, kind, level}

-- The level of a stack place, the top being 0.
abbrev pub level_at : List Place → ℕ → ℕ
level_at stack i = level (slice_index_or stack i (IntegerAt 0))

-- The level of a result: the join of two operands, or of one, with the surrounding level.
abbrev pub joined_two : Order → Claimed → ℕ
joined_two o c = o.join (o.join (level_at c.stack 0) (level_at c.stack 1)) c.surrounding

abbrev pub joined_one : Order → Claimed → ℕ
joined_one o c = o.join (level_at c.stack 0) c.surrounding

-- A place raised by a level: its own is joined with it.
abbrev pub raised_to : Order → ℕ → Place → Place
raised_to o g (IntegerAt l) = IntegerAt (o.join g l)
raised_to o g (BooleanAt l) = BooleanAt (o.join g l)

-- What an instruction makes of the claimed stack, over the levels of the variables. The last argument is that stack, c.stack,
-- so that a line can name its places. A branch raises the places that it leaves by the level of the boolean that it pops.
-- Of a stack that is too short nothing leaves.
abbrev pub places_after : Order → List ℕ → Claimed → Instruction → List Place → List Place
places_after o levels c (Load v) s = IntegerAt (o.join (slice_index levels v) c.surrounding) ∷ s
places_after o levels c (Store _) (_ ∷ s) = s
places_after o levels c (Push _) s = IntegerAt c.surrounding ∷ s
places_after o levels c Add (_ ∷ _ ∷ s) = IntegerAt (joined_two o c) ∷ s
places_after o levels c Sub (_ ∷ _ ∷ s) = IntegerAt (joined_two o c) ∷ s
places_after o levels c Eq (_ ∷ _ ∷ s) = BooleanAt (joined_two o c) ∷ s
places_after o levels c Less (_ ∷ _ ∷ s) = BooleanAt (joined_two o c) ∷ s
places_after o levels c Not (_ ∷ s) = BooleanAt (joined_one o c) ∷ s
places_after o levels c (Goto _) s = s
places_after o levels c (GotoF _ _) (_ ∷ s) = map (raised_to o (level_at c.stack 0)) s
places_after o levels c Copy (a ∷ s) = raised_to o c.surrounding a ∷ a ∷ s
places_after o levels c Swap (a ∷ b ∷ s) =
    raised_to o c.surrounding b ∷ raised_to o c.surrounding a ∷ s
places_after o levels c Drop (_ ∷ s) = s
places_after o levels c _ s = []

abbrev pub leaves : Order → List ℕ → Claimed → Instruction → List Place
leaves o levels c i = places_after o levels c i c.stack

-- What leaves has the kinds that the language says there are after the instruction.
abbrev pub LeavesTheKindsAfter : Type 0
LeavesTheKindsAfter =
    (o : Order) (levels : List ℕ) (c : Claimed) (i : Instruction) (ks : List Kind) →
    kinds_after i (map kind c.stack) ≡ Some ks → map kind (leaves o levels c i) ≡ ks

-- Each leaving place has the claimed kind, and a level at most the claimed one.
abbrev pub fits_under : Order → Place → Place → Bool
fits_under o (IntegerAt a) (IntegerAt b) = o.at_most a b
fits_under o (BooleanAt a) (BooleanAt b) = o.at_most a b
fits_under o _ _ = false

abbrev pub all_fit_under : Order → List Place → List Place → Bool
all_fit_under o [] [] = true
all_fit_under o (p ∷ ps) (q ∷ qs) = fits_under o p q && all_fit_under o ps qs
all_fit_under o _ _ = false
