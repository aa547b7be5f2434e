-- The kinds of a stack, kind by kind, and how the machine's steps go by them. Assumes nothing.
use Rattle.std.specs.Prelude.{if◌then◌else◌, nat_lt, IfSome}
use Rattle.std.specs.Option.{option_map}
use Rattle.std.proofs.Common.{◌≡◌, ℕ, zero, suc, ◌+◌, ◌-◌, ◌*◌, ◌/◌, ◌%◌, ◌<◌, ◌≤◌, Bool, true, false, List, [], ◌∷◌, map, length, ℤ, Some, None, refl, ap, ◌∙◌, arith}
use Rattle.std.proofs.lemmas.Bool.{ltb-true, ltb-false, lt-ltb, cond-true}
use Rattle.std.proofs.lemmas.List.{length-map}
use denote.Enum.Bare.{sameb}
use mir.Val.{bool_byte}
use Rattle.push.specs.contracts.kind.Kind.{the_type}
use Rattle.push.specs.declared.instruction.Instruction.{Instruction}
use Rattle.push.specs.declared.instruction.Instruction.TheVariants.{Load, Store, Push, Add, Sub, Eq, Less, Not, Goto, GotoF, Copy, Swap, Drop}
use Rattle.push.specs.declared.kind.Kind.{Kind}
use Rattle.push.specs.declared.kind.Kind.TheVariants.{Integer, Boolean}
use Rattle.push.specs.declared.value.Value.{Value}
use Rattle.push.specs.declared.value.Value.TheVariants.{Int, Flag}
use Rattle.push.specs.Language.{one_more, kinds_after, variable}
use Rattle.push.specs.Machine.{at, pushed, perform}
use Rattle.push.specs.StackBits.{kind_of_bit, bit_of_kind, kinds_in}
use Rattle.push.specs.StackKinds.{kind_of, kinds_of, StepsGoByKinds}

-- a bit more is a kind more on top
pub pushed_bit : (depth bits : ℕ) (k : Kind) → kinds_in (suc depth) (bits * 2 + bit_of_kind k) ≡ k ∷ kinds_in depth bits
pushed_bit depth bits Integer =
    let half : (bits * 2 + 0) / 2 ≡ bits = omega arith in
    let last : (bits * 2 + 0) % 2 ≡ 0 = omega arith in
    rw (last, half) refl
pushed_bit depth bits Boolean =
    let half : (bits * 2 + 1) / 2 ≡ bits = omega arith in
    let last : (bits * 2 + 1) % 2 ≡ 1 = omega arith in
    rw (last, half) refl

-- the top and the places under it, bit by bit
pub popped_bit : (depth bits : ℕ) → (depth ≡ 0 → ⊥) → kinds_in depth bits ≡ kind_of_bit (bits % 2) ∷ kinds_in (depth - 1) (bits / 2)
popped_bit zero bits some = absurd (some refl)
popped_bit (suc depth) bits some = let one_less : suc depth - 1 ≡ depth = omega arith in rw one_less refl

-- a test for a boolean gives its bit
pub boolean_bit : (k : Kind) → bool_byte (sameb the_type k Boolean) ≡ bit_of_kind k
boolean_bit Integer = refl
boolean_bit Boolean = refl

-- one more kind, where a place is free
pub one_more_fits : (k : Kind) (ks : List Kind) → length ks < 8 → one_more k ks ≡ Some (k ∷ ks)
one_more_fits k ks h = cond-true (nat_lt (length ks) 8) _ _ (lt-ltb (length ks) 8 h)

-- a kind more on top says that a place was free, and none that there was no place
pub was_room : (k : Kind) (ks after : List Kind) → Some after ≡ one_more k ks → (after ≡ k ∷ ks) × (length ks < 8)
was_room k ks after e = by (nat_lt (length ks) 8) refl e
  where
    by : (b : Bool) → nat_lt (length ks) 8 ≡ b → Some after ≡ (if b then Some (k ∷ ks) else None) → (after ≡ k ∷ ks) × (length ks < 8)
    by true room e = (cc, ltb-true (length ks) 8 room)
    by false full e = cc

pub was_full : (k : Kind) (ks : List Kind) → None ≡ one_more k ks → 8 ≤ length ks
was_full k ks e = by (nat_lt (length ks) 8) refl e
  where
    by : (b : Bool) → nat_lt (length ks) 8 ≡ b → None ≡ (if b then Some (k ∷ ks) else None) → 8 ≤ length ks
    by true room e = cc
    by false full e = ltb-false (length ks) 8 full

-- a value more, where a place is free
pushed_kind : (x : Value) (l : ℕ) (s : List Value) (vs : List ℤ) → option_map kinds_of (pushed x l s vs) ≡ one_more (kind_of x) (map kind_of s)
pushed_kind x l s vs = by (nat_lt (length s) 8) refl
  where
    by : (b : Bool) → nat_lt (length s) 8 ≡ b → option_map kinds_of (pushed x l s vs) ≡ one_more (kind_of x) (map kind_of s)
    by true e = rw (length-map s kind_of, e) refl
    by false e = rw (length-map s kind_of, e) refl

performed : (i : Instruction) (l : ℕ) (s : List Value) (vs : List ℤ) → IfSome (variable i) (λ v. v < 32) →
    option_map kinds_of (perform (Some i) l s vs) ≡ kinds_after i (map kind_of s)
performed (Load v) l s vs h = ap (option_map kinds_of) (cond-true (nat_lt v 32) _ _ (lt-ltb v 32 h)) ∙ pushed_kind (Int _) l s vs
performed (Store v) l [] vs h = refl
performed (Store v) l (Flag b ∷ s) vs h = refl
performed (Store v) l (Int t ∷ s) vs h = ap (option_map kinds_of) (cond-true (nat_lt v 32) _ _ (lt-ltb v 32 h))
performed (Push x) l s vs h = pushed_kind (Int x) l s vs
performed Add l [] vs h = refl
performed Add l (Flag b ∷ s) vs h = refl
performed Add l (Int t ∷ []) vs h = refl
performed Add l (Int t ∷ Flag b ∷ s) vs h = refl
performed Add l (Int t ∷ Int u ∷ s) vs h = refl
performed Sub l [] vs h = refl
performed Sub l (Flag b ∷ s) vs h = refl
performed Sub l (Int t ∷ []) vs h = refl
performed Sub l (Int t ∷ Flag b ∷ s) vs h = refl
performed Sub l (Int t ∷ Int u ∷ s) vs h = refl
performed Eq l [] vs h = refl
performed Eq l (Flag b ∷ s) vs h = refl
performed Eq l (Int t ∷ []) vs h = refl
performed Eq l (Int t ∷ Flag b ∷ s) vs h = refl
performed Eq l (Int t ∷ Int u ∷ s) vs h = refl
performed Less l [] vs h = refl
performed Less l (Flag b ∷ s) vs h = refl
performed Less l (Int t ∷ []) vs h = refl
performed Less l (Int t ∷ Flag b ∷ s) vs h = refl
performed Less l (Int t ∷ Int u ∷ s) vs h = refl
performed Not l [] vs h = refl
performed Not l (Int t ∷ s) vs h = refl
performed Not l (Flag b ∷ s) vs h = refl
performed (Goto m) l s vs h = refl
performed (GotoF m j) l [] vs h = refl
performed (GotoF m j) l (Int t ∷ s) vs h = refl
performed (GotoF m j) l (Flag b ∷ s) vs h = refl
performed Copy l [] vs h = refl
performed Copy l (t ∷ s) vs h = pushed_kind t l (t ∷ s) vs
performed Swap l [] vs h = refl
performed Swap l (t ∷ []) vs h = refl
performed Swap l (t ∷ u ∷ s) vs h = refl
performed Drop l [] vs h = refl
performed Drop l (t ∷ s) vs h = refl

pub steps_go_by_kinds : StepsGoByKinds
steps_go_by_kinds code (at l s vs) i e h = ap (λ j. option_map kinds_of (perform j l s vs)) e ∙ performed i l s vs h
