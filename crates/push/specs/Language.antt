-- The language: what each instruction asks of the stack and makes of it, and where it can go. Assumes nothing.
use Rattle.std.specs.Prelude.{ℕ, ◌+◌, Bool, true, false, List, [], ◌∷◌, ◌++◌, length, Some, None, Option, nat_lt, option_to_list, if◌then◌else◌}
use Rattle.push.specs.declared.instruction.Instruction.{Instruction}
use Rattle.push.specs.declared.instruction.Instruction.TheVariants.{Load, Store, Push, Add, Sub, Eq, Less, Not, Goto, GotoF, Copy, Swap, Drop}
use Rattle.push.specs.declared.kind.Kind.{Kind}
use Rattle.push.specs.declared.kind.Kind.TheVariants.{Integer, Boolean}

-- One more kind on top, where a place is free; and a kind in the place of two integers.
abbrev pub one_more : Kind → List Kind → Option (List Kind)
one_more k ks = if nat_lt (length ks) 8 then Some (k ∷ ks) else None

abbrev pub for_two_integers : Kind → List Kind → Option (List Kind)
for_two_integers k (Integer ∷ Integer ∷ ks) = Some (k ∷ ks)
for_two_integers k _ = None

-- The kinds after an instruction on a stack of kinds, top first; none where it would fault.
abbrev pub kinds_after : Instruction → List Kind → Option (List Kind)
kinds_after (Load _) ks = one_more Integer ks
kinds_after (Store _) (Integer ∷ ks) = Some ks
kinds_after (Push _) ks = one_more Integer ks
kinds_after Add ks = for_two_integers Integer ks
kinds_after Sub ks = for_two_integers Integer ks
kinds_after Eq ks = for_two_integers Boolean ks
kinds_after Less ks = for_two_integers Boolean ks
kinds_after Not (Boolean ∷ ks) = Some (Boolean ∷ ks)
kinds_after (Goto _) ks = Some ks
kinds_after (GotoF _ _) (Boolean ∷ ks) = Some ks
kinds_after Copy (k ∷ ks) = one_more k (k ∷ ks)
kinds_after Swap (k ∷ l ∷ ks) = Some (l ∷ k ∷ ks)
kinds_after Drop (k ∷ ks) = Some ks
kinds_after _ _ = None

-- The variable that an instruction names.
abbrev pub variable : Instruction → Option ℕ
variable (Load v) = Some v
variable (Store v) = Some v
variable _ = None

-- Whether it can go on to the next label.
abbrev pub falls_through : Instruction → Bool
falls_through (Goto _) = false
falls_through _ = true

-- The label that it can jump to.
abbrev pub target : Instruction → Option ℕ
target (Goto m) = Some m
target (GotoF m _) = Some m
target _ = None

-- Where it can go from a label: to the next one, and to its target.
abbrev pub successors : Instruction → ℕ → List ℕ
successors i label =
    (if falls_through i then (label + 1) ∷ [] else []) ++ option_to_list (target i)
