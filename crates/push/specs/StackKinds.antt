-- The kinds of a stack, and how the machine's steps go by them. Assumes nothing.
use Rattle.std.specs.Prelude.{◌≡◌, ◌<◌, List, [], ◌∷◌, map, Some, None, Option, IfSome}
use Rattle.std.specs.Option.{option_map}
use Rattle.push.specs.declared.instruction.Instruction.{Instruction}
use Rattle.push.specs.declared.kind.Kind.{Kind}
use Rattle.push.specs.declared.kind.Kind.TheVariants.{Integer, Boolean}
use Rattle.push.specs.declared.value.Value.{Value}
use Rattle.push.specs.declared.value.Value.TheVariants.{Int, Flag}
use Rattle.push.specs.Code.{fetch}
use Rattle.push.specs.Language.{kinds_after, variable}
use Rattle.push.specs.Machine.{Machine, step}
use Rattle.push.specs.Run.{label_of, stack_of}

-- The top of a stack of kinds, and those under it; the top two, and those under them.
abbrev pub popped : List Kind → Option (Kind × List Kind)
popped [] = None
popped (k ∷ ks) = Some (k, ks)

abbrev pub popped_two : List Kind → Option (Kind × Kind × List Kind)
popped_two (k ∷ l ∷ ks) = Some (k, l, ks)
popped_two _ = None

-- The kinds of the values on a stack.
abbrev pub kind_of : Value → Kind
kind_of (Int _) = Integer
kind_of (Flag _) = Boolean

abbrev pub kinds_of : Machine → List Kind
kinds_of m = map kind_of (stack_of m)

-- Where an instruction names one of the 32 variables, or none, the machine makes a step at it exactly if there are kinds
-- after it on the kinds of the stack; and these are the kinds of the stack then.
abbrev pub StepsGoByKinds : Type 0
StepsGoByKinds =
    (code : List Instruction) (m : Machine) (i : Instruction) →
    fetch code (label_of m) ≡ Some i → IfSome (variable i) (λ v. v < 32) →
    option_map kinds_of (step code m) ≡ kinds_after i (kinds_of m)
