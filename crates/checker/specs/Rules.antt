-- The rules that the claim of a label must meet, each by a name that says what it asks. Assumes nothing.
use Rattle.std.specs.Prelude.{ℕ, Bool, true, false, if◌then◌else◌, not, List, [], ◌∷◌, length, is_some, Some, None, Option, option_and_then, ◌==◌, slice_index}
use Rattle.std.specs.List.{find}
use Rattle.std.specs.Option.{option_or, option_map}
use Rattle.lattice.specs.Order.{Order}
use Rattle.push.specs.declared.instruction.Instruction.{Instruction}
use Rattle.push.specs.declared.instruction.Instruction.TheVariants.{Store}
use Rattle.push.specs.Code.{fetch}
use Rattle.push.specs.Language.{kinds_after, successors}
use Rattle.job.specs.declared.claim.Place.{Place}
use Rattle.job.specs.Records.{Claimed, stack_kinds}
use Rattle.checker.specs.declared.fault.Rule.{Rule}
use Rattle.checker.specs.declared.fault.Rule.TheVariants.{Stack, Store as BrokenStore, Successor}
use Rattle.checker.specs.Leaving.{joined_one, leaves, all_fit_under}

-- A job as the rules see it: the instructions, and the claims of the labels that have one.
pub record ProgramWithClaims : Type 0 where
  pub code : List Instruction
  pub claim : ℕ → Option Claimed

abbrev pub exit : ProgramWithClaims → ℕ
exit job = length job.code

-- A stack of the claimed depth and kinds does not fault: it has kinds, and there are kinds after the instruction on them.
abbrev pub fits_its_stack : Claimed → Instruction → Bool
fits_its_stack c i = is_some (option_and_then (kinds_after i) (stack_kinds c.stack))

-- What is stored goes to a variable whose level is at least that of the top joined with the surrounding one. A store to a
-- lower variable names that variable.
abbrev pub lowered_variable : Order → List ℕ → Claimed → Instruction → Option ℕ
lowered_variable o levels c (Store v) =
    if o.at_most (joined_one o c) (slice_index levels v) then None else Some v
lowered_variable o levels c _ = None

-- A label takes what leaves another: the exit only an empty stack, any other by its claim.
abbrev pub is_empty : List Place → Bool
is_empty [] = true
is_empty (_ ∷ _) = false

abbrev pub claim_takes : Order → List Place → Option Claimed → Bool
claim_takes o stack None = false
claim_takes o stack (Some c) = all_fit_under o stack c.stack

abbrev pub takes : Order → ProgramWithClaims → List Place → ℕ → Bool
takes o job stack label =
    if label == exit job then is_empty stack else claim_takes o stack (job.claim label)

-- The first successor that does not take what leaves.
abbrev pub first_refusing : Order → List ℕ → ProgramWithClaims → ℕ → Claimed → Instruction → Option ℕ
first_refusing o levels job label c i =
    find (λ next. not (takes o job (leaves o levels c i) next)) (successors i label)

-- The first rule that a claimed label breaks.
abbrev pub rule_at : Order → List ℕ → ProgramWithClaims → ℕ → Claimed → Instruction → Option Rule
rule_at o levels job label c i =
    if not (fits_its_stack c i) then Some (Stack label)
    else option_or (option_map (BrokenStore label) (lowered_variable o levels c i))
    (option_map (Successor label) (first_refusing o levels job label c i))

-- A rule of the labels that have a claim and an instruction.
abbrev pub where_claimed :
    (Claimed → Instruction → Option Rule) → Option Claimed → Option Instruction → Option Rule
where_claimed rule (Some c) (Some i) = rule c i
where_claimed rule _ _ = None

abbrev pub label_rule : Order → List ℕ → ProgramWithClaims → ℕ → Option Rule
label_rule o levels job label =
    where_claimed (rule_at o levels job label) (job.claim label) (fetch job.code label)
