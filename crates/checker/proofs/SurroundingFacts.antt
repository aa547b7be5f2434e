-- A table of surrounding levels that is filled label by label, and the labels that it is asked for. Assumes nothing.
use Rattle.std.proofs.Common.{◌≡◌, ℕ, ◌+◌, ◌<◌, List, length, set, get_or, Some, None, Option, sym, refl, ap, ◌∙◌, subst, ⊎_elim, arith}
use Rattle.std.proofs.lemmas.Bool.{cases_eq}
use Rattle.std.proofs.lemmas.List.{get_or-set_same, get_or-set_other}
use Rattle.std.specs.Option.{option_map}
use Rattle.job.specs.Views.{claimed}
use Rattle.job.specs.declared.claim.Claim.{Claim}
use Rattle.job.specs.declared.reader.Job.{Job}
use Rattle.checker.specs.Rules.{ProgramWithClaims, exit}
use Rattle.checker.specs.RegionList.{has}
use Rattle.checker.specs.Surrounding.{surrounding_of, SurroundingBelow, AllInside}
use Rattle.checker.proofs.RegionListFacts.{has_at}

pub holds_one_more : (job : ProgramWithClaims) (table : List (Option ℕ)) (n : ℕ) (level : Option ℕ) →
    SurroundingBelow job n table → n < length table → level ≡ surrounding_of job n → SurroundingBelow job (n + 1) (set table n level)
holds_one_more job table n level below within is label lt =
    ⊎_elim
    (λ (e : label ≡ n).
    subst (λ l. get_or (set table n level) l None ≡ surrounding_of job l) (sym e) (get_or-set_same table n level None within ∙ is))
    (λ (other : label ≡ n → ⊥). get_or-set_other table n label level None other ∙ below label (omega (arith, lt, other)))
    (cases_eq label n)

-- what a claim surrounds is what the job says that it does
pub surrounding_claimed : (job : Job) (claim : Option Claim) → option_map (λ c. c.surrounding) claim ≡ option_map (λ c. c.surrounding) (claimed job claim)
surrounding_claimed job None = refl
surrounding_claimed job (Some claim) = refl

-- the label at a place of a list whose labels are all below the exit
pub listed_inside : (job : ProgramWithClaims) (labels items : List ℕ) (i : ℕ) → AllInside job labels → items ≡ labels → i < length items →
    get_or items i 0 < exit job
listed_inside job labels items i inside same within =
    inside (get_or items i 0) (ap (λ ls. has ls (get_or items i 0)) (sym same) ∙ has_at items i within)
