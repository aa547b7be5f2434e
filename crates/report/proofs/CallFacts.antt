-- What iterators give, and the calls for an input as a chain of them gives these. Assumes nothing.
use Rattle.std.proofs.Common.{◌≡◌, ℕ, List, [], ◌∷◌, ◌++◌, map, append_assoc, Option, Result, Ok, Err, IfOk, vec_items, Vec, ap, ◌∙◌, subst}
use lib.ListN.{length-map}
use Rattle.std.specs.Array.Iter.{array_into_iter_items, array_steps}
use Rattle.std.specs.declared.array.IntoIter.{IntoIter}
use Rattle.std.specs.Iterator.{AlwaysYields}
use Rattle.std.proofs.lemmas.Iterator.{YieldsList, IsCollectResult, items_from_drains}
use Rattle.std.proofs.lemmas.Iterator.Consumers.{YieldsList-from_shown}
use Rattle.controller.specs.Lists.{Call, grade, seal, mount, set, start, advance, end, show}
use Rattle.report.specs.Input.{each, level, value, observer, budget, calls, job as job_of}

pub from_array : {A B : Type 0} (v : A → B) {n : ℕ} (s : IntoIter A n) (xs : List A) → array_into_iter_items s ≡ xs →
    YieldsList (array_steps {A = A} {n = n}) v s (map v xs)
from_array {A} v {n} s xs e =
    let items : IntoIter A n → List A = array_into_iter_items in
    subst (λ ys. YieldsList (array_steps {A = A} {n = n}) v s (map v ys)) e
    (YieldsList-from_shown (array_steps {A = A} {n = n}) v (λ t. map v (items t)) (λ t u h. length-map (items t) v ∙ h.0) (λ t x u h. ap (map v) h) s)

pub from_collect : {S A B Z E : Type 0} {steps : S → Option A → S → Type 0} {v : A → B} {s : S} {all : List B} (r : Result (Vec A Z) E) (wanted : List B) →
    IsCollectResult steps s r → all ≡ wanted → YieldsList steps v s all → IfOk r (λ w. map v (vec_items w) ≡ wanted)
from_collect {v = v} (Ok w) wanted (xs, drained, items) same yields = ap (map v) items.0 ∙ items_from_drains xs drained yields ∙ same
from_collect (Err e) wanted ran same yields = tt

-- what w reads of the items that come
always_viewed : {S A B C : Type 0} (steps : S → Option A → S → Type 0) (v : A → B) (w : B → C) (xs : List B) (s : S) → AlwaysYields steps v s xs →
    AlwaysYields steps (λ x. w (v x)) s (map w xs)
always_viewed steps v w [] s all = all
always_viewed steps v w (x ∷ xs) s all = (all.0, λ y t step. let next = all.1 y t step in (ap w next.0, always_viewed steps v w xs t next.1))

pub viewed : {S A B C : Type 0} {steps : S → Option A → S → Type 0} {v : A → B} {s : S} {xs : List B} (w : B → C) → YieldsList steps v s xs →
    YieldsList steps (λ x. w (v x)) s (map w xs)
viewed {steps = steps} {v = v} {s = s} {xs = xs} w all = record { runs = always_viewed steps v w xs s all.runs }

-- The calls of one run and a show.
abbrev pub run_calls : ℕ → ℕ → List Call
run_calls limit w = start ∷ advance limit ∷ end ∷ show w 160 ∷ []

-- The parts of the chain are the whole list.
pub all_parts : (bytes job : List ℕ) (limit w : ℕ) → job ≡ job_of bytes → limit ≡ budget bytes → w ≡ observer bytes →
    ((each (λ v. grade v (level bytes v)) ++ (seal ∷ mount job ∷ [])) ++ each (λ v. set v (value bytes v))) ++ run_calls limit w ≡ calls bytes
all_parts bytes job limit w j l o =
    (λ i. ((each (λ v. grade v (level bytes v)) ++ (seal ∷ mount (j i) ∷ [])) ++ each (λ v. set v (value bytes v))) ++ run_calls (l i) (o i))
    ∙ simp append_assoc
