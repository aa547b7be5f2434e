-- A table, case by case. Assumes nothing.
use Rattle.std.proofs.Common.{◌≡◌, ℕ, zero, suc, ◌+◌, ◌*◌, ◌<◌, ◌≤◌, Bool, true, false, cond, List, [], ◌∷◌, length, get_or, take, drop, Some, None, sym, refl, ap, ◌∙◌, ap₂, ⊎_elim, arith, length-drop, drop-drop}
use Rattle.std.proofs.lemmas.List.{get_or-take}
use Rattle.std.proofs.lemmas.Option.{none-some, cond_some}
use Rattle.std.proofs.lemmas.Bool.{cases_Bool, cond-true, cond-false, le-leb, lt-leb, leb-true}
use Rattle.conformance.specs.Table.{Trial, input_length, expected_length, size, first_case, has_case, after_case, next_case, split_within, cases, left_over}

pub reads_none : (t : List ℕ) → length t < size t → None ≡ next_case t
unfolding next_case
reads_none t short = sym (cond-false (has_case t) (Some (first_case t, after_case t)) None (lt-leb (size t) (length t) short))

-- A length stands in two of the first four bytes.
pub length_read : (t lengths : List ℕ) (at n : ℕ) → at + 1 < 4 → lengths ≡ take 4 t → n ≡ get_or lengths at 0 + get_or lengths (at + 1) 0 * 256 →
    n ≡ get_or t at 0 + get_or t (at + 1) 0 * 256
length_read t lengths at n within front read =
    let low = ap (λ f. get_or f at 0) front in
    let high = ap (λ f. get_or f (at + 1) 0) front in
    omega (arith, read, low, high, get_or-take 4 t at 0 (omega arith), get_or-take 4 t (at + 1) 0 (omega arith))

-- Two cuts behind the lengths give the first case and what comes after it.
pub reads_whole : (t body input expected middle rest : List ℕ) (n m : ℕ) → size t ≤ length t → n ≡ input_length t → m ≡ expected_length t → body ≡ drop 4 t →
    input ≡ take n body → middle ≡ drop n body → expected ≡ take m middle → rest ≡ drop m middle → Some ((input, expected), rest) ≡ next_case t
unfolding next_case
reads_whole t body input expected middle rest n m long is_n is_m is_body is_input is_middle is_expected is_rest =
    let first : input ≡ take (input_length t) (drop 4 t) = is_input ∙ ap₂ take is_n is_body in
    let seam : middle ≡ drop (4 + input_length t) t = is_middle ∙ ap₂ drop is_n is_body ∙ drop-drop (input_length t) 4 t in
    let second : expected ≡ take (expected_length t) (drop (4 + input_length t) t) = is_expected ∙ ap₂ take is_m seam in
    let last : rest ≡ after_case t = is_rest ∙ ap₂ drop is_m seam ∙ drop-drop (expected_length t) (4 + input_length t) t in
    let whole : has_case t ≡ true = le-leb (size t) (length t) long in
    (λ i. Some ((first i, second i), last i)) ∙ sym (cond-true (has_case t) (Some (first_case t, after_case t)) None whole)

none_cond : {X : Type 0} (b : Bool) (y : X) → None ≡ cond b (Some y) None → b ≡ false
none_cond true y e = absurd (none-some y e)
none_cond false y e = refl

pub was_some : (t : List ℕ) (trial : Trial) (rest : List ℕ) → Some (trial, rest) ≡ next_case t →
    (has_case t ≡ true) × (trial ≡ first_case t) × (rest ≡ after_case t)
unfolding next_case
was_some t trial rest e =
    let told = cond_some (has_case t) (first_case t, after_case t) (trial, rest) (sym e) in
    (told.0, ap (λ p. p.0) (sym told.1), ap (λ p. p.1) (sym told.1))

pub was_none : (t : List ℕ) → None ≡ next_case t → has_case t ≡ false
unfolding next_case
was_none t e = none_cond (has_case t) (first_case t, after_case t) e

-- A case takes four bytes at least.
pub after_shorter : (t : List ℕ) → has_case t ≡ true → length (after_case t) + 4 ≤ length t
after_shorter t h =
    let long : size t ≤ length t = leb-true (size t) (length t) h in
    rw (length-drop (size t) t) (omega arith)

split_none : (n : ℕ) (t : List ℕ) → has_case t ≡ false → split_within n t ≡ ([], t)
unfolding split_within
split_none zero t h = refl
split_none (suc n) t h = cond-false (has_case t) _ ([], t) h

split_some : (n : ℕ) (t : List ℕ) → has_case t ≡ true →
    split_within (suc n) t ≡ (first_case t ∷ (split_within n (after_case t)).0, (split_within n (after_case t)).1)
unfolding split_within
split_some n t h = cond-true (has_case t) _ ([], t) h

empty_none : (t : List ℕ) → length t ≤ 0 → has_case t ≡ false
empty_none t h = lt-leb (size t) (length t) (omega arith)

-- More turns than bytes change nothing.
enough : (n m : ℕ) (t : List ℕ) → length t ≤ n → length t ≤ m → split_within n t ≡ split_within m t
enough zero m t h k = split_none zero t (empty_none t h) ∙ sym (split_none m t (empty_none t h))
enough (suc n) zero t h k = split_none (suc n) t (empty_none t k) ∙ sym (split_none zero t (empty_none t k))
enough (suc n) (suc m) t h k =
    ⊎_elim
    (λ (whole : has_case t ≡ true).
    let shorter = after_shorter t whole in
    split_some n t whole
    ∙ ap (λ (s : List Trial × List ℕ). (first_case t ∷ s.0, s.1)) (enough n m (after_case t) (omega arith) (omega arith))
    ∙ sym (split_some m t whole))
    (λ (none : has_case t ≡ false). split_none (suc n) t none ∙ sym (split_none (suc m) t none)) (cases_Bool (has_case t))

split_more : (t : List ℕ) → has_case t ≡ true → split_within (length t) t ≡ (first_case t ∷ cases (after_case t), left_over (after_case t))
split_more t whole =
    let shorter = after_shorter t whole in
    enough (length t) (suc (length t)) t (omega arith) (omega arith) ∙ split_some (length t) t whole
    ∙ ap (λ (s : List Trial × List ℕ). (first_case t ∷ s.0, s.1)) (enough (length t) (length (after_case t)) (after_case t) (omega arith) (omega arith))

pub cases_more : (t : List ℕ) → has_case t ≡ true → cases t ≡ first_case t ∷ cases (after_case t)
cases_more t whole = ap (λ s. s.0) (split_more t whole)

pub left_more : (t : List ℕ) → has_case t ≡ true → left_over t ≡ left_over (after_case t)
left_more t whole = ap (λ s. s.1) (split_more t whole)

pub cases_none : (t : List ℕ) → has_case t ≡ false → cases t ≡ []
cases_none t none = ap (λ s. s.0) (split_none (length t) t none)

pub left_none : (t : List ℕ) → has_case t ≡ false → left_over t ≡ t
left_none t none = ap (λ s. s.1) (split_none (length t) t none)

few : (n : ℕ) (t : List ℕ) → 4 * length (split_within n t).0 ≤ length t
unfolding split_within
few zero t = omega arith
few (suc n) t =
    ⊎_elim
    (λ (whole : has_case t ≡ true).
    let less = few n (after_case t) in
    let shorter = after_shorter t whole in
    rw (split_some n t whole) (omega arith))
    (λ (none : has_case t ≡ false). rw (split_none (suc n) t none) (omega arith)) (cases_Bool (has_case t))

pub cases_few : (t : List ℕ) → 4 * length (cases t) ≤ length t
cases_few t = few (length t) t
