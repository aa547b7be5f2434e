-- A search judges if it finds nothing exactly where all is kept, and else what is broken. So does the first of two, and the
-- first of those at the labels below n. Assumes nothing.
use Rattle.std.proofs.Common.{◌≡◌, ℕ, ◌<◌, ◌≤◌, ◌⊎◌, Some, None, Option, refl, subst, inl, inr, ⊎_elim, arith}
use Rattle.std.specs.Option.{option_or, option_map}
use Rattle.job.specs.First.{first_below}
use Rattle.job.proofs.FirstFacts.{Clear, Found, none_below, first_found, search_first}
use Rattle.checker.specs.Faults.{Cause, Answered}
use Rattle.checker.specs.WellClaimed.{Below}

-- What is broken, by number, label and cause.
abbrev pub Breaks : Type 1
Breaks = ℕ → ℕ → Cause → Type 0

-- Either nothing is found, and all is kept, or what is found answers what is broken.
pub data Outcome {A : Type 0} (answer : A → Answered) (Kept : Type 0) (Broken : Breaks) : Option A → Type 0 where
  kept : Kept → Outcome answer Kept Broken None
  broken : {x : A} → Broken (answer x).0 (answer x).1 (answer x).2 → Outcome answer Kept Broken (Some x)

-- Whatever is broken is found.
abbrev pub Named : {A : Type 0} → (A → Answered) → Option A → Breaks → Type 0
Named {A = A} answer found Broken = (a m : ℕ) (k : Cause) → Broken a m k → (x : A) × (found ≡ Some x) × (answer x ≡ (a, m, k))

-- And nothing is found wherever all is kept.
pub record Judges {A : Type 0} (answer : A → Answered) (found : Option A) (Kept : Type 0) (Broken : Breaks) : Type 0 where
  pub outcome : Outcome answer Kept Broken found
  pub none : Kept → found ≡ None
  pub some : Named answer found Broken

module _ {A : Type 0} {answer : A → Answered} {K : Type 0} {B : Breaks} where
  pub was_kept : {found : Option A} → Outcome answer K B found → found ≡ None → K
  was_kept (kept h) e = h
  was_kept (broken h) e = cc

  was_broken : {found : Option A} → Outcome answer K B found → (x : A) → found ≡ Some x → B (answer x).0 (answer x).1 (answer x).2
  was_broken (kept h) x e = cc
  was_broken (broken {x = y} h) x e = let same : y ≡ x = cc in subst (λ z. B (answer z).0 (answer z).1 (answer z).2) same h

  pub either : {found : Option A} → Outcome answer K B found →
      ((found ≡ None) × K) ⊎ ((x : A) × (found ≡ Some x) × B (answer x).0 (answer x).1 (answer x).2)
  either (kept h) = inl (refl, h)
  either (broken {x = x} h) = inr (x, refl, h)

  pub changed : {found : Option A} {L : Type 0} {C : Breaks} → Outcome answer K B found → (K → L) → ((a m : ℕ) (k : Cause) → B a m k → C a m k) →
      Outcome answer L C found
  changed (kept h) f g = kept (f h)
  changed (broken h) f g = broken (g _ _ _ h)

  -- by other words for what is kept and for what is broken
  pub reworded : {found : Option A} {L : Type 0} {C : Breaks} → Judges answer found K B → (K → L) → (L → K) →
      ((a m : ℕ) (k : Cause) → B a m k → C a m k) → ((a m : ℕ) (k : Cause) → C a m k → B a m k) → Judges answer found L C
  reworded j f g p q = record { outcome = changed j.outcome f p; none = λ h. j.none (g h); some = λ a m k h. j.some a m k (q a m k h) }

  pub finds_nothing : K → ((a m : ℕ) (k : Cause) → B a m k → ⊥) → Judges answer None K B
  finds_nothing h f = record { outcome = kept h; none = λ _. refl; some = λ a m k b. absurd (f a m k b) }

-- The first of two.
abbrev pub Either : Breaks → Type 0 → Breaks → Breaks
Either B K C a m k = B a m k ⊎ (K × C a m k)

module _ {A : Type 0} {answer : A → Answered} {K L : Type 0} {B C : Breaks} where
  or_outcome : {x y : Option A} → Outcome answer K B x → Outcome answer L C y → Outcome answer (K × L) (Either B K C) (option_or x y)
  or_outcome (broken h) w = broken (inl h)
  or_outcome (kept h) (broken k) = broken (inr (h, k))
  or_outcome (kept h) (kept k) = kept (h, k)

  pub or_judged : {x y : Option A} → Judges answer x K B → Judges answer y L C → Judges answer (option_or x y) (K × L) (Either B K C)
  or_judged v w =
      record {
        outcome = or_outcome v.outcome w.outcome;
        none = λ h. rw (v.none h.0) (w.none h.1);
        some = λ a m k.
            ⊎_elim (λ h. let s = v.some a m k h in (s.0, rw s.1, s.2)) (λ h. let s = w.some a m k h.1 in (s.0, rw (v.none h.0) s.1, s.2));
      }

-- What is found is handed up.
module _ {A E : Type 0} (wrap : A → E) (answer : E → Answered) {K : Type 0} {B : Breaks} where
  map_outcome : {x : Option A} → Outcome (λ y. answer (wrap y)) K B x → Outcome answer K B (option_map wrap x)
  map_outcome (kept h) = kept h
  map_outcome (broken h) = broken h

  pub map_judged : {x : Option A} → Judges (λ y. answer (wrap y)) x K B → Judges answer (option_map wrap x) K B
  map_judged v =
      record {
        outcome = map_outcome v.outcome;
        none = λ h. rw (v.none h);
        some = λ a m k h. let s = v.some a m k h in (wrap s.0, rw s.1, s.2);
      }

-- What is broken at one label.
pub data At (label : ℕ) (P : ℕ → Cause → Type 0) : ℕ → ℕ → Cause → Type 0 where
  at : {a : ℕ} {k : Cause} → P a k → At label P a label k

pub from_at : {label : ℕ} {P : ℕ → Cause → Type 0} (C : Breaks) → ((a : ℕ) (k : Cause) → P a k → C a label k) → (a m : ℕ) (k : Cause) →
    At label P a m k → C a m k
from_at C f _ _ _ (at b) = f _ _ b

-- And at the first label below n.
pub record First (n : ℕ) (K : ℕ → Type 0) (B : Breaks) (a m : ℕ) (k : Cause) : Type 0 where
  pub within : m < n
  pub before : Below m K
  pub here : B a m k

module _ {A : Type 0} {answer : A → Answered} {K : ℕ → Type 0} {B : Breaks} (f : ℕ → Option A) (n : ℕ)
    (each : (l : ℕ) → l < n → Judges answer (f l) (K l) (At l (λ a k. B a l k))) where
  all_kept : (m : ℕ) → m ≤ n → ((l : ℕ) → l < m → f l ≡ None) → Below m K
  all_kept m w h l v = was_kept (each l (omega arith)).outcome (h l v)

  none_found : (m : ℕ) → m ≤ n → Below m K → first_below f m ≡ None
  none_found m w h = none_below f m (λ l v. (each l (omega arith)).none (h l v))

  first_outcome : Outcome answer (Below n K) (First n K B) (first_below f n)
  first_outcome =
      ⊎_elim (λ (c : Clear f n). rw c.is (kept (all_kept n (omega arith) c.all)))
      (λ (c : Found f n).
      let here = was_broken (each c.label c.within).outcome c.found c.some in
      let before = all_kept c.label (omega (arith, c.within)) c.before in
      rw c.is (broken (from_at (First n K B) (λ a k b. record { within = c.within; before = before; here = b }) _ _ _ here)))
      (search_first f n)

  pub first_judged : Judges answer (first_below f n) (Below n K) (First n K B)
  first_judged =
      record {
        outcome = first_outcome;
        none = none_found n (omega arith);
        some = λ a m k h.
            let s = (each m h.within).some a m k (at h.here) in
            (s.0, first_found f m n s.0 (none_found m (omega (arith, h.within)) h.before) s.1 h.within, s.2);
      }
