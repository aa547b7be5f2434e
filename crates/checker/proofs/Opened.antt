-- The fault of a job that does not open names what is wrong first with the opening or the length, and whatever that is has a
-- fault. Assumes nothing.
use Rattle.std.proofs.Common.{◌≡◌, ℕ, ◌+◌, ◌*◌, ◌<◌, ◌≤◌, List, [], ◌∷◌, length, pos, cond, eqb, ltb, leb, Ok, Err, Result, refl, ap, subst, ◌∙◌, ⊎_elim, arith}
use Rattle.std.proofs.lemmas.Bool.{cases_lt, cases_eq, lt-ltb, le-ltb, le-leb, lt-leb, eq-eqb, ne_eqb, cond-true, cond-false}
use Rattle.job.specs.declared.field.Field.{Field}
use Rattle.job.specs.declared.field.Field.TheVariants.{Opening, Instructions, Places, Length}
use Rattle.job.specs.declared.fault.ReadFault.{ReadFault}
use Rattle.job.specs.declared.fault.ReadFault.TheVariants.{TooShort, WrongLength, NotBelow}
use Rattle.job.specs.declared.fault.RecordFault.{RecordFault}
use Rattle.job.specs.Layout.{Sizes, right_length, opening}
use Rattle.checker.specs.declared.fault.MountFault.TheVariants.{Record}
use Rattle.checker.specs.Faults.{byte, fault_answer}
use Rattle.checker.specs.WellClaimed.{Unopened, too_short, too_many_instructions, too_many_places, bytes_missing, bytes_too_many}

-- A fault names what is wrong first.
pub record Names (bytes : List ℕ) (x : RecordFault) : Type 0 where
  pub number : ℕ
  pub place : ℕ
  pub wrong : Unopened bytes number place
  pub is : fault_answer (Record x) ≡ (number, 0, byte place)

abbrev fault : Field → ReadFault → RecordFault
fault field what = record { field = field; fault = what }

-- A job opens, or has one fault.
module _ {r : Result Sizes RecordFault} where
  one_fault : {x y : RecordFault} → r ≡ Err x → r ≡ Err y → x ≡ y
  one_fault e f = cc

  opened_or_not : {s : Sizes} {x : RecordFault} {P : Type 0} → r ≡ Ok s → r ≡ Err x → P
  opened_or_not e f = cc

-- Four bytes and more.
module _ (n0 n1 d0 d1 : ℕ) (rest : List ℕ) where
  abbrev B : List ℕ
  B = n0 ∷ n1 ∷ d0 ∷ d1 ∷ rest

  abbrev n : ℕ
  n = n0 + n1 * 256

  abbrev d : ℕ
  d = d0 + d1 * 256

  abbrev F : ℕ
  F = 4 + length rest

  abbrev R : ℕ
  R = right_length n d

  abbrev OfLength : RecordFault
  OfLength = fault Length (WrongLength F R)

  -- of the sizes and the length, as far as the tests have come
  abbrev Sized : Result Sizes RecordFault
  Sized = Ok (record { instructions = n; places = d })

  abbrev OfPlaces : Result Sizes RecordFault
  OfPlaces = Err (fault Places (NotBelow 2 (pos d) 9))

  abbrev OfInstructions : Result Sizes RecordFault
  OfInstructions = Err (fault Instructions (NotBelow 0 (pos n) 129))

  opens_5 : 128 < n → opening B ≡ OfInstructions
  opens_5 h = cond-true (ltb 128 n) OfInstructions (cond (ltb 8 d) OfPlaces (cond (eqb F R) Sized (Err OfLength))) (lt-ltb 128 n h)

  past_5 : n ≤ 128 → opening B ≡ cond (ltb 8 d) OfPlaces (cond (eqb F R) Sized (Err OfLength))
  past_5 h = cond-false (ltb 128 n) OfInstructions (cond (ltb 8 d) OfPlaces (cond (eqb F R) Sized (Err OfLength))) (le-ltb 128 n h)

  opens_6 : n ≤ 128 → 8 < d → opening B ≡ OfPlaces
  opens_6 h k = past_5 h ∙ cond-true (ltb 8 d) OfPlaces (cond (eqb F R) Sized (Err OfLength)) (lt-ltb 8 d k)

  past_6 : n ≤ 128 → d ≤ 8 → opening B ≡ cond (eqb F R) Sized (Err OfLength)
  past_6 h k = past_5 h ∙ cond-false (ltb 8 d) OfPlaces (cond (eqb F R) Sized (Err OfLength)) (le-ltb 8 d k)

  opens_7 : n ≤ 128 → d ≤ 8 → (F ≡ R → ⊥) → opening B ≡ Err OfLength
  opens_7 h k ne = past_6 h k ∙ cond-false (eqb F R) Sized (Err OfLength) (ne_eqb F R ne)

  opens : n ≤ 128 → d ≤ 8 → F ≡ R → opening B ≡ Sized
  opens h k e = past_6 h k ∙ cond-true (eqb F R) Sized (Err OfLength) (eq-eqb F R e)

  -- the place of a wrong length
  missing : length B < R → fault_answer (Record OfLength) ≡ (7, 0, byte (length B))
  missing h =
      let all : F ≡ length B = omega arith in
      ap (λ place. (7, 0, byte place)) (cond-true (leb F R) F R (le-leb F R (omega (arith, h))) ∙ all)

  too_much : R < length B → fault_answer (Record OfLength) ≡ (7, 0, byte R)
  too_much h = ap (λ place. (7, 0, byte place)) (cond-false (leb F R) F R (lt-leb F R (omega (arith, h))))

  -- what the fault of such bytes names
  names_7 : n ≤ 128 → d ≤ 8 → (F ≡ R → ⊥) → Names B OfLength
  names_7 h k ne =
      ⊎_elim
      (λ (less : length B < R). record { number = 7; place = length B; wrong = bytes_missing (omega arith) h k less; is = missing less })
      (λ (more : R ≤ length B).
      let past : R < length B = omega (arith, more, ne) in
      record { number = 7; place = R; wrong = bytes_too_many (omega arith) h k past; is = too_much past })
      (cases_lt (length B) R)

  sized_names : (x : RecordFault) → opening B ≡ Err x → Names B x
  sized_names x e =
      ⊎_elim
      (λ (h : 128 < n).
      let same : fault Instructions (NotBelow 0 (pos n) 129) ≡ x = one_fault (opens_5 h) e in
      subst (Names B) same (record { number = 5; place = 0; wrong = too_many_instructions (omega arith) h; is = refl }))
      (λ (h : n ≤ 128).
      ⊎_elim
      (λ (k : 8 < d).
      let same : fault Places (NotBelow 2 (pos d) 9) ≡ x = one_fault (opens_6 h k) e in
      subst (Names B) same (record { number = 6; place = 2; wrong = too_many_places (omega arith) h k; is = refl }))
      (λ (k : d ≤ 8).
      ⊎_elim (λ (q : F ≡ R). opened_or_not (opens h k q) e)
      (λ (ne : F ≡ R → ⊥). subst (Names B) (one_fault (opens_7 h k ne) e) (names_7 h k ne))
      (cases_eq F R))
      (cases_lt 8 d))
      (cases_lt 128 n)

-- Fewer than four bytes.
short : (bytes : List ℕ) → length bytes < 4 → opening bytes ≡ Err (fault Opening (TooShort 0 (length bytes) 4))
short [] h = refl
short (a ∷ []) h = refl
short (a ∷ b ∷ []) h = refl
short (a ∷ b ∷ c ∷ []) h = refl
short (a ∷ b ∷ c ∷ d ∷ rest) h = absurd (omega (arith, h))

few : (bytes : List ℕ) → length bytes < 4 → (x : RecordFault) → opening bytes ≡ Err x → Names bytes x
few bytes h x e =
    let opened = short bytes h in
    let same : fault Opening (TooShort 0 (length bytes) 4) ≡ x = cc in
    subst (Names bytes) same (record { number = 4; place = 0; wrong = too_short h; is = refl })

pub is_unopened : (bytes : List ℕ) (x : RecordFault) → opening bytes ≡ Err x → Names bytes x
is_unopened (n0 ∷ n1 ∷ d0 ∷ d1 ∷ rest) x e = sized_names n0 n1 d0 d1 rest x e
is_unopened [] x e = few [] (omega arith) x e
is_unopened (a ∷ []) x e = few (a ∷ []) (omega arith) x e
is_unopened (a ∷ b ∷ []) x e = few (a ∷ b ∷ []) (omega arith) x e
is_unopened (a ∷ b ∷ c ∷ []) x e = few (a ∷ b ∷ c ∷ []) (omega arith) x e

-- Whatever is wrong first has a fault that names it.
pub unopened_named : (bytes : List ℕ) {number place : ℕ} → Unopened bytes number place →
    (x : RecordFault) × (opening bytes ≡ Err x) × (fault_answer (Record x) ≡ (number, 0, byte place))
unopened_named bytes (too_short h) = (fault Opening (TooShort 0 (length bytes) 4), short bytes h, refl)
unopened_named (n0 ∷ n1 ∷ d0 ∷ d1 ∷ rest) (too_many_instructions _ h) =
    (fault Instructions (NotBelow 0 (pos (n0 + n1 * 256)) 129), opens_5 n0 n1 d0 d1 rest h, refl)
unopened_named (n0 ∷ n1 ∷ d0 ∷ d1 ∷ rest) (too_many_places _ h k) =
    (fault Places (NotBelow 2 (pos (d0 + d1 * 256)) 9), opens_6 n0 n1 d0 d1 rest h k, refl)
unopened_named (n0 ∷ n1 ∷ d0 ∷ d1 ∷ rest) (bytes_missing _ h k less) =
    (OfLength n0 n1 d0 d1 rest, opens_7 n0 n1 d0 d1 rest h k (λ e. omega (arith, e, less)), missing n0 n1 d0 d1 rest less)
unopened_named (n0 ∷ n1 ∷ d0 ∷ d1 ∷ rest) (bytes_too_many _ h k more) =
    (OfLength n0 n1 d0 d1 rest, opens_7 n0 n1 d0 d1 rest h k (λ e. omega (arith, e, more)), too_much n0 n1 d0 d1 rest more)
unopened_named _ (too_many_instructions w h) = absurd (omega (arith, w))
unopened_named _ (too_many_places w h k) = absurd (omega (arith, w))
unopened_named _ (bytes_missing w h k less) = absurd (omega (arith, w))
unopened_named _ (bytes_too_many w h k more) = absurd (omega (arith, w))
