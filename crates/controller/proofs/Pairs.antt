-- Two alike lists on controllers of their own show an observer the same. Assumes the laws of the order.
use Rattle.std.proofs.Common.{◌≡◌, ℕ, zero, suc, ◌+◌, ◌*◌, ◌<◌, ◌≤◌, Bool, true, false, cond, ltb, List, [], ◌∷◌, ◌++◌, map, length, get_or, take, drop, set, replicate, ℤ, pos, Some, None, Option, sym, refl, ap, ◌∙◌, subst, ap₂, arith}
use lib.ListN.{length-replicate}
use Rattle.std.proofs.lemmas.List.{take_at, drop_at}
use Rattle.std.proofs.lemmas.Bool.{true≢false, false≢true, eqb-true, ltb-true, eq-eqb}
use Rattle.std.specs.List.{zip, flat_map}
use Rattle.lattice.specs.Order.{Order, Laws}
use Rattle.push.specs.declared.instruction.Instruction.{Instruction}
use Rattle.push.specs.Machine.{Machine, at}
use Rattle.push.specs.Run.{RunState, Steps, is_halted, label_of, values_of}
use Rattle.job.specs.Layout.{opening}
use Rattle.checker.specs.declared.fault.MountFault.{MountFault}
use Rattle.checker.specs.Verdict.{first_fault, decoded_code}
use Rattle.checker.specs.Flow.{SameWhenOpen}
use Rattle.checker.proofs.OpenFacts.{same_here, written}
use Rattle.controller.specs.State.{SetupState, ReadyState, RunningState, Safe, mounted_state}
use Rattle.controller.specs.Sheet.{line, lines_below, open_count, shown_over}
use Rattle.controller.specs.Lists as lists
use Rattle.controller.specs.Lists.{Call, grade, seal, mount, read, show, start, advance, end, unseal, Answer, not_allowed, State, in_setup, is_ready, is_running, Outcome, allowed, disallowed, setup_call, ready_call, running_call, outcome, sheet_shown, transcript_from, transcript}
use Rattle.controller.specs.Theorem as theorem
use Rattle.controller.specs.Theorem.{shows_to, sheet_in, sheets, show_answers, differing, differing_bytes, end_in, ends, state_after, Alike, ClosedValuesStayClosed}
use Rattle.controller.proofs.ListFacts.{rest_of}
use Rattle.controller.proofs.Kept.{Good, run_of, UnderWay, GoodOutcome, good_allowed, stays_good, new_is_good}

-- What an observer sees of two states that agree on what is open to it is the same sheet.
module _ (o : Order) (w : ℕ) (levels : List ℕ) (vs ws : List ℤ) (alike : SameWhenOpen o levels w vs ws) where
  same_lines : (n : ℕ) → n ≤ 32 → lines_below o levels vs w n ≡ lines_below o levels ws w n
  unfolding lines_below
  same_lines zero h = refl
  same_lines (suc n) h =
      ap₂ (λ (front : List ℕ) (back : List ℕ). front ++ back) (same_lines n (omega arith)) (by (o.at_most (get_or levels n 0) w) refl)
    where
      by : (t : Bool) → o.at_most (get_or levels n 0) w ≡ t → cond t (line n (get_or vs n (pos 0))) [] ≡ cond t (line n (get_or ws n (pos 0))) []
      by true e = ap (line n) (alike.agree n (omega arith) e)
      by false e = refl

  same_sheet : (buffer : List ℕ) → shown_over o levels vs w buffer ≡ shown_over o levels ws w buffer
  same_sheet buffer =
      let count = open_count o levels w in
      let out : List ℕ → (ℕ × ℕ) × List ℕ =
      λ lines. cond (ltb w o.span) (cond (ltb (length buffer) (5 * count)) ((3, 0), buffer) ((0, count), lines ++ drop (5 * count) buffer)) ((2, 0), buffer)
      in
      ap out (same_lines 32 (omega arith))

module _ (o : Order) (laws : Laws o) (w : ℕ) where
  -- Two states alike for the observer.
  data Related : State → State → Type 0 where
    same_setup : {levels : List ℕ} → Related (in_setup (record { lattice = o; levels = levels })) (in_setup (record { lattice = o; levels = levels }))
    same_ready :
        {levels : List ℕ} {vs ws : List ℤ} {program : List Instruction} → SameWhenOpen o levels w vs ws →
        Related (is_ready (record { lattice = o; levels = levels; values = vs; program = program }))
        (is_ready (record { lattice = o; levels = levels; values = ws; program = program }))
    same_running :
        {levels : List ℕ} {vs ws : List ℤ} {program : List Instruction} {r q : RunState} → SameWhenOpen o levels w vs ws →
        Related (is_running (record { lattice = o; levels = levels; remembered = vs; program = program; run = r }))
        (is_running (record { lattice = o; levels = levels; remembered = ws; program = program; run = q }))

  -- What two alike calls come to.
  data Paired (c : Call) : Outcome → Outcome → Type 0 where
    both_disallowed : Paired c disallowed disallowed
    both_allowed :
        {a b : Answer} {s t : State} → (shows_to w c ≡ true → a ≡ b) → length (end_in a) ≡ length (end_in b) → (end_in a ≡ end_in b → Related s t) →
        Paired c (allowed a s) (allowed b t)

  no_show : {X : Type 0} → false ≡ true → X
  no_show e = absurd (false≢true e)

  setup_paired : (levels : List ℕ) → (c : Call) →
      Paired c (setup_call (record { lattice = o; levels = levels }) c) (setup_call (record { lattice = o; levels = levels }) c)
  setup_paired levels (grade v l) = by (ltb v 32) (ltb l o.span)
    where
      s : SetupState Order
      s = record { lattice = o; levels = levels }

      out : Bool → Bool → ℕ × SetupState Order
      out known level = cond known (cond level (0, record s { levels = set levels v l }) (2, s)) (1, s)

      Same : Bool → Bool → Type 0
      Same known level =
          let is : Outcome = allowed (lists.graded (out known level).0) (in_setup (out known level).1) in
          Paired (grade v l) is is

      by : (known level : Bool) → Same known level
      by true true = both_allowed no_show refl (λ _. same_setup)
      by true false = both_allowed no_show refl (λ _. same_setup)
      by false level = both_allowed no_show refl (λ _. same_setup)
  setup_paired levels seal = both_allowed no_show refl (λ _. same_ready (same_here (replicate 32 (pos 0)) (length-replicate 32 (pos 0))))
  setup_paired levels _ = both_disallowed

  module _ (levels : List ℕ) (vs ws : List ℤ) (program : List Instruction) (alike : SameWhenOpen o levels w vs ws) where
    abbrev ready_on : List ℤ → ReadyState Order
    ready_on values = record { lattice = o; levels = levels; values = values; program = program }

    set_paired : (v : ℕ) (x y : ℤ) → (v < 32 → o.at_most (get_or levels v 0) w ≡ true → x ≡ y) →
        Paired (lists.set v x) (ready_call (ready_on vs) (lists.set v x)) (ready_call (ready_on ws) (lists.set v y))
    set_paired v x y h = by (ltb v 32) refl
      where
        out : List ℤ → ℤ → Bool → ℕ × ReadyState Order
        out values z known = cond known (0, record (ready_on values) { values = set values v z }) (1, ready_on values)

        by : (known : Bool) → ltb v 32 ≡ known →
            Paired (lists.set v x) (allowed (lists.was_set (out vs x known).0) (is_ready (out vs x known).1))
            (allowed (lists.was_set (out ws y known).0) (is_ready (out ws y known).1))
        by true e = both_allowed no_show refl (λ _. same_ready (written v x y vs ws (ltb-true v 32 e) (h (ltb-true v 32 e)) alike))
        by false e = both_allowed no_show refl (λ _. same_ready alike)

    mount_paired : (bytes : List ℕ) → Paired (mount bytes) (ready_call (ready_on vs) (mount bytes)) (ready_call (ready_on ws) (mount bytes))
    mount_paired bytes = by (first_fault o levels bytes)
      where
        left : List ℤ → Option MountFault → ReadyState Order
        left values found = mounted_state (ready_on values) found (decoded_code bytes (opening bytes))

        by : (found : Option MountFault) →
            Paired (mount bytes) (allowed (lists.mounted found) (is_ready (left vs found))) (allowed (lists.mounted found) (is_ready (left ws found)))
        by None = both_allowed no_show refl (λ _. same_ready alike)
        by (Some fault) = both_allowed no_show refl (λ _. same_ready alike)

    show_paired : (other long : ℕ) → Paired (show other long) (ready_call (ready_on vs) (show other long)) (ready_call (ready_on ws) (show other long))
    show_paired other long =
        let buffer : List ℕ = replicate long 0 in
        let Same : ℕ → Type 0 = λ x. shown_over o levels vs x buffer ≡ shown_over o levels ws x buffer in
        both_allowed (λ e. ap sheet_shown (subst Same (sym (eqb-true other w e)) (same_sheet o w levels vs ws alike buffer))) refl
        (λ _. same_ready alike)

    ready_paired : (c : Call) → Paired c (ready_call (ready_on vs) c) (ready_call (ready_on ws) c)
    ready_paired (mount bytes) = mount_paired bytes
    ready_paired (lists.set v x) = set_paired v x x (λ _ _. refl)
    ready_paired (read v) = both_allowed no_show refl (λ _. same_ready alike)
    ready_paired (show other long) = show_paired other long
    ready_paired start = both_allowed no_show refl (λ _. same_running alike)
    ready_paired unseal = both_allowed no_show refl (λ _. same_setup)
    ready_paired _ = both_disallowed

    module _ (r q : RunState) (safe : Safe o levels program) (way : UnderWay program vs r) (way' : UnderWay program ws q) where
      abbrev running_on : List ℤ → RunState → RunningState Order
      running_on values s = record { lattice = o; levels = levels; remembered = values; program = program; run = s }

      -- two halted runs of a safe program
      both_kept : is_halted r.status ≡ true → is_halted q.status ≡ true → SameWhenOpen o levels w (values_of r.machine) (values_of q.machine)
      both_kept halted halted' =
          by r.machine q.machine way.reached way'.reached (eqb-true _ _ (sym way.honest.halted_at_the_exit ∙ halted))
          (eqb-true _ _ (sym way'.honest.halted_at_the_exit ∙ halted'))
        where
          by : (m n : Machine) → Steps program way.count (at 0 [] vs) m → Steps program way'.count (at 0 [] ws) n →
              label_of m ≡ length program → label_of n ≡ length program → SameWhenOpen o levels w (values_of m) (values_of n)
          by (at l s vs') (at l' t ws') left right e e' =
              safe.keeps_closed w vs ws alike way.count way'.count s t vs' ws' (subst (λ x. Steps program way.count (at 0 [] vs) (at x s vs')) e left)
              (subst (λ x. Steps program way'.count (at 0 [] ws) (at x t ws')) e' right)

      end_paired : Paired end (running_call (running_on vs r) end) (running_call (running_on ws q) end)
      end_paired = by (is_halted r.status) (is_halted q.status) refl refl
        where
          out : List ℤ → RunState → Bool → ℕ × ReadyState Order
          out values s halted = cond halted (1, ready_on (values_of s.machine)) (0, ready_on values)

          differ : {m n : ℕ} → (m ≡ n → ⊥) → {X : Type 0} → ◌≡◌ {A = List ℕ} (m ∷ []) (n ∷ []) → X
          differ h e = absurd (h (ap (λ (xs : List ℕ). get_or xs 0 0) e))

          by : (x y : Bool) → is_halted r.status ≡ x → is_halted q.status ≡ y →
              Paired end (allowed (lists.ended (out vs r x).0) (is_ready (out vs r x).1)) (allowed (lists.ended (out ws q y).0) (is_ready (out ws q y).1))
          by true true e f = both_allowed no_show refl (λ _. same_ready (both_kept e f))
          by false false e f = both_allowed no_show refl (λ _. same_ready alike)
          by true false e f = both_allowed no_show refl (differ (λ e. omega arith))
          by false true e f = both_allowed no_show refl (differ (λ e. omega arith))

      running_paired : (c : Call) → Paired c (running_call (running_on vs r) c) (running_call (running_on ws q) c)
      running_paired (advance budget) = both_allowed no_show refl (λ _. same_running alike)
      running_paired end = end_paired
      running_paired _ = both_disallowed

  call_paired : {s t : State} → Related s t → Good o s → Good o t → (c : Call) → Paired c (outcome s c) (outcome t c)
  call_paired (same_setup {levels = levels}) g h c = setup_paired levels c
  call_paired (same_ready {levels = levels} {vs = vs} {ws = ws} {program = program} alike) g h c = ready_paired levels vs ws program alike c
  call_paired (same_running {levels = levels} {vs = vs} {ws = ws} {program = program} {r = r} {q = q} alike) g h c =
      let left = run_of g in
      let right = run_of h in
      running_paired levels vs ws program alike r q left.0 left.1 right.1 c

  budgets_paired : {s t : State} → Related s t → (a b : ℕ) → Paired (advance a) (outcome s (advance a)) (outcome t (advance b))
  budgets_paired same_setup a b = both_disallowed
  budgets_paired (same_ready alike) a b = both_disallowed
  budgets_paired (same_running alike) a b = both_allowed no_show refl (λ _. same_running alike)

  closed_paired : {s t : State} → Related s t → (v : ℕ) (x y : ℤ) → theorem.open_in s w v ≡ false →
      Paired (lists.set v x) (outcome s (lists.set v x)) (outcome t (lists.set v y))
  closed_paired same_setup v x y h = both_disallowed
  closed_paired (same_ready {levels = levels} {vs = vs} {ws = ws} {program = program} alike) v x y h =
      set_paired levels vs ws program alike v x y (λ _ low. absurd (true≢false (sym low ∙ h)))
  closed_paired (same_running alike) v x y h = both_disallowed

  -- The two lists from two such states.
  record SeenAlike (calls others : List Call) (left right : List Answer) : Type 0 where
    same_sheets : sheets w calls left ≡ sheets w others right
    same_answers : show_answers w calls left ≡ show_answers w others right

  none_made : (calls : List Call) → ◌≡◌ {A = List (Call × Answer)} (zip calls []) []
  none_made [] = refl
  none_made (c ∷ calls) = refl

  split : (xs ys us vs : List ℕ) → length xs ≡ length ys → xs ++ us ≡ ys ++ vs → (xs ≡ ys) × (us ≡ vs)
  split xs ys us vs h e = (
    sym (take_at xs us (length xs) refl) ∙ ap (take (length xs)) e ∙ take_at ys vs (length xs) (sym h),
    sym (drop_at xs us (length xs) refl) ∙ ap (drop (length xs)) e ∙ drop_at ys vs (length xs) (sym h),
  )

  module _ (position : ℕ) (s : State) (c d : Call) (calls others : List Call) (same_show : shows_to w c ≡ shows_to w d) where
    abbrev ToSee : State → State → Type 0
    ToSee s t =
        ends (transcript_from (position + 1) s calls) ≡ ends (transcript_from (position + 1) t others) →
        SeenAlike calls others (transcript_from (position + 1) s calls) (transcript_from (position + 1) t others)

    turn : (left right : Outcome) → Paired c left right → GoodOutcome o left → GoodOutcome o right →
        ((t : State) → Related (state_after s left) t → Good o (state_after s left) → Good o t → ToSee (state_after s left) t) →
        ends (rest_of position calls left) ≡ ends (rest_of position others right) →
        SeenAlike (c ∷ calls) (d ∷ others) (rest_of position calls left) (rest_of position others right)
    turn disallowed disallowed both_disallowed g h rest e =
        record {
          same_sheets = ap₂ (λ (x : Bool) (xs : List (List ℕ)). cond x [] [] ∷ xs) same_show (ap (map _) (none_made calls ∙ sym (none_made others)));
          same_answers =
              ap₂ (λ (x : Bool) (xs : List Answer). cond x (not_allowed position ∷ []) [] ++ xs) same_show
              (ap (flat_map _) (none_made calls ∙ sym (none_made others)));
        }
    turn (allowed a next) disallowed p g h rest e = elim p [ ]
    turn disallowed (allowed b other) p g h rest e = elim p [ ]
    turn (allowed a next) (allowed b other) (both_allowed same_answer same_length related) (good_allowed none good) (good_allowed none' good') rest e =
        let parts = split (end_in a) (end_in b) _ _ same_length e in
        let then = rest other (related parts.0) good good' parts.1 in
        record {
          same_sheets = ap₂ (λ (x : List ℕ) (xs : List (List ℕ)). x ∷ xs) (sheet_here (shows_to w c) (shows_to w d) same_show same_answer) then.same_sheets;
          same_answers =
              ap₂ (λ (x : List Answer) (xs : List Answer). x ++ xs) (answer_here (shows_to w c) (shows_to w d) same_show same_answer) then.same_answers;
        }
      where
        sheet_here : (x y : Bool) → x ≡ y → (x ≡ true → a ≡ b) → cond x (sheet_in a) [] ≡ cond y (sheet_in b) []
        sheet_here true true e h = ap sheet_in (h refl)
        sheet_here false false e h = refl
        sheet_here true false e h = absurd (true≢false e)
        sheet_here false true e h = absurd (false≢true e)

        answer_here : (x y : Bool) → x ≡ y → (x ≡ true → a ≡ b) → ◌≡◌ {A = List Answer} (cond x (a ∷ []) []) (cond y (b ∷ []) [])
        answer_here true true e h = ap (λ z. z ∷ []) (h refl)
        answer_here false false e h = refl
        answer_here true false e h = absurd (true≢false e)
        answer_here false true e h = absurd (false≢true e)

  seen_alike : {s t : State} {calls others : List Call} → Alike w s calls others → Related s t → Good o s → Good o t → (position : ℕ) →
      ends (transcript_from position s calls) ≡ ends (transcript_from position t others) →
      SeenAlike calls others (transcript_from position s calls) (transcript_from position t others)
  seen_alike theorem.none related g h position e = record { same_sheets = refl; same_answers = refl }
  seen_alike {s = s} {t = t} (theorem.same {call = c} {calls = calls} {others = others} rest) related g h position e =
      turn position s c c calls others refl (outcome s c) (outcome t c) (call_paired related g h c) (stays_good o laws g c) (stays_good o laws h c)
      (λ next r g' h' e'. seen_alike rest r g' h' (position + 1) e') e
  seen_alike {s = s} {t = t} (theorem.budgets {a = a} {b = b} {calls = calls} {others = others} rest) related g h position e =
      let c : Call = advance a in
      let d : Call = advance b in
      turn position s c d calls others refl (outcome s c) (outcome t d) (budgets_paired related a b) (stays_good o laws g c) (stays_good o laws h d)
      (λ next r g' h' e'. seen_alike rest r g' h' (position + 1) e') e
  seen_alike {s = s} {t = t} (theorem.closed {v = v} {x = x} {y = y} {calls = calls} {others = others} small high rest) related g h position e =
      let c : Call = lists.set v x in
      let d : Call = lists.set v y in
      turn position s c d calls others refl (outcome s c) (outcome t d) (closed_paired related v x y high) (stays_good o laws g c) (stays_good o laws h d)
      (λ next r g' h' e'. seen_alike rest r g' h' (position + 1) e') e

none_differ : (xs : List ℕ) → differing xs xs ≡ 0
none_differ [] = refl
none_differ (x ∷ xs) = ap₂ (λ (b : Bool) (n : ℕ). cond b 0 1 + n) (eq-eqb x x refl) (none_differ xs)

no_bytes_differ : (xs : List (List ℕ)) → differing_bytes xs xs ≡ 0
no_bytes_differ [] = refl
no_bytes_differ (x ∷ xs) = ap₂ (λ (m : ℕ) (n : ℕ). m + n) (none_differ x) (no_bytes_differ xs)

pub closed_values_stay_closed : (o : Order) → Laws o → (calls : List Call) → ClosedValuesStayClosed o calls
closed_values_stay_closed o laws calls w others alike agree =
    let good = new_is_good o laws in
    let seen = seen_alike o laws w alike same_setup good good 0 agree in
    let left = sheets w calls (transcript o calls) in
    (subst (λ xs. differing_bytes left xs ≡ 0) seen.same_sheets (no_bytes_differ left), seen.same_answers)
