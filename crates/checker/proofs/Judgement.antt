-- A job has no fault exactly if it decodes and is well claimed, and the first fault of any other is its first broken rule:
-- each test judges, and so do the records, the rules and all of them in their order. Assumes nothing.
use Rattle.std.proofs.Common.{◌≡◌, ℕ, zero, suc, ◌+◌, ◌*◌, ◌<◌, ◌≤◌, Bool, true, false, not, eqb, ◌⊎◌, List, [], ◌∷◌, length, get_or, Some, None, Ok, Err, Option, Result, sym, refl, ap, ◌∙◌, subst, subst₂, inl, inr, ⊎_elim, arith, length-append}
use Rattle.std.specs.Prelude.{if◌then◌else◌}
use Rattle.std.specs.Option.{option_or, option_map}
use Rattle.std.specs.Result.{result_ok, result_err}
use Rattle.std.proofs.lemmas.Bool.{eqb-true, eqb-false, ne_eqb, cases_Bool, false≢true, false_from_ne_true}
use Rattle.std.proofs.lemmas.Bool.Decides.{nat_tests}
use Rattle.lattice.specs.Order.{Order}
use Rattle.push.specs.declared.instruction.Instruction.{Instruction}
use Rattle.push.specs.declared.instruction.Instruction.TheVariants.{GotoF}
use Rattle.push.specs.Code.{fetch}
use Rattle.job.specs.declared.field.InstructionField.{InstructionField}
use Rattle.job.specs.declared.field.ClaimField.{ClaimField}
use Rattle.job.specs.declared.field.Field.{Field}
use Rattle.job.specs.declared.field.Field.TheVariants.{Opening, Instructions, Places, Length, Instruction as of_instruction, Claim as of_claim}
use Rattle.job.specs.declared.fault.RecordFault.{RecordFault}
use Rattle.job.specs.Faults.{field_number}
use Rattle.job.specs.Fields.{InstructionFields, instruction_offset, claim_offset, like_instruction, like_claim, FirstUnlike}
use Rattle.job.specs.First.{first_below}
use Rattle.job.specs.Layout.{Sizes, sized, opening, instruction_place, instruction_record, claim_place, claim_record}
use Rattle.job.specs.Records.{Misread, Claimed, decoded, fields_in, instruction_misread, instruction_read, every_field_fits, claim_fault}
use Rattle.job.proofs.FieldFacts.{claim_none, claim_some, claim_named, like_or_fault, decoded_some, decoded_named, misread_place, record_is_whole}
use Rattle.checker.specs.declared.fault.Rule.{Rule}
use Rattle.checker.specs.declared.fault.Rule.TheVariants.{Entry, Stack, Store as BrokenStore, Successor, RegionExit, RegionLevel}
use Rattle.checker.specs.declared.fault.MountFault.{MountFault}
use Rattle.checker.specs.declared.fault.MountFault.TheVariants.{Record, Claims}
use Rattle.checker.specs.Faults.{Cause, nothing, instruction_field, claim_field, Answered, rule_number, fault_answer, answer_to, number_and_label}
use Rattle.checker.specs.Leaving.{level_at}
use Rattle.checker.specs.Rules.{ProgramWithClaims, exit, is_empty, fits_its_stack, lowered_variable, first_refusing, rule_at, where_claimed}
use Rattle.checker.specs.Region.{region}
use Rattle.checker.specs.Verdict.{too_low as lowest_too_low, branch_at, empty_claim, entry_rule, decoded_at, instruction_fault, claim_record_fault, code_below, job_in, sized_fault, first_fault}
use Rattle.checker.specs.WellClaimed.{BeginsEmpty, LabelKept, BranchKept, WhereClaimed, Below, LabelsKept, LowestTooLow, Says, LikeAClaim, Mountable, Decodes, LabelBreaks, stack, store, successor, BranchBreaks, exit_inside, too_low, BreaksAt, LabelBreaksAt, BranchBreaksAt, FirstBroken, unopened, instruction, claim, entry, label_rule as at_label, branch_rule as at_branch, Judged}
use Rattle.checker.proofs.Decided.{decides_fits, stored_upward, lowers, not_lowered, is_lowered, all_take, first_refuses, none_refuses, is_refused, exit_unmarked, avoids, raised_all, lowest_low, all_raised, is_low, emptied}
use Rattle.checker.proofs.Opened.{is_unopened, unopened_named}
use Rattle.checker.proofs.Judges.{Breaks, Outcome, kept, broken, Judges, Named, was_kept, either, changed, reworded, finds_nothing, Either, or_judged, map_judged, At, at, from_at, First, first_judged}

abbrev of_record : RecordFault → Answered
of_record fault = fault_answer (Record fault)

abbrev of_rule : Rule → Answered
of_rule rule = fault_answer (Claims rule)

-- The three tests of a label in their order.
module _ (o : Order) (levels : List ℕ) (job : ProgramWithClaims) (label : ℕ) (c : Claimed) (i : Instruction) where
  label_outcome : (b : Bool) (v w : Option ℕ) → fits_its_stack c i ≡ b → lowered_variable o levels c i ≡ v → first_refusing o levels job label c i ≡ w →
      Outcome of_rule (LabelKept o levels job label c i) (At label (LabelBreaks o levels job label c i))
      (if not b then Some (Stack label) else option_or (option_map (BrokenStore label) v) (option_map (Successor label) w))
  label_outcome false v w p q r = broken (at (stack (λ k. false≢true (sym p ∙ (decides_fits c i).1 k))))
  label_outcome true (Some v) w p q r = let low = lowers o levels c i v q in broken (at (store ((decides_fits c i).0 p) low.0 low.1))
  label_outcome true None (Some next) p q r =
      broken (at (successor ((decides_fits c i).0 p) (stored_upward o levels c i q) (first_refuses o levels job label c i next r)))
  label_outcome true None None p q r =
      kept (record { fits = (decides_fits c i).0 p; stores = stored_upward o levels c i q; taken = all_take o levels job label c i r })

  label_named : Named of_rule (rule_at o levels job label c i) (At label (LabelBreaks o levels job label c i))
  label_named _ _ _ (at (stack f)) = (Stack label, rw (false_from_ne_true (fits_its_stack c i) (λ h. f ((decides_fits c i).0 h))), refl)
  label_named _ _ _ (at (store {v = v} fits is f)) = (BrokenStore label v, rw ((decides_fits c i).1 fits, is_lowered o levels c i v is f), refl)
  label_named _ _ _ (at (successor {next = next} fits up first)) =
      (Successor label next, rw ((decides_fits c i).1 fits, not_lowered o levels c i up, is_refused o levels job label c i next first), refl)

  pub label_judged : Judges of_rule (rule_at o levels job label c i) (LabelKept o levels job label c i) (At label (LabelBreaks o levels job label c i))
  label_judged =
      record {
        outcome = label_outcome _ _ _ refl refl refl;
        none = λ k. rw ((decides_fits c i).1 k.fits, not_lowered o levels c i k.stores, none_refuses o levels job label c i k.taken);
        some = label_named;
      }

-- The two tests of a branch. Another instruction has no region to keep.
module _ (o : Order) (job : ProgramWithClaims) (few : exit job ≤ 128) (label : ℕ) (c : Claimed) where
  abbrev branch_breaks : Instruction → Breaks
  branch_breaks i = At label (BranchBreaks o job label c i)

  keeps : (i : Instruction) → ((m j : ℕ) → i ≡ GotoF m j → ⊥) → BranchKept o job label c i
  keeps i h = record { avoids = λ m j e r. h m j e; raised = λ m j inside e r w. absurd (h m j e) }

  cannot_break : (i : Instruction) → ((m j : ℕ) → i ≡ GotoF m j → ⊥) → (a m : ℕ) (k : Cause) → branch_breaks i a m k → ⊥
  cannot_break i h _ _ _ (at (exit_inside f)) = f (keeps i h).avoids
  cannot_break i h _ _ _ (at (too_low {m = m} {j = j} k e low)) = h m j e

  pub branch_judged : (i : Instruction) → Judges of_rule (branch_at o job label c i) (BranchKept o job label c i) (branch_breaks i)
  branch_judged (GotoF t j) =
      record {
        outcome = outcome _ _ refl refl;
        none = λ k. rw (exit_unmarked o job few label c t j k.avoids, all_raised o job few label c t j k.raised);
        some = named;
      }
    where
      outcome : (b : Bool) (v : Option ℕ) → get_or (region job.code j label) (exit job) false ≡ b →
          lowest_too_low o job (level_at c.stack 0) (region job.code j label) ≡ v →
          Outcome of_rule (BranchKept o job label c (GotoF t j)) (branch_breaks (GotoF t j))
          (if b then Some (RegionExit label (exit job)) else option_map (RegionLevel label) v)
      outcome true v p q = broken (at (exit_inside (λ k. false≢true (sym (exit_unmarked o job few label c t j k) ∙ p))))
      outcome false (Some inside) p q =
          broken (at (too_low {m = t} {j = j} (avoids o job few label c t j p) refl (lowest_low o job few label c t j inside q)))
      outcome false None p q = kept (record { avoids = avoids o job few label c t j p; raised = raised_all o job few label c t j q })

      named : Named of_rule (branch_at o job label c (GotoF t j)) (branch_breaks (GotoF t j))
      named _ _ _ (at (exit_inside f)) = (
        RegionExit label (exit job),
        ⊎_elim (λ h. rw h) (λ h. absurd (f (avoids o job few label c t j h))) (cases_Bool (get_or (region job.code j label) (exit job) false)),
        refl,
      )
      named _ _ _ (at (too_low {m = u} {j = v} {inside = inside} off is low)) =
          let same : v ≡ j = cc in
          let lowest = subst (λ z. LowestTooLow o job label c z inside) same low in
          (RegionLevel label inside, rw (exit_unmarked o job few label c t j off, is_low o job few label c t j inside lowest), refl)
  branch_judged i = finds_nothing (keeps i (λ m j e. cc)) (cannot_break i (λ m j e. cc))

-- The entry of a job.
data NoEntry (job : ProgramWithClaims) : ℕ → ℕ → Cause → Type 0 where
  no_entry : (BeginsEmpty job → ⊥) → NoEntry job 10 0 nothing

empty_claimed : (oc : Option Claimed) → empty_claim oc ≡ true → (c : Claimed) × (oc ≡ Some c) × (c.stack ≡ [])
empty_claimed None h = absurd (false≢true h)
empty_claimed (Some c) h = (c, refl, emptied c.stack h)

claimed_empty : (oc : Option Claimed) → (c : Claimed) × (oc ≡ Some c) × (c.stack ≡ []) → empty_claim oc ≡ true
claimed_empty oc k = ap empty_claim k.1 ∙ ap is_empty k.2

module _ (job : ProgramWithClaims) where
  entry_outcome : (b v : Bool) → eqb (exit job) 0 ≡ b → empty_claim (job.claim 0) ≡ v →
      Outcome of_rule (BeginsEmpty job) (NoEntry job) (if b then None else if v then None else Some Entry)
  entry_outcome true v p q = kept (inl (eqb-true (exit job) 0 p))
  entry_outcome false true p q = kept (inr (empty_claimed (job.claim 0) q))
  entry_outcome false false p q =
      broken (no_entry (⊎_elim (eqb-false (exit job) 0 p) (λ k. false≢true (sym q ∙ claimed_empty (job.claim 0) k))))

  entry_named : Named of_rule (entry_rule job) (NoEntry job)
  entry_named _ _ _ (no_entry f) = (
    Entry,
    rw (
      ne_eqb (exit job) 0 (λ e. f (inl e)),
      false_from_ne_true (empty_claim (job.claim 0)) (λ h. f (inr (empty_claimed (job.claim 0) h))),
    ),
    refl,
  )

  entry_judged : Judges of_rule (entry_rule job) (BeginsEmpty job) (NoEntry job)
  entry_judged =
      record {
        outcome = entry_outcome _ _ refl refl;
        none = ⊎_elim (λ e. grind (arith, nat_tests)) (λ k. let h = claimed_empty (job.claim 0) k in grind (arith, nat_tests));
        some = entry_named;
      }

-- A rule of the labels that have a claim and an instruction.
module _ (job : ProgramWithClaims) {K : ℕ → Claimed → Instruction → Type 0} {B : ℕ → Claimed → Instruction → ℕ → Cause → Type 0}
    (rule : ℕ → Claimed → Instruction → Option Rule)
    (each : (l : ℕ) (c : Claimed) (i : Instruction) → Judges of_rule (rule l c i) (K l c i) (At l (B l c i))) where
  abbrev Where : ℕ → Option Claimed → Option Instruction → ℕ → Cause → Type 0
  Where l oc oi a k = (c : Claimed) × (i : Instruction) × (oc ≡ Some c) × (oi ≡ Some i) × B l c i a k

  where_judged : (l : ℕ) (oc : Option Claimed) (oi : Option Instruction) →
      Judges of_rule (where_claimed (rule l) oc oi) ((c : Claimed) (i : Instruction) → oc ≡ Some c → oi ≡ Some i → K l c i) (At l (Where l oc oi))
  where_judged l None oi = finds_nothing (λ c i e f. cc) (from_at (λ _ _ _. ⊥) (λ a k b. let e = b.2 in cc))
  where_judged l (Some c) None = finds_nothing (λ d i e f. cc) (from_at (λ _ _ _. ⊥) (λ a k b. let e = b.3 in cc))
  where_judged l (Some c) (Some i) =
      reworded (each l c i) (λ h d j e f. let p : c ≡ d = cc in let q : i ≡ j = cc in subst₂ (K l) p q h) (λ h. h c i refl refl)
      (from_at (At l (Where l (Some c) (Some i))) (λ a k b. at (c, i, refl, refl, b)))
      (from_at (At l (B l c i))
      (λ a k b. let e = b.2 in let f = b.3 in let p : b.0 ≡ c = cc in let q : b.1 ≡ i = cc in at (subst₂ (λ d j. B l d j a k) p q b.4)))

  rules_judged : Judges of_rule (first_below (λ l. where_claimed (rule l) (job.claim l) (fetch job.code l)) (exit job))
      (Below (exit job) (WhereClaimed job K)) (BreaksAt job K B)
  rules_judged =
      reworded
      (first_judged (λ l. where_claimed (rule l) (job.claim l) (fetch job.code l)) (exit job) (λ l w. where_judged l (job.claim l) (fetch job.code l)))
      (λ h. h) (λ h. h)
      (λ a m k b. record {
        within = b.within;
        before = b.before;
        claimed = b.here.0;
        instruction = b.here.1;
        has = b.here.2;
        fetched = b.here.3;
        broken = b.here.4;
      })
      (λ a m k b. record { within = b.within; before = b.before; here = (b.claimed, b.instruction, b.has, b.fetched, b.broken) })

-- The records of a job: the first field of one that is unlike its description.
data Unread (bytes : List ℕ) (s : Sizes) (label : ℕ) : ℕ → Cause → Type 0 where
  unread : {r : InstructionFields} {field : InstructionField} → fields_in (instruction_record bytes label) ≡ Some r →
      FirstUnlike instruction_offset (like_instruction s.instructions r) field →
      Unread bytes s label 8 (instruction_field field (instruction_place label + instruction_offset field))

read_has_no_fault : {T E : Type 0} (d : Result T E) (x : T) → result_ok d ≡ Some x → result_err d ≡ None
read_has_no_fault d x e = grind arith

module _ (bytes : List ℕ) (s : Sizes) (label : ℕ) where
  abbrev place : ℕ
  place = instruction_place label

  instruction_outcome : (r : InstructionFields) (d : Result Instruction Misread) → fields_in (instruction_record bytes label) ≡ Some r →
      decoded s.instructions place r ≡ d → Outcome of_record (Says bytes s label) (At label (Unread bytes s label)) (result_err (instruction_read label d))
  instruction_outcome r (Ok i) e h = kept (record { instruction = i; read = rw (e, h) })
  instruction_outcome r (Err m) e h = let b = decoded_some s.instructions place r m h in broken (rw b.1 (at (unread e b.0)))

  instruction_named : Named of_record (instruction_fault bytes s label) (At label (Unread bytes s label))
  instruction_named _ _ _ (at (unread {r = r} {field = field} e f)) = (
    record { field = of_instruction label field; fault = instruction_misread s.instructions place r field },
    rw (e, decoded_named s.instructions place r field f),
    ap (λ p. (8, label, instruction_field field p)) (misread_place s.instructions place r field),
  )

  instruction_judged : opening bytes ≡ Ok s → label < s.instructions →
      Judges of_record (instruction_fault bytes s label) (Says bytes s label) (At label (Unread bytes s label))
  instruction_judged opened within =
      let whole = record_is_whole bytes s label opened within in
      record {
        outcome = rw whole.1 (instruction_outcome whole.0 _ whole.1 refl);
        none = λ k. read_has_no_fault (decoded_at bytes s label) k.instruction k.read;
        some = instruction_named;
      }

-- And of a claim record, which stands at a place.
data Unclaimed (span places label place : ℕ) (bytes : List ℕ) : ℕ → Cause → Type 0 where
  unclaimed : {field : ClaimField} → claim_offset field < 4 + 3 * places → FirstUnlike claim_offset (like_claim span places bytes) field →
      Unclaimed span places label place bytes 9 (claim_field field (place + claim_offset field))

module _ (span places label place : ℕ) (bytes : List ℕ) where
  claim_outcome : (x : Option RecordFault) → claim_fault span places label place bytes ≡ x →
      Outcome of_record (every_field_fits span places bytes ≡ true) (At label (Unclaimed span places label place bytes)) x
  claim_outcome None e =
      kept (⊎_elim (λ t. t) (λ f. let is = (like_or_fault span places label place bytes f).1 in absurd cc) (cases_Bool (every_field_fits span places bytes)))
  claim_outcome (Some x) e =
      let b = claim_some span places label place bytes x e in broken (rw b.3 (at (unclaimed b.1 b.2)))

  unclaimed_named : Named of_record (claim_fault span places label place bytes) (At label (Unclaimed span places label place bytes))
  unclaimed_named _ _ _ (at (unclaimed {field = field} inside first)) = (_, claim_named span places label place bytes field inside first, refl)

  claim_judged : Judges of_record (claim_fault span places label place bytes) (every_field_fits span places bytes ≡ true)
      (At label (Unclaimed span places label place bytes))
  claim_judged = record { outcome = claim_outcome _ refl; none = claim_none span places label place bytes; some = unclaimed_named }

-- How many instructions there can be.
code_few : (bytes : List ℕ) (s : Sizes) (n : ℕ) → length (code_below bytes s n) ≤ n
unfolding code_below
code_few bytes s zero = omega arith
code_few bytes s (suc n) = grind (arith, length-append, code_few bytes s n)

sized_few : (n d found : ℕ) (s : Sizes) → sized n d found ≡ Ok s → s.instructions ≤ 128
sized_few n d found s e = grind (arith, nat_tests)

opened_few : (bytes : List ℕ) (s : Sizes) → opening bytes ≡ Ok s → s.instructions ≤ 128
opened_few (n0 ∷ n1 ∷ d0 ∷ d1 ∷ rest) s e = sized_few (n0 + n1 * 256) (d0 + d1 * 256) (4 + length rest) s e
opened_few _ s e = cc

pub field_is_some : (field : Field) → field_number field ≡ 0 → ⊥
field_is_some Opening e = omega arith
field_is_some Instructions e = omega arith
field_is_some Places e = omega arith
field_is_some Length e = omega arith
field_is_some (of_instruction _ _) e = omega arith
field_is_some (of_claim _ _) e = omega arith

pub rule_is_some : (rule : Rule) → rule_number rule ≡ 0 → ⊥
rule_is_some Entry e = omega arith
rule_is_some (Stack _) e = omega arith
rule_is_some (BrokenStore _ _) e = omega arith
rule_is_some (Successor _ _) e = omega arith
rule_is_some (RegionExit _ _) e = omega arith
rule_is_some (RegionLevel _ _) e = omega arith

-- A job of some sizes, and any job.
module _ (o : Order) (levels bytes : List ℕ) where
  module _ (s : Sizes) (opened : opening bytes ≡ Ok s) where
    abbrev J : ProgramWithClaims
    J = job_in bytes s

    few : exit J ≤ 128
    few = omega (arith, code_few bytes s s.instructions, opened_few bytes s opened)

    abbrev AllSay : Type 0
    AllSay = Below s.instructions (Says bytes s)

    abbrev AllLike : Type 0
    AllLike = Below s.instructions (LikeAClaim o bytes s)

    abbrev BranchesKept : Type 0
    BranchesKept = Below (exit J) (WhereClaimed J (BranchKept o J))

    abbrev UnlikeClaim : Breaks
    UnlikeClaim a l k = Unclaimed o.span s.places l (claim_place s l) (claim_record bytes s l) a k

    abbrev Unlike : Breaks
    Unlike = Either (First s.instructions (Says bytes s) (λ a l k. Unread bytes s l a k)) AllSay (First s.instructions (LikeAClaim o bytes s) UnlikeClaim)

    abbrev RuleBroken : Breaks
    RuleBroken = Either (NoEntry J) (BeginsEmpty J) (Either (LabelBreaksAt o levels J) (LabelsKept o levels J) (BranchBreaksAt o J))

    abbrev AllKept : Type 0
    AllKept = (AllSay × AllLike) × (BeginsEmpty J × (LabelsKept o levels J × BranchesKept))

    sized_judged : Judges fault_answer (sized_fault o levels bytes (Ok s)) AllKept (Either Unlike (AllSay × AllLike) RuleBroken)
    sized_judged =
        or_judged
        (map_judged Record fault_answer
        (or_judged (first_judged (instruction_fault bytes s) s.instructions (λ l w. instruction_judged bytes s l opened w))
        (first_judged (claim_record_fault o bytes s) s.instructions
        (λ l w. claim_judged o.span s.places l (claim_place s l) (claim_record bytes s l)))))
        (map_judged Claims fault_answer
        (or_judged (entry_judged J)
        (or_judged (rules_judged J (rule_at o levels J) (label_judged o levels J)) (rules_judged J (branch_at o J) (branch_judged o J few)))))

    decodes : AllSay × AllLike → Decodes o bytes s
    decodes h = record { opened = opened; instructions = h.0; claims = h.1 }

    mounted : AllKept → Mountable o levels bytes
    mounted h =
        record { sizes = s; decodes = decodes h.0; well_claimed = record { entry = h.1.0; labels = h.1.1.0; branches = h.1.1.1 } }

    -- what breaks first is the first broken rule
    first_unread : (a m : ℕ) (k : Cause) → m < s.instructions → Below m (Says bytes s) → Unread bytes s m a k → FirstBroken o levels bytes a m k
    first_unread _ _ _ w h (unread e f) = instruction opened w h e f

    first_unclaimed : (a m : ℕ) (k : Cause) → AllSay → m < s.instructions → Below m (LikeAClaim o bytes s) → UnlikeClaim a m k →
        FirstBroken o levels bytes a m k
    first_unclaimed _ _ _ all w h (unclaimed e f) = claim opened all w h e f

    first_no_entry : (a m : ℕ) (k : Cause) → Decodes o bytes s → NoEntry J a m k → FirstBroken o levels bytes a m k
    first_no_entry _ _ _ d (no_entry f) = entry d f

    is_first : (a m : ℕ) (k : Cause) → Either Unlike (AllSay × AllLike) RuleBroken a m k → FirstBroken o levels bytes a m k
    is_first a m k =
        ⊎_elim (⊎_elim (λ b. first_unread a m k b.within b.before b.here) (λ b. first_unclaimed a m k b.0 b.1.within b.1.before b.1.here))
        (λ r.
        ⊎_elim (first_no_entry a m k (decodes r.0)) (λ e. ⊎_elim (λ b. at_label (decodes r.0) e.0 b) (λ b. at_branch (decodes r.0) e.0 b.0 b.1) e.1) r.1)

    found_by : Named fault_answer (first_fault o levels bytes) (Either Unlike (AllSay × AllLike) RuleBroken)
    found_by a m k h = let x = sized_judged.some a m k h in (x.0, rw opened x.1, x.2)

  fault_outcome : (r : Result Sizes RecordFault) → opening bytes ≡ r →
      Outcome fault_answer (Mountable o levels bytes) (FirstBroken o levels bytes) (sized_fault o levels bytes r)
  fault_outcome (Err fault) e =
      let w = is_unopened bytes fault e in
      broken (subst (λ v. FirstBroken o levels bytes v.0 v.1 v.2) (sym w.is) (unopened w.wrong))
  fault_outcome (Ok s) e = changed (sized_judged s e).outcome (mounted s e) (is_first s e)

  fault_named : Named fault_answer (first_fault o levels bytes) (FirstBroken o levels bytes)
  fault_named _ _ _ (unopened u) = let x = unopened_named bytes u in (Record x.0, rw x.1, x.2)
  fault_named _ m _ (instruction {s = s} e w h r f) = found_by s e _ m _ (inl (inl (record { within = w; before = h; here = unread r f })))
  fault_named _ m _ (claim {s = s} e all w h r f) = found_by s e _ m _ (inl (inr (all, record { within = w; before = h; here = unclaimed r f })))
  fault_named a m k (entry {s = s} d f) = found_by s d.opened a m k (inr ((d.instructions, d.claims), inl (no_entry f)))
  fault_named a m k (at_label {s = s} d e b) = found_by s d.opened a m k (inr ((d.instructions, d.claims), inr (e, inl b)))
  fault_named a m k (at_branch {s = s} d e h b) = found_by s d.opened a m k (inr ((d.instructions, d.claims), inr (e, inr (h, b))))

  pub fault_judged : Judges fault_answer (first_fault o levels bytes) (Mountable o levels bytes) (FirstBroken o levels bytes)
  fault_judged =
      record {
        outcome = fault_outcome (opening bytes) refl;
        none = λ m.
            let d = m.decodes in
            let w = m.well_claimed in
            rw d.opened ((sized_judged m.sizes d.opened).none ((d.instructions, d.claims), (w.entry, (w.labels, w.branches))));
        some = fault_named;
      }

  pub verdict_judged : ((first_fault o levels bytes ≡ None) × Mountable o levels bytes)
      ⊎ ((x : MountFault) × (first_fault o levels bytes ≡ Some x) × FirstBroken o levels bytes (fault_answer x).0 (fault_answer x).1 (fault_answer x).2)
  verdict_judged = either fault_judged.outcome

  pub mountable_has_no_fault : Mountable o levels bytes → first_fault o levels bytes ≡ None
  mountable_has_no_fault = fault_judged.none

  -- no fault has the number 0
  no_fault : (x : Option MountFault) → number_and_label (answer_to x) ≡ (0, 0) → x ≡ None
  no_fault None e = refl
  no_fault (Some (Record r)) e = absurd (field_is_some r.field (ap (λ v. v.0) e))
  no_fault (Some (Claims rule)) e = absurd (rule_is_some rule (ap (λ v. v.0) e))

  pub judged : Judged o levels bytes
  judged =
      record {
        accepted_is_mountable = λ e. was_kept fault_judged.outcome (no_fault (first_fault o levels bytes) e);
        mountable_is_accepted = λ m. ap answer_to (mountable_has_no_fault m);
        refused_names_the_first =
            λ ne. ⊎_elim (λ p. absurd (ne (ap (λ f. number_and_label (answer_to f)) p.0))) (λ p. rw p.1 p.2) verdict_judged;
        first_is_named = λ b. let x = fault_named _ _ _ b in ap answer_to x.1 ∙ x.2;
      }
