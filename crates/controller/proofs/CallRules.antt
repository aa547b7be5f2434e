-- The outcome of each call is what the rules say, and only that, and so is the transcript of a list. Assumes the laws of
-- the order, since it goes by the states that a list can come to (Kept.antt), whose runs are halted exactly at the exit.
use Rattle.std.proofs.Common.{◌≡◌, ⊎_elim, ◌≢◌, ℕ, ◌+◌, ◌*◌, ◌<◌, ◌≤◌, Bool, true, false, cond, eqb, ltb, List, [], ◌∷◌, length, get_or, take, drop, set, replicate, pos, sym, refl, ap, ◌∙◌, subst, arith}
use lib.ListN.{length-replicate}
use Rattle.std.proofs.lemmas.List.{take_at}
use Rattle.std.proofs.lemmas.Bool.{true≢false, false≢true, ltb-true, ltb-false, lt-ltb, le-ltb}
use Rattle.lattice.specs.Order.{Order, Laws}
use Rattle.push.specs.declared.status.Status.{Status}
use Rattle.push.specs.declared.status.Status.TheVariants.{Going, Halted, Faulted}
use Rattle.push.specs.Run.{RunState, is_halted, label_of, values_of, status_number}
use Rattle.push.proofs.AdvanceFacts.{advance_runs, run_advances_to}
use Rattle.checker.proofs.Judgement.{verdict_judged, mountable_has_no_fault}
use Rattle.controller.specs.State.{SetupState, ReadyState, RunningState, ready_with}
use Rattle.controller.specs.Sheet.{open_count, sheet, sheet_in_front}
use Rattle.controller.specs.Lists as lists
use Rattle.controller.specs.Lists.{Call, grade, seal, mount, read, show, start, advance, end, unseal, Answer, State, in_setup, is_ready, is_running, Outcome, allowed, disallowed, setup_call, ready_call, running_call, outcome, sheet_shown, transcript_from, transcript}
use Rattle.controller.specs.Calls as rule
use Rattle.controller.specs.Calls.{name_of, belongs_to, LeadsTo, AnswersFrom, none, made, stopped, AnswersOf, TranscriptFollowsTheRules}
use Rattle.controller.proofs.SheetFacts.{length_lines}
use Rattle.controller.proofs.ListFacts.{rest_of}
use Rattle.controller.proofs.Kept.{Good, good_setup, good_ready, good_running, GoodOutcome, good_allowed, stays_good, new_is_good}

-- An outcome that is by the rules.
abbrev ByRule : State → Call → Outcome → Type 0
ByRule s c (allowed answer t) = LeadsTo s c answer t
ByRule s c disallowed = name_of s ≢ belongs_to c

is_the_halted : (s : Status) → is_halted s ≡ true → s ≡ Halted
is_the_halted Going e = absurd (false≢true e)
is_the_halted Halted e = refl
is_the_halted Faulted e = absurd (false≢true e)

not_halted : (s : Status) → s ≢ Halted → is_halted s ≡ false
not_halted Going h = refl
not_halted Halted h = absurd (h refl)
not_halted Faulted h = refl

-- from an outcome to its rule
setup_ruled : (s : SetupState Order) (c : Call) → ByRule (in_setup s) c (setup_call s c)
setup_ruled s (grade v l) = by (ltb v 32) (ltb l s.lattice.span) refl refl
  where
    out : Bool → Bool → ℕ × SetupState Order
    out known level = cond known (cond level (0, record s { levels = set s.levels v l }) (2, s)) (1, s)

    by : (known level : Bool) → ltb v 32 ≡ known → ltb l s.lattice.span ≡ level →
        LeadsTo (in_setup s) (grade v l) (lists.graded (out known level).0) (in_setup (out known level).1)
    by true true k h = rule.grade_accepted (ltb-true v 32 k) (ltb-true l s.lattice.span h)
    by true false k h = rule.grade_no_level (ltb-true v 32 k) (ltb-false l s.lattice.span h)
    by false level k h = rule.grade_no_variable (ltb-false v 32 k)
setup_ruled s seal = rule.seal_accepted
setup_ruled s c = λ e. cc

mount_ruled : (s : ReadyState Order) (bytes : List ℕ) → ByRule (is_ready s) (mount bytes) (ready_call s (mount bytes))
mount_ruled s bytes =
    ⊎_elim (λ p. rw p.0 (rule.mount_accepted p.1)) (λ p. rw p.1 (rule.mount_refused p.1 p.2)) (verdict_judged s.lattice s.levels bytes)

show_ruled : (s : ReadyState Order) (observer long : ℕ) → ByRule (is_ready s) (show observer long) (ready_call s (show observer long))
show_ruled s observer long = by (ltb observer s.lattice.span) (ltb (length buffer) (5 * count)) refl refl
  where
    count : ℕ
    count = open_count s.lattice s.levels observer

    lines : List ℕ
    lines = sheet s.lattice s.levels s.values observer

    buffer : List ℕ
    buffer = replicate long 0

    size : length buffer ≡ long
    size = length-replicate long 0

    written : List ℕ
    written = sheet_in_front s.lattice s.levels s.values observer buffer

    whole : take (5 * count) written ≡ lines
    whole = take_at lines (drop (5 * count) buffer) (5 * count) (length_lines s.lattice s.levels s.values observer 32)

    out : Bool → Bool → (ℕ × ℕ) × List ℕ
    out level short = cond level (cond short ((3, 0), buffer) ((0, count), written)) ((2, 0), buffer)

    by : (level short : Bool) → ltb observer s.lattice.span ≡ level → ltb (length buffer) (5 * count) ≡ short →
        LeadsTo (is_ready s) (show observer long) (sheet_shown (out level short)) (is_ready s)
    by true false k h =
        let room = ltb-false (length buffer) (5 * count) h in
        subst (λ bytes. LeadsTo (is_ready s) (show observer long) (lists.shown (0, count) bytes) (is_ready s)) (sym whole)
        (rule.show_accepted (ltb-true observer s.lattice.span k) (subst (λ n. 5 * count ≤ n) size room))
    by true true k h =
        let short = ltb-true (length buffer) (5 * count) h in
        rule.show_short_buffer (ltb-true observer s.lattice.span k) (subst (λ n. n < 5 * count) size short)
    by false short k h = rule.show_no_level (ltb-false observer s.lattice.span k)

ready_ruled : (s : ReadyState Order) (c : Call) → ByRule (is_ready s) c (ready_call s c)
ready_ruled s (mount bytes) = mount_ruled s bytes
ready_ruled s (lists.set v x) = by (ltb v 32) refl
  where
    out : Bool → ℕ × ReadyState Order
    out known = cond known (0, record s { values = set s.values v x }) (1, s)

    by : (known : Bool) → ltb v 32 ≡ known → LeadsTo (is_ready s) (lists.set v x) (lists.was_set (out known).0) (is_ready (out known).1)
    by true k = rule.set_accepted (ltb-true v 32 k)
    by false k = rule.set_no_variable (ltb-false v 32 k)
ready_ruled s (read v) = by (ltb v 32) refl
  where
    by : (known : Bool) → ltb v 32 ≡ known →
        LeadsTo (is_ready s) (read v) (lists.was_read (cond known (0, get_or s.values v (pos 0)) (1, pos 0))) (is_ready s)
    by true k = rule.read_accepted (ltb-true v 32 k)
    by false k = rule.read_no_variable (ltb-false v 32 k)
ready_ruled s (show observer long) = show_ruled s observer long
ready_ruled s start = rule.start_accepted
ready_ruled s unseal = rule.unseal_accepted
ready_ruled s c = λ e. cc

running_ruled : (s : RunningState Order) → is_halted s.run.status ≡ eqb (label_of s.run.machine) (length s.program) → (c : Call) →
    ByRule (is_running s) c (running_call s c)
running_ruled s honest (advance budget) = rule.advance_accepted (run_advances_to s.program budget s.run.status s.run.machine honest)
running_ruled s honest end = by (is_halted s.run.status) refl
  where
    out : Bool → ℕ × ReadyState Order
    out halted = cond halted (1, ready_with s (values_of s.run.machine)) (0, ready_with s s.remembered)

    by : (halted : Bool) → is_halted s.run.status ≡ halted → LeadsTo (is_running s) end (lists.ended (out halted).0) (is_ready (out halted).1)
    by true e = rule.end_halted (is_the_halted s.run.status e)
    by false e = rule.end_unfinished (λ h. true≢false (ap is_halted (sym h) ∙ e))
running_ruled s honest c = λ e. cc

call_ruled : {o : Order} {s : State} → Good o s → (c : Call) → ByRule s c (outcome s c)
call_ruled {o = o} (good_setup {levels = levels} g) c = setup_ruled (record { lattice = o; levels = levels }) c
call_ruled {o = o} (good_ready {levels = levels} {values = values} {program = program} g safe long) c =
    ready_ruled (record { lattice = o; levels = levels; values = values; program = program }) c
call_ruled {o = o} (good_running {levels = levels} {remembered = remembered} {program = program} {r = r} g safe long way) c =
    running_ruled (record { lattice = o; levels = levels; remembered = remembered; program = program; run = r }) way.honest.halted_at_the_exit c

-- and back
leads_outcome : {s t : State} {c : Call} {answer : Answer} → LeadsTo s c answer t → outcome s c ≡ allowed answer t
leads_outcome (rule.grade_accepted {s = s} {v = v} {l = l} k h) = rw (lt-ltb v 32 k, lt-ltb l s.lattice.span h)
leads_outcome (rule.grade_no_variable {v = v} h) = rw (le-ltb v 32 h)
leads_outcome (rule.grade_no_level {s = s} {v = v} {l = l} k h) = rw (lt-ltb v 32 k, le-ltb l s.lattice.span h)
leads_outcome rule.seal_accepted = refl
leads_outcome (rule.mount_accepted {s = s} {bytes = bytes} m) = rw (mountable_has_no_fault s.lattice s.levels bytes m)
leads_outcome (rule.mount_refused e b) = rw e
leads_outcome (rule.set_accepted {v = v} k) = rw (lt-ltb v 32 k)
leads_outcome (rule.set_no_variable {v = v} h) = rw (le-ltb v 32 h)
leads_outcome (rule.read_accepted {v = v} k) = rw (lt-ltb v 32 k)
leads_outcome (rule.read_no_variable {v = v} h) = rw (le-ltb v 32 h)
leads_outcome (rule.show_accepted {s = s} {observer = observer} {length = long} k h) =
    let count = open_count s.lattice s.levels observer in
    let lines = sheet s.lattice s.levels s.values observer in
    let buffer : List ℕ = replicate long 0 in
    let size : length buffer ≡ long = length-replicate long 0 in
    let room : 5 * count ≤ length buffer = omega (arith, h) in
    let whole = take_at lines (drop (5 * count) buffer) (5 * count) (length_lines s.lattice s.levels s.values observer 32) in
    rw (lt-ltb observer s.lattice.span k, le-ltb (length buffer) (5 * count) room, whole)
leads_outcome (rule.show_no_level {s = s} {observer = observer} {length = long} h) = rw (le-ltb observer s.lattice.span h)
leads_outcome (rule.show_short_buffer {s = s} {observer = observer} {length = long} k h) =
    let count = open_count s.lattice s.levels observer in
    let buffer : List ℕ = replicate long 0 in
    let size : length buffer ≡ long = length-replicate long 0 in
    let short : length buffer < 5 * count = omega (arith, h) in
    rw (lt-ltb observer s.lattice.span k, lt-ltb (length buffer) (5 * count) short)
leads_outcome rule.start_accepted = refl
leads_outcome rule.unseal_accepted = refl
leads_outcome (rule.advance_accepted {s = s} a) =
    ap (λ (x : ℕ × RunState). allowed (lists.advanced (status_number x.1.status, x.0)) (is_running (record s { run = x.1 }))) (advance_runs s.program a)
leads_outcome (rule.end_halted {s = s} e) = rw (ap is_halted e)
leads_outcome (rule.end_unfinished {s = s} h) = rw (not_halted s.run.status h)

no_rule_disallowed : (s : State) (c : Call) → name_of s ≢ belongs_to c → outcome s c ≡ disallowed
no_rule_disallowed (in_setup s) (grade v l) h = absurd (h refl)
no_rule_disallowed (in_setup s) seal h = absurd (h refl)
no_rule_disallowed (in_setup s) c h = refl
no_rule_disallowed (is_ready s) (mount bytes) h = absurd (h refl)
no_rule_disallowed (is_ready s) (lists.set v x) h = absurd (h refl)
no_rule_disallowed (is_ready s) (read v) h = absurd (h refl)
no_rule_disallowed (is_ready s) (show observer long) h = absurd (h refl)
no_rule_disallowed (is_ready s) start h = absurd (h refl)
no_rule_disallowed (is_ready s) unseal h = absurd (h refl)
no_rule_disallowed (is_ready s) c h = refl
no_rule_disallowed (is_running s) (advance budget) h = absurd (h refl)
no_rule_disallowed (is_running s) end h = absurd (h refl)
no_rule_disallowed (is_running s) c h = refl

-- whole lists
answers_are_the_transcript : {position : ℕ} {s : State} {calls : List Call} {answers : List Answer} →
    AnswersFrom position s calls answers → transcript_from position s calls ≡ answers
answers_are_the_transcript none = refl
answers_are_the_transcript (made {position = position} {answer = answer} {calls = calls} leads rest) =
    ap (rest_of position calls) (leads_outcome leads) ∙ ap (λ (xs : List Answer). answer ∷ xs) (answers_are_the_transcript rest)
answers_are_the_transcript (stopped {position = position} {s = s} {call = call} {calls = calls} elsewhere) =
    ap (rest_of position calls) (no_rule_disallowed s call elsewhere)

module _ (o : Order) (laws : Laws o) where
  transcript_is_answers : (calls : List Call) (position : ℕ) {s : State} → Good o s → AnswersFrom position s calls (transcript_from position s calls)
  transcript_is_answers [] position g = none
  transcript_is_answers (c ∷ calls) position {s = s} g =
      by (outcome s c) (call_ruled g c) (stays_good o laws g c) (λ next good. transcript_is_answers calls (position + 1) good)
    where
      by : (out : Outcome) → ByRule s c out → GoodOutcome o out →
          ((next : State) → Good o next → AnswersFrom (position + 1) next calls (transcript_from (position + 1) next calls)) →
          AnswersFrom position s (c ∷ calls) (rest_of position calls out)
      by (allowed answer t) leads (good_allowed harmless good) rest = made leads (rest t good)
      by disallowed elsewhere g rest = stopped elsewhere

  pub answers_of_transcript : (calls : List Call) → AnswersOf o calls (transcript o calls)
  answers_of_transcript calls = transcript_is_answers calls 0 (new_is_good o laws)

  pub transcript_follows_the_rules : TranscriptFollowsTheRules o
  transcript_follows_the_rules =
      record {
        rule_gives_the_outcome = leads_outcome;
        elsewhere_is_disallowed = no_rule_disallowed;
        rules_give_the_transcript = answers_are_the_transcript;
        transcript_is_by_the_rules = answers_of_transcript;
      }
