-- A list of calls, performed one by one: the answers so far and those of what is left. Assumes nothing.
use Rattle.std.proofs.Common.{◌≡◌, ℕ, ◌+◌, ◌<◌, ◌≤◌, List, [], ◌∷◌, ◌++◌, map, length, get_or, drop, Some, None, Option, sym, ap, ◌∙◌, append_assoc, append-nil, arith}
use mathlib.Core.List.{map-append}
use lib.ListN.{length-map, get_or-map}
use Rattle.std.proofs.lemmas.List.{drop_more, drop_all}
use Rattle.lattice.specs.Order.{Order}
use Rattle.controller.specs.declared.call.Call as code
use Rattle.controller.specs.declared.answer.Answer as code_answer
use Rattle.controller.specs.declared.answer.Answer.TheVariants.{NotAllowed}
use Rattle.controller.specs.declared.phase.Phase.{Phase}
use Rattle.controller.specs.Views.{call_of, answer_of, state_of, outcome_of}
use Rattle.controller.specs.Lists.{Call, Answer, State, Outcome, allowed, disallowed, not_allowed, outcome, after_call, transcript_from}

-- The answers from a call's outcome on.
abbrev pub rest_of : ℕ → List Call → Outcome → List Answer
rest_of position calls out = after_call position out (λ next. transcript_from (position + 1) next calls)

module _ (position : ℕ) (s : State) (calls : List Call) (done total : List Answer)
    (so_far : done ++ transcript_from position s (drop position calls) ≡ total) where
  module _ (d : Call) (some : position < length calls) where
    next_is : (out : Outcome) → outcome s (get_or calls position d) ≡ out →
        transcript_from position s (drop position calls) ≡ rest_of position (drop (position + 1) calls) out
    next_is out e = ap (transcript_from position s) (drop_more calls position d some) ∙ ap (rest_of position (drop (position + 1) calls)) e

    pub one_answered : (answer : Answer) (next : State) → allowed answer next ≡ outcome s (get_or calls position d) →
        (done ++ (answer ∷ [])) ++ transcript_from (position + 1) next (drop (position + 1) calls) ≡ total
    one_answered answer next e =
        append_assoc done (answer ∷ []) _ ∙ sym (ap (λ rest. done ++ rest) (next_is (allowed answer next) (sym e))) ∙ so_far

    pub one_disallowed : disallowed ≡ outcome s (get_or calls position d) → done ++ (not_allowed position ∷ []) ≡ total
    one_disallowed e = sym (ap (λ rest. done ++ rest) (next_is disallowed (sym e))) ∙ so_far

  pub all_answered : length calls ≤ position → done ≡ total
  all_answered h = sym (append-nil done) ∙ ap (λ rest. done ++ rest) (ap (transcript_from position s) (sym (drop_all position calls h))) ∙ so_far

-- The same of the code's calls, answers and states.
module _ {L : Type 0} (order : L → Order) (calls : List code.Call) (n : ℕ) (before : Phase L)
    (answers : List code_answer.Answer) (total : List Answer)
    (so_far : map answer_of answers ++ transcript_from n (state_of order before) (drop n (map call_of calls)) ≡ total) where
  abbrev plain : List Call
  plain = map call_of calls

  abbrev here : State
  here = state_of order before

  module _ (d : code.Call) (some : n < length calls) (step : Option (Phase L × code_answer.Answer))
      (told : outcome_of order step ≡ outcome here (call_of (get_or calls n d))) where
    told_plainly : (out : Outcome) → outcome_of order step ≡ out → out ≡ outcome here (get_or plain n (call_of d))
    told_plainly out e = sym e ∙ told ∙ ap (outcome here) (sym (get_or-map call_of calls n d))

    within : n < length plain
    within = omega (arith, length-map calls call_of)

    pub answered_turn : (next : Phase L) (answer : code_answer.Answer) (more : List code_answer.Answer) →
        step ≡ Some (next, answer) → more ≡ answers ++ (answer ∷ []) →
        map answer_of more ++ transcript_from (n + 1) (state_of order next) (drop (n + 1) plain) ≡ total
    answered_turn next answer more is pushed =
        let left : List Answer = transcript_from (n + 1) (state_of order next) (drop (n + 1) plain) in
        ap (λ xs. map answer_of xs ++ left) pushed
        ∙ ap (λ done. done ++ left) (map-append answer_of answers (answer ∷ []))
        ∙ one_answered n here plain (map answer_of answers) total so_far (call_of d) within (answer_of answer) (state_of order next)
        (told_plainly (allowed (answer_of answer) (state_of order next)) (ap (outcome_of order) is))

    pub disallowed_turn : (more : List code_answer.Answer) → step ≡ None → more ≡ answers ++ (NotAllowed n ∷ []) → map answer_of more ≡ total
    disallowed_turn more is pushed =
        ap (map answer_of) pushed
        ∙ map-append answer_of answers (NotAllowed n ∷ [])
        ∙ one_disallowed n here plain (map answer_of answers) total so_far (call_of d) within (told_plainly disallowed (ap (outcome_of order) is))

  pub last_turn : length calls ≤ n → map answer_of answers ≡ total
  last_turn h = all_answered n here plain (map answer_of answers) total so_far (omega (arith, length-map calls call_of))
