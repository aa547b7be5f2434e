-- What the calls for an input answer before those that are made after its values are set. Assumes nothing.
use Rattle.std.proofs.Common.{◌≡◌, ℕ, zero, suc, ◌+◌, ◌<◌, Bool, true, false, cond, ltb, ◌&&◌, List, ◌∷◌, ◌++◌, map, length, get_or, set, replicate, ℤ, pos, Some, None, Option, refl, ap, ap₂, ◌∙◌, arith}
use lib.ListN.{length-replicate}
use Rattle.std.specs.List.{list_all, range_with_len}
use Rattle.std.proofs.lemmas.List.{length-set}
use Rattle.std.proofs.lemmas.List.Edits.{fill_by_more}
use Rattle.std.proofs.lemmas.Bool.{lt-ltb}
use Rattle.lattice.specs.Order.{Order}
use Rattle.push.specs.declared.instruction.Instruction.{Instruction}
use Rattle.job.specs.First.{all_below}
use Rattle.job.specs.Layout.{opening}
use Rattle.job.proofs.AllBelow.{all_of_range}
use Rattle.checker.specs.declared.fault.MountFault.{MountFault}
use Rattle.checker.specs.Faults.{Answered}
use Rattle.checker.specs.Verdict.{first_fault, decoded_code}
use Rattle.controller.specs.State.{SetupState, ReadyState, mount_outcome, mounted as mounted_by}
use Rattle.controller.specs.Lists as lists
use Rattle.controller.specs.Lists.{Call, in_setup, is_ready, graded, mounted, was_set, seal, mount, the_order, transcript_from, transcript}
use Rattle.report.specs.Input.{level, value, each, job, all_levels, sealed_controller, with_values}
use Rattle.report.specs.Report.{bad_input, answers_text}
use Rattle.report.proofs.EachFacts.{each_at, each_is}

module _ (o : Order) (bytes : List ℕ) (rest : List Call) where
  abbrev is_level : ℕ → Bool
  is_level variable = ltb (level bytes variable) o.span

  abbrev grades : ℕ → ℕ → List Call
  grades i n = map (λ variable. lists.grade variable (level bytes variable)) (range_with_len i n) ++ rest

  abbrev sets : ℕ → ℕ → List Call
  sets i n = map (λ variable. lists.set variable (value bytes variable)) (range_with_len i n) ++ rest

  -- the text of calls that are made in setup, with these levels
  abbrev in_setup_text : ℕ → List ℕ → List Call → List ℕ
  in_setup_text position levels calls = answers_text (transcript_from position (in_setup (record { lattice = o; levels = levels })) calls)

  -- the text of a mount's answer and of calls that are made after it
  abbrev mounted_text : Option MountFault → ℕ → ReadyState Order → List Call → List ℕ
  mounted_text found position s calls = answers_text (mounted found ∷ transcript_from position (is_ready s) calls)

  -- a grade leaves no line, and one that is refused makes the input bad
  text_graded : (n i : ℕ) (levels : List ℕ) → i + n ≡ 32 → length levels ≡ 32 → ((k : ℕ) → k < i → get_or levels k 0 ≡ level bytes k) →
      in_setup_text i levels (grades i n)
      ≡ cond (list_all is_level (range_with_len i n)) (in_setup_text 32 (each (level bytes)) rest) bad_input
  text_graded zero i levels all long done =
      let at : i ≡ 32 = omega arith in
      ap₂ (λ position held. in_setup_text position held rest) at (each_at (level bytes) levels 0 long (λ k h. done k (omega arith)))
  text_graded (suc n) i levels all long done =
      let l = level bytes i in
      let next_levels = set levels i l in
      let s : SetupState Order = record { lattice = o; levels = levels } in
      let fitting : Bool → ℕ × SetupState Order = λ fits. cond fits (0, record s { levels = next_levels }) (2, s) in
      let out : Bool → Bool → ℕ × SetupState Order = λ known fits. cond known (fitting fits) (1, s) in
      let text_of : ℕ × SetupState Order → List ℕ =
      λ graded_by. answers_text (graded graded_by.0 ∷ transcript_from (i + 1) (in_setup graded_by.1) (grades (i + 1) n)) in
      let next_done = fill_by_more (level bytes) levels i 0 (omega arith) done in
      let next = text_graded n (i + 1) next_levels (omega arith) (length-set levels i l ∙ long) next_done in
      let wanted : Bool → List ℕ =
      λ fits. cond (fits && list_all is_level (range_with_len (i + 1) n)) (in_setup_text 32 (each (level bytes)) rest) bad_input in
      ap (λ known. text_of (out known (is_level i))) (lt-ltb i 32 (omega arith))
      ∙ elim (is_level i) as (λ fits. text_of (out true fits) ≡ wanted fits) [ true ↦ next | false ↦ refl ]

  -- a set is never refused, and leaves no line
  text_set : (n i position : ℕ) (found : Option MountFault) (l : Order) (levels : List ℕ) (values : List ℤ) (program : List Instruction) → i + n ≡ 32 →
      position + n ≡ 66 → length values ≡ 32 → ((k : ℕ) → k < i → get_or values k (pos 0) ≡ value bytes k) →
      mounted_text found position (record { lattice = l; levels = levels; values = values; program = program }) (sets i n)
      ≡ mounted_text found 66 (record { lattice = l; levels = levels; values = each (value bytes); program = program }) rest
  text_set zero i position found l levels values program all end long done =
      let at : position ≡ 66 = omega arith in
      ap₂ (λ p held. mounted_text found p (record { lattice = l; levels = levels; values = held; program = program }) rest) at
      (each_at (value bytes) values (pos 0) long (λ k h. done k (omega arith)))
  text_set (suc n) i position found l levels values program all end long done =
      let x = value bytes i in
      let holding : List ℤ → ReadyState Order = λ held. record { lattice = l; levels = levels; values = held; program = program } in
      let out : Bool → ℕ × ReadyState Order = λ known. cond known (0, holding (set values i x)) (1, holding values) in
      let text_of : ℕ × ReadyState Order → List ℕ =
      λ s. answers_text (mounted found ∷ was_set s.0 ∷ transcript_from (position + 1) (is_ready s.1) (sets (i + 1) n)) in
      let next_done = fill_by_more (value bytes) values i (pos 0) (omega arith) done in
      let next_long = length-set values i x ∙ long in
      ap (λ known. text_of (out known)) (lt-ltb i 32 (omega arith))
      ∙ text_set n (i + 1) (position + 1) found l levels (set values i x) program (omega arith) (omega arith) next_long next_done

-- a mount leaves the lattice and the values
pub lattice_stays : (s : ReadyState Order) (found : Option MountFault) (program : List Instruction) → (mounted_by s found program).1.lattice ≡ s.lattice
lattice_stays s None program = refl
lattice_stays s (Some fault) program = refl

values_stay : (s : ReadyState Order) (found : Option MountFault) (program : List Instruction) → (mounted_by s found program).1.values ≡ s.values
values_stay s None program = refl
values_stay s (Some fault) program = refl

-- the calls for an input, with others after its values are set
abbrev pub calls_then : List ℕ → List Call → List Call
calls_then bytes after =
    each (λ variable. lists.grade variable (level bytes variable))
    ++ (seal ∷ mount (job bytes) ∷ (each (λ variable. lists.set variable (value bytes variable)) ++ after))

module _ (o : Order) (bytes : List ℕ) (after : List Call) where
  -- the mount of the job on the graded and sealed controller
  abbrev mounting : Answered × ReadyState Order
  mounting = mount_outcome the_order (sealed_controller o bytes) (job bytes)

  abbrev text : List ℕ
  text = answers_text (mounted (first_fault o (each (level bytes)) (job bytes)) ∷ transcript_from 66 (is_ready (with_values bytes mounting.1)) after)

  abbrev after_grades : List Call → List Call
  after_grades sets = seal ∷ mount (job bytes) ∷ (sets ++ after)

  text_by : (n : ℕ) → n ≡ 32 → answers_text (transcript o (calls_then bytes after)) ≡ cond (all_levels o bytes) text bad_input
  text_by n e =
      let all_graded : ℕ → Bool = λ variable. ltb (level bytes variable) o.span in
      let grading : ℕ → Call = λ variable. lists.grade variable (level bytes variable) in
      let setting : ℕ → Call = λ variable. lists.set variable (value bytes variable) in
      let sets = after_grades (each setting) in
      let found = first_fault o (each (level bytes)) (job bytes) in
      let kept = values_stay (sealed_controller o bytes) found (decoded_code (job bytes) (opening (job bytes))) in
      let s = mounting.1 in
      let long : length s.values ≡ 32 = ap length kept ∙ length-replicate 32 (pos 0) in
      let graded = in_setup_text o bytes sets 32 (each (level bytes)) in
      ap (λ grades. answers_text (transcript o (grades ++ sets))) (each_is grading n e)
      ∙ text_graded o bytes sets n 0 (replicate 32 o.highest) (omega (arith, e)) (length-replicate 32 o.highest) (λ k h. absurd (omega arith))
      ∙ ap₂ (λ fit shown. cond fit shown bad_input) (all_of_range all_graded n ∙ ap (all_below all_graded) e)
      (ap (λ sets. graded (after_grades sets)) (each_is setting n e)
      ∙ text_set o bytes after n 0 34 found s.lattice s.levels s.values s.program (omega (arith, e)) (omega (arith, e)) long (λ k h. absurd (omega arith)))

  pub text_of_calls : answers_text (transcript o (calls_then bytes after)) ≡ cond (all_levels o bytes) text bad_input
  text_of_calls = text_by 32 refl
