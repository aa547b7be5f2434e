-- The worked cases of docs/, said of the definitions that the contracts cite. Assumes nothing.
use Rattle.std.specs.Prelude.{◌≡◌, List, [], ◌∷◌, ◌++◌, true, false, ℕ, ℤ, pos, negsuc, get_or, length, take, replicate, slice_set}
use Rattle.lattice.specs.Order.{Order}
use Rattle.lattice.specs.Kinds.{ladder, owners, flip, pair}
use Rattle.job.specs.declared.field.InstructionField.TheVariants.{Operation, Junction, Operand}
use Rattle.job.specs.declared.field.ClaimField.TheVariants.{Mark, Depth, Surrounding, Kind, Level}
use Rattle.checker.specs.Faults.{Answered, accepted, nothing, byte, instruction_field, claim_field, variable, successor, exit, region}
use Rattle.checker.specs.Verdict.{verdict, decoded_code}
use Rattle.push.specs.Numbers.{sum, difference}
use Rattle.job.specs.Layout.{opening}
use Rattle.controller.specs.State.{ReadyState, RunningState, started_state, advance_outcome, end_outcome}
use Rattle.cases.specs.Jobs.{load_store, job_b, copy_job, swap_job, drop_job, bool_job, on_ints, goto_itself, levels_with}

abbrev pub ladder_and_flip : Order
ladder_and_flip = pair (ladder 4) (flip (ladder 4))

-- Mount of job B over a ladder of 16, with v1 and v2 at level 3: one of its bytes is changed, or two are.
abbrev pub b_with : ℕ → ℕ → Answered
b_with place content = verdict (ladder 16) (levels_with 0) (slice_set (job_b 7 3) place content)

abbrev pub b_with_both : ℕ → ℕ → ℕ → ℕ → Answered
b_with_both place content other also =
    verdict (ladder 16) (levels_with 0)
    (slice_set (slice_set (job_b 7 3) place content) other also)

-- A job on a controller over a ladder of 16 and some values, advanced once with a budget; and the end after that.
abbrev pub holding : List ℕ → List ℤ → ReadyState Order
holding job values =
    record {
      lattice = ladder 16;
      levels = levels_with 0;
      values = values;
      program = decoded_code job (opening job);
    }

abbrev pub ran : List ℕ → List ℤ → ℕ → (ℕ × ℕ) × RunningState Order
ran job values budget = advance_outcome (started_state (holding job values)) budget

abbrev pub ended : List ℕ → List ℤ → ℕ → ℕ × ReadyState Order
ended job values budget = end_outcome (ran job values budget).1

-- What advances answer that are made one after the other, with the budgets of a list: on a running controller, and on
-- one that has just started a job on some values.
abbrev pub advances_from : RunningState Order → List ℕ → List (ℕ × ℕ)
advances_from s [] = []
advances_from s (budget ∷ budgets) =
    (advance_outcome s budget).0 ∷ advances_from (advance_outcome s budget).1 budgets

abbrev pub advances : List ℕ → List ℤ → List ℕ → List (ℕ × ℕ)
advances job values budgets = advances_from (started_state (holding job values)) budgets

-- v1 as given, the other values 0.
abbrev pub values_with : ℤ → List ℤ
values_with v1 = pos 0 ∷ v1 ∷ replicate 30 (pos 0)

pub record WorkedCases : Type 0 where
  -- with 4 owners
  pub five_not_at_most_nine : (owners 4).at_most 5 9 ≡ false
  pub five_join_three : (owners 4).join 5 3 ≡ 7
  pub five_meet_three : (owners 4).meet 5 3 ≡ 1
  -- in the pair of a ladder of 4 and the flip of a ladder of 4
  pub six_at_most_nine : ladder_and_flip.at_most 6 9 ≡ true
  pub lowest_is_three : ladder_and_flip.lowest ≡ 3
  pub highest_is_twelve : ladder_and_flip.highest ≡ 12
  -- where a product of spans passes 65,536, and where it does not
  pub too_wide : (pair (owners 16) (ladder 2)).span ≡ 0
  pub just_fits : (pair (owners 16) (ladder 1)).span ≡ 65536
  -- mount over a ladder of 16, with v1 and v2 at level 3: number, label and cause
  pub empty_job : verdict (ladder 16) (levels_with 0) (0 ∷ 0 ∷ 0 ∷ 0 ∷ []) ≡ accepted
  pub stored_as_high : verdict (ladder 16) (levels_with 3) (load_store 3) ≡ accepted
  pub stored_too_low : verdict (ladder 16) (levels_with 0) (load_store 3) ≡ (12, 1, variable 0)
  pub claimed_too_low : verdict (ladder 16) (levels_with 3) (load_store 2) ≡ (13, 0, successor 1)
  pub job_b_accepted : verdict (ladder 16) (levels_with 0) (job_b 7 3) ≡ accepted
  pub job_b_low_region : verdict (ladder 16) (levels_with 0) (job_b 7 0) ≡ (15, 3, region 6)
  pub job_b_late_junction : verdict (ladder 16) (levels_with 0) (job_b 8 3) ≡ (15, 3, region 7)
  pub job_b_early_junction : verdict (ladder 16) (levels_with 0) (job_b 6 3) ≡ (14, 3, exit 8)
  pub goto_itself_accepted : verdict (ladder 16) (levels_with 0) goto_itself ≡ accepted
  -- a copy, a swap and a drop: accepted, with a level claimed too low after it, and on a stack that does not fit
  pub copy_accepted : verdict (ladder 16) (levels_with 0) (copy_job 4) ≡ accepted
  pub copied_claimed_too_low :
      verdict (ladder 16) (levels_with 0) (copy_job 3) ≡ (13, 1, successor 2)
  pub copy_on_eight_places : verdict (ladder 16) (levels_with 0) (on_ints 11 8) ≡ (11, 1, nothing)
  pub swap_accepted : verdict (ladder 16) (levels_with 0) (swap_job 2 3 2) ≡ accepted
  pub top_claimed_too_low :
      verdict (ladder 16) (levels_with 0) (swap_job 4 3 4) ≡ (13, 2, successor 3)
  pub under_claimed_too_low :
      verdict (ladder 16) (levels_with 0) (swap_job 2 3 1) ≡ (13, 2, successor 3)
  pub swap_on_one_place : verdict (ladder 16) (levels_with 0) (on_ints 12 1) ≡ (11, 1, nothing)
  pub drop_accepted : verdict (ladder 16) (levels_with 0) (drop_job 3) ≡ accepted
  pub left_claimed_too_low : verdict (ladder 16) (levels_with 0) (drop_job 2) ≡ (13, 2, successor 3)
  pub drop_on_no_place : verdict (ladder 16) (levels_with 0) (on_ints 13 0) ≡ (11, 1, nothing)
  pub bool_accepted : verdict (ladder 16) (levels_with 0) (bool_job 1) ≡ accepted
  pub bool_claimed_under : verdict (ladder 16) (levels_with 0) (bool_job 0) ≡ (13, 6, successor 7)
  -- bytes that are no job: the byte place
  pub no_bytes : verdict (ladder 16) (levels_with 0) [] ≡ (4, 0, byte 0)
  pub three_bytes : verdict (ladder 16) (levels_with 0) (0 ∷ 0 ∷ 0 ∷ []) ≡ (4, 0, byte 0)
  pub two_bytes : verdict (ladder 16) (levels_with 0) (129 ∷ 0 ∷ []) ≡ (4, 0, byte 0)
  pub many_instructions :
      verdict (ladder 16) (levels_with 0) (129 ∷ 0 ∷ 9 ∷ 0 ∷ []) ≡ (5, 0, byte 0)
  pub many_places : verdict (ladder 16) (levels_with 0) (128 ∷ 0 ∷ 9 ∷ 0 ∷ []) ≡ (6, 0, byte 2)
  pub no_records : verdict (ladder 16) (levels_with 0) (1 ∷ 0 ∷ 0 ∷ 0 ∷ []) ≡ (7, 0, byte 4)
  pub no_room : verdict (ladder 16) (levels_with 0) (0 ∷ 0 ∷ 0 ∷ 0 ∷ 0 ∷ []) ≡ (7, 0, byte 4)
  pub last_byte_missing :
      verdict (ladder 16) (levels_with 0) (take 131 (job_b 7 3)) ≡ (7, 0, byte 131)
  pub byte_too_much :
      verdict (ladder 16) (levels_with 0) (job_b 7 3 ++ 0 ∷ 0 ∷ []) ≡ (7, 0, byte 132)
  -- an instruction record: the field, and its byte place
  pub store_to_32 :
      verdict (ladder 16) (levels_with 3) (slice_set (load_store 3) 12 32)
      ≡ (8, 1, instruction_field Operand 12)
  pub operation_0 : b_with 28 0 ≡ (8, 4, instruction_field Operation 28)
  pub operation_14 : b_with 28 14 ≡ (8, 4, instruction_field Operation 28)
  pub operation_before_junction : b_with_both 28 14 29 1 ≡ (8, 4, instruction_field Operation 28)
  pub junction_byte_of_push : b_with 29 1 ≡ (8, 4, instruction_field Junction 29)
  pub operand_of_eq : b_with 18 1 ≡ (8, 2, instruction_field Operand 18)
  pub negative_operand : b_with 51 128 ≡ (8, 7, instruction_field Operand 48)
  pub target_above_exit : b_with 24 9 ≡ (8, 3, instruction_field Operand 24)
  pub junction_before_target : b_with_both 23 9 24 9 ≡ (8, 3, instruction_field Junction 23)
  pub instructions_before_claims : b_with_both 52 2 46 14 ≡ (8, 7, instruction_field Operation 46)
  -- a claim record: the field, and its byte place
  pub place_at_16 :
      verdict (ladder 16) (levels_with 3) (load_store 16) ≡ (9, 1, claim_field (Level 0) 28)
  pub mark_2 : b_with 72 2 ≡ (9, 2, claim_field Mark 72)
  pub depth_without_claim : b_with 72 0 ≡ (9, 2, claim_field Depth 73)
  pub surrounding_without_claim : b_with 92 0 ≡ (9, 4, claim_field Surrounding 94)
  pub kind_without_claim : b_with_both 82 0 83 0 ≡ (9, 3, claim_field (Kind 0) 86)
  pub level_without_claim : b_with_both 62 0 63 0 ≡ (9, 1, claim_field (Level 0) 67)
  pub depth_3 : b_with 73 3 ≡ (9, 2, claim_field Depth 73)
  pub surrounded_by_16 : b_with 94 16 ≡ (9, 4, claim_field Surrounding 94)
  pub kind_2 : b_with 86 2 ≡ (9, 3, claim_field (Kind 0) 86)
  pub kind_2_under : b_with 79 2 ≡ (9, 2, claim_field (Kind 1) 79)
  pub level_16_under : b_with 80 16 ≡ (9, 2, claim_field (Level 1) 80)
  pub level_259_under : b_with 81 1 ≡ (9, 2, claim_field (Level 1) 80)
  pub kind_past_the_depth : b_with 69 1 ≡ (9, 1, claim_field (Kind 1) 69)
  pub level_past_the_depth : b_with 71 1 ≡ (9, 1, claim_field (Level 1) 70)
  -- a rule of claims: the variable, the first successor and the lowest label of the region
  pub entry_claims_an_int : b_with 53 1 ≡ (10, 0, nothing)
  pub store_surrounded_by_15 : b_with 124 15 ≡ (12, 7, variable 2)
  pub target_refuses : b_with 113 1 ≡ (13, 3, successor 6)
  pub next_and_target_refuse : b_with_both 93 1 113 1 ≡ (13, 3, successor 4)
  pub two_of_the_region_too_low : b_with_both 104 0 114 0 ≡ (15, 3, region 5)
  -- runs: status and steps, what end answers, and v2 or v3 then
  pub empty_job_stays_halted : (values : List ℤ) (budgets : List ℕ) →
      advances (0 ∷ 0 ∷ 0 ∷ 0 ∷ []) values budgets ≡ replicate (length budgets) (1, 0)
  pub job_b_runs : (ran (job_b 7 3) (values_with (pos 0)) 100).0 ≡ (1, 7)
  pub job_b_ends : (ended (job_b 7 3) (values_with (pos 0)) 100).0 ≡ 1
  pub job_b_stores_five :
      get_or (ended (job_b 7 3) (values_with (pos 0)) 100).1.values 2 (pos 0) ≡ pos 5
  pub job_b_runs_shorter : (ran (job_b 7 3) (values_with (pos 4)) 100).0 ≡ (1, 6)
  pub job_b_ends_shorter : (ended (job_b 7 3) (values_with (pos 4)) 100).0 ≡ 1
  pub job_b_stores_nine :
      get_or (ended (job_b 7 3) (values_with (pos 4)) 100).1.values 2 (pos 0) ≡ pos 9
  pub goto_itself_goes_on : (ran goto_itself (values_with (pos 0)) 1000).0 ≡ (0, 1000)
  pub goto_itself_ends_unfinished : (ended goto_itself (values_with (pos 0)) 1000).0 ≡ 0
  pub goto_itself_gives_values_back :
      (ended goto_itself (values_with (pos 4)) 1000).1.values ≡ values_with (pos 4)
  pub copy_runs : (ran (copy_job 4) (values_with (pos 7)) 100).0 ≡ (1, 4)
  pub copy_ends : (ended (copy_job 4) (values_with (pos 7)) 100).0 ≡ 1
  pub copy_adds_to_itself :
      get_or (ended (copy_job 4) (values_with (pos 7)) 100).1.values 3 (pos 0) ≡ pos 14
  pub copy_runs_past_the_top : (ran (copy_job 4) (values_with (pos 2000000000)) 100).0 ≡ (1, 4)
  pub copy_ends_past_the_top : (ended (copy_job 4) (values_with (pos 2000000000)) 100).0 ≡ 1
  pub copy_adds_up_to_the_top :
      get_or (ended (copy_job 4) (values_with (pos 2000000000)) 100).1.values 3 (pos 0)
      ≡ pos 2147483647
  pub swap_runs : (ran (swap_job 2 3 2) (values_with (pos 7)) 100).0 ≡ (1, 5)
  pub swap_ends : (ended (swap_job 2 3 2) (values_with (pos 7)) 100).0 ≡ 1
  pub swap_subtracts_v1 :
      get_or (ended (swap_job 2 3 2) (values_with (pos 7)) 100).1.values 3 (pos 0) ≡ negsuc 3
  pub drop_runs : (ran (drop_job 3) (values_with (pos 7)) 100).0 ≡ (1, 4)
  pub drop_ends : (ended (drop_job 3) (values_with (pos 7)) 100).0 ≡ 1
  pub drop_leaves_v1 :
      get_or (ended (drop_job 3) (values_with (pos 7)) 100).1.values 3 (pos 0) ≡ pos 7
  pub bool_runs : (ran (bool_job 1) (values_with (pos 1)) 100).0 ≡ (1, 9)
  pub bool_ends : (ended (bool_job 1) (values_with (pos 1)) 100).0 ≡ 1
  pub bool_is_dropped :
      get_or (ended (bool_job 1) (values_with (pos 1)) 100).1.values 3 (pos 0) ≡ pos 7
  -- sums past the ends of 32 bits
  pub sum_past_the_top : sum (pos 2147483647) (pos 1) ≡ pos 2147483647
  pub sum_past_the_bottom : sum (negsuc 2147483647) (negsuc 0) ≡ negsuc 2147483647
  pub difference_past_the_bottom : difference (negsuc 2147483647) (pos 1) ≡ negsuc 2147483647
  pub difference_past_the_top : difference (pos 2147483647) (negsuc 0) ≡ pos 2147483647
