-- Every worked case computes to its answer; that the empty job has halted is by induction on the budgets. Assumes nothing.
use Rattle.std.proofs.Common.{◌≡◌, ℕ, zero, suc, ℤ, List, [], ◌∷◌, length, replicate, refl, ap}
use Rattle.push.specs.Run.{run}
use Rattle.job.specs.First.{first_below}
use Rattle.checker.specs.Region.{spread_below, spread_times}
use Rattle.checker.specs.Verdict.{code_below}
use Rattle.cases.specs.Worked.{WorkedCases, advances}

-- The empty job has halted when it is started, and no advance changes that.
stays_halted : (values : List ℤ) (budgets : List ℕ) → advances (0 ∷ 0 ∷ 0 ∷ 0 ∷ []) values budgets ≡ replicate (length budgets) (1, 0)
unfolding run code_below
stays_halted values [] = refl
stays_halted values (zero ∷ budgets) = ap (λ answers. (1, 0) ∷ answers) (stays_halted values budgets)
stays_halted values (suc budget ∷ budgets) = ap (λ answers. (1, 0) ∷ answers) (stays_halted values budgets)

pub rows : WorkedCases
unfolding first_below spread_below spread_times code_below run
rows = record {
  five_not_at_most_nine = refl;
  five_join_three = refl;
  five_meet_three = refl;
  six_at_most_nine = refl;
  lowest_is_three = refl;
  highest_is_twelve = refl;
  too_wide = refl;
  just_fits = refl;
  empty_job = refl;
  stored_as_high = refl;
  stored_too_low = refl;
  claimed_too_low = refl;
  job_b_accepted = refl;
  job_b_low_region = refl;
  job_b_late_junction = refl;
  job_b_early_junction = refl;
  goto_itself_accepted = refl;
  copy_accepted = refl;
  copied_claimed_too_low = refl;
  copy_on_eight_places = refl;
  swap_accepted = refl;
  top_claimed_too_low = refl;
  under_claimed_too_low = refl;
  swap_on_one_place = refl;
  drop_accepted = refl;
  left_claimed_too_low = refl;
  drop_on_no_place = refl;
  bool_accepted = refl;
  bool_claimed_under = refl;
  no_bytes = refl;
  three_bytes = refl;
  two_bytes = refl;
  many_instructions = refl;
  many_places = refl;
  no_records = refl;
  no_room = refl;
  last_byte_missing = refl;
  byte_too_much = refl;
  store_to_32 = refl;
  operation_0 = refl;
  operation_14 = refl;
  operation_before_junction = refl;
  junction_byte_of_push = refl;
  operand_of_eq = refl;
  negative_operand = refl;
  target_above_exit = refl;
  junction_before_target = refl;
  instructions_before_claims = refl;
  place_at_16 = refl;
  mark_2 = refl;
  depth_without_claim = refl;
  surrounding_without_claim = refl;
  kind_without_claim = refl;
  level_without_claim = refl;
  depth_3 = refl;
  surrounded_by_16 = refl;
  kind_2 = refl;
  kind_2_under = refl;
  level_16_under = refl;
  level_259_under = refl;
  kind_past_the_depth = refl;
  level_past_the_depth = refl;
  entry_claims_an_int = refl;
  store_surrounded_by_15 = refl;
  target_refuses = refl;
  next_and_target_refuse = refl;
  two_of_the_region_too_low = refl;
  empty_job_stays_halted = stays_halted;
  job_b_runs = refl;
  job_b_ends = refl;
  job_b_stores_five = refl;
  job_b_runs_shorter = refl;
  job_b_ends_shorter = refl;
  job_b_stores_nine = refl;
  goto_itself_goes_on = refl;
  goto_itself_ends_unfinished = refl;
  goto_itself_gives_values_back = refl;
  copy_runs = refl;
  copy_ends = refl;
  copy_adds_to_itself = refl;
  copy_runs_past_the_top = refl;
  copy_ends_past_the_top = refl;
  copy_adds_up_to_the_top = refl;
  swap_runs = refl;
  swap_ends = refl;
  swap_subtracts_v1 = refl;
  drop_runs = refl;
  drop_ends = refl;
  drop_leaves_v1 = refl;
  bool_runs = refl;
  bool_ends = refl;
  bool_is_dropped = refl;
  sum_past_the_top = refl;
  sum_past_the_bottom = refl;
  difference_past_the_bottom = refl;
  difference_past_the_top = refl;
}
