-- How the count and the lines of the open variables grow with each variable. Assumes nothing.
use Rattle.std.proofs.Common.{◌≡◌, ℕ, ℤ, zero, suc, ◌+◌, ◌-◌, ◌*◌, ◌<◌, ◌≤◌, true, false, cond, List, [], ◌++◌, length, get_or, take, drop, pos, sym, refl, ap, ap₂, ◌∙◌, append_assoc, append-nil, add-one, arith, length-append}
use native.Mathlib.Decide.{le_ind}
use borrow.Rule.Slice.PartMut.{put_mid}
use Rattle.std.proofs.lemmas.List.{take_all, take_at, drop_at, drop-drop, get_or_read}
use Rattle.std.proofs.lemmas.List.FromFn.{length-enumerate_from, get_or-enumerate_from}
use Rattle.std.proofs.lemmas.Slice.Zip.{length-zip, get_or-zip}
use Rattle.std.proofs.lemmas.List.Sums.{sum_by_more}
use Rattle.std.specs.List.{count_by, enumerate_from, zip}
use Rattle.lattice.specs.Order.{Order}
use Rattle.controller.specs.Sheet.{is_open, line, open_below, lines_below}

module _ (o : Order) (levels : List ℕ) (values : List ℤ) (observer : ℕ) where
  pub open_none : open_below o levels observer 0 ≡ 0
  unfolding open_below
  open_none = refl

  pub open_more : (n : ℕ) → open_below o levels observer (n + 1) ≡ open_below o levels observer n + cond (is_open o levels observer n) 1 0
  unfolding open_below
  open_more n = ap (open_below o levels observer) (add-one n)

  -- the open variables are those whose level is at most the observer's
  open_levels : (n : ℕ) → n ≤ length levels → open_below o levels observer n ≡ count_by (λ level. o.at_most level observer) (take n levels)
  unfolding open_below
  open_levels zero h = refl
  open_levels (suc n) h = grind (arith, open_levels n (omega arith), sum_by_more (λ level. cond (o.at_most level observer) 1 0) levels n 0 (omega arith))

  pub open_counted : length levels ≡ 32 → count_by (λ level. o.at_most level observer) levels ≡ open_below o levels observer 32
  open_counted h = sym (open_levels 32 (omega arith) ∙ ap (count_by (λ level. o.at_most level observer)) (take_all 32 levels (omega arith)))

  pub lines_none : lines_below o levels values observer 0 ≡ []
  unfolding lines_below
  lines_none = refl

  pub lines_more : (n : ℕ) →
      lines_below o levels values observer (n + 1)
      ≡ lines_below o levels values observer n ++ cond (is_open o levels observer n) (line n (get_or values n (pos 0))) []
  unfolding lines_below
  lines_more n = ap (lines_below o levels values observer) (add-one n)

  -- each open variable takes five bytes
  pub length_lines : (n : ℕ) → length (lines_below o levels values observer n) ≡ 5 * open_below o levels observer n
  unfolding open_below lines_below
  length_lines zero = refl
  length_lines (suc n) =
      let before = length_lines n in
      let both = length-append (lines_below o levels values observer n) (cond (is_open o levels observer n) (line n (get_or values n (pos 0))) []) in
      grind arith

  open_grows : (m n : ℕ) → m ≤ n → open_below o levels observer m ≤ open_below o levels observer n
  unfolding open_below
  open_grows m = le_ind (λ n. open_below o levels observer m ≤ open_below o levels observer n) (omega arith) (λ n h e. omega arith)

  pub open_at_most : (n : ℕ) → open_below o levels observer n ≤ n
  unfolding open_below
  open_at_most zero = omega arith
  open_at_most (suc n) = let few = open_at_most n in grind arith

  -- an open variable's line has room below the whole sheet's end
  pub room : (n : ℕ) → n < 32 → is_open o levels observer n ≡ true → 5 * open_below o levels observer n + 5 ≤ 5 * open_below o levels observer 32
  room n h k = let more = open_more n in let grows = open_grows (n + 1) 32 (omega arith) in grind (arith, k)

-- The values beside the levels, with their numbers: at the position n are those of the variable n.
pub pair_at : (values : List ℤ) (levels : List ℕ) (n : ℕ) (x : ℕ × (ℤ × ℕ)) →
    (n < length (enumerate_from 0 (zip values levels))) × (x ≡ get_or (enumerate_from 0 (zip values levels)) n x) →
    x ≡ (n, (get_or values n (pos 0), get_or levels n 0))
pair_at values levels n x turn =
    let within : n < length (zip values levels) = omega (arith, turn.0, length-enumerate_from 0 (zip values levels)) in
    let both = length-zip values levels in
    let from_none : 0 + n ≡ n = omega arith in
    get_or_read _ n x turn.0 turn.1 (0, (pos 0, 0))
    ∙ get_or-enumerate_from 0 (zip values levels) n _ within
    ∙ ap₂ (λ i pair. (i, pair)) from_none (get_or-zip values levels n _ (omega (arith, both)) (omega (arith, both)))

-- A line written behind what is written so far.
written_behind : (front old ys : List ℕ) (at : ℕ) → length front ≡ at → put_mid at (at + 5 - at) (front ++ drop at old) ys ≡ (front ++ ys) ++ drop (at + 5) old
written_behind front old ys at long =
    let five : at + 5 - at ≡ 5 = omega arith in
    let before : take at (front ++ drop at old) ≡ front = take_at front (drop at old) at long in
    let after : drop at (front ++ drop at old) ≡ drop at old = drop_at front (drop at old) at long in
    rw (five, before, after, drop-drop, append_assoc)

-- One turn of the loop that writes the lines: what is written so far, at the next variable.
module _ (o : Order) (levels : List ℕ) (values : List ℤ) (observer n at : ℕ) (old buffer : List ℕ)
    (so_far : at ≡ 5 * open_below o levels observer n)
    (held : buffer ≡ lines_below o levels values observer n ++ drop at old) where
  pub closed_turn : is_open o levels observer n ≡ false →
      (at ≡ 5 * open_below o levels observer (n + 1)) × (buffer ≡ lines_below o levels values observer (n + 1) ++ drop at old)
  closed_turn h = let more = open_more o levels values observer n in let lines = lines_more o levels values observer n in grind (arith, append-nil)

  pub open_turn : (ys : List ℕ) → ys ≡ line n (get_or values n (pos 0)) → is_open o levels observer n ≡ true →
      (at + 5 ≡ 5 * open_below o levels observer (n + 1))
      × (put_mid at (at + 5 - at) buffer ys ≡ lines_below o levels values observer (n + 1) ++ drop (at + 5) old)
  open_turn ys e h =
      let more = open_more o levels values observer n in
      let lines = lines_more o levels values observer n in
      let written = written_behind (lines_below o levels values observer n) old ys at (length_lines o levels values observer n ∙ sym so_far) in
      grind arith
