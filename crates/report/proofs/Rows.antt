-- The rows of a sheet, line by line. Assumes nothing.
use Rattle.std.proofs.Common.{◌≡◌, ℕ, zero, suc, ◌+◌, ◌*◌, ◌<◌, ◌≤◌, List, [], ◌∷◌, ◌++◌, length, get_or, refl, ap, arith, w32, to_z}
use Rattle.std.specs.List.{flat_map}
use Rattle.std.specs.Simd.{first_chunks}
use Rattle.report.specs.Report.{row, rows}

abbrev pub line_row : List ℕ → List ℕ
line_row line = row (get_or line 0 0) (to_z w32 (get_or line 1 0 + get_or line 2 0 * 256 + get_or line 3 0 * 65536 + get_or line 4 0 * 16777216))

pub rows_by_line : (k : ℕ) (xs : List ℕ) → k * 5 ≤ length xs → length xs < k * 5 + 5 → flat_map line_row (first_chunks 5 k xs) ≡ rows xs
unfolding rows
rows_by_line zero [] low high = refl
rows_by_line zero (a ∷ []) low high = refl
rows_by_line zero (a ∷ b ∷ []) low high = refl
rows_by_line zero (a ∷ b ∷ c ∷ []) low high = refl
rows_by_line zero (a ∷ b ∷ c ∷ d ∷ []) low high = refl
rows_by_line zero (a ∷ b ∷ c ∷ d ∷ e ∷ xs) low high = absurd (omega arith)
rows_by_line (suc k) [] low high = absurd (omega arith)
rows_by_line (suc k) (a ∷ []) low high = absurd (omega arith)
rows_by_line (suc k) (a ∷ b ∷ []) low high = absurd (omega arith)
rows_by_line (suc k) (a ∷ b ∷ c ∷ []) low high = absurd (omega arith)
rows_by_line (suc k) (a ∷ b ∷ c ∷ d ∷ []) low high = absurd (omega arith)
rows_by_line (suc k) (a ∷ b ∷ c ∷ d ∷ e ∷ xs) low high =
    ap (λ rest. line_row (a ∷ b ∷ c ∷ d ∷ e ∷ []) ++ rest) (rows_by_line k xs (omega arith) (omega arith))
