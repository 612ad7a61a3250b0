-- Why the sum of rows has 128 bits: each number has 64, and there are fewer rows than 2 ^ 64.
use Rattle.std.proofs.Common.{◌≡◌, ℕ, ◌+◌, ◌*◌, ◌<◌, ℤ, pos, ◌+ℤ◌, ◌≤ℤ◌, List, length, take, get_or, FitsSigned, w64, ap, ap₂, sym, ◌∙◌, arith}
use Rattle.std.proofs.lemmas.Int.{ints}
use Rattle.std.proofs.lemmas.List.Sums.{fold_more}
use Rattle.dt_table.specs.declared.Shown.{Shown}
use Rattle.dt_gen.specs.Summary.{number_of_row, row_sum}

-- the sum of the first n rows, which is no further from 0 than n numbers of 64 bits lead
pub record IsSumOf (rows : List Shown) (count : ℕ) (sum : ℤ) : Type 0 where
  pub is : sum ≡ row_sum (take count rows)
  pub low : pos 0 ≤ℤ (sum +ℤ pos (9223372036854775808 * count))
  pub high : sum ≤ℤ pos (9223372036854775808 * count)

-- one row more
pub sum_more : (rows : List Shown) (count : ℕ) (row : Shown) (sum number after : ℤ) → count < length rows → row ≡ get_or rows count row → FitsSigned w64 number
    → number ≡ number_of_row row.value → IsSumOf rows count sum → after ≡ sum +ℤ number → IsSumOf rows (count + 1) after
sum_more rows count row sum number after within there fits is so_far added = record {
  is =
      added ∙ ap₂ (λ s n. s +ℤ n) so_far.is (is ∙ ap (λ (r : Shown). number_of_row r.value) there)
      ∙ sym (fold_more (λ s (r : Shown). s +ℤ number_of_row r.value) (pos 0) rows count row within);
  low = let below = so_far.low in omega (arith, ints);
  high = let above = so_far.high in omega (arith, ints);
}
