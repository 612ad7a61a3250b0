-- The lines of a file are no longer than the file.
use Rattle.std.proofs.Common.{ℕ, suc, ◌+◌, ◌≤◌, Bool, true, false, cond, ◌==◌, List, [], ◌∷◌, length, arith}
use Rattle.std.specs.List.{onto_first}
use Rattle.dt_lists.specs.Lists.{AllIn}
use Rattle.dt_text.specs.Lines.{FileLine, lines_of, cut_lines, kept_lines, is_skipped}

-- a line of a file is no longer than the file
abbrev pub IsLineWithin : ℕ → FileLine → Type 0
IsLineWithin most line = length line.bytes ≤ most

within-weaker : (n : ℕ) (ls : List (List ℕ)) → AllIn (λ l. length l ≤ n) ls → AllIn (λ l. length l ≤ suc n) ls
within-weaker n [] all = tt
within-weaker n (l ∷ ls) all = (omega (arith, all.0), within-weaker n ls all.1)

within-onto : (b n : ℕ) (ls : List (List ℕ)) → AllIn (λ l. length l ≤ n) ls → AllIn (λ l. length l ≤ suc n) (onto_first b ls)
within-onto b n [] all = (omega arith, tt)
within-onto b n (l ∷ ls) all = (omega (arith, all.0), within-weaker n ls all.1)

within-cut : (ends : Bool) (b n : ℕ) (ls : List (List ℕ)) → AllIn (λ l. length l ≤ n) ls → AllIn (λ l. length l ≤ suc n) (cond ends ([] ∷ ls) (onto_first b ls))
within-cut true b n ls all = (omega arith, within-weaker n ls all)
within-cut false b n ls all = within-onto b n ls all

cut_lines-within : (bs : List ℕ) → AllIn (λ l. length l ≤ length bs) (cut_lines bs)
cut_lines-within [] = tt
cut_lines-within (b ∷ bs) = within-cut (b == 10) b (length bs) (cut_lines bs) (cut_lines-within bs)

within-kept : (most number : ℕ) (l : List ℕ) (kept : List FileLine) (skipped : Bool) → length l ≤ most → AllIn (IsLineWithin most) kept
    → AllIn (IsLineWithin most) (cond skipped kept (record { number = number; bytes = l } ∷ kept))
within-kept most number l kept true within all = all
within-kept most number l kept false within all = (within, all)

kept-within : (most number : ℕ) (ls : List (List ℕ)) → AllIn (λ l. length l ≤ most) ls → AllIn (IsLineWithin most) (kept_lines number ls)
kept-within most number [] all = tt
kept-within most number (l ∷ ls) all =
    within-kept most number l (kept_lines (number + 1) ls) (is_skipped l) all.0 (kept-within most (number + 1) ls all.1)

pub lines_of-within : (file : List ℕ) → AllIn (IsLineWithin (length file)) (lines_of file)
lines_of-within file = kept-within (length file) 1 (cut_lines file) (cut_lines-within file)
