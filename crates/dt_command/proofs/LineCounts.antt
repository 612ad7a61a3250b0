-- A file has no more events than bytes.
use Rattle.std.proofs.Common.{ℕ, suc, ◌+◌, ◌≤◌, true, false, cond, ◌==◌, List, [], ◌∷◌, length, arith}
use Rattle.std.specs.List.{onto_first}
use Rattle.dt_lists.proofs.Callers.{pairwise_length}
use Rattle.dt_text.specs.Lines.{cut_lines, is_skipped, kept_lines, lines_of}
use Rattle.dt_events.specs.declared.Event.{Event}
use Rattle.dt_events.specs.Events.{AreEvents, IsNumberedEvent}

-- a byte put before the first line makes one line at most
onto_one : (b n : ℕ) (lines : List (List ℕ)) → length lines ≤ n → length (onto_first b lines) ≤ suc n
onto_one b n [] few = omega arith
onto_one b n (line ∷ lines) few = omega (arith, few)

-- there are no more lines than bytes
few_lines : (file : List ℕ) → length (cut_lines file) ≤ length file
few_lines [] = omega arith
few_lines (b ∷ bs) =
    elim (b == 10) as (λ ends. length (cond ends ([] ∷ cut_lines bs) (onto_first b (cut_lines bs))) ≤ suc (length bs))
    [ true ↦ omega (arith, few_lines bs) | false ↦ onto_one b (length bs) (cut_lines bs) (few_lines bs) ]

-- and no more that are not skipped
few_kept : (number : ℕ) (lines : List (List ℕ)) → length (kept_lines number lines) ≤ length lines
few_kept number [] = omega arith
few_kept number (line ∷ lines) =
    elim (is_skipped line) as (λ skipped. length (cond skipped (kept_lines (number + 1) lines) (record { number = number; bytes = line } ∷ kept_lines (number + 1) lines)) ≤ suc (length lines))
    [ true ↦ omega (arith, few_kept (number + 1) lines) | false ↦ omega (arith, few_kept (number + 1) lines) ]

-- a file has no more events than bytes
pub few_events : (file : List ℕ) (events : List (ℕ × Event)) → AreEvents file events → length events ≤ length file
few_events file events are =
    omega (arith, pairwise_length IsNumberedEvent (lines_of file) events are, few_kept 1 (cut_lines file), few_lines file)
