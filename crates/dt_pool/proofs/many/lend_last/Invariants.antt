use Rattle.std.proofs.Common.{◌≡◌, ◌<◌, ◌≤◌, ◌+◌, ℕ, Some, length, slice_get, slice_index_or, vec_capacity, vec_len}
use Rattle.dt_pool.proofs.many.lend_last.Given as goal

-- the helpers from `place` on have the last items, and the list has those before them
abbrev pub invariant-loop-place : goal.invariant-loop-place
invariant-loop-place g l = record {
  within : l.place ≤ length l.helpers;
  many : length l.helpers ≡ length l.fn.helpers;
  len : vec_len l.items + length l.helpers ≡ vec_len l.fn.items + l.place;
  room : vec_capacity l.items ≡ vec_capacity l.fn.items;
  front : (k : ℕ) (d : g.row.X.Denot) → k < vec_len l.items → slice_index_or l.items.items k d ≡ slice_index_or l.fn.items.items k d;
  lent : (k : ℕ) (d : g.row.X.Denot) → k + l.place < length l.helpers → slice_get l.helpers (k + l.place) ≡ Some (Some (slice_index_or l.fn.items.items (vec_len l.items + k) d));
}

abbrev pub decreases-loop-place : goal.decreases-loop-place
decreases-loop-place g l = l.place
