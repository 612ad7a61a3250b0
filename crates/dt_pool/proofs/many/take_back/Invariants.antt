use Rattle.std.proofs.Common.{◌≡◌, ◌<◌, ◌≤◌, ◌+◌, ℕ, Some, length, slice_get, slice_index_or, vec_capacity, vec_len}
use Rattle.dt_pool.proofs.many.take_back.Given as goal

-- what the helpers before `place` worked stands behind the list
abbrev pub invariant-loop-place : goal.invariant-loop-place
invariant-loop-place g l = record {
  many : length l.helpers ≡ length l.fn.helpers;
  same : (k : ℕ) → slice_get l.helpers k ≡ slice_get l.fn.helpers k;
  len : vec_len l.items ≡ vec_len l.fn.items + l.place;
  room : vec_capacity l.fn.items ≤ vec_capacity l.items;
  front : (k : ℕ) (d : g.row.X.Denot) → k < vec_len l.fn.items → slice_index_or l.items.items k d ≡ slice_index_or l.fn.items.items k d;
  back : (k : ℕ) (d old : g.row.X.Denot) → k < l.place → slice_get l.fn.helpers k ≡ Some (Some old) → g.N.Lending.goes old (slice_index_or l.items.items (vec_len l.fn.items + k) d);
}
