-- The built-in cluster can be.
use Rattle.std.proofs.Common.{inl, ℕ, ◌≤◌, refl, arith}
use Rattle.dt_proc.proofs.Callers.{builtin_sound}
use Rattle.dt_cluster.specs.Builtin.{builtin_cluster}
use Rattle.dt_cluster.specs.Valid.{IsValidCluster}

-- the built-in cluster of 1 to 8 regions can be
pub builtin_valid : (regions : ℕ) → 1 ≤ regions → regions ≤ 8 → IsValidCluster (builtin_cluster regions)
builtin_valid regions some few = record {
  some_version = omega arith;
  known_version = omega arith;
  some = some;
  few = few;
  some_worker = omega arith;
  few_workers = omega arith;
  tries = omega arith;
  few_tries = omega arith;
  drop = inl refl;
  repeat = omega arith;
  procs = builtin_sound;
  home_keys = tt;
  home_units = tt;
  homes_once = tt;
  homes = tt;
  row_keys = tt;
  rows_once = tt;
  rows = tt;
}
