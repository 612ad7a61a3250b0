use Rattle.std.proofs.Common.{◌≡◌, ◌<◌, ℕ}
use Rattle.dt_region.proofs.Drained.{HasInserted}
use Rattle.dt_region.proofs.alone.insert_some.Given as goal

abbrev pub invariant-loop-home : goal.invariant-loop-home
invariant-loop-home g l = record {
  same : l.region ≡ l.fn.region;
  all : (home : ℕ) → home < l.home → HasInserted l.fn.region.state home;
}
