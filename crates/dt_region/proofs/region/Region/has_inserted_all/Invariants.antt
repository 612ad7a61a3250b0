use Rattle.std.proofs.Common.{◌≡◌, ◌<◌, ℕ, length}
use Rattle.std.specs.Prelude.{slice_index}
use Rattle.dt_sched.specs.Views.{log_at}
use Rattle.dt_region.proofs.region.Region.has_inserted_all.Given as goal

abbrev pub invariant-loop-home : goal.invariant-loop-home
invariant-loop-home g l = (home : ℕ) → home < l.home → slice_index l.self.state.here.inserted home ≡ length (log_at l.self.state.logs home)
