use Rattle.std.proofs.Common.{◌≡◌, map}
use Rattle.std.specs.List.{range_with_len}
use Rattle.dt_session.specs.Sessions.{all_idle}
use Rattle.dt_world.proofs.world.sessions.Given as goal

abbrev pub invariant-loop-region : goal.invariant-loop-region
invariant-loop-region l = l.all.items ≡ map (λ region. all_idle l.cluster.tries region l.workload) (range_with_len 0 l.region)
