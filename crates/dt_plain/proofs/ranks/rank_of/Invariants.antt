use Rattle.std.proofs.Common.{◌≡◌, drop}
use Rattle.dt_sched.specs.Views.{rank_of}
use Rattle.dt_plain.proofs.ranks.rank_of.Given as goal

abbrev pub invariant-loop-log : goal.invariant-loop-log
invariant-loop-log l = rank_of (drop l.log-index l.logs) l.id ≡ rank_of l.logs l.id
