use Rattle.std.proofs.Common.{◌+◌, ◌-◌, length}
use Rattle.dt_txn.specs.Replica.{done_ids}
use Rattle.dt_run.proofs.DoneSubmissions.{DoneBelow}
use Rattle.dt_run.proofs.done.has_done.Given as goal

abbrev pub invariant-loop-id : goal.invariant-loop-id
invariant-loop-id g l = DoneBelow l.source.state (done_ids l.region.state.here) l.id

abbrev pub decreases-loop-id : goal.decreases-loop-id
decreases-loop-id g l = (length l.source.state.submitted + 2) - l.id.seq
