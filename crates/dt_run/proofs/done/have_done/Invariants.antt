use Rattle.std.proofs.Common.{take}
use Rattle.dt_lists.specs.Lists.{AllIn, Has}
use Rattle.dt_txn.specs.declared.Txn.{Txn}
use Rattle.dt_txn.specs.Replica.{done_ids}
use Rattle.dt_run.specs.SeatsInner.{SeatView}
use Rattle.dt_run.proofs.done.have_done.Given as goal

abbrev pub invariant-loop-seat : goal.invariant-loop-seat
invariant-loop-seat g l = AllIn (λ (s : SeatView). AllIn (λ (txn : Txn). Has (done_ids s.node.site.region.state.here) txn.id) l.source.state.submitted) (take l.seat-index l.seats)
