use Rattle.std.proofs.Common.{◌≡◌, take}
use Rattle.dt_packet.proofs.packet.copy_requests.Given as goal

abbrev pub invariant-loop-txn : goal.invariant-loop-txn
invariant-loop-txn l = l.copied.items ≡ take l.txn-index l.txn-items
