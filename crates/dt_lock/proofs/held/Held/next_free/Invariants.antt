use Rattle.dt_lock.proofs.NextFree.{ArePassed, ids_left}
use Rattle.dt_lock.proofs.held.Held.next_free.Given as goal

abbrev pub invariant-ids : goal.invariant-ids
invariant-ids g l = ArePassed g.N.Named.before.state l.fn.self l.busy.items

abbrev pub decreases-ids : goal.decreases-ids
decreases-ids g l = ids_left l.fn.self l.busy.items
