use Rattle.std.proofs.Common.{sym, subst}
use Rattle.dt_txn.specs.Transaction.{CanRun}
use Rattle.dt_txn.proofs.Callers.{can_run}
use Rattle.dt_lock.proofs.claim.Claim.work.Goals as goal

pub execute_seen-requires-clause-body : goal.execute_seen-requires-clause-body
execute_seen-requires-clause-body g c =
    subst (λ procs. CanRun procs c.self.inside.txn.body) (sym c.requires) (can_run g.N.Named.procs g.N.Named.before.state.here.table.version g.N.Named.before.state.regions c.self.inside.txn.body c.self.invariant.valid.body)
