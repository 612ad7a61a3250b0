use Rattle.std.proofs.Common.{sym}
use Rattle.dt_txn.proofs.Callers.{can_run}
use Rattle.dt_region.proofs.region.Region.run.Goals as goal

pub execute-requires-clause-body : goal.execute-requires-clause-body
execute-requires-clause-body g c = can_run c.args.procs.now _ _ _ (c.requires.holds c.args.id c.in-Some.txn.now (sym c.in-Some.ensures)).body

pub execute-requires-clause-uses : goal.execute-requires-clause-uses
execute-requires-clause-uses g c = (c.args.self.now.state.here.table.version, (c.requires.holds c.args.id c.in-Some.txn.now (sym c.in-Some.ensures)).uses)
