use Rattle.std.proofs.Common.{sym}
use Rattle.dt_site.proofs.SessionsStand.{waits_there}
use Rattle.dt_site.proofs.outcome.last_outcome_at.Goals as goal

pub returns-clause-there : goal.returns-clause-there
returns-clause-there g c some = waits_there c.args.sessions.now c.args.index _ (sym c.in_ok-waits_at.ensures)
