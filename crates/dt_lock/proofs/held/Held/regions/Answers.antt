use Rattle.std.proofs.Common.{◌∙◌}
use Rattle.dt_lock.proofs.HeldSteps.{regions_stay}
use Rattle.dt_lock.proofs.held.Held.regions.Goals as goal

pub returns : goal.returns
returns g c = c.regions.ensures.regions ∙ regions_stay g.N.Named.procs g.N.Named.before _ c.self.invariant
