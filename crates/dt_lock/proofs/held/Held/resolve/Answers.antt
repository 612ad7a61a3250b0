use Rattle.dt_region.proofs.Callers.{stamp_left}
use Rattle.dt_lock.proofs.HeldSteps.{resolved}
use Rattle.dt_lock.proofs.held.Held.resolve.Goals as goal

pub resolve-requires : goal.resolve-requires
resolve-requires g c = record { stamp = stamp_left g.N.Named.procs g.N.Named.before _ c.self.invariant.underway }

pub invariant_of-self-2 : goal.invariant_of-self-2
invariant_of-self-2 g c = resolved g.N.Named.procs g.N.Named.before _ c.self.invariant c.as_slice.result.now c.resolve.result c.resolve.new.self c.resolve.ensures.makes c.resolve.ensures.sound
