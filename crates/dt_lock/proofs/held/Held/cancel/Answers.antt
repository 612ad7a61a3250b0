use Rattle.std.proofs.Common.{sym, subst}
use Rattle.dt_lock.specs.Held.{IsHeld}
use Rattle.dt_lock.proofs.HeldSteps.{none_running}
use Rattle.dt_lock.proofs.held.Held.cancel.Goals as goal

pub invariant_of-self : goal.invariant_of-self
invariant_of-self g c =
    subst (λ l. IsHeld g.N.Named.procs g.N.Named.before (record { region = c.self.inside.region; running = l })) (sym c.clear.ensures.items) (none_running g.N.Named.procs g.N.Named.before _ c.self.invariant)
