use Rattle.std.proofs.Common.{sym, subst}
use Rattle.dt_lock.specs.Held.{IsHeld}
use Rattle.dt_lock.proofs.HeldSteps.{taken_off}
use Rattle.dt_lock.proofs.held.Held.take_back.Goals as goal

pub invariant_of-self : goal.invariant_of-self
invariant_of-self g c =
    subst (λ l. IsHeld g.N.Named.procs g.N.Named.before (record { region = c.self.inside.region; running = l })) (sym c.take_off.ensures) (taken_off g.N.Named.procs g.N.Named.before _ c.self.invariant c.id-id.result)
