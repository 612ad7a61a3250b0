use Rattle.std.proofs.Common.{◌<◌, sym, subst}
use Rattle.dt_lock.proofs.HeldSteps.{regions_stay}
use Rattle.dt_lock.proofs.held.Held.lacks.Goals as goal

pub inserted-requires : goal.inserted-requires
inserted-requires g c = subst (λ n. c.args.home < n) (sym (regions_stay g.N.Named.procs g.N.Named.before _ c.self.invariant)) c.requires
