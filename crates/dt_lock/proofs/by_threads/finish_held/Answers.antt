use Rattle.std.proofs.Common.{sym, subst}
use Rattle.dt_region.specs.Rounds.{Continues}
use Rattle.dt_region.specs.Underway.{IsUnderway}
use Rattle.dt_lock.proofs.by_threads.finish_held.Goals as goal

pub finish-result-requires-clause-on_way : goal.finish-result-requires-clause-on_way
finish-result-requires-clause-on_way g c = record { entry = g.N.Named.before; underway = subst (λ procs. IsUnderway procs g.N.Named.before c.in-Ok.region) (sym c.requires) c.in-Ok.ensures.underway }

pub returns-clause-continues : goal.returns-clause-continues
returns-clause-continues g c =
    subst (λ procs. Continues procs g.N.Named.before c.finish-result.new.region) c.requires
    (c.finish-result.ensures.underway g.N.Named.before (subst (λ procs. IsUnderway procs g.N.Named.before c.in-Ok.region) (sym c.requires) c.in-Ok.ensures.underway)).continues
