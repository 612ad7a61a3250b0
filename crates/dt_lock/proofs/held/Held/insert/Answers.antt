use Rattle.std.proofs.Common.{◌<◌, [], sym, subst}
use Rattle.dt_events.specs.declared.Event.TheVariants.{Insert}
use Rattle.dt_region.specs.Rules.{MakesStep}
use Rattle.dt_region.proofs.Callers.{stamp_left}
use Rattle.dt_lock.specs.Held.{HeldView}
use Rattle.dt_lock.proofs.HeldSteps.{inserted, regions_stay}
use Rattle.dt_lock.proofs.held.Held.insert.Goals as goal

pub insert-requires-clause-stamp : goal.insert-requires-clause-stamp
insert-requires-clause-stamp g c = stamp_left g.N.Named.procs g.N.Named.before _ c.self.invariant.underway

pub insert-requires-clause-home : goal.insert-requires-clause-home
insert-requires-clause-home g c = subst (λ n. c.args.home < n) (sym (regions_stay g.N.Named.procs g.N.Named.before _ c.self.invariant)) c.requires.home

pub invariant_of-self : goal.invariant_of-self
invariant_of-self g c = inserted g.N.Named.procs g.N.Named.before _ c.self.invariant c.args.home c.insert.result c.insert.new.self c.insert.ensures.makes c.insert.ensures.sound

pub returns-clause-makes : goal.returns-clause-makes
returns-clause-makes g c = subst (λ (h : HeldView). MakesStep [] h.region (Insert h.region.state.number c.args.home) c.insert.result c.insert.new.self) c.self.view_is c.insert.ensures.makes
