use Rattle.std.proofs.Common.{[], sym, subst}
use Rattle.dt_region.specs.Region.{RegionView}
use Rattle.dt_region.specs.Sound.{IsSoundRegion}
use Rattle.dt_lock.specs.Held.{IsHeld}
use Rattle.dt_lock.proofs.HeldSteps.{held_at_first}
use Rattle.dt_lock.proofs.held.Held.enter.Goals as goal

pub invariant_of-result : goal.invariant_of-result
invariant_of-result g c =
    let first = held_at_first g.N.Named.procs g.N.Named.before c.requires.can (subst (λ (r : RegionView). IsSoundRegion r.state) c.requires.region c.regions-regions.ensures.sound) in
    subst (λ l. IsHeld g.N.Named.procs g.N.Named.before (record { region = c.args.region; running = l })) (sym c.new.ensures.items)
    (subst (λ r. IsHeld g.N.Named.procs g.N.Named.before (record { region = r; running = [] })) (sym c.requires.region) first)
