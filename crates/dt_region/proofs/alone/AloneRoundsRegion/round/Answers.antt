use Rattle.dt_region.proofs.alone.AloneRoundsRegion.round.Goals as goal
use Rattle.dt_region.proofs.Underway.{at_first}

pub finish-requires-clause-on_way : goal.finish-requires-clause-on_way
finish-requires-clause-on_way g c = record { entry = c.args.region.now; underway = at_first c.args.procs.now c.args.region.now c.requires.can c.regions-regions.ensures.sound }

pub returns-clause-continues : goal.returns-clause-continues
returns-clause-continues g c = (c.finish.ensures.underway c.args.region.now (at_first c.args.procs.now c.args.region.now c.requires.can c.regions-regions.ensures.sound)).continues
