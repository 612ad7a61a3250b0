use Rattle.dt_merge.specs.WorldRegions.{world_regions}
use Rattle.dt_merge.proofs.EventOrders.{rescheduled}
use Rattle.dt_merge.proofs.Worlds.{after_is, legal_in, legal_out, world_local}
use Rattle.dt_merge.proofs.laws.rescheduling.Goals as goal

pub returns-clause-law : goal.returns-clause-law
returns-clause-law c cluster workload ok fits w good events others legal is =
    rescheduled (world_regions cluster workload) (world_local cluster ok workload fits) w good events (legal_in cluster workload w events legal) others is

pub returns-clause-worlds : goal.returns-clause-worlds
returns-clause-worlds c cluster workload w events = after_is cluster workload w events

pub returns-clause-legal : goal.returns-clause-legal
returns-clause-legal c cluster workload w events legal = legal_out cluster workload w events legal
