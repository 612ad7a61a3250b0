use Rattle.std.proofs.Common.{◌≡◌, length}
use Rattle.dt_test_world.specs.WorldOfEvents.{HasLed}
use Rattle.dt_test_world.proofs.worlds.play.Given as goal

-- the events that were made led to this world, which is of the cluster that it was of
abbrev pub invariant-loop-at : goal.invariant-loop-at
invariant-loop-at l = HasLed l.world l.made.items × (l.world.steps ≡ length l.made.items) × (l.world.cluster ≡ l.fn.world.cluster)
