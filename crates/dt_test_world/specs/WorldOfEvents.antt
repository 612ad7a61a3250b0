-- For the tests: how a world and the events that led to it belong together, as the report of a world wants them. Read
-- next: Run.antt of dt_session, for what a legal list of events is, and the world after it.
use Rattle.std.specs.Prelude.{◌≡◌, List}
use Rattle.dt_events.specs.declared.Event.{Event}
use Rattle.dt_session.specs.Run.{AreLegal, world_after}
use Rattle.dt_world.specs.WorldView.{WorldView}

-- these events lead to the world
pub record HasLed (view : WorldView) (events : List Event) : Type 0 where
  pub legal : AreLegal view.cluster view.workload events
  pub reached : view.state ≡ world_after view.cluster view.workload events
