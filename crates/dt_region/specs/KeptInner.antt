-- Only proofs need this file, and the calls of a private type: the events that a region keeps, as the list in which they came,
-- each under its stamp. Beside it stands for how many more there is room, so that an execution which has its room can be kept
-- without memory. Read `Region` for what callers see; its word `room` counts such executions.
use Rattle.std.specs.Prelude.{ℕ, List}
use Rattle.dt_events.specs.declared.Stamped.{Stamped}

-- events that are kept, and for how many more there is room
pub record KeptView : Type 0 where
  pub events : List Stamped
  pub spare : ℕ
