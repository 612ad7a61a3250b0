-- A world as callers see it: the cluster and the workload, the state of all regions and sessions, what each region keeps
-- of the events, and how many were made. One learns here what one event makes of it (`made`). Each region keeps its own
-- events alone, in their order, and of these just those that took effect (`kept_next`); so after a list of events it
-- keeps those of the list that are its own and took effect (`own_events`). The rules themselves stand in `Step` of
-- dt_session. Read next: `WorldReport`, for what is reported of the events in the end.
use Rattle.std.specs.Prelude.{◌≡◌, ◌+◌, ◌==◌, ◌&&◌, ℕ, Bool, true, List, [], ◌∷◌, ◌++◌, get_or, set, replicate, nat_le, nat_lt, Result, Ok, Err, if◌then◌else◌}
use Rattle.dt_events.specs.Events.{region_of}
use Rattle.dt_events.specs.declared.Event.{Event}
use Rattle.dt_events.specs.declared.Event.TheVariants.{Append, Deliver}
use Rattle.dt_cluster.specs.declared.Cluster.{Cluster}
use Rattle.dt_workload.specs.declared.Workload.{Workload}
use Rattle.dt_session.specs.World.{World, opening_world, received_of, taken_of}
use Rattle.dt_session.specs.Step.{IsLegal, next, rule_of}
use Rattle.dt_world.specs.declared.world.StepError.{StepError}
use Rattle.dt_world.specs.declared.world.StepError.TheVariants.{Illegal, NoMemory}

-- a world with its cluster and its workload, the events that each of its regions keeps, and how many steps it has made
pub record WorldView : Type 0 where
  pub cluster : Cluster
  pub workload : Workload
  pub state : World
  pub kept : List (List Event)
  pub steps : ℕ

-- whether a legal event takes effect in a world: a request is placed once, in its turn, and a delivery has to join what was
-- received and go past it; every other legal event takes effect
abbrev pub takes_effect : World → Event → Bool
takes_effect w (Append home source number) = number == taken_of w home source
takes_effect w (Deliver region home first last) = nat_le first (received_of w region home) && nat_lt (received_of w region home) last
takes_effect w event = true

-- what the regions keep after a legal event in a world: its region keeps it, where it takes effect
abbrev pub kept_next : World → List (List Event) → Event → List (List Event)
kept_next w kept event = if takes_effect w event then set kept (region_of event) (get_or kept (region_of event) [] ++ event ∷ []) else kept

-- what the regions keep after events, one after another, from a world on
abbrev pub kept_from : Cluster → Workload → World → List (List Event) → List Event → List (List Event)
kept_from cluster workload w kept [] = kept
kept_from cluster workload w kept (event ∷ events) = kept_from cluster workload (next cluster workload w event) (kept_next w kept event) events

-- what the regions keep after events, from the opening on
abbrev pub kept_after : Cluster → Workload → List Event → List (List Event)
kept_after cluster workload events = kept_from cluster workload (opening_world cluster workload) (replicate cluster.regions []) events

-- of events that happen from a world on, those of a region that take effect, in their order
abbrev pub own_from : Cluster → Workload → ℕ → World → List Event → List Event
own_from cluster workload region w [] = []
own_from cluster workload region w (event ∷ events) =
    if (region_of event == region) && takes_effect w event
    then event ∷ own_from cluster workload region (next cluster workload w event) events
    else own_from cluster workload region (next cluster workload w event) events

-- of events from the opening on, those of a region that take effect, in their order
abbrev pub own_events : Cluster → Workload → ℕ → List Event → List Event
own_events cluster workload region events = own_from cluster workload region (opening_world cluster workload) events

-- the world before anything happens
abbrev pub opening_view : Cluster → Workload → WorldView
opening_view cluster workload = record {
  cluster = cluster;
  workload = workload;
  state = opening_world cluster workload;
  kept = replicate cluster.regions [];
  steps = 0;
}

-- the world after an event
abbrev pub made : WorldView → Event → WorldView
made view event = record view {
  state = next view.cluster view.workload view.state event;
  kept = kept_next view.state view.kept event;
  steps = view.steps + 1;
}

-- how an event is answered, and what the world is after it: it is made exactly where it is legal, and refused by its
-- rule; after each refusal nothing has changed
abbrev pub Makes : WorldView → Event → Result (Unit {0}) StepError → WorldView → Type 0
Makes view event (Ok done) after = IsLegal view.cluster view.workload view.state event × (after ≡ made view event)
Makes view event (Err (Illegal rule)) after = (rule ≡ rule_of event) × (¬ (IsLegal view.cluster view.workload view.state event)) × (after ≡ view)
Makes view event (Err NoMemory) after = after ≡ view
