-- When nothing is left to do: every call of every session is answered, and every region has executed every attempt. Then
-- all regions have the same rows, since the table of each is that of what it executed (`Agree`, part `tables`). A cluster that
-- runs by itself runs until then. Read `Agreement` before, and `Eager` for what else holds of such a run.
use Rattle.std.specs.Prelude.{◌≡◌, ◌<◌, ℕ, List, [], ◌∷◌, length}
use Rattle.dt_lists.specs.Lists.{AllIn, Has}
use Rattle.dt_events.specs.declared.Event.{Event}
use Rattle.dt_txn.specs.Replica.{done_ids}
use Rattle.dt_cluster.specs.declared.Cluster.{Cluster}
use Rattle.dt_workload.specs.declared.Workload.{Workload}
use Rattle.dt_workload.specs.declared.Session.{Session}
use Rattle.dt_session.specs.World.{Place, node_at}
use Rattle.dt_session.specs.Run.{world_after}

-- every call of every session is answered
abbrev pub AreAnswered : List Session → List Place → Type 0
AreAnswered [] places = Unit {0}
AreAnswered (s ∷ sessions) [] = ⊥
AreAnswered (s ∷ sessions) (p ∷ places) = (p.answered ≡ length s.calls) × AreAnswered sessions places

-- every call is answered, and every region has executed every attempt
pub record IsFinished (cluster : Cluster) (workload : Workload) (events : List Event) : Type 0 where
  pub answered : AreAnswered workload.sessions (world_after cluster workload events).places
  pub executed : (region source : ℕ) → region < cluster.regions → source < cluster.regions →
      AllIn (λ s. Has (done_ids (node_at (world_after cluster workload events) region).here) s.txn.id)
      (node_at (world_after cluster workload events) source).submitted
