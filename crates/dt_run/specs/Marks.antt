-- Which events are planned. No report mentions packets; that they were lost and repeated as the cluster's plan says is seen from
-- the phases in which regions kept their events. One learns here what a region may have taken from another one in a phase: only
-- what that one had before, and only where the packets of the phase before were not lost (`ArePlanned`). Read next: `NodesStand`,
-- for all that holds between two phases.
use Rattle.std.specs.Prelude.{◌≡◌, ◌≢◌, ◌<◌, ◌≤◌, ◌-◌, ◌+◌, ℕ, List, [], ◌∷◌, filter, get_or, length, slice_get, take, Bool, true, false, Some}
use Rattle.dt_access.specs.declared.TxnId.{TxnId}
use Rattle.dt_events.specs.declared.Event.{Event}
use Rattle.dt_events.specs.declared.Event.TheVariants.{Append, Deliver, Submit}
use Rattle.dt_events.specs.declared.Stamped.{Stamped}
use Rattle.dt_packet.specs.declared.loss.LossPlan.{LossPlan}
use Rattle.dt_packet.specs.declared.loss.Verdict.TheVariants.{Lost}
use Rattle.dt_packet.specs.Loss.{IsVerdict}
use Rattle.dt_cluster.specs.declared.Cluster.{Cluster}
use Rattle.dt_run.specs.NodesView.{NodesView, marks_at, node_in}

-- which packets of a cluster are lost, and which come twice
abbrev pub plan_of : Cluster → LossPlan
plan_of cluster = record { drop = cluster.drop; repeat = cluster.repeat }

-- a mark of a region: how many events it had kept after n phases
abbrev pub mark_at : NodesView → ℕ → ℕ → ℕ
mark_at v region phase = get_or (0 ∷ marks_at v region) phase 0

-- what a region has kept
abbrev pub kept_by_region : NodesView → ℕ → List Stamped
kept_by_region v region = (node_in v region).site.region.events

-- what a region had kept before a phase; phases are counted from 1
abbrev pub kept_before : NodesView → ℕ → ℕ → List Stamped
kept_before v region phase = take (mark_at v region (phase - 1)) (kept_by_region v region)

-- a region kept this event in this phase
pub record IsKeptIn (v : NodesView) (region phase : ℕ) (x : Stamped) : Type 0 where
  -- its place among what the region has kept
  pub place : ℕ
  pub stands : slice_get (kept_by_region v region) place ≡ Some x
  pub from : mark_at v region (phase - 1) ≤ place
  pub to : place < mark_at v region phase

-- the event is a submission
abbrev pub submits : Event → Bool
submits (Submit region session) = true
submits event = false

-- the event places a part in its region's log
abbrev pub places : Event → Bool
places (Append home source number) = true
places event = false

-- how many of these events are submissions
abbrev pub submissions_in : List Stamped → ℕ
submissions_in items = length (filter (λ x. submits x.event) items)

-- how many of these events place a part
abbrev pub placings_in : List Stamped → ℕ
placings_in items = length (filter (λ x. places x.event) items)

-- a region had submitted this request of another one, by its number, before a phase
pub record WasAskedBefore (v : NodesView) (phase source home number : ℕ) : Type 0 where
  pub id : TxnId
  pub asked : slice_get (get_or (node_in v source).site.region.state.here.asked home []) number ≡ Some id
  pub early : id.seq ≤ submissions_in (kept_before v source phase)

-- a region had placed n parts in its log before a phase
abbrev pub WerePlacedBefore : NodesView → ℕ → ℕ → ℕ → Type 0
WerePlacedBefore v phase home last = last ≤ placings_in (kept_before v home phase)

-- the packets of the phase before, of which there is one, were not lost
pub record IsToldIn (cluster : Cluster) (phase : ℕ) : Type 0 where
  pub later : 2 ≤ phase
  pub not_lost : ¬ (IsVerdict (plan_of cluster) (phase - 1) Lost)

-- what the event takes from another region, if it does, that region had before the phase, and its packet was not lost
abbrev pub IsPlannedIn : NodesView → ℕ → Event → Type 0
IsPlannedIn v phase (Append home source number) = home ≢ source → IsToldIn v.cluster phase × WasAskedBefore v phase source home number
IsPlannedIn v phase (Deliver region home first last) = region ≢ home → IsToldIn v.cluster phase × WerePlacedBefore v phase home last
IsPlannedIn v phase event = Unit {0}

-- the marks of a region after n phases: they never fall, and the last one counts all that the region has kept
pub record AreMarksOf (v : NodesView) (made region : ℕ) : Type 0 where
  pub many : length (marks_at v region) ≡ made
  pub rise : (phase : ℕ) → phase < made → mark_at v region phase ≤ mark_at v region (phase + 1)
  pub last : mark_at v region made ≡ length (kept_by_region v region)

-- each event was kept in a phase in which its region could know of what it takes
pub record ArePlanned (v : NodesView) : Type 0 where
  pub each : (region phase : ℕ) (x : Stamped) → region < v.cluster.regions → 1 ≤ phase → IsKeptIn v region phase x → IsPlannedIn v phase x.event
