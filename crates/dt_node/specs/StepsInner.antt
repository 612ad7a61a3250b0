-- Only proofs need this file, and the private calls of a turn: what each of them does for the order of a turn's steps. One
-- learns here what a placing leaves of a node (`HasPlaced`), what the step of one session leaves to the others
-- (`LeavesOthers`), and how far a loop over the sessions has come (`HaveStepped`). Read `Steps` for what a whole turn does.
use Rattle.std.specs.Prelude.{◌≡◌, ◌≢◌, ◌+◌, ◌-◌, ◌⊎◌, ℕ, List, [], ◌∷◌, length, map, slice_get, take, Bool, true, false, Some}
use Rattle.dt_lists.specs.Lists.{Has}
use Rattle.dt_access.specs.Clash.{Bytes}
use Rattle.dt_access.specs.declared.TxnId.{TxnId}
use Rattle.dt_events.specs.Stamps.{events_of}
use Rattle.dt_sched.specs.Views.{log_at}
use Rattle.dt_proc.specs.Tree.{ProcTree}
use Rattle.dt_txn.specs.Replica.{taken_from}
use Rattle.dt_session.specs.Sessions.{after_answer, after_wait, seat_of}
use Rattle.dt_node.specs.NodeView.{NodeView, new_items, number_of}
use Rattle.dt_node.specs.Turn.{MayAnswerAt}
use Rattle.dt_node.specs.Steps.{HasAnswered, HasSubmitted, OneByOne, own_to_place, placings, receipt}

-- some requests of a region were placed, and nothing else has happened: the region's other logs stay, and what it asked, its
-- rows, its outcomes and what it heard
pub record HasPlaced (source : ℕ) (before now : NodeView) : Type 0 where
  pub events : events_of (new_items before now)
      ≡ placings (number_of before) source (taken_from before.site.region.state.here source) (taken_from now.site.region.state.here source - taken_from before.site.region.state.here source)
  pub logs : (home : ℕ) → home ≢ number_of before → log_at now.site.region.state.logs home ≡ log_at before.site.region.state.logs home
  pub asked : now.site.region.state.here.asked ≡ before.site.region.state.here.asked
  pub table : now.site.region.state.here.table ≡ before.site.region.state.here.table
  pub done : now.site.region.state.here.done ≡ before.site.region.state.here.done
  pub heard : now.site.region.heard ≡ before.site.region.heard

-- of a region's requests those before this number are placed, and of the later ones only those that were before
abbrev pub IsPlacedTo : ℕ → ℕ → NodeView → NodeView → Type 0
IsPlacedTo source number before now =
    taken_from now.site.region.state.here source ≡ taken_from before.site.region.state.here source + (number - taken_from before.site.region.state.here source)

-- a stretch of a home's log was received, as far as it was not there, and nothing else has happened
pub record HasReceived (home first last : ℕ) (before now : NodeView) : Type 0 where
  pub made : events_of (new_items before now) ≡ receipt (number_of before) home (length (log_at before.site.region.state.logs home)) first last
  pub heard : now.site.region.heard ≡ before.site.region.heard

-- the session of this name was answered, and nothing else has happened
pub record IsAnswering (before : NodeView) (name : Bytes) (after : NodeView) : Type 0 where
  pub may : MayAnswerAt before name
  pub step : (procs : List ProcTree) → HasAnswered procs before name after
  pub sessions : after.sessions ≡ after_answer before.sessions name
  pub done : after.site.region.state.here.done ≡ before.site.region.state.here.done

-- the session of this name submitted its next attempt, what that asked of the node's own region is placed, and nothing else has
-- happened
pub record IsSubmission (procs : List ProcTree) (before : NodeView) (name : Bytes) (after : NodeView) : Type 0 where
  pub step : HasSubmitted procs before name after
  pub id : TxnId
  pub sessions : after.sessions ≡ after_wait before.sessions name id
  pub taken : taken_from after.site.region.state.here (number_of before)
      ≡ taken_from before.site.region.state.here (number_of before) + own_to_place procs before step.rank step.body
  pub table : after.site.region.state.here.table ≡ before.site.region.state.here.table
  pub done : after.site.region.state.here.done ≡ before.site.region.state.here.done

-- the names of a node's sessions, in their order
abbrev pub seat_names : NodeView → List Bytes
seat_names n = map (λ p. p.0) n.sessions.seats

-- where a step of the session at a place says that it was made, it was, by the session of that place
abbrev pub StepsAt : (NodeView → Bytes → NodeView → Type 0) → NodeView → ℕ → Bool → NodeView → Type 0
StepsAt Step before place true after = (name : Bytes) × (slice_get (seat_names before) place ≡ Some name) × Step before name after
StepsAt Step before place false after = Unit {0}

-- what is so for all sessions but those of these names, while those make steps: where they stand, and all outcomes
pub record LeavesOthers (names : List Bytes) (before after : NodeView) : Type 0 where
  pub tries : after.sessions.tries ≡ before.sessions.tries
  pub same_names : seat_names after ≡ seat_names before
  pub seats : (other : Bytes) → ¬ (Has names other) → seat_of after.sessions other ≡ seat_of before.sessions other
  pub done : after.site.region.state.here.done ≡ before.site.region.state.here.done

-- the second list has those of the first that have P, in the same order
abbrev pub ArePicked : {A : Type 0} → (A → Type 0) → List A → List A → Type 0
ArePicked P [] picked = picked ≡ []
ArePicked {A} P (x ∷ xs) picked = ((rest : List A) × P x × (picked ≡ x ∷ rest) × ArePicked P xs rest) ⊎ (¬ (P x) × ArePicked P xs picked)

-- of the sessions before a place those have made a step that might in the beginning
pub record HaveStepped (May : NodeView → Bytes → Type 0) (Step : NodeView → Bytes → NodeView → Type 0) (before : NodeView) (place : ℕ) (now : NodeView) : Type 0 where
  pub names : List Bytes
  pub picked : ArePicked (May before) (take place (seat_names before)) names
  pub each : OneByOne Step names before now
  pub leaves : LeavesOthers names before now
