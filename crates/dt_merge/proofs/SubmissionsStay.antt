-- What regions submit and place stays: an event leaves the submissions of its region and its log, or adds to them.
use Rattle.std.proofs.Common.{◌≡◌, ◌<◌, ℕ, Bool, true, false, cond, eqb, leb, ltb, ◌&&◌, [], ◌∷◌, length, Some, None, sym, ap, subst, inl, inr}
use Rattle.std.specs.Prelude.{Option, option_and_then, slice_get}
use Rattle.dt_lists.specs.Lists.{Either}
use Rattle.dt_lists.proofs.Callers.{either_nat, front_refl, front_append, front_trans}
use Rattle.dt_events.specs.declared.Event.{Event}
use Rattle.dt_events.specs.declared.Event.TheVariants.{Submit, Append, Deliver, Insert, Resolve, Execute, Answer}
use Rattle.dt_events.specs.Events.{region_of}
use Rattle.dt_txn.specs.declared.Txn.{Txn}
use Rattle.dt_txn.specs.Transaction.{part_of}
use Rattle.dt_txn.specs.Replica.{Replica, stepped}
use Rattle.dt_cluster.specs.declared.Cluster.{Cluster}
use Rattle.dt_workload.specs.declared.Ranked.{Ranked}
use Rattle.dt_workload.specs.declared.Session.{Session}
use Rattle.dt_workload.specs.declared.Workload.{Workload}
use Rattle.dt_session.specs.World.{World, Node, Place, node_at, asked_of, taken_of, received_of, txn_of, session_at}
use Rattle.dt_session.specs.Step.{next_attempt, called, submitted, placed, received, moved_on, answered, next}
use Rattle.dt_merge.specs.OwnPart.{Own, own, HasGrown}
use Rattle.dt_merge.proofs.Frames.{frame}
use Rattle.dt_merge.proofs.OwnSteps.{attempt_of_own, append_own, deliver_own, move_own, submit_own, own_submitted, own_appended, own_delivered, own_moved}

pub grown_refl : (n : Node) → HasGrown n n
grown_refl n = record { submitted = front_refl n.submitted; log = front_refl n.log }

pub grown_trans : (a b c : Node) → HasGrown a b → HasGrown b c → HasGrown a c
grown_trans a b c f g = record { submitted = front_trans a.submitted b.submitted c.submitted f.submitted g.submitted; log = front_trans a.log b.log c.log f.log g.log }

module _ (cluster : Cluster) (workload : Workload) (w : World) (region : ℕ) (lt : region < length w.nodes) where
  -- where the own part becomes this one, the node has grown as far
  to_own : (v : World) (o : Own) → own workload v region ≡ o → HasGrown (node_at w region) o.node → HasGrown (node_at w region) (node_at v region)
  to_own v o e g = subst (λ x. HasGrown (node_at w region) x.node) (sym e) g

  call_grows : (session : Session) (place : Place) (o : Option Ranked) → HasGrown (node_at w region) (node_at (called cluster workload w region session place o) region)
  call_grows session place None = grown_refl (node_at w region)
  call_grows session place (Some call) =
      to_own (called cluster workload w region session place (Some call)) (submit_own cluster workload region session place call (own workload w region) (next_attempt w place.waits))
      (own_submitted cluster workload w region lt session place call)
      (record {
        submitted = front_append (node_at w region).submitted (attempt_of_own cluster region session place call (own workload w region) (next_attempt w place.waits) ∷ []);
        log = front_refl (node_at w region).log;
      })

  submit_grows : (o : Option (Session × Place)) → HasGrown (node_at w region) (node_at (submitted cluster workload w region o) region)
  submit_grows None = grown_refl (node_at w region)
  submit_grows (Some (session, place)) = call_grows session place (slice_get session.calls place.answered)

  append_own_grows : (source : ℕ) (o : Own) (b : Bool) (t : Option Txn) → HasGrown o.node (append_own region source o b t).node
  append_own_grows source o false t = grown_refl o.node
  append_own_grows source o true None = grown_refl o.node
  append_own_grows source o true (Some txn) = record { submitted = front_refl o.node.submitted; log = front_append o.node.log (part_of txn region ∷ []) }

  append_grows : (source : ℕ) (b : Bool) (t : Option Txn) → HasGrown (node_at w region) (node_at (cond b (placed w region source t) w) region)
  append_grows source b t =
      to_own (cond b (placed w region source t) w) (append_own region source (own workload w region) b t) (own_appended cluster workload w region lt source b t)
      (append_own_grows source (own workload w region) b t)

  deliver_own_grows : (home last : ℕ) (o : Own) (b : Bool) → HasGrown o.node (deliver_own home last o b).node
  deliver_own_grows home last o false = grown_refl o.node
  deliver_own_grows home last o true = record { submitted = front_refl o.node.submitted; log = front_refl o.node.log }

  deliver_grows : (home last : ℕ) (b : Bool) → HasGrown (node_at w region) (node_at (cond b (received w region home last) w) region)
  deliver_grows home last b =
      to_own (cond b (received w region home last) w) (deliver_own home last (own workload w region) b) (own_delivered cluster workload w region lt home last b)
      (deliver_own_grows home last (own workload w region) b)

  move_grows : (event : Event) → HasGrown (node_at w region) (node_at (moved_on cluster w region event) region)
  move_grows event =
      let here : Replica = stepped cluster.procs (txn_of w) (node_at w region).here event in
      to_own (moved_on cluster w region event) (move_own (own workload w region) here) (own_moved cluster workload w region lt here)
      (record { submitted = front_refl (node_at w region).submitted; log = front_refl (node_at w region).log })

  answer_grows : (o : Option (Session × Place)) → HasGrown (node_at w region) (node_at (answered workload w region o) region)
  answer_grows None = grown_refl (node_at w region)
  answer_grows (Some (session, place)) = grown_refl (node_at w region)

-- its region's node
grows_here : (cluster : Cluster) (workload : Workload) (w : World) (event : Event) → region_of event < length w.nodes
    → HasGrown (node_at w (region_of event)) (node_at (next cluster workload w event) (region_of event))
grows_here cluster workload w (Submit region name) lt = submit_grows cluster workload w region lt (session_at workload.sessions w.places region name)
grows_here cluster workload w (Append home source number) lt =
    append_grows cluster workload w home lt source (eqb number (taken_of w home source)) (option_and_then (txn_of w) (slice_get (asked_of w source home) number))
grows_here cluster workload w (Deliver region home first last) lt =
    deliver_grows cluster workload w region lt home last (leb first (received_of w region home) && ltb (received_of w region home) last)
grows_here cluster workload w (Insert region home) lt = move_grows cluster workload w region lt (Insert region home)
grows_here cluster workload w (Resolve region ids) lt = move_grows cluster workload w region lt (Resolve region ids)
grows_here cluster workload w (Execute region id) lt = move_grows cluster workload w region lt (Execute region id)
grows_here cluster workload w (Answer region name) lt = answer_grows cluster workload w region lt (session_at workload.sessions w.places region name)

-- and each other one
pub grows : (cluster : Cluster) (workload : Workload) (w : World) (event : Event) → region_of event < length w.nodes → (q : ℕ) → HasGrown (node_at w q) (node_at (next cluster workload w event) q)
grows cluster workload w event lt q = by (either_nat (region_of event) q)
  where
    by : Either (region_of event ≡ q) → HasGrown (node_at w q) (node_at (next cluster workload w event) q)
    by (inl e) = subst (λ x. HasGrown (node_at w x) (node_at (next cluster workload w event) x)) e (grows_here cluster workload w event lt)
    by (inr n) = subst (HasGrown (node_at w q)) (sym (ap (λ o. o.node) (frame cluster workload w q event n))) (grown_refl (node_at w q))
