-- Each legal event keeps the invariant, so every legal world has it.
use Rattle.std.proofs.Common.{◌≡◌, ◌<◌, ℕ, Bool, true, false, cond, List, [], ◌∷◌, ◌++◌, refl, sym, subst₂}
use Rattle.dt_lists.proofs.Callers.{from_right}
use Rattle.dt_access.specs.Ids.{is_among}
use Rattle.dt_access.specs.declared.TxnId.{TxnId}
use Rattle.dt_events.specs.declared.Event.{Event}
use Rattle.dt_events.specs.declared.Event.TheVariants.{Submit, Append, Deliver, Insert, Resolve, Execute, Answer}
use Rattle.dt_access.proofs.Callers.{among_of_has, has_of_among}
use Rattle.dt_cluster.specs.declared.Cluster.{Cluster}
use Rattle.dt_cluster.specs.Valid.{IsValidCluster}
use Rattle.dt_workload.specs.declared.Workload.{Workload}
use Rattle.dt_workload.specs.Valid.{IsValidWorkload}
use Rattle.dt_txn.specs.Replica.{MayStep}
use Rattle.dt_session.specs.World.{World, node_at, received_logs}
use Rattle.dt_session.specs.Step.{IsLegal, moved_on, next}
use Rattle.dt_session.specs.Run.{world_after, order_of}
use Rattle.dt_agreement.specs.LegalRun.{IsLegalRun}
use Rattle.dt_agreement.specs.Invariant.{Inv}
use Rattle.dt_agreement.proofs.Submissions.{WasSubmitted}
use Rattle.dt_agreement.proofs.OpeningWorld.{opening_keeps}
use Rattle.dt_agreement.proofs.Rule1Submit.{submit_keeps}
use Rattle.dt_agreement.proofs.Rule2Append.{append_keeps}
use Rattle.dt_agreement.proofs.Rule3Deliver.{deliver_keeps}
use Rattle.dt_agreement.proofs.Rule4Insert.{insert_keeps}
use Rattle.dt_agreement.proofs.Rule5Resolve.{resolve_keeps}
use Rattle.dt_agreement.proofs.Rule6Execute.{execute_again, execute_first, executable_known}
use Rattle.dt_agreement.proofs.Rule7Answer.{answer_keeps}
use Rattle.dt_agreement.proofs.Runs.{ordered, world_after_more, run_more, order_of_more}

module _ {cluster : Cluster} {workload : Workload} (ok : IsValidCluster cluster) (fits : IsValidWorkload cluster workload) where
  execute_keeps : (w : World) (order : List TxnId) (region : ℕ) (id : TxnId) → region < cluster.regions → MayStep (received_logs w region) (node_at w region).here (Execute region id)
      → Inv cluster workload w order → Inv cluster workload (moved_on cluster w region (Execute region id)) (cond (is_among order id) order (order ++ id ∷ []))
  execute_keeps w order region id lr may i =
      let k : WasSubmitted w id = executable_known i region id lr may in
      go k (is_among order id) refl
    where
      go : WasSubmitted w id → (b : Bool) → is_among order id ≡ b → Inv cluster workload (moved_on cluster w region (Execute region id)) (cond b order (order ++ id ∷ []))
      go k true e = execute_again i region id lr may k.0 k.1 (has_of_among order id e)
      go k false e = execute_first i region id lr may k.0 k.1 (λ h. cc (among_of_has order id h))

  -- a legal event keeps the invariant
  pub next_keeps : (w : World) (order : List TxnId) (event : Event) → IsLegal cluster workload w event → Inv cluster workload w order → Inv cluster workload (next cluster workload w event) (ordered order event)
  next_keeps w order (Submit region session) l i = submit_keeps i ok region session fits l.regions l.allowed
  next_keeps w order (Append home source number) l i = append_keeps i home source number l.regions.0 l.regions.1 l.allowed
  next_keeps w order (Deliver region home first last) l i = deliver_keeps i region home first last l.regions.0 l.regions.1 l.allowed.1
  next_keeps w order (Insert region home) l i = insert_keeps i region home l.regions.0 l.regions.1 l.allowed
  next_keeps w order (Resolve region ids) l i = resolve_keeps i region ids l.regions l.allowed
  next_keeps w order (Execute region id) l i = execute_keeps w order region id l.regions l.allowed i
  next_keeps w order (Answer region session) l i = answer_keeps i fits region session l.allowed

-- the invariant of legal worlds
pub legal_keeps : {cluster : Cluster} {workload : Workload} {events : List Event} → IsLegalRun cluster workload events → Inv cluster workload (world_after cluster workload events) (order_of events)
legal_keeps {cluster = cluster} {workload = workload} {events = events} = from_right (λ es. IsLegalRun cluster workload es → Inv cluster workload (world_after cluster workload es) (order_of es))
    (λ run. opening_keeps cluster workload)
    (λ es e keeps run.
    let r : IsLegalRun cluster workload es × IsLegal cluster workload (world_after cluster workload es) e = run_more run in
    subst₂ (Inv cluster workload) (sym (world_after_more cluster workload es e)) (sym (order_of_more es e))
    (next_keeps run.sound run.fits (world_after cluster workload es) (order_of es) e r.1 (keeps r.0)))
    events
