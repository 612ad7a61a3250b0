-- The ids of legal events are counted from 1, and the groups that regions resolve have two or more of them.
use Rattle.std.proofs.Common.{◌≡◌, ◌<◌, ◌+◌, ℕ, List, sym, ap, ◌∙◌, arith}
use Rattle.dt_lists.specs.Lists.{AllIn, Has}
use Rattle.dt_lists.proofs.Callers.{all_get, all_of_gets, all_put}
use Rattle.dt_access.specs.declared.TxnId.{TxnId}
use Rattle.dt_events.specs.declared.Event.{Event}
use Rattle.dt_events.specs.declared.Event.TheVariants.{Submit, Append, Deliver, Insert, Resolve, Execute, Answer}
use Rattle.dt_sched.specs.Views.{IsComplete}
use Rattle.dt_sched.proofs.Callers.{present_longer, present_of_complete}
use Rattle.dt_report.specs.Printable.{HasCountedIds}
use Rattle.dt_cluster.specs.declared.Cluster.{Cluster}
use Rattle.dt_workload.specs.declared.Workload.{Workload}
use Rattle.dt_session.specs.World.{World, Submission, submissions, view_at}
use Rattle.dt_session.specs.Step.{IsLegal}
use Rattle.dt_agreement.specs.Invariant.{Inv}
use Rattle.dt_agreement.specs.LegalRun.{IsLegalRun}
use Rattle.dt_agreement.proofs.Callers.{WasSubmitted, executable_known, legal_keeps, numbered, present_known, txn_there, view_longer}
use Rattle.dt_world.proofs.GrowingNodes.{legal_at}

module _ {cluster : Cluster} {workload : Workload} {w : World} {order : List TxnId} (i : Inv cluster workload w order) where
  from_one : (id : TxnId) → WasSubmitted w id → 0 < id.seq
  from_one id x =
      let s : (s : Submission) × Has (submissions w) s × (s.txn ≡ x.0) × (s.txn.id ≡ id) = txn_there w id x.0 x.1 in
      let n = numbered cluster.regions w i.nodes i.ids s.0 s.1 in
      let seq : id.seq ≡ n.1 + 1 = ap (λ y. y.seq) (sym s.3 ∙ n.4) in
      omega arith

  -- what is complete in a region's view was submitted
  complete_known : (region : ℕ) (t : TxnId) → region < cluster.regions → IsComplete (view_at w region) t → WasSubmitted w t
  complete_known region t lr complete = present_known i t (present_longer _ _ (view_longer i region lr) t (present_of_complete (view_at w region) t complete))

  counted_one : (event : Event) → IsLegal cluster workload w event → HasCountedIds event
  counted_one (Submit region name) l = tt
  counted_one (Append home source number) l = tt
  counted_one (Deliver region home first last) l = tt
  counted_one (Insert region home) l = tt
  counted_one (Resolve region ids) l =
      (l.allowed.several, all_put (λ (id : TxnId). 0 < id.seq) ids (λ id h. from_one id (complete_known region id l.regions (all_get (IsComplete (view_at w region)) ids l.allowed.complete id h))))
  counted_one (Execute region id) l = from_one id (executable_known i region id l.regions l.allowed)
  counted_one (Answer region name) l = tt

pub counted : {cluster : Cluster} {workload : Workload} {events : List Event} → IsLegalRun cluster workload events → AllIn HasCountedIds events
counted {events = events} run = all_of_gets HasCountedIds events (λ i event item. let l = legal_at run i event item in counted_one (legal_keeps l.0) event l.1)
