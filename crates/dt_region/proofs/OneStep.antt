-- How one step of a round ends: each way by the call of the region that makes it.
use Rattle.std.proofs.Common.{◌≡◌, Bool, true, false, List, [], None, Result, Ok, Err, refl, subst, ◌∙◌}
use Rattle.dt_text.specs.declared.NoMemory.{NoMemory}
use Rattle.dt_access.specs.declared.TxnId.{TxnId}
use Rattle.dt_events.specs.declared.Event.TheVariants.{Resolve, Execute}
use Rattle.dt_sched.specs.Sched.{CanExecute, CanResolve, IsNextClass, IsNextReady}
use Rattle.dt_proc.specs.Tree.{ProcTree}
use Rattle.dt_txn.specs.Replica.{HasInsertedAll}
use Rattle.dt_region.specs.Region.{RegionView, sched_of}
use Rattle.dt_region.specs.Rules.{MakesStep}
use Rattle.dt_region.specs.StepsInner.{IsOwnStep, StepsOn}

module _ (procs : List ProcTree) (r now : RegionView) (same : now ≡ r) where
  pub executes : (id : TxnId) → CanExecute (sched_of now.state.logs now.state.here) id → (result : Result Bool NoMemory) (after : RegionView)
      → MakesStep procs now (Execute now.state.number id) result after → StepsOn procs r result after
  executes id can (Ok true) after m = subst (λ x. IsOwnStep procs x after) same (record { event = Execute now.state.number id; mine = refl; makes = m })
  executes id can (Ok false) after m = absurd (m.0 can)
  executes id can (Err e) after m = m ∙ same

  pub resolves : (ids : List TxnId) → CanResolve (sched_of now.state.logs now.state.here) ids → (result : Result Bool NoMemory) (after : RegionView)
      → MakesStep [] now (Resolve now.state.number ids) result after → StepsOn procs r result after
  resolves ids can (Ok true) after m = subst (λ x. IsOwnStep procs x after) same (record { event = Resolve now.state.number ids; mine = refl; makes = m })
  resolves ids can (Ok false) after m = absurd (m.0 can)
  resolves ids can (Err e) after m = m ∙ same

  pub stops : HasInsertedAll r.state.logs r.state.here → IsNextReady (sched_of now.state.logs now.state.here) [] None → IsNextClass (sched_of now.state.logs now.state.here) None → StepsOn procs r (Ok false) now
  stops inserted ready class = (
    record {
      inserted = inserted;
      executed = λ id can. subst (λ x. IsNextReady (sched_of x.state.logs x.state.here) [] None) same ready id can;
      resolved = λ ids can. subst (λ x. IsNextClass (sched_of x.state.logs x.state.here) None) same class ids can;
    },
    same,
  )
