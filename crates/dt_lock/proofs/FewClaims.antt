-- Few claims run at once: each is of an id that may be executed, which has a part in the region's logs, and the parts of all logs
-- are counted by 32 bits.
use Rattle.std.proofs.Common.{◌≡◌, ◌<◌, ◌≤◌, ◌+◌, ◌^◌, List, [], ◌∷◌, ◌++◌, length, map, arith}
use Rattle.std.proofs.lemmas.List.{length-append, length-map}
use Rattle.dt_lists.specs.Lists.{AllIn, Distinct, Has}
use Rattle.dt_lists.proofs.Callers.{all_image, all_map, distinct_within, each_image, each_map}
use Rattle.dt_access.specs.declared.TxnId.{TxnId}
use Rattle.dt_sched.specs.Sched.{CanExecute, parts_in}
use Rattle.dt_sched.specs.Views.{View}
use Rattle.dt_sched.proofs.Callers.{complete_of_closed, has_of_present, ids_in, ids_in_length, present_of_complete}
use Rattle.dt_proc.specs.Tree.{ProcTree}
use Rattle.dt_txn.specs.declared.txn.Txn.{Txn}
use Rattle.dt_txn.specs.declared.outcome.Seen.{Seen}
use Rattle.dt_txn.specs.Replica.{view_of}
use Rattle.dt_region.specs.Region.{RegionView, sched_of}
use Rattle.dt_region.proofs.Callers.{fronts_few}
use Rattle.dt_lock.specs.declared.running.Running.{Running}
use Rattle.dt_lock.specs.Held.{AreDisjoint, HeldView, IsHeld}
use Rattle.dt_lock.proofs.HeldSteps.{MayClaim, one_running}

module _ (procs : List ProcTree) (before : RegionView) (h : HeldView) (is : IsHeld procs before h) where
  abbrev view : View
  view = view_of h.region.state.logs h.region.state.here

  known : (r : Running) → CanExecute (sched_of h.region.state.logs h.region.state.here) r.id → Has (ids_in view) r.id
  known r can = has_of_present view r.id (present_of_complete view r.id (complete_of_closed view r.id can.closed))

  pub few_running : length h.running < 2 ^ 32
  few_running =
      let ids : List TxnId = map (λ (r : Running). r.id) h.running in
      let once : Distinct ids = each_image (λ (a b : TxnId). ¬ (a ≡ b)) (λ (r : Running). r.id) h.running (each_map (AreDisjoint before.state) (λ (a b : Running). ¬ (a.id ≡ b.id)) h.running (λ a b apart. apart.0) is.apart) in
      let there : AllIn (Has (ids_in view)) ids = all_image (Has (ids_in view)) (λ (r : Running). r.id) h.running (all_map _ (λ (r : Running). Has (ids_in view) r.id) h.running known is.executable) in
      let a : length ids ≤ length (ids_in view) = distinct_within ids (ids_in view) once there in
      let b : length ids ≡ length h.running = length-map h.running (λ (r : Running). r.id) in
      let c : length (ids_in view) ≡ parts_in view = ids_in_length view in
      let d : parts_in view ≤ parts_in h.region.state.logs = fronts_few h.region.state.here.inserted h.region.state.logs in
      let e = is.underway.sound.few in
      omega (arith, a, b, c, d, e)

-- so one that isn't busy is counted too
pub one_more_fits : (procs : List ProcTree) (before : RegionView) (v : HeldView) (h : IsHeld procs before v) {id : TxnId} {txn : Txn} {seen : List Seen} → MayClaim before v id txn seen
    → length v.running + 1 < 2 ^ 32
one_more_fits procs before v h {id} {txn} {seen} may =
    let more : length (v.running ++ record { id = id; seen = seen } ∷ []) ≡ length v.running + 1 = length-append v.running (record { id = id; seen = seen } ∷ []) in
    let few = few_running procs before _ (one_running procs before v h may) in
    omega (arith, more, few)
