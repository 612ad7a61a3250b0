-- Each legal event keeps every annotation rooted in the one history of moves.
use Rattle.std.proofs.Common.{◌≡◌, ◌<◌, ◌≤◌, ◌+◌, ℕ, zero, suc, List, [], ◌++◌, length, take, slice_get, Some, refl, sym, ap, ap₂, subst, subst₂, ◌∙◌, inl, inr, arith}
use Rattle.std.proofs.lemmas.List.{take_at, take-append-le}
use Rattle.std.proofs.lemmas.Option.{slice_get_within}
use Rattle.dt_lists.specs.Lists.{AllIn, Has, IsFront}
use Rattle.dt_lists.proofs.Callers.{any_from_at, all_map, all_get, all_put}
use Rattle.dt_lists.proofs.Callers.{has_place, at_place, place_in_longer}
use Rattle.dt_access.specs.Clash.{Bytes}
use Rattle.dt_access.specs.Granules.{unit_of}
use Rattle.dt_access.specs.declared.Mode.{Mode}
use Rattle.dt_access.specs.declared.TxnId.{TxnId}
use Rattle.dt_access.specs.declared.Access.{Access}
use Rattle.dt_sched.specs.Views.{View, HasPart, IsPresent, Reaches, IsClosed, Precedes}
use Rattle.dt_sched.proofs.Callers.{complete_of_closed}
use Rattle.dt_sched.proofs.Callers.{reach_source, present_of_complete}
use Rattle.dt_table.specs.Table.{Table, Moved, moves_of, opening_home, home_after, home_of}
use Rattle.dt_txn.specs.declared.Txn.{Txn}
use Rattle.dt_txn.specs.Transaction.{annotated}
use Rattle.dt_txn.specs.Serial.{table_after}
use Rattle.dt_txn.specs.Replica.{done_ids}
use Rattle.dt_serial.proofs.Callers.{movers_ran, moves_front}
use Rattle.dt_cluster.specs.declared.Cluster.{Cluster}
use Rattle.dt_workload.specs.declared.Workload.{Workload}
use Rattle.dt_session.specs.World.{World, Submission, node_at, opening_table, opening_world, logs_of, submissions}
use Rattle.dt_session.specs.Step.{upcoming_id}
use Rattle.dt_session.specs.Run.{txns_of}
use Rattle.dt_agreement.specs.Invariant.{history_of, HasRoot, IsRooted, Rooted, Inv}
use Rattle.dt_agreement.proofs.Submissions.{Keeps, WasSubmitted, txn_there, numbered, txns_same}
use Rattle.dt_agreement.proofs.RegionViews.{closed_full, present_known, executed_closed}
use Rattle.dt_agreement.proofs.OpeningWorld.{opening_submissions}
use Rattle.dt_agreement.proofs.Annotations.{opening_home_stays, unmoved_at_first}
use Rattle.dt_agreement.proofs.MoveHistory.{done_txn_ids, region_members, region_down, order_is_history}

-- where logs and the history of each key stay, so does what roots an entry
pub entries_kept : (cluster : Cluster) (l k : View) (m n : Bytes → List Moved) → k ≡ l → ((key : Bytes) → n key ≡ m key) → (t : TxnId) (access : List Access)
    → AllIn (λ a. IsRooted cluster l (m a.key) t a) access → AllIn (λ a. IsRooted cluster k (n a.key) t a) access
entries_kept cluster l k m n e f t access r = all_map _ _ access (λ a x. subst₂ (λ logs moves. IsRooted cluster logs moves t a) (sym e) (sym (f a.key)) x) r

-- where logs, submissions and the order stay, so does what is rooted
pub rooted_kept : (cluster : Cluster) (w v : World) (order : List TxnId) → logs_of v ≡ logs_of w → submissions v ≡ submissions w → Keeps (λ n. n.submitted) w v → Rooted cluster w order → Rooted cluster v order
rooted_kept cluster w v order e f k r = subst (AllIn (λ s. AllIn (λ a. IsRooted cluster (logs_of v) (history_of cluster v order a.key) s.txn.id a) s.txn.access)) (sym f)
    (all_map _ _ (submissions w) (λ s x. entries_kept cluster (logs_of w) (logs_of v) (history_of cluster w order) (history_of cluster v order) e histories s.txn.id s.txn.access x) r)
  where
    histories : (key : Bytes) → history_of cluster v order key ≡ history_of cluster w order key
    histories key = ap (λ l. moves_of (table_after cluster.procs l (opening_table cluster)) key) (txns_same w v k order)

-- a longer history roots what a shorter one roots

root_within : (logs : View) (t : TxnId) (home : ℕ) (moves : List Moved) (c : ℕ) → HasRoot logs t home moves c → c ≤ length moves
root_within logs t home moves zero r = omega arith
root_within logs t home moves (suc c) r = let lt : c < length moves = slice_get_within moves c r.0 r.1 in omega arith

root_longer : (logs : View) (t : TxnId) (home : ℕ) (moves rest : List Moved) (c : ℕ) → HasRoot logs t home moves c → HasRoot logs t home (moves ++ rest) c
root_longer logs t home moves rest zero r = tt
root_longer logs t home moves rest (suc c) r = (r.0, place_in_longer moves rest c r.0 r.1, r.2, r.3, r.4)

pub rooted_longer : (cluster : Cluster) (logs : View) (moves whole : List Moved) (t : TxnId) (a : Access) → IsFront moves whole → IsRooted cluster logs moves t a → IsRooted cluster logs whole t a
rooted_longer cluster logs moves whole t a f r = subst (λ l. IsRooted cluster logs l t a) f.1 (record {
  home = r.home ∙ ap (home_after (opening_home cluster.regions cluster.homes (unit_of cluster.version a.key))) (sym (take-append-le a.counter moves f.0 (root_within logs t a.home moves a.counter r.root)));
  root = root_longer logs t a.home moves f.0 a.counter r.root;
})

-- the opening world has nothing to root
pub opening_rooted : (cluster : Cluster) (workload : Workload) → Rooted cluster (opening_world cluster workload) []
opening_rooted cluster workload = all_put _ (submissions (opening_world cluster workload)) (λ s h. absurd (none s h))
  where
    none : (s : Submission) → ¬ (Has (submissions (opening_world cluster workload)) s)
    none s h = subst (λ l. Has l s) (opening_submissions cluster workload) h

-- a new id

module _ {cluster : Cluster} {workload : Workload} {w : World} {order : List TxnId} (i : Inv cluster workload w order) where
  -- the id of a region's next submission was not submitted
  pub next_unknown : (region : ℕ) → ¬ (WasSubmitted w (upcoming_id w region))
  next_unknown region k =
      let r : (s : Submission) × Has (submissions w) s × (s.txn ≡ k.0) × (s.txn.id ≡ upcoming_id w region) = txn_there w (upcoming_id w region) k.0 k.1 in
      let p : (q j : ℕ) × (q < cluster.regions) × (slice_get (node_at w q).submitted j ≡ Some r.0) × (r.0.txn.id ≡ record { seq = j + 1; region = q }) = numbered cluster.regions w i.nodes i.ids r.0 r.1 in
      let same : upcoming_id w region ≡ record { seq = p.1 + 1; region = p.0 } = sym r.3 ∙ p.4 in
      let seq : length (node_at w region).submitted + 1 ≡ p.1 + 1 = ap (λ x. x.seq) same in
      let home : region ≡ p.0 = ap (λ x. x.region) same in
      let lt : p.1 < length (node_at w p.0).submitted = slice_get_within (node_at w p.0).submitted p.1 r.0 p.3 in
      let there : p.1 < length (node_at w region).submitted = subst (λ x. p.1 < length (node_at w x).submitted) (sym home) lt in
      omega arith

  -- so it has no part in any log
  pub next_absent : (region : ℕ) → ¬ (IsPresent (logs_of w) (upcoming_id w region))
  next_absent region p = next_unknown region (present_known i (upcoming_id w region) p)

  -- what a region's table has of the moves of a unit roots a new id
  front_roots : (t : TxnId) (home : ℕ) (front whole : List Moved) → IsFront front whole → AllIn (λ m. IsClosed (logs_of w) m.by) front → ¬ (IsPresent (logs_of w) t) → HasRoot (logs_of w) t home whole (length front)
  front_roots t home front whole f closed absent = go (length front) refl
    where
      unreached : (m : Moved) → Has front m → ¬ (Reaches (logs_of w) t m.by)
      unreached m h r = elim (reach_source (logs_of w) r) [
        | inl e ↦ absent (subst (IsPresent (logs_of w)) (sym e) (present_of_complete (logs_of w) m.by (complete_of_closed (logs_of w) m.by (all_get (λ x. IsClosed (logs_of w) x.by) front closed m h))))
        | inr p ↦ absent p
      ]

      go : (n : ℕ) → length front ≡ n → HasRoot (logs_of w) t home whole n
      go zero e = tt
      go (suc c) e =
          let m : (x : Moved) × (slice_get front c ≡ Some x) = at_place front c (omega arith) in
          let there : Has front m.0 = has_place front c m.0 m.1 in (
            m.0,
            subst (λ l. slice_get l c ≡ Some m.0) f.1 (place_in_longer front f.0 c m.0 m.1),
            all_get (λ x. IsClosed (logs_of w) x.by) front closed m.0 there,
            unreached m.0 there,
            λ h. absurd (absent (any_from_at (λ log. HasPart log t) [] (logs_of w) home (λ e. e) h)),
          )

  module _ (rooted : Rooted cluster w order) where
    -- what a region annotates is rooted
    pub annotated_rooted : (region : ℕ) → region < cluster.regions → (used : Bytes × Mode) → IsRooted cluster (logs_of w) (history_of cluster w order used.0) (upcoming_id w region) (annotated (node_at w region).here.table used)
    annotated_rooted region lr used = record { home = home; root = root }
      where
        here : Table
        here = (node_at w region).here.table

        ran : List Txn
        ran = txns_of w (done_ids (node_at w region).here)

        table : here ≡ table_after cluster.procs ran (opening_table cluster)
        table = (i.tables region lr).table

        moves : List Moved
        moves = moves_of (table_after cluster.procs ran (opening_table cluster)) used.0

        same : moves_of here used.0 ≡ moves
        same = ap (λ t. moves_of t used.0) table

        front : IsFront moves (history_of cluster w order used.0)
        front = moves_front cluster.procs (Precedes (logs_of w)) (opening_table cluster) (txns_of w order) (order_is_history i rooted) ran used.0 (region_members i rooted region lr) (region_down i rooted region lr)

        closed : AllIn (λ m. IsClosed (logs_of w) m.by) moves
        closed = all_map _ _ moves (λ m h. closed_full i region m.by lr (executed_closed i region m.by lr (subst (λ l. Has l m.by) (done_txn_ids i region lr) h)))
            (movers_ran cluster.procs ran (opening_table cluster) used.0 (unmoved_at_first cluster used.0))

        home : home_of here used.0 ≡ home_after (opening_home cluster.regions cluster.homes (unit_of cluster.version used.0)) (take (length (moves_of here used.0)) (history_of cluster w order used.0))
        home = ap₂ home_after (opening_home_stays cluster ran here used.0 table)
            (same ∙ sym (ap₂ take (ap length same) (sym front.1) ∙ take_at moves front.0 (length moves) refl))

        root : HasRoot (logs_of w) (upcoming_id w region) (home_of here used.0) (history_of cluster w order used.0) (length (moves_of here used.0))
        root = subst (HasRoot (logs_of w) (upcoming_id w region) (home_of here used.0) (history_of cluster w order used.0)) (sym (ap length same))
            (front_roots (upcoming_id w region) (home_of here used.0) moves (history_of cluster w order used.0) front closed (next_absent region))
