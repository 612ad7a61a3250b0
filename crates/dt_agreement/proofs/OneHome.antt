-- Where no call moves anything and each has one home at first, each submitted transaction has one home, and there is no
-- deadlock: the history of moves is empty, so that every annotation has the opening home of its key.
use Rattle.std.proofs.Common.{◌≡◌, ◌<◌, ℕ, List, [], ◌∷◌, ◌++◌, length, get_or, map, take, slice_get, refl, sym, ap, ap₂, subst, ◌∙◌}
use Rattle.std.proofs.Math.Seq.{take-nil}
use Rattle.dt_lists.specs.Lists.{AnyIn, AllIn, Has}
use Rattle.dt_lists.proofs.Callers.{any_get, all_get, all_put, all_of_places}
use Rattle.dt_lists.proofs.Callers.{has_place}
use Rattle.dt_lists.proofs.Callers.{Spot, spot}
use Rattle.dt_lists.proofs.Callers.{all_front}
use Rattle.dt_access.specs.Clash.{Bytes}
use Rattle.dt_access.specs.Granules.{unit_of}
use Rattle.dt_access.specs.declared.TxnId.{TxnId}
use Rattle.dt_access.specs.declared.Access.{Access}
use Rattle.dt_access.specs.declared.Part.{Part}
use Rattle.dt_sched.specs.Views.{View, IsLonger, IsClass, HasOneHomeEach}
use Rattle.dt_sched.proofs.Callers.{class_single, none_resolvable}
use Rattle.dt_events.specs.declared.Event.{Event}
use Rattle.dt_events.specs.declared.Event.TheVariants.{Resolve}
use Rattle.dt_table.specs.Table.{Moved, opening_home, home_after, home_of}
use Rattle.dt_txn.specs.declared.Body.{Body}
use Rattle.dt_txn.specs.declared.txn.Body.TheVariants.{Call, Move}
use Rattle.dt_txn.specs.Transaction.{set_of, targets_of, homes_of, used_of, annotated, uses_of, IsValid}
use Rattle.dt_txn.specs.Replica.{done_ids}
use Rattle.dt_serial.specs.Evidence.{MadeMove}
use Rattle.dt_serial.proofs.Callers.{move_made}
use Rattle.dt_cluster.specs.declared.Cluster.{Cluster}
use Rattle.dt_workload.specs.declared.Session.{Session}
use Rattle.dt_workload.specs.declared.Workload.{Workload}
use Rattle.dt_session.specs.World.{World, Submission, node_at, opening_table, logs_of, view_at, submissions}
use Rattle.dt_session.specs.Step.{IsLegal, body_of}
use Rattle.dt_session.specs.Run.{AreLegalFrom, world_after, txns_of, order_of}
use Rattle.dt_session.specs.OneHome.{homes_at_first, HasOneHome, CallsHaveOneHome}
use Rattle.dt_agreement.specs.LegalRun.{IsLegalRun}
use Rattle.dt_agreement.specs.Invariant.{IsPartAt, IsSubmissionOf, IsRooted, Rooted, history_of, Inv}
use Rattle.dt_agreement.proofs.Submissions.{home_region, txn_there}
use Rattle.dt_agreement.proofs.RegionViews.{view_longer, view_well_formed, full_well_formed}
use Rattle.dt_agreement.proofs.Annotations.{txns_submitted, unmoved_at_first}
use Rattle.dt_agreement.proofs.MoveHistory.{part_there}
use Rattle.dt_agreement.proofs.Runs.{run_front}
use Rattle.dt_agreement.proofs.LegalWorlds.{legal_keeps}
use Rattle.dt_agreement.proofs.RootedWorlds.{legal_roots}

-- lists

one_home_front : (short long : View) → IsLonger short long → HasOneHomeEach long → HasOneHomeEach short
one_home_front [] [] f a = tt
one_home_front [] (y ∷ ys) f a = absurd f
one_home_front (x ∷ xs) [] f a = absurd f
one_home_front (x ∷ xs) (y ∷ ys) f a = (all_front (λ p. length p.homes ≡ 1) x y f.0 a.0, one_home_front xs ys f.1 a.1)

-- the homes of entries that have the opening homes of their keys
homes_listed : (cluster : Cluster) (access : List Access) → AllIn (λ a. a.home ≡ home_of (opening_table cluster) a.key) access
    → map (λ a. a.home) access ≡ map (λ a. a.home) (map (annotated (opening_table cluster)) (map used_of access))
homes_listed cluster [] e = refl
homes_listed cluster (a ∷ access) e = ap₂ ◌∷◌ e.0 (homes_listed cluster access e.1)

not_a_move : (cluster : Cluster) (body : Body) (key : Bytes) (target : ℕ) → HasOneHome cluster body → ¬ (body ≡ Move key target)
not_a_move cluster body key target one e = subst (HasOneHome cluster) e one

one_at_first : (cluster : Cluster) (body : Body) → HasOneHome cluster body → length (homes_at_first cluster body) ≡ 1
one_at_first cluster (Call proc args) one = one
one_at_first cluster (Move key target) one = absurd one

module _ {cluster : Cluster} {workload : Workload} {w : World} {order : List TxnId} (i : Inv cluster workload w order) (rooted : Rooted cluster w order) (calls : CallsHaveOneHome cluster workload) where
  -- each submission does a call of the workload
  body_one : (s : Submission) → Has (submissions w) s → HasOneHome cluster s.txn.body
  body_one s h =
      let at : (s.txn.id.region < cluster.regions) × Has (node_at w s.txn.id.region).submitted s = home_region cluster.regions w i.nodes i.ids s h in
      let known : AnyIn (IsSubmissionOf cluster.tries s.txn.id.region s) workload.sessions =
      all_get (λ x. AnyIn (IsSubmissionOf cluster.tries s.txn.id.region x) workload.sessions) (node_at w s.txn.id.region).submitted (i.sessions.known s.txn.id.region at.0) s at.1 in
      let r : (session : Session) × Has workload.sessions session × IsSubmissionOf cluster.tries s.txn.id.region s session = any_get (IsSubmissionOf cluster.tries s.txn.id.region s) workload.sessions known in
      let its : AllIn (λ call. HasOneHome cluster (body_of call.wanted)) r.0.calls = all_get (λ session. AllIn (λ call. HasOneHome cluster (body_of call.wanted)) session.calls) workload.sessions calls r.0 r.1 in
      subst (HasOneHome cluster) (sym r.2.of_call.body) (all_get (λ call. HasOneHome cluster (body_of call.wanted)) r.0.calls its r.2.of_call.call (has_place r.0.calls r.2.of_call.place r.2.of_call.call r.2.of_call.called))

  -- so nothing was ever moved
  no_moves : (key : Bytes) → history_of cluster w order key ≡ []
  no_moves key = go (history_of cluster w order key) refl
    where
      go : (moves : List Moved) → history_of cluster w order key ≡ moves → moves ≡ []
      go [] e = refl
      go (m ∷ moves) e =
          let made : MadeMove cluster.procs (txns_of w order) (opening_table cluster) key 0 m.by = move_made cluster.procs (txns_of w order) (opening_table cluster) key 0 m (unmoved_at_first cluster key) (ap (λ l. slice_get l 0) e) in
          let s : (s : Submission) × Has (submissions w) s × (s.txn ≡ made.mover) = txns_submitted w order made.mover made.there in
          absurd (not_a_move cluster s.0.txn.body made.moved made.target (body_one s.0 s.1) (ap (λ x. x.body) s.2 ∙ made.body))

  -- and each annotation has the opening home of its key
  entry_home : (s : Submission) → Has (submissions w) s → (a : Access) → Has s.txn.access a → a.home ≡ home_of (opening_table cluster) a.key
  entry_home s h a ha =
      let root : IsRooted cluster (logs_of w) (history_of cluster w order a.key) s.txn.id a =
      all_get (λ b. IsRooted cluster (logs_of w) (history_of cluster w order b.key) s.txn.id b) s.txn.access
      (all_get (λ x. AllIn (λ b. IsRooted cluster (logs_of w) (history_of cluster w order b.key) x.txn.id b) x.txn.access) (submissions w) rooted s h) a ha in
      root.home ∙ ap (home_after (opening_home cluster.regions cluster.homes (unit_of cluster.version a.key))) (ap (take a.counter) (no_moves a.key) ∙ take-nil a.counter ∙ sym (unmoved_at_first cluster a.key))

  submission_one : (s : Submission) → Has (submissions w) s → length (homes_of s.txn) ≡ 1
  submission_one s h =
      let valid : IsValid cluster.procs cluster.version cluster.regions s.txn = all_get (λ x. IsValid cluster.procs cluster.version cluster.regions x.txn) (submissions w) i.valid s h in
      let listed : map (λ a. a.home) s.txn.access ≡ map (λ a. a.home) (map (annotated (opening_table cluster)) (map used_of s.txn.access)) =
      homes_listed cluster s.txn.access (all_put (λ a. a.home ≡ home_of (opening_table cluster) a.key) s.txn.access (entry_home s h)) in
      let first : map (λ a. a.home) s.txn.access ≡ map (λ a. a.home) (map (annotated (opening_table cluster)) (uses_of cluster.procs cluster.version s.txn.body)) =
      listed ∙ ap (λ us. map (λ a. a.home) (map (annotated (opening_table cluster)) us)) valid.uses in
      ap (λ homes. length (set_of (homes ++ targets_of s.txn.body))) first ∙ one_at_first cluster s.txn.body (body_one s h)

  part_one : (home : ℕ) (p : Part) → IsPartAt w home p → length p.homes ≡ 1
  part_one home p at =
      let s : (s : Submission) × Has (submissions w) s × (s.txn ≡ at.0) × (s.txn.id ≡ p.id) = txn_there w p.id at.0 at.1 in
      ap (λ q. length q.homes) at.2 ∙ ap (λ x. length (homes_of x)) (sym s.2) ∙ submission_one s.0 s.1

  -- each transaction of the logs, and of each region's view, has one home
  pub logs_one : HasOneHomeEach (logs_of w)
  logs_one = all_of_places (AllIn (λ p. length p.homes ≡ 1)) [] (logs_of w) (λ home lt. all_put (λ p. length p.homes ≡ 1) (get_or (logs_of w) home []) (λ p h. part_one home p (part_there i home p h)))

  pub view_one : (region : ℕ) → region < cluster.regions → HasOneHomeEach (view_at w region)
  view_one region lr = one_home_front (view_at w region) (logs_of w) (view_longer i region lr) logs_one

module _ {cluster : Cluster} {workload : Workload} {events : List Event} (run : IsLegalRun cluster workload events) (calls : CallsHaveOneHome cluster workload) where
  w : World
  w = world_after cluster workload events

  i : Inv cluster workload w (order_of events)
  unfolding w
  i = legal_keeps run

  rooted : Rooted cluster w (order_of events)
  unfolding w
  rooted = legal_roots run

  -- each class has one member, in the whole logs and in each region's view
  pub class_is_single : (t : TxnId) (ids : List TxnId) → IsClass (logs_of (world_after cluster workload events)) t ids → ids ≡ t ∷ []
  unfolding w
  class_is_single t ids c = class_single (logs_of w) (full_well_formed i) (logs_one i rooted calls) t ids c

  pub class_at_is_single : (region : ℕ) → region < cluster.regions → (t : TxnId) (ids : List TxnId) → IsClass (view_at (world_after cluster workload events) region) t ids → ids ≡ t ∷ []
  unfolding w
  class_at_is_single region lr t ids c =
      class_single (view_at w region) (view_well_formed i region lr) (view_one i rooted calls region lr) t ids c

  -- so no resolution is legal
  pub no_resolution : (region : ℕ) (ids : List TxnId) → ¬ (IsLegal cluster workload (world_after cluster workload events) (Resolve region ids))
  unfolding w
  no_resolution region ids l =
      none_resolvable (view_at w region) (view_well_formed i region l.regions) (view_one i rooted calls region l.regions)
      (node_at w region).here.resolved (done_ids (node_at w region).here) ids l.allowed

-- and none occurs
pub none_resolved : {cluster : Cluster} {workload : Workload} {events : List Event} → IsLegalRun cluster workload events → CallsHaveOneHome cluster workload
    → (region : ℕ) (ids : List TxnId) → ¬ (Has events (Resolve region ids))
none_resolved {cluster = cluster} {workload = workload} {events = events} run calls region ids h =
    let s : Spot events (Resolve region ids) = spot events (Resolve region ids) h in
    let split : IsLegalRun cluster workload s.front × AreLegalFrom cluster workload (world_after cluster workload s.front) (Resolve region ids ∷ s.rest) =
    run_front s.front (Resolve region ids ∷ s.rest) (subst (IsLegalRun cluster workload) s.is run) in
    no_resolution split.0 calls region ids split.1.0
