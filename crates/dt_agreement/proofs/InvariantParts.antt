-- What of the invariant an event leaves as it was, since it leaves what that speaks of.
use Rattle.std.proofs.Common.{◌≡◌, ◌<◌, ◌≤◌, ℕ, List, [], ◌∷◌, length, get_or, set, map, take, sym, ap, ap₂, subst, ◌∙◌}
use Rattle.std.specs.Prelude.{slice_index, Some}
use Rattle.dt_lists.specs.Lists.{AnyIn, AllIn, Has, Pairwise}
use Rattle.dt_lists.proofs.Callers.{all_map}
use Rattle.dt_access.specs.declared.TxnId.{TxnId}
use Rattle.dt_access.specs.declared.Part.{Part}
use Rattle.dt_sched.specs.Views.{ids_of, Precedes}
use Rattle.dt_sched.specs.Decide.{IsSound}
use Rattle.dt_txn.specs.Transaction.{IsValid}
use Rattle.dt_txn.specs.Serial.{outcomes, table_after}
use Rattle.dt_txn.specs.Replica.{fronts, done_ids}
use Rattle.dt_serial.specs.Order.{IsDown}
use Rattle.dt_cluster.specs.declared.Cluster.{Cluster}
use Rattle.dt_workload.specs.declared.Session.{Session}
use Rattle.dt_workload.specs.declared.Workload.{Workload}
use Rattle.dt_session.specs.World.{World, Submission, Place, opening_table, node_at, asked_of, taken_of, logs_of, log_of, received_of, view_at, submissions, txn_of}
use Rattle.dt_session.specs.Run.{txns_of}
use Rattle.dt_agreement.specs.Invariant.{IsSized, AreNumbered, requests, IsPartAt, given_by, IsLog, AreInOrder, IsRunOf, IsExecutedAt, IsOrder, IsPlaced, IsPlaceOf, IsSubmissionOf, SessionsMatch}
use Rattle.dt_agreement.proofs.Submissions.{Keeps, txn_same}

-- the parts of the invariant, each as a statement on a world

abbrev pub AreSized : ℕ → World → Type 0
AreSized regions w = (region : ℕ) → region < regions → IsSized regions (node_at w region)

abbrev pub Numbered : ℕ → World → Type 0
Numbered regions w = (region : ℕ) → region < regions → AreNumbered region (node_at w region).submitted

abbrev pub Valid : Cluster → ℕ → World → Type 0
Valid cluster regions w = AllIn (λ s. IsValid cluster.procs cluster.version regions s.txn) (submissions w)

abbrev pub Asked : ℕ → World → Type 0
Asked regions w = (region home : ℕ) → region < regions → home < regions → asked_of w region home ≡ requests home (node_at w region).submitted

abbrev pub Logs : ℕ → World → Type 0
Logs regions w = (home : ℕ) → home < regions → IsLog regions w home

abbrev pub Lengths : ℕ → World → Type 0
Lengths regions w = (region home : ℕ) → region < regions → home < regions → AreInOrder w region home

abbrev pub Sound : ℕ → World → Type 0
Sound regions w = (region : ℕ) → region < regions → IsSound (view_at w region) (node_at w region).here.resolved (done_ids (node_at w region).here)

abbrev pub Tables : Cluster → World → Type 0
Tables cluster w = (region : ℕ) → region < cluster.regions → IsRunOf cluster (opening_table cluster) (txns_of w (done_ids (node_at w region).here)) (node_at w region).here

module _ (cluster : Cluster) (w v : World) where
  pub ids_kept : (regions : ℕ) → Keeps (λ n. n.submitted) w v → Numbered regions w → Numbered regions v
  ids_kept regions k i region lt = subst (AreNumbered region) (sym (k region)) (i region lt)

  pub valid_kept : (regions : ℕ) → submissions v ≡ submissions w → Valid cluster regions w → Valid cluster regions v
  valid_kept regions e a = subst (AllIn (λ s. IsValid cluster.procs cluster.version regions s.txn)) (sym e) a

  pub asked_kept : (regions : ℕ) → Keeps (λ n. n.here.asked) w v → Keeps (λ n. n.submitted) w v → Asked regions w → Asked regions v
  asked_kept regions ka ks a region home lr lh = ap (λ l. get_or l home []) (ka region) ∙ a region home lr lh ∙ ap (requests home) (sym (ks region))

  pub parts_kept : (home : ℕ) → ((id : TxnId) (txn : _) → txn_of w id ≡ Some txn → txn_of v id ≡ Some txn) → (log : List Part) → AllIn (IsPartAt w home) log → AllIn (IsPartAt v home) log
  parts_kept home f log a = all_map (IsPartAt w home) (IsPartAt v home) log (λ p x. (x.0, f p.id x.0 x.1, x.2)) a

  pub log_kept : (regions home : ℕ) → (node_at v home).log ≡ (node_at w home).log → (node_at v home).here.taken ≡ (node_at w home).here.taken → Keeps (λ n. n.here.asked) w v
      → Keeps (λ n. n.submitted) w v → IsLog regions w home → IsLog regions v home
  log_kept regions home kl kt ka e l = record {
    parts = subst (AllIn (IsPartAt v home)) (sym kl) (parts_kept home (λ id txn is. txn_same w v e id ∙ is) (log_of w home) l.parts);
    taken = λ source ls. subst (λ n. n ≤ length (asked_of v source home)) (sym (ap (λ t. get_or t source 0) kt)) (subst (λ n. taken_of w home source ≤ length n) (sym (ap (λ t. get_or t home []) (ka source))) (l.taken source ls));
    given = λ source ls. ap (λ x. given_by source (ids_of x)) kl ∙ l.given source ls ∙ sym (ap₂ take (ap (λ t. get_or t source 0) kt) (ap (λ t. get_or t home []) (ka source)));
  }

  pub logs_kept : (regions : ℕ) → Keeps (λ n. n.log) w v → Keeps (λ n. n.here.taken) w v → Keeps (λ n. n.here.asked) w v → Keeps (λ n. n.submitted) w v → Logs regions w → Logs regions v
  logs_kept regions kl kt ka e l home lt = log_kept regions home (kl home) (kt home) ka e (l home lt)

  pub received_kept : Keeps (λ n. n.received) w v → Keeps (λ n. n.log) w v → (region home : ℕ) → received_of v region home ≡ received_of w region home
  received_kept kr kl region home = λ i. get_or (set (kr region i) region (length (kl region i))) home 0

  pub view_kept : logs_of v ≡ logs_of w → Keeps (λ n. n.here.inserted) w v → Keeps (λ n. n.received) w v → Keeps (λ n. n.log) w v → (region : ℕ) → view_at v region ≡ view_at w region
  view_kept e ki kr kl region = λ i. fronts (ki region i) (fronts (set (kr region i) region (length (kl region i))) (e i))

  pub lengths_kept : (regions : ℕ) → Keeps (λ n. n.here.inserted) w v → Keeps (λ n. n.received) w v → Keeps (λ n. n.log) w v → Lengths regions w → Lengths regions v
  lengths_kept regions ki kr kl l region home lr lh =
      let received : received_of v region home ≡ received_of w region home = received_kept kr kl region home in
      let inserted : slice_index (node_at v region).here.inserted home ≡ slice_index (node_at w region).here.inserted home = ap (λ t. get_or t home 0) (ki region) in
      let log : length (log_of v home) ≡ length (log_of w home) = ap length (kl home) in
      let before : AreInOrder w region home = l region home lr lh in
      record {
        inserted = subst (λ n. n ≤ received_of v region home) (sym inserted) (subst (λ n. slice_index (node_at w region).here.inserted home ≤ n) (sym received) before.inserted);
        received = subst (λ n. n ≤ length (log_of v home)) (sym received) (subst (λ n. received_of w region home ≤ n) (sym log) before.received);
      }

  pub sound_kept : (regions : ℕ) → ((region : ℕ) → region < regions → view_at v region ≡ view_at w region) → Keeps (λ n. n.here.resolved) w v → Keeps (λ n. n.here.done) w v → Sound regions w → Sound regions v
  sound_kept regions e kr kd s region lt =
      subst (λ x. IsSound x (node_at v region).here.resolved (done_ids (node_at v region).here)) (sym (e region lt))
      (subst (λ l. IsSound (view_at w region) l (done_ids (node_at v region).here)) (sym (kr region))
      (subst (λ l. IsSound (view_at w region) (node_at w region).here.resolved (map (λ d. d.0) l)) (sym (kd region)) (s region lt)))

  pub tables_kept : ((region : ℕ) → region < cluster.regions → txns_of v (done_ids (node_at w region).here) ≡ txns_of w (done_ids (node_at w region).here)) → Keeps (λ n. n.here.done) w v
      → Keeps (λ n. n.here.table) w v → Tables cluster w → Tables cluster v
  tables_kept e kd kt t region lt =
      let same : txns_of v (done_ids (node_at v region).here) ≡ txns_of w (done_ids (node_at w region).here) = ap (λ l. txns_of v (map (λ d. d.0) l)) (kd region) ∙ e region lt in
      let before : IsRunOf cluster (opening_table cluster) (txns_of w (done_ids (node_at w region).here)) (node_at w region).here = t region lt in
      record {
        outcomes = kd region ∙ before.outcomes ∙ ap (λ x. outcomes cluster.procs x (opening_table cluster)) (sym same);
        table = kt region ∙ before.table ∙ ap (λ x. table_after cluster.procs x (opening_table cluster)) (sym same);
      }

  pub ordered_kept : (regions : ℕ) (order : List TxnId) → logs_of v ≡ logs_of w → Keeps (λ n. n.here.done) w v → IsOrder regions w order → IsOrder regions v order
  ordered_kept regions order e k o = record {
    executed = λ id. (
      λ h. let r : (region : ℕ) × (region < regions) × IsExecutedAt w region id = (o.executed id).0 h in (r.0, r.1, subst (λ l. Has (map (λ d. d.0) l) id) (sym (k r.0)) r.2),
      λ r. (o.executed id).1 (r.0, r.1, subst (λ l. Has (map (λ d. d.0) l) id) (k r.0) r.2),
    );
    down = subst (λ l. IsDown (Precedes l) order) (sym e) o.down;
  }

  pub place_kept : (tries : ℕ) → Keeps (λ n. n.submitted) w v → (session : Session) (place : Place) → IsPlaceOf tries w session place → IsPlaceOf tries v session place
  place_kept tries k session place p = record { answered = p.answered; placed = subst (λ l. IsPlaced tries l session place.answered place.waits) (sym (k session.region)) p.placed }

  pub places_kept : (tries : ℕ) → Keeps (λ n. n.submitted) w v → (sessions : List Session) (places : List Place) → Pairwise (IsPlaceOf tries w) sessions places → Pairwise (IsPlaceOf tries v) sessions places
  places_kept tries k [] [] p = tt
  places_kept tries k [] (y ∷ ys) p = p
  places_kept tries k (s ∷ ss) [] p = p
  places_kept tries k (s ∷ ss) (y ∷ ys) p = (place_kept tries k s y p.0, places_kept tries k ss ys p.1)

  -- a session of the region made the submission
  abbrev IsOfSessionAt : Workload → ℕ → Submission → Type 0
  IsOfSessionAt workload region s = AnyIn (IsSubmissionOf cluster.tries region s) workload.sessions

  pub known_kept : (workload : Workload) → Keeps (λ n. n.submitted) w v
      → ((region : ℕ) → region < cluster.regions → AllIn (IsOfSessionAt workload region) (node_at w region).submitted)
      → (region : ℕ) → region < cluster.regions → AllIn (IsOfSessionAt workload region) (node_at v region).submitted
  known_kept workload k a region lt = subst (AllIn (IsOfSessionAt workload region)) (sym (k region)) (a region lt)

  pub sessions_kept : (workload : Workload) → Keeps (λ n. n.submitted) w v → v.places ≡ w.places → SessionsMatch cluster workload w → SessionsMatch cluster workload v
  sessions_kept workload k e s = record {
    places = subst (Pairwise (IsPlaceOf cluster.tries v) workload.sessions) (sym e) (places_kept cluster.tries k workload.sessions w.places s.places);
    known = known_kept workload k s.known;
  }
