-- A submission keeps the invariant.
use Rattle.std.proofs.Common.{◌≡◌, ◌≢◌, ◌<◌, ◌≤◌, ◌+◌, ◌*◌, ◌⊎◌, ℕ, true, false, List, [], ◌∷◌, ◌++◌, length, get_or, take, slice_get, Some, None, refl, sym}
use Rattle.std.proofs.Common.{ap, ap₂, subst, ◌∙◌, inl, inr, append-nil, arith}
use Rattle.std.specs.Prelude.{Option, option_map, unwrap_or, slice_index, filter}
use Rattle.std.proofs.lemmas.Bool.{cases_Bool, false_from_ne_true}
use Rattle.std.proofs.lemmas.List.{length-set, length-append, take-append-le, get_or-set_same, get_or-set_other}
use Rattle.std.proofs.lemmas.List.Elements.{filter-append}
use Rattle.std.proofs.Math.Seq.{map-set_same}
use Rattle.dt_lists.specs.Lists.{AnyIn, AllIn, Has, Either}
use Rattle.dt_lists.proofs.Callers.{any_put, all_get, all_put}
use Rattle.dt_lists.proofs.Callers.{either_nat}
use Rattle.dt_lists.proofs.Callers.{field_of_set, each_of_set, all_more, has_more, has_last, has_longer, has_place, at_place}
use Rattle.dt_access.specs.Clash.{Bytes, same_key}
use Rattle.dt_access.specs.declared.TxnId.{TxnId}
use Rattle.dt_sched.specs.Views.{ids_of}
use Rattle.dt_txn.specs.declared.Txn.{Txn}
use Rattle.dt_txn.specs.Transaction.{homes_of, IsValid}
use Rattle.dt_table.specs.Table.{Table, home_of}
use Rattle.dt_txn.specs.Replica.{done_ids}
use Rattle.dt_cluster.specs.declared.Cluster.{Cluster}
use Rattle.dt_cluster.specs.Valid.{IsValidCluster}
use Rattle.dt_workload.specs.declared.Session.{Session}
use Rattle.dt_workload.specs.declared.Ranked.{Ranked}
use Rattle.dt_workload.specs.declared.Workload.{Workload}
use Rattle.dt_workload.specs.Valid.{RankedFits, IsValidSession, IsValidWorkload}
use Rattle.dt_session.specs.World.{World, Node, Place, Submission, opening_table, no_node, node_at, asked_of, taken_of, log_of, logs_of, submissions, submission_of, attempt_of, txn_of, session_at}
use Rattle.dt_txn.specs.HomesAsked.{ask}
use Rattle.dt_txn.proofs.Callers.{ask_length}
use Rattle.dt_session.specs.Step.{MayTry, MaySubmit, awaited_at, body_of, upcoming_id, next_attempt, attempt_for, node_submitted, world_submitted, called, submitted}
use Rattle.dt_session.specs.Run.{txns_of}
use Rattle.dt_agreement.specs.Invariant.{IsSized, AreNumbered, has_home, requests, given_by, attempts_by, IsSubmissionOf, IsWaiting, IsPlaced, IsPlaceOf, SessionsMatch, Inv}
use Rattle.dt_agreement.proofs.InvariantParts.{AreSized, Numbered, Valid, Asked, Logs, parts_kept, lengths_kept, view_kept, sound_kept, tables_kept, ordered_kept}
use Rattle.dt_agreement.proofs.Submissions.{Keeps, AreUnlike, submission_is_found, at_region, from_region, unlike, submission_stays, txn_stays, txns_stay}
use Rattle.dt_agreement.proofs.Homes.{home_of_test, test_of_home, homes_once, ask_here, ask_other}
use Rattle.dt_agreement.proofs.Requests.{requests_append, requests_here, requests_not, numbered_more}
use Rattle.dt_agreement.proofs.Sessions.{session_found, place_changed}
use Rattle.dt_access.proofs.Callers.{key_of_test, test_of_key}
use Rattle.dt_agreement.proofs.RegionViews.{done_known}
use Rattle.dt_agreement.proofs.Annotations.{txns_valid, version_stays, home_below, body_fits, annotated_valid}

-- how many attempts of a name there are with one more submission

attempts_more : (name : Bytes) (xs : List Submission) (s : Submission) → attempts_by name (xs ++ s ∷ []) ≡ attempts_by name xs + length (filter (λ y. same_key y.session name) (s ∷ []))
attempts_more name xs s = ap length (filter-append (λ y. same_key y.session name) xs (s ∷ [])) ∙ length-append (filter (λ y. same_key y.session name) xs) (filter (λ y. same_key y.session name) (s ∷ []))

pub attempts_own : (name : Bytes) (xs : List Submission) (s : Submission) → s.session ≡ name → attempts_by name (xs ++ s ∷ []) ≡ attempts_by name xs + 1
attempts_own name xs s e = attempts_more name xs s ∙ ap (λ n. attempts_by name xs + n) one_more
  where
    one_more : length (filter (λ y. same_key y.session name) (s ∷ [])) ≡ 1
    one_more = rw (test_of_key s.session name e) refl

pub attempts_of_other : (name : Bytes) (xs : List Submission) (s : Submission) → s.session ≢ name → attempts_by name (xs ++ s ∷ []) ≡ attempts_by name xs
attempts_of_other name xs s n = attempts_more name xs s ∙ ap (λ m. attempts_by name xs + m) none ∙ (omega arith)
  where
    none : length (filter (λ y. same_key y.session name) (s ∷ [])) ≡ 0
    none = rw (false_from_ne_true (same_key s.session name) (λ e. n (key_of_test s.session name e))) refl

-- what a session that may try has
pub record MayGoOn (cluster : Cluster) (w : World) (session : Session) (place : Place) : Type 0 where
  pub call : place.answered < length session.calls
  pub from : 1 ≤ next_attempt w place.waits
  pub to : next_attempt w place.waits ≤ cluster.tries
  pub attempts : attempts_by session.name (node_at w session.region).submitted + 1 ≤ cluster.tries * place.answered + next_attempt w place.waits

module _ {cluster : Cluster} {workload : Workload} {w : World} {order : List TxnId} (i : Inv cluster workload w order) where
  -- the attempt that a session waits for is found
  pub awaited_attempt : (tries region answered : ℕ) (session : Session) (id : TxnId)
      → (p : IsWaiting tries (node_at w region).submitted session answered id) → submission_of w id ≡ Some p.submission
  awaited_attempt tries region answered session id p =
      subst (λ x. submission_of w x ≡ Some p.submission) p.same (submission_is_found cluster.regions w i.nodes i.ids p.submission (from_region w region p.submission p.there))

  may_go_on : IsValidCluster cluster → (region : ℕ) (session : Session) (place : Place)
      → MayTry cluster.tries (length session.calls) place.answered (awaited_at w region place.waits) → IsPlaceOf cluster.tries w session place → MayGoOn cluster w session place
  may_go_on valid region session place may p = go place.waits may p.placed
    where
      tries : 1 ≤ cluster.tries
      tries = valid.tries

      go : (waits : Option TxnId) → MayTry cluster.tries (length session.calls) place.answered (awaited_at w region waits) → IsPlaced cluster.tries (node_at w session.region).submitted session place.answered waits
          → MayGoOn cluster w session (record { answered = place.answered; waits = waits })
      go None m q = record { call = m; from = omega arith; to = tries; attempts = omega (arith, q) }
      go (Some id) m q =
          let found : attempt_of w id ≡ q.submission.attempt = ap (λ o. unwrap_or (option_map (λ s. s.attempt) o) 0) (awaited_attempt cluster.tries session.region place.answered session id q) in
          let few : attempt_of w id < cluster.tries = m.1 in
          record { call = q.call; from = omega arith; to = omega arith; attempts = omega (arith, q.attempts) }

module _ {cluster : Cluster} {workload : Workload} {w : World} {order : List TxnId} (i : Inv cluster workload w order)
    (ok : IsValidCluster cluster) (fits : IsValidWorkload cluster workload)
    (region : ℕ) (session : Session) (place : Place) (call : Ranked)
    (lr : region < cluster.regions) (member : Has workload.sessions session) (here : session.region ≡ region)
    (found : session_at workload.sessions w.places region session.name ≡ Some (session, place))
    (wants : slice_get session.calls place.answered ≡ Some call) (on : MayGoOn cluster w session place) where
  s : Submission
  s = attempt_for cluster w region session place call

  n' : Node
  unfolding s
  n' = node_submitted (node_at w region) s

  v : World
  unfolding s
  v = world_submitted workload w region session place s

  nodes_now : length v.nodes ≡ cluster.regions
  unfolding v n'
  nodes_now = length-set w.nodes region n' ∙ i.nodes

  keeps : {A : Type 0} (f : Node → A) → f n' ≡ f (node_at w region) → Keeps f w v
  unfolding v n'
  keeps f e = field_of_set f w.nodes region n' no_node e

  logs_same : logs_of v ≡ logs_of w
  unfolding v n'
  logs_same = map-set_same (λ n. n.log) w.nodes region n' no_node refl

  node : node_at v region ≡ n'
  unfolding v n'
  node = get_or-set_same w.nodes region n' no_node (subst (λ m. region < m) (sym i.nodes) lr)

  other : (q : ℕ) → q ≢ region → node_at v q ≡ node_at w q
  unfolding v n'
  other q n = get_or-set_other w.nodes region q n' no_node n

  submitted_here : (node_at v region).submitted ≡ (node_at w region).submitted ++ s ∷ []
  unfolding n'
  submitted_here = ap (λ n. n.submitted) node

  sized : AreSized cluster.regions v
  unfolding v n'
  sized q lt = each_of_set (λ k n. IsSized cluster.regions n) w.nodes region n' no_node
      (let z : IsSized cluster.regions (node_at w region) = i.sized region lr in record {
        asked = ask_length (homes_of s.txn) s.txn.id (node_at w region).here.asked
            ∙ z.asked;
        taken = z.taken;
        received = z.received;
        inserted = z.inserted;
      })
      (λ k lk. i.sized k (subst (λ m. k < m) i.nodes lk)) q (subst (λ m. q < m) (sym i.nodes) lt)

  ids : Numbered cluster.regions v
  unfolding s
  ids q lq = by (either_nat q region)
    where
      by : Either (q ≡ region) → AreNumbered q (node_at v q).submitted
      by (inl e) = subst (λ x. AreNumbered x (node_at v x).submitted) (sym e) (subst (AreNumbered region) (sym submitted_here) (numbered_more region (node_at w region).submitted s (i.ids region lr) refl))
      by (inr n) = subst (λ x. AreNumbered q x.submitted) (sym (other q n)) (i.ids q lq)

  -- the submissions: as before, and this one

  stays_at : (r : ℕ) (x : Submission) → Has (node_at w r).submitted x → Has (node_at v r).submitted x
  stays_at r x h = by (either_nat r region)
    where
      by : Either (r ≡ region) → Has (node_at v r).submitted x
      by (inl e) = subst (λ y. Has (node_at v y).submitted x) (sym e) (subst (λ l. Has l x) (sym submitted_here) (has_longer (node_at w region).submitted (s ∷ []) x (subst (λ y. Has (node_at w y).submitted x) e h)))
      by (inr n) = subst (λ y. Has y.submitted x) (sym (other r n)) h

  was : (x : Submission) → Has (submissions v) x → Has (submissions w) x ⊎ (s ≡ x)
  was x h =
      let a : (r : ℕ) × (r < length v.nodes) × Has (node_at v r).submitted x = at_region v x h in
      by a.0 a.2 (either_nat a.0 region)
    where
      by : (r : ℕ) → Has (node_at v r).submitted x → Either (r ≡ region) → Has (submissions w) x ⊎ (s ≡ x)
      by r h (inl e) = elim (has_more (node_at w region).submitted s x (subst (λ l. Has l x) submitted_here (subst (λ y. Has (node_at v y).submitted x) e h))) [
        | inl k ↦ inl (from_region w region x k)
        | inr k ↦ inr k
      ]
      by r h (inr n) = inl (from_region w r x (subst (λ y. Has y.submitted x) (other r n) h))

  one : AreUnlike (submissions v)
  one = unlike cluster.regions v nodes_now ids

  found_still : (id : TxnId) (x : Submission) → submission_of w id ≡ Some x → submission_of v id ≡ Some x
  found_still = submission_stays w v stays_at one

  txns : (id : TxnId) (txn : Txn) → txn_of w id ≡ Some txn → txn_of v id ≡ Some txn
  txns = txn_stays w v found_still

  valid_one : IsValid cluster.procs cluster.version cluster.regions s.txn
  unfolding s
  valid_one = annotated_valid cluster cluster.regions (upcoming_id w region) call.rank (body_of call.wanted) (node_at w region).here.table version (body_fits cluster call.wanted wanted.1) below
    where
      sound : IsValidSession cluster session
      sound = all_get (IsValidSession cluster) workload.sessions fits.sessions session member

      wanted : RankedFits cluster call
      wanted = all_get (RankedFits cluster) session.calls sound.calls call (has_place session.calls place.answered call wants)

      ran : List TxnId
      ran = done_ids (node_at w region).here

      version : (node_at w region).here.table.version ≡ cluster.version
      version = ap (λ (t : Table). t.version) (i.tables region lr).table ∙ version_stays cluster (txns_of w ran) (opening_table cluster)

      below : (key : Bytes) → home_of (node_at w region).here.table key < cluster.regions
      below key = subst (λ t. home_of t key < cluster.regions) (sym (i.tables region lr).table) (home_below cluster ok (txns_of w ran) (txns_valid cluster cluster.regions w i.valid ran) key)

  abbrev IsValidSubmission : Submission → Type 0
  IsValidSubmission x = IsValid cluster.procs cluster.version cluster.regions x.txn

  valid : Valid cluster cluster.regions v
  valid = all_put IsValidSubmission (submissions v) (λ x h. elim (was x h) [
    | inl k ↦ all_get IsValidSubmission (submissions w) i.valid x k
    | inr e ↦ subst IsValidSubmission e valid_one
  ])

  -- requests

  asked_here : (home : ℕ) → home < cluster.regions → asked_of v region home ≡ asked_of w region home ++ requests home (s ∷ [])
  unfolding n'
  asked_here home lh = ap (λ n. get_or n.here.asked home []) node ∙ by (cases_Bool (has_home home s.txn))
    where
      by : (has_home home s.txn ≡ true) ⊎ (has_home home s.txn ≡ false) → get_or (ask (homes_of s.txn) s.txn.id (node_at w region).here.asked) home [] ≡ asked_of w region home ++ requests home (s ∷ [])
      by (inl e) =
          ask_here (homes_of s.txn) s.txn.id (node_at w region).here.asked home (homes_once s.txn) (home_of_test home s.txn e) (subst (λ m. home < m) (sym (i.sized region lr).asked) lh)
          ∙ ap (λ l. asked_of w region home ++ l) (sym (requests_here home s e))
      by (inr e) =
          ask_other (homes_of s.txn) s.txn.id (node_at w region).here.asked home (λ h. cc (test_of_home home s.txn h)) ∙ sym (append-nil (asked_of w region home))
          ∙ ap (λ l. asked_of w region home ++ l) (sym (requests_not home s e))

  asked : Asked cluster.regions v
  asked q home lq lh = by (either_nat q region)
    where
      by : Either (q ≡ region) → asked_of v q home ≡ requests home (node_at v q).submitted
      by (inl e) = subst (λ x. asked_of v x home ≡ requests home (node_at v x).submitted) (sym e)
          (asked_here home lh ∙ ap (λ l. l ++ requests home (s ∷ [])) (i.asked region home lr lh) ∙ sym (requests_append home (node_at w region).submitted (s ∷ [])) ∙ ap (requests home) (sym submitted_here))
      by (inr n) = ap (λ x. get_or x.here.asked home []) (other q n) ∙ i.asked q home lq lh ∙ ap (λ x. requests home x.submitted) (sym (other q n))

  -- a list of requests goes on
  goes_on : (q home : ℕ) → home < cluster.regions → (rest : List TxnId) × (asked_of v q home ≡ asked_of w q home ++ rest)
  goes_on q home lh = by (either_nat q region)
    where
      by : Either (q ≡ region) → (rest : List TxnId) × (asked_of v q home ≡ asked_of w q home ++ rest)
      by (inl e) = subst (λ x. (rest : List TxnId) × (asked_of v x home ≡ asked_of w x home ++ rest)) (sym e) (requests home (s ∷ []), asked_here home lh)
      by (inr n) = ([], ap (λ x. get_or x.here.asked home []) (other q n) ∙ sym (append-nil (asked_of w q home)))

  logs : Logs cluster.regions v
  unfolding n'
  logs home lh = record {
    parts = subst (AllIn _) (sym (keeps (λ n. n.log) refl home)) (parts_kept cluster w v home txns (log_of w home) (i.logs home lh).parts);
    taken = λ source ls. taken source ls;
    given = λ source ls. ap (λ l. given_by source (ids_of l)) (keeps (λ n. n.log) refl home) ∙ (i.logs home lh).given source ls ∙ sym (given source ls);
  }
    where
      same : (source : ℕ) → taken_of v home source ≡ taken_of w home source
      same source = ap (λ l. slice_index l source) (keeps (λ n. n.here.taken) refl home)

      taken : (source : ℕ) → source < cluster.regions → taken_of v home source ≤ length (asked_of v source home)
      taken source ls =
          let g : (rest : List TxnId) × (asked_of v source home ≡ asked_of w source home ++ rest) = goes_on source home lh in
          let longer : length (asked_of v source home) ≡ length (asked_of w source home) + length g.0 = ap length g.1 ∙ length-append (asked_of w source home) g.0 in
          let is : taken_of v home source ≡ taken_of w home source = same source in
          omega (arith, (i.logs home lh).taken source ls)

      given : (source : ℕ) → source < cluster.regions → take (taken_of v home source) (asked_of v source home) ≡ take (taken_of w home source) (asked_of w source home)
      given source ls =
          let g : (rest : List TxnId) × (asked_of v source home ≡ asked_of w source home ++ rest) = goes_on source home lh in
          ap₂ take (same source) g.1 ∙ take-append-le (taken_of w home source) (asked_of w source home) g.0 ((i.logs home lh).taken source ls)

  -- sessions

  place_now : IsPlaceOf cluster.tries v session (record place { waits = Some s.txn.id })
  unfolding s
  place_now = record {
    answered = let c : place.answered < length session.calls = on.call in omega arith;
    placed = subst (λ l. IsPlaced cluster.tries l session place.answered (Some s.txn.id)) (sym now) (record {
      call = on.call;
      submission = s;
      there = has_last (node_at w session.region).submitted s;
      same = refl;
      name = refl;
      number = refl;
      attempt_from = on.from;
      attempt_to = on.to;
      attempts = let e : attempts_by session.name (before ++ s ∷ []) ≡ attempts_by session.name before + 1 = attempts_own session.name before s refl in omega (arith, on.attempts);
    });
  }
    where
      before : List Submission
      before = (node_at w session.region).submitted

      now : (node_at v session.region).submitted ≡ (node_at w session.region).submitted ++ s ∷ []
      now = subst (λ r. (node_at v r).submitted ≡ (node_at w r).submitted ++ s ∷ []) (sym here) submitted_here

  place_other : (t : Session) (x : Place) → t.name ≢ session.name → IsPlaceOf cluster.tries w t x → IsPlaceOf cluster.tries v t x
  unfolding s
  place_other t x n p = record { answered = p.answered; placed = by (either_nat t.region region) x.waits p.placed }
    where
      count : attempts_by t.name ((node_at w t.region).submitted ++ s ∷ []) ≡ attempts_by t.name (node_at w t.region).submitted
      count = attempts_of_other t.name (node_at w t.region).submitted s (λ e. n (sym e))

      more : (waits : Option TxnId) → IsPlaced cluster.tries (node_at w t.region).submitted t x.answered waits → IsPlaced cluster.tries ((node_at w t.region).submitted ++ s ∷ []) t x.answered waits
      more None q = omega (arith, count, q)
      more (Some id) q = record {
        call = q.call;
        submission = q.submission;
        there = has_longer (node_at w t.region).submitted (s ∷ []) q.submission q.there;
        same = q.same;
        name = q.name;
        number = q.number;
        attempt_from = q.attempt_from;
        attempt_to = q.attempt_to;
        attempts = omega (arith, count, q.attempts);
      }

      by : Either (t.region ≡ region) → (waits : Option TxnId) → IsPlaced cluster.tries (node_at w t.region).submitted t x.answered waits → IsPlaced cluster.tries (node_at v t.region).submitted t x.answered waits
      by (inr m) waits q = subst (λ y. IsPlaced cluster.tries y.submitted t x.answered waits) (sym (other t.region m)) q
      by (inl e) waits q = subst (λ l. IsPlaced cluster.tries l t x.answered waits) (sym (subst (λ r. (node_at v r).submitted ≡ (node_at w r).submitted ++ s ∷ []) (sym e) submitted_here)) (more waits q)

  of_session : AnyIn (IsSubmissionOf cluster.tries region s) workload.sessions
  unfolding s
  of_session = any_put (IsSubmissionOf cluster.tries region s) workload.sessions session member (record {
    name = refl;
    here = here;
    call_from = omega arith;
    call_to = let c : place.answered < length session.calls = on.call in omega arith;
    of_call = record { place = place.answered; call = call; number = refl; called = wants; rank = refl; body = refl };
    attempt_from = on.from;
    attempt_to = on.to;
  })

  -- a session of the region made the submission
  abbrev IsOfSessionAt : ℕ → Submission → Type 0
  IsOfSessionAt q x = AnyIn (IsSubmissionOf cluster.tries q x) workload.sessions

  known : (q : ℕ) → q < cluster.regions → AllIn (IsOfSessionAt q) (node_at v q).submitted
  known q lq = by (either_nat q region)
    where
      by : Either (q ≡ region) → AllIn (IsOfSessionAt q) (node_at v q).submitted
      by (inr n) = subst (λ y. AllIn (IsOfSessionAt q) y.submitted) (sym (other q n)) (i.sessions.known q lq)
      by (inl e) = subst (λ r. AllIn (IsOfSessionAt r) (node_at v r).submitted) (sym e)
          (subst (AllIn (IsOfSessionAt region)) (sym submitted_here)
          (all_more (IsOfSessionAt region) (node_at w region).submitted s (i.sessions.known region lr) of_session))

  sessions : SessionsMatch cluster workload v
  sessions = record {
    places = unfold v in place_changed (IsPlaceOf cluster.tries w) (IsPlaceOf cluster.tries v) workload.sessions w.places region session.name session place (record place { waits = Some s.txn.id })
        fits.names_once place_now place_other i.sessions.places found;
    known = known;
  }

  -- what a submission changes of logs, submissions and transactions

  pub submitted_logs : logs_of (world_submitted workload w region session place (attempt_for cluster w region session place call)) ≡ logs_of w
  unfolding v s
  submitted_logs = logs_same

  pub submitted_was : (x : Submission) → Has (submissions (world_submitted workload w region session place (attempt_for cluster w region session place call))) x
      → Has (submissions w) x ⊎ (attempt_for cluster w region session place call ≡ x)
  unfolding v s
  submitted_was = was

  pub submitted_found : (id : TxnId) (x : Submission) → submission_of w id ≡ Some x
      → submission_of (world_submitted workload w region session place (attempt_for cluster w region session place call)) id ≡ Some x
  unfolding v s
  submitted_found = found_still

  pub submitted_txns : (id : TxnId) (txn : Txn) → txn_of w id ≡ Some txn → txn_of (world_submitted workload w region session place (attempt_for cluster w region session place call)) id ≡ Some txn
  unfolding v s
  submitted_txns = txns

  pub submitted_keeps : Inv cluster workload (world_submitted workload w region session place (attempt_for cluster w region session place call)) order
  unfolding v n' s
  submitted_keeps = record {
    nodes = nodes_now;
    sized = sized;
    ids = ids;
    valid = valid;
    asked = asked;
    logs = logs;
    lengths = lengths_kept cluster w v cluster.regions (keeps (λ n. n.here.inserted) refl) (keeps (λ n. n.received) refl) (keeps (λ n. n.log) refl) i.lengths;
    sound = sound_kept cluster w v cluster.regions
        (λ q lq. view_kept cluster w v logs_same (keeps (λ n. n.here.inserted) refl) (keeps (λ n. n.received) refl) (keeps (λ n. n.log) refl) q)
        (keeps (λ n. n.here.resolved) refl) (keeps (λ n. n.here.done) refl) i.sound;
    tables = tables_kept cluster w v (λ q lq. txns_stay w v txns (done_ids (node_at w q).here) (done_known i q lq)) (keeps (λ n. n.here.done) refl) (keeps (λ n. n.here.table) refl) i.tables;
    ordered = ordered_kept cluster w v cluster.regions order logs_same (keeps (λ n. n.here.done) refl) i.ordered;
    sessions = sessions;
  }

-- a session that may submit, with the call that comes next
pub record Submits (cluster : Cluster) (workload : Workload) (w : World) (region : ℕ) (name : Bytes) : Type 0 where
  pub session : Session
  pub place : Place
  pub call : Ranked
  pub member : Has workload.sessions session
  pub named : session.name ≡ name
  pub here : session.region ≡ region
  pub found : session_at workload.sessions w.places region name ≡ Some (session, place)
  pub wants : slice_get session.calls place.answered ≡ Some call
  pub on : MayGoOn cluster w session place
  pub next : submitted cluster workload w region (session_at workload.sessions w.places region name) ≡ world_submitted workload w region session place (attempt_for cluster w region session place call)

-- what it submits, and the world after that
abbrev pub attempt_made : {cluster : Cluster} {workload : Workload} {w : World} {region : ℕ} {name : Bytes} → Submits cluster workload w region name → Submission
attempt_made {cluster = cluster} {w = w} {region = region} r = attempt_for cluster w region r.session r.place r.call

abbrev pub world_made : {cluster : Cluster} {workload : Workload} {w : World} {region : ℕ} {name : Bytes} → Submits cluster workload w region name → World
world_made {workload = workload} {w = w} {region = region} r = world_submitted workload w region r.session r.place (attempt_made r)

module _ {cluster : Cluster} {workload : Workload} {w : World} {order : List TxnId} (i : Inv cluster workload w order) (ok : IsValidCluster cluster) (region : ℕ) (name : Bytes) where
  -- where a session may submit, it has a call that comes next
  pub next_call_submits : MaySubmit cluster w region (session_at workload.sessions w.places region name) → Submits cluster workload w region name
  next_call_submits may = go (session_at workload.sessions w.places region name) refl may
    where
      go : (o : Option (Session × Place)) → session_at workload.sessions w.places region name ≡ o → MaySubmit cluster w region o → Submits cluster workload w region name
      go None e m = absurd m
      go (Some (session, place)) e m =
          let r : Has workload.sessions session × (session.name ≡ name) × (session.region ≡ region) × IsPlaceOf cluster.tries w session place =
          session_found (IsPlaceOf cluster.tries w) workload.sessions w.places region name session place i.sessions.places e in
          let on : MayGoOn cluster w session place = may_go_on i ok region session place m r.3 in
          let c : (call : Ranked) × (slice_get session.calls place.answered ≡ Some call) = at_place session.calls place.answered on.call in
          record {
            session = session;
            place = place;
            call = c.0;
            member = r.0;
            named = r.1;
            here = r.2;
            found = e;
            wants = c.1;
            on = on;
            next = ap (submitted cluster workload w region) e ∙ ap (called cluster workload w region session place) c.1;
          }

  module _ (fits : IsValidWorkload cluster workload) (lr : region < cluster.regions) (r : Submits cluster workload w region name) where
    found_here : session_at workload.sessions w.places region r.session.name ≡ Some (r.session, r.place)
    found_here = subst (λ n. session_at workload.sessions w.places region n ≡ Some (r.session, r.place)) (sym r.named) r.found

    pub made_logs : logs_of (world_made r) ≡ logs_of w
    made_logs = submitted_logs i ok fits region r.session r.place r.call lr r.member r.here found_here r.wants r.on

    pub made_was : (x : Submission) → Has (submissions (world_made r)) x → Has (submissions w) x ⊎ (attempt_made r ≡ x)
    made_was = submitted_was i ok fits region r.session r.place r.call lr r.member r.here found_here r.wants r.on

    pub made_found : (id : TxnId) (x : Submission) → submission_of w id ≡ Some x → submission_of (world_made r) id ≡ Some x
    made_found = submitted_found i ok fits region r.session r.place r.call lr r.member r.here found_here r.wants r.on

    pub made_txns : (id : TxnId) (txn : Txn) → txn_of w id ≡ Some txn → txn_of (world_made r) id ≡ Some txn
    made_txns = submitted_txns i ok fits region r.session r.place r.call lr r.member r.here found_here r.wants r.on

    pub made_keeps : Inv cluster workload (world_made r) order
    made_keeps = submitted_keeps i ok fits region r.session r.place r.call lr r.member r.here found_here r.wants r.on

  pub submit_keeps : IsValidWorkload cluster workload → region < cluster.regions → MaySubmit cluster w region (session_at workload.sessions w.places region name)
      → Inv cluster workload (submitted cluster workload w region (session_at workload.sessions w.places region name)) order
  submit_keeps fits lr may = let r : Submits cluster workload w region name = next_call_submits may in subst (λ x. Inv cluster workload x order) (sym r.next) (made_keeps fits lr r)
