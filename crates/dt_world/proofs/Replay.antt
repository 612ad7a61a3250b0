-- Events followed one after another: what sessions wait for, how much regions have submitted, and the replies.
use Rattle.std.proofs.Common.{◌≡◌, ◌<◌, ◌≤◌, ◌+◌, ℕ, Bool, true, false, cond, eqb, ltb, leb, ◌&&◌, List, [], ◌∷◌, ◌++◌, length, map, get_or, set, slice_get}
use Rattle.std.proofs.Common.{Some, None, refl, sym, ap, ap₂, subst, ◌∙◌, ◌⊎◌, inl, inr, append_assoc, append-nil, arith}
use Rattle.std.specs.Prelude.{Option, option_map, option_and_then, option_to_list}
use Rattle.std.specs.List.{position}
use Rattle.std.proofs.lemmas.List.{length_push, length-map, map-set, get_or-set_same}
use Rattle.std.proofs.lemmas.List.Quantifiers.{position-Some}
use Rattle.std.proofs.Math.ListN.{get_or-map}
use Rattle.std.proofs.Math.Seq.{map-set_same}
use Rattle.dt_lists.specs.Lists.{Has}
use Rattle.dt_lists.proofs.Callers.{any_of_image, any_image, any_front, front_length}
use Rattle.dt_access.specs.Clash.{Bytes}
use Rattle.dt_access.specs.declared.TxnId.{TxnId}
use Rattle.dt_events.specs.declared.Event.{Event}
use Rattle.dt_events.specs.declared.Event.TheVariants.{Submit, Append, Deliver, Insert, Resolve, Execute, Answer}
use Rattle.dt_txn.specs.declared.Outcome.{Outcome}
use Rattle.dt_txn.specs.declared.Txn.{Txn}
use Rattle.dt_report.specs.declared.Reply.{Reply}
use Rattle.dt_cluster.specs.declared.Cluster.{Cluster}
use Rattle.dt_workload.specs.declared.Session.{Session}
use Rattle.dt_workload.specs.declared.Workload.{Workload}
use Rattle.dt_session.specs.World.{World, Node, Place, Submission, asked_of, idle_place, is_session, no_node, node_at, opening_world, outcome_at, received_of, session_at, submission_of, taken_of, txn_of}
use Rattle.dt_session.specs.Step.{IsLegal, MayAnswer, MayEnd, MaySubmit, answered, awaited_at, next, upcoming_id, node_submitted, placed, received, attempt_for}
use Rattle.dt_session.specs.Run.{AreLegalFrom, order_of, serial_outcome, world_after, world_from}
use Rattle.dt_session.specs.Agreement.{WaitsFor}
use Rattle.dt_agreement.specs.Invariant.{Inv, IsExecutedAt, IsPlaceOf}
use Rattle.dt_agreement.specs.LegalRun.{IsLegalRun}
use Rattle.dt_agreement.proofs.Callers.{answered_done, lookup_has, WaitsAt, places_parallel, from_region, submission_is_found, waiting_for}
use Rattle.dt_agreement.proofs.Callers.{legal_agree, legal_keeps, run_front, world_after_more, session_found, session_of_test, find_has, Submits, next_call_submits}
use Rattle.dt_world.specs.WorldSessions.{no_session}
use Rattle.dt_world.specs.SessionReplayInner.{IsReply, after_reply, after_submission, replay_of, count_at, wait_at}
use Rattle.dt_world.specs.WorldReport.{IsReplyOf, answered_session, replies_from, reply_for, reply_to}
use Rattle.dt_world.proofs.Executions.{serial_is}
use Rattle.dt_world.proofs.GrowingNodes.{NodeGrows, grows_past}
use Rattle.dt_world.proofs.PlacesOfNames.{no_session_of_none, place_set, session_of_place}

-- replies, with one more event

pub replies_more : (cluster : Cluster) (workload : Workload) (all : List Event) (w : World) (xs : List Event) (event : Event)
    → replies_from cluster workload all w (xs ++ event ∷ []) ≡ replies_from cluster workload all w xs ++ option_to_list (reply_for cluster workload all (answered_session workload (world_from cluster workload w xs) event))
replies_more cluster workload all w [] event = append-nil (option_to_list (reply_for cluster workload all (answered_session workload w event)))
replies_more cluster workload all w (x ∷ xs) event =
    let first = option_to_list (reply_for cluster workload all (answered_session workload w x)) in
    let later = next cluster workload w x in
    ap (λ l. first ++ l) (replies_more cluster workload all later xs event) ∙ sym (append_assoc first (replies_from cluster workload all later xs) _)

-- how much a region has submitted, and what a session waits for

pub count_is : (w : World) (region : ℕ) → count_at (replay_of w) region ≡ length (node_at w region).submitted
count_is w region = get_or-map (λ n. length n.submitted) w.nodes region no_node

pub wait_is : (w : World) (place : ℕ) → wait_at (replay_of w) place ≡ (get_or w.places place idle_place).waits
wait_is w place = get_or-map (λ p. p.waits) w.places place idle_place

same_counts : (w : World) (region : ℕ) (x : Node) (places : List Place) → length x.submitted ≡ length (node_at w region).submitted
    → replay_of (record { nodes = set w.nodes region x; places = places }) ≡ replay_of (record { nodes = w.nodes; places = places })
same_counts w region x places e = ap (λ l. record { waits = map (λ p. p.waits) places; submitted = l }) (map-set_same (λ n. length n.submitted) w.nodes region x no_node e)

pub append_same : (cluster : Cluster) (workload : Workload) (w : World) (home source number : ℕ) → replay_of (next cluster workload w (Append home source number)) ≡ replay_of w
append_same cluster workload w home source number = go (eqb number (taken_of w home source)) (option_and_then (txn_of w) (slice_get (asked_of w source home) number))
  where
    go : (b : Bool) (o : Option Txn) → replay_of (cond b (placed w home source o) w) ≡ replay_of w
    go false o = refl
    go true None = refl
    go true (Some txn) = same_counts w home _ w.places refl

pub deliver_same : (cluster : Cluster) (workload : Workload) (w : World) (region home first last : ℕ) → replay_of (next cluster workload w (Deliver region home first last)) ≡ replay_of w
deliver_same cluster workload w region home first last = go (leb first (received_of w region home) && ltb (received_of w region home) last)
  where
    go : (b : Bool) → replay_of (cond b (received w region home last) w) ≡ replay_of w
    go false = refl
    go true = same_counts w region _ w.places refl

pub insert_same : (cluster : Cluster) (workload : Workload) (w : World) (region home : ℕ) → replay_of (next cluster workload w (Insert region home)) ≡ replay_of w
insert_same cluster workload w region home = same_counts w region _ w.places refl

pub resolve_same : (cluster : Cluster) (workload : Workload) (w : World) (region : ℕ) (ids : List TxnId) → replay_of (next cluster workload w (Resolve region ids)) ≡ replay_of w
resolve_same cluster workload w region ids = same_counts w region _ w.places refl

pub execute_same : (cluster : Cluster) (workload : Workload) (w : World) (region : ℕ) (id : TxnId) → replay_of (next cluster workload w (Execute region id)) ≡ replay_of w
execute_same cluster workload w region id = same_counts w region _ w.places refl

-- an event of a legal run, and what holds before it

module _ {cluster : Cluster} {workload : Workload} (xs ys : List Event) (event : Event) (run : IsLegalRun cluster workload (xs ++ event ∷ ys)) where
  abbrev world_before : World
  world_before = world_after cluster workload xs

  before : IsLegalRun cluster workload xs × AreLegalFrom cluster workload world_before (event ∷ ys)
  before = run_front xs (event ∷ ys) run

  pub now_legal : IsLegal cluster workload world_before event
  now_legal = before.1.0

  pub now_inv : Inv cluster workload world_before (order_of xs)
  now_inv = legal_keeps before.0

  pub now_places : length world_before.places ≡ length workload.sessions
  now_places = sym (places_parallel now_inv)

  unlisted : (region : ℕ) (name : Bytes) → position (is_session region name) workload.sessions ≡ None → session_at workload.sessions world_before.places region name ≡ None
  unlisted region name none = no_session_of_none region name workload.sessions world_before.places none

  -- the session that it submits for or answers is one of the workload
  pub now_listed : (region : ℕ) (name : Bytes) → (event ≡ Submit region name) ⊎ (event ≡ Answer region name) → ¬ (position (is_session region name) workload.sessions ≡ None)
  now_listed region name (inl is) none = subst (MaySubmit cluster world_before region) (unlisted region name none) (subst (IsLegal cluster workload world_before) is now_legal).allowed
  now_listed region name (inr is) none = subst (MayAnswer cluster world_before region) (unlisted region name none) (subst (IsLegal cluster workload world_before) is now_legal).allowed

  -- and what a session of the workload waits for has the session's place
  pub now_followed : (region : ℕ) (name : Bytes) (place : ℕ) → position (is_session region name) workload.sessions ≡ Some place → place < length (replay_of world_before).waits
  now_followed region name place found = subst (λ n. place < n) (sym (length-map world_before.places (λ p. p.waits) ∙ now_places))
      (position-Some (is_session region name) workload.sessions place no_session found).0

  pub end_inv : Inv cluster workload (world_after cluster workload (xs ++ event ∷ ys)) (order_of (xs ++ event ∷ ys))
  end_inv = legal_keeps run

  pub to_end : (r : ℕ) → NodeGrows (node_at world_before r) (node_at (world_after cluster workload (xs ++ event ∷ ys)) r)
  to_end r = grows_past cluster workload xs (event ∷ ys) r

-- a submission

module _ {cluster : Cluster} {workload : Workload} (xs ys : List Event) (region : ℕ) (name : Bytes) (run : IsLegalRun cluster workload (xs ++ Submit region name ∷ ys)) where
  -- the worlds before the submission, after it and at the end
  abbrev submit_before : World
  submit_before = world_after cluster workload xs

  abbrev submit_after : World
  submit_after = world_after cluster workload (xs ++ Submit region name ∷ [])

  abbrev submit_end : World
  submit_end = world_after cluster workload (xs ++ Submit region name ∷ ys)

  module _ (place : ℕ) (found : position (is_session region name) workload.sessions ≡ Some place) where
    pub submit_region : region < length (replay_of submit_before).submitted
    submit_region = subst (λ n. region < n) (sym (length-map submit_before.nodes (λ n. length n.submitted) ∙ (now_inv xs ys (Submit region name) run).nodes))
        (now_legal xs ys (Submit region name) run).regions

    r : Submits cluster workload submit_before region name
    r = next_call_submits (now_inv xs ys (Submit region name) run) run.sound region name (now_legal xs ys (Submit region name) run).allowed

    found_own : position (is_session region r.session.name) workload.sessions ≡ Some place
    found_own = subst (λ n. position (is_session region n) workload.sessions ≡ Some place) (sym r.named) found

    -- where it stands after the submission, and what it submits
    abbrev waiting : Place
    waiting = record r.place { waits = Some (upcoming_id submit_before region) }

    abbrev attempt : Submission
    attempt = attempt_for cluster submit_before region r.session r.place r.call

    pub submit_follows : replay_of submit_after ≡ after_submission (replay_of submit_before) place region
    submit_follows =
        ap replay_of (world_after_more cluster workload xs (Submit region name) ∙ r.next)
        ∙ ap₂ (λ (a : List (Option TxnId)) (b : List ℕ). record { waits = a; submitted = b })
        (ap (map (λ p. p.waits)) (place_set region r.session.name workload.sessions submit_before.places waiting
        (now_places xs ys (Submit region name) run) place found_own)
        ∙ map-set (λ p. p.waits) submit_before.places place waiting
        ∙ ap (λ n. set (map (λ p. p.waits) submit_before.places) place (Some (record { seq = n + 1; region = region }))) (sym (count_is submit_before region)))
        (map-set (λ n. length n.submitted) submit_before.nodes region
        (node_submitted (node_at submit_before region) attempt)
        ∙ ap (set (map (λ n. length n.submitted) submit_before.nodes) region)
        (length_push (node_at submit_before region).submitted attempt
        ∙ ap (λ n. n + 1) (sym (count_is submit_before region))))

    -- the region has one submission more at the end, or still more
    pub submit_few : count_at (replay_of submit_before) region + 1 ≤ length (node_at submit_end region).submitted
    submit_few =
        let one : count_at (replay_of submit_after) region ≡ count_at (replay_of submit_before) region + 1 = ap (λ c. count_at c region) submit_follows
        ∙ get_or-set_same (replay_of submit_before).submitted region (count_at (replay_of submit_before) region + 1) 0 submit_region in
        let grown : NodeGrows (node_at submit_after region) (node_at submit_end region) =
        subst (λ l. NodeGrows (node_at submit_after region) (node_at (world_after cluster workload l) region)) (append_assoc xs (Submit region name ∷ []) ys)
        (grows_past cluster workload (xs ++ Submit region name ∷ []) ys region) in
        let long : length (node_at submit_after region).submitted ≤ length (node_at submit_end region).submitted = front_length _ _ grown.submitted in
        let is : count_at (replay_of submit_after) region ≡ length (node_at submit_after region).submitted = count_is submit_after region in
        omega arith

-- an answer

module _ {cluster : Cluster} {workload : Workload} (xs ys : List Event) (region : ℕ) (name : Bytes) (run : IsLegalRun cluster workload (xs ++ Answer region name ∷ ys)) where
  -- all events, and the worlds before the answer and at the end
  abbrev all : List Event
  all = xs ++ Answer region name ∷ ys

  abbrev answer_before : World
  answer_before = world_after cluster workload xs

  abbrev answer_end : World
  answer_end = world_after cluster workload all

  module _ (place : ℕ) (found : position (is_session region name) workload.sessions ≡ Some place) where
    -- the session, and where it stands before the answer
    abbrev session : Session
    session = get_or workload.sessions place no_session

    abbrev seat : Place
    seat = get_or answer_before.places place idle_place

    pub answer_region : region < cluster.regions
    answer_region = (now_legal xs ys (Answer region name) run).regions

    at_session : session_at workload.sessions answer_before.places region name ≡ Some (session, seat)
    at_session = session_of_place region name workload.sessions answer_before.places (now_places xs ys (Answer region name) run) place no_session idle_place found

    session_is : (session.name ≡ name) × (session.region ≡ region)
    session_is = session_of_test region name session (position-Some (is_session region name) workload.sessions place no_session found).1

    found_own' : position (is_session region session.name) workload.sessions ≡ Some place
    found_own' = subst (λ n. position (is_session region n) workload.sessions ≡ Some place) (sym session_is.0) found

    may : MayEnd cluster.tries (awaited_at answer_before region seat.waits)
    may = subst (MayAnswer cluster answer_before region) at_session (now_legal xs ys (Answer region name) run).allowed

    pub answer_waits : ¬ (wait_at (replay_of answer_before) place ≡ None)
    answer_waits e = subst (λ o. MayEnd cluster.tries (awaited_at answer_before region o)) (sym (wait_is answer_before place) ∙ e) may

    -- where the session stands when it is answered
    abbrev place_then : Place
    place_then = record { answered = seat.answered + 1; waits = None }

    pub answer_follows : replay_of (world_after cluster workload (xs ++ Answer region name ∷ [])) ≡ after_reply (replay_of answer_before) place
    answer_follows =
        ap replay_of (world_after_more cluster workload xs (Answer region name) ∙ ap (answered workload answer_before region) at_session)
        ∙ ap (λ (a : List (Option TxnId)). record { waits = a; submitted = map (λ n. length n.submitted) answer_before.nodes })
        (ap (map (λ p. p.waits)) (place_set region session.name workload.sessions answer_before.places place_then
        (now_places xs ys (Answer region name) run) place found_own')
        ∙ map-set (λ p. p.waits) answer_before.places place place_then)

    module _ (id : TxnId) (waits : wait_at (replay_of answer_before) place ≡ Some id) where
      -- the reply that the session has, by the attempt's outcome
      abbrev reply_with : Outcome → Reply
      reply_with outcome = reply_to session seat outcome

      waits_here : seat.waits ≡ Some id
      waits_here = sym (wait_is answer_before place) ∙ waits

      pub w : WaitsAt cluster answer_before session seat id
      w =
          let x : Has workload.sessions session × (session.name ≡ name) × (session.region ≡ region) × IsPlaceOf cluster.tries answer_before session seat =
          session_found (IsPlaceOf cluster.tries answer_before) workload.sessions answer_before.places region name session seat
          (now_inv xs ys (Answer region name) run).sessions.places at_session in
          waiting_for (now_inv xs ys (Answer region name) run) session seat id
          (subst (λ q. q < cluster.regions) (sym x.2) answer_region) x.3 waits_here

      pub answer_own : id.region ≡ region
      answer_own = w.region ∙ session_is.1

      pub answer_executed : IsExecutedAt answer_end region id
      answer_executed =
          let h : IsExecutedAt answer_before region id =
          answered_done cluster answer_before region (session_at workload.sessions answer_before.places region name) id
          (now_legal xs ys (Answer region name) run).allowed
          (subst (λ o. WaitsFor o id) (sym at_session) waits_here) in
          any_image (λ y. y ≡ id) (λ d. d.0) (node_at answer_end region).here.done
          (any_front (λ d. d.0 ≡ id) (node_at answer_before region).here.done (node_at answer_end region).here.done
          (to_end xs ys (Answer region name) run region).done
          (any_of_image (λ y. y ≡ id) (λ d. d.0) (node_at answer_before region).here.done h))

      -- the attempt that was waited for is there at the end
      pub still_found : submission_of answer_end id ≡ Some w.submission
      still_found =
          let there : Has (node_at answer_before session.region).submitted w.submission = w.there in
          let at_end : Has (node_at answer_end session.region).submitted w.submission =
          any_front (λ y. y ≡ w.submission) _ _ (to_end xs ys (Answer region name) run session.region).submitted there in
          let named_id : w.submission.txn.id ≡ id = (find_has (node_at answer_before id.region).submitted id w.submission w.found).1 in
          subst (λ x. submission_of answer_end x ≡ Some w.submission) named_id
          (submission_is_found cluster.regions answer_end (end_inv xs ys (Answer region name) run).nodes
          (end_inv xs ys (Answer region name) run).ids w.submission
          (from_region answer_end session.region w.submission at_end))

      s : (o : Outcome) × (outcome_at answer_end region id ≡ Some o) × (serial_outcome cluster workload all id ≡ Some o)
      s = serial_is run region id answer_region answer_executed

      reply_of_answer : reply_for cluster workload all (answered_session workload answer_before (Answer region name)) ≡ Some (reply_with s.0)
      reply_of_answer =
          ap (reply_for cluster workload all) at_session
          ∙ ap (λ o. option_map reply_with (option_and_then (serial_outcome cluster workload all) o)) waits_here
          ∙ ap (option_map reply_with) s.2

      pub answer_replies : (reply : Reply) → IsReply answer_end region name id reply
          → replies_from cluster workload all (opening_world cluster workload) (xs ++ Answer region name ∷ []) ≡ replies_from cluster workload all (opening_world cluster workload) xs ++ reply ∷ []
      answer_replies reply is =
          let subs : Some is.submission ≡ Some w.submission = sym is.found ∙ still_found in
          let sub : is.submission ≡ w.submission = cc in
          let outs : Some reply.outcome ≡ Some s.0 = sym is.outcome_is ∙ s.1 in
          let out : reply.outcome ≡ s.0 = cc in
          let call : reply.call ≡ seat.answered + 1 = is.call_is ∙ ap (λ x. x.call) sub ∙ w.call in
          let named : reply.session ≡ session.name = is.session_is ∙ sym session_is.0 in
          let whole : reply ≡ reply_with s.0 = λ i. record { session = named i; call = call i; outcome = out i } in
          replies_more cluster workload all (opening_world cluster workload) xs (Answer region name)
          ∙ ap (λ o. replies_from cluster workload all (opening_world cluster workload) xs ++ option_to_list o) (reply_of_answer ∙ ap Some (sym whole))

      pub answer_kept : (reply : Reply) → reply_for cluster workload all (answered_session workload answer_before (Answer region name)) ≡ Some reply
          → IsReplyOf cluster.regions answer_end reply
      answer_kept reply e =
          let both : Some (reply_with s.0) ≡ Some reply = sym reply_of_answer ∙ e in
          let same : reply_with s.0 ≡ reply = cc in
          subst (IsReplyOf cluster.regions answer_end) same (record {
            id = id;
            submission = w.submission;
            found = still_found;
            session = w.name;
            call = w.call;
            outcome = record {
              executed = (region, answer_region, lookup_has (node_at answer_end region).here.done id s.0 s.1);
              kept = λ q other lq h. let twice : Some other ≡ Some s.0 = sym ((legal_agree run).outcomes q id other lq h) ∙ s.2 in cc;
            };
          })
