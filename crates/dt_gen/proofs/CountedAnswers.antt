-- How many answers there are among legal events: each makes one call more of a session answered, and no other event does. So once
-- all calls are answered, there are as many as calls.
use Rattle.std.proofs.Common.{◌≡◌, ℕ, ◌+◌, ◌==◌, ◌&&◌, Bool, true, false, cond, List, [], ◌∷◌, length, map, nat_le, nat_lt, Option, Some, None, slice_get, is_some, refl, sym, ap, ◌∙◌, subst, arith}
use Rattle.std.specs.List.{cons_option, filter_map}
use Rattle.std.specs.Option.{option_and_then}
use Rattle.std.proofs.lemmas.List.Sums.{sum_by-cons}
use Rattle.dt_text.specs.Texts.{Bytes}
use Rattle.dt_access.specs.declared.TxnId.{TxnId}
use Rattle.dt_events.specs.declared.Event.{Event}
use Rattle.dt_events.specs.declared.Event.TheVariants.{Submit, Append, Deliver, Insert, Resolve, Execute, Answer}
use Rattle.dt_txn.specs.declared.Txn.{Txn}
use Rattle.dt_cluster.specs.declared.Cluster.{Cluster}
use Rattle.dt_workload.specs.Valid.{calls_in}
use Rattle.dt_workload.specs.declared.Ranked.{Ranked}
use Rattle.dt_workload.specs.declared.Session.{Session}
use Rattle.dt_workload.specs.declared.Workload.{Workload}
use Rattle.dt_session.specs.World.{Place, World, asked_of, idle_place, opening_world, received_of, session_at, taken_of, txn_of, with_place}
use Rattle.dt_session.specs.Step.{IsLegal, MayAnswer, answered, attempt_for, called, next, placed, received, submitted}
use Rattle.dt_session.specs.Run.{AreLegalFrom, world_after, world_from}
use Rattle.dt_session.specs.Finished.{AreAnswered}
use Rattle.dt_agreement.specs.LegalRun.{IsLegalRun}
use Rattle.dt_agreement.proofs.Callers.{answered_changed, answered_in, found_is_named, legal_keeps, places_parallel}
use Rattle.dt_gen.specs.Load.{load_cluster, load_workload}
use Rattle.dt_gen.proofs.ValidLoad.{load_calls_in, load_cluster_valid, load_workload_valid}
use Rattle.dt_gen.specs.Summary.{answer_count, is_answer}
use Rattle.dt_gen.specs.Laws.{EachCallHasAReply, EachCallIsAnsweredOnce}

module _ (cluster : Cluster) (workload : Workload) where
  -- where the place of a session is changed, the answered calls change as that place does: by the name that the found session has
  changes_by : (w : World) (region : ℕ) (name : Bytes) (s : Session) (p now : Place) → session_at workload.sessions w.places region name ≡ Some (s, p)
      → answered_in (with_place workload.sessions w.places region s.name now) + p.answered ≡ answered_in w.places + now.answered
  changes_by w region name s p now e =
      subst (λ (key : Bytes). answered_in (with_place workload.sessions w.places region key now) + p.answered ≡ answered_in w.places + now.answered)
      (sym (found_is_named workload.sessions w.places region name s p e)) (answered_changed workload.sessions w.places region name s p now e)

  -- one event: an answer makes one call more answered
  event_counts : (w : World) (event : Event) → IsLegal cluster workload w event → answered_in (next cluster workload w event).places ≡ answered_in w.places + cond (is_answer event) 1 0
  event_counts w (Submit region name) legal = by (session_at workload.sessions w.places region name) refl
    where
      waits : (s : Session) (p : Place) (id : TxnId) → session_at workload.sessions w.places region name ≡ Some (s, p)
          → answered_in (with_place workload.sessions w.places region s.name (record p { waits = Some id })) ≡ answered_in w.places + 0
      waits s p id e = let changed = changes_by w region name s p (record p { waits = Some id }) e in omega (arith, changed)

      made : (s : Session) (p : Place) → session_at workload.sessions w.places region name ≡ Some (s, p) → (call : Option Ranked)
          → answered_in (called cluster workload w region s p call).places ≡ answered_in w.places + 0
      made s p e None = omega arith
      made s p e (Some call) = waits s p (attempt_for cluster w region s p call).txn.id e

      by : (o : Option (Session × Place)) → session_at workload.sessions w.places region name ≡ o → answered_in (submitted cluster workload w region o).places ≡ answered_in w.places + 0
      by None e = omega arith
      by (Some (s, p)) e = made s p e (slice_get s.calls p.answered)
  event_counts w (Append home source number) legal = by (number == taken_of w home source) (option_and_then (txn_of w) (slice_get (asked_of w source home) number))
    where
      by : (b : Bool) (o : Option Txn) → answered_in (cond b (placed w home source o) w).places ≡ answered_in w.places + 0
      by true None = omega arith
      by true (Some txn) = omega arith
      by false o = omega arith
  event_counts w (Deliver region home first last) legal = by (nat_le first (received_of w region home) && nat_lt (received_of w region home) last)
    where
      by : (b : Bool) → answered_in (cond b (received w region home last) w).places ≡ answered_in w.places + 0
      by true = omega arith
      by false = omega arith
  event_counts w (Insert region home) legal = omega arith
  event_counts w (Resolve region ids) legal = omega arith
  event_counts w (Execute region id) legal = omega arith
  event_counts w (Answer region name) legal = by (session_at workload.sessions w.places region name) refl legal.allowed
    where
      by : (o : Option (Session × Place)) → session_at workload.sessions w.places region name ≡ o → MayAnswer cluster w region o → answered_in (answered workload w region o).places ≡ answered_in w.places + 1
      by None e may = absurd may
      by (Some (s, p)) e may = let changed = changes_by w region name s p (record { answered = p.answered + 1; waits = None }) e in omega (arith, changed)

  -- legal events one after another
  events_count : (events : List Event) (w : World) → AreLegalFrom cluster workload w events → answered_in (world_from cluster workload w events).places ≡ answered_in w.places + answer_count events
  events_count [] w legal = omega arith
  events_count (event ∷ events) w legal =
      let first = event_counts w event legal.0 in
      let rest = events_count events (next cluster workload w event) legal.1 in
      let both : answer_count (event ∷ events) ≡ cond (is_answer event) 1 0 + answer_count events = sum_by-cons (λ (e : Event). cond (is_answer e) 1 0) event events in
      omega (arith, first, rest, both)

-- at first nothing is answered
none_answered : (sessions : List Session) → answered_in (map (λ session. idle_place) sessions) ≡ 0
none_answered [] = refl
none_answered (s ∷ sessions) =
    let idle = sum_by-cons (λ (p : Place). p.answered) idle_place (map (λ (session : Session). idle_place) sessions) in
    omega (arith, idle, none_answered sessions)

-- where every call is answered, that many are
all_answered : (sessions : List Session) (places : List Place) → length sessions ≡ length places → AreAnswered sessions places → answered_in places ≡ calls_in sessions
all_answered [] [] long done = refl
all_answered [] (p ∷ places) long done = absurd (omega (arith, long))
all_answered (s ∷ sessions) [] long done = absurd done
all_answered (s ∷ sessions) (p ∷ places) long done =
    let rest = all_answered sessions places (omega (arith, long)) done.1 in
    let places_sum = sum_by-cons (λ (v : Place). v.answered) p places in
    let calls_sum = sum_by-cons (λ (v : Session). length v.calls) s sessions in
    omega (arith, rest, done.0, places_sum, calls_sum)

-- so a finished run of the load has as many answers as calls
pub each_answered : EachCallIsAnsweredOnce
each_answered calls events few legal finished =
    let workload = load_workload calls in
    let now = world_after load_cluster workload events in
    let run : IsLegalRun load_cluster workload events = record { sound = load_cluster_valid; fits = load_workload_valid calls few; legal = legal } in
    let inv = legal_keeps run in
    let long = places_parallel inv in
    let counted = events_count load_cluster workload events (opening_world load_cluster workload) legal in
    let done = all_answered workload.sessions now.places long finished.answered in
    omega (arith, counted, done, none_answered workload.sessions, load_calls_in calls)

-- what a test counts
abbrev counted : Bool → ℕ
counted test = cond test 1 0

-- a list that has an item for each answer has as many as there are answers
answers_told : (item_of : Event → Option Bytes) → ((event : Event) → is_some (item_of event) ≡ is_answer event) → (events : List Event) → length (filter_map item_of events) ≡ answer_count events
answers_told item_of same [] = refl
answers_told item_of same (event ∷ events) = by (item_of event) (same event) (answers_told item_of same events)
  where
    by : (item : Option Bytes) → is_some item ≡ is_answer event → length (filter_map item_of events) ≡ answer_count events → length (cons_option item (filter_map item_of events)) ≡ answer_count (event ∷ events)
    by None e rest =
        let first : counted (is_answer event) ≡ 0 = ap counted (sym e) in
        let all = sum_by-cons (λ (x : Event). counted (is_answer x)) event events in
        omega (arith, first, rest, all)
    by (Some item) e rest =
        let first : counted (is_answer event) ≡ 1 = ap counted (sym e) in
        let all = sum_by-cons (λ (x : Event). counted (is_answer x)) event events in
        omega (arith, first, rest, all)

pub each_reply : EachCallHasAReply
each_reply calls events item_of few legal finished same = answers_told item_of same events ∙ each_answered calls events few legal finished
