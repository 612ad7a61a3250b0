-- Nothing is left out of a report: each executed attempt and each answer is found in what it looks up.
use Rattle.std.proofs.Common.{◌≡◌, List, [], ◌∷◌, ◌++◌, map, Some, None, refl, sym, ap, ap₂, subst, ◌∙◌, append_assoc, append-nil}
use Rattle.std.specs.Prelude.{Option, filter_map, option_and_then, option_map, option_to_list}
use Rattle.std.specs.List.{cons_option}
use Rattle.std.proofs.lemmas.List.{map-append}
use Rattle.std.proofs.lemmas.List.Elements.{filter_map-append}
use Rattle.dt_lists.specs.Lists.{AllIn}
use Rattle.dt_lists.proofs.Callers.{from_right, all_put}
use Rattle.dt_access.specs.Clash.{Bytes}
use Rattle.dt_access.specs.declared.TxnId.{TxnId}
use Rattle.dt_events.specs.declared.Event.{Event}
use Rattle.dt_events.specs.declared.Event.TheVariants.{Submit, Append, Deliver, Insert, Resolve, Execute, Answer}
use Rattle.dt_report.specs.declared.Ran.{Ran}
use Rattle.dt_report.specs.declared.Reply.{Reply}
use Rattle.dt_cluster.specs.declared.Cluster.{Cluster}
use Rattle.dt_workload.specs.declared.Workload.{Workload}
use Rattle.dt_session.specs.World.{opening_world}
use Rattle.dt_session.specs.Run.{order_of, serial_outcome, world_after}
use Rattle.dt_agreement.specs.LegalRun.{IsLegalRun}
use Rattle.dt_agreement.specs.Reports.{IsAccounted, IsAnswered}
use Rattle.dt_agreement.proofs.Callers.{answer_accounted, executed_accounted, found_is_named}
use Rattle.dt_world.specs.WorldReport.{answered_name, answered_session, ran, ran_of, rans_of, replies_from, replies_of, reply_for, reply_to}
use Rattle.dt_world.proofs.Replay.{replies_more}

module _ {cluster : Cluster} {workload : Workload} {events : List Event} (run : IsLegalRun cluster workload events) where
  -- the order section has each executed id

  ran_there : (id : TxnId) → IsAccounted cluster workload events id → (r : Ran) × (ran_of cluster workload events id ≡ Some r) × (r.id ≡ id)
  ran_there id a = (
    ran id a.submission a.outcome,
    ap₂ (λ s o. option_and_then (λ x. option_map (ran id x) o) s) a.found a.serial,
    refl,
  )

  all_ran : (ids : List TxnId) → AllIn (IsAccounted cluster workload events) ids → map (λ (r : Ran). r.id) (filter_map (ran_of cluster workload events) ids) ≡ ids
  all_ran [] a = refl
  all_ran (id ∷ ids) a = joined (ran_of cluster workload events id) (ran_there id a.0) (all_ran ids a.1)
    where
      joined : (o : Option Ran) → ((r : Ran) × (o ≡ Some r) × (r.id ≡ id)) → map (λ (r : Ran). r.id) (filter_map (ran_of cluster workload events) ids) ≡ ids
          → map (λ (r : Ran). r.id) (cons_option o (filter_map (ran_of cluster workload events) ids)) ≡ id ∷ ids
      joined None r rest = absurd (cc (r.1))
      joined (Some q) r rest = let same : q ≡ r.0 = cc (r.1) in ap₂ (λ x l. x ∷ l) (ap (λ z. z.id) same ∙ r.2) rest

  pub all_are_ran : map (λ (r : Ran). r.id) (rans_of cluster workload events) ≡ order_of events
  all_are_ran = all_ran (order_of events) (all_put (IsAccounted cluster workload events) (order_of events) (executed_accounted run))

  -- the replies have each answer

  -- the sessions that replies name, in their order
  abbrev names_in : List Reply → List Bytes
  names_in = map (λ (r : Reply). r.session)

  -- the replies to the first of the events
  abbrev replies_to : List Event → List Reply
  replies_to = replies_from cluster workload events (opening_world cluster workload)

  -- the reply to an event that stands after these, where these are all
  abbrev reply_after : List Event → Event → List Event → List Reply
  reply_after xs event all = option_to_list (reply_for cluster workload all (answered_session workload (world_after cluster workload xs) event))

  one_reply : (xs ys : List Event) (event : Event) → events ≡ xs ++ event ∷ ys
      → names_in (reply_after xs event events) ≡ filter_map answered_name (event ∷ [])
  one_reply xs ys (Submit region name) e = refl
  one_reply xs ys (Append home source number) e = refl
  one_reply xs ys (Deliver region home first last) e = refl
  one_reply xs ys (Insert region home) e = refl
  one_reply xs ys (Resolve region ids) e = refl
  one_reply xs ys (Execute region id) e = refl
  one_reply xs ys (Answer region name) e =
      subst (λ all. names_in (reply_after xs (Answer region name) all) ≡ name ∷ []) (sym e) here
    where
      a : IsAnswered cluster workload (xs ++ Answer region name ∷ ys) xs region name
      a = answer_accounted xs region name ys (subst (IsLegalRun cluster workload) e run)

      replied : reply_for cluster workload (xs ++ Answer region name ∷ ys) (answered_session workload (world_after cluster workload xs) (Answer region name)) ≡ Some (reply_to a.session a.place a.accounted.outcome)
      replied =
          ap (reply_for cluster workload (xs ++ Answer region name ∷ ys)) a.found
          ∙ ap (λ o. option_map (reply_to a.session a.place) (option_and_then (serial_outcome cluster workload (xs ++ Answer region name ∷ ys)) o)) a.waits
          ∙ ap (option_map (reply_to a.session a.place)) a.accounted.serial

      here : names_in (reply_after xs (Answer region name) (xs ++ Answer region name ∷ ys)) ≡ name ∷ []
      here =
          ap (λ o. names_in (option_to_list o)) replied
          ∙ ap (λ n. n ∷ []) (found_is_named workload.sessions (world_after cluster workload xs).places region name a.session a.place a.found)

  pub all_are_answered : map (λ (r : Reply). r.session) (replies_of cluster workload events) ≡ filter_map answered_name events
  all_are_answered = from_right (λ xs. (ys : List Event) → events ≡ xs ++ ys → names_in (replies_to xs) ≡ filter_map answered_name xs)
      (λ ys e. refl)
      (λ xs event before ys e.
      ap names_in (replies_more cluster workload events (opening_world cluster workload) xs event)
      ∙ map-append (λ (r : Reply). r.session) (replies_to xs) _
      ∙ ap₂ (λ x y. x ++ y) (before (event ∷ ys) (e ∙ append_assoc xs (event ∷ []) ys)) (one_reply xs ys event (e ∙ append_assoc xs (event ∷ []) ys))
      ∙ sym (filter_map-append answered_name xs (event ∷ [])))
      events [] (sym (append-nil events))
