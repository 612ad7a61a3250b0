-- What the parts of a report are, step by step.
use Rattle.std.proofs.Common.{◌≡◌, ◌≢◌, ◌<◌, ◌≤◌, ◌+◌, ℕ, suc, Bool, Bor, true, false, ◌||◌, not, List, [], ◌∷◌, ◌++◌, length, map, get_or, replicate, take}
use Rattle.std.proofs.Common.{drop, slice_get, Some, None, Ok, Err, refl, sym, ap, ap₂, subst, subst₂, ◌∙◌, ◌⊎◌, inr, append_assoc, append-nil, arith}
use lib.LanesLaws.{map-replicate}
use Rattle.std.specs.Prelude.{Option, Result, IfOk, option_map, option_and_then, option_to_list, filter_map}
use Rattle.std.specs.List.{position, range_with_len}
use Rattle.std.proofs.Math.Seq.{take-length}
use Rattle.std.proofs.lemmas.Option.{slice_get-get_or}
use Rattle.dt_lists.specs.Lists.{AllIn}
use Rattle.dt_lists.proofs.Callers.{all_append, from_right}
use Rattle.dt_access.specs.Ids.{is_among, same_id}
use Rattle.dt_access.specs.Clash.{Bytes}
use Rattle.dt_access.specs.declared.TxnId.{TxnId}
use Rattle.dt_events.specs.declared.Event.{Event}
use Rattle.dt_events.specs.declared.Event.TheVariants.{Submit, Append, Deliver, Insert, Resolve, Execute, Answer}
use Rattle.dt_table.specs.Table.{shown}
use Rattle.dt_table.specs.declared.Shown.{Shown}
use Rattle.dt_text.specs.declared.NoMemory.{NoMemory}
use Rattle.dt_txn.specs.declared.Outcome.{Outcome}
use Rattle.dt_report.specs.declared.Ran.{Ran}
use Rattle.dt_report.specs.declared.Reply.{Reply}
use Rattle.dt_report.specs.declared.Report.{Report}
use Rattle.dt_cluster.specs.declared.Cluster.{Cluster}
use Rattle.dt_cluster.specs.Valid.{IsValidCluster}
use Rattle.dt_workload.specs.declared.Session.{Session}
use Rattle.dt_workload.specs.declared.Workload.{Workload}
use Rattle.dt_workload.specs.Valid.{IsValidWorkload}
use Rattle.dt_session.specs.World.{World, Node, Place, Submission, idle_place, is_session, no_node, node_at, opening_node, opening_table, opening_world}
use Rattle.dt_session.specs.Step.{next}
use Rattle.dt_session.specs.Run.{AreLegal, executed_id, order_of, region_table, world_after}
use Rattle.dt_agreement.specs.Invariant.{IsExecutedAt}
use Rattle.dt_agreement.specs.LegalRun.{IsLegalRun}
use Rattle.dt_agreement.proofs.Callers.{legal_agree, legal_keeps, world_after_more}
use Rattle.dt_world.specs.WorldView.{WorldView}
use Rattle.dt_site.specs.declared.Origin.{Origin}
use Rattle.dt_site.specs.Site.{SiteView, no_site}
use Rattle.dt_site.specs.StandsIn.{StandsIn}
use Rattle.dt_index.specs.Index.{IdIndexView}
use Rattle.dt_world.specs.MarksInner.{AreMarkedIds, is_marked}
use Rattle.dt_world.specs.SessionReplayInner.{SessionReplayView, AddsRan, IsAttempt, IsReply, after_reply, after_submission, count_at, replay_at, replay_of, ran_at, rans_at, replies_at, wait_at}
use Rattle.dt_world.specs.ReportSourceInner.{LedTo, ReportSourceView, world_told}
use Rattle.dt_world.specs.SitesAfter.{AreSitesAfter}
use Rattle.dt_world.specs.WorldInner.{IsLawful, site_at, view_in, world_of}
use Rattle.dt_world.specs.WorldSessions.{WorldSessions, places_in}
use Rattle.dt_world.specs.WorldReport.{IsOutcomeOf, IsReplyOf, answered_name, answered_session, ran, ran_of, rans_of, replies_from, replies_of, reply_for, report_of, tables_of}
use Rattle.dt_world.proofs.Executions.{executed_at, order_again, order_new, order_other, outcomes_kept, rans_more}
use Rattle.dt_world.proofs.Replay.{answer_executed, answer_follows, answer_kept, answer_own, answer_region, answer_replies, answer_waits, now_followed, now_legal, now_listed}
use Rattle.dt_world.proofs.Replay.{append_same, deliver_same, execute_same, insert_same, replies_more, resolve_same, submit_few, submit_follows, submit_region}
use Rattle.dt_world.proofs.MarkLaws.{marked_again, marked_new}
use Rattle.dt_world.proofs.ReportLookups.{reached, run_told}
use Rattle.dt_world.proofs.GrowingNodes.{split_at}
use Rattle.dt_site.proofs.Callers.{many_here}
use Rattle.dt_world.proofs.NothingLeftOut.{all_are_answered, all_are_ran}
use Rattle.dt_world.proofs.WorldLaws.{many_sites, submitted_few}

-- tables

-- what is shown of the table of a region that ran what it executed
abbrev table_of : Cluster → Workload → List Event → ℕ → List Shown
table_of cluster workload events region = shown (region_table cluster workload events region)

by_number : {A B : Type 0} (f : ℕ → B) (g : A → B) (xs : List A) (a : ℕ) (d : A) → ((i : ℕ) → i < length xs → f (a + i) ≡ g (get_or xs i d)) → map f (range_with_len a (length xs)) ≡ map g xs
by_number f g [] a d e = refl
by_number f g (x ∷ xs) a d e =
    let first : f a ≡ g x = (let zero_more : a + 0 ≡ a = omega arith in subst (λ n. f n ≡ g x) zero_more (e 0 (omega arith))) in
    ap₂ (λ y l. y ∷ l) first (by_number f g xs (a + 1) d (λ i lt. let more : a + suc i ≡ (a + 1) + i = omega arith in subst (λ n. f n ≡ g (get_or xs i d)) more (e (suc i) (omega arith))))

-- an item of a list, by its place

item_at : {A : Type 0} (xs : List A) (at : ℕ) (r e : A) → at < length xs → r ≡ get_or xs at r → r ≡ e → slice_get xs at ≡ Some e
item_at xs at r e lt is same = slice_get-get_or xs at r lt ∙ ap Some (sym is ∙ same)

pub event_at : (told : ReportSourceView) {held : List Event} → held ≡ told.events → (at : ℕ) (r e : Event) → at < length held → r ≡ get_or held at r → r ≡ e → slice_get told.events at ≡ Some e
event_at told {held} same at r e lt is this = subst (λ l. slice_get l at ≡ Some e) same (item_at held at r e lt is this)

-- after one more event these ids are marked, and the event adds this to the attempts
pub record Notes (told : ReportSourceView) (at : ℕ) (marks : IdIndexView) (first : Option (ℕ × TxnId)) : Type 0 where
  pub seen : AreMarkedIds marks (order_of (take (at + 1) told.events))
  pub adds : AddsRan told at first

-- what a submission of the session at a place does to what is followed
pub record FollowsSubmission (told : ReportSourceView) (at region place : ℕ) (course : SessionReplayView) : Type 0 where
  pub place_there : place < length course.waits
  pub region_there : region < length course.submitted
  pub few : count_at course region + 1 < 4294967296
  pub replay : after_submission course place region ≡ replay_at told (at + 1)
  pub replies : replies_at told at ≡ replies_at told (at + 1)

-- what an answer to it does: it waited for an attempt, and waits for nothing then
pub record FollowsAnswer (told : ReportSourceView) (at region place : ℕ) (course : SessionReplayView) : Type 0 where
  pub place_there : place < length course.waits
  pub region_there : region < told.cluster.regions
  pub waited : ¬ (wait_at course place ≡ None)
  pub replay : after_reply course place ≡ replay_at told (at + 1)

module _ {told : ReportSourceView} (led : LedTo told) where
  -- the tables that sites keep are those of the report
  pub tables_are : map (λ (p : SiteView). shown p.region.state.here.table) told.sites ≡ tables_of told.cluster told.workload told.events
  tables_are = sym (subst (λ m. map (table_of told.cluster told.workload told.events) (range_with_len 0 m) ≡ map (λ (p : SiteView). shown p.region.state.here.table) told.sites) led.many
      (by_number (table_of told.cluster told.workload told.events) (λ (p : SiteView). shown p.region.state.here.table) told.sites 0 no_site
      (λ i lt. let same : 0 + i ≡ i = omega arith in subst (λ r. table_of told.cluster told.workload told.events r ≡ shown (get_or told.sites i no_site).region.state.here.table) (sym same)
      (here i (subst (λ m. i < m) led.many lt)))))
    where
      here : (i : ℕ) → i < told.cluster.regions → table_of told.cluster told.workload told.events i ≡ shown (get_or told.sites i no_site).region.state.here.table
      here i lr = sym (ap (λ (n : Node). shown n.here.table) (led.stands i lr).node ∙ ap shown ((legal_agree (run_told led)).tables i lr))

  -- what an execution adds to the order

  module _ (at : ℕ) (region : ℕ) (id : TxnId) (item : slice_get told.events at ≡ Some (Execute region id)) where
    pub note_region : region < told.cluster.regions
    note_region = (executed_at (run_told led) at region id item).0

    pub note_executed : IsExecutedAt (world_told told) region id
    note_executed = (executed_at (run_told led) at region id item).1

    module _ (before after : IdIndexView) (so_far : AreMarkedIds before (order_of (take at told.events)))
        (put : (other : TxnId) → is_marked after other ≡ (same_id other id || is_marked before other)) where
      pub notes_new : is_marked before id ≡ false → Notes told at after (Some (region, id))
      notes_new unmarked =
          let absent : is_among (order_of (take at told.events)) id ≡ false = sym (so_far id) ∙ unmarked in
          record {
            seen = subst (AreMarkedIds after) (sym (order_new told.events at region id item absent)) (marked_new before after (order_of (take at told.events)) id so_far put);
            adds = (note_region, note_executed, λ r is. rans_more (run_told led) at region id r item absent is);
          }

      pub notes_again : is_marked before id ≡ true → Notes told at after None
      notes_again marked =
          let there : is_among (order_of (take at told.events)) id ≡ true = sym (so_far id) ∙ marked in
          let same : order_of (take at told.events) ≡ order_of (take (at + 1) told.events) = sym (order_again told.events at region id item there) in
          record {
            seen = subst (AreMarkedIds after) same (marked_again before after (order_of (take at told.events)) id so_far put there);
            adds = ap (filter_map (ran_of told.cluster told.workload told.events)) same;
          }

  pub notes_other : (at : ℕ) (event : Event) → slice_get told.events at ≡ Some event → executed_id event ≡ None → (marks : IdIndexView) → AreMarkedIds marks (order_of (take at told.events)) → Notes told at marks None
  notes_other at event item none marks so_far =
      let same : order_of (take at told.events) ≡ order_of (take (at + 1) told.events) = sym (order_other told.events at event item none) in
      record { seen = subst (AreMarkedIds marks) same so_far; adds = ap (filter_map (ran_of told.cluster told.workload told.events)) same }

  -- what is followed

  run_split : (at : ℕ) (event : Event) → slice_get told.events at ≡ Some event → IsLegalRun told.cluster told.workload (take at told.events ++ event ∷ drop (at + 1) told.events)
  run_split at event item = subst (IsLegalRun told.cluster told.workload) (split_at told.events at event item).0 (run_told led)

  -- the replies to the first of all events
  abbrev replies_to : List Event → List Event → List Reply
  replies_to all = replies_from told.cluster told.workload all (opening_world told.cluster told.workload)

  -- an event that neither submits nor answers

  plain_replies : (at : ℕ) (event : Event) → slice_get told.events at ≡ Some event → answered_session told.workload (world_after told.cluster told.workload (take at told.events)) event ≡ None
      → replies_at told at ≡ replies_at told (at + 1)
  plain_replies at event item none = sym (
      ap (replies_to told.events) (split_at told.events at event item).1
      ∙ replies_more told.cluster told.workload told.events (opening_world told.cluster told.workload) (take at told.events) event
      ∙ ap (λ o. replies_at told at ++ option_to_list (reply_for told.cluster told.workload told.events o)) none
      ∙ append-nil (replies_at told at))

  plain_course : (at : ℕ) (event : Event) → slice_get told.events at ≡ Some event → ((w : World) → replay_of (next told.cluster told.workload w event) ≡ replay_of w) → replay_at told at ≡ replay_at told (at + 1)
  plain_course at event item same = sym (ap (λ l. replay_of (world_after told.cluster told.workload l)) (split_at told.events at event item).1 ∙ ap replay_of (world_after_more told.cluster told.workload (take at told.events) event)
      ∙ same (world_after told.cluster told.workload (take at told.events)))

  pub plain_event : (at : ℕ) (event : Event) → slice_get told.events at ≡ Some event → ((region : ℕ) (name : Bytes) → event ≢ Submit region name) → ((region : ℕ) (name : Bytes) → event ≢ Answer region name)
      → (replay_at told at ≡ replay_at told (at + 1)) × (replies_at told at ≡ replies_at told (at + 1))
  plain_event at (Submit region name) item a b = absurd (a region name refl)
  plain_event at (Append home source number) item a b = (plain_course at (Append home source number) item (λ w. append_same told.cluster told.workload w home source number), plain_replies at (Append home source number) item refl)
  plain_event at (Deliver region home first last) item a b = (
    plain_course at (Deliver region home first last) item (λ w. deliver_same told.cluster told.workload w region home first last),
    plain_replies at (Deliver region home first last) item refl,
  )
  plain_event at (Insert region home) item a b = (plain_course at (Insert region home) item (λ w. insert_same told.cluster told.workload w region home), plain_replies at (Insert region home) item refl)
  plain_event at (Resolve region ids) item a b = (plain_course at (Resolve region ids) item (λ w. resolve_same told.cluster told.workload w region ids), plain_replies at (Resolve region ids) item refl)
  plain_event at (Execute region id) item a b = (plain_course at (Execute region id) item (λ w. execute_same told.cluster told.workload w region id), plain_replies at (Execute region id) item refl)
  plain_event at (Answer region name) item a b = absurd (b region name refl)

  -- an event of a session

  module _ (at : ℕ) (event : Event) (item : slice_get told.events at ≡ Some event) (region : ℕ) (name : Bytes) where
    pub session_listed : (event ≡ Submit region name) ⊎ (event ≡ Answer region name) → ¬ (position (is_session region name) told.workload.sessions ≡ None)
    session_listed = now_listed (take at told.events) (drop (at + 1) told.events) event (run_split at event item) region name

    place_followed : (place : ℕ) → position (is_session region name) told.workload.sessions ≡ Some place → (course : SessionReplayView) → course ≡ replay_at told at → place < length course.waits
    place_followed place found course is = subst (λ (c : SessionReplayView). place < length c.waits) (sym is)
        (now_followed (take at told.events) (drop (at + 1) told.events) event (run_split at event item) region name place found)

  -- a submission

  module _ (at : ℕ) (region : ℕ) (name : Bytes) (item : slice_get told.events at ≡ Some (Submit region name)) where
    module _ (place : ℕ) (found : position (is_session region name) told.workload.sessions ≡ Some place) (course : SessionReplayView) (is : course ≡ replay_at told at) where
      follow_region : region < length course.submitted
      follow_region = subst (λ (c : SessionReplayView). region < length c.submitted) (sym is)
          (submit_region (take at told.events) (drop (at + 1) told.events) region name (run_split at (Submit region name) item) place found)

      follow_few : count_at course region + 1 ≤ length (node_at (world_told told) region).submitted
      follow_few = subst (λ (c : SessionReplayView). count_at c region + 1 ≤ length (node_at (world_told told) region).submitted) (sym is)
          (subst (λ w. count_at (replay_at told at) region + 1 ≤ length (node_at w region).submitted) (ap (world_after told.cluster told.workload) (sym (split_at told.events at (Submit region name) item).0))
          (submit_few (take at told.events) (drop (at + 1) told.events) region name (run_split at (Submit region name) item) place found))

      follow_counted : count_at course region + 1 < 4294967296
      follow_counted =
          let lr : region < told.cluster.regions =
          (now_legal (take at told.events) (drop (at + 1) told.events) (Submit region name) (run_split at (Submit region name) item)).regions in
          let many : length (node_at (world_told told) region).submitted ≡ length (get_or told.sites region no_site).region.state.submitted = many_here (reached led) (led.stands region lr) in
          let few = led.few region lr in
          let more = follow_few in
          omega (arith, many, few, more)

      follow_submitted : after_submission course place region ≡ replay_at told (at + 1)
      follow_submitted = ap (λ c. after_submission c place region) is
          ∙ sym (submit_follows (take at told.events) (drop (at + 1) told.events) region name (run_split at (Submit region name) item) place found)
          ∙ ap (λ l. replay_of (world_after told.cluster told.workload l)) (sym (split_at told.events at (Submit region name) item).1)

      pub follows_submission : FollowsSubmission told at region place course
      follows_submission = record {
        place_there = place_followed at (Submit region name) item region name place found course is;
        region_there = follow_region;
        few = follow_counted;
        replay = follow_submitted;
        replies = plain_replies at (Submit region name) item refl;
      }

  -- an answer

  module _ (at : ℕ) (region : ℕ) (name : Bytes) (item : slice_get told.events at ≡ Some (Answer region name)) where
    module _ (place : ℕ) (found : position (is_session region name) told.workload.sessions ≡ Some place) (course : SessionReplayView) (is : course ≡ replay_at told at) where
      reply_region : region < told.cluster.regions
      reply_region = answer_region (take at told.events) (drop (at + 1) told.events) region name (run_split at (Answer region name) item) place found

      reply_waits : ¬ (wait_at course place ≡ None)
      reply_waits e = answer_waits (take at told.events) (drop (at + 1) told.events) region name (run_split at (Answer region name) item) place found
          (subst (λ (c : SessionReplayView). wait_at c place ≡ None) is e)

      reply_followed : after_reply course place ≡ replay_at told (at + 1)
      reply_followed = ap (λ c. after_reply c place) is
          ∙ sym (answer_follows (take at told.events) (drop (at + 1) told.events) region name (run_split at (Answer region name) item) place found)
          ∙ ap (λ l. replay_of (world_after told.cluster told.workload l)) (sym (split_at told.events at (Answer region name) item).1)

      pub follows_answer : FollowsAnswer told at region place course
      follows_answer = record { place_there = place_followed at (Answer region name) item region name place found course is; region_there = reply_region; waited = reply_waits; replay = reply_followed }

      module _ (id : TxnId) (waits : wait_at course place ≡ Some id) where
        waits_then : wait_at (replay_at told at) place ≡ Some id
        waits_then = subst (λ (c : SessionReplayView). wait_at c place ≡ Some id) is waits

        reply_own : id.region ≡ region
        reply_own = answer_own (take at told.events) (drop (at + 1) told.events) region name (run_split at (Answer region name) item) place found id waits_then

        the_end : (world_told told) ≡ world_after told.cluster told.workload (take at told.events ++ Answer region name ∷ drop (at + 1) told.events)
        the_end = ap (world_after told.cluster told.workload) (split_at told.events at (Answer region name) item).0

        reply_executed : IsExecutedAt (world_told told) region id
        reply_executed = subst (λ w. IsExecutedAt w region id) (sym the_end)
            (answer_executed (take at told.events) (drop (at + 1) told.events) region name (run_split at (Answer region name) item) place found id waits_then)

        reply_added : (reply : Reply) → IsReply (world_told told) region name id reply → replies_at told (at + 1) ≡ replies_at told at ++ reply ∷ []
        reply_added reply r =
            let split = take at told.events ++ Answer region name ∷ drop (at + 1) told.events in
            let added : replies_to split (take at told.events ++ Answer region name ∷ []) ≡ replies_to split (take at told.events) ++ reply ∷ [] =
            answer_replies (take at told.events) (drop (at + 1) told.events) region name (run_split at (Answer region name) item) place found id waits_then reply
            (subst (λ w. IsReply w region name id reply) the_end r) in
            subst₂ (λ (all now : List Event). replies_to all now ≡ replies_to all (take at told.events) ++ reply ∷ [])
            (sym (split_at told.events at (Answer region name) item).0) (sym (split_at told.events at (Answer region name) item).1) added

        pub adds_reply : (id.region < told.cluster.regions) × IsExecutedAt (world_told told) id.region id
            × ((reply : Reply) → IsReply (world_told told) id.region name id reply → replies_at told (at + 1) ≡ replies_at told at ++ reply ∷ [])
        adds_reply = (
          subst (λ r. r < told.cluster.regions) (sym reply_own) reply_region,
          subst (λ r. IsExecutedAt (world_told told) r id) (sym reply_own) reply_executed,
          λ reply is. reply_added reply (subst (λ r. IsReply (world_told told) r name id reply) reply_own is),
        )

-- all replies are of what regions keep

module _ {cluster : Cluster} {workload : Workload} {events : List Event} (run : IsLegalRun cluster workload events) where
  -- the replies are of what regions keep after these events
  abbrev AreKept : List Event → List Reply → Type 0
  AreKept all = AllIn (IsReplyOf cluster.regions (world_after cluster workload all))

  -- the reply to an event that stands after these, where these are all
  abbrev reply_after : List Event → Event → List Event → List Reply
  reply_after xs event all = option_to_list (reply_for cluster workload all (answered_session workload (world_after cluster workload xs) event))

  one_kept : (xs ys : List Event) (event : Event) → events ≡ xs ++ event ∷ ys → AreKept events (reply_after xs event events)
  one_kept xs ys (Submit region name) e = tt
  one_kept xs ys (Append home source number) e = tt
  one_kept xs ys (Deliver region home first last) e = tt
  one_kept xs ys (Insert region home) e = tt
  one_kept xs ys (Resolve region ids) e = tt
  one_kept xs ys (Execute region id) e = tt
  one_kept xs ys (Answer region name) e = subst (λ all. AreKept all (reply_after xs (Answer region name) all)) (sym e)
      (by (position (is_session region name) workload.sessions) refl)
    where
      l : IsLegalRun cluster workload (xs ++ Answer region name ∷ ys)
      l = subst (IsLegalRun cluster workload) e run

      one : (o : Option Reply) → ((reply : Reply) → o ≡ Some reply → IsReplyOf cluster.regions (world_after cluster workload (xs ++ Answer region name ∷ ys)) reply)
          → AreKept (xs ++ Answer region name ∷ ys) (option_to_list o)
      one None f = tt
      one (Some reply) f = (f reply refl, tt)

      waiting : (place : ℕ) → position (is_session region name) workload.sessions ≡ Some place → (o : Option TxnId) → wait_at (replay_of (world_after cluster workload xs)) place ≡ o
          → AreKept (xs ++ Answer region name ∷ ys) (reply_after xs (Answer region name) (xs ++ Answer region name ∷ ys))
      waiting place found None w = absurd (answer_waits xs ys region name l place found w)
      waiting place found (Some id) w = one _ (λ reply is. answer_kept xs ys region name l place found id w reply is)

      by : (o : Option ℕ) → position (is_session region name) workload.sessions ≡ o
          → AreKept (xs ++ Answer region name ∷ ys) (reply_after xs (Answer region name) (xs ++ Answer region name ∷ ys))
      by None f = absurd (now_listed xs ys (Answer region name) l region name (inr refl) f)
      by (Some place) f = waiting place f (wait_at (replay_of (world_after cluster workload xs)) place) refl

  pub replies_kept : AreKept events (replies_of cluster workload events)
  replies_kept = from_right (λ xs. (ys : List Event) → events ≡ xs ++ ys → AreKept events (replies_from cluster workload events (opening_world cluster workload) xs))
      (λ ys e. tt)
      (λ xs event keeps ys e. subst (AreKept events) (sym (replies_more cluster workload events (opening_world cluster workload) xs event))
      (all_append (IsReplyOf cluster.regions (world_after cluster workload events)) _ _
      (keeps (event ∷ ys) (e ∙ append_assoc xs (event ∷ []) ys)) (one_kept xs ys event (e ∙ append_assoc xs (event ∷ []) ys))))
      events [] (sym (append-nil events))

-- loops that are done

pub order_whole : (told : ReportSourceView) {held : List Event} → held ≡ told.events
    → (at : ℕ) (o : List Ran) → at ≤ length held → length held ≤ at → o ≡ rans_at told at → o ≡ rans_of told.cluster told.workload told.events
order_whole told {held} is at o le ge e =
    let same : at ≡ length held = omega arith in
    e ∙ ap (rans_at told) (same ∙ ap length is) ∙ ap (λ l. filter_map (ran_of told.cluster told.workload told.events) (order_of l)) (take-length told.events)

pub replies_whole : (told : ReportSourceView) {held : List Event} → held ≡ told.events
    → (at : ℕ) (o : List Reply) → at ≤ length held → length held ≤ at → o ≡ replies_at told at → o ≡ replies_of told.cluster told.workload told.events
replies_whole told {held} is at o le ge e =
    let same : at ≡ length held = omega arith in
    e ∙ ap (replies_at told) (same ∙ ap length is) ∙ ap (replies_from told.cluster told.workload told.events (opening_world told.cluster told.workload)) (take-length told.events)

-- a course begins with the opening world

no_waits : (sessions : List Session) → replicate {A = Option TxnId} (length sessions) None ≡ map (λ (p : Place). p.waits) (map (λ (s : Session). idle_place) sessions)
no_waits [] = refl
no_waits (s ∷ sessions) = ap (λ l. None ∷ l) (no_waits sessions)

pub course_begins : (cluster : Cluster) (workload : Workload)
    → ◌≡◌ {A = SessionReplayView} (record { waits = replicate (length workload.sessions) None; submitted = replicate cluster.regions 0 }) (replay_of (opening_world cluster workload))
course_begins cluster workload =
    let counts : map (λ (y : Node). length y.submitted) (replicate cluster.regions (opening_node cluster.regions (opening_table cluster))) ≡ replicate cluster.regions 0 = map-replicate _ cluster.regions _ in
    ap₂ (λ (a : List (Option TxnId)) (b : List ℕ). record { waits = a; submitted = b }) (no_waits workload.sessions) (sym counts)

-- small steps

pub not_execution : (event : Event) → ((region : ℕ) (id : TxnId) → event ≡ Execute region id → ⊥) → executed_id event ≡ None
not_execution (Submit region name) n = refl
not_execution (Append home source number) n = refl
not_execution (Deliver region home first last) n = refl
not_execution (Insert region home) n = refl
not_execution (Resolve region ids) n = refl
not_execution (Execute region id) n = absurd (n region id refl)
not_execution (Answer region name) n = refl

pub absent_of : (b c : Bool) → b ≡ true → b ≡ not c → c ≡ false
absent_of b true e f = cc
absent_of b false e f = refl

pub present_of : (b c : Bool) → b ≡ false → b ≡ not c → c ≡ true
present_of b true e f = refl
present_of b false e f = cc

-- an attempt, as it is reported and as it is replied

module _ {w : World} {region : ℕ} {id : TxnId} {origin : Origin} {outcome : Outcome} (is : IsAttempt w region id origin outcome) where
  pub ran_found : {name : Bytes} {given : Outcome} → name ≡ origin.session → given ≡ outcome
      → ran_at w region id ≡ Some (record { id = id; session = name; call = origin.call; attempt = origin.attempt; outcome = given })
  ran_found {name} {given} named gives =
      let session : is.submission.session ≡ name = ap (λ (s : Submission). s.session) is.origin_is ∙ sym named in
      let call : is.submission.call ≡ origin.call = ap (λ (s : Submission). s.call) is.origin_is in
      let number : is.submission.attempt ≡ origin.attempt = ap (λ (s : Submission). s.attempt) is.origin_is in
      ap₂ (λ x y. option_and_then (λ z. option_map (ran id z) y) x) is.found is.outcome_is
      ∙ (λ i. Some (record { id = id; session = session i; call = call i; attempt = number i; outcome = sym gives i }))

  pub reply_found : {session name : Bytes} {given : Outcome} → name ≡ session → given ≡ outcome
      → IsReply w region session id (record { session = name; call = origin.call; outcome = given })
  reply_found named gives = record {
    submission = is.submission;
    found = is.found;
    session_is = named;
    call_is = sym (ap (λ (s : Submission). s.call) is.origin_is);
    outcome_is = is.outcome_is ∙ ap Some (sym gives);
  }

-- the parts of a report are the report

sites_shown : (lent : List (Bor SiteView)) → map (λ (s : Bor SiteView). shown s.now.region.state.here.table) lent ≡ map (λ (p : SiteView). shown p.region.state.here.table) (map (λ (s : Bor SiteView). s.now) lent)
sites_shown [] = refl
sites_shown (s ∷ lent) = ap (λ l. shown s.now.region.state.here.table ∷ l) (sites_shown lent)

pub parts_told : {cluster : Cluster} {workload : Workload} {events : List Event} (lent : List (Bor SiteView)) → AreSitesAfter cluster workload events (map (λ (s : Bor SiteView). s.now) lent)
    → {replies : List Reply} {order : List Ran} {tables : List (List Shown)} {all : List Event} → replies ≡ replies_of cluster workload events → order ≡ rans_of cluster workload events
    → tables ≡ map (λ (s : Bor SiteView). shown s.now.region.state.here.table) lent → all ≡ events
    → ◌≡◌ {A = Report} (record { replies = replies; order = order; tables = tables; events = all }) (report_of cluster workload events)
parts_told {cluster} {workload} {events} lent led r o t e =
    let told : ReportSourceView = record { cluster = cluster; workload = workload; sites = map (λ (s : Bor SiteView). s.now) lent; events = events } in
    let same = t ∙ sites_shown lent ∙ tables_are {told = told} led in
    λ i. record { replies = r i; order = o i; tables = same i; events = e i }

-- what else is said of a report

pub same_told : (P : Report → Type 0) {whole : Report} (r : Result Report NoMemory) → IfOk r (λ report. report ≡ whole) → P whole → IfOk r P
same_told P (Ok report) is p = subst P (sym is) p
same_told P (Err e) is p = tt

module _ {cluster : Cluster} {sessions : WorldSessions} {sites : List SiteView} {steps : ℕ} (k : IsLawful cluster sessions sites steps) {now : WorldView} (view : view_in cluster sessions sites steps ≡ now) where
  sound : IsValidCluster now.cluster
  sound = subst (λ (v : WorldView). IsValidCluster v.cluster) view k.reached.run.sound

  fits : IsValidWorkload now.cluster now.workload
  fits = subst (λ (v : WorldView). IsValidWorkload v.cluster v.workload) view k.reached.run.fits

  module _ (events : List Event) (legal : AreLegal now.cluster now.workload events) (led_to : now.state ≡ world_after now.cluster now.workload events) where
    run_now : IsLegalRun now.cluster now.workload events
    run_now = record { sound = sound; fits = fits; legal = legal }

    pub outcomes_are : AllIn (λ (r : Ran). IsOutcomeOf now.cluster.regions now.state r.id r.outcome) (rans_of now.cluster now.workload events)
    outcomes_are = subst (λ w. AllIn (λ (r : Ran). IsOutcomeOf now.cluster.regions w r.id r.outcome) (rans_of now.cluster now.workload events)) (sym led_to)
        (outcomes_kept run_now)

    pub replies_are : AllIn (IsReplyOf now.cluster.regions now.state) (replies_of now.cluster now.workload events)
    replies_are = subst (λ w. AllIn (IsReplyOf now.cluster.regions w) (replies_of now.cluster now.workload events)) (sym led_to) (replies_kept run_now)

    pub nodes_tables : tables_of now.cluster now.workload events ≡ map (λ (n : Node). shown n.here.table) now.state.nodes
    nodes_tables = subst (λ (w : World). tables_of now.cluster now.workload events ≡ map (λ (n : Node). shown n.here.table) w.nodes) (sym led_to)
        (subst (λ m. map (table_of now.cluster now.workload events) (range_with_len 0 m) ≡ map (λ (n : Node). shown n.here.table) (world_after now.cluster now.workload events).nodes) many
        (by_number (table_of now.cluster now.workload events) (λ (n : Node). shown n.here.table) (world_after now.cluster now.workload events).nodes 0 no_node
        (λ i lt. let same : 0 + i ≡ i = omega arith in subst (λ r. table_of now.cluster now.workload events r ≡ shown (node_at (world_after now.cluster now.workload events) i).here.table) (sym same)
        (ap shown (sym ((legal_agree run_now).tables i (subst (λ m. i < m) many lt)))))))
      where
        many : length (world_after now.cluster now.workload events).nodes ≡ now.cluster.regions
        many = (legal_keeps run_now).nodes

    pub ran_all : map (λ (r : Ran). r.id) (rans_of now.cluster now.workload events) ≡ order_of events
    ran_all = all_are_ran run_now

    pub answered_all : map (λ (r : Reply). r.session) (replies_of now.cluster now.workload events) ≡ filter_map answered_name events
    answered_all = all_are_answered run_now

    -- the sites of a world are those after events that lead to it
    pub sites_after : steps < 4294967296 → AreSitesAfter cluster sessions.workload events sites
    sites_after few = record {
      valid = k.reached.run.sound;
      fits = k.reached.run.fits;
      legal = subst (λ (v : WorldView). AreLegal v.cluster v.workload events) (sym view) legal;
      many = many_sites k;
      stands = λ region lr. subst (λ w. StandsIn cluster.regions w region (site_at sites region)) led (k.stands region lr);
      few = λ region lr. (let s = submitted_few k lr in omega (arith, s, few));
    }
      where
        led : world_of sites (places_in sessions) ≡ world_after cluster sessions.workload events
        led = subst (λ (v : WorldView). v.state ≡ world_after v.cluster v.workload events) (sym view) led_to
