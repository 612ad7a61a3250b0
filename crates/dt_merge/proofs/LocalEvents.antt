-- The law of locality: two worlds on the way to a third have the same own part of a region. Where an event of the region is
-- legal in the one, and the other has what it takes from elsewhere, it is legal in the other, and does the same to that part.
use Rattle.std.proofs.Common.{◌≡◌, ◌≢◌, ◌<◌, ◌≤◌, ◌+◌, ℕ, Bool, true, false, cond, eqb, leb, ltb, ◌&&◌, List, [], ◌++◌, length, get_or, map, set, Some, None}
use Rattle.std.proofs.Common.{refl, sym, ap, ap₂, subst, subst₂, ◌∙◌, inl, inr, arith, eqb-true}
use Rattle.std.specs.Prelude.{Option, option_map, option_and_then, unwrap_or, filter, slice_get, slice_index}
use Rattle.std.proofs.lemmas.Bool.{false_from_ne_true}
use Rattle.std.proofs.lemmas.List.{length-append, map-append}
use Rattle.std.proofs.lemmas.List.Elements.{filter-append}
use Rattle.std.proofs.lemmas.Option.{same_Some}
use Rattle.dt_lists.specs.Lists.{Has, IsFront}
use Rattle.dt_lists.proofs.Callers.{either_nat, get_front, at_place, has_place}
use Rattle.dt_access.specs.Clash.{Bytes}
use Rattle.dt_access.specs.declared.TxnId.{TxnId}
use Rattle.dt_sched.specs.Views.{log_at}
use Rattle.dt_events.specs.declared.Event.{Event}
use Rattle.dt_events.specs.declared.Event.TheVariants.{Submit, Append, Deliver, Insert, Resolve, Execute, Answer}
use Rattle.dt_events.specs.Events.{region_of}
use Rattle.dt_txn.specs.declared.Txn.{Txn}
use Rattle.dt_txn.specs.declared.Outcome.{Outcome}
use Rattle.dt_txn.specs.Replica.{MayStep, executed, fronts, stepped}
use Rattle.dt_cluster.specs.declared.Cluster.{Cluster}
use Rattle.dt_workload.specs.declared.Ranked.{Ranked}
use Rattle.dt_workload.specs.declared.Session.{Session}
use Rattle.dt_workload.specs.declared.Workload.{Workload}
use Rattle.dt_session.specs.World.{Node, World, Place, Submission, node_at, asked_of, taken_of, log_of, logs_of, received_of, received_lengths, received_logs}
use Rattle.dt_session.specs.World.{submission_of, find_submission, txn_of, attempt_of, outcome_in, outcome_at, session_at}
use Rattle.dt_session.specs.Tries.{Awaited, MayEnd, MayTry, attempt_after}
use Rattle.dt_session.specs.Step.{IsLegal, MaySubmit, MayAnswer, awaited_at, next_attempt, called, submitted, answered, next}
use Rattle.dt_agreement.specs.Invariant.{IsPlaceOf, has_home, requests}
use Rattle.dt_agreement.proofs.Callers.{WasSubmitted, IsRequest, WaitsAt, executable_known, log_is, logs_length, received_within, request_is, session_found, waiting_for}
use Rattle.dt_merge.specs.OwnPart.{own, HasGrown, HaveGrown, source_of, IsSupplied}
use Rattle.dt_merge.specs.WorldRegions.{HasInvariant}
use Rattle.dt_merge.proofs.GoodWorlds.{node_there}
use Rattle.dt_merge.proofs.OwnParts.{local, found_own, found_on, fronts_stay, logs_longer}
use Rattle.dt_merge.proofs.OwnSteps.{append_own, received_own, deliver_own, move_own, answer_own, submit_own, own_answered, own_submitted, own_appended, own_delivered, own_moved}

awaits : (a b : ℕ) (o p : Option Outcome) → a ≡ b → o ≡ p → ◌≡◌ {A = Option Awaited} (Some (record { attempt = a; outcome = o })) (Some (record { attempt = b; outcome = p }))
awaits a b o p e f = λ k. Some (record { attempt = e k; outcome = f k })

longer_than : {A : Type 0} (xs ys : List A) (n : ℕ) → IsFront xs ys → n < length xs → n < length ys
longer_than xs ys n f lt = subst (λ l. n < length l) f.1 (let both : length (xs ++ f.0) ≡ length xs + length f.0 = length-append xs f.0 in omega arith)

no_shorter : {A : Type 0} (xs ys : List A) (n : ℕ) → IsFront xs ys → n ≤ length xs → n ≤ length ys
no_shorter xs ys n f le = subst (λ l. n ≤ length l) f.1 (let both : length (xs ++ f.0) ≡ length xs + length f.0 = length-append xs f.0 in omega arith)

requests_front : (home : ℕ) (xs ys : List Submission) → IsFront xs ys → IsFront (requests home xs) (requests home ys)
requests_front home xs ys f = (
  requests home f.0,
  sym (ap (map (λ s. s.txn.id)) (filter-append (λ s. has_home home s.txn) xs f.0) ∙ map-append (λ s. s.txn.id) (filter (λ s. has_home home s.txn) xs) (filter (λ s. has_home home s.txn) f.0))
      ∙ ap (requests home) f.1,
)

-- the transaction of an id stays that of a world which is below another
pub txn_up : (w z : World) → HaveGrown w z → (id : TxnId) (x : Txn) → txn_of w id ≡ Some x → txn_of z id ≡ Some x
txn_up w z b id x e = go (submission_of w id) refl e
  where
    go : (o : Option Submission) → submission_of w id ≡ o → option_map (λ s. s.txn) o ≡ Some x → txn_of z id ≡ Some x
    go None is e = cc
    go (Some s) is e =
        ap (option_map (λ y. y.txn))
        (subst (λ l. find_submission l id ≡ Some s) (b id.region).submitted.1 (found_on (node_at w id.region).submitted (b id.region).submitted.0 id s is)) ∙ e

-- what one world has stands in a world that it is below

module _ {cluster : Cluster} {workload : Workload} (w z : World) where
  pub asked_front : HasInvariant cluster workload w → HasInvariant cluster workload z → (source home : ℕ) → source < cluster.regions → home < cluster.regions
      → HasGrown (node_at w source) (node_at z source) → IsFront (asked_of w source home) (asked_of z source home)
  asked_front gw gz source home ls lh grown =
      subst₂ IsFront (sym (gw.inv.asked source home ls lh)) (sym (gz.inv.asked source home ls lh))
      (requests_front home (node_at w source).submitted (node_at z source).submitted grown.submitted)

  -- what a region received of the logs of the one, it would have received of those of the other
  pub received_up : HasInvariant cluster workload w → HasInvariant cluster workload z → HaveGrown w z → (region : ℕ) → region < cluster.regions
      → received_logs w region ≡ fronts (received_lengths w region) (logs_of z)
  received_up gw gz b region lr =
      fronts_stay (received_lengths w region) (logs_of w) (logs_of z) (logs_longer w.nodes z.nodes (gw.inv.nodes ∙ sym gz.inv.nodes) b) within
    where
      within : (home : ℕ) → home < length (logs_of w) → slice_index (received_lengths w region) home ≤ length (log_at (logs_of w) home)
      within home lt =
          let lh : home < cluster.regions = subst (λ n. home < n) (logs_length w ∙ gw.inv.nodes) lt in
          subst (λ l. slice_index (received_lengths w region) home ≤ length l) (sym (log_is w home)) (received_within gw.inv region home lr lh)

-- an id that a region gave is that of the same attempt in all worlds in which the region's node is the same
pub attempt_same : (w v : World) (region : ℕ) → node_at w region ≡ node_at v region → (id : TxnId) → id.region ≡ region → attempt_of w id ≡ attempt_of v id
attempt_same w v region nodes id is = ap (λ (n : Node). unwrap_or (option_map (λ s. s.attempt) (find_submission n.submitted id)) 0) (subst (λ r. node_at w r ≡ node_at v r) (sym is) nodes)

-- what two worlds say of a region, if its own part is the same in both

module _ (workload : Workload) (w v : World) (region : ℕ) (same : own workload w region ≡ own workload v region) where
  pub node_same : node_at w region ≡ node_at v region
  node_same = ap (λ o. o.node) same

  -- its sessions stand at the same places
  pub session_same : (name : Bytes) → session_at workload.sessions w.places region name ≡ session_at workload.sessions v.places region name
  session_same name =
      found_own workload.sessions w.places region name ∙ ap (λ o. session_at (local region workload.sessions) o.places region name) same
      ∙ sym (found_own workload.sessions v.places region name)

module _ {cluster : Cluster} {workload : Workload} (w v z : World) (gw : HasInvariant cluster workload w) (gv : HasInvariant cluster workload v) (gz : HasInvariant cluster workload z)
    (bw : HaveGrown w z) (bv : HaveGrown v z) (region : ℕ) (lr : region < cluster.regions) where
  -- it has received the same of all logs, where both worlds are below a third
  pub logs_same : node_at w region ≡ node_at v region → received_logs w region ≡ received_logs v region
  logs_same nodes =
      received_up w z gw gz bw region lr ∙ ap (λ n. fronts (set n.received region (length n.log)) (logs_of z)) nodes ∙ sym (received_up v z gv gz bv region lr)

-- what an event of the region does to that part

module _ {cluster : Cluster} {workload : Workload} (w v z : World) (gw : HasInvariant cluster workload w) (gv : HasInvariant cluster workload v) (gz : HasInvariant cluster workload z)
    (bw : HaveGrown w z) (bv : HaveGrown v z) (region : ℕ) (lr : region < cluster.regions) (same : own workload w region ≡ own workload v region) where
  nodes : node_at w region ≡ node_at v region
  nodes = node_same workload w v region same

  one_txn : (id : TxnId) (x y : Txn) → txn_of w id ≡ Some x → txn_of v id ≡ Some y → x ≡ y
  one_txn id x y e f = same_Some _ _ (sym (txn_up w z bw id x e) ∙ txn_up v z bv id y f)

  -- sessions

  waits_here : (name : Bytes) (session : Session) (place : Place) → session_at workload.sessions w.places region name ≡ Some (session, place) → (id : TxnId) → place.waits ≡ Some id → id.region ≡ region
  waits_here name session place e id h =
      let f : Has workload.sessions session × (session.name ≡ name) × (session.region ≡ region) × IsPlaceOf cluster.tries w session place =
      session_found (IsPlaceOf cluster.tries w) workload.sessions w.places region name session place gw.inv.sessions.places e in
      let a : WaitsAt cluster w session place id = waiting_for gw.inv session place id (subst (λ r. r < cluster.regions) (sym f.2) lr) f.3 h in
      a.region ∙ f.2

  attempted : (id : TxnId) → id.region ≡ region → attempt_of w id ≡ attempt_of v id
  attempted = attempt_same w v region nodes

  awaited_same : (waits : Option TxnId) → ((id : TxnId) → waits ≡ Some id → id.region ≡ region) → awaited_at w region waits ≡ awaited_at v region waits
  awaited_same None here = refl
  awaited_same (Some id) here =
      awaits (attempt_of w id) (attempt_of v id) (outcome_at w region id) (outcome_at v region id) (attempted id (here id refl)) (ap (λ n. outcome_in n.here.done id) nodes)

  next_same : (waits : Option TxnId) → ((id : TxnId) → waits ≡ Some id → id.region ≡ region) → next_attempt w waits ≡ next_attempt v waits
  next_same None here = refl
  next_same (Some id) here = ap (λ a. attempt_after (Some a)) (attempted id (here id refl))

  called_same : (session : Session) (place : Place) → next_attempt w place.waits ≡ next_attempt v place.waits → (o : Option Ranked)
      → own workload (called cluster workload w region session place o) region ≡ own workload (called cluster workload v region session place o) region
  called_same session place e None = same
  called_same session place e (Some call) =
      own_submitted cluster workload w region (node_there gw region lr) session place call
      ∙ ap₂ (submit_own cluster workload region session place call) same e
      ∙ sym (own_submitted cluster workload v region (node_there gv region lr) session place call)

  -- the region's own part is the same after a submission, or an answer, of this session in one world and of that in the other
  abbrev IsSubmittedAlike : Option (Session × Place) → Option (Session × Place) → Type 0
  IsSubmittedAlike o p = own workload (submitted cluster workload w region o) region ≡ own workload (submitted cluster workload v region p) region

  abbrev IsAnsweredAlike : Option (Session × Place) → Option (Session × Place) → Type 0
  IsAnsweredAlike o p = own workload (answered workload w region o) region ≡ own workload (answered workload v region p) region

  submit_local : (name : Bytes) → MaySubmit cluster w region (session_at workload.sessions w.places region name)
      → MaySubmit cluster v region (session_at workload.sessions v.places region name)
      × IsSubmittedAlike (session_at workload.sessions w.places region name) (session_at workload.sessions v.places region name)
  submit_local name may =
      subst (λ o. MaySubmit cluster v region o × IsSubmittedAlike (session_at workload.sessions w.places region name) o)
      (session_same workload w v region same name) (go (session_at workload.sessions w.places region name) refl may)
    where
      go : (o : Option (Session × Place)) → session_at workload.sessions w.places region name ≡ o → MaySubmit cluster w region o
          → MaySubmit cluster v region o × IsSubmittedAlike o o
      go None e m = absurd m
      go (Some (session, place)) e m = (
        subst (MayTry cluster.tries (length session.calls) place.answered) (awaited_same place.waits (waits_here name session place e)) m,
        called_same session place (next_same place.waits (waits_here name session place e)) (slice_get session.calls place.answered),
      )

  answer_local : (name : Bytes) → MayAnswer cluster w region (session_at workload.sessions w.places region name)
      → MayAnswer cluster v region (session_at workload.sessions v.places region name)
      × IsAnsweredAlike (session_at workload.sessions w.places region name) (session_at workload.sessions v.places region name)
  answer_local name may =
      subst (λ o. MayAnswer cluster v region o × IsAnsweredAlike (session_at workload.sessions w.places region name) o)
      (session_same workload w v region same name) (go (session_at workload.sessions w.places region name) refl may)
    where
      go : (o : Option (Session × Place)) → session_at workload.sessions w.places region name ≡ o → MayAnswer cluster w region o
          → MayAnswer cluster v region o × IsAnsweredAlike o o
      go None e m = absurd m
      go (Some (session, place)) e m = (
        subst (MayEnd cluster.tries) (awaited_same place.waits (waits_here name session place e)) m,
        own_answered cluster workload w region session place ∙ ap (answer_own workload region session place) same ∙ sym (own_answered cluster workload v region session place),
      )

  -- a request that is placed

  asks_same : (source : ℕ) → source < cluster.regions → (number : ℕ) → number < length (asked_of w source region) → number < length (asked_of v source region)
      → option_and_then (txn_of w) (slice_get (asked_of w source region) number) ≡ option_and_then (txn_of v) (slice_get (asked_of v source region) number)
  asks_same source ls number more_w more_v =
      ap (option_and_then (txn_of w)) at_w.1 ∙ of_w.found ∙ ap Some (one_txn at_w.0 of_w.submission.txn of_v.submission.txn of_w.found (subst (λ x. txn_of v x ≡ Some of_v.submission.txn) (sym one_id) of_v.found))
      ∙ sym (ap (option_and_then (txn_of v)) at_v.1 ∙ of_v.found)
    where
      at_w : (id : TxnId) × (slice_get (asked_of w source region) number ≡ Some id)
      at_w = at_place (asked_of w source region) number more_w

      at_v : (id : TxnId) × (slice_get (asked_of v source region) number ≡ Some id)
      at_v = at_place (asked_of v source region) number more_v

      one_id : at_w.0 ≡ at_v.0
      one_id = same_Some _ _ (
          sym (get_front (asked_of w source region) (asked_of z source region) number at_w.0 (asked_front w z gw gz source region ls lr (bw source)) at_w.1)
          ∙ get_front (asked_of v source region) (asked_of z source region) number at_v.0 (asked_front v z gv gz source region ls lr (bv source)) at_v.1)

      of_w : IsRequest w region source at_w.0
      of_w = request_is gw.inv region source lr ls at_w.0 (has_place (asked_of w source region) number at_w.0 at_w.1)

      of_v : IsRequest v region source at_v.0
      of_v = request_is gv.inv region source lr ls at_v.0 (has_place (asked_of v source region) number at_v.0 at_v.1)

  append_local : (source number : ℕ) → source < cluster.regions → number < length (asked_of w source region) → number < length (asked_of v source region)
      → own workload (next cluster workload w (Append region source number)) region ≡ own workload (next cluster workload v (Append region source number)) region
  append_local source number ls more_w more_v =
      own_appended cluster workload w region (node_there gw region lr) source (eqb number (taken_of w region source)) (option_and_then (txn_of w) (slice_get (asked_of w source region) number))
      ∙ (λ k. append_own region source (same k) (eqb number (taken k)) (asks_same source ls number more_w more_v k))
      ∙ sym (own_appended cluster workload v region (node_there gv region lr) source (eqb number (taken_of v region source)) (option_and_then (txn_of v) (slice_get (asked_of v source region) number)))
    where
      taken : taken_of w region source ≡ taken_of v region source
      taken = ap (λ n. slice_index n.here.taken source) nodes

  deliver_local : (home first last : ℕ) → own workload (next cluster workload w (Deliver region home first last)) region ≡ own workload (next cluster workload v (Deliver region home first last)) region
  deliver_local home first last =
      own_delivered cluster workload w region (node_there gw region lr) home last (leb first (received_of w region home) && ltb (received_of w region home) last)
      ∙ ap (λ o. deliver_own home last o (leb first (received_own region o home) && ltb (received_own region o home) last)) same
      ∙ sym (own_delivered cluster workload v region (node_there gv region lr) home last (leb first (received_of v region home) && ltb (received_of v region home) last))

  -- steps that the region makes by itself

  may_same : (event : Event) → MayStep (received_logs w region) (node_at w region).here event → MayStep (received_logs v region) (node_at v region).here event
  may_same event = subst₂ (λ l n. MayStep l n.here event) (logs_same w v z gw gv gz bw bv region lr nodes) nodes

  insert_local : (home : ℕ) → own workload (next cluster workload w (Insert region home)) region ≡ own workload (next cluster workload v (Insert region home)) region
  insert_local home =
      own_moved cluster workload w region (node_there gw region lr) (stepped cluster.procs (txn_of w) (node_at w region).here (Insert region home))
      ∙ ap (λ o. move_own o (stepped cluster.procs (txn_of w) o.node.here (Insert region home))) same
      ∙ sym (own_moved cluster workload v region (node_there gv region lr) (stepped cluster.procs (txn_of v) (node_at v region).here (Insert region home)))

  resolve_local : (ids : List TxnId) → own workload (next cluster workload w (Resolve region ids)) region ≡ own workload (next cluster workload v (Resolve region ids)) region
  resolve_local ids =
      own_moved cluster workload w region (node_there gw region lr) (stepped cluster.procs (txn_of w) (node_at w region).here (Resolve region ids))
      ∙ ap (λ o. move_own o (stepped cluster.procs (txn_of w) o.node.here (Resolve region ids))) same
      ∙ sym (own_moved cluster workload v region (node_there gv region lr) (stepped cluster.procs (txn_of v) (node_at v region).here (Resolve region ids)))

  execute_local : (id : TxnId) → MayStep (received_logs w region) (node_at w region).here (Execute region id)
      → own workload (next cluster workload w (Execute region id)) region ≡ own workload (next cluster workload v (Execute region id)) region
  execute_local id may =
      own_moved cluster workload w region (node_there gw region lr) (executed cluster.procs (node_at w region).here (txn_of w id))
      ∙ ap₂ (λ o t. move_own o (executed cluster.procs o.node.here t)) same txn_same
      ∙ sym (own_moved cluster workload v region (node_there gv region lr) (executed cluster.procs (node_at v region).here (txn_of v id)))
    where
      in_w : WasSubmitted w id
      in_w = executable_known gw.inv region id lr may

      in_v : WasSubmitted v id
      in_v = executable_known gv.inv region id lr (may_same (Execute region id) may)

      txn_same : txn_of w id ≡ txn_of v id
      txn_same = in_w.1 ∙ ap Some (one_txn id in_w.0 in_v.0 in_w.1 in_v.1) ∙ sym in_v.1

-- an event that takes something from another region

pub takes_requests : (home source number : ℕ) → home ≢ source → source_of (Append home source number) ≡ Some source
takes_requests home source number n = ap (λ b. cond b None (Some source)) (false_from_ne_true (eqb home source) (λ t. n (eqb-true home source t)))

pub takes_entries : (region home first last : ℕ) → region ≢ home → source_of (Deliver region home first last) ≡ Some home
takes_entries region home first last n = ap (λ b. cond b None (Some home)) (false_from_ne_true (eqb region home) (λ t. n (eqb-true region home t)))

from_is : (b : Bool) (source q : ℕ) → ◌≡◌ {A = Option ℕ} (cond b None (Some source)) (Some q) → source ≡ q
from_is true source q e = cc
from_is false source q e = same_Some _ _ e

-- the law of locality
pub locality : {cluster : Cluster} {workload : Workload} (w v z : World) (event : Event) → HasInvariant cluster workload w → HasInvariant cluster workload v → HasInvariant cluster workload z → HaveGrown w z → HaveGrown v z
    → own workload w (region_of event) ≡ own workload v (region_of event) → IsLegal cluster workload w event → ((q : ℕ) → source_of event ≡ Some q → IsSupplied v event)
    → IsLegal cluster workload v event × (own workload (next cluster workload w event) (region_of event) ≡ own workload (next cluster workload v event) (region_of event))
locality w v z (Submit region name) gw gv gz bw bv same l supplied =
    let r : _ = submit_local w v z gw gv gz bw bv region l.regions same name l.allowed in (record { regions = l.regions; allowed = r.0 }, r.1)
locality w v z (Append home source number) gw gv gz bw bv same l supplied =
    (record { regions = l.regions; allowed = more }, append_local w v z gw gv gz bw bv home l.regions.0 same source number l.regions.1 l.allowed more)
  where
    more : number < length (asked_of v source home)
    more = elim (either_nat home source) [
      | inl e ↦ subst (λ x. number < length (asked_of w x home) → number < length (asked_of v x home)) e (subst (λ o. number < length (get_or o.node.here.asked home [])) same) l.allowed
      | inr n ↦ supplied source (takes_requests home source number n)
    ]
locality w v z (Deliver region home first last) gw gv gz bw bv same l supplied =
    (record { regions = l.regions; allowed = (l.allowed.0, reaches) }, deliver_local w v z gw gv gz bw bv region l.regions.0 same home first last)
  where
    reaches : last ≤ length (log_of v home)
    reaches = elim (either_nat region home) [
      | inl e ↦ subst (λ x. last ≤ length (log_of w x) → last ≤ length (log_of v x)) e (subst (λ o. last ≤ length o.node.log) same) l.allowed.1
      | inr n ↦ supplied home (takes_entries region home first last n)
    ]
locality w v z (Insert region home) gw gv gz bw bv same l supplied =
    (record { regions = l.regions; allowed = may_same w v z gw gv gz bw bv region l.regions.0 same (Insert region home) l.allowed }, insert_local w v z gw gv gz bw bv region l.regions.0 same home)
locality w v z (Resolve region ids) gw gv gz bw bv same l supplied =
    (record { regions = l.regions; allowed = may_same w v z gw gv gz bw bv region l.regions same (Resolve region ids) l.allowed }, resolve_local w v z gw gv gz bw bv region l.regions same ids)
locality w v z (Execute region id) gw gv gz bw bv same l supplied =
    (record { regions = l.regions; allowed = may_same w v z gw gv gz bw bv region l.regions same (Execute region id) l.allowed }, execute_local w v z gw gv gz bw bv region l.regions same id l.allowed)
locality w v z (Answer region name) gw gv gz bw bv same l supplied =
    let r : _ = answer_local w v z gw gv gz bw bv region l.regions same name l.allowed in (record { regions = l.regions; allowed = r.0 }, r.1)

-- a legal event finds what it takes, and it stays there

pub is_supplied : {cluster : Cluster} {workload : Workload} (w : World) (event : Event) → IsLegal cluster workload w event → IsSupplied w event
is_supplied w (Submit region name) l = tt
is_supplied w (Append home source number) l = l.allowed
is_supplied w (Deliver region home first last) l = l.allowed.1
is_supplied w (Insert region home) l = tt
is_supplied w (Resolve region ids) l = tt
is_supplied w (Execute region id) l = tt
is_supplied w (Answer region name) l = tt

pub supply_lasts : {cluster : Cluster} {workload : Workload} (u w v : World) (event : Event) (q : ℕ) → IsLegal cluster workload u event → HasInvariant cluster workload w → HasInvariant cluster workload v
    → source_of event ≡ Some q → HasGrown (node_at w q) (node_at v q) → IsSupplied w event → IsSupplied v event
supply_lasts u w v (Submit region name) q l gw gv from grown s = tt
supply_lasts u w v (Append home source number) q l gw gv from grown s =
    let is : source ≡ q = from_is (eqb home source) source q from in
    longer_than (asked_of w source home) (asked_of v source home) number
    (asked_front w v gw gv source home l.regions.1 l.regions.0 (subst (λ x. HasGrown (node_at w x) (node_at v x)) (sym is) grown)) s
supply_lasts u w v (Deliver region home first last) q l gw gv from grown s =
    let is : home ≡ q = from_is (eqb region home) home q from in
    no_shorter (log_of w home) (log_of v home) last (subst (λ x. HasGrown (node_at w x) (node_at v x)) (sym is) grown).log s
supply_lasts u w v (Insert region home) q l gw gv from grown s = tt
supply_lasts u w v (Resolve region ids) q l gw gv from grown s = tt
supply_lasts u w v (Execute region id) q l gw gv from grown s = tt
supply_lasts u w v (Answer region name) q l gw gv from grown s = tt
