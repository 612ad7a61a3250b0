-- What a call on the region or the sessions inside a node makes of the node: the call says it of the part, and this is what it
-- is of the whole.
use Rattle.std.proofs.Common.{◌≡◌, ◌<◌, ◌≤◌, ◌+◌, ℕ, Bool, true, false, List, [], ◌∷◌, length, max, get_or, slice_get, Ok, Some, refl, sym, ap, subst, ◌∙◌}
use Rattle.std.specs.Prelude.{Option, IsSome, option_and_then}
use Rattle.std.proofs.lemmas.Option.{slice_get-get_or}
use Rattle.dt_access.specs.Clash.{Bytes}
use Rattle.dt_access.specs.declared.TxnId.{TxnId}
use Rattle.dt_events.specs.declared.Event.TheVariants.{Answer}
use Rattle.dt_events.specs.Stamps.{events_of}
use Rattle.dt_sched.specs.Views.{log_at}
use Rattle.dt_proc.specs.Tree.{ProcTree}
use Rattle.dt_txn.specs.declared.Body.{Body}
use Rattle.dt_txn.specs.declared.Outcome.{Outcome}
use Rattle.dt_txn.specs.declared.Txn.{Txn}
use Rattle.dt_txn.specs.Replica.{taken_from}
use Rattle.dt_region.specs.Conditions.{CanAppend}
use Rattle.dt_region.specs.Region.{RegionView, held, outcome_of}
use Rattle.dt_region.specs.Rules.{MakesAppend, with_event}
use Rattle.dt_region.specs.Sound.{IsSoundRegion}
use Rattle.dt_packet.specs.declared.packet.Packet.{Packet}
use Rattle.dt_session.specs.Sessions.{MayBeAnswered, MayGo, SessionsView, StandsAt, after_answer, after_wait, answered_seat, waiting, waits_of}
use Rattle.dt_site.specs.declared.Origin.{Origin}
use Rattle.dt_site.specs.NextAttempt.{HasNextCall, IsNextHere}
use Rattle.dt_site.specs.Site.{SiteView, MakesAttempt, in_region}
use Rattle.dt_site.proofs.Callers.{name_at}
use Rattle.dt_node.specs.MeasureInner.{left_for}
use Rattle.dt_node.specs.NodeView.{NodeView, heard_by, number_of}
use Rattle.dt_node.specs.Turn.{HasPlacedOwn, HasTaken, MayAnswerAt, MovesOn, last_at}
use Rattle.dt_node.specs.Steps.{HasTakenOne, IsNextAt}
use Rattle.dt_node.specs.StepsInner.{HasPlaced, HasReceived, IsAnswering, IsPlacedTo}
use Rattle.dt_node.specs.TurnInner.{CanGo, CanTake, HasGoneOn, KnowsTheSame, asking_packet, logging_packet, noted}
use Rattle.dt_node.specs.EagerStartInner.{IsPlacingOwn}
use Rattle.dt_node.proofs.CallAfterCall.{new_are}
use Rattle.dt_node.proofs.SubmissionEvents.{placing_none, placing_one}
use Rattle.dt_node.proofs.OwnRequests.{may_place_own, own_ends, own_held, own_placed}
use Rattle.dt_node.proofs.SessionCalls.{answered_moves, answered_on, may_still, may_wait, seats_as_many, submitted_less, submitted_moves}
use Rattle.dt_node.proofs.Rule1Submit.{call_is_there}
use Rattle.dt_node.proofs.WholePacket.{all_moved, all_steps, all_taken, asked_so_far, logged_so_far, may_ask, may_log}

-- the value that an equation begins with
abbrev pub opened : {A : Type 0} {x y : A} → x ≡ y → A
opened {A} {x} {y} e = x

-- the region is as it was
pub same_own : (a : NodeView) (r : RegionView) → r ≡ a.site.region → IsPlacingOwn a (record a { site = in_region a.site r })
same_own a r is = subst (λ (x : RegionView). IsPlacingOwn a (record a { site = in_region a.site x })) (sym is) (placing_none a)

-- a session was answered, as it might be
pub record WasAnswered (a : NodeView) (name : Bytes) (r : RegionView) (s : SessionsView) : Type 0 where
  pub may : MayAnswerAt a name
  pub is : r ≡ with_event a.site.region a.site.region.state (Answer (number_of a) name)
  pub then_is : s ≡ after_answer a.sessions name

pub was_answered : (a : NodeView) (name : Bytes) {last : Option Outcome} → last ≡ last_at a name → MayBeAnswered a.sessions name last
    → (r : RegionView) → r ≡ with_event a.site.region a.site.region.state (Answer (number_of a) name) → {again : Option Outcome} → again ≡ option_and_then (outcome_of r.state) (waits_of a.sessions name)
    → (s : SessionsView) → (MayBeAnswered a.sessions name again → s ≡ after_answer a.sessions name) → WasAnswered a name r s
was_answered a name told can r is {again} told_again s answered =
    let might : MayAnswerAt a name = subst (MayBeAnswered a.sessions name) told can in
    record { may = might; is = is; then_is = answered (may_still a name might r is again told_again) }

module _ {a : NodeView} {name : Bytes} {r : RegionView} {s : SessionsView} (answered : WasAnswered a name r s) where
  pub call_moves : (procs : List ProcTree) → MovesOn procs [] a (record a { site = in_region a.site r; sessions = s })
  call_moves procs = answered_moves a name answered.may r answered.is s answered.then_is procs

  pub call_seats : length s.seats ≡ length a.sessions.seats
  call_seats = seats_as_many answered_seat name a.sessions s answered.then_is

  pub call_on : HasGoneOn a (record a { site = in_region a.site r; sessions = s })
  call_on = answered_on a name answered.may r answered.is s answered.then_is

  pub call_step : IsAnswering a name (record a { site = in_region a.site r; sessions = s })
  call_step = record {
    may = answered.may;
    step = λ procs. record { gone = (call_moves procs).gone; made = ap events_of (new_are a (record a { site = in_region a.site r; sessions = s }) (ap (λ (x : RegionView). x.events) answered.is)) };
    sessions = answered.then_is;
    done = ap (λ (x : RegionView). x.state.here.done) answered.is;
  }

-- the next of the requests that the region asked of itself
module _ {a : NodeView} (c : CanTake [] a) {me number : ℕ} {asked : List TxnId} (mine : me ≡ number_of a) (next : number ≡ taken_from a.site.region.state.here me)
    (are : asked ≡ get_or a.site.region.state.here.asked me []) where
  next_here : number ≡ taken_from a.site.region.state.here (number_of a)
  next_here = subst (λ m. number ≡ taken_from a.site.region.state.here m) mine next

  asked_here : asked ≡ get_or a.site.region.state.here.asked (number_of a) []
  asked_here = subst (λ m. asked ≡ get_or a.site.region.state.here.asked m []) mine are

  pub all_placed : length asked ≤ number → HasPlacedOwn a
  all_placed le = own_placed c number next_here (subst (λ (l : List TxnId). length l ≤ number) asked_here le)

  module _ (lt : number < length asked) where
    abbrev id : TxnId
    id = get_or asked number (record { seq = 0; region = 0 })

    wanted : slice_get (get_or a.site.region.state.here.asked (number_of a) []) number ≡ Some id
    wanted = subst (λ (l : List TxnId). slice_get l number ≡ Some id) asked_here (slice_get-get_or asked number (record { seq = 0; region = 0 }) lt)

    pub is_there : (txn : Txn) × (held a.site.region.state id ≡ Some txn)
    is_there = own_held c.can.fits number id wanted

    module _ {found txn : Txn} (got : Some found ≡ held a.site.region.state id) (same : txn ≡ found) where
      is_held : held a.site.region.state id ≡ Some txn
      is_held = sym got ∙ ap Some (sym same)

      pub may_place_it : CanAppend a.site.region.state me number txn
      may_place_it = subst (λ m. CanAppend a.site.region.state m number txn) (sym mine) (may_place_own c number id wanted txn is_held)

      module _ (r : RegionView) (on : Bool) (made : MakesAppend a.site.region me number txn (Ok on) r) (sound : IsSoundRegion r.state) where
        made_here : MakesAppend a.site.region (number_of a) number txn (Ok on) r
        made_here = subst (λ m. MakesAppend a.site.region m number txn (Ok on) r) mine made

        pub it_moves : (procs : List ProcTree) → MovesOn procs [] a (record a { site = in_region a.site r })
        it_moves procs = own_ends c number id wanted txn is_held (Ok on) r made_here sound

        pub it_own : IsPlacingOwn a (record a { site = in_region a.site r })
        it_own = go on made_here
          where
            go : (b : Bool) → MakesAppend a.site.region (number_of a) number txn (Ok b) r → IsPlacingOwn a (record a { site = in_region a.site r })
            go true m = placing_one number txn r m it_moves (subst (λ n. number_of a < n) (sym c.can.fits.site.sound.taken) c.can.fits.site.sound.number)
            go false m = same_own a r m.1

-- a packet: its stamp was heard
module _ (p : Packet) {a : NodeView} (c : CanTake (p ∷ []) a) (r : RegionView) (heard : r ≡ record a.site.region { heard = max a.site.region.heard p.stamp }) where
  abbrev h : NodeView
  h = record a { site = in_region a.site r }

  hears : h ≡ heard_by a p.stamp
  hears = ap (λ (x : RegionView). record a { site = in_region a.site x }) heard

  pub then_ask : CanTake (asking_packet h p.source p.asked_at p.asked ∷ []) h
  then_ask = subst (λ n. CanTake (asking_packet n p.source p.asked_at p.asked ∷ []) n) (sym hears) (may_ask p a c)

  -- its requests were placed
  module _ (b : NodeView) (asked : (procs : List ProcTree) → MovesOn procs (asking_packet h p.source p.asked_at p.asked ∷ []) h b) where
    asks : (procs : List ProcTree) → MovesOn procs (asking_packet (heard_by a p.stamp) p.source p.asked_at p.asked ∷ []) (heard_by a p.stamp) b
    asks procs = subst (λ n. MovesOn procs (asking_packet n p.source p.asked_at p.asked ∷ []) n b) hears (asked procs)

    pub placed_so_far : (procs : List ProcTree) → MovesOn procs (p ∷ []) a b
    placed_so_far = asked_so_far p a c b asks

    pub then_log : CanTake (logging_packet b p.source p.log_at p.entries ∷ []) b
    then_log = may_log p a c b asks

    -- and its entries received
    module _ (d : NodeView) (logged : (procs : List ProcTree) → MovesOn procs (logging_packet b p.source p.log_at p.entries ∷ []) b d) where
      pub received_so_far : (procs : List ProcTree) → MovesOn procs (p ∷ []) a d
      received_so_far = logged_so_far p a c b asks d logged

      -- and what it reports was noted
      module _ (e : NodeView) (notes : e ≡ noted d p.source p.took p.received) where
        pub whole_moved : (procs : List ProcTree) → MovesOn procs (p ∷ []) a e
        whole_moved procs = subst (MovesOn procs (p ∷ []) a) (sym notes) (all_moved p a c b asks d logged procs)

        pub whole_taken : KnowsTheSame h b → KnowsTheSame b d → p.asked_at + length p.asked ≤ taken_from b.site.region.state.here p.source
            → p.log_at + length p.entries ≤ length (log_at d.site.region.state.logs p.source) → HasTaken (p ∷ []) a e
        whole_taken k l asked_all logged_all = subst (HasTaken (p ∷ []) a) (sym notes) (all_taken p a c b asks d logged (subst (λ n. KnowsTheSame n b) hears k) l asked_all logged_all)

        pub whole_step : HasPlaced p.source h b → IsPlacedTo p.source (p.asked_at + length p.asked) h b → HasReceived p.source p.log_at (p.log_at + length p.entries) b d → e.sessions ≡ a.sessions
            → (procs : List ProcTree) → HasTakenOne procs p a e
        whole_step placed count entries sessions procs = subst (HasTakenOne procs p a) (sym notes)
            (all_steps p a c b asks d logged (subst (λ n. HasPlaced p.source n b) hears placed) (subst (λ n. IsPlacedTo p.source (p.asked_at + length p.asked) n b) hears count) entries
            (ap (λ (n : NodeView). n.sessions) (sym notes) ∙ sessions) procs)

-- the call that a session may submit next is there
pub next_call : {procs : List ProcTree} {a : NodeView} → CanGo procs [] a → (name : Bytes) → HasNextCall a.sessions a.site.region.state name
next_call c name call attempt is = call_is_there c.fits name is.0 call attempt is.1

-- where the session at a place submits something next, it stands there
pub next_is : (a : NodeView) (index : ℕ) {next : Option (Origin × ℕ × Body)} {origin : Origin} {rank : ℕ} {body : Body} → next ≡ Some (origin, rank, body) → (IsSome next → index < length a.sessions.seats)
    → ((name : Bytes) → StandsAt a.sessions index name → IsNextHere a.sessions a.site.region.state name next) → StandsAt a.sessions index origin.session × IsNextAt a origin.session origin rank body
next_is a index {next} {origin} {rank} {body} some there is =
    let seat = name_at a.sessions.seats index (there (subst IsSome (sym some) refl)) in
    let here = subst (IsNextHere a.sessions a.site.region.state seat.0) some (is seat.0 seat.1) in
    subst (λ n. StandsAt a.sessions index n × IsNextAt a n origin rank body) (sym here.0) (seat.1, record { may = here.1.0; session = here.0; numbers = here.1.1; wanted = here.2 })

-- a session may wait for the attempt that it submitted
pub waits_next : (procs : List ProcTree) {a : NodeView} {origin : Origin} {rank : ℕ} {body : Body} (t : IsNextAt a origin.session origin rank body) (id : TxnId) (q : SiteView)
    → MakesAttempt procs a.site rank body origin (Ok id) q → {old : SessionsView} → old ≡ a.sessions → {site : SiteView} → site ≡ q → (last : Option Outcome)
    → last ≡ option_and_then (outcome_of site.region.state) (waits_of old origin.session) → MayGo old origin.session last
waits_next procs {a} {origin} t id q made {old} kept {site} here last told =
    subst (λ s. MayGo s origin.session last) (sym kept)
    (may_wait origin.session t procs id q made last (told ∙ (λ i. option_and_then (outcome_of (here i).region.state) (waits_of (kept i) origin.session))))

-- a session submitted its next attempt
module _ (procs : List ProcTree) {a : NodeView} {origin : Origin} {rank : ℕ} {body : Body} (t : IsNextAt a origin.session origin rank body) (id : TxnId) (q : SiteView)
    (made : MakesAttempt procs a.site rank body origin (Ok id) q) {old : SessionsView} (kept : old ≡ a.sessions) (s : SessionsView) (waits : s ≡ after_wait old origin.session id) where
  waits_here : s ≡ after_wait a.sessions origin.session id
  waits_here = waits ∙ (λ i. after_wait (kept i) origin.session id)

  pub sub_seats : length s.seats ≡ length a.sessions.seats
  sub_seats = seats_as_many (λ seat. waiting seat id) origin.session a.sessions s waits_here

  pub sub_less : left_for s < left_for a.sessions
  sub_less = submitted_less origin.session t procs id q made s waits_here

  pub sub_moves : IsSoundRegion q.region.state → (n : NodeView) → n.sessions ≡ s → n.site ≡ q → n.took ≡ a.took → n.received ≡ a.received → n.plan ≡ a.plan → n.turns ≡ a.turns → MovesOn procs [] a n
  sub_moves sound n sessions site took received plan turns =
      let is : n ≡ record a { site = q; sessions = s } = λ i. record { site = site i; sessions = sessions i; took = took i; received = received i; plan = plan i; turns = turns i } in
      subst (MovesOn procs [] a) (sym is) (submitted_moves origin.session t procs id q made s waits_here sound)
