-- What each call on the node's region and sessions makes of the node: `MovesOn`, from what the call says by itself.
use Rattle.std.proofs.Common.{◌≡◌, ◌≤◌, ◌+◌, ℕ, zero, suc, true, List, [], ◌∷◌, ◌++◌, length}
use Rattle.std.proofs.Common.{map, get_or, set, Ok, None, Some, refl, sym, ap, subst, ◌∙◌, arith}
use Rattle.std.specs.Prelude.{Option, slice_index}
use Rattle.std.proofs.lemmas.List.{length-append}
use Rattle.dt_lists.specs.Lists.{AllIn}
use Rattle.dt_access.specs.Clash.{Bytes}
use Rattle.dt_access.specs.declared.TxnId.{TxnId}
use Rattle.dt_log.specs.declared.Taken.TheVariants.{New}
use Rattle.dt_events.specs.declared.Event.{Event}
use Rattle.dt_events.specs.declared.Event.TheVariants.{Submit, Append, Deliver, Insert, Resolve, Execute, Answer}
use Rattle.dt_events.specs.Events.{region_of}
use Rattle.dt_events.specs.Stamps.{stamped_from}
use Rattle.dt_sched.specs.Views.{View, log_at}
use Rattle.dt_proc.specs.Tree.{ProcTree}
use Rattle.dt_txn.specs.declared.Body.{Body}
use Rattle.dt_txn.specs.declared.Entry.{Entry}
use Rattle.dt_txn.specs.declared.Txn.{Txn}
use Rattle.dt_txn.specs.Replica.{IsContinuation, MayStep, Replica, executed, stepped, taken_from}
use Rattle.dt_region.specs.Rounds.{Continues, after_steps}
use Rattle.dt_region.specs.Region.{RegionState, RegionView, held, latest_stamp}
use Rattle.dt_region.specs.Rules.{MakesAppend, MakesDelivery, past_end, with_event}
use Rattle.dt_region.specs.Sound.{IsSoundRegion}
use Rattle.dt_packet.specs.declared.packet.Packet.{Packet}
use Rattle.dt_cluster.specs.declared.Cluster.{Cluster}
use Rattle.dt_workload.specs.declared.Workload.{Workload}
use Rattle.dt_session.specs.Sessions.{after_answer, after_wait}
use Rattle.dt_site.specs.declared.Origin.{Origin}
use Rattle.dt_site.specs.Site.{SiteView, MakesAttempt, in_region}
use Rattle.dt_node.specs.NodeView.{NodeView, number_of}
use Rattle.dt_node.specs.NodeInWorld.{AreTold, NodeFits}
use Rattle.dt_node.specs.Turn.{GoesAfter, IsBroughtBy, MayAnswerAt, MovesOn}
use Rattle.dt_node.specs.Steps.{IsNextAt}
use Rattle.dt_node.proofs.Rule7Answer.{answer_goes}
use Rattle.dt_node.proofs.CallAfterCall.{StaysBeside, made_some}
use Rattle.dt_node.proofs.RoundInWorld.{round_goes}
use Rattle.dt_node.proofs.Rule1Submit.{submit_goes}

-- a node whose region is this one, and whose session was answered
abbrev with_answer : NodeView → Bytes → RegionView → NodeView
with_answer a name r = record a { site = in_region a.site r; sessions = after_answer a.sessions name }

-- a node whose site is this one, and whose session waits for an attempt
abbrev with_try : NodeView → Bytes → TxnId → SiteView → NodeView
with_try a name id q = record a { site = q; sessions = after_wait a.sessions name id }

-- a session was answered
pub answer_moves : {procs : List ProcTree} {a : NodeView} (name : Bytes) (r : RegionView) → r ≡ with_event a.site.region a.site.region.state (Answer (number_of a) name) → MayAnswerAt a name
    → MovesOn procs [] a (with_answer a name r)
answer_moves {procs} {a} name r is may = made_some {procs = procs} {packets = []} {a = a} {b = with_answer a name r} (Answer (number_of a) name ∷ [])
    (ap (λ (x : RegionView). x.events) is)
    (ap (λ (x : RegionView). x.heard) is)
    (refl, tt) (λ cluster workload events p f _. answer_goes f name r is may)
    (record {
      number = ap (λ (x : RegionView). x.state.number) is;
      regions = ap (λ (x : RegionView). x.state.regions) is;
      plan = refl;
      taken = λ source. let same : taken_from r.state.here source ≡ taken_from a.site.region.state.here source = ap (λ (x : RegionView). taken_from x.state.here source) is in omega (arith, same);
      logs = λ home. let same : length (log_at r.state.logs home) ≡ length (log_at a.site.region.state.logs home) = ap (λ (x : RegionView). length (log_at x.state.logs home)) is in omega (arith, same);
    }) (tt, tt)

-- a session submitted its next attempt
pub submit_moves : {procs : List ProcTree} {a : NodeView} (name : Bytes) {origin : Origin} {rank : ℕ} {body : Body} → IsNextAt a name origin rank body → (id : TxnId) (q : SiteView)
    → MakesAttempt procs a.site rank body origin (Ok id) q → IsSoundRegion q.region.state → MovesOn procs [] a (with_try a name id q)
submit_moves {procs} {a} name {origin} {rank} {body} t id q made sound = made_some {procs = procs} {packets = []} {a = a} {b = with_try a name id q} (Submit (number_of a) name ∷ [])
    (ap (λ (x : SiteView). x.region.events) made.1 ∙ ap (λ n. a.site.region.events ++ stamped_from (latest_stamp a.site.region + 1) (Submit (number_of a) n ∷ [])) t.session)
    (ap (λ (x : SiteView). x.region.heard) made.1)
    (refl, tt) (λ cluster workload events p f _. submit_goes f name t id q (subst (λ l. MakesAttempt l a.site rank body origin (Ok id) q) p made) sound)
    (record {
      number = ap (λ (x : SiteView). x.region.state.number) made.1;
      regions = ap (λ (x : SiteView). x.region.state.regions) made.1;
      plan = refl;
      taken = λ source. let same : taken_from q.region.state.here source ≡ taken_from a.site.region.state.here source = ap (λ (x : SiteView). taken_from x.region.state.here source) made.1 in omega (arith, same);
      logs = λ home. let same : length (log_at q.region.state.logs home) ≡ length (log_at a.site.region.state.logs home) = ap (λ (x : SiteView). length (log_at x.region.state.logs home)) made.1 in omega (arith, same);
    }) (tt, tt)

-- setting one count above what it was lowers none
raised : (counts : List ℕ) (place other : ℕ) → slice_index counts other ≤ slice_index (set counts place (slice_index counts place + 1)) other
raised [] place other = omega arith
raised (n ∷ counts) zero zero = omega arith
raised (n ∷ counts) zero (suc other) = omega arith
raised (n ∷ counts) (suc place) zero = omega arith
raised (n ∷ counts) (suc place) (suc other) = raised counts place other

-- making one list longer shortens none
lengthened : {A : Type 0} (lists : List (List A)) (place other : ℕ) (more : List A) → length (get_or lists other []) ≤ length (get_or (set lists place (get_or lists place [] ++ more)) other [])
lengthened [] place other more = omega arith
lengthened (l ∷ lists) zero zero more = omega (arith, length-append l more)
lengthened (l ∷ lists) zero (suc other) more = omega arith
lengthened (l ∷ lists) (suc place) zero more = omega arith
lengthened (l ∷ lists) (suc place) (suc other) more = lengthened lists place other more

-- a request was placed
module _ {a : NodeView} (source number : ℕ) (txn : Txn) (r : RegionView) (made : MakesAppend a.site.region source number txn (Ok true) r) where
  pub place_beside : StaysBeside a (record a { site = in_region a.site r })
  place_beside = record {
    number = ap (λ (x : RegionView). x.state.number) made.1;
    regions = ap (λ (x : RegionView). x.state.regions) made.1;
    plan = refl;
    taken = λ other. subst (λ (x : RegionView). taken_from a.site.region.state.here other ≤ taken_from x.state.here other) (sym made.1) (raised a.site.region.state.here.taken source other);
    logs = λ home. subst (λ (x : RegionView). length (log_at a.site.region.state.logs home) ≤ length (log_at x.state.logs home)) (sym made.1)
        (lengthened a.site.region.state.logs _ home _);
  }

  pub place_moves : {procs : List ProcTree} (packets : List Packet) → ((cluster : Cluster) (workload : Workload) (events : List Event) → procs ≡ cluster.procs → NodeFits cluster workload events a
      → AreTold cluster workload events packets a → GoesAfter cluster workload events (Append (number_of a) source number ∷ []) (record a { site = in_region a.site r }))
      → IsBroughtBy packets (latest_stamp a.site.region + 1) (Append (number_of a) source number) → MovesOn procs packets a (record a { site = in_region a.site r })
  place_moves {procs} packets goes brought = made_some {procs = procs} {packets = packets} {a = a} {b = record a { site = in_region a.site r }} (Append (number_of a) source number ∷ []) (ap (λ (x : RegionView). x.events) made.1)
      (ap (λ (x : RegionView). x.heard) made.1)
      (refl, tt) goes place_beside (brought, tt)

-- the event of entries that follow what was received
abbrev delivery : NodeView → ℕ → ℕ → List Entry → Event
delivery a home first entries = Deliver (number_of a) home first (first + length entries)

-- entries were received
module _ {a : NodeView} (home first : ℕ) (entries : List Entry) (n : ℕ) (r : RegionView) (made : MakesDelivery a.site.region home first first entries (Ok (New n)) r) where
  pub receive_beside : StaysBeside a (record a { site = in_region a.site r })
  receive_beside = record {
    number = ap (λ (x : RegionView). x.state.number) made.3;
    regions = ap (λ (x : RegionView). x.state.regions) made.3;
    plan = refl;
    taken = λ other. let same : taken_from r.state.here other ≡ taken_from a.site.region.state.here other = ap (λ (x : RegionView). taken_from x.state.here other) made.3 in omega (arith, same);
    logs = λ other. subst (λ (x : RegionView). length (log_at a.site.region.state.logs other) ≤ length (log_at x.state.logs other)) (sym made.3)
        (lengthened a.site.region.state.logs home other (map (λ e. e.part) (past_end (log_at a.site.region.state.logs home) first entries)));
  }

  pub receive_moves : {procs : List ProcTree} (packets : List Packet) → ((cluster : Cluster) (workload : Workload) (events : List Event) → procs ≡ cluster.procs → NodeFits cluster workload events a
      → AreTold cluster workload events packets a → GoesAfter cluster workload events (delivery a home first entries ∷ []) (record a { site = in_region a.site r }))
      → IsBroughtBy packets (latest_stamp a.site.region + 1) (delivery a home first entries) → MovesOn procs packets a (record a { site = in_region a.site r })
  receive_moves {procs} packets goes brought = made_some {procs = procs} {packets = packets} {a = a} {b = record a { site = in_region a.site r }}
      (delivery a home first entries ∷ []) (ap (λ (x : RegionView). x.events) made.3)
      (ap (λ (x : RegionView). x.heard) made.3)
      (refl, tt) goes receive_beside (brought, tt)

-- a round was made

module _ (procs : List ProcTree) (found : TxnId → Option Txn) (me : ℕ) (logs : View) where
  round_mine : (events : List Event) (here : Replica) → IsContinuation procs found me logs here events → AllIn (λ e. region_of e ≡ me) events
  round_mine [] here c = tt
  round_mine (event ∷ events) here c = (c.0, round_mine events (stepped procs found here event) c.2)

  -- none of its events takes anything from another region
  round_takes_nothing : (stamp : ℕ) (events : List Event) (here : Replica) → IsContinuation procs found me logs here events → AllIn (λ x. IsBroughtBy [] x.stamp x.event) (stamped_from stamp events)
  round_takes_nothing stamp [] here c = tt
  round_takes_nothing stamp (event ∷ events) here c = (one stamp event c.1, round_takes_nothing (stamp + 1) events (stepped procs found here event) c.2)
    where
      one : (s : ℕ) (e : Event) → MayStep logs here e → IsBroughtBy [] s e
      one s (Insert region home) m = tt
      one s (Resolve region ids) m = tt
      one s (Execute region id) m = tt
      one s (Submit region name) m = tt
      one s (Answer region name) m = tt
      one s (Append home source number) m = absurd m
      one s (Deliver region home first last) m = absurd m

-- what steps of a region's own do to its replica leaves what it took
taken_in_steps : (procs : List ProcTree) (found : TxnId → Option Txn) (here : Replica) (events : List Event) → (after_steps procs found here events).taken ≡ here.taken
taken_in_steps procs found here [] = refl
taken_in_steps procs found here (event ∷ events) = taken_in_steps procs found (stepped procs found here event) events ∙ one event
  where
    ran : (t : Option Txn) → (executed procs here t).taken ≡ here.taken
    ran None = refl
    ran (Some txn) = refl

    one : (e : Event) → (stepped procs found here e).taken ≡ here.taken
    one (Insert region home) = refl
    one (Resolve region ids) = refl
    one (Execute region id) = ran (found id)
    one (Submit region name) = refl
    one (Answer region name) = refl
    one (Append home source number) = refl
    one (Deliver region home first last) = refl

pub round_moves : {procs : List ProcTree} {a : NodeView} (r : RegionView) → Continues procs a.site.region r → IsSoundRegion r.state → MovesOn procs [] a (record a { site = in_region a.site r })
round_moves {procs} {a} r c sound = made_some {procs = procs} {packets = []} {a = a} {b = record a { site = in_region a.site r }} c.events c.kept
    c.heard
    (round_mine procs (held a.site.region.state) (number_of a) a.site.region.state.logs c.events a.site.region.state.here c.legal)
    (λ cluster workload before p f _. round_goes f c.events r
    (subst (λ l. IsContinuation l (held a.site.region.state) (number_of a) a.site.region.state.logs a.site.region.state.here c.events) p c.legal)
    (subst (λ l. r.state ≡ record a.site.region.state { here = after_steps l (held a.site.region.state) a.site.region.state.here c.events }) p c.state) sound)
    (record {
      number = ap (λ (s : RegionState). s.number) c.state;
      regions = ap (λ (s : RegionState). s.regions) c.state;
      plan = refl;
      taken = λ source.
          let same : taken_from r.state.here source ≡ taken_from a.site.region.state.here source =
          ap (λ (s : RegionState). taken_from s.here source) c.state
          ∙ ap (λ l. slice_index l source) (taken_in_steps procs (held a.site.region.state) a.site.region.state.here c.events) in omega (arith, same);
      logs = λ home. let same : length (log_at r.state.logs home) ≡ length (log_at a.site.region.state.logs home) = ap (λ (s : RegionState). length (log_at s.logs home)) c.state in omega (arith, same);
    })
    (round_takes_nothing procs (held a.site.region.state) (number_of a) a.site.region.state.logs (latest_stamp a.site.region + 1) c.events a.site.region.state.here c.legal)
