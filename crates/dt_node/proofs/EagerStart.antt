-- How a turn begins before anything happens anywhere: no session is answered, and one after another submits its first call; so
-- the events are the first ones of the region, session by session.
use Rattle.std.proofs.Common.{◌≡◌, ◌<◌, ◌≤◌, ◌+◌, ◌-◌, ℕ, zero, suc, Bool, true, false, cond, List, [], ◌∷◌, ◌++◌}
use Rattle.std.proofs.Common.{length, map, drop, get_or, slice_get, Some, None, refl, sym, ap, ap₂, subst, ◌∙◌, append-nil, append_assoc, arith}
use Rattle.std.specs.Prelude.{Option, option_and_then, option_map}
use Rattle.std.specs.Map.{lookup, set_value}
use Rattle.std.proofs.lemmas.List.{drop-map, get_or-replicate, map-append}
use Rattle.std.proofs.lemmas.Map.{keys-set_value}
use Rattle.std.proofs.lemmas.Option.{slice_get-map}
use Rattle.std.proofs.Math.ListN.{drop_of_length-le}
use Rattle.dt_lists.specs.Lists.{EachThen}
use Rattle.dt_lists.proofs.Callers.{each_image, each_of_image, get_of_replicate, has_place}
use Rattle.dt_access.specs.Clash.{Bytes}
use Rattle.dt_access.specs.Orders.{HasAscendingKeys, KeyBefore}
use Rattle.dt_events.specs.declared.Event.{Event}
use Rattle.dt_events.specs.declared.Event.TheVariants.{Append, Submit}
use Rattle.dt_events.specs.Stamps.{events_of}
use Rattle.dt_proc.specs.Tree.{ProcTree}
use Rattle.dt_table.specs.Table.{Table}
use Rattle.dt_txn.specs.declared.Body.{Body}
use Rattle.dt_txn.specs.Replica.{Replica, opening_replica, taken_from}
use Rattle.dt_packet.specs.declared.packet.Packet.{Packet}
use Rattle.dt_cluster.specs.declared.Cluster.{Cluster}
use Rattle.dt_workload.specs.declared.Ranked.{Ranked}
use Rattle.dt_workload.specs.declared.Session.{Session}
use Rattle.dt_workload.specs.declared.Workload.{Workload}
use Rattle.dt_session.specs.declared.sessions.Seat.{Seat}
use Rattle.dt_session.specs.Eager.{first_calls, first_events, is_home, sessions_at, with_first_call}
use Rattle.dt_session.specs.Sessions.{MaySeatEnd, MaySeatTry, all_idle, idle_seat, is_named, numbers_next, seat_of, waiting, wanted_of, with_changed}
use Rattle.dt_session.specs.Tries.{MayEnd, ranked_body}
use Rattle.dt_session.specs.World.{no_node, opening_node, opening_table}
use Rattle.dt_session.proofs.Callers.{seat_found}
use Rattle.dt_site.proofs.Callers.{opening_sessions_stand}
use Rattle.dt_node.specs.NodeView.{NodeView, new_items, number_of}
use Rattle.dt_node.specs.NodeInWorld.{NodeFits}
use Rattle.dt_node.specs.Turn.{BeginsEagerly, HasGone, HasPlacedOwn, MayAnswerAt, MaySubmitAt, last_at}
use Rattle.dt_node.specs.Steps.{AllWhoMight, is_own, own_to_place, placings}
use Rattle.dt_node.specs.StepsInner.{IsAnswering, IsSubmission, StepsAt}
use Rattle.dt_node.specs.TurnInner.{EndsAll, EndsOne, HasGoneOn}
use Rattle.dt_node.specs.EagerStartInner.{BeginsSoFar, HasBegun}
use Rattle.dt_node.proofs.SessionSteps.{someone}
use Rattle.dt_node.proofs.CallAfterCall.{gone_more, new_joined, new_none}
use Rattle.dt_node.proofs.SeatOrder.{opening_seats, set_behind}
use Rattle.dt_node.proofs.TurnStops.{begins_more}

-- what a list has from a place on

next_of : {A : Type 0} (n : ℕ) (xs : List A) (y : A) (ys : List A) → drop n xs ≡ y ∷ ys → (slice_get xs n ≡ Some y) × (drop (suc n) xs ≡ ys)
next_of zero [] y ys e = cc
next_of zero (x ∷ xs) y ys e =
    let head : x ≡ y = cc in let rest : xs ≡ ys = cc in (ap Some head, rest)
next_of (suc n) [] y ys e = cc
next_of (suc n) (x ∷ xs) y ys e = next_of n xs y ys e

none_at : {A : Type 0} (n : ℕ) (xs : List A) → drop n xs ≡ [] → (slice_get xs n ≡ None) × (drop (suc n) xs ≡ [])
none_at zero [] e = (refl, refl)
none_at zero (x ∷ xs) e = cc
none_at (suc n) [] e = (refl, refl)
none_at (suc n) (x ∷ xs) e = none_at n xs e

drop_more : {A : Type 0} (n : ℕ) (xs : List A) → drop (n + 1) xs ≡ drop (suc n) xs
drop_more n xs = ap (λ m. drop m xs) (let e : n + 1 ≡ suc n = omega arith in e)

-- before anything happens

module _ {cluster : Cluster} {workload : Workload} {a : NodeView} (f : NodeFits cluster workload [] a) where
  here_is : a.site.region.state.here ≡ opening_replica cluster.regions (opening_table cluster)
  here_is =
      ap (λ x. x.here) f.site.node
      ∙ ap (λ x. x.here) (get_or-replicate cluster.regions (number_of a) (opening_node cluster.regions (opening_table cluster)) no_node f.number)

  taken_none : taken_from a.site.region.state.here (number_of a) ≡ 0
  taken_none = ap (λ (h : Replica). taken_from h (number_of a)) here_is ∙ get_of_replicate {A = ℕ} cluster.regions (number_of a) 0

  pub placed_none : HasPlacedOwn a
  placed_none = ap length (ap (λ (h : Replica). get_or h.asked (number_of a) []) here_is ∙ get_of_replicate cluster.regions (number_of a) []) ∙ sym taken_none

  -- no session waits for anything, so none may be answered
  idle_all : (name : Bytes) (seat : Seat) (sessions : List Session) → lookup (is_named name) (map idle_seat sessions) ≡ Some seat → seat.waits ≡ None
  idle_all name seat [] e = cc
  idle_all name seat (s ∷ sessions) e = go (is_named name s.name) refl (idle_all name seat sessions)
    where
      go : (b : Bool) → is_named name s.name ≡ b → (lookup (is_named name) (map idle_seat sessions) ≡ Some seat → seat.waits ≡ None) → seat.waits ≡ None
      go true y later =
          let here : ◌≡◌ {A = Option Seat} (Some (idle_seat s).1) (Some seat) = rw y at e in
          let same : (idle_seat s).1 ≡ seat = cc in
          ap (λ x. x.waits) (sym same)
      go false n later = later (rw n at e)

  pub none_answered : (name : Bytes) → ¬ (MayAnswerAt a name)
  none_answered name may = go (seat_of a.sessions name) refl may
    where
      idle : seat_of a.sessions name ≡ seat_of (all_idle cluster.tries (number_of a) workload) name
      idle = f.sessions.seats name ∙ sym ((opening_sessions_stand cluster workload (number_of a) f.run.fits.names_once).seats name)

      go : (o : Option Seat) → seat_of a.sessions name ≡ o → MaySeatEnd a.sessions.tries o (last_at a name) → ⊥
      go None e m = absurd m
      go (Some seat) e m =
          let waits : seat.waits ≡ None = idle_all name seat (sessions_at (number_of a) workload.sessions) (sym idle ∙ e) in
          subst (λ w. MayEnd a.sessions.tries (option_map (λ x. record { attempt = x.attempt; outcome = last_at a name }) w)) waits m

-- no session has submitted yet
pub begun_none : {procs : List ProcTree} (a : NodeView) → HasAscendingKeys a.sessions.seats → BeginsSoFar procs a 0 a
begun_none a ascending cluster workload p f = record {
  events = ap₂ (λ (l : List Event) n. l ++ first_events cluster (number_of a) (opening_table cluster) (first_calls (sessions_at (number_of a) workload.sessions)) n)
      (ap events_of (new_none a a refl)) (taken_none f);
  seats = opening_seats f ascending;
  names = refl;
  table = ap (λ (h : Replica). h.table) (here_is f);
  placed = placed_none f;
}

-- one session more
module _ {procs : List ProcTree} {a b c : NodeView} (place : ℕ) (ascending : HasAscendingKeys a.sessions.seats) (g : HasGone procs [] a b) (k : HasGone procs [] b c) {cluster : Cluster} {workload : Workload}
    (p : procs ≡ cluster.procs) (h : HasBegun cluster workload a place b) where
  abbrev me : ℕ
  me = number_of a

  abbrev all : List Session
  all = sessions_at (number_of a) workload.sessions

  abbrev first : List Session → ℕ → List Event
  first sessions placed = first_events cluster (number_of a) (opening_table cluster) (first_calls sessions) placed

  -- still in the order of names
  b_ascending : HasAscendingKeys b.sessions.seats
  b_ascending = each_of_image KeyBefore (λ q. q.0) b.sessions.seats (subst (EachThen KeyBefore) (sym h.names) (each_image KeyBefore (λ q. q.0) a.sessions.seats ascending))

  -- a session that makes nothing
  passed_by : first_calls (drop (place + 1) all) ≡ first_calls (drop place all) → drop (place + 1) b.sessions.seats ≡ map idle_seat (drop (place + 1) all) → HasBegun cluster workload a (place + 1) b
  passed_by calls seats = record {
    events = ap (λ l. events_of (new_items a b) ++ first_events cluster me (opening_table cluster) l (taken_from b.site.region.state.here me)) calls ∙ h.events;
    seats = seats;
    names = h.names;
    table = h.table;
    placed = h.placed;
  }

  stays : EndsOne MaySubmitAt b place false c → HasBegun cluster workload a (place + 1) b → HasBegun cluster workload a (place + 1) c
  stays o x = subst (HasBegun cluster workload a (place + 1)) (sym o.0) x

  -- no session is there
  none_there : drop place all ≡ [] → (some : Bool) → EndsOne MaySubmitAt b place some c → StepsAt (IsSubmission procs) b place some c → HasBegun cluster workload a (place + 1) c
  none_there e true o s =
      let seats : drop place b.sessions.seats ≡ [] = h.seats ∙ ap (map idle_seat) e in
      let none : slice_get (map (λ q. q.0) b.sessions.seats) place ≡ None = (none_at place (map (λ q. q.0) b.sessions.seats) (drop-map (λ q. q.0) place b.sessions.seats ∙ ap (map (λ q. q.0)) seats)).0 in
      let some : slice_get (map (λ q. q.0) b.sessions.seats) place ≡ Some s.0 = s.1 in
      cc
  none_there e false o s =
      let seats : drop place b.sessions.seats ≡ [] = h.seats ∙ ap (map idle_seat) e in
      let later : drop (place + 1) all ≡ [] = drop_more place all ∙ (none_at place all e).1 in
      let behind : drop (place + 1) b.sessions.seats ≡ [] = drop_more place b.sessions.seats ∙ (none_at place b.sessions.seats seats).1 in
      stays o (passed_by (ap first_calls (later ∙ sym e)) (behind ∙ ap (map idle_seat) (sym later)))

  -- this session is there
  module _ (s : Session) (sessions : List Session) (e : drop place all ≡ s ∷ sessions) where
    here : (slice_get b.sessions.seats place ≡ Some (idle_seat s)) × (drop (suc place) b.sessions.seats ≡ map idle_seat sessions)
    here = next_of place b.sessions.seats (idle_seat s) (map idle_seat sessions) (h.seats ∙ ap (map idle_seat) e)

    later : drop (place + 1) all ≡ sessions
    later = drop_more place all ∙ (next_of place all s sessions e).1

    behind : drop (place + 1) b.sessions.seats ≡ map idle_seat (drop (place + 1) all)
    behind = drop_more place b.sessions.seats ∙ here.1 ∙ ap (map idle_seat) (sym later)

    named : slice_get (map (λ q. q.0) b.sessions.seats) place ≡ Some s.name
    named = slice_get-map (λ q. q.0) b.sessions.seats place ∙ ap (option_map (λ q. q.0)) here.0

    found : seat_of b.sessions s.name ≡ Some (idle_seat s).1
    found = seat_found b.sessions.seats (idle_seat s) b_ascending (has_place b.sessions.seats place (idle_seat s) here.0)

    may_one : 0 < length s.calls → MaySubmitAt b s.name
    may_one lt = subst (λ o. MaySeatTry b.sessions.tries o (last_at b s.name)) (sym found) lt

    one_may : MaySubmitAt b s.name → 0 < length s.calls
    one_may may = subst (λ o. MaySeatTry b.sessions.tries o (last_at b s.name)) found may

    same_one : (name : Bytes) → slice_get (map (λ q. q.0) b.sessions.seats) place ≡ Some name → name ≡ s.name
    same_one name is = let both : ◌≡◌ {A = Option Bytes} (Some name) (Some s.name) = sym is ∙ named in cc

    -- it has no call
    no_call : s.calls ≡ [] → (some : Bool) → EndsOne MaySubmitAt b place some c → StepsAt (IsSubmission procs) b place some c → HasBegun cluster workload a (place + 1) c
    no_call none true o x =
        let lt : 0 < length s.calls = one_may (subst (MaySubmitAt b) (same_one x.0 x.1) x.2.step.next.may) in
        let no : length s.calls ≡ 0 = ap length none in
        absurd (omega (arith, lt, no))
    no_call none false o x =
        stays o (passed_by (ap first_calls later ∙ sym (ap first_calls e ∙ ap (λ cs. with_first_call s cs ++ first_calls sessions) none)) behind)

    -- it submitted its first call
    module _ (call : Ranked) (calls : List Ranked) (is : s.calls ≡ call ∷ calls) (x : IsSubmission procs b s.name c) (o : HasGoneOn b c) where
      abbrev placed : ℕ
      placed = taken_from b.site.region.state.here (number_of a)

      abbrev home : Bool
      home = is_home cluster (number_of a) (opening_table cluster) call

      number_one : x.step.origin.call ≡ 1
      number_one =
          let numbers : ◌≡◌ {A = Option (ℕ × ℕ)} (Some (x.step.origin.call, x.step.origin.attempt)) (Some (numbers_next (idle_seat s).1)) = sym x.step.next.numbers ∙ ap (option_map numbers_next) found in
          let pair : ◌≡◌ {A = ℕ × ℕ} (x.step.origin.call, x.step.origin.attempt) (numbers_next (idle_seat s).1) = cc in
          ap (λ n. n.0) pair

      wanted : wanted_of b.sessions s.name x.step.origin.call ≡ Some call
      wanted =
          ap (option_and_then (λ (seat : Seat). slice_get seat.calls (x.step.origin.call - 1))) found
          ∙ ap (λ n. slice_get s.calls (n - 1)) number_one ∙ ap (λ l. slice_get l 0) is

      ranked : ◌≡◌ {A = ℕ × Body} (x.step.rank, x.step.body) (ranked_body call)
      ranked = let both : ◌≡◌ {A = Option (ℕ × Body)} (Some (x.step.rank, x.step.body)) (Some (ranked_body call)) = sym x.step.next.wanted ∙ ap (option_map ranked_body) wanted in cc

      own_is : is_own procs (number_of b) b.site.region.state.here.table x.step.rank x.step.body ≡ home
      own_is =
          ap (λ l. is_own l (number_of b) b.site.region.state.here.table x.step.rank x.step.body) p
          ∙ ap (λ n. is_own cluster.procs n b.site.region.state.here.table x.step.rank x.step.body) g.number
          ∙ ap (λ (t : Table). is_own cluster.procs (number_of a) t x.step.rank x.step.body) h.table
          ∙ ap (λ (r : ℕ × Body). is_own cluster.procs (number_of a) (opening_table cluster) r.0 r.1) ranked

      to_place : own_to_place procs b x.step.rank x.step.body ≡ cond home 1 0
      to_place =
          let all_placed : length (get_or b.site.region.state.here.asked (number_of b) []) ≡ taken_from b.site.region.state.here (number_of b) = h.placed in
          let own : own_to_place procs b x.step.rank x.step.body ≡ cond (is_own procs (number_of b) b.site.region.state.here.table x.step.rank x.step.body) 1 0 = omega (arith, all_placed) in
          own ∙ ap (λ w. cond w 1 0) own_is

      made : events_of (new_items b c) ≡ Submit me s.name ∷ placings me me placed (cond home 1 0)
      made =
          x.step.goes.made
          ∙ ap (λ k. Submit (number_of b) s.name ∷ placings (number_of b) (number_of b) (taken_from b.site.region.state.here (number_of b)) k) to_place
          ∙ ap (λ n. Submit n s.name ∷ placings n n (taken_from b.site.region.state.here n) (cond home 1 0)) g.number

      placed_then : taken_from c.site.region.state.here me ≡ placed + cond home 1 0
      placed_then =
          subst (λ n. taken_from c.site.region.state.here n ≡ taken_from b.site.region.state.here n + cond home 1 0) g.number
          (x.taken ∙ ap (λ k. taken_from b.site.region.state.here (number_of b) + k) to_place)

      as_first : (w : Bool) → home ≡ w → (n now : ℕ) → now ≡ n + cond w 1 0
          → (Submit me s.name ∷ placings me me n (cond w 1 0)) ++ first sessions now ≡ first_events cluster me (opening_table cluster) ((s, call) ∷ first_calls sessions) n
      as_first true y n now up = rw y (ap (λ m. Submit me s.name ∷ Append me me n ∷ first sessions m) up)
      as_first false y n now up = rw y (ap (λ m. Submit me s.name ∷ first sessions m) (let same : now ≡ n = omega (arith, up) in same))

      split : first_calls (drop place all) ≡ (s, call) ∷ first_calls sessions
      split = ap first_calls e ∙ ap (λ cs. with_first_call s cs ++ first_calls sessions) is

      events_then : events_of (new_items a c) ++ first (drop (place + 1) all) (taken_from c.site.region.state.here me) ≡ first all 0
      events_then =
          let before : List Event = events_of (new_items a b) in
          let some : List Event = Submit me s.name ∷ placings me me placed (cond home 1 0) in
          let joined : events_of (new_items a c) ≡ before ++ some =
          ap events_of (new_joined g k) ∙ map-append (λ y. y.event) (new_items a b) (new_items b c) ∙ ap (λ l. before ++ l) made in
          ap₂ (λ (l : List Event) (ss : List Session). l ++ first ss (taken_from c.site.region.state.here me)) joined later
          ∙ append_assoc before some (first sessions (taken_from c.site.region.state.here me))
          ∙ ap (λ l. before ++ l) (as_first home refl placed (taken_from c.site.region.state.here me) placed_then)
          ∙ ap (λ l. before ++ first_events cluster me (opening_table cluster) l placed) (sym split) ∙ h.events

      seats_are : c.sessions.seats ≡ set_value (is_named s.name) b.sessions.seats (waiting (idle_seat s).1 x.id)
      seats_are = ap (λ v. v.seats) (x.sessions ∙ ap (with_changed (λ seat. waiting seat x.id) b.sessions s.name) found)

      has_call : HasBegun cluster workload a (place + 1) c
      has_call = record {
        events = events_then;
        seats = ap (drop (place + 1)) seats_are ∙ drop_more place (set_value (is_named s.name) b.sessions.seats (waiting (idle_seat s).1 x.id))
            ∙ set_behind b.sessions.seats place (idle_seat s) (waiting (idle_seat s).1 x.id) b_ascending here.0 ∙ sym (drop_more place b.sessions.seats) ∙ behind;
        names = ap (map (λ q. q.0)) seats_are ∙ keys-set_value (is_named s.name) b.sessions.seats (waiting (idle_seat s).1 x.id) ∙ h.names;
        table = x.table ∙ h.table;
        placed = o.placed h.placed;
      }

    a_call : (call : Ranked) (calls : List Ranked) → s.calls ≡ call ∷ calls → (some : Bool) → EndsOne MaySubmitAt b place some c → StepsAt (IsSubmission procs) b place some c → HasBegun cluster workload a (place + 1) c
    a_call call calls is true o x = has_call call calls is (subst (λ n. IsSubmission procs b n c) (same_one x.0 x.1) x.2) o
    a_call call calls is false o x =
        let many : length s.calls ≡ suc (length calls) = ap length is in
        absurd (o.1 s.name named (may_one (omega (arith, many))))

    one_there : (some : Bool) → EndsOne MaySubmitAt b place some c → StepsAt (IsSubmission procs) b place some c → HasBegun cluster workload a (place + 1) c
    one_there some o x = go s.calls refl
      where
        go : (calls : List Ranked) → s.calls ≡ calls → HasBegun cluster workload a (place + 1) c
        go [] is = no_call is some o x
        go (call ∷ calls) is = a_call call calls is some o x

  begun_one : (some : Bool) → EndsOne MaySubmitAt b place some c → StepsAt (IsSubmission procs) b place some c → HasBegun cluster workload a (place + 1) c
  begun_one some o x = go (drop place all) refl
    where
      go : (left : List Session) → drop place all ≡ left → HasBegun cluster workload a (place + 1) c
      go [] e = none_there e some o x
      go (s ∷ sessions) e = one_there s sessions e some o x

pub begun_more : {procs : List ProcTree} {a b c : NodeView} (place : ℕ) (some : Bool) → HasAscendingKeys a.sessions.seats → HasGone procs [] a b → HasGone procs [] b c → BeginsSoFar procs a place b
    → EndsOne MaySubmitAt b place some c → StepsAt (IsSubmission procs) b place some c → BeginsSoFar procs a (place + 1) c
begun_more place some ascending g k h o x cluster workload p f = begun_one place ascending g k p (h cluster workload p f) some o x

-- all sessions have submitted
pub begun_all : {procs : List ProcTree} {a b : NodeView} (place : ℕ) → length b.sessions.seats ≤ place → BeginsSoFar procs a place b → BeginsEagerly procs a b
begun_all {procs} {a} {b} place le h = record {
  begins = λ cluster workload p f.
      let x : HasBegun cluster workload a place b = h cluster workload p f in
      let none : drop place (sessions_at (number_of a) workload.sessions) ≡ [] = no_idle (drop place (sessions_at (number_of a) workload.sessions)) (sym x.seats ∙ drop_of_length-le b.sessions.seats le) in
      let left : first_events cluster (number_of a) (opening_table cluster) (first_calls (drop place (sessions_at (number_of a) workload.sessions))) (taken_from b.site.region.state.here (number_of a)) ≡ [] =
      ap (λ l. first_events cluster (number_of a) (opening_table cluster) (first_calls l) (taken_from b.site.region.state.here (number_of a))) none in
      ([], append-nil _ ∙ sym x.events ∙ ap (λ l. events_of (new_items a b) ++ l) left ∙ append-nil (events_of (new_items a b)));
}
  where
    no_idle : (sessions : List Session) → map idle_seat sessions ≡ [] → sessions ≡ []
    no_idle [] e = refl
    no_idle (s ∷ sessions) e = cc

-- the first pass: no session is answered, all submit, and what a round adds comes behind
pub first_pass : {procs : List ProcTree} {xs ys zs : List Packet} {a b c d : NodeView} (answered : Bool) → EndsAll MayAnswerAt a answered b → AllWhoMight MayAnswerAt IsAnswering a b
    → HasGone procs xs a b → HasGone procs ys b c → HasGone procs zs c d → BeginsEagerly procs b c → BeginsEagerly procs a d
first_pass {procs} {xs} {ys} {zs} {a} {b} {c} {d} answered ends all g h k e = begins_more (gone_more g h) k (go answered ends)
  where
    go : (some : Bool) → EndsAll MayAnswerAt a some b → BeginsEagerly procs a c
    go true o = let one = someone o all in record { begins = λ cluster workload p f. absurd (none_answered f one.0 one.1) }
    go false o = subst (λ x. BeginsEagerly procs x c) o.0 e
