-- The sessions of a region that stand in a world: what they allow is what the rules allow there, and after each event they
-- stand in the next world, the one that it is about changed and all others as they were.
use Rattle.std.proofs.Common.{◌≡◌, ◌≢◌, ◌⊎◌, ◌<◌, ◌+◌, ℕ, Bool, true, false, cond, List, [], ◌∷◌, length, map, get_or, slice_get, Some, None, refl, sym, ap, ap₂, subst, ◌∙◌, inl, inr}
use Rattle.std.specs.Prelude.{Option, IsSome, option_map, option_and_then, unwrap_or}
use Rattle.std.specs.Cmp.Lexicographic.{bytes_decides, texts_ties}
use Rattle.std.proofs.lemmas.Bool.{cases_Bool}
use Rattle.std.proofs.lemmas.Cmp.{eq_by_cmp_equiv, nat_list_cmp_total}
use Rattle.std.proofs.lemmas.List.{length-map}
use Rattle.std.proofs.lemmas.Map.{lookup-set_value}
use Rattle.std.proofs.lemmas.Option.{slice_get_within, some_pair_parts}
use Rattle.dt_lists.specs.Lists.{Distinct, Has, Pairwise}
use Rattle.dt_access.specs.Clash.{Bytes}
use Rattle.dt_access.specs.declared.TxnId.{TxnId}
use Rattle.dt_events.specs.declared.Event.{Event}
use Rattle.dt_txn.specs.declared.Outcome.{Outcome}
use Rattle.dt_cluster.specs.declared.Cluster.{Cluster}
use Rattle.dt_workload.specs.declared.Session.{Session}
use Rattle.dt_workload.specs.declared.Workload.{Workload}
use Rattle.dt_session.specs.declared.sessions.Seat.{Seat}
use Rattle.dt_session.specs.declared.sessions.Waiting.{Waiting}
use Rattle.dt_session.specs.Sessions.{SessionsView, MayBeAnswered, MayGo, all_idle, idle_seat, MaySeatEnd, MaySeatTry, is_named, numbers_next, seat_of, waits_of, with_changed}
use Rattle.dt_session.proofs.Callers.{idle_found, same_name}
use Rattle.dt_session.specs.Step.{IsLegal, MayAnswer, MaySubmit, awaited_at, next, next_attempt}
use Rattle.dt_session.specs.Tries.{MayEnd, MayTry}
use Rattle.dt_session.specs.World.{World, Place, Submission, attempt_of, idle_place, is_session, opening_world, outcome_at, session_at, submission_of, with_place}
use Rattle.dt_agreement.specs.Invariant.{IsPlaceOf, Inv}
use Rattle.dt_agreement.proofs.Callers.{WaitsAt, each_found, next_found, session_found, session_of_test, waiting_for}
use Rattle.dt_site.specs.SessionsStandIn.{SessionsStandIn, no_sessions, place_in, places_of, seat_in}
use Rattle.dt_site.specs.StandsIn.{IsReached}
use Rattle.dt_site.proofs.SitesInWorlds.{inv, order}

-- names

is_it : (a b : Bytes) → a ≡ b → is_named a b ≡ true
is_it a b e = sym (texts_ties a b) ∙ (bytes_decides a b).1 e

-- one seat changes, and the others stay
pub seat_changed : (change : Seat → Seat) (s : SessionsView) (name : Bytes) (seat : Seat) → seat_of s name ≡ Some seat → (other : Bytes)
    → seat_of (with_changed change s name (Some seat)) other ≡ cond (is_named name other) (Some (change seat)) (seat_of s other)
seat_changed change s name seat found other =
    lookup-set_value (eq_by_cmp_equiv nat_list_cmp_total) (is_named name) (λ x y e. ap (λ n. is_named n y) (same_name name x e)) other (change seat) s.seats
    (subst IsSome (sym found) refl)

-- what a session's region is asked of the attempt that it waits for
abbrev pub last_in : World → ℕ → Option TxnId → Option Outcome
last_in w region waits = option_and_then (outcome_at w region) waits

-- what a seat waits for, if it is there
abbrev awaited_id : Option Seat → Option TxnId
awaited_id o = option_and_then (λ (seat : Seat). option_map (λ (x : Waiting). x.id) seat.waits) o

-- where the session at a place waits for an attempt, one stands there
pub waits_there : (s : SessionsView) (index : ℕ) (id : TxnId) → option_and_then (waits_of s) (slice_get (map (λ p. p.0) s.seats) index) ≡ Some id → index < length s.seats
waits_there s index id waits = go (slice_get names index) refl waits
  where
    names : List Bytes
    names = map (λ p. p.0) s.seats

    go : (name : Option Bytes) → slice_get names index ≡ name → option_and_then (waits_of s) name ≡ Some id → index < length s.seats
    go None at waits = cc
    go (Some name) at waits = subst (λ n. index < n) (length-map s.seats (λ p. p.0)) (slice_get_within names index name at)

-- what is allowed

module _ {cluster : Cluster} {workload : Workload} {w : World} {region : ℕ} {s : SessionsView} (k : SessionsStandIn cluster workload w region s) (name : Bytes) where
  abbrev here : Option (Session × Place)
  here = session_at workload.sessions w.places region name

  abbrev tries_at : ℕ → Option Seat → Type 0
  tries_at tries o = MaySeatTry tries o (last_in w region (awaited_id o))

  abbrev ends_at : ℕ → Option Seat → Type 0
  ends_at tries o = MaySeatEnd tries o (last_in w region (awaited_id o))

  try_of : (o : Option (Session × Place)) → tries_at cluster.tries (option_map (seat_in w) o) → MaySubmit cluster w region o
  try_of None m = m
  try_of (Some (session, place)) m = go place.waits m
    where
      go : (waits : Option TxnId) → tries_at cluster.tries (Some (seat_in w (session, record place { waits = waits })))
          → MayTry cluster.tries (length session.calls) place.answered (awaited_at w region waits)
      go None m = m
      go (Some id) m = m

  of_try : (o : Option (Session × Place)) → MaySubmit cluster w region o → tries_at cluster.tries (option_map (seat_in w) o)
  of_try None m = m
  of_try (Some (session, place)) m = go place.waits m
    where
      go : (waits : Option TxnId) → MayTry cluster.tries (length session.calls) place.answered (awaited_at w region waits)
          → tries_at cluster.tries (Some (seat_in w (session, record place { waits = waits })))
      go None m = m
      go (Some id) m = m

  end_of : (o : Option (Session × Place)) → ends_at cluster.tries (option_map (seat_in w) o) → MayAnswer cluster w region o
  end_of None m = m
  end_of (Some (session, place)) m = go place.waits m
    where
      go : (waits : Option TxnId) → ends_at cluster.tries (Some (seat_in w (session, record place { waits = waits })))
          → MayEnd cluster.tries (awaited_at w region waits)
      go None m = m
      go (Some id) m = m

  of_end : (o : Option (Session × Place)) → MayAnswer cluster w region o → ends_at cluster.tries (option_map (seat_in w) o)
  of_end None m = m
  of_end (Some (session, place)) m = go place.waits m
    where
      go : (waits : Option TxnId) → MayEnd cluster.tries (awaited_at w region waits)
          → ends_at cluster.tries (Some (seat_in w (session, record place { waits = waits })))
      go None m = m
      go (Some id) m = m

  -- a session may go on exactly where rule 1 allows it
  pub may_submit : MayGo s name (last_in w region (waits_of s name)) → MaySubmit cluster w region here
  may_submit m = try_of here (subst (tries_at cluster.tries) (k.seats name) (subst (λ t. tries_at t (seat_of s name)) k.tries m))

  pub may_go : MaySubmit cluster w region here → MayGo s name (last_in w region (waits_of s name))
  may_go m = subst (λ t. tries_at t (seat_of s name)) (sym k.tries) (subst (tries_at cluster.tries) (sym (k.seats name)) (of_try here m))

  -- it may be answered exactly where rule 7 allows it
  pub may_answer : MayBeAnswered s name (last_in w region (waits_of s name)) → MayAnswer cluster w region here
  may_answer m = end_of here (subst (ends_at cluster.tries) (k.seats name) (subst (λ t. ends_at t (seat_of s name)) k.tries m))

  pub may_be_answered : MayAnswer cluster w region here → MayBeAnswered s name (last_in w region (waits_of s name))
  may_be_answered m = subst (λ t. ends_at t (seat_of s name)) (sym k.tries) (subst (ends_at cluster.tries) (sym (k.seats name)) (of_end here m))

  -- where the session is, it is kept as it stands
  pub kept_here : {session : Session} {place : Place} → here ≡ Some (session, place) → seat_of s name ≡ Some (seat_in w (session, place))
  kept_here found = k.seats name ∙ ap (option_map (seat_in w)) found

-- the numbers of the next call and attempt are those of the place
pub numbers_are : (w : World) (session : Session) (place : Place) → numbers_next (seat_in w (session, place)) ≡ (place.answered + 1, next_attempt w place.waits)
numbers_are w session place = go place.waits
  where
    go : (waits : Option TxnId) → numbers_next (seat_in w (session, record place { waits = waits })) ≡ (place.answered + 1, next_attempt w waits)
    go None = refl
    go (Some id) = refl

-- the places of sessions, one of which is changed

module _ (region : ℕ) (name : Bytes) (place : Place) where
  -- where a session of the name stands, it stands at the place after the change
  abbrev StandsThen : List Session → List Place → Session → Place → Type 0
  StandsThen sessions places session was =
      session_at sessions places region name ≡ Some (session, was) → session_at sessions (with_place sessions places region name place) region name ≡ Some (session, place)

  pub at_changed : (sessions : List Session) (places : List Place) (session : Session) (was : Place) → StandsThen sessions places session was
  at_changed [] places session was e = cc
  at_changed (t ∷ sessions) [] session was e = cc
  at_changed (t ∷ sessions) (x ∷ places) session was e = go (cases_Bool (is_session region name t)) (at_changed sessions places session was)
    where
      go : (is_session region name t ≡ true) ⊎ (is_session region name t ≡ false)
          → StandsThen sessions places session was
          → session_at (t ∷ sessions) (with_place (t ∷ sessions) (x ∷ places) region name place) region name ≡ Some (session, place)
      go (inl y) f =
          let is : ◌≡◌ {A = Option (Session × Place)} (Some (t, x)) (Some (session, was)) = rw y at e in
          let same : t ≡ session = (some_pair_parts t session x was is).0 in
          rw y (rw y (ap (λ u. Some (u, place)) same))
      go (inr n) f = rw n (rw n (f (rw n at e)))

  -- and all others stand where they stood
  pub at_others : (sessions : List Session) (places : List Place) (other : ℕ) (called : Bytes) → (other ≡ region → called ≡ name → ⊥)
      → session_at sessions (with_place sessions places region name place) other called ≡ session_at sessions places other called
  at_others [] places other called n = refl
  at_others (t ∷ sessions) [] other called n = refl
  at_others (t ∷ sessions) (x ∷ places) other called n = go (cases_Bool (is_session region name t)) (cases_Bool (is_session other called t)) (at_others sessions places other called n)
    where
      go : (is_session region name t ≡ true) ⊎ (is_session region name t ≡ false) → (is_session other called t ≡ true) ⊎ (is_session other called t ≡ false)
          → session_at sessions (with_place sessions places region name place) other called ≡ session_at sessions places other called
          → session_at (t ∷ sessions) (with_place (t ∷ sessions) (x ∷ places) region name place) other called ≡ session_at (t ∷ sessions) (x ∷ places) other called
      go (inl y) (inl z) f =
          let a : (t.name ≡ name) × (t.region ≡ region) = session_of_test region name t y in
          let b : (t.name ≡ called) × (t.region ≡ other) = session_of_test other called t z in
          absurd (n (sym b.1 ∙ a.1) (sym b.0 ∙ a.0))
      go (inl y) (inr z) f = rw y (rw z refl)
      go (inr y) (inl z) f = rw y (rw z refl)
      go (inr y) (inr z) f = rw y (rw z f)

-- the attempt of an id that was submitted
attempt_found : (w : World) (id : TxnId) (x : Submission) → submission_of w id ≡ Some x → attempt_of w id ≡ x.attempt
attempt_found w id x e = ap (λ o. unwrap_or (option_map (λ s. s.attempt) o) 0) e

-- where the attempts that sessions wait for stay, a session of a region is kept as it was
pub seat_alike : {cluster : Cluster} {workload : Workload} {w : World} {order : List TxnId} → Inv cluster workload w order → (v : World) → {region : ℕ} → region < cluster.regions
    → ((id : TxnId) (x : Submission) → submission_of w id ≡ Some x → id.region ≡ region → attempt_of w id ≡ attempt_of v id)
    → (name : Bytes) (o : Option (Session × Place)) → session_at workload.sessions w.places region name ≡ o → option_map (seat_in w) o ≡ option_map (seat_in v) o
seat_alike i v lr attempts name None e = refl
seat_alike {cluster} {workload} {w} {order} i v {region} lr attempts name (Some (session, place)) e = go place.waits refl
  where
    r : Has workload.sessions session × (session.name ≡ name) × (session.region ≡ region) × IsPlaceOf cluster.tries w session place
    r = session_found (IsPlaceOf cluster.tries w) workload.sessions w.places region name session place i.sessions.places e

    go : (waits : Option TxnId) → place.waits ≡ waits
        → ◌≡◌ {A = Option Seat} (Some (seat_in w (session, record place { waits = waits }))) (Some (seat_in v (session, record place { waits = waits })))
    go None is = refl
    go (Some id) is =
        let wait : WaitsAt cluster w session place id = waiting_for i session place id (subst (λ q. q < cluster.regions) (sym r.2) lr) r.3 is in
        let stays : attempt_of w id ≡ attempt_of v id = attempts id wait.submission wait.found (wait.region ∙ r.2) in
        λ i. Some (record { calls = session.calls; answered = place.answered; waits = Some (record { id = id; attempt = stays i }) })

-- a session of a region stands at another place in the next world, and no other session does
pub record StandsElsewhere (workload : Workload) (w later : World) (region : ℕ) (name : Bytes) (session : Session) (place now : Place) : Type 0 where
  pub found : session_at workload.sessions w.places region name ≡ Some (session, place)
  pub moved : later.places ≡ with_place workload.sessions w.places region name now

-- after a legal event

module _ {cluster : Cluster} {workload : Workload} {w : World} (k : IsReached cluster workload w) (event : Event) (legal : IsLegal cluster workload w event) where
  abbrev later : World
  later = next cluster workload w event

  attempt_stays : (id : TxnId) (x : Submission) → submission_of w id ≡ Some x → attempt_of later id ≡ attempt_of w id
  attempt_stays id x found = attempt_found later id x (next_found k.run.sound k.run.fits w (order k) event legal (inv k) id x found) ∙ sym (attempt_found w id x found)

  -- a session that stands where it stood is kept as it was
  seat_stays : (region : ℕ) → region < cluster.regions → (name : Bytes) (o : Option (Session × Place)) → session_at workload.sessions w.places region name ≡ o
      → option_map (seat_in w) o ≡ option_map (seat_in later) o
  seat_stays region lr name o e = seat_alike (inv k) later lr (λ id x found own. sym (attempt_stays id x found)) name o e

  -- where the sessions stand as before, those of each region stand in the next world
  pub sessions_stay : later.places ≡ w.places → {region : ℕ} → region < cluster.regions → {s : SessionsView} → SessionsStandIn cluster workload w region s
      → SessionsStandIn cluster workload later region s
  sessions_stay same {region} lr s = record {
    tries = s.tries;
    seats = λ name. s.seats name ∙ seat_stays region lr name (session_at workload.sessions w.places region name) refl
        ∙ ap (λ p. option_map (seat_in later) (session_at workload.sessions p region name)) (sym same);
  }

  -- where one session of a region stands elsewhere, and its region keeps it so, those of each region stand in the next world

  module _ {region : ℕ} (lr : region < cluster.regions) {name : Bytes} {session : Session} {place now : Place} (goes : StandsElsewhere workload w later region name session place now) where
    pub others_sessions : {other : ℕ} → other < cluster.regions → other ≢ region → {s : SessionsView} → SessionsStandIn cluster workload w other s → SessionsStandIn cluster workload later other s
    others_sessions {other} lo n s = record {
      tries = s.tries;
      seats = λ called. s.seats called ∙ seat_stays other lo called (session_at workload.sessions w.places other called) refl
          ∙ ap (option_map (seat_in later)) (sym (ap (λ p. session_at workload.sessions p other called) goes.moved ∙ at_others region name now workload.sessions w.places other called (λ e _. n e)));
    }

    pub sessions_changed : (change : Seat → Seat) {s : SessionsView} → SessionsStandIn cluster workload w region s → change (seat_in w (session, place)) ≡ seat_in later (session, now)
        → SessionsStandIn cluster workload later region (with_changed change s name (seat_of s name))
    sessions_changed change {s} k' is = subst (λ o. SessionsStandIn cluster workload later region (with_changed change s name o)) (sym kept) (record { tries = k'.tries; seats = λ called. at called (cases_Bool (is_named name called)) })
      where
        kept : seat_of s name ≡ Some (seat_in w (session, place))
        kept = kept_here k' name goes.found

        by_name : (called : Bytes) {b : Bool} → is_named name called ≡ b
            → seat_of (with_changed change s name (Some (seat_in w (session, place)))) called ≡ cond b (Some (change (seat_in w (session, place)))) (seat_of s called)
        by_name called e = seat_changed change s name (seat_in w (session, place)) kept called ∙ ap (λ b. cond b (Some (change (seat_in w (session, place)))) (seat_of s called)) e

        at : (called : Bytes) → (is_named name called ≡ true) ⊎ (is_named name called ≡ false)
            → seat_of (with_changed change s name (Some (seat_in w (session, place)))) called ≡ option_map (seat_in later) (session_at workload.sessions later.places region called)
        at called (inl y) =
            by_name called y ∙ ap Some is
            ∙ ap (option_map (seat_in later)) (sym (ap₂ (λ p n. session_at workload.sessions p region n) goes.moved (sym (same_name name called y)) ∙ at_changed region name now workload.sessions w.places session place goes.found))
        at called (inr z) =
            by_name called z ∙ k'.seats called ∙ seat_stays region lr called (session_at workload.sessions w.places region called) refl
            ∙ ap (option_map (seat_in later)) (sym (ap (λ p. session_at workload.sessions p region called) goes.moved
            ∙ at_others region name now workload.sessions w.places region called (λ _ e. other (is_it name called (sym e)))))
          where
            other : is_named name called ≡ true → ⊥
            other e = let no : ◌≡◌ {A = Bool} true false = sym e ∙ z in cc

-- what all regions keep says where each session stands

-- what each session's place is, the places are
places_of_each : (f : Session → Place) (sessions : List Session) (places : List Place) → Pairwise (λ s p. f s ≡ p) sessions places → map f sessions ≡ places
places_of_each f [] [] all = refl
places_of_each f [] (p ∷ places) all = absurd all
places_of_each f (s ∷ sessions) [] all = absurd all
places_of_each f (s ∷ sessions) (p ∷ places) all = ap₂ (λ x l. x ∷ l) all.0 (places_of_each f sessions places all.1)

place_of_seat : (w : World) (session : Session) (place : Place) → place_in (Some (seat_in w (session, place))) ≡ place
place_of_seat w session place = go place.waits
  where
    go : (waits : Option TxnId) → place_in (Some (seat_in w (session, record place { waits = waits }))) ≡ record place { waits = waits }
    go None = refl
    go (Some id) = refl

module _ {cluster : Cluster} {workload : Workload} {w : World} (once : Distinct (map (λ s. s.name) workload.sessions)) (regions : (t : Session) → Has workload.sessions t → t.region < cluster.regions)
    (many : length w.places ≡ length workload.sessions) (all : List SessionsView) (k : (region : ℕ) → region < cluster.regions → SessionsStandIn cluster workload w region (get_or all region no_sessions)) where
  pub places_are : places_of workload all ≡ w.places
  places_are =
      let own : Session → Place = λ session. place_in (seat_of (get_or all session.region no_sessions) session.name) in
      places_of_each own workload.sessions w.places (each_found (λ t p. own t ≡ p) workload.sessions w.places many once
      (λ t h p e. ap place_in (kept_here (k t.region (regions t h)) t.name e) ∙ place_of_seat w t p))

-- before anything happens

module _ (w : World) (region : ℕ) (name : Bytes) where
  -- the session, with where it stands
  abbrev idle_at : List Session → Option (Session × Place)
  idle_at sessions = session_at sessions (map (λ s. idle_place) sessions) region name

  -- its seat is the idle one
  abbrev IdleAs : List Session → Type 0
  IdleAs sessions = option_map (λ (x : Session × Place). (idle_seat x.0).1) (idle_at sessions) ≡ option_map (seat_in w) (idle_at sessions)

  idle_as : (sessions : List Session) → IdleAs sessions
  idle_as [] = refl
  idle_as (s ∷ sessions) = go (cases_Bool (is_session region name s)) (idle_as sessions)
    where
      go : (is_session region name s ≡ true) ⊎ (is_session region name s ≡ false) → IdleAs sessions → IdleAs (s ∷ sessions)
      go (inl y) ih = rw y refl
      go (inr n) ih = rw n ih

pub opening_sessions_stand : (cluster : Cluster) (workload : Workload) (region : ℕ) → Distinct (map (λ s. s.name) workload.sessions)
    → SessionsStandIn cluster workload (opening_world cluster workload) region (all_idle cluster.tries region workload)
opening_sessions_stand cluster workload region once = record {
  tries = refl;
  seats = λ name. idle_found region name workload.sessions once ∙ idle_as (opening_world cluster workload) region name workload.sessions;
}
