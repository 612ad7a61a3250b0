-- The sessions of a region, gathered from a workload and found by their names.
use Rattle.std.proofs.Common.{◌≡◌, ◌≢◌, ◌⊎◌, ◌<◌, ◌≤◌, ◌+◌, ◌-◌, ◌^◌, ◌==◌, ℕ, zero, suc, Bool, true, false, cond, eq-eqb, eqb, eqb-true, List, [], ◌∷◌}
use Rattle.std.proofs.Common.{length, map, reverse, get_or, drop, slice_get, ◌++◌, Some, None, refl, sym, ap, subst, ◌∙◌, inl, inr, arith}
use Rattle.std.specs.Prelude.{◌↔◌, Option, IsTrue, is_some, option_map}
use Rattle.std.specs.List.{All, AllByRecursion}
use Rattle.std.specs.List.Sorted.{IsStrictlySortedBy}
use Rattle.std.specs.declared.cmp.Ordering.{Ordering}
use Rattle.std.specs.declared.cmp.Ordering.TheVariants.{Less, Equal, Greater}
use Rattle.std.specs.Ordering.{is_lt, nat_cmp}
use Rattle.std.specs.Cmp.Lexicographic.{bytes_decides, slice_cmp, texts_ties}
use Rattle.std.specs.BTreeMap.{insert_entry}
use Rattle.std.specs.Map.{keys_of, lookup, set_value}
use Rattle.std.proofs.lemmas.Map.{keys-set_value, length-set_value}
use Rattle.std.proofs.lemmas.Map.Steps.{set_value_same}
use Rattle.std.proofs.lemmas.Bool.{cases_Bool, false_from_ne_true}
use Rattle.std.proofs.lemmas.Option.{same_Some}
use Rattle.std.proofs.lemmas.List.{append_assoc, drop_more, get_or-reverse, length-append, length-reverse}
use Rattle.std.proofs.lemmas.List.Sums.{sum_by-cons}
use Rattle.indexmap.specs.IndexMap.{IndexMap, insert_entry as insert_last}
use Rattle.indexmap.specs.Layout.{set_value_at}
use Rattle.indexmap.proofs.CallerLemmas.{insert_entry-new}
use Rattle.dt_lists.specs.Lists.{AllIn, Distinct, EachThen, Has}
use Rattle.dt_lists.proofs.Callers.{all_get, all_of_image, all_put, each_image, each_of_image, has_middle, has_place, not_some}
use Rattle.dt_access.specs.Clash.{Bytes, same_key}
use Rattle.dt_access.specs.Orders.{HasAscendingKeys, KeyBefore}
use Rattle.dt_access.specs.declared.TxnId.{TxnId}
use Rattle.dt_access.proofs.Callers.{same_key_after, same_key_self}
use Rattle.dt_txn.specs.declared.Outcome.{Outcome}
use Rattle.dt_workload.specs.Valid.{calls_in, session_count_at, session_names}
use Rattle.dt_workload.specs.declared.Ranked.{Ranked}
use Rattle.dt_workload.specs.declared.Session.{Session}
use Rattle.dt_session.specs.declared.sessions.Seat.{Seat}
use Rattle.dt_session.specs.Eager.{sessions_at, with_session}
use Rattle.dt_session.specs.Sessions.{AreAllAnswered, AreSoundSeats, EachNameIsAnswered, IsSoundSeat, MayBeAnswered, MayGo}
use Rattle.dt_session.specs.Sessions.{MaySeatEnd, MaySeatTry, SessionsView, after_answer, after_wait, answered_seat, idle_seat, is_named, seat_of, waiting, with_changed}
use Rattle.dt_session.specs.World.{Place, idle_place, session_at}

-- one name is another
pub same_name : (a b : Bytes) → is_named a b ≡ true → a ≡ b
same_name a b e = (bytes_decides a b).0 (texts_ties a b ∙ e)

-- what holds of all sessions holds of those of a region

pub with_session_all : (P : Session → Type 0) (s : Session) (sessions : List Session) → P s → AllIn P sessions → AllIn P (with_session s sessions)
with_session_all P s [] p a = (p, tt)
with_session_all P s (t ∷ sessions) p a = go (cases_Bool (is_lt (slice_cmp nat_cmp s.name t.name))) (with_session_all P s sessions p a.1)
  where
    go : (is_lt (slice_cmp nat_cmp s.name t.name) ≡ true) ⊎ (is_lt (slice_cmp nat_cmp s.name t.name) ≡ false) → AllIn P (with_session s sessions) → AllIn P (with_session s (t ∷ sessions))
    go (inl y) rest = rw y (p, a)
    go (inr n) rest = rw n (a.0, rest)

pub sessions_at_all : (P : Session → Type 0) (region : ℕ) (sessions : List Session) → AllIn P sessions → AllIn P (sessions_at region sessions)
sessions_at_all P region [] a = tt
sessions_at_all P region (s ∷ sessions) a = go (cases_Bool (s.region == region)) (sessions_at_all P region sessions a.1)
  where
    go : ((s.region == region) ≡ true) ⊎ ((s.region == region) ≡ false) → AllIn P (sessions_at region sessions) → AllIn P (sessions_at region (s ∷ sessions))
    go (inl y) rest = rw y (with_session_all P s (sessions_at region sessions) a.0 rest)
    go (inr n) rest = rw n rest

-- an idle session stands soundly, where it has not too many calls

short_calls : (sessions : List Session) (few : ℕ) → calls_in sessions ≤ few → AllIn (λ s. length s.calls ≤ few) sessions
short_calls [] few le = tt
short_calls (s ∷ sessions) few le =
    let sum : calls_in (s ∷ sessions) ≡ length s.calls + calls_in sessions = sum_by-cons (λ x. length x.calls) s sessions in
    (omega (arith, le, sum), short_calls sessions few (omega (arith, le, sum)))

map_all : (sessions : List Session) → AllIn (λ s. length s.calls ≤ 20000) sessions → AllIn (λ p. IsSoundSeat p.1) (map idle_seat sessions)
map_all [] a = tt
map_all (s ∷ sessions) a = (record { few = omega (arith, a.0); within = omega arith }, map_all sessions a.1)

pub idle_sound : (region : ℕ) (sessions : List Session) → calls_in sessions ≤ 20000 → AllIn (λ p. IsSoundSeat p.1) (map idle_seat (sessions_at region sessions))
idle_sound region sessions few = map_all (sessions_at region sessions) (sessions_at_all (λ s. length s.calls ≤ 20000) region sessions (short_calls sessions 20000 few))

-- as many sessions are seated at a region as the workload has there

length_with : (s : Session) (sessions : List Session) → length (with_session s sessions) ≡ suc (length sessions)
length_with s [] = refl
length_with s (t ∷ sessions) = go (is_lt (slice_cmp nat_cmp s.name t.name)) (length_with s sessions)
  where
    go : (b : Bool) → length (with_session s sessions) ≡ suc (length sessions) → length (cond b (s ∷ t ∷ sessions) (t ∷ with_session s sessions)) ≡ suc (suc (length sessions))
    go true e = refl
    go false e = ap suc e

pub length_at : (region : ℕ) (sessions : List Session) → length (sessions_at region sessions) ≡ session_count_at region sessions
length_at region [] = refl
length_at region (s ∷ sessions) =
    go (s.region == region) (length_at region sessions) ∙ sym (sum_by-cons (λ (t : Session). cond (t.region == region) 1 0) s sessions)
  where
    go : (b : Bool) → length (sessions_at region sessions) ≡ session_count_at region sessions
        → length (cond b (with_session s (sessions_at region sessions)) (sessions_at region sessions)) ≡ cond b 1 0 + session_count_at region sessions
    go true e = omega (arith, length_with s (sessions_at region sessions), e)
    go false e = omega (arith, e)

-- one session more is put among those of a region

inserted : (s : Session) (sessions : List Session) → AllIn (λ t. s.name ≢ t.name) sessions
    → insert_entry (slice_cmp nat_cmp) (map idle_seat sessions) s.name (idle_seat s).1 ≡ map idle_seat (with_session s sessions)
inserted s [] n = refl
inserted s (t ∷ sessions) n = go (slice_cmp nat_cmp s.name t.name) refl (inserted s sessions n.1)
  where
    go : (o : Ordering) → slice_cmp nat_cmp s.name t.name ≡ o → insert_entry (slice_cmp nat_cmp) (map idle_seat sessions) s.name (idle_seat s).1 ≡ map idle_seat (with_session s sessions)
        → insert_entry (slice_cmp nat_cmp) (map idle_seat (t ∷ sessions)) s.name (idle_seat s).1 ≡ map idle_seat (with_session s (t ∷ sessions))
    go Less e rest = rw e refl
    go Equal e rest = let same : is_named s.name t.name ≡ true = rw e refl in absurd (n.0 (same_name s.name t.name same))
    go Greater e rest = rw e (ap (λ l. idle_seat t ∷ l) rest)

names_after : (sessions : List Session) (n : ℕ) (d : Session) → Distinct (session_names sessions) → n < length sessions → AllIn (λ t. (get_or sessions n d).name ≢ t.name) (drop (suc n) sessions)
names_after [] n d once lt = absurd (omega arith)
names_after (s ∷ sessions) zero d once lt = all_of_image (λ y. s.name ≢ y) (λ t. t.name) sessions once.0
names_after (s ∷ sessions) (suc n) d once lt = names_after sessions n d once.1 (omega arith)

-- the session of a turn, where they are taken from the last one to the first
module _ {X : Type 0} (region : ℕ) (sessions : List Session) (once : Distinct (session_names sessions)) (so_far : List X) (one : X) (s : Session)
    (turn : (length so_far < length (reverse sessions)) × (s ≡ get_or (reverse sessions) (length so_far) s)) where
  abbrev n : ℕ
  n = length sessions - 1 - length so_far

  some_left : length so_far < length sessions
  some_left = omega (arith, turn.0, length-reverse sessions)

  within : n < length sessions
  within = omega (arith, some_left)

  is : s ≡ get_or sessions n s
  is = turn.1 ∙ get_or-reverse sessions (length so_far) s some_left

  after : suc n ≡ length sessions - length so_far
  after = omega (arith, some_left)

  -- the sessions of as many turns as these: the last ones
  abbrev taken_in : List X → List Session
  taken_in turns = drop (length sessions - length turns) sessions

  parts : taken_in (so_far ++ one ∷ []) ≡ s ∷ taken_in so_far
  parts =
      let here : length sessions - length (so_far ++ one ∷ []) ≡ n = omega (arith, some_left, length-append so_far (one ∷ [])) in
      let next : n + 1 ≡ length sessions - length so_far = omega (arith, after) in
      ap (λ k. drop k sessions) here ∙ drop_more sessions n s within ∙ ap (λ x. x ∷ drop (n + 1) sessions) (sym is) ∙ ap (λ k. s ∷ drop k sessions) next

  -- it is one of the region's
  pub gathered : s.region ≡ region → insert_entry (slice_cmp nat_cmp) (map idle_seat (sessions_at region (taken_in so_far))) s.name (idle_seat s).1
      ≡ map idle_seat (sessions_at region (taken_in (so_far ++ one ∷ [])))
  gathered here =
      let new : AllIn (λ t. s.name ≢ t.name) (taken_in so_far) =
      subst (λ k. AllIn (λ t. s.name ≢ t.name) (drop k sessions)) after
      (subst (λ x. AllIn (λ t. x.name ≢ t.name) (drop (suc n) sessions)) (sym is) (names_after sessions n s once within)) in
      inserted s (sessions_at region (taken_in so_far)) (sessions_at_all (λ t. s.name ≢ t.name) region (taken_in so_far) new)
      ∙ sym (ap (λ l. map idle_seat (sessions_at region l)) parts ∙ rw (eq-eqb s.region region here) refl)

  -- with a copy of it put among them, the seats are those of one session more
  pub put_among : (put old : List (Bytes × Seat)) (name : Bytes) (calls : List Ranked) → s.region ≡ region → old ≡ map idle_seat (sessions_at region (taken_in so_far))
      → name ≡ s.name → calls ≡ s.calls → put ≡ insert_entry (slice_cmp nat_cmp) old name (record { calls = calls; answered = 0; waits = None })
      → put ≡ map idle_seat (sessions_at region (taken_in (so_far ++ one ∷ [])))
  put_among put old name calls here same named copied more =
      more ∙ (λ j. insert_entry (slice_cmp nat_cmp) (same j) (named j) (record { calls = copied j; answered = 0; waits = None })) ∙ gathered here

  -- it is not
  pub passed_over : s.region ≢ region
      → sessions_at region (taken_in so_far) ≡ sessions_at region (taken_in (so_far ++ one ∷ []))
  passed_over away =
      let not : eqb s.region region ≡ false = false_from_ne_true (eqb s.region region) (λ e. away (eqb-true s.region region e)) in
      sym (ap (sessions_at region) parts ∙ rw not refl)

-- where a session that stands soundly is put in the place of another, all do

pub put_sound : (entries : List (Bytes × Seat)) (name : Bytes) (seat : Seat) → AllIn (λ p. IsSoundSeat p.1) entries → IsSoundSeat seat → AllIn (λ p. IsSoundSeat p.1) (set_value (is_named name) entries seat)
put_sound [] name seat a sound = tt
put_sound (p ∷ entries) name seat a sound = go (cases_Bool (is_named name p.0)) (put_sound entries name seat a.1 sound)
  where
    go : (is_named name p.0 ≡ true) ⊎ (is_named name p.0 ≡ false) → AllIn (λ q. IsSoundSeat q.1) (set_value (is_named name) entries seat)
        → AllIn (λ q. IsSoundSeat q.1) (set_value (is_named name) (p ∷ entries) seat)
    go (inl y) rest = rw y (sound, a.1)
    go (inr n) rest = rw n (a.0, rest)

-- names ascend, so that each finds its own session

ascends_of : (x : Bytes × Seat) (entries : List (Bytes × Seat)) → AllByRecursion (λ y. slice_cmp nat_cmp x.0 y ≡ Less) (keys_of entries) → AllIn (λ p. KeyBefore x.0 p.0) entries
ascends_of x [] a = tt
ascends_of x (p ∷ entries) a = (a.0, ascends_of x entries a.1)

-- as the map has it
pub ascends : (entries : List (Bytes × Seat)) → IsStrictlySortedBy (slice_cmp nat_cmp) (keys_of entries) → HasAscendingKeys entries
unfolding IsStrictlySortedBy
ascends [] a = tt
ascends (p ∷ entries) a = (ascends_of p entries a.0, ascends entries a.1)

-- another session in the place of one of its name leaves the names
pub put_ascends : (entries : List (Bytes × Seat)) (name : Bytes) (seat : Seat) → HasAscendingKeys entries → HasAscendingKeys (set_value (is_named name) entries seat)
put_ascends entries name seat a =
    each_of_image KeyBefore (λ p. p.0) (set_value (is_named name) entries seat)
    (subst (EachThen KeyBefore) (sym (keys-set_value (is_named name) entries seat)) (each_image KeyBefore (λ p. p.0) entries a))

pub put_sound_seat : (entries : List (Bytes × Seat)) (name : Bytes) (seat : Seat) → AreSoundSeats entries → IsSoundSeat seat → AreSoundSeats (set_value (is_named name) entries seat)
put_sound_seat entries name seat a sound = record {
  few = subst (λ n. n < 2 ^ 32) (sym (length-set_value (is_named name) entries seat)) a.few;
  ascending = put_ascends entries name seat a.ascending;
  each = put_sound entries name seat a.each sound;
}

-- a session is found by its name
pub seat_found : (entries : List (Bytes × Seat)) (p : Bytes × Seat) → HasAscendingKeys entries → Has entries p → lookup (is_named p.0) entries ≡ Some p.1
seat_found [] p a h = absurd h
seat_found (q ∷ entries) p a (inl e) =
    let own : is_named p.0 q.0 ≡ true = ap (λ x. is_named p.0 x.0) e ∙ sym (texts_ties p.0 p.0) ∙ same_key_self p.0 in
    rw own (ap (λ x. Some x.1) e)
seat_found (q ∷ entries) p a (inr h) =
    let other : is_named p.0 q.0 ≡ false = sym (texts_ties p.0 q.0) ∙ same_key_after p.0 q.0 (all_get (λ x. KeyBefore q.0 x.0) entries a.0 p h) in
    rw other (seat_found entries p a.1 h)

-- the session of the name at a place is the one that stands there

pub stands_at : (s : SessionsView) (index : ℕ) (p : Bytes × Seat) → HasAscendingKeys s.seats → slice_get s.seats index ≡ Some p → seat_of s p.0 ≡ Some p.1
stands_at s index p a e = seat_found s.seats p a (has_place s.seats index p e)

-- what a place of the list has

pub get_seat : (entries : List (Bytes × Seat)) (i : ℕ) (p : Bytes × Seat) → slice_get entries i ≡ Some p → slice_get (map (λ q. q.1) entries) i ≡ Some p.1
get_seat [] i p e = cc
get_seat (q ∷ entries) zero p e = ap (option_map (λ x. x.1)) e
get_seat (q ∷ entries) (suc i) p e = get_seat entries i p e

-- the session at a place has a name
pub named_at : (entries : List (Bytes × Seat)) (i : ℕ) (seat : Seat) → slice_get (map (λ p. p.1) entries) i ≡ Some seat → (name : Bytes) × (slice_get entries i ≡ Some (name, seat))
named_at [] i seat e = cc
named_at (p ∷ entries) zero seat e = (p.0, ap (λ x. Some (p.0, x)) (same_Some _ _ e))
named_at (p ∷ entries) (suc i) seat e = named_at entries i seat e

-- of a place that has this name and this session
pub at_place : (entries : List (Bytes × Seat)) (i : ℕ) (name : Bytes) (seat : Seat) → slice_get (map (λ p. p.0) entries) i ≡ Some name → slice_get (map (λ p. p.1) entries) i ≡ Some seat
    → slice_get entries i ≡ Some (name, seat)
at_place [] i name seat n e = cc
at_place (p ∷ entries) zero name seat n e = λ j. Some (same_Some _ _ n j, same_Some _ _ e j)
at_place (p ∷ entries) (suc i) name seat n e = at_place entries i name seat n e

pub sound_at : (entries : List (Bytes × Seat)) (i : ℕ) (p : Bytes × Seat) → AreSoundSeats entries → slice_get entries i ≡ Some p → IsSoundSeat p.1
sound_at entries i p a e = all_get (λ q. IsSoundSeat q.1) entries a.each p (has_place entries i p e)

-- another session in the place of one is in that of its name
pub written_there : (entries : List (Bytes × Seat)) (i : ℕ) (p : Bytes × Seat) (seat : Seat) → HasAscendingKeys entries → slice_get entries i ≡ Some p
    → set_value_at entries i seat ≡ set_value (is_named p.0) entries seat
written_there [] i p seat a e = cc
written_there (q ∷ entries) zero p seat a e =
    let same : q ≡ p = same_Some _ _ e in
    let own : is_named p.0 q.0 ≡ true = ap (λ x. is_named p.0 x.0) same ∙ sym (texts_ties p.0 p.0) ∙ same_key_self p.0 in
    rw own refl
written_there (q ∷ entries) (suc i) p seat a e =
    let other : is_named p.0 q.0 ≡ false = sym (texts_ties p.0 q.0) ∙ same_key_after p.0 q.0 (all_get (λ x. KeyBefore q.0 x.0) entries a.0 p (has_place entries i p e)) in
    rw other (ap (λ l. q ∷ l) (written_there entries i p seat a.1 e))

-- names are told apart by `==`, as the map does, as they are by their order

pub looked_up : (entries : List (Bytes × Seat)) (name : Bytes) → lookup (same_key name) entries ≡ lookup (is_named name) entries
looked_up entries name = ap (λ test. lookup test entries) (λ j other. texts_ties name other j)

-- where it finds none, there is no session of that name
pub not_placed : (entries : List (Bytes × Seat)) (name : Bytes) → false ≡ is_some (lookup (same_key name) entries) → lookup (is_named name) entries ≡ None
not_placed entries name e = sym (looked_up entries name) ∙ not_some (lookup (same_key name) entries) e

-- what follows where the session of a name is found, and another is put in its place
module _ (s v : SessionsView) (is : s ≡ v) (name : Bytes) (seat : Seat) (found : seat_of s name ≡ Some seat) where
  pub end_legal : (last : Option Outcome) (b : Bool) → (IsTrue b ↔ MaySeatEnd s.tries (Some seat) last) → IsTrue b ↔ MayBeAnswered v name last
  end_legal last b e = subst (λ x. IsTrue b ↔ MayBeAnswered x name last) is (subst (λ o. IsTrue b ↔ MaySeatEnd s.tries o last) (sym found) e)

  pub try_legal : (last : Option Outcome) → MayGo v name last → MaySeatTry s.tries (Some seat) last
  try_legal last may = subst (λ o. MaySeatTry s.tries o last) found (subst (λ x. MayGo x name last) (sym is) may)

  module _ (seats : List (Bytes × Seat)) (now : Seat) (put : seats ≡ set_value (is_named name) s.seats now) where
    pub unchanged : now ≡ seat → record s { seats = seats } ≡ v
    unchanged e = ap (λ l. record s { seats = l }) (put ∙ ap (set_value (is_named name) s.seats) e ∙ set_value_same (is_named name) s.seats seat found) ∙ is

    pub answered_now : now ≡ answered_seat seat → record s { seats = seats } ≡ after_answer v name
    answered_now e =
        ap (λ l. record s { seats = l }) (put ∙ ap (set_value (is_named name) s.seats) e)
        ∙ ap (with_changed answered_seat s name) (sym found) ∙ ap (λ x. after_answer x name) is

    pub waits_now : (id : TxnId) → now ≡ waiting seat id → record s { seats = seats } ≡ after_wait v name id
    waits_now id e =
        ap (λ l. record s { seats = l }) (put ∙ ap (set_value (is_named name) s.seats) e)
        ∙ ap (with_changed (λ x. waiting x id) s name) (sym found) ∙ ap (λ x. after_wait x name id) is

-- the name that follows others is not among them
not_before : (done : List (Bytes × Seat)) (p : Bytes × Seat) (rest : List (Bytes × Seat)) → HasAscendingKeys (done ++ p ∷ rest) → lookup (same_key p.0) done ≡ None
not_before [] p rest a = refl
not_before (q ∷ done) p rest a =
    let before : KeyBefore q.0 p.0 = all_get (λ x. KeyBefore q.0 x.0) (done ++ p ∷ rest) a.0 p (has_middle done p rest) in
    rw (same_key_after p.0 q.0 before) (not_before done p rest a.1)

-- so where the sessions of a sorted list are put into the map one after another, each goes last
pub goes_last : {S : Type 0} (done : IndexMap Bytes Seat S) (p : Bytes × Seat) (rest left whole : List (Bytes × Seat)) → left ≡ p ∷ rest → IsStrictlySortedBy (slice_cmp nat_cmp) (keys_of whole)
    → done.entries ++ left ≡ whole → insert_last same_key done.entries p.0 p.1 ++ rest ≡ whole
goes_last done p rest left whole first sorted e =
    let all : done.entries ++ p ∷ rest ≡ whole = ap (λ l. done.entries ++ l) (sym first) ∙ e in
    ap (λ l. l ++ rest) (insert_entry-new same_key done p.0 p.1 (not_before done.entries p rest (subst HasAscendingKeys (sym all) (ascends whole sorted))))
    ∙ append_assoc done.entries (p ∷ []) rest ∙ all

-- what holds of each session that a name finds holds of all, and back

found_answered : (entries : List (Bytes × Seat)) (name : Bytes) (seat : Seat) → AllIn (λ p. p.1.answered ≡ length p.1.calls) entries → lookup (is_named name) entries ≡ Some seat
    → seat.answered ≡ length seat.calls
found_answered [] name seat a e = cc
found_answered (p ∷ entries) name seat a e = go (cases_Bool (is_named name p.0)) (found_answered entries name seat a.1)
  where
    go : (is_named name p.0 ≡ true) ⊎ (is_named name p.0 ≡ false) → (lookup (is_named name) entries ≡ Some seat → seat.answered ≡ length seat.calls) → seat.answered ≡ length seat.calls
    go (inl y) f = let here : ◌≡◌ {A = Option Seat} (Some p.1) (Some seat) = rw y at e in let same : p.1 ≡ seat = cc in subst (λ (x : Seat). x.answered ≡ length x.calls) same a.0
    go (inr n) f = f (rw n at e)

pub names_answered : (s : SessionsView) → AreAllAnswered s → EachNameIsAnswered s
names_answered s a name seat found = found_answered s.seats name seat a found

pub answered_of_names : (s : SessionsView) → HasAscendingKeys s.seats → EachNameIsAnswered s → AreAllAnswered s
answered_of_names s a each = all_put _ s.seats (λ p h. each p.0 p.1 (seat_found s.seats p a h))

-- what holds of each place holds along the sessions, and back

pub all_of_places : (P : Bytes × Seat → Type 0) (entries : List (Bytes × Seat)) → All P entries → AllIn P entries
all_of_places P [] a = tt
all_of_places P (p ∷ entries) a = (a 0 p (omega arith), all_of_places P entries (λ k d lt. a (suc k) d (omega arith)))

pub places_of_all : (P : Bytes × Seat → Type 0) (entries : List (Bytes × Seat)) → AllIn P entries → All P entries
places_of_all P [] a k d lt = absurd (omega arith)
places_of_all P (p ∷ entries) a zero d lt = a.0
places_of_all P (p ∷ entries) a (suc k) d lt = places_of_all P entries a.1 k d (omega arith)

-- before anything happens, a name finds the session of the workload that has it at the region

idle_with : (name : Bytes) (s : Session) (sessions : List Session) → AllIn (λ t. s.name ≢ t.name) sessions
    → lookup (is_named name) (map idle_seat (with_session s sessions)) ≡ cond (is_named name s.name) (Some (idle_seat s).1) (lookup (is_named name) (map idle_seat sessions))
idle_with name s [] n = refl
idle_with name s (t ∷ sessions) n = go (cases_Bool (is_lt (slice_cmp nat_cmp s.name t.name))) (cases_Bool (is_named name s.name)) (cases_Bool (is_named name t.name)) (idle_with name s sessions n.1)
  where
    go : (is_lt (slice_cmp nat_cmp s.name t.name) ≡ true) ⊎ (is_lt (slice_cmp nat_cmp s.name t.name) ≡ false)
        → (is_named name s.name ≡ true) ⊎ (is_named name s.name ≡ false) → (is_named name t.name ≡ true) ⊎ (is_named name t.name ≡ false)
        → lookup (is_named name) (map idle_seat (with_session s sessions)) ≡ cond (is_named name s.name) (Some (idle_seat s).1) (lookup (is_named name) (map idle_seat sessions))
        → lookup (is_named name) (map idle_seat (with_session s (t ∷ sessions)))
        ≡ cond (is_named name s.name) (Some (idle_seat s).1) (lookup (is_named name) (map idle_seat (t ∷ sessions)))
    go (inl y) a b rest = rw y refl
    go (inr m) (inl a) (inl b) rest = absurd (n.0 (sym (same_name name s.name a) ∙ same_name name t.name b))
    go (inr m) (inl a) (inr b) rest = rw m (rw b (rest))
    go (inr m) (inr a) (inl b) rest = rw m (rw a (rw b refl))
    go (inr m) (inr a) (inr b) rest = rw m (rw b rest)

pub idle_found : (region : ℕ) (name : Bytes) (sessions : List Session) → Distinct (session_names sessions)
    → lookup (is_named name) (map idle_seat (sessions_at region sessions)) ≡ option_map (λ (x : Session × Place). (idle_seat x.0).1) (session_at sessions (map (λ s. idle_place) sessions) region name)
idle_found region name [] once = refl
idle_found region name (s ∷ sessions) once = go (cases_Bool (s.region == region)) (cases_Bool (same_key s.name name)) (idle_found region name sessions once.1)
  where
    away : AllIn (λ t. s.name ≢ t.name) (sessions_at region sessions)
    away = sessions_at_all (λ t. s.name ≢ t.name) region sessions (all_of_image (λ y. s.name ≢ y) (λ t. t.name) sessions once.0)

    named : same_key s.name name ≡ true → is_named name s.name ≡ true
    named e = sym (texts_ties name s.name) ∙ (bytes_decides name s.name).1 (sym ((bytes_decides s.name name).0 e))

    not_named : same_key s.name name ≡ false → is_named name s.name ≡ false
    not_named e = false_from_ne_true (is_named name s.name) (λ y. let no : ◌≡◌ {A = Bool} true false = sym ((bytes_decides s.name name).1 (sym (same_name name s.name y))) ∙ e in cc)

    go : ((s.region == region) ≡ true) ⊎ ((s.region == region) ≡ false) → (same_key s.name name ≡ true) ⊎ (same_key s.name name ≡ false)
        → lookup (is_named name) (map idle_seat (sessions_at region sessions)) ≡ option_map (λ (x : Session × Place). (idle_seat x.0).1) (session_at sessions (map (λ t. idle_place) sessions) region name)
        → lookup (is_named name) (map idle_seat (sessions_at region (s ∷ sessions)))
        ≡ option_map (λ (x : Session × Place). (idle_seat x.0).1) (session_at (s ∷ sessions) (map (λ t. idle_place) (s ∷ sessions)) region name)
    go (inl y) (inl z) rest = rw y (idle_with name s (sessions_at region sessions) away ∙ rw (named z) (rw z refl))
    go (inl y) (inr z) rest = rw y (idle_with name s (sessions_at region sessions) away ∙ rw (not_named z) (rw z rest))
    go (inr n) (inl z) rest = rw n (rw z rest)
    go (inr n) (inr z) rest = rw n (rw z rest)
