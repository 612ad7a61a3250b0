-- The sessions of a region in byte order of names: what a session finds there, and that the order is of one kind only, so that a
-- node before anything happens has its sessions in the order of the workload's names.
use Rattle.std.proofs.Common.{◌≡◌, ◌≢◌, ◌⊎◌, ◌==◌, ℕ, zero, suc, Bool, true, false, List, [], ◌∷◌, map, drop, slice_get, Some, refl, sym, ap, subst, ◌∙◌, inl, inr}
use Rattle.std.specs.declared.cmp.Ordering.{Ordering}
use Rattle.std.specs.declared.cmp.Ordering.TheVariants.{Less, Equal, Greater}
use Rattle.std.specs.Ordering.{nat_cmp}
use Rattle.std.specs.Cmp.Lexicographic.{slice_cmp, texts_ties}
use Rattle.std.specs.Map.{lookup, set_value}
use Rattle.std.proofs.lemmas.Bool.{cases_Bool}
use Rattle.std.proofs.lemmas.Cmp.{nat_list_cmp_total}
use Rattle.dt_lists.specs.Lists.{AllIn, Distinct, EachThen, Has}
use Rattle.dt_lists.proofs.Callers.{all_get, all_map, all_of_image, ascending_same, each_image, has_place, lookup_has}
use Rattle.dt_access.specs.Clash.{Bytes}
use Rattle.dt_access.specs.Orders.{HasAscendingKeys, KeyBefore}
use Rattle.dt_access.proofs.Callers.{key_before_flip, same_key_after, same_key_self}
use Rattle.dt_cluster.specs.declared.Cluster.{Cluster}
use Rattle.dt_workload.specs.Valid.{session_names}
use Rattle.dt_workload.specs.declared.Session.{Session}
use Rattle.dt_workload.specs.declared.Workload.{Workload}
use Rattle.dt_session.specs.declared.sessions.Seat.{Seat}
use Rattle.dt_session.specs.Eager.{sessions_at, with_session}
use Rattle.dt_session.specs.Sessions.{idle_seat, is_named}
use Rattle.dt_session.proofs.Callers.{same_name, seat_found, sessions_at_all, with_session_all}
use Rattle.dt_site.proofs.Callers.{opening_sessions_stand}
use Rattle.dt_node.specs.NodeView.{NodeView, number_of}
use Rattle.dt_node.specs.NodeInWorld.{NodeFits}

-- a name is not before itself
pub not_before : (name : Bytes) → ¬ (KeyBefore name name)
not_before name h = let no : ◌≡◌ {A = Bool} true false = sym (same_key_self name) ∙ same_key_after name name h in cc

-- a name is not one that stands before it
not_earlier : (name earlier : Bytes) → KeyBefore earlier name → is_named name earlier ≡ false
not_earlier name earlier h = sym (texts_ties name earlier) ∙ same_key_after name earlier h

own_name : (name : Bytes) → is_named name name ≡ true
own_name name = sym (texts_ties name name) ∙ same_key_self name

-- only a session that is there is found by its name
has_found : (seats : List (Bytes × Seat)) (name : Bytes) (seat : Seat) → lookup (is_named name) seats ≡ Some seat → Has seats (name, seat)
has_found seats name seat e = lookup_has (is_named name) name (λ other y. sym (same_name name other y)) seats seat e

-- sessions in byte order of names that are found alike are the same
same_seats : (xs ys : List (Bytes × Seat)) → HasAscendingKeys xs → HasAscendingKeys ys → ((name : Bytes) → lookup (is_named name) xs ≡ lookup (is_named name) ys) → xs ≡ ys
same_seats xs ys a b same =
    ascending_same (λ p q. KeyBefore p.0 q.0) (λ p. not_before p.0) (λ p q r. nat_list_cmp_total.trans p.0 q.0 r.0) xs ys a b
    (λ p h. has_found ys p.0 p.1 (sym (same p.0) ∙ seat_found xs p a h)) (λ p h. has_found xs p.0 p.1 (same p.0 ∙ seat_found ys p b h))

-- another session in the place of one changes none of those behind it
pub set_behind : (seats : List (Bytes × Seat)) (place : ℕ) (p : Bytes × Seat) (seat : Seat) → HasAscendingKeys seats → slice_get seats place ≡ Some p
    → drop (suc place) (set_value (is_named p.0) seats seat) ≡ drop (suc place) seats
set_behind [] place p seat a e = cc
set_behind (q ∷ seats) zero p seat a e =
    let same : q ≡ p = cc in
    let own : is_named p.0 q.0 ≡ true = ap (λ x. is_named p.0 x.0) same ∙ own_name p.0 in
    rw own refl
set_behind (q ∷ seats) (suc place) p seat a e =
    let other : is_named p.0 q.0 ≡ false = not_earlier p.0 q.0 (all_get (λ x. KeyBefore q.0 x.0) seats a.0 p (has_place seats place p e)) in
    rw other (set_behind seats place p seat a.1 e)

-- the sessions of a region are gathered in byte order of names

abbrev AreOrdered : List Session → Type 0
AreOrdered sessions = EachThen (λ s t. KeyBefore s.name t.name) sessions

with_ordered : (s : Session) (sessions : List Session) → AllIn (λ t. s.name ≢ t.name) sessions → AreOrdered sessions → AreOrdered (with_session s sessions)
with_ordered s [] n o = (tt, tt)
with_ordered s (t ∷ sessions) n o = go (slice_cmp nat_cmp s.name t.name) refl (with_ordered s sessions n.1 o.1)
  where
    go : (c : Ordering) → slice_cmp nat_cmp s.name t.name ≡ c → AreOrdered (with_session s sessions) → AreOrdered (with_session s (t ∷ sessions))
    go Less e rest =
        let is : with_session s (t ∷ sessions) ≡ s ∷ t ∷ sessions = rw e refl in
        subst AreOrdered (sym is) ((e, all_map _ _ sessions (λ u h. nat_list_cmp_total.trans s.name t.name u.name e h) o.0), o)
    go Equal e rest = let same : is_named s.name t.name ≡ true = rw e refl in absurd (n.0 (same_name s.name t.name same))
    go Greater e rest =
        let is : with_session s (t ∷ sessions) ≡ t ∷ with_session s sessions = rw e refl in
        subst AreOrdered (sym is) (with_session_all (λ u. KeyBefore t.name u.name) s sessions (key_before_flip s.name t.name e) o.0, rest)

region_ordered : (region : ℕ) (sessions : List Session) → Distinct (session_names sessions) → AreOrdered (sessions_at region sessions)
region_ordered region [] once = tt
region_ordered region (s ∷ sessions) once = go (cases_Bool (s.region == region)) (region_ordered region sessions once.1)
  where
    go : ((s.region == region) ≡ true) ⊎ ((s.region == region) ≡ false) → AreOrdered (sessions_at region sessions) → AreOrdered (sessions_at region (s ∷ sessions))
    go (inl y) rest = rw y (with_ordered s (sessions_at region sessions) (sessions_at_all (λ t. s.name ≢ t.name) region sessions (all_of_image (λ y. s.name ≢ y) (λ t. t.name) sessions once.0)) rest)
    go (inr n) rest = rw n rest

-- before anything happens a node has its region's sessions, all of them idle
pub opening_seats : {cluster : Cluster} {workload : Workload} {a : NodeView} → NodeFits cluster workload [] a → HasAscendingKeys a.sessions.seats
    → a.sessions.seats ≡ map idle_seat (sessions_at (number_of a) workload.sessions)
opening_seats {cluster} {workload} {a} f ascending =
    let own = sessions_at (number_of a) workload.sessions in
    same_seats a.sessions.seats (map idle_seat own) ascending
    (each_image (λ (p q : Bytes × Seat). KeyBefore p.0 q.0) idle_seat own (region_ordered (number_of a) workload.sessions f.run.fits.names_once))
    (λ name. f.sessions.seats name ∙ sym ((opening_sessions_stand cluster workload (number_of a) f.run.fits.names_once).seats name))
