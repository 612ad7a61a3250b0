-- The places of sessions: one is looked up by its name and region, and one is changed.
use Rattle.std.proofs.Common.{◌≡◌, ◌≢◌, ◌⊎◌, ◌+◌, ℕ, Bool, true, false, cond, eqb, List, [], ◌∷◌, length, map, Some, refl, sym, ap, subst, ◌∙◌, inl, inr, arith, eqb-true, eq-eqb}
use Rattle.std.specs.Prelude.{Option, sum_by}
use Rattle.std.proofs.lemmas.Bool.{cases_Bool, and_parts, false_from_ne_true}
use Rattle.std.proofs.lemmas.Option.{some_pair_parts}
use Rattle.std.proofs.lemmas.List.Sums.{sum_by-cons}
use Rattle.dt_lists.specs.Lists.{Has, Distinct, Pairwise}
use Rattle.dt_lists.proofs.Callers.{has_map, all_get}
use Rattle.dt_access.specs.Clash.{Bytes, same_key}
use Rattle.dt_access.proofs.Callers.{key_of_test, test_of_key}
use Rattle.dt_workload.specs.declared.Session.{Session}
use Rattle.dt_session.specs.World.{Place, is_session, session_at, with_place}

pub session_of_test : (region : ℕ) (name : Bytes) (s : Session) → is_session region name s ≡ true → (s.name ≡ name) × (s.region ≡ region)
session_of_test region name s e =
    let r : (same_key s.name name ≡ true) × (eqb s.region region ≡ true) = and_parts (same_key s.name name) (eqb s.region region) e in
    (key_of_test s.name name r.0, eqb-true s.region region r.1)

-- the session that is found has the name that is looked for
pub found_is_named : (sessions : List Session) (places : List Place) (region : ℕ) (name : Bytes) (s : Session) (p : Place) → session_at sessions places region name ≡ Some (s, p) → s.name ≡ name
found_is_named [] places region name s p e = cc
found_is_named (t ∷ sessions) [] region name s p e = cc
found_is_named (t ∷ sessions) (x ∷ places) region name s p e = go (cases_Bool (is_session region name t)) (found_is_named sessions places region name s p)
  where
    go : (is_session region name t ≡ true) ⊎ (is_session region name t ≡ false) → (session_at sessions places region name ≡ Some (s, p) → s.name ≡ name) → s.name ≡ name
    go (inl y) f =
        let is : ◌≡◌ {A = Option (Session × Place)} (Some (t, x)) (Some (s, p)) = rw y at e in
        ap (λ z. z.name) (sym (some_pair_parts t s x p is).0) ∙ (session_of_test region name t y).0
    go (inr n) f = f (rw n at e)

-- the session that is found has the name and the region, and what holds of all sessions with their places holds of it
pub session_found : (P : Session → Place → Type 0) (sessions : List Session) (places : List Place) (region : ℕ) (name : Bytes) (s : Session) (p : Place) → Pairwise P sessions places
    → session_at sessions places region name ≡ Some (s, p) → Has sessions s × (s.name ≡ name) × (s.region ≡ region) × P s p
session_found P [] places region name s p a e = cc
session_found P (t ∷ sessions) [] region name s p a e = absurd a
session_found P (t ∷ sessions) (x ∷ places) region name s p a e = go (cases_Bool (is_session region name t)) (session_found P sessions places region name s p a.1)
  where
    go : (is_session region name t ≡ true) ⊎ (is_session region name t ≡ false) → (session_at sessions places region name ≡ Some (s, p) → Has sessions s × (s.name ≡ name) × (s.region ≡ region) × P s p)
        → Has (t ∷ sessions) s × (s.name ≡ name) × (s.region ≡ region) × P s p
    go (inl q) f =
        let is : ◌≡◌ {A = Option (Session × Place)} (Some (t, x)) (Some (s, p)) = rw q at e in
        let st : t ≡ s = (some_pair_parts t s x p is).0 in
        let xp : x ≡ p = (some_pair_parts t s x p is).1 in
        let r : (t.name ≡ name) × (t.region ≡ region) = session_of_test region name t q in
        (inl st, ap (λ y. y.name) (sym st) ∙ r.0, ap (λ y. y.region) (sym st) ∙ r.1, subst (λ y. P s y) xp (subst (λ y. P y x) st a.0))
    go (inr n) f = let r : Has sessions s × (s.name ≡ name) × (s.region ≡ region) × P s p = f (rw n at e) in (inr r.0, r.1, r.2, r.3)

-- a session's own place is found by its name and region: so what holds of each that is found holds of all sessions with their places
pub each_found : (P : Session → Place → Type 0) (sessions : List Session) (places : List Place) → length places ≡ length sessions → Distinct (map (λ s. s.name) sessions)
    → ((t : Session) → Has sessions t → (p : Place) → session_at sessions places t.region t.name ≡ Some (t, p) → P t p) → Pairwise P sessions places
each_found P [] [] same once g = tt
each_found P [] (p ∷ places) same once g = absurd (omega (arith, same))
each_found P (s ∷ sessions) [] same once g = absurd (omega (arith, same))
each_found P (s ∷ sessions) (p ∷ places) same once g = (g s (inl refl) p (rw own refl), each_found P sessions places (omega (arith, same)) once.1 (λ t h q e. g t (inr h) q (rw (away t h) e)))
  where
    own : is_session s.region s.name s ≡ true
    own = rw (test_of_key s.name s.name refl) (eq-eqb s.region s.region refl)

    away : (t : Session) → Has sessions t → is_session t.region t.name s ≡ false
    away t h = false_from_ne_true (is_session t.region t.name s)
        (λ e. all_get _ (map (λ u. u.name) sessions) once.0 t.name (has_map (λ u. u.name) sessions t h) (session_of_test t.region t.name s e).0)

-- the place of the session that is found is changed, and of the others only what holds of other names
pub place_changed : (P Q : Session → Place → Type 0) (sessions : List Session) (places : List Place) (region : ℕ) (name : Bytes) (s : Session) (p place : Place)
    → Distinct (map (λ t. t.name) sessions) → Q s place → ((t : Session) (x : Place) → t.name ≢ s.name → P t x → Q t x)
    → Pairwise P sessions places → session_at sessions places region name ≡ Some (s, p) → Pairwise Q sessions (with_place sessions places region name place)
place_changed P Q [] places region name s p place once q others a e = cc
place_changed P Q (t ∷ sessions) [] region name s p place once q others a e = absurd a
place_changed P Q (t ∷ sessions) (x ∷ places) region name s p place once q others a e = go (cases_Bool (is_session region name t)) (place_changed P Q sessions places region name s p place once.1 q others a.1)
  where
    rest : (sessions : List Session) (places : List Place) → ((u : Session) → Has sessions u → u.name ≢ s.name) → Pairwise P sessions places → Pairwise Q sessions places
    rest [] [] n b = tt
    rest [] (y ∷ ys) n b = b
    rest (u ∷ us) [] n b = b
    rest (u ∷ us) (y ∷ ys) n b = (others u y (n u (inl refl)) b.0, rest us ys (λ v h. n v (inr h)) b.1)

    go : (is_session region name t ≡ true) ⊎ (is_session region name t ≡ false)
        → (session_at sessions places region name ≡ Some (s, p) → Pairwise Q sessions (with_place sessions places region name place))
        → Pairwise Q (t ∷ sessions) (with_place (t ∷ sessions) (x ∷ places) region name place)
    go (inl y) f =
        let is : ◌≡◌ {A = Option (Session × Place)} (Some (t, x)) (Some (s, p)) = rw y at e in
        let st : t ≡ s = (some_pair_parts t s x p is).0 in
        rw y (subst (λ u. Q u place) (sym st) q, rest sessions places (λ u h same. all_get _ (map (λ v. v.name) sessions) once.0 u.name (has_map (λ v. v.name) sessions u h) (ap (λ v. v.name) st ∙ sym same)) a.1)
    go (inr n) f =
        let is : session_at sessions places region name ≡ Some (s, p) = rw n at e in
        let r : Has sessions s × (s.name ≡ name) × (s.region ≡ region) × P s p = session_found P sessions places region name s p a.1 is in
        rw n (others t x (λ same. all_get _ (map (λ v. v.name) sessions) once.0 s.name (has_map (λ v. v.name) sessions s r.0) same) a.0, f is)

-- how many calls are answered in all
abbrev pub answered_in : List Place → ℕ
answered_in places = sum_by (λ (p : Place). p.answered) places

-- where the place of a session is changed, that number changes as the place does
pub answered_changed : (sessions : List Session) (places : List Place) (region : ℕ) (name : Bytes) (s : Session) (p now : Place) → session_at sessions places region name ≡ Some (s, p)
    → answered_in (with_place sessions places region name now) + p.answered ≡ answered_in places + now.answered
answered_changed [] places region name s p now e = cc
answered_changed (t ∷ sessions) [] region name s p now e = cc
answered_changed (t ∷ sessions) (x ∷ places) region name s p now e = by (is_session region name t) (answered_changed sessions places region name s p now) e
  where
    by : (b : Bool) → (session_at sessions places region name ≡ Some (s, p) → answered_in (with_place sessions places region name now) + p.answered ≡ answered_in places + now.answered)
        → cond b (Some (t, x)) (session_at sessions places region name) ≡ Some (s, p)
        → answered_in (cond b (now ∷ places) (x ∷ with_place sessions places region name now)) + p.answered ≡ answered_in (x ∷ places) + now.answered
    by true later e =
        let is : x.answered ≡ p.answered = ap (λ (v : Place). v.answered) (some_pair_parts t s x p e).1 in
        let before = sum_by-cons (λ (v : Place). v.answered) x places in
        let after = sum_by-cons (λ (v : Place). v.answered) now places in
        omega (arith, is, before, after)
    by false later e =
        let rest = later e in
        let before = sum_by-cons (λ (v : Place). v.answered) x places in
        let after = sum_by-cons (λ (v : Place). v.answered) x (with_place sessions places region name now) in
        omega (arith, rest, before, after)
