-- The sessions go on one after another, by their places: what is so of each is so of all.
use Rattle.std.proofs.Common.{◌≡◌, ◌<◌, ◌≤◌, ◌+◌, ◌⊎◌, ℕ, suc, Bool, true, false, ◌||◌, List}
use Rattle.std.proofs.Common.{[], ◌∷◌, length, map, slice_get, Some, None, refl, sym, ap, subst, ◌∙◌, inl, inr, arith}
use Rattle.std.specs.Prelude.{Option}
use Rattle.std.specs.Map.{lookup}
use Rattle.std.proofs.lemmas.Bool.{cases_Bool}
use Rattle.dt_lists.specs.Lists.{Either}
use Rattle.dt_lists.proofs.Callers.{either_nat}
use Rattle.dt_access.specs.Clash.{Bytes}
use Rattle.dt_session.specs.declared.sessions.Seat.{Seat}
use Rattle.dt_session.specs.Sessions.{MaySeatEnd, MaySeatTry, is_named, seat_of}
use Rattle.dt_session.proofs.Callers.{same_name}
use Rattle.dt_node.specs.NodeView.{NodeView}
use Rattle.dt_node.specs.Turn.{MayAnswerAt, MaySubmitAt, last_at}
use Rattle.dt_node.specs.TurnInner.{EndsAll, EndsOne, EndsSoFar, HasGoneOn}

-- one way and then another
pub gone_on_more : {a b c : NodeView} → HasGoneOn a b → HasGoneOn b c → HasGoneOn a c
gone_on_more g h =
    let gl = g.less in let hl = h.less in let gs = g.some in let hs = h.some in
    record { less = omega (arith, gl, hl); some = omega (arith, gs, hs); placed = λ p. h.placed (g.placed p) }

-- no session before the first place
pub ends_none : (May : NodeView → Bytes → Type 0) (a : NodeView) → EndsSoFar May a 0 false a
ends_none May a = (refl, λ place name lt found. absurd (omega (arith, lt)))

-- one session more
pub ends_more : (May : NodeView → Bytes → Type 0) (a b c : NodeView) (index : ℕ) (some one : Bool) → EndsSoFar May a index some b → EndsOne May b index one c → EndsSoFar May a (index + 1) (some || one) c
ends_more May a b c index true true s o = gone_on_more s o
ends_more May a b c index true false s o = subst (HasGoneOn a) (sym o.0) s
ends_more May a b c index false true s o = subst (λ x. HasGoneOn x c) s.0 o
ends_more May a b c index false false s o = (o.0 ∙ s.0, λ place name lt found. go place name lt found (either_nat place index))
  where
    go : (place : ℕ) (name : Bytes) → place < index + 1 → slice_get (map (λ p. p.0) a.sessions.seats) place ≡ Some name → Either (place ≡ index) → ¬ (May a name)
    go place name lt found (inl e) =
        subst (λ x. ¬ (May x name)) s.0 (o.1 name
        (subst (λ (x : NodeView). slice_get (map (λ p. p.0) x.sessions.seats) index ≡ Some name) (sym s.0) (subst (λ i. slice_get (map (λ p. p.0) a.sessions.seats) i ≡ Some name) e found)))
    go place name lt found (inr n) = s.1 place name (omega (arith, lt, n)) found

-- the name stands at some place
abbrev HasPlace : Bytes → List (Bytes × Seat) → Type 0
HasPlace name seats = (place : ℕ) × (place < length seats) × (slice_get (map (λ p. p.0) seats) place ≡ Some name)

-- a session that a name finds stands at some place
pub place_of_name : (name : Bytes) (seats : List (Bytes × Seat)) (seat : Seat) → lookup (is_named name) seats ≡ Some seat → HasPlace name seats
place_of_name name [] seat e = cc
place_of_name name (x ∷ seats) seat e = go (cases_Bool (is_named name x.0)) (place_of_name name seats seat)
  where
    go : (is_named name x.0 ≡ true) ⊎ (is_named name x.0 ≡ false) → (lookup (is_named name) seats ≡ Some seat → HasPlace name seats) → HasPlace name (x ∷ seats)
    go (inl y) later = (0, omega arith, ap Some (sym (same_name name x.0 y)))
    go (inr n) later = let r = later (rw n at e) in (suc r.0, omega (arith, r.1), r.2)

-- where none of them could go on, no session can, under whatever name
module _ (May : NodeView → Bytes → Type 0) (found : (n : NodeView) (name : Bytes) → May n name → (seat : Seat) × (seat_of n.sessions name ≡ Some seat)) where
  pub ends_all : (a b : NodeView) (index : ℕ) (some : Bool) → length a.sessions.seats ≤ index → EndsSoFar May a index some b → EndsAll May a some b
  ends_all a b index true le s = s
  ends_all a b index false le s = (
    s.0,
    λ name may.
        let f = found a name may in let p = place_of_name name a.sessions.seats f.0 f.1 in
        let lt : p.0 < length a.sessions.seats = p.1 in s.1 p.0 name (omega (arith, lt, le)) p.2 may,
  )

pub answer_found : (n : NodeView) (name : Bytes) → MayAnswerAt n name → (seat : Seat) × (seat_of n.sessions name ≡ Some seat)
answer_found n name may = go (seat_of n.sessions name) refl may
  where
    go : (o : Option Seat) → seat_of n.sessions name ≡ o → MaySeatEnd n.sessions.tries o (last_at n name) → (seat : Seat) × (seat_of n.sessions name ≡ Some seat)
    go None e m = absurd m
    go (Some seat) e m = (seat, e)

pub submit_found : (n : NodeView) (name : Bytes) → MaySubmitAt n name → (seat : Seat) × (seat_of n.sessions name ≡ Some seat)
submit_found n name may = go (seat_of n.sessions name) refl may
  where
    go : (o : Option Seat) → seat_of n.sessions name ≡ o → MaySeatTry n.sessions.tries o (last_at n name) → (seat : Seat) × (seat_of n.sessions name ≡ Some seat)
    go None e m = absurd m
    go (Some seat) e m = (seat, e)

pub all_answered : (a b : NodeView) (index : ℕ) (some : Bool) → length a.sessions.seats ≤ index → EndsSoFar MayAnswerAt a index some b → EndsAll MayAnswerAt a some b
all_answered = ends_all MayAnswerAt answer_found

pub all_submitted : (a b : NodeView) (index : ℕ) (some : Bool) → length a.sessions.seats ≤ index → EndsSoFar MaySubmitAt a index some b → EndsAll MaySubmitAt a some b
all_submitted = ends_all MaySubmitAt submit_found
