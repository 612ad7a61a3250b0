-- What the sessions say of the one at a place: its name, and that its calls are numbered from 1.
use Rattle.std.proofs.Common.{◌≡◌, ◌<◌, ◌≤◌, ◌+◌, ℕ, List, length, map, slice_get, Some, None, sym, ap, subst, arith}
use Rattle.std.specs.Prelude.{Option, option_map}
use Rattle.std.proofs.lemmas.List.{length-map}
use Rattle.std.proofs.lemmas.Option.{same_Some}
use Rattle.dt_lists.proofs.Callers.{at_place}
use Rattle.dt_access.specs.Clash.{Bytes}
use Rattle.dt_txn.specs.declared.Outcome.{Outcome}
use Rattle.dt_session.specs.declared.sessions.Seat.{Seat}
use Rattle.dt_session.specs.Sessions.{IsNext, SessionsView, numbers_next, seat_of}

-- a session stands at each place before their number
pub name_at : {A : Type 0} (seats : List (Bytes × A)) (index : ℕ) → index < length seats → (name : Bytes) × (slice_get (map (λ p. p.0) seats) index ≡ Some name)
name_at seats index lt = at_place (map (λ p. p.0) seats) index (subst (λ n. index < n) (sym (length-map seats (λ p. p.0))) lt)

pub no_name_at : {A : Type 0} (seats : List (Bytes × A)) (index : ℕ) → index < length seats → ¬ (None ≡ slice_get (map (λ p. p.0) seats) index)
no_name_at seats index lt none = let there = name_at seats index lt in cc (there.1, none)

-- what comes next is a call from the first on
pub call_from : (s : SessionsView) (name : Bytes) (last : Option Outcome) (call attempt : ℕ) → IsNext s name last (Some (call, attempt)) → 1 ≤ call
call_from s name last call attempt is = go (seat_of s name) is.1
  where
    go : (o : Option Seat) → option_map numbers_next o ≡ Some (call, attempt) → 1 ≤ call
    go None e = cc
    go (Some seat) e =
        let same : ◌≡◌ {A = ℕ × ℕ} (numbers_next seat) (call, attempt) = same_Some _ _ e in
        let number : seat.answered + 1 ≡ call = ap (λ n. n.0) same in
        omega (arith, number)
