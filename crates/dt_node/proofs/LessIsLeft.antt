-- Each time a session submits or is answered, less is left for the sessions of its region.
use Rattle.std.proofs.Common.{◌≡◌, ◌<◌, ◌≤◌, ◌+◌, ◌-◌, ◌*◌, ◌⊎◌, ℕ, zero, suc, Bool, true, false, List, [], ◌∷◌, length, Some, None, refl, sym, ap, subst, ◌∙◌, inl, inr, arith}
use Rattle.std.specs.Prelude.{Option, sum_by}
use Rattle.std.specs.Map.{lookup, set_value}
use Rattle.std.proofs.lemmas.Bool.{cases_Bool}
use Rattle.std.proofs.lemmas.List.Sums.{sum_by-cons}
use Rattle.std.proofs.Math.Nat.{suc-mul}
use Rattle.dt_access.specs.Clash.{Bytes}
use Rattle.dt_access.specs.declared.TxnId.{TxnId}
use Rattle.dt_txn.specs.declared.Outcome.{Outcome}
use Rattle.dt_session.specs.declared.sessions.Seat.{Seat}
use Rattle.dt_session.specs.declared.sessions.Waiting.{Waiting}
use Rattle.dt_session.specs.Sessions.{MayBeAnswered, MayGo, MaySeatEnd, MaySeatTry, SessionsView, after_answer, after_wait, answered_seat, is_named, seat_of, waiting, with_changed}
use Rattle.dt_node.specs.MeasureInner.{left_for, left_of}

-- less is left for all where less is left for one, and for no other more
module _ (f : Bytes × Seat → ℕ) (test : Bytes → Bool) (seat now : Seat) (less : (name : Bytes) → f (name, now) < f (name, seat)) where
  -- where the one is found, less is left
  abbrev Falls : List (Bytes × Seat) → Type 0
  Falls seats = lookup test seats ≡ Some seat → sum_by f (set_value test seats now) < sum_by f seats

  sum_falls : (seats : List (Bytes × Seat)) → Falls seats
  sum_falls [] found = cc
  sum_falls (x ∷ seats) found = go (cases_Bool (test x.0)) (sum_falls seats)
    where
      go : (test x.0 ≡ true) ⊎ (test x.0 ≡ false) → Falls seats → sum_by f (set_value test (x ∷ seats) now) < sum_by f (x ∷ seats)
      go (inl y) later =
          let is : Some x.1 ≡ Some seat = rw y at found in
          let same : x.1 ≡ seat = cc in
          let low : f (x.0, now) < f (x.0, x.1) = subst (λ s. f (x.0, now) < f (x.0, s)) (sym same) (less x.0) in
          let a : sum_by f (x ∷ seats) ≡ f x + sum_by f seats = sum_by-cons f x seats in
          let b : sum_by f ((x.0, now) ∷ seats) ≡ f (x.0, now) + sum_by f seats = sum_by-cons f (x.0, now) seats in
          let e : sum_by f (set_value test (x ∷ seats) now) ≡ f (x.0, now) + sum_by f seats = rw y b in
          omega (arith, low, a, e)
      go (inr n) later =
          let rest : sum_by f (set_value test seats now) < sum_by f seats = later (rw n at found) in
          let a : sum_by f (x ∷ seats) ≡ f x + sum_by f seats = sum_by-cons f x seats in
          let b : sum_by f (x ∷ set_value test seats now) ≡ f x + sum_by f (set_value test seats now) = sum_by-cons f x (set_value test seats now) in
          let e : sum_by f (set_value test (x ∷ seats) now) ≡ f x + sum_by f (set_value test seats now) = rw n b in
          omega (arith, rest, a, e)

-- the tries that are left after one more
try_left : (tries attempt : ℕ) → attempt < tries → tries - (attempt + 1) + 1 ≤ tries - attempt
try_left tries attempt lt = omega arith

calls_left : (calls tries : ℕ) → 0 < calls → calls * (tries + 2) ≡ (calls - 1) * (tries + 2) + (tries + 2)
calls_left zero tries some = absurd (omega arith)
calls_left (suc n) tries some = suc-mul n (tries + 2) ∙ ap (λ m. m * (tries + 2) + (tries + 2)) (let e : n ≡ suc n - 1 = omega arith in e)

one_less : (calls answered tries : ℕ) → (calls - (answered + 1)) * (tries + 2) ≡ (calls - answered - 1) * (tries + 2)
one_less calls answered tries = ap (λ n. n * (tries + 2)) (omega arith)

seat_waits : (tries : ℕ) (seat : Seat) (id : TxnId) (last : Option Outcome) → MaySeatTry tries (Some seat) last
    → left_of tries (length seat.calls - seat.answered) (waiting seat id).waits < left_of tries (length seat.calls - seat.answered) seat.waits
seat_waits tries seat id last may = go seat.waits may
  where
    go : (waits : Option Waiting) → MaySeatTry tries (Some (record seat { waits = waits })) last
        → left_of tries (length seat.calls - seat.answered) (waiting (record seat { waits = waits }) id).waits < left_of tries (length seat.calls - seat.answered) waits
    go None m =
        let e = calls_left (length seat.calls - seat.answered) tries (let n : seat.answered < length seat.calls = m in omega arith) in
        omega (arith, e)
    go (Some w) m = let n : w.attempt < tries = m.1 in omega (arith, try_left tries w.attempt n)

seat_ends : (tries : ℕ) (seat : Seat) (last : Option Outcome) → MaySeatEnd tries (Some seat) last
    → left_of tries (length seat.calls - (seat.answered + 1)) None < left_of tries (length seat.calls - seat.answered) seat.waits
seat_ends tries seat last may = go seat.waits may
  where
    go : (waits : Option Waiting) → MaySeatEnd tries (Some (record seat { waits = waits })) last
        → left_of tries (length seat.calls - (seat.answered + 1)) None < left_of tries (length seat.calls - seat.answered) waits
    go None m = absurd m
    go (Some w) m = omega (arith, one_less (length seat.calls) seat.answered tries)

module _ (s : SessionsView) (name : Bytes) (last : Option Outcome) where
  abbrev left_at : Bytes × Seat → ℕ
  left_at p = left_of s.tries (length p.1.calls - p.1.answered) p.1.waits

  pub wait_falls : (id : TxnId) → MayGo s name last → left_for (after_wait s name id) < left_for s
  wait_falls id may = go (seat_of s name) refl may
    where
      go : (o : Option Seat) → seat_of s name ≡ o → MaySeatTry s.tries o last → left_for (with_changed (λ seat. waiting seat id) s name o) < left_for s
      go None e m = absurd m
      go (Some seat) e m = sum_falls left_at (is_named name) seat (waiting seat id) (λ n. seat_waits s.tries seat id last m) s.seats e

  pub answer_falls : MayBeAnswered s name last → left_for (after_answer s name) < left_for s
  answer_falls may = go (seat_of s name) refl may
    where
      go : (o : Option Seat) → seat_of s name ≡ o → MaySeatEnd s.tries o last → left_for (with_changed answered_seat s name o) < left_for s
      go None e m = absurd m
      go (Some seat) e m = sum_falls left_at (is_named name) seat (answered_seat seat) (λ n. seat_ends s.tries seat last m) s.seats e
