-- Turns of which some were made by helpers: the last seats were lent to them, one to each, and taken back behind the others.
use Rattle.std.proofs.Common.{◌≡◌, ◌<◌, ◌+◌, ◌⊎◌, ℕ, zero, suc, Bool, false, eqb, All, List, Option, Some, get_or, length, slice_get, sym, subst, ◌∙◌, inl, inr, arith}
use Rattle.std.proofs.lemmas.Bool.{false≢true}
use Rattle.dt_proc.specs.Tree.{ProcTree}
use Rattle.dt_run.specs.HelpersInner.{LendsTurns}
use Rattle.dt_run.specs.SeatsInner.{EachGoes, SeatCan, SeatGoes, SeatView, no_seat, seat_at}
use Rattle.dt_run.proofs.PhaseOfTurns.{put_back, put_back_is}

-- a number is below another one, or how far it is not
below : (m n : ℕ) → (m < n) ⊎ ((k : ℕ) × (m ≡ n + k))
below m zero = inr (m, omega arith)
below zero (suc n) = inl (omega arith)
below (suc m) (suc n) = next (below m n)
  where
    next : (m < n) ⊎ ((k : ℕ) × (m ≡ n + k)) → (suc m < suc n) ⊎ ((k : ℕ) × (suc m ≡ suc n + k))
    next (inl lt) = inl (omega (arith, lt))
    next (inr e) = inr (e.0, let is = e.1 in omega (arith, is))

-- turns at all seats of a vector, which were lent as a slice
pub all_went : {procs : List ProcTree} (len : ℕ) {seats lent turned : List SeatView} → len ≡ length seats → lent ≡ seats → EachGoes procs lent turned → EachGoes procs seats (put_back len seats turned)
all_went {procs} len {seats} {lent} {turned} full is goes =
    let g : EachGoes procs seats turned = subst (λ l. EachGoes procs l turned) is goes in subst (EachGoes procs seats) (sym (put_back_is len seats turned full g.many)) g

-- a list that is not empty
pub some_of : (n : ℕ) (empty : Bool) → empty ≡ eqb n 0 → empty ≡ false → 0 < n
some_of zero empty is e = absurd (false≢true (sym e ∙ is))
some_of (suc n) empty is e = omega arith

-- each of the seats that are left may make its turn
pub left_can : (procs : List ProcTree) (seats : List SeatView) {left lent : List SeatView} (helpers : List (Option SeatView)) (n : ℕ) → n ≡ length left → n + length helpers ≡ length seats
    → ((k : ℕ) (d : SeatView) → k < n → get_or left k d ≡ get_or seats k d) → lent ≡ left → All (SeatCan procs) seats → All (SeatCan procs) lent
left_can procs seats helpers n n_is many front lent_is all = subst (All (SeatCan procs)) (sym lent_is) (λ region s lt.
    let first : region < n = subst (λ m. region < m) (sym n_is) lt in
    subst (SeatCan procs) (sym (front region s first)) (all region s (omega (arith, first, many))))

module _ {procs : List ProcTree} {can : SeatView → Type 0} {goes : SeatView → SeatView → Type 0} (lends : LendsTurns procs can goes) where
  -- what may make its turn may be lent
  pub all_lent : (seats : List SeatView) → All (SeatCan procs) seats → All can seats
  all_lent seats all = λ region s lt. (lends.can_turn _).1 (all region s lt)

  -- the last of these seats were lent to helpers, and each of those that were left made its turn
  module _ {seats left lent turned : List SeatView} (helpers : List (Option SeatView)) (n : ℕ) (n_is : n ≡ length left) (many : n + length helpers ≡ length seats)
      (front : (k : ℕ) (d : SeatView) → k < n → get_or left k d ≡ get_or seats k d)
      (last : (k : ℕ) (d : SeatView) → k < length helpers → slice_get helpers k ≡ Some (Some (get_or seats (n + k) d))) (lent_is : lent ≡ left) (went : EachGoes procs lent turned) where
    -- and what was lent is behind them
    pub back_again : {all : List SeatView} → length all ≡ n + length helpers → ((k : ℕ) (d : SeatView) → k < n → get_or all k d ≡ get_or (put_back n left turned) k d)
        → ((k : ℕ) (d s : SeatView) → k < length helpers → slice_get helpers k ≡ Some (Some s) → goes s (get_or all (n + k) d)) → EachGoes procs seats all
    back_again {all} full same back = record { many = full ∙ many; each = λ region lt. one region lt (below region n) }
      where
        g : EachGoes procs left (put_back n left turned)
        g = all_went n n_is lent_is went

        one : (region : ℕ) → region < length seats → (region < n) ⊎ ((k : ℕ) × (region ≡ n + k)) → SeatGoes procs (seat_at seats region) (seat_at all region)
        one region lt (inl first) =
            subst (λ s. SeatGoes procs s (seat_at all region)) (front region no_seat first)
            (subst (SeatGoes procs (seat_at left region)) (sym (same region no_seat first)) (g.each region (subst (λ m. region < m) n_is first)))
        one region lt (inr e) =
            let is = e.1 in
            let within : e.0 < length helpers = omega (arith, lt, is, many) in
            subst (λ r. SeatGoes procs (seat_at seats r) (seat_at all r)) (sym e.1)
            ((lends.goes_on _ _).0 (back e.0 no_seat (get_or seats (n + e.0) no_seat) within (last e.0 no_seat within)))
