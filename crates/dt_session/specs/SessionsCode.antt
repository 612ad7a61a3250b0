-- The toolchain asks for this; skip it. It is the code by which proofs tell the sessions of a region apart. Read
-- `Sessions` for what they are.
use Rattle.std.specs.Prelude.{ℕ, List, refl}
use Rattle.std.specs.Coded.{Coded, code_by, coded×, coded_ℕ, coded_list}
use Rattle.dt_access.specs.Clash.{Bytes}
use Rattle.dt_session.specs.contracts.sessions.Seat as seat
use Rattle.dt_session.specs.declared.sessions.Seat.{Seat}
use Rattle.dt_session.specs.Sessions.{SessionsView}

-- the sessions of a region are stored as their fields
abbrev pub sessions_code : Coded SessionsView
sessions_code = code_by (ℕ × List (Bytes × Seat)) (coded× coded_ℕ (coded_list (coded× (coded_list coded_ℕ) seat.the_row.coded)))
    (λ s. (s.tries, s.seats)) (λ p. record { tries = p.0; seats = p.1 }) (λ _. refl)
