use Rattle.std.proofs.Common.{◌≡◌, Some, sym, subst}
use Rattle.dt_session.specs.declared.sessions.Seat.{Seat}
use Rattle.dt_session.specs.Sessions.{SessionsView, StandsAt, seat_of}
use Rattle.dt_session.proofs.SessionsLaws.{at_place, get_seat, sound_at, stands_at}
use Rattle.dt_session.proofs.sessions.Sessions.seat_at.Goals as goal

pub returns-clause-found : goal.returns-clause-found
returns-clause-found c = λ name stands.
    let s : SessionsView = record { tries = c.self.inside.tries; seats = c.self.inside.seats.entries } in
    let seat : Seat = c.in_ok-seat.seat.now in
    let here = at_place s.seats c.args.index name seat (subst (λ v. StandsAt v c.args.index name) (sym c.self.view_is) stands) (get_seat s.seats c.args.index (c.in_ok-seat.field-0-0.now, seat) (sym c.in_ok-seat.ensures.entry)) in
    sym (subst (λ v. seat_of v name ≡ Some seat) c.self.view_is (stands_at s c.args.index (name, seat) c.self.invariant.ascending here))

pub returns-clause-sound : goal.returns-clause-sound
returns-clause-sound c = sound_at c.self.inside.seats.entries c.args.index (c.in_ok-seat.field-0-0.now, c.in_ok-seat.seat.now) c.self.invariant (sym c.in_ok-seat.ensures.entry)
