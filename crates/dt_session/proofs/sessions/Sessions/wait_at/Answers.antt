use Rattle.std.proofs.Common.{sym, subst}
use Rattle.std.specs.Option.{option_copied}
use Rattle.dt_session.specs.declared.sessions.Seat.{Seat}
use Rattle.dt_session.specs.Sessions.{AreSoundSeats, SessionsView, StandsAt}
use Rattle.dt_session.proofs.SessionsLaws.{at_place, named_at, put_sound_seat, sound_at, stands_at, try_legal, waits_now, written_there}
use Rattle.dt_session.proofs.sessions.Sessions.wait_at.Goals as goal

pub begin_try-requires-clause-sound : goal.begin_try-requires-clause-sound
begin_try-requires-clause-sound c =
    let s : SessionsView = record { tries = c.self.inside.tries; seats = c.self.inside.seats.entries } in
    let seat : Seat = c.in-Some.seat.now in
    let named = named_at s.seats c.args.index seat (sym c.in-Some.ensures.value) in
    sound_at s.seats c.args.index (named.0, seat) c.self.invariant named.1

pub begin_try-requires-clause-may : goal.begin_try-requires-clause-may
begin_try-requires-clause-may c =
    let s : SessionsView = record { tries = c.self.inside.tries; seats = c.self.inside.seats.entries } in
    let name = c.requires.0 in
    let stands = c.requires.1 in
    let seat : Seat = c.in-Some.seat.now in
    let here = at_place s.seats c.args.index name seat (subst (λ v. StandsAt v c.args.index name) (sym c.self.view_is) stands) (sym c.in-Some.ensures.value) in
    try_legal s c.args.self.now c.self.view_is name seat (stands_at s c.args.index (name, seat) c.self.invariant.ascending here) (option_copied c.args.last) c.requires.2

pub invariant_of-self : goal.invariant_of-self
invariant_of-self c =
    let s : SessionsView = record { tries = c.self.inside.tries; seats = c.self.inside.seats.entries } in
    let seat : Seat = c.in-Some.seat.now in
    let named = named_at s.seats c.args.index seat (sym c.in-Some.ensures.value) in
    let now : Seat = c.begin_try.new.seat in
    subst AreSoundSeats (sym (written_there s.seats c.args.index (named.0, seat) now c.self.invariant.ascending named.1)) (put_sound_seat s.seats named.0 now c.self.invariant c.begin_try.ensures.sound)

pub returns : goal.returns
returns c = λ name stands.
    let s : SessionsView = record { tries = c.self.inside.tries; seats = c.self.inside.seats.entries } in
    let seat : Seat = c.in-Some.seat.now in
    let here = at_place s.seats c.args.index name seat (subst (λ v. StandsAt v c.args.index name) (sym c.self.view_is) stands) (sym c.in-Some.ensures.value) in
    waits_now s c.args.self.now c.self.view_is name seat (stands_at s c.args.index (name, seat) c.self.invariant.ascending here) _ c.begin_try.new.seat
    (written_there s.seats c.args.index (name, seat) c.begin_try.new.seat c.self.invariant.ascending here) c.args.id c.begin_try.ensures.waits
