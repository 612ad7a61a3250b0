use Rattle.std.proofs.Common.{sym, subst}
use Rattle.std.specs.Option.{option_copied}
use Rattle.dt_session.specs.declared.sessions.Seat.{Seat}
use Rattle.dt_session.specs.Sessions.{AreSoundSeats, SessionsView, StandsAt}
use Rattle.dt_session.proofs.SessionsLaws.{answered_now, at_place, end_legal, named_at, put_sound_seat, sound_at, stands_at, unchanged, written_there}
use Rattle.dt_session.proofs.sessions.Sessions.answer_at.Goals as goal

pub end_call-requires : goal.end_call-requires
end_call-requires c =
    let s : SessionsView = record { tries = c.self.inside.tries; seats = c.self.inside.seats.entries } in
    let seat : Seat = c.in-Some.seat.now in
    let named = named_at s.seats c.args.index seat (sym c.in-Some.ensures.value) in
    sound_at s.seats c.args.index (named.0, seat) c.self.invariant named.1

pub invariant_of-self-2 : goal.invariant_of-self-2
invariant_of-self-2 c =
    let s : SessionsView = record { tries = c.self.inside.tries; seats = c.self.inside.seats.entries } in
    let seat : Seat = c.in-Some.seat.now in
    let named = named_at s.seats c.args.index seat (sym c.in-Some.ensures.value) in
    let now : Seat = c.end_call.new.seat in
    subst AreSoundSeats (sym (written_there s.seats c.args.index (named.0, seat) now c.self.invariant.ascending named.1)) (put_sound_seat s.seats named.0 now c.self.invariant c.end_call.ensures.sound)

pub returns-clause-legal : goal.returns-clause-legal
returns-clause-legal c = λ name stands.
    let s : SessionsView = record { tries = c.self.inside.tries; seats = c.self.inside.seats.entries } in
    let seat : Seat = c.in-Some.seat.now in
    let here = at_place s.seats c.args.index name seat (subst (λ v. StandsAt v c.args.index name) (sym c.self.view_is) stands) (sym c.in-Some.ensures.value) in
    end_legal s c.args.self.now c.self.view_is name seat (stands_at s c.args.index (name, seat) c.self.invariant.ascending here) (option_copied c.args.last) c.end_call.result c.end_call.ensures.legal

pub returns-clause-answered : goal.returns-clause-answered
returns-clause-answered c = λ t name stands.
    let s : SessionsView = record { tries = c.self.inside.tries; seats = c.self.inside.seats.entries } in
    let seat : Seat = c.in-Some.seat.now in
    let here = at_place s.seats c.args.index name seat (subst (λ v. StandsAt v c.args.index name) (sym c.self.view_is) stands) (sym c.in-Some.ensures.value) in
    answered_now s c.args.self.now c.self.view_is name seat (stands_at s c.args.index (name, seat) c.self.invariant.ascending here) _ c.end_call.new.seat
    (written_there s.seats c.args.index (name, seat) c.end_call.new.seat c.self.invariant.ascending here) (c.end_call.ensures.answered t)

pub returns-clause-same : goal.returns-clause-same
returns-clause-same c =
    let s : SessionsView = record { tries = c.self.inside.tries; seats = c.self.inside.seats.entries } in
    let seat : Seat = c.in-Some.seat.now in
    let named = named_at s.seats c.args.index seat (sym c.in-Some.ensures.value) in
    λ f. unchanged s c.args.self.now c.self.view_is named.0 seat (stands_at s c.args.index (named.0, seat) c.self.invariant.ascending named.1) _ c.end_call.new.seat
    (written_there s.seats c.args.index (named.0, seat) c.end_call.new.seat c.self.invariant.ascending named.1) (c.end_call.ensures.same f)
