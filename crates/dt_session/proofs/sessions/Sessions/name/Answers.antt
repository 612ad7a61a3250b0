use Rattle.std.proofs.Common.{◌≡◌, ◌∙◌, Some, slice_get, sym, ap, subst}
use Rattle.std.specs.Prelude.{option_map}
use Rattle.dt_access.specs.Clash.{Bytes}
use Rattle.dt_session.specs.declared.sessions.Seat.{Seat}
use Rattle.dt_session.specs.Sessions.{SessionsView, seat_of}
use Rattle.dt_session.proofs.SessionsLaws.{stands_at}
use Rattle.dt_session.proofs.sessions.Sessions.name.Goals as goal

pub returns-clause-finds : goal.returns-clause-finds
returns-clause-finds c =
    let s : SessionsView = record { tries = c.self.inside.tries; seats = c.self.inside.seats.entries } in
    let p : Bytes × Seat = (c.in_ok-name.name.now, c.in_ok-name.field-0-1.now) in
    let there : slice_get s.seats c.args.index ≡ Some p = sym c.in_ok-name.ensures.entry in
    subst (λ (v : SessionsView). seat_of v p.0 ≡ option_map (λ (q : Bytes × Seat). q.1) (slice_get v.seats c.args.index)) c.self.view_is
    (stands_at s c.args.index p c.self.invariant.ascending there ∙ sym (ap (option_map (λ (q : Bytes × Seat). q.1)) there))
