use Rattle.std.proofs.Common.{◌≡◌, None, sym, subst}
use Rattle.std.specs.Prelude.{MatchOption}
use Rattle.std.specs.Map.{keys_of}
use Rattle.dt_lists.proofs.Callers.{found_at}
use Rattle.dt_access.specs.Clash.{same_key}
use Rattle.dt_access.proofs.Callers.{tells_key}
use Rattle.dt_session.specs.Sessions.{StandsAt, seat_of}
use Rattle.dt_session.proofs.SessionsLaws.{not_placed}
use Rattle.dt_session.proofs.sessions.Sessions.place_of.Goals as goal

pub returns-in_err-get_index_of : goal.returns-in_err-get_index_of
returns-in_err-get_index_of c =
    let s = c.args.self.now in
    let name = c.args.session.now in
    let away : seat_of s name ≡ None = subst (λ v. seat_of v name ≡ None) c.self.view_is (not_placed c.self.inside.seats.entries name c.in_err-get_index_of.ensures.found) in
    subst (λ r. MatchOption r (seat_of s name ≡ None) (λ place. StandsAt s place name)) (sym c.from_residual.ensures) away

pub returns : goal.returns
returns c =
    let name = c.args.session.now in
    let place = c.in_ok-get_index_of.field-0 in
    subst (λ v. StandsAt v place name) c.self.view_is (found_at same_key tells_key name (keys_of c.self.inside.seats.entries) place c.in_ok-get_index_of.ensures.index)
