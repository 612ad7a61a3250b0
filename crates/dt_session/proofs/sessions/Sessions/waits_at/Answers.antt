use Rattle.std.proofs.Common.{◌<◌, ◌∙◌, [], get_or, length, map, refl, sym, ap, subst}
use Rattle.std.specs.Prelude.{option_and_then, option_map}
use Rattle.std.proofs.lemmas.List.{length-map}
use Rattle.std.proofs.lemmas.Option.{slice_get-get_or}
use Rattle.dt_session.specs.declared.sessions.Seat.{Seat}
use Rattle.dt_session.specs.declared.sessions.Waiting.{Waiting}
use Rattle.dt_session.specs.Sessions.{StandsAt, waits_of}
use Rattle.dt_session.proofs.sessions.Sessions.waits_at.Goals as goal

pub returns : goal.returns
returns c =
    let s = c.args.self.now in
    let names = map (λ p. p.0) s.seats in
    let here : c.args.index < length s.seats = c.in_ok-seat_at.ensures.there.0 refl in
    let stands : StandsAt s c.args.index (get_or names c.args.index []) = slice_get-get_or names c.args.index [] (subst (λ n. c.args.index < n) (sym (length-map s.seats (λ p. p.0))) here) in
    c.waited_for.ensures ∙ ap (option_and_then (λ (x : Seat). option_map (λ (w : Waiting). w.id) x.waits)) (c.in_ok-seat_at.ensures.found _ stands) ∙ ap (option_and_then (waits_of s)) (sym stands)
