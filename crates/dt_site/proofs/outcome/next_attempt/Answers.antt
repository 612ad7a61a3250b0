use Rattle.std.proofs.Common.{◌≡◌, ◌∙◌, None, Some, refl, sym, subst}
use Rattle.std.proofs.lemmas.Option.{same_Some}
use Rattle.dt_session.specs.Sessions.{IsNext}
use Rattle.dt_site.proofs.NextAttempt.{call_from, no_name_at}
use Rattle.dt_site.proofs.outcome.next_attempt.Goals as goal

pub unreachable-requires : goal.unreachable-requires
unreachable-requires g c = no_name_at _ c.args.index (c.in-Some.ensures.there refl) c.in_default-name.ensures.place

pub body_at-requires-clause-from : goal.body_at-requires-clause-from
body_at-requires-clause-from g c =
    let name = c.in-Some-name.name.now in
    call_from c.args.sessions.now name _ c.in-Some.call c.in-Some.attempt (c.in-Some.ensures.numbers name (sym c.in-Some-name.ensures.place))

pub body_at-requires-clause-there : goal.body_at-requires-clause-there
body_at-requires-clause-there g c =
    let name = c.in-Some-name.name.now in
    let stands = sym c.in-Some-name.ensures.place in
    let next = subst (λ o. IsNext c.args.sessions.now name o (Some (c.in-Some.call, c.in-Some.attempt))) (c.last_outcome_at-last.ensures.outcome name stands) (c.in-Some.ensures.numbers name stands) in
    (name, stands, c.requires name stands c.in-Some.call c.in-Some.attempt next)

pub returns-in_default-clause-next : goal.returns-in_default-clause-next
returns-in_default-clause-next g c name stands =
    subst (λ o. IsNext c.args.sessions.now name o None) (c.last_outcome_at-last.ensures.outcome name stands) (c.in_default.ensures.numbers name stands)

pub returns-clause-next : goal.returns-clause-next
returns-clause-next g c name stands =
    let same : c.in-Some-name.name.now ≡ name = same_Some _ _ (c.in-Some-name.ensures.place ∙ stands) in (
      c.in_ok-copy.ensures.same ∙ same,
      subst (λ o. IsNext c.args.sessions.now name o (Some (c.in-Some.call, c.in-Some.attempt))) (c.last_outcome_at-last.ensures.outcome name stands) (c.in-Some.ensures.numbers name stands),
      c.in_ok-rank.ensures name stands,
    )
