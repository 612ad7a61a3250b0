use Rattle.std.proofs.Common.{◌≡◌, ◌≢◌, length, subst, sym, rules, tests}
use Rattle.std.proofs.lemmas.Iterator.{cases_from_all}
use Rattle.std.proofs.lemmas.Iterator.Consumers.{YieldsList-from_rest}
use Rattle.std.proofs.lemmas.Bool.{MatchBool-at_true}
use Rattle.std.proofs.lemmas.List.Elements.{All-from_all_within}
use Rattle.std.proofs.lemmas.Iterator.Search.{true_from_All}
use Rattle.dt_access.specs.Clash.{Bytes}
use Rattle.dt_access.specs.Orders.{HasAscendingKeys}
use Rattle.dt_session.specs.Sessions.{AreAllAnswered, SessionsView}
use Rattle.dt_session.specs.declared.sessions.Seat.{Seat}
use Rattle.dt_session.proofs.SessionsLaws.{all_of_places, answered_of_names, names_answered, places_of_all}
use Rattle.dt_session.proofs.sessions.Sessions.all_answered.Goals as goal

pub returns-clause-all : goal.returns-clause-all
returns-clause-all c =
    let r = cases_from_all _ _ _ (λ (p : Bytes × Seat). p.1.answered ≡ length p.1.calls) (λ (p : Bytes × Seat). p.1.answered ≢ length p.1.calls) c.all.ensures.ran
    (YieldsList-from_rest c.self.inside.seats.entries c.iter.ensures.rest)
    (λ x r k. search (rules, tests)) (λ x r k. search (rules, tests)) in (
      λ t. subst AreAllAnswered c.self.view_is
          (all_of_places (λ p. p.1.answered ≡ length p.1.calls) c.self.inside.seats.entries (All-from_all_within (λ (p : Bytes × Seat). p.1.answered ≡ length p.1.calls) c.self.inside.seats.entries (MatchBool-at_true _ _ t r))),
      λ h. true_from_All (λ (p : Bytes × Seat). p.1.answered ≡ length p.1.calls) (λ (p : Bytes × Seat). p.1.answered ≢ length p.1.calls) _ _ (λ x p q. q p) r
          (places_of_all (λ p. p.1.answered ≡ length p.1.calls) c.self.inside.seats.entries (subst AreAllAnswered (sym c.self.view_is) h)),
    )

pub returns-clause-by_name : goal.returns-clause-by_name
returns-clause-by_name c =
    let all = returns-clause-all c in
    let ascending : HasAscendingKeys c.args.self.now.seats = subst (λ (v : SessionsView). HasAscendingKeys v.seats) c.self.view_is c.self.invariant.ascending in
    (λ t. names_answered c.args.self.now (all.0 t), λ each. all.1 (answered_of_names c.args.self.now ascending each))
