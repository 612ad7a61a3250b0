use Rattle.std.proofs.Common.{nat_eq, sym, ◌∙◌, eqb-true}
use Rattle.std.proofs.lemmas.Bool.{eq-eqb}
use Rattle.dt_lists.proofs.Callers.{any_map, any_of_test, test_of_any}
use Rattle.dt_test_texts.proofs.homes.has_home.Goals as goal

pub returns : goal.returns
returns c =
    let homes = c.args.homes.now in
    let home = c.args.home in (
      (λ found. any_map _ _ homes (λ other same. eqb-true other home same) (any_of_test (λ other. nat_eq other home) homes (sym c.contains.ensures.value ∙ found))),
      λ there. c.contains.ensures.value ∙ test_of_any (λ other. nat_eq other home) homes (any_map _ _ homes (λ other same. eq-eqb other home same) there),
    )
