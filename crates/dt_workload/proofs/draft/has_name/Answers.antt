use Rattle.std.proofs.Common.{◌≡◌, ◌∙◌, nat_eq, rules, sym, tests}
use Rattle.std.specs.List.{list_any}
use Rattle.std.specs.Cmp.Lexicographic.{pointwise}
use Rattle.std.proofs.lemmas.Iterator.{YieldsList-from_slice}
use Rattle.std.proofs.lemmas.Iterator.Search.{any_from_yields_List}
use Rattle.dt_workload.specs.declared.workload.Session.{Session}
use Rattle.dt_workload.proofs.Forms.{named_by_test, test_of_name}
use Rattle.dt_workload.proofs.draft.has_name.Goals as goal

pub returns : goal.returns
returns c =
    let sessions = c.args.sessions.now in
    let name = c.args.name.now in
    let tested : c.any.result ≡ list_any (λ (s : Session). pointwise nat_eq s.name name) sessions =
    any_from_yields_List (λ (s : Session). pointwise nat_eq s.name name) _ _ _ c.any.ensures.ran (YieldsList-from_slice sessions cc) (λ x b f k. search (rules, tests)) in
    (λ is. named_by_test sessions name (sym tested ∙ is), λ has. tested ∙ test_of_name sessions name has)
