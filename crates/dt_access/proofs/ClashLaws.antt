-- Two lists of uses clash where some use of the one clashes with some use of the other, and it does not depend on which list
-- comes first.
use Rattle.std.proofs.Common.{◌≡◌, true, List, ◌∙◌}
use Rattle.std.specs.List.{list_any}
use Rattle.dt_lists.specs.Lists.{AnyIn, Has}
use Rattle.dt_lists.proofs.Callers.{any_map, any_get, any_put, any_of_test, test_of_any}
use Rattle.dt_access.specs.Clash.{Bytes, uses_clash, clash}
use Rattle.dt_access.specs.declared.access.Mode.{Mode}
use Rattle.dt_access.proofs.Units.{uses_clash_symmetric}

-- some use of the one list clashes with some use of the other
pub uses_of_clash : (left right : List (Bytes × Mode)) → clash left right ≡ true → AnyIn (λ a. AnyIn (λ b. uses_clash a b ≡ true) right) left
uses_of_clash left right e = any_map _ _ left (λ a h. any_of_test (uses_clash a) right h) (any_of_test (λ a. list_any (uses_clash a) right) left e)

pub clash_of_uses : (left right : List (Bytes × Mode)) → AnyIn (λ a. AnyIn (λ b. uses_clash a b ≡ true) right) left → clash left right ≡ true
clash_of_uses left right e = test_of_any (λ a. list_any (uses_clash a) right) left (any_map _ _ left (λ a h. test_of_any (uses_clash a) right h) e)

pub clash_symmetric : (left right : List (Bytes × Mode)) → clash left right ≡ true → clash right left ≡ true
clash_symmetric left right e =
    let x : (a : Bytes × Mode) × Has left a × AnyIn (λ b. uses_clash a b ≡ true) right = any_get _ left (uses_of_clash left right e) in
    let y : (b : Bytes × Mode) × Has right b × (uses_clash x.0 b ≡ true) = any_get _ right x.2 in
    clash_of_uses right left (any_put _ right y.0 y.1 (any_put _ left x.0 x.1 (uses_clash_symmetric y.0 x.0 ∙ y.2)))
