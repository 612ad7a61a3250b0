-- Two lists clash where they meet on a row, or one of them takes from the other a granule as a whole.
use Rattle.std.proofs.Common.{◌≡◌, true, ◌&&◌, ◌||◌, List, sym, inl, inr}
use Rattle.std.specs.List.{list_any}
use Rattle.std.specs.Cmp.Lexicographic.{bytes_decides}
use Rattle.std.proofs.lemmas.Bool.{and_parts, and_from, or_left, or_right, or_cases}
use Rattle.dt_lists.specs.Lists.{AnyIn, Has}
use Rattle.dt_lists.proofs.Callers.{any_get, any_put, any_of_test, test_of_any}
use Rattle.dt_access.specs.declared.access.Mode.{Mode}
use Rattle.dt_access.specs.Granules.{granule_of}
use Rattle.dt_access.specs.Clash.{Bytes, same_key, is_whole, rows_clash, uses_clash, clash}
use Rattle.dt_access.specs.ClashSearchInner.{meet_on_row, has_granule, takes_from}
use Rattle.dt_access.proofs.Units.{clash_cases, uses_of_granule}
use Rattle.dt_access.proofs.ClashLaws.{uses_of_clash, clash_of_uses, clash_symmetric}
use Rattle.dt_access.proofs.Search.{same_tests}

-- what two uses show of their lists
shows : (left right : List (Bytes × Mode)) (a b : Bytes × Mode) → Has left a → Has right b → uses_clash a b ≡ true → clash left right ≡ true
shows left right a b ha hb e = clash_of_uses left right (any_put _ left a ha (any_put _ right b hb e))

row_shows : (left right : List (Bytes × Mode)) → meet_on_row left right ≡ true → clash left right ≡ true
row_shows left right e =
    let x : (a : Bytes × Mode) × Has left a × (list_any (rows_clash a) right ≡ true) = any_get _ left (any_of_test (λ a. list_any (rows_clash a) right) left e) in
    let y : (b : Bytes × Mode) × Has right b × (rows_clash x.0 b ≡ true) = any_get _ right (any_of_test (rows_clash x.0) right x.2) in
    shows left right x.0 y.0 x.1 y.1 (or_left _ _ y.2)

taken_shows : (left right : List (Bytes × Mode)) → takes_from left right ≡ true → clash left right ≡ true
taken_shows left right e =
    let x : (a : Bytes × Mode) × Has left a × ((is_whole a.1 && has_granule right (granule_of a.0)) ≡ true)
    = any_get _ left (any_of_test (λ a. is_whole a.1 && has_granule right (granule_of a.0)) left e) in
    let parts : (is_whole (x.0).1 ≡ true) × (has_granule right (granule_of (x.0).0) ≡ true) = and_parts _ _ x.2 in
    let y : (b : Bytes × Mode) × Has right b × (same_key (granule_of (x.0).0) (granule_of b.0) ≡ true)
    = any_get _ right (any_of_test (λ b. same_key (granule_of (x.0).0) (granule_of b.0)) right parts.1) in
    shows left right x.0 y.0 x.1 y.1 (uses_of_granule x.0 y.0 ((bytes_decides _ _).0 y.2) (or_left _ _ parts.0))

meet_shown : (left right : List (Bytes × Mode)) (a b : Bytes × Mode) → Has left a → Has right b → rows_clash a b ≡ true → meet_on_row left right ≡ true
meet_shown left right a b ha hb e =
    test_of_any (λ a. list_any (rows_clash a) right) left (any_put _ left a ha (test_of_any (rows_clash a) right (any_put _ right b hb e)))

taken_shown : (left right : List (Bytes × Mode)) (a b : Bytes × Mode) → Has left a → Has right b → granule_of a.0 ≡ granule_of b.0 → is_whole a.1 ≡ true → takes_from left right ≡ true
taken_shown left right a b ha hb same whole =
    test_of_any (λ a. is_whole a.1 && has_granule right (granule_of a.0)) left (any_put _ left a ha
    (and_from _ _ whole (test_of_any (λ b. same_key (granule_of a.0) (granule_of b.0)) right (any_put _ right b hb ((bytes_decides _ _).1 same)))))

pub clash_parts : (left right : List (Bytes × Mode)) → ((meet_on_row left right || takes_from left right) || takes_from right left) ≡ clash left right
clash_parts left right = same_tests ((meet_on_row left right || takes_from left right) || takes_from right left) (clash left right)
    (λ e. elim (or_cases (meet_on_row left right || takes_from left right) (takes_from right left) e) [
      | inl h ↦ elim (or_cases (meet_on_row left right) (takes_from left right) h) [ inl m ↦ row_shows left right m | inr t ↦ taken_shows left right t ]
      | inr t ↦ clash_symmetric right left (taken_shows right left t)
    ])
    (λ e.
    let x : (a : Bytes × Mode) × Has left a × AnyIn (λ b. uses_clash a b ≡ true) right = any_get _ left (uses_of_clash left right e) in
    let y : (b : Bytes × Mode) × Has right b × (uses_clash x.0 b ≡ true) = any_get _ right x.2 in
    elim (clash_cases x.0 y.0 y.2) [
      | inl r ↦ or_left _ _ (or_left _ _ (meet_shown left right x.0 y.0 x.1 y.1 (and_from _ _ ((bytes_decides _ _).1 r.0) r.1)))
      | inr g ↦ elim (or_cases (is_whole (x.0).1) (is_whole (y.0).1) g.1) [
        | inl w ↦ or_left _ _ (or_right _ _ (taken_shown left right x.0 y.0 x.1 y.1 g.0 w))
        | inr w ↦ or_right _ _ (taken_shown right left y.0 x.0 y.1 x.1 (sym g.0) w)
      ]
    ])
