-- Marks of ids: which ids are marked after one more.
use Rattle.std.proofs.Common.{◌≡◌, ◌⊎◌, Bool, true, false, ◌||◌, List, [], ◌∷◌, ◌++◌, refl, sym, ap, ◌∙◌, inl, inr}
use Rattle.std.proofs.lemmas.Bool.{cases_Bool}
use Rattle.std.proofs.lemmas.List.Folds.{list_any-append}
use Rattle.dt_access.specs.Ids.{is_among, same_id}
use Rattle.dt_access.specs.declared.TxnId.{TxnId}
use Rattle.dt_access.proofs.Callers.{id_of_test}
use Rattle.dt_index.specs.Index.{IdIndexView}
use Rattle.dt_world.specs.MarksInner.{AreMarkedIds, is_marked}

-- one id more is among those that are marked
pub marked_new : (before after : IdIndexView) (ids : List TxnId) (id : TxnId) → AreMarkedIds before ids → ((other : TxnId) → is_marked after other ≡ (same_id other id || is_marked before other))
    → AreMarkedIds after (ids ++ id ∷ [])
marked_new before after ids id so_far put other = put other ∙ ap (λ b. same_id other id || b) (so_far other) ∙ turned (same_id other id) (is_among ids other) ∙ sym (list_any-append (same_id other) ids (id ∷ []))
  where
    turned : (a b : Bool) → (a || b) ≡ (b || (a || false))
    turned true true = refl
    turned true false = refl
    turned false true = refl
    turned false false = refl

-- and an id that is among them already changes nothing
pub marked_again : (before after : IdIndexView) (ids : List TxnId) (id : TxnId) → AreMarkedIds before ids → ((other : TxnId) → is_marked after other ≡ (same_id other id || is_marked before other))
    → is_among ids id ≡ true → AreMarkedIds after ids
marked_again before after ids id so_far put there other = put other ∙ ap (λ b. same_id other id || b) (so_far other) ∙ go (cases_Bool (same_id other id))
  where
    go : (same_id other id ≡ true) ⊎ (same_id other id ≡ false) → (same_id other id || is_among ids other) ≡ is_among ids other
    go (inl same) = rw same (sym (ap (is_among ids) (id_of_test other id same) ∙ there))
    go (inr apart) = rw apart refl
