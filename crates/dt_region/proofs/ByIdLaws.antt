-- The places of entries by their ids: what stands at the place of an id is what a look-up finds, and an entry more, whose id is new,
-- has the last place.
use Rattle.std.proofs.Common.{◌≡◌, ◌≢◌, ◌<◌, ◌⊎◌, ℕ, suc, true, false, cond, List, [], ◌∷◌, ◌++◌, length, map, Option, Some, None}
use Rattle.std.proofs.Common.{get_or, refl, sym, ap, subst, ◌∙◌, inl, inr, arith}
use Rattle.std.specs.Option.{option_map}
use Rattle.std.specs.Map.{lookup}
use Rattle.dt_lists.specs.Lists.{Has}
use Rattle.dt_access.specs.Ids.{same_id}
use Rattle.dt_access.specs.declared.TxnId.{TxnId}
use Rattle.dt_access.proofs.Callers.{either_id, test_of_id, test_of_other}
use Rattle.dt_index.specs.Index.{IdIndexView, place_of}
use Rattle.dt_region.specs.ByIdInner.{LeadsTo, entry_place}

-- the place before one that is counted on
later : (o : Option ℕ) (place : ℕ) → option_map suc o ≡ Some place → (i : ℕ) × (o ≡ Some i) × (suc i ≡ place)
later None place at = cc
later (Some i) place at = (i, refl, cc)

module _ {V : Type 0} where
  -- an id without a place is not found
  pub found_nowhere : (entries : List (TxnId × V)) (id : TxnId) → entry_place entries id ≡ None → lookup (same_id id) entries ≡ None
  found_nowhere [] id none = refl
  found_nowhere (e ∷ entries) id none =
      elim (same_id id e.0) as (λ b. cond b (Some 0) (option_map suc (entry_place entries id)) ≡ None → cond b (Some e.1) (lookup (same_id id) entries) ≡ None) [
        | true ↦ λ n. cc
        | false ↦ λ n. found_nowhere entries id (not_later (entry_place entries id) n)
      ] none
    where
      not_later : (o : Option ℕ) → option_map suc o ≡ None → o ≡ None
      not_later None n = refl
      not_later (Some i) n = cc

  -- the place of an id is one of the list, and what stands there is what a look-up finds

  pub place_inside : (entries : List (TxnId × V)) (id : TxnId) (place : ℕ) → entry_place entries id ≡ Some place → place < length entries
  place_inside [] id place at = cc
  place_inside (e ∷ entries) id place at =
      elim (same_id id e.0) as (λ b. cond b (Some 0) (option_map suc (entry_place entries id)) ≡ Some place → place < suc (length entries)) [
        | true ↦ λ h. let first : place ≡ 0 = cc in omega (arith, first)
        | false ↦ λ h.
            let r : (i : ℕ) × (entry_place entries id ≡ Some i) × (suc i ≡ place) = later (entry_place entries id) place h in
            omega (arith, place_inside entries id r.0 r.1, r.2)
      ] at

  pub found_at : (entries : List (TxnId × V)) (id : TxnId) (place : ℕ) (d : TxnId × V) → entry_place entries id ≡ Some place → lookup (same_id id) entries ≡ Some (get_or entries place d).1
  found_at [] id place d at = cc
  found_at (e ∷ entries) id place d at =
      elim (same_id id e.0) as (λ b. cond b (Some 0) (option_map suc (entry_place entries id)) ≡ Some place → cond b (Some e.1) (lookup (same_id id) entries) ≡ Some (get_or (e ∷ entries) place d).1) [
        | true ↦ λ h. let first : 0 ≡ place = cc in subst (λ p. Some e.1 ≡ Some (get_or (e ∷ entries) p d).1) first refl
        | false ↦ λ h.
            let r : (i : ℕ) × (entry_place entries id ≡ Some i) × (suc i ≡ place) = later (entry_place entries id) place h in
            subst (λ p. lookup (same_id id) entries ≡ Some (get_or (e ∷ entries) p d).1) r.2 (found_at entries id r.0 d r.1)
      ] at

  -- an entry more has the last place, if its id is new; every other id has the place that it had
  pub entry_last : (entries : List (TxnId × V)) (id : TxnId) (v : V) → ¬ (Has (map (λ e. e.0) entries) id) → entry_place (entries ++ (id, v) ∷ []) id ≡ Some (length entries)
  entry_last [] id v new = rw (test_of_id id id refl) refl
  entry_last (e ∷ entries) id v new = rw (test_of_other id e.0 (λ same. new (inl (sym same)))) (ap (option_map suc) (entry_last entries id v (λ h. new (inr h))))

  pub entry_other : (entries : List (TxnId × V)) (id other : TxnId) (v : V) → other ≢ id → entry_place (entries ++ (id, v) ∷ []) other ≡ entry_place entries other
  entry_other [] id other v apart = rw (test_of_other other id apart) refl
  entry_other (e ∷ entries) id other v apart = ap (λ o. cond (same_id other e.0) (Some 0) (option_map suc o)) (entry_other entries id other v apart)

  -- so an index that has got this place for the new id leads to all entries then
  pub leads_more : (old new : IdIndexView) (entries : List (TxnId × V)) (id : TxnId) (v : V) → LeadsTo old entries → ¬ (Has (map (λ e. e.0) entries) id)
      → place_of new id ≡ Some (length entries) → ((other : TxnId) → other ≢ id → place_of new other ≡ place_of old other) → LeadsTo new (entries ++ (id, v) ∷ [])
  leads_more old new entries id v leads fresh here others = λ other. by other (either_id other id)
    where
      by : (other : TxnId) → (other ≡ id) ⊎ (other ≢ id) → place_of new other ≡ entry_place (entries ++ (id, v) ∷ []) other
      by other (inl same) = subst (λ i. place_of new i ≡ entry_place (entries ++ (id, v) ∷ []) i) (sym same) (here ∙ sym (entry_last entries id v fresh))
      by other (inr apart) = others other apart ∙ leads other ∙ sym (entry_other entries id other v apart)
