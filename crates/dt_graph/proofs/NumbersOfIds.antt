-- Numbers of ids: a new id gets the next one, and every other id keeps its own.
use Rattle.std.proofs.Common.{◌≡◌, ◌≢◌, ◌<◌, ◌+◌, ◌^◌, ◌⊎◌, ℕ, List, [], ◌∷◌, ◌++◌, length, Option, None, Some}
use Rattle.std.proofs.Common.{sym, subst, inl, inr}
use Rattle.std.proofs.lemmas.List.{length-append}
use Rattle.dt_lists.specs.Lists.{Has}
use Rattle.dt_lists.proofs.Callers.{distinct_push, has_more, last_place, place_in_longer}
use Rattle.dt_access.specs.declared.TxnId.{TxnId}
use Rattle.dt_access.proofs.Callers.{either_id}
use Rattle.dt_graph.specs.NamesInner.{AreIdsNumbered}
use Rattle.dt_graph.specs.SubsetInner.{StandsAtPlace}

-- an id more leaves the numbers of all others
number_more : (ids : List TxnId) (id other : TxnId) (r : Option ℕ) → other ≢ id → StandsAtPlace ids other r → StandsAtPlace (ids ++ id ∷ []) other r
number_more ids id other None ne absent = λ h. elim (has_more ids id other h) [ inl g ↦ absent g | inr e ↦ ne (sym e) ]
number_more ids id other (Some n) ne there = place_in_longer ids (id ∷ []) n other there

module _ (ids : List TxnId) (numbers : TxnId → Option ℕ) (kept : AreIdsNumbered ids numbers) where
  -- a new id got the next number
  pub numbered_more : (id : TxnId) → ¬ (Has ids id) → length ids + 1 < 2 ^ 32 → (new : TxnId → Option ℕ) → new id ≡ Some (length ids) → ((other : TxnId) → other ≢ id → new other ≡ numbers other)
      → AreIdsNumbered (ids ++ id ∷ []) new
  numbered_more id fresh few new here others = record {
    few = subst (λ n. n < 2 ^ 32) (sym (length-append ids (id ∷ []))) few;
    once = distinct_push ids id kept.once fresh;
    found = λ other. by other (either_id other id);
  }
    where
      by : (other : TxnId) → (other ≡ id) ⊎ (other ≢ id) → StandsAtPlace (ids ++ id ∷ []) other (new other)
      by other (inl e) = subst (λ t. StandsAtPlace (ids ++ id ∷ []) t (new t)) (sym e) (subst (StandsAtPlace (ids ++ id ∷ []) id) (sym here) (last_place ids id))
      by other (inr ne) = subst (StandsAtPlace (ids ++ id ∷ []) other) (sym (others other ne)) (number_more ids id other _ ne (kept.found other))
