-- What is kept of a list of different items that are put one after the other, for any test that says whether two items are the same.
use Rattle.std.proofs.Common.{◌≡◌, ℕ, ◌+◌, ◌<◌, Bool, cond, List, [], ◌∷◌, ◌++◌, drop, get_or, length, take, refl, ap, sym, subst, inl, ◌∙◌}
use Rattle.std.specs.List.{list_any}
use Rattle.std.proofs.lemmas.List.{take_more, take-append-drop}
use Rattle.dt_lists.specs.Lists.{Distinct, Has}
use Rattle.dt_lists.proofs.Callers.{Tells, added_new, each_across, each_append_left}

-- the items of a list of different ones are put one after the other
pub index_more : {A : Type 0} (same : A → A → Bool) → Tells same → (list keys new : List A) (n : ℕ) (d : A) → Distinct list → n < length list → keys ≡ take n list
    → new ≡ cond (list_any (same (get_or list n d)) keys) keys (keys ++ get_or list n d ∷ []) → new ≡ take (n + 1) list
index_more same t list keys new n d once lt is_front is_new =
    is_new ∙ added_new same t (get_or list n d) keys (λ h. fresh (subst (λ l. Has l (get_or list n d)) is_front h)) ∙ ap (λ l. l ++ get_or list n d ∷ []) is_front ∙ sym (take_more list n d lt)
  where
    front_once : Distinct (take (n + 1) list)
    front_once = each_append_left _ (take (n + 1) list) (drop (n + 1) list) (subst Distinct (sym (take-append-drop (n + 1) list)) once)

    fresh : ¬ (Has (take n list) (get_or list n d))
    fresh h = each_across _ (take n list) (get_or list n d ∷ []) (get_or list n d) (get_or list n d) (subst Distinct (take_more list n d lt) front_once) h (inl refl) refl
