-- What a packet holds of a list, gathered item by item.
use Rattle.std.proofs.Common.{◌≡◌, ◌<◌, ◌≤◌, ◌+◌, ◌-◌, ℕ, List, [], ◌∷◌, ◌++◌, length, get_or, take, drop, Some, None, refl, ap}
use Rattle.std.proofs.Common.{◌∙◌, arith}
use Rattle.std.specs.Prelude.{Option, filter_map, option_to_list}
use Rattle.std.proofs.lemmas.List.{get_or-drop, length-drop, take_more}
use Rattle.std.proofs.lemmas.List.Elements.{filter_map-append}

module _ {A B : Type 0} (f : A → Option B) (xs : List A) (first place : ℕ) (d : A) (from : first ≤ place) (lt : place < length xs) where
  stretch_more : filter_map f (take (place + 1 - first) (drop first xs)) ≡ filter_map f (take (place - first) (drop first xs)) ++ filter_map f (get_or xs place d ∷ [])
  stretch_more =
      let many : place + 1 - first ≡ (place - first) + 1 = omega (arith, from) in
      let there : first + (place - first) ≡ place = omega (arith, from) in
      let short : place - first < length (drop first xs) = omega (arith, from, lt, length-drop first xs) in
      ap (λ m. filter_map f (take m (drop first xs))) many
      ∙ ap (filter_map f) (take_more (drop first xs) (place - first) d short ∙ ap (λ y. take (place - first) (drop first xs) ++ y ∷ []) (get_or-drop first xs (place - first) d ∙ ap (λ m. get_or xs m d) there))
      ∙ filter_map-append f (take (place - first) (drop first xs)) (get_or xs place d ∷ [])

  -- of the next item something is gathered, or nothing
  pub stretch_next : filter_map f (take (place + 1 - first) (drop first xs)) ≡ filter_map f (take (place - first) (drop first xs)) ++ option_to_list (f (get_or xs place d))
  stretch_next = stretch_more ∙ ap (λ l. filter_map f (take (place - first) (drop first xs)) ++ l) (one (get_or xs place d) (f (get_or xs place d)) refl)
    where
      one : (x : A) (o : Option B) → f x ≡ o → filter_map f (x ∷ []) ≡ option_to_list (f x)
      one x None e = rw e refl
      one x (Some y) e = rw e refl
