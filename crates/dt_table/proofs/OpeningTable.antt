-- A list with distinct keys is entered into a map entry by entry.
use Rattle.std.proofs.Common.{◌≡◌, ℕ, zero, suc, ◌+◌, ◌<◌, false, cond, List, [], ◌∷◌, ◌++◌, map, length, take, get_or, refl, sym, ap, ◌∙◌, arith}
use Rattle.std.proofs.lemmas.List.{map-id, map-append, take_more}
use Rattle.indexmap.specs.IndexMap.{insert_entry}
use Rattle.dt_lists.proofs.Callers.{all_get, all_of_image, has_at}
use Rattle.dt_access.specs.Clash.{Bytes, same_key}
use Rattle.dt_access.specs.Orders.{HasDistinctKeys}
use Rattle.dt_access.proofs.Callers.{same_key_other}

module _ {A B : Type 0} (entry : Bytes × A → Bytes × B) (same : (e : Bytes × A) → (entry e).0 ≡ e.0) where
  -- the entry of a key that none of the entries before it has goes last
  pub insert_entry-next : (xs : List (Bytes × A)) (i : ℕ) (d : Bytes × A) (w : B) → HasDistinctKeys xs → i < length xs
      → insert_entry same_key (map entry (take i xs)) (get_or xs i d).0 w ≡ map entry (take i xs) ++ ((get_or xs i d).0, w) ∷ []
  insert_entry-next [] i d w distinct within = absurd (omega arith)
  insert_entry-next (x ∷ xs) zero d w distinct within = refl
  insert_entry-next (x ∷ xs) (suc i) d w distinct within =
      let key = (get_or xs i d).0 in
      let others = all_of_image (λ y. ¬ (x.0 ≡ y)) (λ e. e.0) xs distinct.0 in
      let other : ¬ (x.0 ≡ key) = all_get (λ e. ¬ (x.0 ≡ e.0)) xs others (get_or xs i d) (has_at xs i d (omega arith)) in
      let apart : same_key key (entry x).0 ≡ false = ap (same_key key) (same x) ∙ same_key_other key x.0 (λ e. other (sym e)) in
      ap (λ b. cond b (((entry x).0, w) ∷ map entry (take i xs)) (entry x ∷ insert_entry same_key (map entry (take i xs)) key w)) apart
      ∙ ap (λ l. entry x ∷ l) (insert_entry-next xs i d w distinct.1 (omega arith))

  -- so the map is the list, one entry further
  pub map-next : (xs : List (Bytes × A)) (i : ℕ) (d : Bytes × A) → HasDistinctKeys xs → i < length xs
      → insert_entry same_key (map entry (take i xs)) (entry (get_or xs i d)).0 (entry (get_or xs i d)).1 ≡ map entry (take (i + 1) xs)
  map-next xs i d distinct within =
      let x = get_or xs i d in
      ap (λ k. insert_entry same_key (map entry (take i xs)) k (entry x).1) (same x) ∙ insert_entry-next xs i d (entry x).1 distinct within
      ∙ ap (λ k. map entry (take i xs) ++ (k, (entry x).1) ∷ []) (sym (same x))
      ∙ sym (ap (map entry) (take_more xs i d within) ∙ map-append entry (take i xs) (x ∷ []))

pub next-entry : {A : Type 0} (xs : List (Bytes × A)) (i : ℕ) (d : Bytes × A) → HasDistinctKeys xs → i < length xs
    → insert_entry same_key (take i xs) (get_or xs i d).0 (get_or xs i d).1 ≡ take (i + 1) xs
next-entry xs i d distinct within =
    let x = get_or xs i d in
    ap (λ es. insert_entry same_key es x.0 x.1) (sym (map-id (take i xs))) ∙ map-next (λ e. e) (λ _. refl) xs i d distinct within ∙ map-id (take (i + 1) xs)
