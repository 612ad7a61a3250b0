-- What a filter keeps of a list: its items, what holds of them, and which stands before which.
use Rattle.std.proofs.Common.{◌≡◌, ◌⊎◌, Bool, true, false, cond, List, [], ◌∷◌, refl, ap, subst, ◌∙◌, inl, inr}
use Rattle.std.specs.Prelude.{filter}
use Rattle.std.proofs.lemmas.Bool.{cases_Bool}
use Rattle.dt_lists.specs.Lists.{AllIn, SomeThen, Has, EachThen}
use Rattle.dt_lists.proofs.Words.{any_map, any_get, all_map}

pub has_filter : {A : Type 0} (p : A → Bool) (xs : List A) (x : A) → Has xs x → p x ≡ true → Has (filter p xs) x
has_filter p [] x h y = h
has_filter p (z ∷ xs) x h y = go (cases_Bool (p z)) h (λ k. has_filter p xs x k y)
  where
    go : (p z ≡ true) ⊎ (p z ≡ false) → Has (z ∷ xs) x → (Has xs x → Has (filter p xs) x) → Has (filter p (z ∷ xs)) x
    go (inl s) (inl e) later = rw s (inl e)
    go (inl s) (inr k) later = rw s (inr (later k))
    go (inr n) (inl e) later = let s : p z ≡ true = ap p e ∙ y in cc
    go (inr n) (inr k) later = rw n (later k)

pub of_filter : {A : Type 0} (p : A → Bool) (xs : List A) → AllIn (λ x. Has xs x × (p x ≡ true)) (filter p xs)
of_filter p [] = tt
of_filter p (z ∷ xs) = go (cases_Bool (p z)) (all_map _ _ (filter p xs) (λ x h. (inr h.0, h.1)) (of_filter p xs))
  where
    go : (p z ≡ true) ⊎ (p z ≡ false) → AllIn (λ x. Has (z ∷ xs) x × (p x ≡ true)) (filter p xs) → AllIn (λ x. Has (z ∷ xs) x × (p x ≡ true)) (filter p (z ∷ xs))
    go (inl s) later = rw s ((inl refl, s), later)
    go (inr n) later = rw n later

pub filter_all : {A : Type 0} (P : A → Type 0) (p : A → Bool) (xs : List A) → AllIn P xs → AllIn P (filter p xs)
filter_all P p [] all = tt
filter_all P p (x ∷ xs) all = go (p x) (filter_all P p xs all.1)
  where
    go : (b : Bool) → AllIn P (filter p xs) → AllIn P (cond b (x ∷ filter p xs) (filter p xs))
    go true later = (all.0, later)
    go false later = later

pub filter_each : {A : Type 0} (R : A → A → Type 0) (p : A → Bool) (xs : List A) → EachThen R xs → EachThen R (filter p xs)
filter_each R p [] each = tt
filter_each R p (x ∷ xs) each = go (p x) (filter_each R p xs each.1)
  where
    go : (b : Bool) → EachThen R (filter p xs) → EachThen R (cond b (x ∷ filter p xs) (filter p xs))
    go true later = (filter_all (R x) p xs each.0, later)
    go false later = later

-- two items that pass stand in the filtered list as they stand in the list
pub filter_before : {A : Type 0} (p : A → Bool) (xs : List A) (u t : A) → p u ≡ true → p t ≡ true → SomeThen (λ a b. (a ≡ u) × (b ≡ t)) xs → SomeThen (λ a b. (a ≡ u) × (b ≡ t)) (filter p xs)
filter_before p [] u t pu pt s = s
filter_before p (x ∷ xs) u t pu pt (inl s) =
    let r : (y : _) × Has xs y × ((x ≡ u) × (y ≡ t)) = any_get _ xs s in
    let px : p x ≡ true = ap p r.2.0 ∙ pu in
    let later : Has (filter p xs) t = has_filter p xs t (subst (Has xs) r.2.1 r.1) pt in
    rw px (inl (any_map _ _ (filter p xs) (λ y e. (r.2.0, e)) later))
filter_before p (x ∷ xs) u t pu pt (inr s) = go (p x) (filter_before p xs u t pu pt s)
  where
    go : (b : Bool) → SomeThen (λ a b. (a ≡ u) × (b ≡ t)) (filter p xs) → SomeThen (λ a b. (a ≡ u) × (b ≡ t)) (cond b (x ∷ filter p xs) (filter p xs))
    go true later = inr later
    go false later = later

-- where each item passes, the list is kept whole
pub filter_whole : {A : Type 0} (p : A → Bool) (xs : List A) → AllIn (λ x. p x ≡ true) xs → filter p xs ≡ xs
filter_whole p [] all = refl
filter_whole p (x ∷ xs) all = rw all.0 (ap (λ l. x ∷ l) (filter_whole p xs all.1))
