-- Lists by place: an item is put in or added at the end; and what is said of a list by its last item.
use Rattle.std.proofs.Common.{◌≡◌, ◌<◌, ◌⊎◌, ℕ, zero, suc, Bool, true, false, List, [], ◌∷◌, ◌++◌, length, get_or, drop, set, replicate, slice_index_or}
use Rattle.std.proofs.Common.{flat_map, slice_get, ◌-◌, ◌+◌, ◌∙◌, Some, refl, sym, ap, subst, inl, inr, append_assoc, append-nil, arith}
use Rattle.std.specs.Prelude.{filter}
use Rattle.std.proofs.lemmas.Bool.{cases_Bool}
use Rattle.std.proofs.lemmas.List.{drop_more, length-append}
use Rattle.dt_lists.specs.Lists.{AnyIn, AllIn, Has, Distinct}
use Rattle.dt_lists.proofs.Words.{any_append, any_append_left, any_append_right, all_append, all_get, all_put}
use Rattle.dt_lists.proofs.Filters.{has_filter, of_filter}

-- what holds of the empty list, and with each list of the list with one more item at its end, holds of all lists
pub from_right : {A : Type 0} (P : List A → Type 0) → P [] → ((xs : List A) (x : A) → P xs → P (xs ++ x ∷ [])) → (xs : List A) → P xs
from_right {A = A} P none more xs = go [] xs none
  where
    go : (front rest : List A) → P front → P (front ++ rest)
    go front [] p = subst P (sym (append-nil front)) p
    go front (x ∷ rest) p = subst P (append_assoc front (x ∷ []) rest) (go (front ++ x ∷ []) rest (more front x p))

-- the rest of a list from an item on begins with that item
pub from_item : {A : Type 0} (xs : List A) (i : ℕ) (x d : A) → i < length xs → x ≡ get_or xs i d → drop i xs ≡ x ∷ drop (i + 1) xs
from_item xs i x d inside is = drop_more xs i d inside ∙ ap (λ y. y ∷ drop (i + 1) xs) (sym is)

-- what an item that is put in has in common with the one before

pub field_of_set : {A B : Type 0} (f : A → B) (xs : List A) (i : ℕ) (x d : A) → f x ≡ f (get_or xs i d) → (j : ℕ) → f (get_or (set xs i x) j d) ≡ f (get_or xs j d)
field_of_set f [] i x d e j = refl
field_of_set f (y ∷ ys) zero x d e zero = e
field_of_set f (y ∷ ys) zero x d e (suc j) = refl
field_of_set f (y ∷ ys) (suc i) x d e zero = refl
field_of_set f (y ∷ ys) (suc i) x d e (suc j) = field_of_set f ys i x d e j

pub flat_map_of_set : {A B : Type 0} (f : A → List B) (xs : List A) (i : ℕ) (x d : A) → f x ≡ f (get_or xs i d) → flat_map f (set xs i x) ≡ flat_map f xs
flat_map_of_set f [] i x d e = refl
flat_map_of_set f (y ∷ ys) zero x d e = ap (λ z. z ++ flat_map f ys) e
flat_map_of_set f (y ∷ ys) (suc i) x d e = ap (λ zs. f y ++ zs) (flat_map_of_set f ys i x d e)

pub get_of_replicate : {A : Type 0} (n i : ℕ) (d : A) → get_or (replicate n d) i d ≡ d
get_of_replicate zero i d = refl
get_of_replicate (suc n) zero d = refl
get_of_replicate (suc n) (suc i) d = get_of_replicate n i d

-- what holds of the item that is put in and of each item, holds of each item then
pub all_set : {A : Type 0} (P : A → Type 0) (xs : List A) (i : ℕ) (x : A) → AllIn P xs → P x → AllIn P (set xs i x)
all_set P [] i x a p = tt
all_set P (y ∷ xs) zero x a p = (p, a.1)
all_set P (y ∷ xs) (suc i) x a p = (a.0, all_set P xs i x a.1 p)

pub each_of_set : {A : Type 0} (P : ℕ → A → Type 0) (xs : List A) (i : ℕ) (x d : A) → P i x → ((j : ℕ) → j < length xs → P j (get_or xs j d)) → (j : ℕ) → j < length xs → P j (get_or (set xs i x) j d)
each_of_set P [] i x d p all j lt = absurd (omega arith)
each_of_set P (y ∷ ys) zero x d p all zero lt = p
each_of_set P (y ∷ ys) zero x d p all (suc j) lt = all (suc j) lt
each_of_set P (y ∷ ys) (suc i) x d p all zero lt = all zero lt
each_of_set P (y ∷ ys) (suc i) x d p all (suc j) lt = each_of_set (λ k. P (suc k)) ys i x d p (λ k l. all (suc k) (omega arith)) j (omega arith)

-- items by place

pub place_of : {A : Type 0} (xs : List A) (x : A) → Has xs x → (i : ℕ) × (slice_get xs i ≡ Some x)
place_of [] x h = absurd h
place_of (y ∷ ys) x (inl e) = (zero, ap Some e)
place_of (y ∷ ys) x (inr h) = let r : (i : ℕ) × (slice_get ys i ≡ Some x) = place_of ys x h in (suc r.0, r.1)

pub has_place : {A : Type 0} (xs : List A) (i : ℕ) (x : A) → slice_get xs i ≡ Some x → Has xs x
has_place [] i x e = cc
has_place (y ∷ ys) zero x e = inl (cc)
has_place (y ∷ ys) (suc i) x e = inr (has_place ys i x e)

pub has_at : {A : Type 0} (xs : List A) (i : ℕ) (d : A) → i < length xs → Has xs (get_or xs i d)
has_at [] i d lt = absurd (omega arith)
has_at (y ∷ ys) zero d lt = inl refl
has_at (y ∷ ys) (suc i) d lt = inr (has_at ys i d (omega arith))

pub at_place : {A : Type 0} (xs : List A) (i : ℕ) → i < length xs → (x : A) × (slice_get xs i ≡ Some x)
at_place [] i lt = absurd (omega arith)
at_place (y ∷ ys) zero lt = (y, refl)
at_place (y ∷ ys) (suc i) lt = at_place ys i (omega arith)

pub place_in_longer : {A : Type 0} (xs ys : List A) (i : ℕ) (x : A) → slice_get xs i ≡ Some x → slice_get (xs ++ ys) i ≡ Some x
place_in_longer [] ys i x e = cc
place_in_longer (z ∷ zs) ys zero x e = e
place_in_longer (z ∷ zs) ys (suc i) x e = place_in_longer zs ys i x e

-- in a list without repeats an item stands at one place
pub one_place : {A : Type 0} (xs : List A) (i j : ℕ) (v : A) → Distinct xs → slice_get xs i ≡ Some v → slice_get xs j ≡ Some v → i ≡ j
one_place [] i j v d e f = cc
one_place (x ∷ xs) zero zero v d e f = refl
one_place (x ∷ xs) zero (suc j) v d e f = let s : x ≡ v = cc in absurd (all_get _ xs d.0 v (has_place xs j v f) s)
one_place (x ∷ xs) (suc i) zero v d e f = let s : x ≡ v = cc in absurd (all_get _ xs d.0 v (has_place xs i v e) s)
one_place (x ∷ xs) (suc i) (suc j) v d e f = ap suc (one_place xs i j v d.1 e f)

-- what holds of each item holds of the one at a place
pub all_index : {A : Type 0} (P : A → Type 0) (xs : List A) (i : ℕ) (d : A) → AllIn P xs → i < length xs → P (slice_index_or xs i d)
all_index P [] i d all lt = absurd (omega arith)
all_index P (x ∷ xs) zero d all lt = all.0
all_index P (x ∷ xs) (suc i) d all lt = all_index P xs i d all.1 (omega arith)

pub all_or : {A : Type 0} (P : A → Type 0) (xs : List A) (i : ℕ) (d : A) → AllIn P xs → i < length xs → P (get_or xs i d)
all_or P [] i d all lt = absurd (omega arith)
all_or P (x ∷ xs) zero d all lt = all.0
all_or P (x ∷ xs) (suc i) d all lt = all_or P xs i d all.1 (omega arith)

-- what the item at each place is, each item is
pub all_of_places : {A : Type 0} (P : A → Type 0) (d : A) (xs : List A) → ((i : ℕ) → i < length xs → P (get_or xs i d)) → AllIn P xs
all_of_places P d [] f = tt
all_of_places P d (x ∷ xs) f = (f zero (omega arith), all_of_places P d xs (λ i lt. f (suc i) (omega (arith, lt))))

-- what stands in the rest of a list stands in the list
pub has_dropped : {A : Type 0} (n : ℕ) (xs : List A) (x : A) → Has (drop n xs) x → Has xs x
has_dropped zero xs x h = h
has_dropped (suc n) [] x h = absurd h
has_dropped (suc n) (y ∷ ys) x h = inr (has_dropped n ys x h)

-- nothing stands in an empty list
pub none_in_empty : {A : Type 0} (xs : List A) (x : A) → Has xs x → length xs ≡ 0 → ⊥
none_in_empty [] x h e = h
none_in_empty (y ∷ ys) x h e = omega (arith, e)

-- an item of a list with one more at its end is one of the list, or the last one
pub place_in_more : {A : Type 0} (xs : List A) (y : A) (i : ℕ) (x : A) → slice_get (xs ++ y ∷ []) i ≡ Some x → (slice_get xs i ≡ Some x) ⊎ ((i ≡ length xs) × (y ≡ x))
place_in_more [] y zero x e = inr (refl, cc)
place_in_more [] y (suc i) x e = cc
place_in_more (z ∷ zs) y zero x e = inl e
place_in_more (z ∷ zs) y (suc i) x e = elim (place_in_more zs y i x e) [ inl l ↦ inl l | inr r ↦ inr (ap suc r.0, r.1) ]

-- a list with one more item at its end

pub all_more : {A : Type 0} (P : A → Type 0) (xs : List A) (x : A) → AllIn P xs → P x → AllIn P (xs ++ x ∷ [])
all_more P xs x a p = all_append P xs (x ∷ []) a (p, tt)

pub has_more : {A : Type 0} (xs : List A) (x y : A) → Has (xs ++ x ∷ []) y → Has xs y ⊎ (x ≡ y)
has_more xs x y h = elim (any_append _ xs (x ∷ []) h) [ inl l ↦ inl l | inr r ↦ elim r [ inl e ↦ inr e | inr f ↦ absurd f ] ]

pub has_last : {A : Type 0} (xs : List A) (x : A) → Has (xs ++ x ∷ []) x
has_last xs x = any_append_right (λ y. y ≡ x) xs (x ∷ []) (inl refl)

pub last_place : {A : Type 0} (xs : List A) (x : A) → slice_get (xs ++ x ∷ []) (length xs) ≡ Some x
last_place [] x = refl
last_place (y ∷ ys) x = last_place ys x

-- what was pushed is the last item
pub at_back : {A : Type 0} (xs : List A) (x : A) → Some x ≡ slice_get (xs ++ x ∷ []) (length (xs ++ x ∷ []) - 1)
at_back xs x = sym (ap (slice_get (xs ++ x ∷ [])) (before (length xs) _ (length-append xs (x ∷ []))) ∙ last_place xs x)
  where
    before : (n m : ℕ) → m ≡ n + 1 → m - 1 ≡ n
    before n m e = omega (arith, e)

pub has_longer : {A : Type 0} (xs ys : List A) (x : A) → Has xs x → Has (xs ++ ys) x
has_longer xs ys x h = any_append_left (λ y. y ≡ x) xs ys h

-- joined lists

pub any_in_joined : {A B : Type 0} (P : B → Type 0) (f : A → List B) (xs : List A) → AnyIn P (flat_map f xs) → AnyIn (λ x. AnyIn P (f x)) xs
any_in_joined P f [] e = e
any_in_joined P f (x ∷ xs) e = elim (any_append P (f x) (flat_map f xs) e) [ inl l ↦ inl l | inr r ↦ inr (any_in_joined P f xs r) ]

pub any_of_joined : {A B : Type 0} (P : B → Type 0) (f : A → List B) (xs : List A) → AnyIn (λ x. AnyIn P (f x)) xs → AnyIn P (flat_map f xs)
any_of_joined P f [] e = e
any_of_joined P f (x ∷ xs) (inl p) = any_append_left P (f x) (flat_map f xs) p
any_of_joined P f (x ∷ xs) (inr e) = any_append_right P (f x) (flat_map f xs) (any_of_joined P f xs e)

-- filters

pub has_of_filtered : {A : Type 0} (test : A → Bool) (xs : List A) (x : A) → Has (filter test xs) x → Has xs x × (test x ≡ true)
has_of_filtered test xs x h = all_get (λ y. Has xs y × (test y ≡ true)) (filter test xs) (of_filter test xs) x h

-- what is distinct in a filtered list, for each test, is distinct
pub distinct_by_key : {A B : Type 0} (same : B → A → Bool) (key : A → B) (xs : List A) → ((x : A) → same (key x) x ≡ true) → ((b : B) → Distinct (filter (same b) xs)) → Distinct xs
distinct_by_key same key [] self d = tt
distinct_by_key same key (x ∷ xs) self d = (all_put _ xs (λ y h e. twice y h e), distinct_by_key same key xs self (λ b. rest b))
  where
    head_of : Distinct (filter (same (key x)) (x ∷ xs)) → Distinct (x ∷ filter (same (key x)) xs)
    head_of h = rw (self x) at h

    twice : (y : _) → Has xs y → x ≡ y → ⊥
    twice y h e = all_get _ (filter (same (key x)) xs) (head_of (d (key x))).0 y (has_filter (same (key x)) xs y h (subst (λ z. same (key x) z ≡ true) e (self x))) e

    rest : (b : _) → Distinct (filter (same b) xs)
    rest b = go (cases_Bool (same b x)) (d b)
      where
        go : (same b x ≡ true) ⊎ (same b x ≡ false) → Distinct (filter (same b) (x ∷ xs)) → Distinct (filter (same b) xs)
        go (inl p) h = (rw p at h).1
        go (inr n) h = rw n at h
