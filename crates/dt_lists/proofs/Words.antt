-- Laws of the words on lists: what holds of some items and of all items, also of longer lists, of images and by place.
use Rattle.std.proofs.Common.{◌≡◌, ◌≢◌, ◌<◌, ◌⊎◌, ℕ, zero, suc, List, [], ◌∷◌, ◌++◌, length, get_or, map, refl, sym, ap, subst, inl, inr, arith}
use Rattle.dt_lists.specs.Lists.{AnyIn, AllIn, SomeThen, Has, IsWithin, EachThen}

-- some item

pub any_map : {A : Type 0} (P Q : A → Type 0) (xs : List A) → ((x : A) → P x → Q x) → AnyIn P xs → AnyIn Q xs
any_map P Q [] f e = e
any_map P Q (x ∷ xs) f (inl p) = inl (f x p)
any_map P Q (x ∷ xs) f (inr e) = inr (any_map P Q xs f e)

pub any_get : {A : Type 0} (P : A → Type 0) (xs : List A) → AnyIn P xs → (x : A) × Has xs x × P x
any_get P [] e = absurd e
any_get P (x ∷ xs) (inl p) = (x, inl refl, p)
any_get P (x ∷ xs) (inr e) = let r : (y : _) × Has xs y × P y = any_get P xs e in (r.0, inr r.1, r.2)

pub any_put : {A : Type 0} (P : A → Type 0) (xs : List A) (x : A) → Has xs x → P x → AnyIn P xs
any_put P [] x h p = h
any_put P (y ∷ ys) x (inl e) p = inl (subst P (sym e) p)
any_put P (y ∷ ys) x (inr h) p = inr (any_put P ys x h p)

pub any_append_left : {A : Type 0} (P : A → Type 0) (xs ys : List A) → AnyIn P xs → AnyIn P (xs ++ ys)
any_append_left P [] ys e = absurd e
any_append_left P (x ∷ xs) ys (inl p) = inl p
any_append_left P (x ∷ xs) ys (inr e) = inr (any_append_left P xs ys e)

pub any_append_right : {A : Type 0} (P : A → Type 0) (xs ys : List A) → AnyIn P ys → AnyIn P (xs ++ ys)
any_append_right P [] ys e = e
any_append_right P (x ∷ xs) ys e = inr (any_append_right P xs ys e)

pub any_append : {A : Type 0} (P : A → Type 0) (xs ys : List A) → AnyIn P (xs ++ ys) → AnyIn P xs ⊎ AnyIn P ys
any_append P [] ys e = inr e
any_append P (x ∷ xs) ys (inl p) = inl (inl p)
any_append P (x ∷ xs) ys (inr e) = elim (any_append P xs ys e) [ inl l ↦ inl (inr l) | inr r ↦ inr r ]

pub any_image : {A B : Type 0} (P : B → Type 0) (f : A → B) (xs : List A) → AnyIn (λ x. P (f x)) xs → AnyIn P (map f xs)
any_image P f [] e = e
any_image P f (x ∷ xs) (inl p) = inl p
any_image P f (x ∷ xs) (inr e) = inr (any_image P f xs e)

pub any_of_image : {A B : Type 0} (P : B → Type 0) (f : A → B) (xs : List A) → AnyIn P (map f xs) → AnyIn (λ x. P (f x)) xs
any_of_image P f [] e = e
any_of_image P f (x ∷ xs) (inl p) = inl p
any_of_image P f (x ∷ xs) (inr e) = inr (any_of_image P f xs e)

-- an item by its place
pub any_at : {A : Type 0} (P : A → Type 0) (d : A) (xs : List A) → AnyIn P xs → (i : ℕ) × (i < length xs) × P (get_or xs i d)
any_at P d [] e = absurd e
any_at P d (x ∷ xs) (inl p) = (zero, omega arith, p)
any_at P d (x ∷ xs) (inr e) = let r : (i : ℕ) × (i < length xs) × P (get_or xs i d) = any_at P d xs e in (suc r.0, omega arith, r.2)

pub any_from_at : {A : Type 0} (P : A → Type 0) (d : A) (xs : List A) (i : ℕ) → ¬ P d → P (get_or xs i d) → AnyIn P xs
any_from_at P d [] i none p = none p
any_from_at P d (x ∷ xs) zero none p = inl p
any_from_at P d (x ∷ xs) (suc i) none p = inr (any_from_at P d xs i none p)

-- an item and a later one

pub some_map : {A : Type 0} (R S : A → A → Type 0) (xs : List A) → ((x y : A) → R x y → S x y) → SomeThen R xs → SomeThen S xs
some_map R S [] f e = e
some_map R S (x ∷ xs) f (inl e) = inl (any_map (R x) (S x) xs (f x) e)
some_map R S (x ∷ xs) f (inr e) = inr (some_map R S xs f e)

pub some_append_left : {A : Type 0} (R : A → A → Type 0) (xs ys : List A) → SomeThen R xs → SomeThen R (xs ++ ys)
some_append_left R [] ys e = absurd e
some_append_left R (x ∷ xs) ys (inl e) = inl (any_append_left (R x) xs ys e)
some_append_left R (x ∷ xs) ys (inr e) = inr (some_append_left R xs ys e)

-- the two items of the pair
pub some_get : {A : Type 0} (R : A → A → Type 0) (xs : List A) → SomeThen R xs → (x y : A) × Has xs x × Has xs y × R x y
some_get R [] e = absurd e
some_get R (x ∷ xs) (inl e) = let r : (y : _) × Has xs y × R x y = any_get (R x) xs e in (x, r.0, inl refl, inr r.1, r.2)
some_get R (x ∷ xs) (inr e) = let r : (a b : _) × Has xs a × Has xs b × R a b = some_get R xs e in (r.0, r.1, inr r.2, inr r.3, r.4)

-- two different items stand one before the other
pub some_of_two : {A : Type 0} (R : A → A → Type 0) (xs : List A) (x y : A) → Has xs x → Has xs y → x ≢ y → R x y → R y x
    → SomeThen (λ a b. (a ≡ x) × (b ≡ y) × R a b) xs ⊎ SomeThen (λ a b. (a ≡ y) × (b ≡ x) × R a b) xs
some_of_two R [] x y hx hy ne r s = absurd hx
some_of_two R (z ∷ zs) x y (inl ex) (inl ey) ne r s = absurd (ne (cc))
some_of_two R (z ∷ zs) x y (inl ex) (inr hy) ne r s = inl (inl (any_put _ zs y hy (ex, refl, subst (λ c. R c y) (sym ex) r)))
some_of_two R (z ∷ zs) x y (inr hx) (inl ey) ne r s = inr (inl (any_put _ zs x hx (ey, refl, subst (λ c. R c x) (sym ey) s)))
some_of_two R (z ∷ zs) x y (inr hx) (inr hy) ne r s = elim (some_of_two R zs x y hx hy ne r s) [ inl l ↦ inl (inr l) | inr m ↦ inr (inr m) ]

-- an item and one of the list that follows
pub some_across : {A : Type 0} (R : A → A → Type 0) (xs ys : List A) (x y : A) → Has xs x → Has ys y → R x y → SomeThen R (xs ++ ys)
some_across R [] ys x y hx hy r = absurd hx
some_across R (z ∷ zs) ys x y (inl e) hy r =
    inl (any_put (R z) (zs ++ ys) y (any_append_right (λ c. c ≡ y) zs ys hy) (subst (λ c. R c y) (sym e) r))
some_across R (z ∷ zs) ys x y (inr h) hy r = inr (some_across R zs ys x y h hy r)

-- each item

pub all_map : {A : Type 0} (P Q : A → Type 0) (xs : List A) → ((x : A) → P x → Q x) → AllIn P xs → AllIn Q xs
all_map P Q [] f a = tt
all_map P Q (x ∷ xs) f a = (f x a.0, all_map P Q xs f a.1)

pub all_get : {A : Type 0} (P : A → Type 0) (xs : List A) → AllIn P xs → (x : A) → Has xs x → P x
all_get P [] a x h = absurd h
all_get P (y ∷ ys) a x (inl e) = subst P e a.0
all_get P (y ∷ ys) a x (inr h) = all_get P ys a.1 x h

pub all_put : {A : Type 0} (P : A → Type 0) (xs : List A) → ((x : A) → Has xs x → P x) → AllIn P xs
all_put P [] f = tt
all_put P (x ∷ xs) f = (f x (inl refl), all_put P xs (λ y h. f y (inr h)))

-- what holds of each item holds of the one that is found
pub all_any : {A : Type 0} (P Q : A → Type 0) (xs : List A) → AllIn P xs → AnyIn Q xs → (x : A) × Has xs x × P x × Q x
all_any P Q xs a e = let r : (x : _) × Has xs x × Q x = any_get Q xs e in (r.0, r.1, all_get P xs a r.0 r.1, r.2)

pub all_append : {A : Type 0} (P : A → Type 0) (xs ys : List A) → AllIn P xs → AllIn P ys → AllIn P (xs ++ ys)
all_append P [] ys a b = b
all_append P (x ∷ xs) ys a b = (a.0, all_append P xs ys a.1 b)

pub all_append_left : {A : Type 0} (P : A → Type 0) (xs ys : List A) → AllIn P (xs ++ ys) → AllIn P xs
all_append_left P [] ys a = tt
all_append_left P (x ∷ xs) ys a = (a.0, all_append_left P xs ys a.1)

pub all_append_right : {A : Type 0} (P : A → Type 0) (xs ys : List A) → AllIn P (xs ++ ys) → AllIn P ys
all_append_right P [] ys a = a
all_append_right P (x ∷ xs) ys a = all_append_right P xs ys a.1

pub all_image : {A B : Type 0} (P : B → Type 0) (f : A → B) (xs : List A) → AllIn (λ x. P (f x)) xs → AllIn P (map f xs)
all_image P f [] a = tt
all_image P f (x ∷ xs) a = (a.0, all_image P f xs a.1)

pub all_of_image : {A B : Type 0} (P : B → Type 0) (f : A → B) (xs : List A) → AllIn P (map f xs) → AllIn (λ x. P (f x)) xs
all_of_image P f [] a = tt
all_of_image P f (x ∷ xs) a = (a.0, all_of_image P f xs a.1)

pub all_at : {A : Type 0} (P : A → Type 0) (d : A) (xs : List A) (i : ℕ) → P d → AllIn P xs → P (get_or xs i d)
all_at P d [] i p a = p
all_at P d (x ∷ xs) zero p a = a.0
all_at P d (x ∷ xs) (suc i) p a = all_at P d xs i p a.1

-- each item and each later one

pub each_map : {A : Type 0} (R S : A → A → Type 0) (xs : List A) → ((x y : A) → R x y → S x y) → EachThen R xs → EachThen S xs
each_map R S [] f a = tt
each_map R S (x ∷ xs) f a = (all_map (R x) (S x) xs (f x) a.0, each_map R S xs f a.1)

pub each_of_image : {A B : Type 0} (R : B → B → Type 0) (f : A → B) (xs : List A) → EachThen R (map f xs) → EachThen (λ x y. R (f x) (f y)) xs
each_of_image R f [] a = tt
each_of_image R f (x ∷ xs) a = (all_of_image (R (f x)) f xs a.0, each_of_image R f xs a.1)

pub each_image : {A B : Type 0} (R : B → B → Type 0) (f : A → B) (xs : List A) → EachThen (λ x y. R (f x) (f y)) xs → EachThen R (map f xs)
each_image R f [] a = tt
each_image R f (x ∷ xs) a = (all_image (R (f x)) f xs a.0, each_image R f xs a.1)

pub each_append_left : {A : Type 0} (R : A → A → Type 0) (xs ys : List A) → EachThen R (xs ++ ys) → EachThen R xs
each_append_left R [] ys a = tt
each_append_left R (x ∷ xs) ys a = (all_append_left (R x) xs ys a.0, each_append_left R xs ys a.1)

pub each_append_right : {A : Type 0} (R : A → A → Type 0) (xs ys : List A) → EachThen R (xs ++ ys) → EachThen R ys
each_append_right R [] ys a = a
each_append_right R (x ∷ xs) ys a = each_append_right R xs ys a.1

pub each_append : {A : Type 0} (R : A → A → Type 0) (xs ys : List A) → EachThen R xs → AllIn (λ x. AllIn (R x) ys) xs → EachThen R ys → EachThen R (xs ++ ys)
each_append R [] ys a m b = b
each_append R (x ∷ xs) ys a m b = (all_append (R x) xs ys a.0 m.0, each_append R xs ys a.1 m.1 b)

-- an item stands once in the list of items
pub has_map : {A B : Type 0} (f : A → B) (xs : List A) (x : A) → Has xs x → Has (map f xs) (f x)
has_map f [] x h = h
has_map f (y ∷ ys) x (inl e) = inl (ap f e)
has_map f (y ∷ ys) x (inr h) = inr (has_map f ys x h)

-- an item and one of the list that follows
pub each_across : {A : Type 0} (R : A → A → Type 0) (xs ys : List A) (x y : A) → EachThen R (xs ++ ys) → Has xs x → Has ys y → R x y
each_across R [] ys x y a hx hy = absurd hx
each_across R (z ∷ zs) ys x y a (inl e) hy = all_get (R x) ys (all_append_right (R x) zs ys (subst (λ c. AllIn (R c) (zs ++ ys)) e a.0)) y hy
each_across R (z ∷ zs) ys x y a (inr h) hy = each_across R zs ys x y a.1 h hy

pub within_get : {A : Type 0} (xs ys : List A) → IsWithin xs ys → (x : A) → Has xs x → Has ys x
within_get xs ys w x h = all_get (Has ys) xs w x h

pub within_refl : {A : Type 0} (xs : List A) → IsWithin xs xs
within_refl xs = all_put (Has xs) xs (λ x h. h)
