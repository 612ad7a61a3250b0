-- Laws of fronts of lists, and of lists that are related place by place.
use Rattle.std.proofs.Common.{◌≡◌, ◌≤◌, ℕ, zero, suc, List, [], ◌∷◌, ◌++◌, length, get_or, map, take, drop, refl, sym, ap, subst, ◌∙◌, append_assoc, append-nil, ◌+◌}
use Rattle.std.proofs.Common.{take-append-drop, inl, inr, arith}
use Rattle.std.proofs.lemmas.List.{length-append, map-append}
use Rattle.dt_lists.specs.Lists.{AnyIn, AllIn, SomeThen, EachThen, IsFront, Pairwise}
use Rattle.dt_lists.proofs.Words.{any_append_left, some_append_left, all_append_left, each_append_left}
use Rattle.dt_lists.proofs.Keys.{some_in_front}

-- fronts

pub front_refl : {A : Type 0} (xs : List A) → IsFront xs xs
front_refl xs = ([], append-nil xs)

pub front_trans : {A : Type 0} (xs ys zs : List A) → IsFront xs ys → IsFront ys zs → IsFront xs zs
front_trans xs ys zs a b = (a.0 ++ b.0, sym (append_assoc xs a.0 b.0) ∙ ap (λ l. l ++ b.0) a.1 ∙ b.1)

pub front_append : {A : Type 0} (xs ys : List A) → IsFront xs (xs ++ ys)
front_append xs ys = (ys, refl)

pub front_empty : {A : Type 0} (xs : List A) → IsFront [] xs
front_empty xs = (xs, refl)

pub front_length : {A : Type 0} (xs ys : List A) → IsFront xs ys → length xs ≤ length ys
front_length xs ys f = let e : length (xs ++ f.0) ≡ length xs + length f.0 = length-append xs f.0 in omega (arith, e, ap length f.1)

pub front_take : {A : Type 0} (n : ℕ) (xs : List A) → IsFront (take n xs) xs
front_take n xs = (drop n xs, take-append-drop n xs)

pub front_takes : {A : Type 0} (m n : ℕ) (xs : List A) → m ≤ n → IsFront (take m xs) (take n xs)
front_takes zero n xs le = front_empty (take n xs)
front_takes (suc m) zero xs le = absurd (omega arith)
front_takes (suc m) (suc n) [] le = ([], refl)
front_takes (suc m) (suc n) (x ∷ xs) le = let r : IsFront (take m xs) (take n xs) = front_takes m n xs (omega arith) in (r.0, ap (λ l. x ∷ l) r.1)

pub front_map : {A B : Type 0} (f : A → B) (xs ys : List A) → IsFront xs ys → IsFront (map f xs) (map f ys)
front_map f xs ys w = (map f w.0, sym (map-append f xs w.0) ∙ ap (map f) w.1)

pub any_front : {A : Type 0} (P : A → Type 0) (xs ys : List A) → IsFront xs ys → AnyIn P xs → AnyIn P ys
any_front P xs ys f e = subst (AnyIn P) f.1 (any_append_left P xs f.0 e)

pub some_front : {A : Type 0} (R : A → A → Type 0) (xs ys : List A) → IsFront xs ys → SomeThen R xs → SomeThen R ys
some_front R xs ys f e = subst (SomeThen R) f.1 (some_append_left R xs f.0 e)

pub all_front : {A : Type 0} (P : A → Type 0) (xs ys : List A) → IsFront xs ys → AllIn P ys → AllIn P xs
all_front P xs ys f a = all_append_left P xs f.0 (subst (AllIn P) (sym f.1) a)

pub each_front : {A : Type 0} (R : A → A → Type 0) (xs ys : List A) → IsFront xs ys → EachThen R ys → EachThen R xs
each_front R xs ys f a = each_append_left R xs f.0 (subst (EachThen R) (sym f.1) a)

-- where keys stand once, and the front has the key t, a pair that ends at t is in the front
pub some_back : {A B : Type 0} (R : A → A → Type 0) (f : A → B) (t : B) (xs ys : List A) → IsFront xs ys → ((x y : A) → R x y → f y ≡ t)
    → EachThen (λ x y. ¬ (f x ≡ f y)) ys → AnyIn (λ x. f x ≡ t) xs → SomeThen R ys → SomeThen R xs
some_back R f t xs ys w ends once e s =
    some_in_front R f t xs w.0 ends (subst (EachThen (λ x y. ¬ (f x ≡ f y))) (sym w.1) once) e (subst (SomeThen R) (sym w.1) s)

-- lists related place by place

pub pairwise_refl : {A : Type 0} (R : A → A → Type 0) → ((x : A) → R x x) → (xs : List A) → Pairwise R xs xs
pairwise_refl R r [] = tt
pairwise_refl R r (x ∷ xs) = (r x, pairwise_refl R r xs)

pub pairwise_length : {A B : Type 0} (R : A → B → Type 0) (xs : List A) (ys : List B) → Pairwise R xs ys → length xs ≡ length ys
pairwise_length R [] [] p = refl
pairwise_length R [] (y ∷ ys) p = absurd p
pairwise_length R (x ∷ xs) [] p = absurd p
pairwise_length R (x ∷ xs) (y ∷ ys) p = ap suc (pairwise_length R xs ys p.1)

pub pairwise_at : {A B : Type 0} (R : A → B → Type 0) (d : A) (e : B) (xs : List A) (ys : List B) → R d e → Pairwise R xs ys → (i : ℕ) → R (get_or xs i d) (get_or ys i e)
pairwise_at R d e [] [] r p i = r
pairwise_at R d e [] (y ∷ ys) r p i = absurd p
pairwise_at R d e (x ∷ xs) [] r p i = absurd p
pairwise_at R d e (x ∷ xs) (y ∷ ys) r p zero = p.0
pairwise_at R d e (x ∷ xs) (y ∷ ys) r p (suc i) = pairwise_at R d e xs ys r p.1 i

pub pairwise_any : {A B : Type 0} (R : A → B → Type 0) (P : A → Type 0) (Q : B → Type 0) (xs : List A) (ys : List B) → ((x : A) (y : B) → R x y → P x → Q y) → Pairwise R xs ys → AnyIn P xs → AnyIn Q ys
pairwise_any R P Q [] ys f p e = absurd e
pairwise_any R P Q (x ∷ xs) [] f p e = p
pairwise_any R P Q (x ∷ xs) (y ∷ ys) f p (inl a) = inl (f x y p.0 a)
pairwise_any R P Q (x ∷ xs) (y ∷ ys) f p (inr e) = inr (pairwise_any R P Q xs ys f p.1 e)

pub pairwise_more : {A B : Type 0} (R : A → B → Type 0) (xs : List A) (ys : List B) (x : A) (y : B) → Pairwise R xs ys → R x y → Pairwise R (xs ++ x ∷ []) (ys ++ y ∷ [])
pairwise_more R [] [] x y p r = (r, tt)
pairwise_more R [] (b ∷ ys) x y p r = absurd p
pairwise_more R (a ∷ xs) [] x y p r = absurd p
pairwise_more R (a ∷ xs) (b ∷ ys) x y p r = (p.0, pairwise_more R xs ys x y p.1 r)

-- where each item is related to one thing at most, its list is related to one list at most
pub pairwise_one : {A B : Type 0} (R : A → B → Type 0) → ((x : A) (y z : B) → R x y → R x z → y ≡ z) → (xs : List A) (ys zs : List B) → Pairwise R xs ys → Pairwise R xs zs → ys ≡ zs
pairwise_one R one [] [] [] p q = refl
pairwise_one R one [] [] (z ∷ zs) p q = absurd q
pairwise_one R one [] (y ∷ ys) zs p q = absurd p
pairwise_one R one (x ∷ xs) [] zs p q = absurd p
pairwise_one R one (x ∷ xs) (y ∷ ys) [] p q = absurd q
pairwise_one R one (x ∷ xs) (y ∷ ys) (z ∷ zs) p q = λ i. one x y z p.0 q.0 i ∷ pairwise_one R one xs ys zs p.1 q.1 i
