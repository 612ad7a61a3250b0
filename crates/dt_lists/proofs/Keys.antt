-- The order of the keys in a list in which each key stands once.
use Rattle.std.proofs.Common.{◌≡◌, ◌∙◌, List, [], ◌∷◌, ◌++◌, sym, inl, inr}
use Rattle.dt_lists.specs.Lists.{AnyIn, AllIn, SomeThen, Has, EachThen}
use Rattle.dt_lists.proofs.Words.{any_map, any_get, any_put, any_append, some_get, all_get, each_across}

-- some item of the key u stands before one of the key t
abbrev pub HasKeyBefore : {A B : Type 0} → (A → B) → List A → B → B → Type 0
HasKeyBefore f xs u t = SomeThen (λ x y. (f x ≡ u) × (f y ≡ t)) xs

pub key_first : {A B : Type 0} (f : A → B) (xs : List A) (u t : B) → HasKeyBefore f xs u t → AnyIn (λ x. f x ≡ u) xs
key_first f xs u t s = let r : (x y : _) × Has xs x × Has xs y × ((f x ≡ u) × (f y ≡ t)) = some_get _ xs s in any_put _ xs r.0 r.2 r.4.0

pub key_second : {A B : Type 0} (f : A → B) (xs : List A) (u t : B) → HasKeyBefore f xs u t → AnyIn (λ x. f x ≡ t) xs
key_second f xs u t s = let r : (x y : _) × Has xs x × Has xs y × ((f x ≡ u) × (f y ≡ t)) = some_get _ xs s in any_put _ xs r.1 r.3 r.4.1

-- where each key stands once, a key of the head is not further on
key_once : {A B : Type 0} (f : A → B) (x : A) (xs : List A) (t : B) → AllIn (λ y. ¬ (f x ≡ f y)) xs → f x ≡ t → ¬ (AnyIn (λ y. f y ≡ t) xs)
key_once f x xs t a e s = let r : (y : _) × Has xs y × (f y ≡ t) = any_get _ xs s in all_get _ xs a r.0 r.1 (e ∙ sym r.2)

pub key_before_irreflexive : {A B : Type 0} (f : A → B) (xs : List A) (t : B) → EachThen (λ x y. ¬ (f x ≡ f y)) xs → ¬ (HasKeyBefore f xs t t)
key_before_irreflexive f [] t once s = s
key_before_irreflexive f (x ∷ xs) t once (inl a) = let r : (y : _) × Has xs y × ((f x ≡ t) × (f y ≡ t)) = any_get _ xs a in key_once f x xs t once.0 r.2.0 (any_put _ xs r.0 r.1 r.2.1)
key_before_irreflexive f (x ∷ xs) t once (inr s) = key_before_irreflexive f xs t once.1 s

pub key_before_transitive : {A B : Type 0} (f : A → B) (xs : List A) (u v t : B) → EachThen (λ x y. ¬ (f x ≡ f y)) xs → HasKeyBefore f xs u v → HasKeyBefore f xs v t → HasKeyBefore f xs u t
key_before_transitive f [] u v t once s r = s
key_before_transitive f (x ∷ xs) u v t once (inl a) (inl b) =
    let p : (y : _) × Has xs y × ((f x ≡ u) × (f y ≡ v)) = any_get _ xs a in
    let q : (y : _) × Has xs y × ((f x ≡ v) × (f y ≡ t)) = any_get _ xs b in
    absurd (key_once f x xs v once.0 q.2.0 (any_put _ xs p.0 p.1 p.2.1))
key_before_transitive f (x ∷ xs) u v t once (inl a) (inr r) =
    let p : (y : _) × Has xs y × ((f x ≡ u) × (f y ≡ v)) = any_get _ xs a in
    inl (any_map _ _ xs (λ y e. (p.2.0, e)) (key_second f xs v t r))
key_before_transitive f (x ∷ xs) u v t once (inr s) (inl b) =
    let q : (y : _) × Has xs y × ((f x ≡ v) × (f y ≡ t)) = any_get _ xs b in
    absurd (key_once f x xs v once.0 q.2.0 (key_second f xs u v s))
key_before_transitive f (x ∷ xs) u v t once (inr s) (inr r) = inr (key_before_transitive f xs u v t once.1 s r)

-- where only a front holds an item of the key t, the pair that ends at t is in that front too
pub some_in_front : {A B : Type 0} (R : A → A → Type 0) (f : A → B) (t : B) (front rest : List A) → ((x y : A) → R x y → f y ≡ t)
    → EachThen (λ x y. ¬ (f x ≡ f y)) (front ++ rest) → AnyIn (λ x. f x ≡ t) front → SomeThen R (front ++ rest) → SomeThen R front
some_in_front R f t [] rest ends once e s = absurd e
some_in_front R f t (x ∷ xs) rest ends once (inl e) (inl a) =
    let r : (y : _) × Has (xs ++ rest) y × R x y = any_get (R x) (xs ++ rest) a in
    let other : ¬ (f x ≡ f r.0) = all_get _ (xs ++ rest) once.0 r.0 r.1 in
    let same : f r.0 ≡ t = ends x r.0 r.2 in
    absurd (other (cc))
some_in_front R f t (x ∷ xs) rest ends once (inl e) (inr s) =
    let r : (a b : _) × Has (xs ++ rest) a × Has (xs ++ rest) b × R a b = some_get R (xs ++ rest) s in
    let other : ¬ (f x ≡ f r.1) = all_get _ (xs ++ rest) once.0 r.1 r.3 in
    let same : f r.1 ≡ t = ends r.0 r.1 r.4 in
    absurd (other (cc))
some_in_front R f t (x ∷ xs) rest ends once (inr e) (inl a) = elim (any_append (R x) xs rest a) [
  | inl l ↦ inl l
  | inr m ↦ absurd (twice e m once.1)
]
  where
    twice : AnyIn (λ y. f y ≡ t) xs → AnyIn (R x) rest → EachThen (λ x y. ¬ (f x ≡ f y)) (xs ++ rest) → ⊥
    twice e m o =
        let p : (y : _) × Has xs y × (f y ≡ t) = any_get _ xs e in
        let q : (y : _) × Has rest y × R x y = any_get (R x) rest m in
        each_across _ xs rest p.0 q.0 o p.1 q.1 (let same : f q.0 ≡ t = ends x q.0 q.2 in let there : f p.0 ≡ t = p.2 in cc)
some_in_front R f t (x ∷ xs) rest ends once (inr e) (inr s) = inr (some_in_front R f t xs rest ends once.1 e s)
