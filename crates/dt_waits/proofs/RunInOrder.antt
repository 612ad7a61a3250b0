-- A class in the order in which it runs, of which a front is done: the next one is the only member that isn't done, while all
-- sooner ones are.
use Rattle.std.proofs.Common.{◌≡◌, ◌≢◌, ◌⊎◌, ◌∙◌, ℕ, zero, suc, List, [], ◌∷◌, ◌++◌, map, take, drop, set, slice_get, Some, refl, sym, ap, subst, inl, inr, arith}
use Rattle.dt_lists.specs.Lists.{AllIn, Has, EachThen, Pairwise}
use Rattle.dt_lists.proofs.Callers.{all_get, all_map, all_put, has_last, has_longer, has_more, has_dropped}
use Rattle.dt_access.specs.declared.TxnId.{TxnId}
use Rattle.dt_sched.specs.Views.{View, IsSooner}
use Rattle.dt_sched.proofs.Callers.{sooner_breaks_ties}
use Rattle.dt_waits.specs.declared.open.Open.{Open}
use Rattle.dt_waits.specs.Waits.{id_at}
use Rattle.dt_waits.specs.Graph.{IsOpened}

-- an item is in a front of a list, or in the rest
split_has : {A : Type 0} (n : ℕ) (xs : List A) (x : A) → Has xs x → Has (take n xs) x ⊎ Has (drop n xs) x
split_has zero xs x h = inr h
split_has (suc n) [] x h = absurd h
split_has (suc n) (y ∷ ys) x (inl e) = inl (inl e)
split_has (suc n) (y ∷ ys) x (inr h) = elim (split_has n ys x h) [ inl a ↦ inl (inr a) | inr b ↦ inr b ]

-- the item at a place begins the rest
drop_at : {A : Type 0} (n : ℕ) (xs : List A) (x : A) → slice_get xs n ≡ Some x → drop n xs ≡ x ∷ drop (suc n) xs
drop_at n [] x e = cc
drop_at zero (y ∷ ys) x e = let s : y ≡ x = cc in ap (λ z. z ∷ ys) s
drop_at (suc n) (y ∷ ys) x e = drop_at n ys x e

at_drop : {A : Type 0} (n : ℕ) (xs : List A) (x : A) (rest : List A) → drop n xs ≡ x ∷ rest → slice_get xs n ≡ Some x
at_drop zero [] x rest e = cc
at_drop zero (y ∷ ys) x rest e = cc
at_drop (suc n) [] x rest e = cc
at_drop (suc n) (y ∷ ys) x rest e = at_drop n ys x rest e

each_drop : {A : Type 0} (R : A → A → Type 0) (n : ℕ) (xs : List A) → EachThen R xs → EachThen R (drop n xs)
each_drop R zero xs each = each
each_drop R (suc n) [] each = each
each_drop R (suc n) (x ∷ xs) each = each_drop R n xs each.1

take_more : {A : Type 0} (P : A → Type 0) (n : ℕ) (xs : List A) (x : A) → slice_get xs n ≡ Some x → AllIn P (take n xs) → P x → AllIn P (take (suc n) xs)
take_more P n [] x e all p = tt
take_more P zero (y ∷ ys) x e all p = let s : x ≡ y = cc in (subst P s p, tt)
take_more P (suc n) (y ∷ ys) x e all p = (all.0, take_more P n ys x e all.1 p)

-- a class that is kept open
module _ {view : View} {done ids class : List TxnId} {kept : Open} (opened : IsOpened view done ids class kept) where
  -- the ids of its members, in the order in which they run
  abbrev Row : List TxnId
  Row = map (id_at ids) kept.members

  irreflexive : (t : TxnId) → ¬ (IsSooner view t t)
  irreflexive = sooner_breaks_ties.irreflexive view

  -- what no member is done before is the next one
  pub next_of_soonest : (t : TxnId) → Has class t → ¬ (Has done t) → ((u : TxnId) → Has class u → IsSooner view u t → Has done u) → slice_get Row kept.next ≡ Some t
  next_of_soonest t h nd sooner = by (drop kept.next Row) refl (elim (split_has kept.next Row t ((opened.members t).1 h)) [ inl a ↦ absurd (nd (all_get _ (take kept.next Row) opened.front_done t a)) | inr b ↦ b ])
    where
      by : (rest : List TxnId) → drop kept.next Row ≡ rest → Has rest t → slice_get Row kept.next ≡ Some t
      by [] e m = absurd m
      by (z ∷ zs) e (inl s) = at_drop kept.next Row z zs e ∙ ap Some s
      by (z ∷ zs) e (inr m) = absurd (waits (sooner z ((opened.members z).0 (has_dropped kept.next Row z (subst (λ l. Has l z) (sym e) (inl refl)))) (all_get (IsSooner view z) zs first t m)))
        where
          first : AllIn (IsSooner view z) zs
          first = (subst (EachThen (IsSooner view)) e (each_drop (IsSooner view) kept.next Row opened.ordered)).0

          waits : ¬ (Has done z)
          waits = (subst (AllIn (λ t. ¬ (Has done t))) e opened.rest_waits).0

  -- the member that runs next
  module _ (t : TxnId) (next : slice_get Row kept.next ≡ Some t) where
    at_next : drop kept.next Row ≡ t ∷ drop (suc kept.next) Row
    at_next = drop_at kept.next Row t next

    -- it and those after it wait
    waiting : AllIn (λ u. ¬ (Has done u)) (t ∷ drop (suc kept.next) Row)
    waiting = subst (AllIn (λ u. ¬ (Has done u))) at_next opened.rest_waits

    pub waits_of_next : ¬ (Has done t)
    waits_of_next = waiting.0

    -- all later ones come after it
    after_next : AllIn (IsSooner view t) (drop (suc kept.next) Row)
    after_next = (subst (EachThen (IsSooner view)) at_next (each_drop (IsSooner view) kept.next Row opened.ordered)).0

    pub sooner_of_next : (u : TxnId) → Has class u → IsSooner view u t → Has done u
    sooner_of_next u h s = elim (split_has kept.next Row u ((opened.members u).1 h)) [
      | inl a ↦ all_get _ (take kept.next Row) opened.front_done u a
      | inr b ↦ elim (subst (λ l. Has l u) at_next b) [
        | inl same ↦ absurd (irreflexive t (subst (λ x. IsSooner view x t) (sym same) s))
        | inr m ↦ absurd (irreflexive t (sooner_breaks_ties.transitive view t u t (all_get (IsSooner view t) (drop (suc kept.next) Row) after_next u m) s))
      ]
    ]

    -- when it is done too, the front is longer by one
    pub front_longer : AllIn (Has (done ++ t ∷ [])) (take (suc kept.next) Row)
    front_longer = take_more (Has (done ++ t ∷ [])) kept.next Row t next (all_map _ _ (take kept.next Row) (λ u h. has_longer done (t ∷ []) u h) opened.front_done) (has_last done t)

    pub rest_shorter : AllIn (λ u. ¬ (Has (done ++ t ∷ []) u)) (drop (suc kept.next) Row)
    rest_shorter = all_put _ (drop (suc kept.next) Row) (λ u h d. elim (has_more done t u d) [
      | inl o ↦ all_get _ (drop (suc kept.next) Row) waiting.1 u h o
      | inr same ↦ irreflexive t (subst (IsSooner view t) (sym same) (all_get (IsSooner view t) (drop (suc kept.next) Row) after_next u h))
    ])

-- pairs, one of which is replaced
pub pairwise_set : {A B : Type 0} (R S : A → B → Type 0) (xs : List A) (ys : List B) (i : ℕ) (z : B)
    → ((j : ℕ) (a : A) (b : B) → j ≢ i → slice_get xs j ≡ Some a → slice_get ys j ≡ Some b → R a b → S a b) → ((a : A) → slice_get xs i ≡ Some a → S a z) → Pairwise R xs ys → Pairwise S xs (set ys i z)
pairwise_set R S [] [] i z f g p = tt
pairwise_set R S [] (y ∷ ys) i z f g p = absurd p
pairwise_set R S (x ∷ xs) [] i z f g p = p
pairwise_set R S (x ∷ xs) (y ∷ ys) zero z f g p = (g x refl, rest xs ys (λ j a b ha hb r. f (suc j) a b (later j) ha hb r) p.1)
  where
    later : (j : ℕ) → suc j ≢ zero
    later j e = omega (arith, e)

    rest : (xs : List _) (ys : List _) → ((j : ℕ) (a : _) (b : _) → slice_get xs j ≡ Some a → slice_get ys j ≡ Some b → R a b → S a b) → Pairwise R xs ys → Pairwise S xs ys
    rest [] [] f p = tt
    rest [] (y ∷ ys) f p = p
    rest (x ∷ xs) [] f p = p
    rest (x ∷ xs) (y ∷ ys) f p = (f zero x y refl refl p.0, rest xs ys (λ j a b ha hb r. f (suc j) a b ha hb r) p.1)
pairwise_set R S (x ∷ xs) (y ∷ ys) (suc i) z f g p = (f zero x y first refl refl p.0, pairwise_set R S xs ys i z (λ j a b ne ha hb r. f (suc j) a b (λ e. ne (same j e)) ha hb r) g p.1)
  where
    first : zero ≢ suc i
    first e = omega (arith, e)

    same : (j : ℕ) → suc j ≡ suc i → j ≡ i
    same j e = omega (arith, e)

pub pairwise_get : {A B : Type 0} (R : A → B → Type 0) (xs : List A) (ys : List B) (i : ℕ) (a : A) → slice_get xs i ≡ Some a → Pairwise R xs ys → (b : B) × (slice_get ys i ≡ Some b) × R a b
pairwise_get R [] [] i a e p = cc
pairwise_get R [] (y ∷ ys) i a e p = absurd p
pairwise_get R (x ∷ xs) [] i a e p = absurd p
pairwise_get R (x ∷ xs) (y ∷ ys) zero a e p = let s : x ≡ a = cc in (y, refl, subst (λ z. R z y) s p.0)
pairwise_get R (x ∷ xs) (y ∷ ys) (suc i) a e p = pairwise_get R xs ys i a e p.1
