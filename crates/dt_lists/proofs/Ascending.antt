-- Lists in ascending order: what a decided property picks from a list has one, and only one.
use Rattle.std.proofs.Common.{◌≡◌, ◌≢◌, ◌⊎◌, ◌↔◌, List, [], ◌∷◌, refl, sym, subst, inl, inr}
use Rattle.dt_lists.specs.Lists.{Has, EachThen, Either}
use Rattle.dt_lists.proofs.Words.{all_get, all_put, all_map}

-- the list is in ascending order and holds just what has P
pub record IsPicked {A : Type 0} (R : A → A → Type 0) (P : A → Type 0) (xs : List A) : Type 0 where
  pub ascending : EachThen R xs
  pub members : (x : A) → Has xs x ↔ P x

module _ {A : Type 0} (R : A → A → Type 0) (irreflexive : (x : A) → ¬ (R x x)) (transitive : (x y z : A) → R x y → R y z → R x z) where
  above_all : (x : A) (xs : List A) (y : A) → EachThen R (x ∷ xs) → Has xs y → R x y
  above_all x xs y a h = all_get (R x) xs a.0 y h

  -- a list in ascending order does not hold its head again
  pub head_once : (x : A) (xs : List A) → EachThen R (x ∷ xs) → ¬ (Has xs x)
  head_once x xs a h = irreflexive x (above_all x xs x a h)

  -- two lists in ascending order with the same items are one
  pub ascending_same : (xs ys : List A) → EachThen R xs → EachThen R ys → ((x : A) → Has xs x → Has ys x) → ((y : A) → Has ys y → Has xs y) → xs ≡ ys
  ascending_same [] [] a b f g = refl
  ascending_same [] (y ∷ ys) a b f g = absurd (g y (inl refl))
  ascending_same (x ∷ xs) [] a b f g = absurd (f x (inl refl))
  ascending_same (x ∷ xs) (y ∷ ys) a b f g = joined heads (ascending_same xs ys a.1 b.1 down up)
    where
      heads : x ≡ y
      heads = at (f x (inl refl)) (g y (inl refl))
        where
          at : Has (y ∷ ys) x → Has (x ∷ xs) y → x ≡ y
          at (inl e) h = sym e
          at (inr h) (inl e) = e
          at (inr h) (inr k) = absurd (irreflexive x (transitive x y x (above_all x xs y a k) (above_all y ys x b h)))

      down : (z : A) → Has xs z → Has ys z
      down z h = elim (f z (inr h)) [ inl e ↦ absurd (head_once x xs a (subst (Has xs) (sym (heads)) (subst (Has xs) (sym e) h))) | inr k ↦ k ]

      up : (z : A) → Has ys z → Has xs z
      up z h = elim (g z (inr h)) [ inl e ↦ absurd (head_once y ys b (subst (Has ys) heads (subst (Has ys) (sym e) h))) | inr k ↦ k ]

      joined : x ≡ y → xs ≡ ys → x ∷ xs ≡ y ∷ ys
      joined p q = cc

  module _ (total : (x y : A) → x ≢ y → R x y ⊎ R y x) (same : (x y : A) → Either (x ≡ y)) where
    -- put an item into a list in ascending order
    pub put_in : (x : A) (xs : List A) → EachThen R xs → (zs : List A) × IsPicked R (λ y. (y ≡ x) ⊎ Has xs y) zs
    put_in x [] a = (x ∷ [], record { ascending = (tt, tt); members = λ y. (λ h. elim h [ inl e ↦ inl (sym e) | inr f ↦ inr f ], λ h. elim h [ inl e ↦ inl (sym e) | inr f ↦ inr f ]) })
    put_in x (y ∷ ys) a = at (same x y) (put_in x ys a.1)
      where
        at : Either (x ≡ y) → (zs : List A) × IsPicked R (λ u. (u ≡ x) ⊎ Has ys u) zs → (zs : List A) × IsPicked R (λ u. (u ≡ x) ⊎ Has (y ∷ ys) u) zs
        at (inl e) r = (y ∷ ys, record { ascending = a; members = λ u. (λ h. inr h, λ h. elim h [ inl f ↦ inl (cc) | inr k ↦ k ]) })
        at (inr ne) r = side (total x y ne)
          where
            side : R x y ⊎ R y x → (zs : List A) × IsPicked R (λ u. (u ≡ x) ⊎ Has (y ∷ ys) u) zs
            side (inl lower) = (
              x ∷ y ∷ ys,
              record {
                ascending = ((lower, all_map (R y) (R x) ys (λ u h. transitive x y u lower h) a.0), a);
                members = λ u. (λ h. elim h [ inl e ↦ inl (sym e) | inr k ↦ inr k ], λ h. elim h [ inl e ↦ inl (sym e) | inr k ↦ inr k ]);
              },
            )
            side (inr higher) = (
              y ∷ r.0,
              record {
                ascending = (all_put (R y) r.0 (λ u h. elim ((r.1.members u).0 h) [ inl e ↦ subst (R y) (sym e) higher | inr k ↦ all_get (R y) ys a.0 u k ]), r.1.ascending);
                members = λ u. (
                  λ h. elim h [ inl e ↦ inr (inl e) | inr k ↦ elim ((r.1.members u).0 k) [ inl e ↦ inl e | inr m ↦ inr (inr m) ] ],
                  λ h. elim h [ inl e ↦ inr ((r.1.members u).1 (inl e)) | inr k ↦ elim k [ inl e ↦ inl e | inr m ↦ inr ((r.1.members u).1 (inr m)) ] ],
                );
              },
            )

    -- those items of a list that have P, in ascending order
    pub pick : (P : A → Type 0) → ((x : A) → Either (P x)) → (xs : List A) → (zs : List A) × IsPicked R (λ y. Has xs y × P y) zs
    pick P d [] = ([], record { ascending = tt; members = λ y. (λ h. absurd h, λ h. h.0) })
    pick P d (x ∷ xs) = at (d x) (pick P d xs)
      where
        at : Either (P x) → (zs : List A) × IsPicked R (λ y. Has xs y × P y) zs → (zs : List A) × IsPicked R (λ y. Has (x ∷ xs) y × P y) zs
        at (inr n) r = (
          r.0,
          record {
            ascending = r.1.ascending;
            members = λ y. (
              λ h. let k : Has xs y × P y = (r.1.members y).0 h in (inr k.0, k.1),
              λ h. (r.1.members y).1 (elim h.0 [ inl e ↦ absurd (n (subst P (sym e) h.1)) | inr k ↦ k ], h.1),
            );
          },
        )
        at (inl p) r = with_head (put_in x r.0 r.1.ascending)
          where
            with_head : (zs : List A) × IsPicked R (λ u. (u ≡ x) ⊎ Has r.0 u) zs → (zs : List A) × IsPicked R (λ y. Has (x ∷ xs) y × P y) zs
            with_head s = (s.0, record { ascending = s.1.ascending; members = λ y. (down y, up y) })
              where
                down : (y : A) → Has s.0 y → Has (x ∷ xs) y × P y
                down y h = elim ((s.1.members y).0 h) [
                  | inl e ↦ (inl (sym e), subst P (sym e) p)
                  | inr k ↦ let m : Has xs y × P y = (r.1.members y).0 k in (inr m.0, m.1)
                ]

                up : (y : A) → Has (x ∷ xs) y × P y → Has s.0 y
                up y h = (s.1.members y).1 (elim h.0 [ inl e ↦ inl (sym e) | inr k ↦ inr ((r.1.members y).1 (k, h.1)) ])
