-- A list that is not empty has a least item, under an order that is decided.
use Rattle.std.proofs.Common.{List, [], ◌∷◌, refl, sym, subst, inl, inr}
use Rattle.dt_lists.specs.Lists.{Has, Either}

-- the item of the list that none of its items is below
pub record IsMinimal {A : Type 0} (R : A → A → Type 0) (xs : List A) (x : A) : Type 0 where
  pub there : Has xs x
  pub none_below : (y : A) → Has xs y → ¬ (R y x)

module _ {A : Type 0} (R : A → A → Type 0) (irreflexive : (x : A) → ¬ (R x x)) (transitive : (x y z : A) → R x y → R y z → R x z) (decided : (x y : A) → Either (R x y)) where
  pub least : (x : A) (xs : List A) → (m : A) × IsMinimal R (x ∷ xs) m
  least x [] = (x, record { there = inl refl; none_below = λ y h r. elim h [ inl e ↦ irreflexive x (subst (λ c. R c x) (sym e) r) | inr f ↦ f ] })
  least x (y ∷ ys) = with_head (least y ys)
    where
      with_head : (m : A) × IsMinimal R (y ∷ ys) m → (m : A) × IsMinimal R (x ∷ y ∷ ys) m
      with_head r = pick (decided x r.0)
        where
          pick : Either (R x r.0) → (m : A) × IsMinimal R (x ∷ y ∷ ys) m
          pick (inl lower) = (x, record { there = inl refl; none_below = below })
            where
              below : (u : A) → Has (x ∷ y ∷ ys) u → ¬ (R u x)
              below u (inl e) s = irreflexive x (subst (λ c. R c x) (sym e) s)
              below u (inr h) s = r.1.none_below u h (transitive u x r.0 s lower)
          pick (inr not_lower) = (r.0, record { there = inr r.1.there; none_below = below })
            where
              below : (u : A) → Has (x ∷ y ∷ ys) u → ¬ (R u r.0)
              below u (inl e) s = not_lower (subst (λ c. R c r.0) (sym e) s)
              below u (inr h) s = r.1.none_below u h s
