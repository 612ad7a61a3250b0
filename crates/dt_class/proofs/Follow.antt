-- The walk over the links of one vertex, from its newest to its oldest.
use Rattle.std.proofs.Common.{◌≡◌, ◌≢◌, ℕ, zero, suc, ◌+◌, ◌<◌, ◌≤◌, ◌⊎◌, ◌↔◌, ◌∙◌, List, [], ◌∷◌, length, Option, Some, None, sym, ap, subst, inl}
use Rattle.std.proofs.Common.{inr, arith}
use Rattle.dt_lists.specs.Lists.{Either, Has, IsFront}
use Rattle.dt_lists.proofs.Callers.{any_at, either_le, either_nat, front_trans}
use Rattle.dt_class.specs.LinksInner.{near_end, far_end, earlier_link, link_at, IsStep, IsNewest, AreChained}
use Rattle.dt_class.specs.FindsInner.{FoundView, AddsVertex, GainsSteps}
use Rattle.dt_class.specs.declared.link.Link.{Link}
use Rattle.dt_class.specs.declared.link.Way.{Way}

-- the links from this place on are done with
abbrev pub bound : Option ℕ → ℕ
bound None = 0
bound (Some k) = k + 1

-- some link at the place or after it leads from v to t
abbrev pub IsStepFrom : Way → List Link → ℕ → ℕ → ℕ → Type 0
IsStepFrom way links place v t =
    (i : ℕ) × (place ≤ i) × (i < length links) × (near_end way (link_at links i) ≡ v) × (far_end way (link_at links i) ≡ t)

-- of the links from v those past `at` were followed, and the one at it is the next one
pub record IsFollowedPast (way : Way) (links : List Link) (v : ℕ) (old new : FoundView) (at : Option ℕ) : Type 0 where
  pub next : IsNewest way links v (bound at) at
  pub short : bound at ≤ length links
  pub vertices : length new.marks ≡ length old.marks
  pub front : IsFront old.order new.order
  pub members : (t : ℕ) → Has new.order t ↔ (Has old.order t ⊎ IsStepFrom way links (bound at) v t)

-- a link by its place
step_of_place : (way : Way) (links : List Link) (v t i : ℕ) → i < length links → near_end way (link_at links i) ≡ v → far_end way (link_at links i) ≡ t → IsStep way links v t
step_of_place way [] v t i lt near far = absurd (omega arith)
step_of_place way (l ∷ links) v t zero lt near far = inl (near, far)
step_of_place way (l ∷ links) v t (suc i) lt near far = inr (step_of_place way links v t i (omega arith) near far)

step_places : (way : Way) (links : List Link) (v t : ℕ) → IsStep way links v t ↔ IsStepFrom way links 0 v t
step_places way links v t = (
  λ s. let r : (i : ℕ) × (i < length links) × ((near_end way (link_at links i) ≡ v) × (far_end way (link_at links i) ≡ t)) = any_at _ _ links s in
      (r.0, omega arith, r.1, r.2.0, r.2.1),
  λ s. step_of_place way links v t s.0 s.2 s.3 s.4,
)

-- one more link is followed, and then the newest one before it
module _ (way : Way) (links : List Link) (v k : ℕ) (old new more : FoundView) (f : IsFollowedPast way links v old new (Some k)) (adds : AddsVertex new (far_end way (link_at links k)) more) where
  -- what the followed links lead to, where none between the two places leads from v
  steps_more : (place : ℕ) → place ≤ k → ((i : ℕ) → place ≤ i → i < k → near_end way (link_at links i) ≢ v) → (t : ℕ) → Has more.order t ↔ (Has old.order t ⊎ IsStepFrom way links place v t)
  steps_more place le none t = (down, up)
    where
      down : Has more.order t → Has old.order t ⊎ IsStepFrom way links place v t
      down h = elim ((adds.members t).0 h) [
        | inl m ↦ elim ((f.members t).0 m) [ inl o ↦ inl o | inr s ↦ inr (s.0, omega (arith, s.1), s.2, s.3, s.4) ]
        | inr e ↦ inr (k, le, omega (arith, f.short), f.next.1, sym e)
      ]

      at : (s : IsStepFrom way links place v t) → Either (k + 1 ≤ s.0) → Either (s.0 ≡ k) → Has more.order t
      at s (inl past) same = (adds.members t).1 (inl ((f.members t).1 (inr (s.0, past, s.2, s.3, s.4))))
      at s (inr low) (inl e) = (adds.members t).1 (inr (sym s.4 ∙ ap (λ i. far_end way (link_at links i)) e))
      at s (inr low) (inr ne) = absurd (none s.0 s.1 (omega (arith, low, ne)) s.3)

      up : Has old.order t ⊎ IsStepFrom way links place v t → Has more.order t
      up h = elim h [ inl o ↦ (adds.members t).1 (inl ((f.members t).1 (inl o))) | inr s ↦ at s (either_le (k + 1) s.0) (either_nat s.0 k) ]

  goes_on_at : (at : Option ℕ) → IsNewest way links v k at → IsFollowedPast way links v old more at
  goes_on_at None newest =
      record {
        next = λ i lt. absurd (omega arith);
        short = omega arith;
        vertices = adds.vertices ∙ f.vertices;
        front = front_trans old.order new.order more.order f.front adds.front;
        members = steps_more 0 (omega arith) (λ i low lt. newest i lt);
      }
  goes_on_at (Some j) newest =
      record {
        next = (omega arith, newest.1, λ i low lt. absurd (omega arith));
        short = omega (arith, newest.0, f.short);
        vertices = adds.vertices ∙ f.vertices;
        front = front_trans old.order new.order more.order f.front adds.front;
        members = steps_more (j + 1) (omega (arith, newest.0)) (λ i low lt. newest.2 i (omega arith) lt);
      }

  pub follow_goes_on : (newest : List (Option ℕ)) → AreChained way links newest → IsFollowedPast way links v old more (earlier_link way (link_at links k))
  follow_goes_on newest chained =
      let next : IsNewest way links (near_end way (link_at links k)) k (earlier_link way (link_at links k)) = chained.earlier_next k (omega (arith, f.short)) in
      goes_on_at (earlier_link way (link_at links k)) (subst (λ u. IsNewest way links u k (earlier_link way (link_at links k))) f.next.1 next)

pub follow_ends : (way : Way) (links : List Link) (v : ℕ) (old new : FoundView) → IsFollowedPast way links v old new None → GainsSteps way links v old new
follow_ends way links v old new f =
    record {
      vertices = f.vertices;
      front = f.front;
      members =
          λ t. (
            λ h. elim ((f.members t).0 h) [ inl o ↦ inl o | inr s ↦ inr ((step_places way links v t).1 s) ],
            λ h. (f.members t).1 (elim h [ inl o ↦ inl o | inr s ↦ inr ((step_places way links v t).0 s) ]),
          );
    }
