-- What regions keep has one merge: of each region the merge has what the region keeps, and it begins with the least head.
use Rattle.std.proofs.Common.{◌≡◌, ◌≢◌, ◌<◌, ◌≤◌, ◌↔◌, ℕ, true, eqb, List, [], ◌∷◌, length, set}
use Rattle.std.proofs.Common.{refl, sym, ap, subst, ◌∙◌, inl, inr, arith, eqb-true, eq-eqb}
use Rattle.std.proofs.lemmas.List.{get_or-set_same, get_or-set_other}
use Rattle.dt_lists.specs.Lists.{EachThen, Has, Either}
use Rattle.dt_lists.proofs.Callers.{all_get, all_put, ascending_same, each_map, either_nat, filter_each, has_filter, has_of_filtered}
use Rattle.dt_events.specs.declared.Stamped.{Stamped}
use Rattle.dt_merge.specs.Merge.{region_at, those_at, kept_at, HasLowerStamp, ComesBefore, AreKept, IsMerge}

before_irreflexive : (x : Stamped) → ¬ (ComesBefore x x)
before_irreflexive x (inl lt) = let n : ⊥ = omega arith in n
before_irreflexive x (inr r) = let lt : region_at x < region_at x = r.1 in let n : ⊥ = omega arith in n

pub before_transitive : (x y z : Stamped) → ComesBefore x y → ComesBefore y z → ComesBefore x z
before_transitive x y z (inl a) (inl b) = let c : x.stamp < z.stamp = omega arith in inl c
before_transitive x y z (inl a) (inr b) = let e : y.stamp ≡ z.stamp = b.0 in let c : x.stamp < z.stamp = omega arith in inl c
before_transitive x y z (inr a) (inl b) = let e : x.stamp ≡ y.stamp = a.0 in let c : x.stamp < z.stamp = omega arith in inl c
before_transitive x y z (inr a) (inr b) = let p : region_at x < region_at y = a.1 in let q : region_at y < region_at z = b.1 in let c : region_at x < region_at z = omega arith in inr (a.0 ∙ b.0, c)

pub not_above : (x y : Stamped) → ComesBefore x y → x.stamp ≤ y.stamp
not_above x y (inl lt) = omega arith
not_above x y (inr r) = let e : x.stamp ≡ y.stamp = r.0 in omega arith

-- there is one merge at most
pub merges_same : (kept : List (List Stamped)) (a b : List Stamped) → IsMerge kept a → IsMerge kept b → a ≡ b
merges_same kept a b m n = ascending_same ComesBefore before_irreflexive before_transitive a b m.ascending n.ascending
    (λ x h. (n.members x).1 ((m.members x).0 h)) (λ x h. (m.members x).1 ((n.members x).0 h))

-- where nothing is kept, nothing is merged
pub merge_of_none : (kept : List (List Stamped)) → ((region : ℕ) → kept_at kept region ≡ []) → IsMerge kept []
merge_of_none kept none = record { ascending = tt; members = λ x. (λ h. absurd h, λ h. subst (λ l. Has l x) (none (region_at x)) h) }

module _ (kept : List (List Stamped)) (each : AreKept kept) where
  pub region_of_kept : (region : ℕ) (x : Stamped) → Has (kept_at kept region) x → region_at x ≡ region
  region_of_kept region x h = all_get (λ y. region_at y ≡ region) (kept_at kept region) (each region).0 x h

  kept_ascending : (region : ℕ) → EachThen ComesBefore (kept_at kept region)
  kept_ascending region = each_map HasLowerStamp ComesBefore (kept_at kept region) (λ x y lt. inl lt) (each region).1

  -- of each region the merge has what the region keeps, in its order
  pub merge_keeps : (merged : List Stamped) → IsMerge kept merged → (region : ℕ) → those_at region merged ≡ kept_at kept region
  merge_keeps merged m region = ascending_same ComesBefore before_irreflexive before_transitive (those_at region merged) (kept_at kept region)
      (filter_each ComesBefore (λ x. eqb (region_at x) region) merged m.ascending) (kept_ascending region) down up
    where
      down : (x : Stamped) → Has (those_at region merged) x → Has (kept_at kept region) x
      down x h =
          let r : Has merged x × (eqb (region_at x) region ≡ true) = has_of_filtered (λ y. eqb (region_at y) region) merged x h in
          subst (λ q. Has (kept_at kept q) x) (eqb-true (region_at x) region r.1) ((m.members x).0 r.0)

      up : (x : Stamped) → Has (kept_at kept region) x → Has (those_at region merged) x
      up x h =
          let is : region_at x ≡ region = region_of_kept region x h in
          has_filter (λ y. eqb (region_at y) region) merged x ((m.members x).1 (subst (λ q. Has (kept_at kept q) x) (sym is) h)) (eq-eqb (region_at x) region is)

  -- the merge begins with a head that comes before all other heads, and goes on with the merge of what is left
  module _ (region : ℕ) (x : Stamped) (rest : List Stamped) (there : region < length kept) (head : kept_at kept region ≡ x ∷ rest)
      (least : (q : ℕ) (y : Stamped) (ys : List Stamped) → q ≢ region → kept_at kept q ≡ y ∷ ys → ComesBefore x y)
      (merged : List Stamped) (m : IsMerge (set kept region rest) merged) where
    left_here : kept_at (set kept region rest) region ≡ rest
    left_here = get_or-set_same kept region rest [] there

    left_other : (q : ℕ) → q ≢ region → kept_at (set kept region rest) q ≡ kept_at kept q
    left_other q n = get_or-set_other kept region q rest [] n

    x_region : region_at x ≡ region
    x_region = region_of_kept region x (subst (λ l. Has l x) (sym head) (inl refl))

    -- x comes before all that another region keeps
    before_kept : (q : ℕ) (y : Stamped) → q ≢ region → (l : List Stamped) → kept_at kept q ≡ l → Has l y → ComesBefore x y
    before_kept q y n [] e h = absurd h
    before_kept q y n (z ∷ zs) e (inl is) = subst (ComesBefore x) is (least q z zs n e)
    before_kept q y n (z ∷ zs) e (inr h) =
        before_transitive x z y (least q z zs n e) (all_get (ComesBefore z) zs (subst (EachThen ComesBefore) e (kept_ascending q)).0 y h)

    before_left : (y : Stamped) → Has merged y → ComesBefore x y
    before_left y h = by (either_nat (region_at y) region) ((m.members y).0 h)
      where
        by : Either (region_at y ≡ region) → Has (kept_at (set kept region rest) (region_at y)) y → ComesBefore x y
        by (inl is) k =
            all_get (ComesBefore x) rest (subst (EachThen ComesBefore) head (kept_ascending region)).0 y
            (subst (λ l. Has l y) left_here (subst (λ q. Has (kept_at (set kept region rest) q) y) is k))
        by (inr n) k = before_kept (region_at y) y n (kept_at kept (region_at y)) refl (subst (λ l. Has l y) (left_other (region_at y) n) k)

    kept_or_left : (y : Stamped) → Either (region_at y ≡ region) → (Has (x ∷ merged) y ↔ Has (kept_at kept (region_at y)) y)
    kept_or_left y (inl is) = (
      λ h. subst (λ q. Has (kept_at kept q) y) (sym is) (subst (λ l. Has l y) (sym head) (elim h [
        | inl e ↦ inl e
        | inr k ↦ inr (subst (λ l. Has l y) left_here (subst (λ q. Has (kept_at (set kept region rest) q) y) is ((m.members y).0 k)))
      ])),
      λ h. elim (subst (λ l. Has l y) head (subst (λ q. Has (kept_at kept q) y) is h)) [
        | inl e ↦ inl e
        | inr k ↦ inr ((m.members y).1 (subst (λ q. Has (kept_at (set kept region rest) q) y) (sym is) (subst (λ l. Has l y) (sym left_here) k)))
      ],
    )
    kept_or_left y (inr n) = (
      λ h. elim h [
        | inl e ↦ absurd (n (ap region_at (sym e) ∙ x_region))
        | inr k ↦ subst (λ l. Has l y) (left_other (region_at y) n) ((m.members y).0 k)
      ],
      λ h. inr ((m.members y).1 (subst (λ l. Has l y) (sym (left_other (region_at y) n)) h)),
    )

    pub merge_begins : IsMerge kept (x ∷ merged)
    merge_begins = record { ascending = (all_put (ComesBefore x) merged before_left, m.ascending); members = λ y. kept_or_left y (either_nat (region_at y) region) }
