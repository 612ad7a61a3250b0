-- The merge of what regions keep is made by taking the least head off, again and again.
use Rattle.std.proofs.Common.{◌≡◌, ◌≢◌, ◌<◌, ◌≤◌, ◌⊎◌, ◌+◌, ℕ, List, [], ◌∷◌, ◌++◌, length, map, get_or, slice_get, set, sum_by, zero, suc, Option, None, Some}
use Rattle.std.proofs.Common.{refl, sym, ap, subst, ◌∙◌, inl, inr, arith, append-nil, append_assoc}
use Rattle.std.proofs.lemmas.List.{get_or-set_same, get_or-set_other, length-map, map-append, map-set}
use Rattle.std.proofs.lemmas.List.Sums.{sum_by-set}
use Rattle.dt_lists.specs.Lists.{AllIn, EachThen, Has, Either}
use Rattle.dt_lists.proofs.Callers.{either_nat}
use Rattle.dt_events.specs.declared.Event.{Event}
use Rattle.dt_events.specs.declared.Stamped.{Stamped}
use Rattle.dt_merge.specs.Merge.{AreKept, ComesBefore, HasLowerStamp, IsMerge, kept_at, region_at}
use Rattle.dt_run.specs.MergeInner.{IsFoundIn, IsLeastOf, IsMerging}
use Rattle.dt_run.specs.Run.{AreMerged}
use Rattle.dt_run.proofs.Laws.{merge_begins, merge_of_none, region_of_kept}

-- how much is left of all lists
abbrev pub left_in : List (List Stamped) → ℕ
left_in left = sum_by length left

module _ {kept left : List (List Stamped)} {events : List Event} (g : IsMerging kept left events) {region stamp : ℕ} (l : IsLeastOf left (length left) region stamp) where
  abbrev x : Stamped
  x = l.first

  x_region : region_at x ≡ region
  x_region = region_of_kept left g.still region x (subst (λ k. Has k x) (sym l.is) (inl refl))

  least : (q : ℕ) (y : Stamped) (ys : List Stamped) → q ≢ region → kept_at left q ≡ y ∷ ys → ComesBefore x y
  least q y ys n e = by (l.least q y ys (within q y ys left e) n e)
    where
      within : (p : ℕ) (z : Stamped) (zs : List Stamped) (lists : List (List Stamped)) → kept_at lists p ≡ z ∷ zs → p < length lists
      within p z zs [] e = cc
      within zero z zs (k ∷ lists) e = omega arith
      within (suc p) z zs (k ∷ lists) e = let lt : p < length lists = within p z zs lists e in omega (arith, lt)

      y_region : region_at y ≡ q
      y_region = region_of_kept left g.still q y (subst (λ k. Has k y) (sym e) (inl refl))

      by : (stamp < y.stamp) ⊎ ((stamp ≡ y.stamp) × (region < q)) → ComesBefore x y
      by (inl lt) = inl (subst (λ s. s < y.stamp) (sym l.stamp_is) lt)
      by (inr r) = inr (l.stamp_is ∙ r.0, subst (λ p. p < region_at y) (sym x_region) (subst (λ p. region < p) (sym y_region) r.1))

  there : region < length left
  there = l.within

  still : AreKept (set left region l.rest)
  still q = by (either_nat q region)
    where
      headed : AllIn (λ y. region_at y ≡ region) (x ∷ l.rest) × EachThen HasLowerStamp (x ∷ l.rest)
      headed = subst (λ k. AllIn (λ y. region_at y ≡ region) k × EachThen HasLowerStamp k) l.is (g.still region)

      by : Either (q ≡ region) → AllIn (λ y. region_at y ≡ q) (kept_at (set left region l.rest) q) × EachThen HasLowerStamp (kept_at (set left region l.rest) q)
      by (inl is) =
          subst (λ p. AllIn (λ y. region_at y ≡ p) (kept_at (set left region l.rest) p) × EachThen HasLowerStamp (kept_at (set left region l.rest) p)) (sym is)
          (subst (λ k. AllIn (λ y. region_at y ≡ region) k × EachThen HasLowerStamp k) (sym (get_or-set_same left region l.rest [] there)) (headed.0.1, headed.1.1))
      by (inr n) = subst (λ k. AllIn (λ y. region_at y ≡ q) k × EachThen HasLowerStamp k) (sym (get_or-set_other left region q l.rest [] n)) (g.still q)

  -- the least head is taken off
  pub merging_goes : IsMerging kept (set left region l.rest) (events ++ x.event ∷ [])
  merging_goes = record {
    made = g.made ++ x ∷ [];
    events_are = ap (λ e. e ++ x.event ∷ []) g.events_are ∙ sym (map-append (λ (y : Stamped). y.event) g.made (x ∷ []));
    still = still;
    goes = λ merged m. subst (IsMerge kept) (sym (append_assoc g.made (x ∷ []) merged)) (g.goes (x ∷ merged) (merge_begins left g.still region x l.rest there l.is least merged m));
  }

  -- and less is left
  pub merging_falls : left_in (set left region l.rest) < left_in left
  merging_falls =
      let sums : left_in (set left region l.rest) + length (kept_at left region) ≡ left_in left + length l.rest = sum_by-set length left region l.rest [] there in
      let long : length (kept_at left region) ≡ length (x ∷ l.rest) = ap length l.is in
      omega (arith, sums, long)

-- what stands at a place of lists that are seen through something
pub head_at : {X : Type 0} (f : X → List Stamped) (xs : List X) (i : ℕ) (x : X) → x ≡ get_or xs i x → i < length xs → kept_at (map f xs) i ≡ f x
head_at f [] i x is lt = absurd (omega (arith, lt))
head_at f (y ∷ xs) zero x is lt = ap f (sym is)
head_at f (y ∷ xs) (suc i) x is lt = head_at f xs i x is (omega (arith, lt))

-- the same of lists that are seen through something
module _ {X : Type 0} (f : X → List Stamped) {kept : List (List Stamped)} {events : List Event} (left : List X) (g : IsMerging kept (map f left) events) {region stamp : ℕ}
    (l : IsLeastOf (map f left) (length (map f left)) region stamp) (all rest : X) (first : Stamped) (all_is : all ≡ get_or left region all) (cut : f all ≡ first ∷ f rest) where
  within : region < length left
  within = let lt = l.within in omega (arith, lt, length-map left f)

  same : l.first ∷ l.rest ≡ first ∷ f rest
  same = sym l.is ∙ head_at f left region all all_is within ∙ cut

  now_is : set (map f left) region l.rest ≡ map f (set left region rest)
  now_is = let e : l.rest ≡ f rest = (let both = same in cc) in ap (set (map f left) region) e ∙ sym (map-set f left region rest)

  pub taken_off : (event : Event) (events' : List Event) → event ≡ first.event → events' ≡ events ++ event ∷ [] → IsMerging kept (map f (set left region rest)) events'
  taken_off event events' is put =
      let head : l.first ≡ first = (let both = same in cc) in
      subst (IsMerging kept (map f (set left region rest))) (sym (put ∙ ap (λ e. events ++ e ∷ []) (is ∙ sym (ap (λ (x : Stamped). x.event) head))))
      (subst (λ n. IsMerging kept n (events ++ l.first.event ∷ [])) now_is (merging_goes g l))

  pub less_left : left_in (map f (set left region rest)) < left_in (map f left)
  less_left = subst (λ n. left_in n < left_in (map f left)) now_is (merging_falls g l)

-- nothing is left
pub merging_ends : {kept left : List (List Stamped)} {events : List Event} → IsMerging kept left events → ((region : ℕ) → kept_at left region ≡ []) → AreMerged kept events
merging_ends {kept} {left} {events} g none = record { merged = g.made; is = subst (IsMerge kept) (append-nil g.made) (g.goes [] (merge_of_none left none)); events_are = g.events_are }

-- looking for the least head, one list after another

module _ (kept : List (List Stamped)) (below : ℕ) where
  -- the next list is empty
  -- what was found first of some lists is so of one more, if that is empty or begins behind it
  longer : {region stamp : ℕ} → IsLeastOf kept below region stamp
      → ((y : Stamped) (ys : List Stamped) → kept_at kept below ≡ y ∷ ys → (stamp < y.stamp) ⊎ ((stamp ≡ y.stamp) × (region < below))) → IsLeastOf kept (below + 1) region stamp
  longer {region} {stamp} f last = record {
    within = let lt = f.within in omega (arith, lt);
    first = f.first;
    rest = f.rest;
    is = f.is;
    stamp_is = f.stamp_is;
    least = λ other y ys lt n k. by other y ys lt n k (either_nat other below);
  }
    where
      by : (other : ℕ) (y : Stamped) (ys : List Stamped) → other < below + 1 → other ≢ region → kept_at kept other ≡ y ∷ ys → Either (other ≡ below) → (stamp < y.stamp) ⊎ ((stamp ≡ y.stamp) × (region < other))
      by other y ys lt n k (inl e) = subst (λ q. (stamp < y.stamp) ⊎ ((stamp ≡ y.stamp) × (region < q))) (sym e) (last y ys (subst (λ q. kept_at kept q ≡ y ∷ ys) e k))
      by other y ys lt n k (inr m) = f.least other y ys (omega (arith, lt, m)) n k

  pub found_same : (found : Option (ℕ × ℕ)) → IsFoundIn kept below found → kept_at kept below ≡ [] → IsFoundIn kept (below + 1) found
  found_same None f e = λ region lt. by region lt (either_nat region below)
    where
      by : (region : ℕ) → region < below + 1 → Either (region ≡ below) → kept_at kept region ≡ []
      by region lt (inl is) = subst (λ q. kept_at kept q ≡ []) (sym is) e
      by region lt (inr n) = f region (omega (arith, lt, n))
  found_same (Some (region, stamp)) f e = longer f (λ y ys k. let none : [] ≡ y ∷ ys = sym e ∙ k in cc)

  module _ {x : Stamped} {rest : List Stamped} (is : kept_at kept below ≡ x ∷ rest) where
    head_is : (y : Stamped) (ys : List Stamped) → kept_at kept below ≡ y ∷ ys → x ≡ y
    head_is y ys k = let same : x ∷ rest ≡ y ∷ ys = sym is ∙ k in cc

    -- it begins with the first head at all
    pub found_first : IsFoundIn kept below None → IsFoundIn kept (below + 1) (Some (below, x.stamp))
    found_first f = record {
      within = omega arith;
      first = x;
      rest = rest;
      is = is;
      stamp_is = refl;
      least = λ other y ys lt n k. let none : kept_at kept other ≡ [] = f other (omega (arith, lt, n)) in absurd (let bad : [] ≡ y ∷ ys = sym none ∙ k in cc);
    }

    -- it begins with a lower stamp than that found
    pub found_lower : {region stamp : ℕ} → IsFoundIn kept below (Some (region, stamp)) → x.stamp < stamp → IsFoundIn kept (below + 1) (Some (below, x.stamp))
    found_lower {region} {stamp} f lower = record {
      within = omega arith;
      first = x;
      rest = rest;
      is = is;
      stamp_is = refl;
      least = λ other y ys lt n k. inl (by other y ys k (omega (arith, lt, n)) (either_nat other region));
    }
      where
        by : (other : ℕ) (y : Stamped) (ys : List Stamped) → kept_at kept other ≡ y ∷ ys → other < below → Either (other ≡ region) → x.stamp < y.stamp
        by other y ys k lt (inl e) =
            let same : f.first ∷ f.rest ≡ y ∷ ys = sym f.is ∙ subst (λ q. kept_at kept q ≡ y ∷ ys) e k in
            let head : f.first ≡ y = cc in
            subst (λ z. x.stamp < z.stamp) head (subst (λ s. x.stamp < s) (sym f.stamp_is) lower)
        by other y ys k lt (inr n) = least_of (f.least other y ys lt n k)
          where
            least_of : (stamp < y.stamp) ⊎ ((stamp ≡ y.stamp) × (region < other)) → x.stamp < y.stamp
            least_of (inl l) = omega (arith, l, lower)
            least_of (inr r) = let e : stamp ≡ y.stamp = r.0 in omega (arith, e, lower)

    -- it begins with no lower stamp
    pub found_still : {region stamp : ℕ} → IsFoundIn kept below (Some (region, stamp)) → stamp ≤ x.stamp → IsFoundIn kept (below + 1) (Some (region, stamp))
    found_still {region} {stamp} f low = longer f (λ y ys k. upto y (subst (λ z. stamp ≤ z.stamp) (head_is y ys k) low))
      where
        upto : (y : Stamped) → stamp ≤ y.stamp → (stamp < y.stamp) ⊎ ((stamp ≡ y.stamp) × (region < below))
        upto y le = elim (either_nat stamp y.stamp) [
          | inl s ↦ inr (s, f.within)
          | inr m ↦ inl (omega (arith, le, m))
        ]

pub no_head : (xs : List Stamped) → None ≡ slice_get xs 0 → xs ≡ []
no_head [] e = refl
no_head (x ∷ xs) e = let bad : ◌≡◌ {A = Option Stamped} None (Some x) = e in cc

pub head_rest : (xs : List Stamped) (x : Stamped) → slice_get xs 0 ≡ Some x → (rest : List Stamped) × (xs ≡ x ∷ rest)
head_rest [] x e = let bad : ◌≡◌ {A = Option Stamped} None (Some x) = e in absurd (let no : ⊥ = cc in no)
head_rest (y ∷ xs) x e = let s : ◌≡◌ {A = Option Stamped} (Some y) (Some x) = e in let same : y ≡ x = cc in (xs, ap (λ z. z ∷ xs) same)
