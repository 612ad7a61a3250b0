-- A search that goes on from each vertex in turn that is not found yet.
use Rattle.std.proofs.Common.{◌≡◌, ◌∙◌, ℕ, ◌+◌, ◌<◌, ◌≤◌, ◌⊎◌, true, false, List, length, take, Option, Some, None, refl, sym, ap, subst, inl, inr, arith}
use Rattle.std.proofs.lemmas.List.{take_at}
use Rattle.dt_lists.specs.Lists.{AllIn, Has}
use Rattle.dt_lists.specs.Chain.{Chain, here}
use Rattle.dt_lists.proofs.Callers.{all_put, any_front, any_get, either_nat}
use Rattle.dt_class.specs.LinksInner.{IsStep}
use Rattle.dt_class.specs.FindsInner.{FoundView, IsFoundOf, IsClosedUnder, IsFollowedIn, AddsVertex, Spreads, GoesOn, Visits, IsLastStart}
use Rattle.dt_class.specs.declared.link.Link.{Link}
use Rattle.dt_class.specs.declared.link.Way.{Way}
use Rattle.dt_class.proofs.Walk.{closed_keeps}

module _ (way : Way) (links : List Link) where
  -- what was closed is followed still when one more vertex is found
  pub followed_still : (old more : FoundView) (v : ℕ) → IsClosedUnder way links old.order → AddsVertex old v more → AllIn (IsFollowedIn way links more.order) (take (length old.order) more.order)
  followed_still old more v closed adds =
      let front : take (length old.order) more.order ≡ old.order = ap (take (length old.order)) (sym adds.front.1) ∙ take_at old.order adds.front.0 (length old.order) refl in
      rw front (all_put _ old.order (λ u h t e. (adds.members t).1 (inl (closed u h t e))))

  -- one more vertex is found, and the search goes on from it
  pub goes_on : (old more new : FoundView) (v : ℕ) → IsClosedUnder way links old.order → AddsVertex old v more → Spreads way links more new → GoesOn way links old v new
  goes_on old more new v closed adds s =
      record {
        vertices = s.vertices ∙ adds.vertices;
        once = s.once;
        closed = s.closed;
        members = λ t. (down t, up t);
      }
    where
      kept : (t : ℕ) → Has more.order t → Has new.order t
      kept t h = any_front _ more.order new.order s.front h

      down : (t : ℕ) → Has new.order t → Has old.order t ⊎ Chain (IsStep way links) v t
      down t h =
          let r : (u : ℕ) × Has more.order u × Chain (IsStep way links) u t = any_get _ more.order (s.sound t h) in
          elim ((adds.members r.0).0 r.1)
          [ inl k ↦ inl (closed_keeps way links old.order r.0 t closed r.2 k) | inr e ↦ inr (subst (λ u. Chain (IsStep way links) u t) e r.2) ]

      up : (t : ℕ) → Has old.order t ⊎ Chain (IsStep way links) v t → Has new.order t
      up t h = elim h [
        | inl k ↦ kept t ((adds.members t).1 (inl k))
        | inr c ↦ closed_keeps way links new.order v t s.closed c (kept v ((adds.members v).1 (inr refl)))
      ]

-- the last start so far: nothing that is found leads to it unless it leads back; and where there is none, nothing more is found
abbrev pub IsLastSoFar : Way → List Link → ℕ → List ℕ → List ℕ → Option ℕ → Type 0
IsLastSoFar way links count first order None = (u : ℕ) → Has order u → Has first u
IsLastSoFar way links count first order (Some f) =
    (f < count) × ¬ (Has first f) × ((u : ℕ) → Has order u → Chain (IsStep way links) u f → Chain (IsStep way links) f u)

-- the search began with what was found first, and went on from each vertex below k that was not found
pub record IsScanned (way : Way) (links : List Link) (count : ℕ) (first : List ℕ) (k : ℕ) (found : FoundView) (last : Option ℕ) : Type 0 where
  pub vertices : length found.marks ≡ count
  pub once : IsFoundOf found.marks found.order
  pub closed : IsClosedUnder way links found.order
  pub kept : (u : ℕ) → Has first u → Has found.order u
  pub passed : (u : ℕ) → u < k → Has found.order u
  pub so_far : IsLastSoFar way links count first found.order last

module _ (way : Way) (links : List Link) (count : ℕ) where
  pub scan_begins : (found : FoundView) → length found.marks ≡ count → IsFoundOf found.marks found.order → IsClosedUnder way links found.order
      → IsScanned way links count found.order 0 found None
  scan_begins found vertices once closed =
      record { vertices = vertices; once = once; closed = closed; kept = λ u h. h; passed = λ u lt. absurd (omega arith); so_far = λ u h. h }

  module _ (first : List ℕ) (k : ℕ) (found : FoundView) (last : Option ℕ) (s : IsScanned way links count first k found last) where
    passed_more : (order : List ℕ) → ((u : ℕ) → Has found.order u → Has order u) → Has order k → (u : ℕ) → u < k + 1 → Has order u
    passed_more order more h u lt = elim (either_nat u k) [ inl e ↦ subst (Has order) (sym e) h | inr ne ↦ more u (s.passed u (omega (arith, lt, ne))) ]

    -- the next vertex was found already
    pub scan_passes : (new : FoundView) → Visits way links found k false new → IsScanned way links count first (k + 1) new last
    scan_passes new v =
        subst
        (λ f. IsScanned way links count first (k + 1) f last)
        (sym v.1)
        (record {
          vertices = s.vertices;
          once = s.once;
          closed = s.closed;
          kept = s.kept;
          passed = passed_more found.order (λ u h. h) v.0;
          so_far = s.so_far;
        })

    -- the next vertex was not found: it is the last start now
    pub scan_goes_on : (new : FoundView) → k < count → Visits way links found k true new → IsScanned way links count first (k + 1) new (Some k)
    scan_goes_on new lt v =
        let on : GoesOn way links found k new = v.1 in
        record {
          vertices = on.vertices ∙ s.vertices;
          once = on.once;
          closed = on.closed;
          kept = λ u h. (on.members u).1 (inl (s.kept u h));
          passed = passed_more new.order (λ u h. (on.members u).1 (inl h)) ((on.members k).1 (inr here));
          so_far = (
            lt,
            λ h. v.0 (s.kept k h),
            λ u h c. elim ((on.members u).0 h) [ inl f ↦ absurd (v.0 (closed_keeps way links found.order u k s.closed c f)) | inr d ↦ d ],
          );
        }

  pub scan_ends : (first : List ℕ) (k : ℕ) (found : FoundView) (last : Option ℕ) → count ≤ k → IsScanned way links count first k found last → IsLastStart way links count first last
  scan_ends first k found None past s = λ v lt. s.so_far v (s.passed v (omega (arith, lt, past)))
  scan_ends first k found (Some f) past s = (s.so_far.0, s.so_far.1, λ v lt c. s.so_far.2 v (s.passed v (omega (arith, lt, past))) c)
