-- A walk over the followers of an entry, each of which is given once, in some order: degrees are lowered, and what comes to degree 0
-- is woken at once. A degree that falls again later is that of a follower which is met again then; so at each step of the walk all
-- those are woken that were met and are of degree 0 now.
use Rattle.std.proofs.Common.{◌≡◌, ◌≢◌, ◌+◌, ◌<◌, ◌≤◌, ◌⊎◌, ◌↔◌, ◌∙◌, ℕ, suc, true, false, ◌==◌, if◌then◌else◌, List, [], ◌∷◌, ◌++◌}
use Rattle.std.proofs.Common.{length, map, filter, get_or, refl, sym, ap, subst, inl, inr, arith}
use Rattle.std.proofs.lemmas.Bool.{cases_Bool}
use Rattle.std.proofs.lemmas.List.{append-nil, append_assoc}
use Rattle.std.proofs.lemmas.List.Sorted.{IsPermutation-sym, sum_by-IsPermutation}
use Rattle.std.proofs.lemmas.List.Sums.{sum_by-append, sum_by-cons}
use Rattle.std.specs.List.{sum_by}
use Rattle.std.specs.List.Sorted.{IsPermutation}
use Rattle.dt_lists.specs.Lists.{AllIn, Has}
use Rattle.dt_lists.proofs.Callers.{all_get, any_append, any_append_left, any_append_right, any_get, any_image, any_of_image, any_put, either_nat, filter_all, has_middle, permuted_has}
use Rattle.dt_queue.specs.declared.Follower.{Follower}
use Rattle.dt_queue.specs.Queues.{Waiting, follower_of, followers, is_neighbour}
use Rattle.dt_waits.specs.Waits.{is_of, lowered}
use Rattle.dt_waits.proofs.Callers.{slot_same, slot_other}
use Rattle.dt_graph.specs.SmallStepsInner.{AreLowered, IsFollowedAt, Wakes, falls}
use Rattle.dt_graph.proofs.ReadyFollowers.{falls_spares, wakes_lowered}
use Rattle.dt_graph.proofs.ReadyVertices.{IsOfSome, of_some_decided, wakes_none, wakes_same}

-- ---- what followers take

-- what is to be lowered, of followers of a slot of the vertex u
abbrev to_lower : ℕ → ℕ → List Waiting → ℕ
to_lower u v ws = if u == v then 0 else length (filter (is_of v) ws)

-- what these followers of an entry of the vertex u take from the degree of v
abbrev pub taken_of : ℕ → List Follower → ℕ → ℕ
taken_of u fs v = sum_by (λ f. falls u f.vertex v) fs

taken_is : (u v : ℕ) (ws : List Waiting) → taken_of u (map follower_of ws) v ≡ to_lower u v ws
taken_is u v [] = by (cases_Bool (u == v))
  where
    by : ((u == v) ≡ true) ⊎ ((u == v) ≡ false) → 0 ≡ to_lower u v []
    by (inl e) = rw e refl
    by (inr e) = rw e refl
taken_is u v (w ∷ ws) = sum_by-cons (λ (f : Follower). falls u f.vertex v) (follower_of w) (map follower_of ws) ∙ ap (λ n. falls u w.vertex v + n) (taken_is u v ws) ∙ by (cases_Bool (u == v)) (cases_Bool (w.vertex == v))
  where
    one_more : (n : ℕ) → 1 + n ≡ suc n
    one_more n = omega arith

    none_more : (n : ℕ) → 0 + n ≡ n
    none_more n = omega arith

    by : ((u == v) ≡ true) ⊎ ((u == v) ≡ false) → ((w.vertex == v) ≡ true) ⊎ ((w.vertex == v) ≡ false) → falls u w.vertex v + to_lower u v ws ≡ to_lower u v (w ∷ ws)
    by (inl e) f = rw e refl
    by (inr e) (inl f) = rw (e, f) (one_more _)
    by (inr e) (inr f) = rw (e, f) (none_more _)

module _ (waiting : List Waiting) (slot u : ℕ) where
  -- at a step of the walk: those in front were met, and the rest is left
  pub record IsFreeing (rest : List Follower) (old now stuck ready stuck_now ready_now : List ℕ) : Type 0 where
    pub front : List Follower
    pub split : IsPermutation (map follower_of (followers waiting slot)) (front ++ rest)
    pub lowers : AreLowered (taken_of u front) old now
    pub wakes : Wakes (IsOfSome front) now stuck ready stuck_now ready_now

  pub freeing_begins : (rest : List Follower) (old stuck ready : List ℕ) → IsPermutation (map follower_of (followers waiting slot)) rest → IsFreeing rest old old stuck ready stuck ready
  freeing_begins rest old stuck ready p = record { front = []; split = p; lowers = (refl, λ v lt. same (get_or old v 0)); wakes = wakes_none old stuck ready }
    where
      same : (n : ℕ) → n ≡ n + 0
      same n = omega arith

  module _ (old now stuck ready stuck_now ready_now : List ℕ) where
    -- all of them take what the entry takes
    total : (rest : List Follower) (k : IsFreeing rest old now stuck ready stuck_now ready_now) (v : ℕ) → taken_of u k.front v + taken_of u rest v ≡ lowered waiting slot u v
    total rest k v =
        sym (sum_by-append (λ (f : Follower). falls u f.vertex v) k.front rest) ∙ sum_by-IsPermutation (λ (f : Follower). falls u f.vertex v) (map follower_of (followers waiting slot)) (k.front ++ rest) k.split
        ∙ taken_is u v (followers waiting slot)

    -- the rest, put otherwise
    pub freeing_at : (rest other : List Follower) → rest ≡ other → IsFreeing rest old now stuck ready stuck_now ready_now → IsFreeing other old now stuck ready stuck_now ready_now
    freeing_at rest other e k = subst (λ l. IsFreeing l old now stuck ready stuck_now ready_now) e k

    -- what is said of all entries is said of a follower
    pub said_of : (P : ℕ → Type 0) (f : Follower) (more : List Follower) → IsFreeing (f ∷ more) old now stuck ready stuck_now ready_now → AllIn (λ w. P w.vertex) waiting → P f.vertex
    said_of P f more k said =
        let h : Has (map follower_of (followers waiting slot)) f = (permuted_has (map follower_of (followers waiting slot)) (k.front ++ f ∷ more) k.split f).0 (has_middle k.front f more) in
        let w = any_get _ (followers waiting slot) (any_of_image (λ g. g ≡ f) follower_of (followers waiting slot) h) in
        subst P (ap (λ (g : Follower). g.vertex) w.2) (all_get (λ w. P w.vertex) (followers waiting slot) (filter_all (λ w. P w.vertex) (λ w. is_neighbour waiting slot w.slot) waiting said) w.0 w.1)

    -- the degree of another one isn't zero, where each has enough
    pub may_lower : (f : Follower) (more : List Follower) → IsFreeing (f ∷ more) old now stuck ready stuck_now ready_now → f.vertex ≢ u → f.vertex < length old
        → lowered waiting slot u f.vertex ≤ get_or old f.vertex 0 → 1 ≤ get_or now f.vertex 0
    may_lower f more k ne lt enough =
        some _ _ _ _ _ _ _ (k.lowers.1 f.vertex lt) (total (f ∷ more) k f.vertex) (sum_by-cons (λ (g : Follower). falls u g.vertex f.vertex) f more) one enough
      where
        one : falls u f.vertex f.vertex ≡ 1
        one = rw (slot_other u f.vertex (λ e. ne (sym e)), slot_same f.vertex) refl

        some : (o n a b t c r : ℕ) → o ≡ n + a → a + b ≡ t → b ≡ c + r → c ≡ 1 → t ≤ o → 1 ≤ n
        some o n a b t c r e g h i j = omega (arith, e, g, h, i, j)

    -- one more was met
    pub freeing_onward : (f : Follower) (more : List Follower) (next stuck_next ready_next : List ℕ) → IsFreeing (f ∷ more) old now stuck ready stuck_now ready_now → AreLowered (falls u f.vertex) now next
        → Wakes (λ v. f.vertex ≡ v) next stuck_now ready_now stuck_next ready_next → IsFreeing more old next stuck ready stuck_next ready_next
    freeing_onward f more next stuck_next ready_next k a w = record {
      front = k.front ++ f ∷ [];
      split = subst (IsPermutation (map follower_of (followers waiting slot))) (sym (append_assoc k.front (f ∷ []) more)) k.split;
      lowers = (a.0 ∙ k.lowers.0, λ v lt. both _ _ _ _ _ _ (k.lowers.1 v lt) (a.1 v (subst (λ n. v < n) (sym k.lowers.0) lt)) (sum_by-append (λ (g : Follower). falls u g.vertex v) k.front (f ∷ [])));
      wakes = wakes_same _ _ same next stuck stuck_next ready ready_next
          (wakes_lowered (IsOfSome k.front) (λ v. f.vertex ≡ v) (of_some_decided k.front) (λ v. either_nat f.vertex v) (falls u f.vertex) (falls_spares u f.vertex) now next a
          stuck stuck_now stuck_next ready ready_now ready_next k.wakes w);
    }
      where
        both : (o n a s t b : ℕ) → o ≡ n + a → n ≡ s + t → b ≡ a + (0 + t) → o ≡ s + b
        both o n a s t b e g h = omega (arith, e, g, h)

        same : (v : ℕ) → (IsOfSome k.front v ⊎ (f.vertex ≡ v)) ↔ IsOfSome (k.front ++ f ∷ []) v
        same v = (
          λ s. elim s [ inl o ↦ any_append_left (λ (g : Follower). g.vertex ≡ v) k.front (f ∷ []) o | inr e ↦ any_append_right (λ (g : Follower). g.vertex ≡ v) k.front (f ∷ []) (inl e) ],
          λ h. elim (any_append (λ (g : Follower). g.vertex ≡ v) k.front (f ∷ []) h) [ inl o ↦ inl o | inr m ↦ elim m [ inl e ↦ inr e | inr z ↦ absurd z ] ],
        )

    -- at the end all were met
    module _ (k : IsFreeing [] old now stuck ready stuck_now ready_now) where
      pub freed_lowered : AreLowered (lowered waiting slot u) old now
      freed_lowered = (k.lowers.0, λ v lt. all _ _ _ _ (k.lowers.1 v lt) (total [] k v))
        where
          all : (o n a t : ℕ) → o ≡ n + a → a + 0 ≡ t → o ≡ n + t
          all o n a t e g = omega (arith, e, g)

      pub freed_woken : Wakes (IsFollowedAt waiting slot) now stuck ready stuck_now ready_now
      freed_woken = wakes_same _ _ same now stuck stuck_now ready ready_now k.wakes
        where
          all : List Follower
          all = map follower_of (followers waiting slot)

          met : IsPermutation all k.front
          met = subst (IsPermutation all) (append-nil k.front) k.split

          any_moved : (v : ℕ) (xs ys : List Follower) → IsPermutation xs ys → IsOfSome xs v → IsOfSome ys v
          any_moved v xs ys p h = let r = any_get (λ (g : Follower). g.vertex ≡ v) xs h in any_put (λ (g : Follower). g.vertex ≡ v) ys r.0 ((permuted_has xs ys p r.0).1 r.1) r.2

          same : (v : ℕ) → IsOfSome k.front v ↔ IsFollowedAt waiting slot v
          same v = (
            λ h. any_of_image (λ (g : Follower). g.vertex ≡ v) follower_of (followers waiting slot) (any_moved v k.front all (IsPermutation-sym all k.front met) h),
            λ h. any_moved v all k.front met (any_image (λ (g : Follower). g.vertex ≡ v) follower_of (followers waiting slot) h),
          )
