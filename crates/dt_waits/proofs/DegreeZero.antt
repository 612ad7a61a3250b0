-- The degree of a vertex is zero just where its transaction is free.
use Rattle.std.proofs.Common.{◌≡◌, ◌≢◌, ◌+◌, ◌<◌, ◌⊎◌, ◌↔◌, ◌∙◌, ℕ, true, false, ◌==◌, not, if◌then◌else◌, List, [], ◌∷◌}
use Rattle.std.proofs.Common.{length, map, Some, refl, sym, ap, subst, inl, inr, eqb-true, arith}
use Rattle.std.specs.List.{sum_by}
use Rattle.std.proofs.lemmas.Bool.{cases_Bool}
use Rattle.std.proofs.lemmas.List.Sums.{sum_by-cons}
use Rattle.std.proofs.lemmas.Option.{slice_get-get_or}
use Rattle.dt_lists.specs.Lists.{AnyIn, AllIn, Has, Distinct}
use Rattle.dt_lists.proofs.Callers.{all_get, all_put, any_at, any_get, any_of_image, any_put, has_at, has_filter, has_of_filtered, none_in_empty, one_place}
use Rattle.dt_access.specs.declared.TxnId.{TxnId}
use Rattle.dt_sched.specs.Views.{View, IsWellFormed}
use Rattle.dt_queue.specs.Queues.{Waiting, neighbours}
use Rattle.dt_waits.specs.LeftInGraph.{IsFree}
use Rattle.dt_waits.specs.Waits.{id_at, AreUses, HoldsUp, others, degree}
use Rattle.dt_waits.proofs.NeighbourChains.{neighbour_waits, slot_other, slot_same}
use Rattle.dt_waits.proofs.ChainsOfWaits.{free_by_queues}

-- in a list in which nothing stands twice, a place is known by what is there
pub same_place : (ids : List TxnId) (u v : ℕ) → Distinct ids → u < length ids → v < length ids → id_at ids u ≡ id_at ids v → u ≡ v
same_place ids u v d lu lv e = one_place ids u v (id_at ids v) d (slice_get-get_or ids u _ lu ∙ ap Some e) (slice_get-get_or ids v _ lv)

pub id_has : (xs : List TxnId) (v : ℕ) → v < length xs → Has xs (id_at xs v)
id_has xs v lt = has_at xs v _ lt

pub place_has : (xs : List TxnId) (t : TxnId) → Has xs t → (v : ℕ) × (v < length xs) × (id_at xs v ≡ t)
place_has xs t h = any_at (λ id. id ≡ t) _ xs h

-- so a place whose id is that of one in a list of places is in the list
pub place_in_list : (ids : List TxnId) (list : List ℕ) (v : ℕ) → Distinct ids → AllIn (λ u. u < length ids) list → v < length ids → Has (map (id_at ids) list) (id_at ids v) → Has list v
place_in_list ids list v once within lt h =
    let u : (u : ℕ) × Has list u × (id_at ids u ≡ id_at ids v) = any_get _ list (any_of_image (λ y. y ≡ id_at ids v) (id_at ids) list h) in
    subst (Has list) (same_place ids u.0 v once (all_get _ list within u.0 u.1) lt u.2) u.1

-- a sum is zero just where each term is
sum_zero : {A : Type 0} (f : A → ℕ) (xs : List A) → sum_by f xs ≡ 0 → AllIn (λ x. f x ≡ 0) xs
sum_zero f [] e = tt
sum_zero f (x ∷ xs) e = (left (f x) (sum_by f xs) (sym (sum_by-cons f x xs) ∙ e), sum_zero f xs (right (f x) (sum_by f xs) (sym (sum_by-cons f x xs) ∙ e)))
  where
    left : (a b : ℕ) → a + b ≡ 0 → a ≡ 0
    left a b e = omega (arith, e)

    right : (a b : ℕ) → a + b ≡ 0 → b ≡ 0
    right a b e = omega (arith, e)

pub zero_sum : {A : Type 0} (f : A → ℕ) (xs : List A) → AllIn (λ x. f x ≡ 0) xs → sum_by f xs ≡ 0
zero_sum f [] a = refl
zero_sum f (x ∷ xs) a = sum_by-cons f x xs ∙ both (f x) (sum_by f xs) a.0 (zero_sum f xs a.1)
  where
    both : (a b : ℕ) → a ≡ 0 → b ≡ 0 → a + b ≡ 0
    both a b e f = omega (arith, e, f)

-- a list of no length, or its first item
pub either_first : {A : Type 0} (xs : List A) → (length xs ≡ 0) ⊎ ((x : A) × Has xs x)
either_first [] = inl refl
either_first (x ∷ xs) = inr (x, inl refl)

module _ (view : View) (done ids : List TxnId) (waiting : List Waiting) (well : IsWellFormed view) (uses : AreUses view done ids waiting) (once : Distinct ids) (v : ℕ) (within : v < length ids) where
  vertex_in : (w : Waiting) → Has waiting w → w.vertex < length ids
  vertex_in w h = all_get _ waiting uses.vertices w h

  waits_counted : (u : TxnId) → HoldsUp ids waiting u (id_at ids v) → degree waiting v ≡ 0 → ⊥
  waits_counted u f e =
      let w : (w : Waiting) × Has waiting w × ((id_at ids w.vertex ≡ id_at ids v) × AnyIn (λ n. id_at ids n.vertex ≡ u) (neighbours waiting w.slot)) = any_get _ waiting f.1 in
      let n : (n : Waiting) × Has (neighbours waiting w.0.slot) n × (id_at ids n.vertex ≡ u) = any_get _ (neighbours waiting w.0.slot) w.2.1 in
      counted w.0 n.0 w.1 (same_place ids w.0.vertex v once (vertex_in w.0 w.1) within w.2.0) n.1 (λ s. f.0 (sym n.2 ∙ ap (id_at ids) s))
    where
      counted : (w n : Waiting) → Has waiting w → w.vertex ≡ v → Has (neighbours waiting w.slot) n → n.vertex ≢ v → ⊥
      counted w n h is k ne = none_in_empty (others v (neighbours waiting w.slot)) n (has_filter (λ x. not (x.vertex == v)) (neighbours waiting w.slot) n k (ap not (slot_other n.vertex v ne))) none
        where
          none : length (others v (neighbours waiting w.slot)) ≡ 0
          none = let z : (if w.vertex == v then length (others v (neighbours waiting w.slot)) else 0) ≡ 0 = all_get _ waiting (sum_zero _ waiting e) w h in
              rw (ap (λ x. x == v) is, slot_same v) at z

  degree_counts : ((u : TxnId) → ¬ (HoldsUp ids waiting u (id_at ids v))) → degree waiting v ≡ 0
  degree_counts none = zero_sum _ waiting (all_put _ waiting (λ w h. at w h (cases_Bool (w.vertex == v))))
    where
      at : (w : Waiting) → Has waiting w → ((w.vertex == v) ≡ true) ⊎ ((w.vertex == v) ≡ false) → (if w.vertex == v then length (others v (neighbours waiting w.slot)) else 0) ≡ 0
      at w h (inr e) = rw e refl
      at w h (inl e) = rw e (elim (either_first (others v (neighbours waiting w.slot))) [
        | inl z ↦ z
        | inr r ↦
            let k : Has (neighbours waiting w.slot) r.0 × (not (r.0.vertex == v) ≡ true) = has_of_filtered (λ x. not (x.vertex == v)) (neighbours waiting w.slot) r.0 r.1 in
            absurd (none (id_at ids r.0.vertex) (
              λ s. apart r.0.vertex k.1 (same_place ids r.0.vertex v once (vertex_in r.0 (neighbour_waits waiting uses.distinct w r.0 h k.0)) within s),
              any_put _ waiting w h (ap (id_at ids) (eqb-true w.vertex v e), any_put _ (neighbours waiting w.slot) r.0 k.0 refl),
            ))
      ])
        where
          apart : (x : ℕ) → not (x == v) ≡ true → x ≢ v
          apart x n s = let y : not (v == v) ≡ true = subst (λ z. not (z == v) ≡ true) s n in let same : (v == v) ≡ true = slot_same v in cc

  pub free_by_degree : (degree waiting v ≡ 0) ↔ IsFree view done (id_at ids v)
  free_by_degree =
      let by_queues = free_by_queues view done ids waiting well uses (id_at ids v) in (
        λ e. by_queues.1 (λ u f. waits_counted u f e),
        λ f. degree_counts (by_queues.0 f),
      )
