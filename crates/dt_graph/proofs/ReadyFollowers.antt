-- What is woken when degrees fall: first some, and then, after degrees of others were lowered, the others too.
use Rattle.std.proofs.Common.{◌≡◌, ◌⊎◌, ◌↔◌, ◌∙◌, ◌+◌, ◌==◌, ◌<◌, ◌≤◌, ℕ, true, false}
use Rattle.std.proofs.Common.{List, [], ◌∷◌, ◌++◌, length, filter, get_or, take, refl, sym, subst, inl, inr, arith}
use Rattle.std.proofs.lemmas.Bool.{cases_Bool}
use Rattle.std.proofs.lemmas.List.{get_or_past}
use Rattle.std.proofs.lemmas.List.Sums.{sum_by-cons}
use Rattle.std.proofs.lemmas.Grind.{take_at_read}
use Rattle.std.proofs.Math.Nat.{lt_of_not-le}
use Rattle.std.specs.List.{sum_by}
use Rattle.dt_lists.specs.Lists.{AnyIn, Has, Either}
use Rattle.dt_lists.proofs.Callers.{any_append, any_append_left, any_append_right, either_any, either_le, either_nat}
use Rattle.dt_queue.specs.Queues.{Waiting, followers}
use Rattle.dt_waits.specs.Waits.{is_of, lowered}
use Rattle.dt_waits.proofs.Callers.{slot_other}
use Rattle.dt_graph.specs.SmallStepsInner.{AreLowered, IsFollowedAt, Wakes, falls}
use Rattle.dt_graph.proofs.ReadyVertices.{wakes_same}

-- degrees that were lowered are no greater
lowered_less : (count : ℕ → ℕ) (old now : List ℕ) → AreLowered count old now → (v : ℕ) → get_or now v 0 ≤ get_or old v 0
lowered_less count old now a v = by (either_le (length old) v)
  where
    by : Either (length old ≤ v) → get_or now v 0 ≤ get_or old v 0
    by (inl le) = omega (arith, get_or_past now v 0 (subst (λ n. n ≤ v) (sym a.0) le))
    by (inr n) = omega (arith, a.1 v (lt_of_not-le n))

-- and those from which nothing was taken are as before
lowered_same : (count : ℕ → ℕ) (old now : List ℕ) → AreLowered count old now → (v : ℕ) → count v ≡ 0 → get_or now v 0 ≡ get_or old v 0
lowered_same count old now a v e = by (either_le (length old) v)
  where
    by : Either (length old ≤ v) → get_or now v 0 ≡ get_or old v 0
    by (inl le) = get_or_past now v 0 (subst (λ n. n ≤ v) (sym a.0) le) ∙ sym (get_or_past old v 0 le)
    by (inr n) = omega (arith, a.1 v (lt_of_not-le n), e)

-- of some, and then, after degrees of others alone were lowered, of the others
pub wakes_lowered : (P Q : ℕ → Type 0) → ((v : ℕ) → Either (P v)) → ((v : ℕ) → Either (Q v)) → (count : ℕ → ℕ) → ((v : ℕ) → ¬ (Q v) → count v ≡ 0)
    → (old now : List ℕ) → AreLowered count old now → (a b c r s t : List ℕ) → Wakes P old a r b s → Wakes Q now b s c t → Wakes (λ v. P v ⊎ Q v) now a r c t
wakes_lowered P Q is_p is_q count spares old now l a b c r s t p q = record {
  woken = λ v. (
    λ h. elim ((q.woken v).0 h) [
      | inl m ↦ elim ((p.woken v).0 m) [ inl o ↦ inl o | inr w ↦ inr (w.0, fell v w.1, inl w.2) ]
      | inr w ↦ inr (((p.still_stuck v).0 w.0).0, w.1, inr w.2)
    ],
    λ h. (q.woken v).1 (elim h [ inl o ↦ inl ((p.woken v).1 (inl o)) | inr w ↦ back v w.0 w.1 w.2 (is_q v) ]),
  );
  still_stuck = λ v. (
    λ h. let m : Has b v × ¬ ((get_or now v 0 ≡ 0) × Q v) = (q.still_stuck v).0 h in
        let o : Has a v × ¬ ((get_or old v 0 ≡ 0) × P v) = (p.still_stuck v).0 m.0 in
        (o.0, λ w. elim w.1 [ inl x ↦ elim (is_q v) [ inl y ↦ m.1 (w.0, y) | inr n ↦ o.1 (sym (same v n) ∙ w.0, x) ] | inr y ↦ m.1 (w.0, y) ]),
    λ h. (q.still_stuck v).1 ((p.still_stuck v).1 (h.0, λ w. h.1 (fell v w.0, inl w.1)), λ w. h.1 (w.0, inr w.1)),
  );
}
  where
    fell : (v : ℕ) → get_or old v 0 ≡ 0 → get_or now v 0 ≡ 0
    fell v e = omega (arith, lowered_less count old now l v, e)

    same : (v : ℕ) → ¬ (Q v) → get_or now v 0 ≡ get_or old v 0
    same v n = lowered_same count old now l v (spares v n)

    told : (v : ℕ) → Has a v → get_or now v 0 ≡ 0 → Q v → Either (P v) → Either (get_or old v 0 ≡ 0) → Has s v ⊎ Has b v × (get_or now v 0 ≡ 0) × Q v
    told v h z y (inl x) (inl e) = inl ((p.woken v).1 (inr (h, e, x)))
    told v h z y (inl x) (inr n) = inr ((p.still_stuck v).1 (h, λ w. n w.0), z, y)
    told v h z y (inr n) d = inr ((p.still_stuck v).1 (h, λ w. n w.1), z, y)

    back : (v : ℕ) → Has a v → get_or now v 0 ≡ 0 → P v ⊎ Q v → Either (Q v) → Has s v ⊎ Has b v × (get_or now v 0 ≡ 0) × Q v
    back v h z w (inl y) = told v h z y (is_p v) (either_nat (get_or old v 0) 0)
    back v h z (inl x) (inr n) = inl ((p.woken v).1 (inr (h, sym (same v n) ∙ z, x)))
    back v h z (inr y) (inr n) = absurd (n y)

-- a follower of the vertex x takes nothing from the degree of another
pub falls_spares : (u x v : ℕ) → ¬ (x ≡ v) → falls u x v ≡ 0
falls_spares u x v n = by (cases_Bool (u == v))
  where
    by : ((u == v) ≡ true) ⊎ ((u == v) ≡ false) → falls u x v ≡ 0
    by (inl t) = rw t refl
    by (inr t) = rw (t, slot_other x v n) refl

-- nor does an entry from the degree of a vertex that doesn't follow it
pub slot_spares : (waiting : List Waiting) (slot u v : ℕ) → ¬ (IsFollowedAt waiting slot v) → lowered waiting slot u v ≡ 0
slot_spares waiting slot u v n = by (cases_Bool (u == v))
  where
    none : (ws : List Waiting) → ¬ (AnyIn (λ w. w.vertex ≡ v) ws) → length (filter (is_of v) ws) ≡ 0
    none [] n = refl
    none (w ∷ ws) n = rw (slot_other w.vertex v (λ e. n (inl e))) (none ws (λ h. n (inr h)))

    by : ((u == v) ≡ true) ⊎ ((u == v) ≡ false) → lowered waiting slot u v ≡ 0
    by (inl t) = rw t refl
    by (inr t) = rw t (none (followers waiting slot) n)

-- nor do entries
pub slots_spare : (waiting : List Waiting) (u v : ℕ) (slots : List ℕ) → ¬ (AnyIn (λ slot. IsFollowedAt waiting slot v) slots) → sum_by (λ slot. lowered waiting slot u v) slots ≡ 0
slots_spare waiting u v [] n = refl
slots_spare waiting u v (slot ∷ slots) n =
    omega (arith, sum_by-cons (λ slot. lowered waiting slot u v) slot slots, slot_spares waiting slot u v (λ h. n (inl h)), slots_spare waiting u v slots (λ h. n (inr h)))

-- of what is said of the items of a list, up to a place and then, after what it takes was taken, of the item there
pub wakes_next : (P : ℕ → ℕ → Type 0) → ((x v : ℕ) → Either (P x v)) → (takes : ℕ → ℕ → ℕ) → ((x v : ℕ) → ¬ (P x v) → takes x v ≡ 0) → (items : List ℕ) (place : ℕ) → place < length items
    → (old now : List ℕ) → AreLowered (takes (get_or items place 0)) old now → (a b c r s t : List ℕ)
    → Wakes (λ v. AnyIn (λ x. P x v) (take place items)) old a r b s → Wakes (P (get_or items place 0)) now b s c t → Wakes (λ v. AnyIn (λ x. P x v) (take (place + 1) items)) now a r c t
wakes_next P decided takes spares items place lt old now l a b c r s t p q = wakes_same _ _ same now a c r t
    (wakes_lowered (λ v. AnyIn (λ x. P x v) (take place items)) (P item) (λ v. either_any _ (take place items) (λ x. decided x v)) (decided item) (takes item) (spares item) old now l a b c r s t p q)
  where
    item : ℕ
    item = get_or items place 0

    longer : take (place + 1) items ≡ take place items ++ item ∷ []
    longer = (take_at_read items place 0 lt).1

    same : (v : ℕ) → (AnyIn (λ x. P x v) (take place items) ⊎ P item v) ↔ AnyIn (λ x. P x v) (take (place + 1) items)
    same v = (
      λ h. subst (AnyIn (λ x. P x v)) (sym longer) (elim h [ inl o ↦ any_append_left (λ x. P x v) (take place items) (item ∷ []) o | inr y ↦ any_append_right (λ x. P x v) (take place items) (item ∷ []) (inl y) ]),
      λ h. elim (any_append (λ x. P x v) (take place items) (item ∷ []) (subst (AnyIn (λ x. P x v)) longer h)) [ inl o ↦ inl o | inr m ↦ elim m [ inl y ↦ inr y | inr z ↦ absurd z ] ],
    )
