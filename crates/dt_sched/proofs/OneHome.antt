-- Where each transaction has one home, there is no deadlock, and single edges decide all.
use Rattle.std.proofs.Common.{◌≡◌, ◌≢◌, ◌<◌, ◌≤◌, ◌⊎◌, ◌↔◌, ℕ, List, [], ◌∷◌, length, refl, sym, ap, subst, ◌∙◌, inl, inr, arith}
use Rattle.dt_lists.specs.Lists.{AllIn, SomeThen, Has, EachThen}
use Rattle.dt_lists.proofs.Callers.{any_at, any_from_at, any_get, any_put, all_get, all_put, all_at, some_map, each_of_image, HasKeyBefore, key_first}
use Rattle.dt_lists.proofs.Callers.{key_second, key_before_irreflexive, key_before_transitive, chain_step}
use Rattle.dt_access.specs.declared.TxnId.{TxnId}
use Rattle.dt_access.specs.declared.Part.{Part}
use Rattle.dt_sched.specs.Views.{View, log_at, HasPart, AreClashing, Edge, here, onward, Reaches, IsPresent, HasParts, IsComplete, IsClosed, Mutual, Precedes, IsClass, IsWellFormed, HasOneHomeEach}
use Rattle.dt_sched.specs.Decide.{IsExecutable, IsResolvable, IsDownward}
use Rattle.dt_access.proofs.Callers.{either_id}
use Rattle.dt_sched.proofs.ClosedTransactions.{home_of_edge, complete_of_closed}
use Rattle.dt_sched.proofs.Reach.{reach_source, present_of_complete}
use Rattle.dt_sched.proofs.Classes.{class_alone}

-- of a list with one item, any two items are the same
only_item : (xs : List ℕ) (a b : ℕ) → length xs ≡ 1 → Has xs a → Has xs b → a ≡ b
only_item [] a b e h k = absurd h
only_item (x ∷ []) a b e (inl p) (inl q) = sym p ∙ q
only_item (x ∷ []) a b e (inl p) (inr k) = absurd k
only_item (x ∷ []) a b e (inr h) k = absurd h
only_item (x ∷ y ∷ ys) a b e h k = absurd (omega arith)

-- u's part stands before t's part in the log
abbrev pub HasPartBefore : List Part → TxnId → TxnId → Type 0
HasPartBefore log u t = HasKeyBefore (λ p. p.id) log u t

module _ (view : View) (w : IsWellFormed view) (one : HasOneHomeEach view) where
  one_at : (home : ℕ) → AllIn (λ p. length p.homes ≡ 1) (log_at view home)
  one_at home = all_at (AllIn (λ p. length p.homes ≡ 1)) [] view home tt one

  -- all parts of an id are at one home
  pub same_home : (t : TxnId) (home other : ℕ) → HasPart (log_at view home) t → HasPart (log_at view other) t → home ≡ other
  same_home t home other h k =
      let p : (p : Part) × Has (log_at view home) p × (p.id ≡ t) = any_get _ (log_at view home) h in
      let q : (q : Part) × Has (log_at view other) q × (q.id ≡ t) = any_get _ (log_at view other) k in
      let alike : p.0.homes ≡ q.0.homes = all_get _ (log_at view other) (all_get _ (log_at view home) (w.alike home other) p.0 p.1) q.0 q.1 (p.2 ∙ sym q.2) in
      only_item p.0.homes home other (all_get _ (log_at view home) (one_at home) p.0 p.1)
      (all_get _ (log_at view home) (w.homed home) p.0 p.1).1
      (subst (λ homes. Has homes other) (sym alike) (all_get _ (log_at view other) (w.homed other) q.0 q.1).1)

  once_at : (home : ℕ) → EachThen (λ p q. ¬ (p.id ≡ q.id)) (log_at view home)
  once_at home = each_of_image (λ a b. ¬ (a ≡ b)) (λ p. p.id) (log_at view home) (w.once home)

  -- what reaches t from elsewhere stands before it in its log
  pub stands_before : {u t : TxnId} → Reaches view u t → (u ≡ t) ⊎ ((home : ℕ) × HasPartBefore (log_at view home) u t)
  stands_before here = inl refl
  stands_before {u = u} (onward {y = v} {z = t} c e) = inr (at (home_of_edge view v t e) (stands_before c))
    where
      at : (home : ℕ) × SomeThen (AreClashing v t) (log_at view home) → (u ≡ v) ⊎ ((home : ℕ) × HasPartBefore (log_at view home) u v) → (home : ℕ) × HasPartBefore (log_at view home) u t
      at r s = then s
        where
          last : HasPartBefore (log_at view r.0) v t
          last = some_map _ _ (log_at view r.0) (λ p q h. (h.0, h.1)) r.1

          then : (u ≡ v) ⊎ ((home : ℕ) × HasPartBefore (log_at view home) u v) → (home : ℕ) × HasPartBefore (log_at view home) u t
          then (inl same) = (r.0, subst (λ c. HasPartBefore (log_at view r.0) c t) (sym same) last)
          then (inr k) =
              let e : k.0 ≡ r.0 = same_home v k.0 r.0 (key_second (λ p. p.id) (log_at view k.0) u v k.1) (key_first (λ p. p.id) (log_at view r.0) v t last) in
              (r.0, key_before_transitive (λ p. p.id) (log_at view r.0) u v t (once_at r.0) (subst (λ home. HasPartBefore (log_at view home) u v) e k.1) last)

  pub mutual_same : (u t : TxnId) → Mutual view u t → u ≡ t
  mutual_same u t m = at (stands_before m.0) (stands_before m.1)
    where
      at : (u ≡ t) ⊎ ((home : ℕ) × HasPartBefore (log_at view home) u t) → (t ≡ u) ⊎ ((home : ℕ) × HasPartBefore (log_at view home) t u) → u ≡ t
      at (inl e) k = e
      at (inr h) (inl e) = sym e
      at (inr h) (inr k) =
          let e : k.0 ≡ h.0 = same_home t k.0 h.0 (key_first (λ p. p.id) (log_at view k.0) t u k.1) (key_second (λ p. p.id) (log_at view h.0) u t h.1) in
          absurd (key_before_irreflexive (λ p. p.id) (log_at view h.0) u (once_at h.0)
          (key_before_transitive (λ p. p.id) (log_at view h.0) u t u (once_at h.0) h.1 (subst (λ home. HasPartBefore (log_at view home) t u) e k.1)))

  pub class_single : (t : TxnId) (ids : List TxnId) → IsClass view t ids → ids ≡ t ∷ []
  class_single t ids c = class_alone view t ids c (λ u m. mutual_same u t m)

  pub none_resolvable : (resolved : List (List TxnId)) (done ids : List TxnId) → ¬ (IsResolvable view resolved done ids)
  none_resolvable resolved done ids x = no ids (class_single x.group.0 ids x.group.1) x.several
    where
      no : (xs : List TxnId) → xs ≡ x.group.0 ∷ [] → ¬ (2 ≤ length xs)
      no xs e two = absurd (omega (arith, ap length e))

  pub complete_of_present : (t : TxnId) → IsPresent view t → IsComplete view t
  complete_of_present t there =
      let h : (home : ℕ) × (home < length view) × HasPart (log_at view home) t = any_at _ [] view there in
      let p : (p : Part) × Has (log_at view h.0) p × (p.id ≡ t) = any_get _ (log_at view h.0) h.2 in
      let one = all_get _ (log_at view h.0) (one_at h.0) p.0 p.1 in
      let homed = all_get _ (log_at view h.0) (w.homed h.0) p.0 p.1 in
      let parts : HasParts view p.0.homes t =
      all_put _ p.0.homes (λ home k. subst (λ c. HasPart (log_at view c) t) (only_item p.0.homes h.0 home one homed.1 k) h.2) in
      any_from_at _ [] view h.0 (λ e. e) (any_put _ (log_at view h.0) p.0 p.1 (p.2, parts))

  pub closed_where_present : (t : TxnId) → IsClosed view t ↔ IsPresent view t
  closed_where_present t = (
    λ c. present_of_complete view t (complete_of_closed view t c),
    λ p u r. complete_of_present u (elim (reach_source view r) [ inl e ↦ subst (IsPresent view) (sym e) p | inr q ↦ q ]),
  )

  pub precedes_where_reaches : (u t : TxnId) → Precedes view u t ↔ (u ≢ t) × Reaches view u t
  precedes_where_reaches u t = (λ p. (p.0, p.1), λ r. (r.0, r.1, inl (λ back. r.0 (mutual_same u t (r.1, back)))))

  -- all that precedes t is done where all that has an edge into it is
  preceders_by_edges : (done : List TxnId) (t : TxnId) → IsDownward view done → ((v : TxnId) → Edge view v t → Has done v) → (u : TxnId) → Precedes view u t → Has done u
  preceders_by_edges done t down edges u p = last p.1 p.0 edges
    where
      last : {x y : TxnId} → Reaches view x y → x ≢ y → ((v : TxnId) → Edge view v y → Has done v) → Has done x
      last here ne f = absurd (ne refl)
      last {x = x} (onward {y = v} {z = y} c e) ne f = elim (either_id x v) [
        | inl same ↦ subst (Has done) (sym same) (f v e)
        | inr other ↦ down x v (f v e) ((precedes_where_reaches x v).1 (other, c))
      ]

  pub executable_by_edges : (resolved : List (List TxnId)) (done : List TxnId) (t : TxnId) → IsDownward view done
      → IsExecutable view resolved done t ↔ IsPresent view t × ¬ (Has done t) × ((u : TxnId) → Edge view u t → Has done u)
  executable_by_edges resolved done t down = (
    λ x. ((closed_where_present t).0 x.closed, x.waiting, λ u e. x.preceders u ((precedes_where_reaches u t).1 (e.0, chain_step e))),
    λ r. record {
      closed = (closed_where_present t).1 r.0;
      waiting = r.1;
      preceders = preceders_by_edges done t down r.2;
      settled = λ ids c two. absurd (omega (arith, ap length (class_single t ids c)));
    },
  )
