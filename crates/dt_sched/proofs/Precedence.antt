-- Whatever breaks ties, "precedes" is a strict order, and it orders any two of which one reaches the other.
use Rattle.std.proofs.Common.{◌≡◌, ◌≢◌, ◌⊎◌, ℕ, true, refl, sym, ap, subst, inl, inr}
use Rattle.dt_lists.specs.Lists.{Has, Either}
use Rattle.dt_lists.proofs.Callers.{some_map, some_of_two, chain_join, chain_step, either_and3, either_not, either_or}
use Rattle.dt_access.specs.Clash.{clash}
use Rattle.dt_access.specs.declared.TxnId.{TxnId}
use Rattle.dt_access.specs.declared.Part.{Part}
use Rattle.dt_sched.specs.Views.{View, log_at, Edge, here, Reaches, IsSooner, PrecedesBy, Precedes}
use Rattle.dt_sched.specs.Ties.{BreaksTies}
use Rattle.dt_access.proofs.Callers.{clash_symmetric, either_id}
use Rattle.dt_sched.proofs.Reach.{reach_decided}
use Rattle.dt_sched.proofs.Ranks.{sooner_breaks_ties}
use Rattle.dt_sched.proofs.ClosedTransactions.{edge_at_home}

pub precedes_irreflexive : (view : View) (t : TxnId) → ¬ (Precedes view t t)
precedes_irreflexive view t p = p.0 refl

-- of two parts of one log that clash and are of different ids, one has an edge to the other
pub edge_of_two : (view : View) (home : ℕ) (p q : Part) → Has (log_at view home) p → Has (log_at view home) q → p.id ≢ q.id → clash p.keys q.keys ≡ true → Edge view p.id q.id ⊎ Edge view q.id p.id
edge_of_two view home p q hp hq ne c =
    elim (some_of_two (λ a b. clash a.keys b.keys ≡ true) (log_at view home) p q hp hq (λ e. ne (ap (λ x. x.id) e)) c (clash_symmetric p.keys q.keys c)) [
      | inl s ↦ inl (edge_at_home view home p.id q.id ne (some_map _ _ (log_at view home) (λ a b h. (ap (λ x. x.id) h.0, ap (λ x. x.id) h.1, h.2)) s))
      | inr s ↦ inr (edge_at_home view home q.id p.id (λ e. ne (sym e)) (some_map _ _ (log_at view home) (λ a b h. (ap (λ x. x.id) h.0, ap (λ x. x.id) h.1, h.2)) s))
    ]

module _ (order : View → TxnId → TxnId → Type 0) (ties : BreaksTies order) where
  pub transitive_by : (view : View) (u v t : TxnId) → PrecedesBy order view u v → PrecedesBy order view v t → PrecedesBy order view u t
  transitive_by view u v t p q = by (reach_decided view t u)
    where
      through : Reaches view u t
      through = chain_join p.1 q.1

      lower : (a b : TxnId) → (¬ (Reaches view b a)) ⊎ order view a b → Reaches view b a → order view a b
      lower a b (inl n) r = absurd (n r)
      lower a b (inr h) r = h

      by : Either (Reaches view t u) → PrecedesBy order view u t
      by (inl back) =
          let h : order view u t = ties.transitive view u v t (lower u v p.2 (chain_join q.1 back)) (lower v t q.2 (chain_join back p.1)) in
          (λ e. ties.irreflexive view t (subst (λ x. order view x t) e h), through, inr h)
      by (inr n) = (λ e. n (subst (λ c. Reaches view t c) (sym e) here), through, inl n)

  -- of two different ids, one of which reaches the other, one precedes the other
  pub comparable_by : (view : View) (u t : TxnId) → u ≢ t → Reaches view u t ⊎ Reaches view t u → PrecedesBy order view u t ⊎ PrecedesBy order view t u
  comparable_by view u t ne (inl r) = by (reach_decided view t u)
    where
      by : Either (Reaches view t u) → PrecedesBy order view u t ⊎ PrecedesBy order view t u
      by (inr n) = inl (ne, r, inl n)
      by (inl back) = elim (ties.total view u t ne) [ inl h ↦ inl (ne, r, inr h) | inr h ↦ inr (λ e. ne (sym e), back, inr h) ]
  comparable_by view u t ne (inr r) = by (reach_decided view u t)
    where
      by : Either (Reaches view u t) → PrecedesBy order view u t ⊎ PrecedesBy order view t u
      by (inr n) = inr (λ e. ne (sym e), r, inl n)
      by (inl back) = elim (ties.total view u t ne) [ inl h ↦ inl (ne, back, inr h) | inr h ↦ inr (λ e. ne (sym e), r, inr h) ]

  pub comparable_in_log_by : (view : View) (home : ℕ) (p q : Part) → Has (log_at view home) p → Has (log_at view home) q → p.id ≢ q.id
      → clash p.keys q.keys ≡ true → PrecedesBy order view p.id q.id ⊎ PrecedesBy order view q.id p.id
  comparable_in_log_by view home p q hp hq ne c = comparable_by view p.id q.id ne
      (elim (edge_of_two view home p q hp hq ne c) [ inl e ↦ inl (chain_step e) | inr e ↦ inr (chain_step e) ])

  pub decided_by : (view : View) (u t : TxnId) → Either (PrecedesBy order view u t)
  decided_by view u t = either_and3 (u ≢ t) (Reaches view u t) ((¬ (Reaches view t u)) ⊎ order view u t)
      (either_not (u ≡ t) (either_id u t)) (reach_decided view u t)
      (either_or (¬ (Reaches view t u)) (order view u t) (either_not (Reaches view t u) (reach_decided view t u)) (ties.decided view u t))

-- so it is by the store's own order

pub precedes_transitive : (view : View) (u v t : TxnId) → Precedes view u v → Precedes view v t → Precedes view u t
precedes_transitive = transitive_by IsSooner sooner_breaks_ties

pub precedes_decided : (view : View) (u t : TxnId) → Either (Precedes view u t)
precedes_decided = decided_by IsSooner sooner_breaks_ties

pub comparable : (view : View) (u t : TxnId) → u ≢ t → Reaches view u t ⊎ Reaches view t u → Precedes view u t ⊎ Precedes view t u
comparable = comparable_by IsSooner sooner_breaks_ties

pub comparable_in_log : (view : View) (home : ℕ) (p q : Part) → Has (log_at view home) p → Has (log_at view home) q → p.id ≢ q.id → clash p.keys q.keys ≡ true → Precedes view p.id q.id ⊎ Precedes view q.id p.id
comparable_in_log = comparable_in_log_by IsSooner sooner_breaks_ties
