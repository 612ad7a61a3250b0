-- Of some vertices those that are stuck and of degree 0 become ready. Of one vertex, of more vertices, and along the
-- walk over the followers of an entry.
use Rattle.std.proofs.Common.{◌≡◌, ◌≢◌, ◌↔◌, ℕ, List, get_or, sym, subst, inl, inr}
use Rattle.dt_lists.specs.Lists.{AnyIn, Has, Either}
use Rattle.dt_lists.proofs.Callers.{either_any, either_nat}
use Rattle.dt_queue.specs.declared.Follower.{Follower}
use Rattle.dt_queue.specs.Queues.{Waiting, followers}
use Rattle.dt_graph.specs.SubsetInner.{PutsIn, Removes}
use Rattle.dt_graph.specs.SmallStepsInner.{IsFollowedAt, Wakes}

-- of no vertex
pub wakes_none : (degrees : List ℕ) (stuck ready : List ℕ) → Wakes (λ v. ⊥) degrees stuck ready stuck ready
wakes_none degrees stuck ready = record {
  woken = λ v. (λ h. inl h, λ s. elim s [ inl h ↦ h | inr r ↦ absurd r.2 ]);
  still_stuck = λ v. (λ h. (h, λ r. r.1), λ r. r.0);
}

-- of one that is stuck and of degree 0
pub wakes_one : (degrees : List ℕ) (u : ℕ) (stuck ready stuck_now ready_now : List ℕ) → get_or degrees u 0 ≡ 0 → Has stuck u → Removes u stuck stuck_now → PutsIn u ready ready_now
    → Wakes (λ v. u ≡ v) degrees stuck ready stuck_now ready_now
wakes_one degrees u stuck ready stuck_now ready_now zero h r p = record {
  woken = λ v. (
    λ m. elim ((p v).0 m) [ inl o ↦ inl o | inr e ↦ inr (subst (Has stuck) (sym e) h, subst (λ x. get_or degrees x 0 ≡ 0) (sym e) zero, sym e) ],
    λ s. (p v).1 (elim s [ inl o ↦ inl o | inr w ↦ inr (sym w.2) ]),
  );
  still_stuck = λ v. (
    λ m. let o : Has stuck v × (v ≢ u) = (r v).0 m in (o.0, λ w. o.1 (sym w.1)),
    λ s. (r v).1 (s.0, λ e. s.1 (subst (λ x. get_or degrees x 0 ≡ 0) (sym e) zero, sym e)),
  );
}

-- of the same, put otherwise
pub wakes_same : (P Q : ℕ → Type 0) → ((v : ℕ) → P v ↔ Q v) → (degrees : List ℕ) (a b r s : List ℕ) → Wakes P degrees a r b s → Wakes Q degrees a r b s
wakes_same P Q same degrees a b r s p = record {
  woken = λ v. (
    λ h. elim ((p.woken v).0 h) [ inl o ↦ inl o | inr w ↦ inr (w.0, w.1, (same v).0 w.2) ],
    λ h. (p.woken v).1 (elim h [ inl o ↦ inl o | inr w ↦ inr (w.0, w.1, (same v).1 w.2) ]),
  );
  still_stuck = λ v. (
    λ h. let o : Has a v × ¬ ((get_or degrees v 0 ≡ 0) × P v) = (p.still_stuck v).0 h in (o.0, λ w. o.1 (w.0, (same v).1 w.1)),
    λ h. (p.still_stuck v).1 (h.0, λ w. h.1 (w.0, (same v).0 w.1)),
  );
}

-- some of the followers is of the vertex
abbrev pub IsOfSome : List Follower → ℕ → Type 0
IsOfSome entries v = AnyIn (λ f. f.vertex ≡ v) entries

pub of_some_decided : (entries : List Follower) (v : ℕ) → Either (IsOfSome entries v)
of_some_decided entries v = either_any _ entries (λ f. either_nat f.vertex v)

-- it is decided whether a vertex follows an entry, or one of some entries
pub followed_at_decided : (waiting : List Waiting) (slot v : ℕ) → Either (IsFollowedAt waiting slot v)
followed_at_decided waiting slot v = either_any _ (followers waiting slot) (λ w. either_nat w.vertex v)

pub followed_decided : (waiting : List Waiting) (slots : List ℕ) (v : ℕ) → Either (AnyIn (λ slot. IsFollowedAt waiting slot v) slots)
followed_decided waiting slots v = either_any _ slots (λ slot. followed_at_decided waiting slot v)
