-- What of the left transactions is executable. In no resolved class: what is complete and free, so nothing else that is left
-- reaches it. In a resolved class: the soonest of its members that isn't done.
use Rattle.std.proofs.Common.{◌≡◌, ◌≢◌, ◌≤◌, ◌↔◌, List, [], ◌∷◌, length, sym, subst, inl, inr, arith}
use Rattle.dt_lists.specs.Lists.{Has, Either}
use Rattle.dt_lists.specs.Chain.{here}
use Rattle.dt_lists.proofs.Callers.{all_get, chain_join}
use Rattle.dt_access.specs.declared.TxnId.{TxnId}
use Rattle.dt_access.proofs.Callers.{either_id}
use Rattle.dt_sched.specs.Views.{View, Reaches, IsComplete, IsClosed, IsClass, IsSooner, Mutual, Precedes}
use Rattle.dt_sched.specs.Decide.{IsExecutable}
use Rattle.dt_sched.proofs.Callers.{reach_source, class_alone, class_unique, complete_of_closed, sooner_breaks_ties}
use Rattle.dt_waits.specs.LeftInGraph.{IsOut, IsLeft, IsFree, IsInResolved, IsOrderly}
use Rattle.dt_waits.proofs.LeftTransactions.{out_of_not_left, left_decided, undone_before, undone_is_mutual, in_resolved, done_left, class_of_resolved}

module _ (view : View) (resolved : List (List TxnId)) (done : List TxnId) (k : IsOrderly view resolved done) (t : TxnId) where
  -- an executable id in no resolved class is complete and free
  pub free_of_executable : ¬ (IsInResolved resolved t) → IsExecutable view resolved done t → IsComplete view t × IsFree view done t
  free_of_executable apart x = (complete_of_closed view t x.closed, λ u l r. elim (either_id u t) [ inl e ↦ e | inr ne ↦ absurd (apart (another u l r ne)) ])
    where
      through : (u w : TxnId) → Reaches view u t → u ≢ t → Reaches view w u → ¬ (Has done w) → Either (w ≡ t) → IsInResolved resolved t
      through u w r ne s nd (inl e) = in_resolved view resolved t u x.settled ne (r, subst (λ v. Reaches view v u) e s)
      through u w r ne s nd (inr nw) = in_resolved view resolved t w x.settled nw (undone_is_mutual view done w t x.preceders (chain_join s r) nd nw)

      another : (u : TxnId) → IsLeft view done u → Reaches view u t → u ≢ t → IsInResolved resolved t
      another u l r ne =
          let w : (w : TxnId) × Reaches view w u × ¬ (Has done w) = undone_before view done u l.1 in
          through u w.0 r ne w.1 w.2 (either_id w.0 t)

  -- whatever else reaches a free one is out
  out_before_free : IsFree view done t → (u : TxnId) → Reaches view u t → u ≢ t → IsOut view done u
  out_before_free free u r ne = elim (left_decided view done u) [
    | inl l ↦ absurd (ne (free u l r))
    | inr n ↦ elim (reach_source view r) [ inl e ↦ absurd (ne e) | inr p ↦ out_of_not_left view done u p n ]
  ]

  -- what is left, in no resolved class, complete and free is executable
  pub executable_of_free : IsLeft view done t → ¬ (IsInResolved resolved t) → IsComplete view t → IsFree view done t → IsExecutable view resolved done t
  executable_of_free l apart complete free = record {
    closed = closed;
    waiting = λ d. apart (done_left view resolved done t k l d);
    preceders = λ u p. out_before_free free u p.1 p.0 u here;
    settled = λ ids c two. absurd (single ids c two);
  }
    where
      closed : IsClosed view t
      closed u r = elim (either_id u t) [
        | inl e ↦ subst (IsComplete view) (sym e) complete
        | inr ne ↦ complete_of_closed view u (all_get (IsClosed view) done k.sound.done_closed u (out_before_free free u r ne u here))
      ]

      alone : (u : TxnId) → Mutual view u t → u ≡ t
      alone u m = elim (either_id u t) [
        | inl e ↦ e
        | inr ne ↦ absurd (l.1 (λ v r. out_before_free free u m.0 ne v (chain_join r m.1)))
      ]

      single : (ids : List TxnId) → IsClass view t ids → 2 ≤ length ids → ⊥
      single ids c two = absurd (few (subst (λ l. 2 ≤ length l) (class_alone view t ids c alone) two))
        where
          few : 2 ≤ length (t ∷ []) → ⊥
          few h = omega (arith, h)

  -- a member of a resolved class is executable where it isn't done and all sooner members are done
  pub executable_in_resolved : (ids : List TxnId) → Has resolved ids → Has ids t
      → (IsExecutable view resolved done t ↔ (¬ (Has done t)) × ((u : TxnId) → Has ids u → IsSooner view u t → Has done u))
  executable_in_resolved ids h m = (
    λ x. (x.waiting, λ u g s. x.preceders u (λ e. sooner_breaks_ties.irreflexive view t (subst (λ v. IsSooner view v t) e s), ((its.members u).0 g).0, inr s)),
    λ f. record {
      closed = all_get (IsClosed view) ids (all_get _ resolved k.sound.resolved_closed ids h) t m;
      waiting = f.0;
      preceders = before f.1;
      settled = λ others c two. subst (Has resolved) (class_unique view t ids others its c) h;
    },
  )
    where
      its : IsClass view t ids
      its = class_of_resolved view resolved done ids t k.sound h m

      before : ((u : TxnId) → Has ids u → IsSooner view u t → Has done u) → (u : TxnId) → Precedes view u t → Has done u
      before sooner u p = elim (k.before ids u t h m p.1) [
        | inr d ↦ d
        | inl g ↦ elim p.2 [ inl n ↦ absurd (n ((its.members u).0 g).1) | inr s ↦ sooner u g s ]
      ]
