-- Where nothing is left to do, all that is closed is done.
use Rattle.std.proofs.Common.{◌≤◌, ◌⊎◌, ◌↔◌, List, [], ◌∷◌, length, refl, sym, subst, inl, inr}
use Rattle.dt_lists.specs.Lists.{AllIn, Has, Either}
use Rattle.dt_lists.proofs.Callers.{all_get, all_put, either_not, either_and, either_le, IsMinimal, least, IsPicked, chain_join}
use Rattle.dt_access.specs.Ids.{Before}
use Rattle.dt_access.specs.declared.TxnId.{TxnId}
use Rattle.dt_sched.specs.Views.{View, Reaches, IsComplete, IsClosed, IsSooner, PrecedesBy, IsClass}
use Rattle.dt_sched.specs.Ties.{BreaksTies}
use Rattle.dt_sched.specs.Decide.{IsExecutableBy, IsResolvable, HasNothingToDo, HasNothingToDoBy}
use Rattle.dt_sched.proofs.Reach.{ids_in, closed_decided}
use Rattle.dt_sched.proofs.Precedence.{decided_by, transitive_by}
use Rattle.dt_sched.proofs.Ranks.{sooner_breaks_ties}
use Rattle.dt_sched.proofs.ClosedTransactions.{closed_before, closed_listed}
use Rattle.dt_sched.proofs.Classes.{pick_ids, class_of, class_unique, in_own_class}
use Rattle.dt_sched.proofs.Decisions.{has_id_decided, has_class_decided}

-- some id is executable where the order breaks ties, or some class is resolvable
abbrev IsSomethingToDo : (View → TxnId → TxnId → Type 0) → View → List (List TxnId) → List TxnId → Type 0
IsSomethingToDo order view resolved done = ((u : TxnId) × IsExecutableBy order view resolved done u) ⊎ ((ids : List TxnId) × IsResolvable view resolved done ids)

-- where an order breaks ties
module _ (order : View → TxnId → TxnId → Type 0) (ties : BreaksTies order) where
  -- what reaches a member of a class from outside precedes each member
  outside_precedes : (view : View) (t u v : TxnId) (ids : List TxnId) → IsClass view t ids → Has ids v → Reaches view u v → ¬ (Has ids u) → PrecedesBy order view u t
  outside_precedes view t u v ids c h r n =
      let into : Reaches view u t = chain_join r ((c.members v).0 h).0 in
      (λ e. n (subst (Has ids) (sym e) (in_own_class view t ids c)), into, inl (λ back. n ((c.members u).1 (into, back))))

  -- a closed id whose preceders are done is executable, or its class is resolvable
  executable_or_resolvable : (view : View) (resolved : List (List TxnId)) (done : List TxnId) (t : TxnId) → IsClosed view t → ¬ (Has done t)
      → ((u : TxnId) → PrecedesBy order view u t → Has done u) → IsExecutableBy order view resolved done t ⊎ ((ids : List TxnId) × IsResolvable view resolved done ids)
  executable_or_resolvable view resolved done t closed waiting preceders = at (class_of view t)
    where
      settle : (ids : List TxnId) → IsClass view t ids → (2 ≤ length ids → Has resolved ids) → IsExecutableBy order view resolved done t
      settle ids c s = record { closed = closed; waiting = waiting; preceders = preceders; settled = λ others d. subst (λ l. 2 ≤ length l → Has resolved l) (class_unique view t ids others c d) s }

      at : (ids : List TxnId) × IsClass view t ids → IsExecutableBy order view resolved done t ⊎ ((ids : List TxnId) × IsResolvable view resolved done ids)
      at r = by (either_le 2 (length r.0)) (has_class_decided resolved r.0)
        where
          by : Either (2 ≤ length r.0) → Either (Has resolved r.0) → IsExecutableBy order view resolved done t ⊎ ((ids : List TxnId) × IsResolvable view resolved done ids)
          by (inr few) h = inl (settle r.0 r.1 (λ two. absurd (few two)))
          by (inl two) (inl h) = inl (settle r.0 r.1 (λ l. h))
          by (inl two) (inr n) = inr (
            r.0,
            record {
              group = (t, r.1);
              several = two;
              complete = all_put (IsComplete view) r.0 (λ u h. closed u ((r.1.members u).0 h).0);
              unresolved = n;
              before = λ u v h into. elim (has_id_decided r.0 u) [
                | inl k ↦ inl k
                | inr out ↦ inr (preceders u (outside_precedes view t u v r.0 r.1 h into out))
              ];
            },
          )

  -- where some closed id is not done, some id is executable or some class is resolvable
  something_to_do : (view : View) (resolved : List (List TxnId)) (done : List TxnId) (t : TxnId) → IsClosed view t → ¬ (Has done t)
      → IsSomethingToDo order view resolved done
  something_to_do view resolved done t closed waiting = at (pick_ids (λ u. IsClosed view u × ¬ (Has done u)) open_decided (ids_in view))
    where
      open_decided : (u : TxnId) → Either (IsClosed view u × ¬ (Has done u))
      open_decided u = either_and (IsClosed view u) (¬ (Has done u)) (closed_decided view u) (either_not (Has done u) (has_id_decided done u))

      at : (ids : List TxnId) × IsPicked Before (λ u. Has (ids_in view) u × (IsClosed view u × ¬ (Has done u))) ids → IsSomethingToDo order view resolved done
      at r = from r.0 r.1.members
        where
          from : (ids : List TxnId) → ((u : TxnId) → Has ids u ↔ Has (ids_in view) u × (IsClosed view u × ¬ (Has done u))) → IsSomethingToDo order view resolved done
          from [] m = absurd ((m t).1 (closed_listed view t closed, (closed, waiting)))
          from (x ∷ xs) m = first (least (PrecedesBy order view) (λ t p. p.0 refl) (transitive_by order ties view) (decided_by order ties view) x xs)
            where
              first : (s : TxnId) × IsMinimal (PrecedesBy order view) (x ∷ xs) s → IsSomethingToDo order view resolved done
              first s = elim (executable_or_resolvable view resolved done s.0 its.1.0 its.1.1 before) [ inl e ↦ inl (s.0, e) | inr c ↦ inr c ]
                where
                  its : Has (ids_in view) s.0 × (IsClosed view s.0 × ¬ (Has done s.0))
                  its = (m s.0).0 s.1.there

                  before : (u : TxnId) → PrecedesBy order view u s.0 → Has done u
                  before u p = elim (has_id_decided done u) [
                    | inl d ↦ d
                    | inr n ↦ let c : IsClosed view u = closed_before view u s.0 p.1 its.1.0 in absurd (s.1.none_below u ((m u).1 (closed_listed view u c, (c, n))) p)
                  ]

  -- where nothing is left to do, what is closed is done
  closed_is_done : (view : View) (resolved : List (List TxnId)) (done : List TxnId) → HasNothingToDoBy order view resolved done → (t : TxnId) → IsClosed view t → Has done t
  closed_is_done view resolved done nothing t c = elim (has_id_decided done t) [
    | inl d ↦ d
    | inr n ↦ elim (something_to_do view resolved done t c n) [ inl e ↦ absurd (nothing.none_executable e.0 e.1) | inr r ↦ absurd (nothing.none_resolvable r.0 r.1) ]
  ]

  pub done_where_closed_by : (view : View) (resolved : List (List TxnId)) (done : List TxnId) → AllIn (IsClosed view) done → HasNothingToDoBy order view resolved done → (t : TxnId) → Has done t ↔ IsClosed view t
  done_where_closed_by view resolved done closed nothing t = (λ d. all_get (IsClosed view) done closed t d, closed_is_done view resolved done nothing t)

pub done_where_closed : (view : View) (resolved : List (List TxnId)) (done : List TxnId) → AllIn (IsClosed view) done → HasNothingToDo view resolved done → (t : TxnId) → Has done t ↔ IsClosed view t
done_where_closed = done_where_closed_by IsSooner sooner_breaks_ties
