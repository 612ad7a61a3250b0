-- Left vertices may leave together: no degree is less than what is taken from it.
use Rattle.std.proofs.Common.{◌≡◌, ◌<◌, ◌≤◌, ◌⊎◌, ℕ, true, false, ◌==◌, if◌then◌else◌, List, length, get_or}
use Rattle.std.proofs.Common.{refl, sym, subst, inl, inr, eqb-true, arith}
use Rattle.std.proofs.lemmas.Bool.{cases_Bool}
use Rattle.dt_lists.specs.Lists.{AllIn, Has, Distinct}
use Rattle.dt_lists.proofs.Callers.{all_get, all_put}
use Rattle.dt_access.specs.declared.TxnId.{TxnId}
use Rattle.dt_sched.specs.Views.{View}
use Rattle.dt_queue.specs.Queues.{Waiting, neighbours}
use Rattle.dt_waits.specs.LeftInGraph.{IsLeft}
use Rattle.dt_waits.specs.Waits.{id_at, degree, lowered_by, others}
use Rattle.dt_waits.specs.Graph.{GraphView, KeepsGraph}
use Rattle.dt_waits.specs.Steps.{MayLeave}
use Rattle.dt_waits.proofs.LeftTransactions.{left_decided}
use Rattle.dt_waits.proofs.Degrees.{lowered_fits}
use Rattle.dt_waits.proofs.DegreeZero.{zero_sum}

module _ (view : View) (resolved : List (List TxnId)) (done : List TxnId) (g : GraphView) (is : KeepsGraph view resolved done g) where
  -- what isn't left has no entry
  no_degree : (v : ℕ) → ¬ (IsLeft view done (id_at g.ids v)) → degree g.waiting v ≡ 0
  no_degree v n = zero_sum _ g.waiting (all_put _ g.waiting (λ w h. by w h (cases_Bool (w.vertex == v))))
    where
      by : (w : Waiting) → Has g.waiting w → ((w.vertex == v) ≡ true) ⊎ ((w.vertex == v) ≡ false) → (if w.vertex == v then length (others v (neighbours g.waiting w.slot)) else 0) ≡ 0
      by w h (inl e) = absurd (n (subst (λ u. IsLeft view done (id_at g.ids u)) (eqb-true w.vertex v e) (all_get _ g.waiting is.uses.of_left w h)))
      by w h (inr e) = rw e refl

  pub may_leave : (leaving : List ℕ) → Distinct leaving → AllIn (λ v. v < length g.ids) leaving → ((v : ℕ) → Has leaving v → IsLeft view done (id_at g.ids v)) → MayLeave g leaving
  may_leave leaving once within left = record {
    once = once;
    within = within;
    distinct = is.uses.distinct;
    below = is.uses.vertices;
    slots = all_put _ leaving (λ v h. (subst (λ n. v < n) (sym is.vertices) (all_get _ leaving within v h), is.slots v (all_get _ leaving within v h) (left v h)));
    enough = λ v lt. enough v (subst (λ n. v < n) is.degrees lt);
  }
    where
      enough : (v : ℕ) → v < length g.ids → lowered_by g.waiting leaving v ≤ get_or g.degrees v 0
      enough v lt = elim (left_decided view done (id_at g.ids v)) [
        | inl l ↦ subst (λ n. lowered_by g.waiting leaving v ≤ n) (sym (is.counts v lt l)) (lowered_fits g.waiting is.uses.distinct v leaving once)
        | inr n ↦ least _ _ _ (lowered_fits g.waiting is.uses.distinct v leaving once) (no_degree v n)
      ]
        where
          least : (a d m : ℕ) → a ≤ d → d ≡ 0 → a ≤ m
          least a d m e f = omega (arith, e, f)
