-- A vertex that is complete, neither ready nor stuck, and in no class that isn't done is of a transaction that has left: so no entry
-- waits for it.
use Rattle.std.proofs.Common.{◌≡◌, ◌≤◌, ◌<◌, ◌↔◌, ◌∙◌, ℕ, List, [], length, map, slice_get, Option, None, Some, sym, subst, inl, inr}
use Rattle.std.proofs.lemmas.List.{length-map, take_all}
use Rattle.dt_lists.specs.Lists.{AllIn, Has}
use Rattle.dt_lists.proofs.Callers.{all_get, all_map, any_at, any_get, either_nat, has_place, some_same}
use Rattle.dt_access.specs.declared.TxnId.{TxnId}
use Rattle.dt_access.specs.declared.Part.{Part}
use Rattle.dt_sched.specs.Views.{View, HasPart, IsComplete, log_at}
use Rattle.dt_waits.specs.declared.open.Open.{Open}
use Rattle.dt_waits.specs.LeftInGraph.{IsFree, IsInResolved, IsLeft, IsOrderly}
use Rattle.dt_waits.specs.Waits.{degree, id_at}
use Rattle.dt_waits.specs.Graph.{GraphView, IsClassDone, IsOpened, IsPast, IsPlaceOfClass, KeepsGraph, vertex_at}
use Rattle.dt_waits.proofs.DegreeZero.{free_by_degree, id_has}
use Rattle.dt_waits.proofs.ExecutableTest.{executable_of_free}
use Rattle.dt_waits.proofs.MissingParts.{complete_of_none}
use Rattle.dt_waits.proofs.RunInOrder.{pairwise_get}

module _ (view : View) (resolved : List (List TxnId)) (done : List TxnId) (k : IsOrderly view resolved done) (g : GraphView) (is : KeepsGraph view resolved done g) (v : ℕ) (lt : v < length g.ids)
    (past : IsPast g.classes (vertex_at g.vertices v)) (not_ready : ¬ (Has g.ready v)) (not_stuck : ¬ (Has g.stuck v)) where
  complete : IsComplete view (id_at g.ids v)
  complete =
      let at : (home : ℕ) × (home < length view) × HasPart (log_at view home) (id_at g.ids v) = any_at _ [] view ((is.present (id_at g.ids v)).0 (id_has g.ids v lt)) in
      let p : (p : Part) × Has (log_at view at.0) p × (p.id ≡ id_at g.ids v) = any_get _ (log_at view at.0) at.2 in
      complete_of_none view (id_at g.ids v) at.0 p.0 p.1 p.2 (sym ((is.kept v lt).missing at.0 p.0 p.1 p.2) ∙ past.complete)

  zero_is_free : (degree g.waiting v ≡ 0) ↔ IsFree view done (id_at g.ids v)
  zero_is_free = free_by_degree view done g.ids g.waiting k.sound.well_formed is.uses is.once v lt

  -- in no class it would be executable or stuck
  alone : IsLeft view done (id_at g.ids v) → ¬ (IsInResolved resolved (id_at g.ids v)) → ⊥
  alone left apart = elim (either_nat (degree g.waiting v) 0) [
    | inl z ↦ not_ready ((is.ready v).1 (lt, executable_of_free view resolved done k (id_at g.ids v) left apart complete (zero_is_free.0 z)))
    | inr n ↦ not_stuck ((is.stuck v).1 (
      lt,
      record {
        left = left;
        complete = complete;
        apart = apart;
        waits = λ f. n (zero_is_free.1 f);
      },
    ))
  ]

  -- in a class that is done all that reaches it is done
  among : (place : ℕ) (ids : List TxnId) → slice_get resolved place ≡ Some ids → Has ids (id_at g.ids v) → (kept : Open) → slice_get g.classes place ≡ Some kept → length kept.members ≤ kept.next
      → ¬ (IsLeft view done (id_at g.ids v))
  among place ids at member kept kept_at le left = left.1 (λ u r. elim (k.before ids u (id_at g.ids v) (has_place resolved place ids at) member r) [ inl h ↦ of_class u h | inr d ↦ d ])
    where
      opened : IsOpened view done g.ids ids kept
      opened =
          let o : (o : Open) × (slice_get g.classes place ≡ Some o) × IsOpened view done g.ids ids o = pairwise_get (IsOpened view done g.ids) resolved g.classes place ids at is.classes in
          subst (IsOpened view done g.ids ids) (some_same (sym o.1 ∙ kept_at)) o.2

      all_done : AllIn (Has done) (map (id_at g.ids) kept.members)
      all_done = subst (AllIn (Has done)) (take_all kept.next (map (id_at g.ids) kept.members) (subst (λ n. n ≤ kept.next) (sym (length-map kept.members (id_at g.ids))) le)) opened.front_done

      of_class : (u : TxnId) → Has ids u → Has done u
      of_class u h = all_get _ (map (id_at g.ids) kept.members) all_done u ((opened.members u).1 h)

  pub past_left : ¬ (IsLeft view done (id_at g.ids v))
  past_left left = by (vertex_at g.vertices v).class (is.kept v lt).class past.class
    where
      by : (class : Option ℕ) → IsPlaceOfClass resolved (id_at g.ids v) class → IsClassDone g.classes class → ⊥
      by None apart over = alone left apart
      by (Some place) at over = among place at.0 at.1 at.2 over.0 over.1 over.2 left

  -- so no entry waits for it
  pub past_entries : AllIn (λ w. ¬ (w.vertex ≡ v)) g.waiting
  past_entries = all_map _ _ g.waiting (λ w l e. past_left (subst (λ u. IsLeft view done (id_at g.ids u)) e l)) is.uses.of_left
