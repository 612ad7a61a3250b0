-- What a call of finish may do, and what is said of what it did, by what is kept alone.
use Rattle.std.proofs.Common.{◌≡◌, ◌+◌, ◌<◌, ◌≤◌, ◌⊎◌, ◌↔◌, ◌∙◌, ◌^◌, ℕ, add-one, suc, List, [], ◌∷◌, length, map, get_or, set, slice_get}
use Rattle.std.proofs.Common.{Option, None, Some, refl, sym, ap, subst, inl, inr, arith}
use Rattle.std.proofs.lemmas.List.{length-map}
use Rattle.std.proofs.lemmas.Option.{get_or_from_slice_get, slice_get_within}
use Rattle.dt_lists.specs.Lists.{Has}
use Rattle.dt_lists.proofs.Callers.{all_get, all_put, any_put, few_below, has_place, one_place}
use Rattle.dt_access.specs.declared.TxnId.{TxnId}
use Rattle.dt_sched.specs.Views.{View, IsClass}
use Rattle.dt_sched.specs.Decide.{IsExecutable}
use Rattle.dt_sched.proofs.Callers.{class_unique}
use Rattle.dt_waits.specs.declared.open.Open.{Open}
use Rattle.dt_waits.specs.LeftInGraph.{IsLeft, IsOrderly}
use Rattle.dt_waits.specs.Waits.{id_at}
use Rattle.dt_waits.specs.Graph.{GraphView, KeepsGraph, IsOpened, IsPlaceOfClass, vertex_at}
use Rattle.dt_graph.specs.SubsetInner.{StandsAtPlace}
use Rattle.dt_waits.specs.Steps.{FinishesId, IsReadyWithout, Leaves, MayLeave, before, last, one_done}
use Rattle.dt_graph.specs.SmallStepsInner.{FinishesIn, MayFinishIn, all, one}
use Rattle.dt_waits.proofs.Callers.{at_named, class_of_resolved, distinct_members, executable_left, left_after, may_leave, member_of, next_is, pairwise_get}

-- the graph of an executable id
abbrev pub MayFinish : GraphView → TxnId → Type 0
MayFinish g id = (view : View) × (resolved : List (List TxnId)) × (done : List TxnId) × IsOrderly view resolved done × IsExecutable view resolved done id × KeepsGraph view resolved done g

-- the next member of a class is counted in 64 bits
pub counted_on : (place : ℕ) (g : GraphView) (m : MayFinishIn place g) (o : Open) → length g.ids < 2 ^ 32 → o ≡ get_or g.classes place o → o.next + 1 < 18446744073709551616
counted_on place g m o few e =
    fits o.next m.kept.next (length m.kept.members) (length g.ids) (ap (λ x. x.next) (e ∙ get_or_from_slice_get g.classes place m.kept o m.at_place)) m.waits (few_below (length g.ids) m.kept.members m.leaves.once m.leaves.within) few
  where
    fits : (n k l i : ℕ) → n ≡ k → k < l → l ≤ i → i < 4294967296 → n + 1 < 18446744073709551616
    fits n k l i e f h j = omega (arith, e, f, h, j)

module _ (place : ℕ) (g : GraphView) (m : MayFinishIn place g) (o : Open) (e : o ≡ get_or g.classes place o) where
  pub open_is : o ≡ m.kept
  open_is = e ∙ get_or_from_slice_get g.classes place m.kept o m.at_place

  now_is : record { members = o.members; next = o.next + 1 } ≡ one_done m.kept
  now_is = λ i. record { members = (open_is i).members; next = (add-one o.next ∙ ap (λ x. suc x.next) open_is) i }

  pub within_open : (next : ℕ) → slice_get o.members (o.next + 1) ≡ Some next → next < length g.ids
  within_open next at = all_get _ m.kept.members m.leaves.within next (has_of_at m.kept.members (o.next + 1) (subst (λ x. slice_get x.members (o.next + 1) ≡ Some next) open_is at))
    where
      has_of_at : (xs : List ℕ) (i : ℕ) → slice_get xs i ≡ Some next → Has xs next
      has_of_at xs i at = has_place xs i next at

  pub open_has : (next : ℕ) → slice_get o.members (o.next + 1) ≡ Some next → Has m.kept.members next
  open_has next at = has_place m.kept.members (o.next + 1) next (subst (λ x. slice_get x.members (o.next + 1) ≡ Some next) open_is at)

  pub open_not_stuck : (next : ℕ) → slice_get o.members (o.next + 1) ≡ Some next → ¬ (Has g.stuck next)
  open_not_stuck next at = all_get _ m.kept.members m.not_stuck next (has_place m.kept.members (o.next + 1) next (subst (λ x. slice_get x.members (o.next + 1) ≡ Some next) open_is at))

  pub finishes_one : (next : ℕ) (ready : List ℕ) → slice_get o.members (o.next + 1) ≡ Some next → ((u : ℕ) → Has ready u ↔ Has g.ready u ⊎ (u ≡ next))
      → FinishesIn place g (record g { ready = ready; classes = set g.classes place (record { members = o.members; next = o.next + 1 }) })
  finishes_one next ready at r = subst (λ x. FinishesIn place g (record g { ready = ready; classes = set g.classes place x })) (sym now_is)
      (one next m.kept m.at_place (subst (λ x. slice_get x.members x.next ≡ Some next) now_is at) r refl)

  pub finishes_all : (new : GraphView) → length o.members ≤ o.next + 1 → Leaves o.members (record g { classes = set g.classes place (record { members = o.members; next = o.next + 1 }) }) new → FinishesIn place g new
  finishes_all new le l = all m.kept m.at_place (ends (length m.kept.members) m.kept.next m.waits (subst (λ x. length x.members ≤ x.next) now_is le))
      (subst (λ x. Leaves x.members (record g { classes = set g.classes place x }) new) now_is l)
    where
      ends : (l n : ℕ) → n < l → l ≤ suc n → suc n ≡ l
      ends l n f h = omega (arith, f, h)

-- what may leave, and may finish, depends on nothing that is ready
pub may_leave_without : (g : GraphView) (ready leaving : List ℕ) → MayLeave g leaving → MayLeave (record g { ready = ready }) leaving
may_leave_without g ready leaving m = record { once = m.once; within = m.within; distinct = m.distinct; below = m.below; slots = m.slots; enough = m.enough }

pub may_finish_without : (place : ℕ) (g : GraphView) (ready : List ℕ) → MayFinishIn place g → MayFinishIn place (record g { ready = ready })
may_finish_without place g ready m = record { kept = m.kept; at_place = m.at_place; waits = m.waits; leaves = may_leave_without g ready m.kept.members m.leaves; not_stuck = m.not_stuck; of_class = m.of_class }

module _ (g : GraphView) (id : TxnId) (r : MayFinish g id) where
  left : IsLeft r.0 r.2 id
  left = executable_left r.0 r.1 r.2 id r.4

  pub number_there : (n : Option ℕ) → n ≡ None → ¬ (StandsAtPlace g.ids id n)
  number_there n e i = subst (StandsAtPlace g.ids id) e i ((r.5.present id).1 left.0)

  pub is_ready : (v : ℕ) → slice_get g.ids v ≡ Some id → Has g.ready v
  is_ready v at = (r.5.ready v).1 (slice_get_within g.ids v id at, subst (IsExecutable r.0 r.1 r.2) (sym (at_named g.ids v id at)) r.4)

  pub may_leave_one : (v : ℕ) → slice_get g.ids v ≡ Some id → MayLeave g (v ∷ [])
  may_leave_one v at = may_leave r.0 r.1 r.2 g r.5 (v ∷ []) (tt, tt) (slice_get_within g.ids v id at, tt) leaves
    where
      leaves : (u : ℕ) → Has (v ∷ []) u → IsLeft r.0 r.2 (id_at g.ids u)
      leaves u (inl e) = subst (λ w. IsLeft r.0 r.2 (id_at g.ids w)) e (subst (IsLeft r.0 r.2) (sym (at_named g.ids v id at)) left)
      leaves u (inr h) = absurd h

  pub may_finish : (v place : ℕ) → slice_get g.ids v ≡ Some id → (vertex_at g.vertices v).class ≡ Some place → MayFinishIn place g
  may_finish v place at some = record { kept = kept.0; at_place = kept.1; waits = waits; leaves = leaves; not_stuck = all_put _ kept.0.members not_stuck; of_class = all_put _ kept.0.members known }
    where
      lt : v < length g.ids
      lt = slice_get_within g.ids v id at

      named : id_at g.ids v ≡ id
      named = at_named g.ids v id at

      class : (ids : List TxnId) × (slice_get r.1 place ≡ Some ids) × Has ids id
      class = subst (IsPlaceOfClass r.1 id) some (subst (λ t. IsPlaceOfClass r.1 t (vertex_at g.vertices v).class) named (r.5.kept v lt).class)

      kept : (o : Open) × (slice_get g.classes place ≡ Some o) × IsOpened r.0 r.2 g.ids class.0 o
      kept = pairwise_get (IsOpened r.0 r.2 g.ids) r.1 g.classes place class.0 class.1 r.5.classes

      waits : kept.0.next < length kept.0.members
      waits = subst (λ n. kept.0.next < n) (length-map kept.0.members (id_at g.ids))
          (slice_get_within (map (id_at g.ids) kept.0.members) kept.0.next id (next_is r.0 r.1 r.2 id r.3 r.4 g g r.5 v lt named place class.0 kept.0 class.1 kept.1 class.2))

      of_class : IsClass r.0 id class.0
      of_class = class_of_resolved r.0 r.1 r.2 class.0 id r.3.sound (has_place r.1 place class.0 class.1) class.2

      in_class : (u : ℕ) → Has kept.0.members u → Has class.0 (id_at g.ids u)
      in_class = member_of r.0 r.1 r.2 id r.3 r.4 g g r.5 v lt named place class.0 kept.0 class.1 kept.1 class.2

      leaves : MayLeave g kept.0.members
      leaves = may_leave r.0 r.1 r.2 g r.5 kept.0.members (distinct_members r.0 r.1 r.2 id r.3 r.4 g g r.5 v lt named place class.0 kept.0 class.1 kept.1 class.2) kept.2.within
          (λ u h. left_after r.0 r.2 left ((of_class.members (id_at g.ids u)).0 (in_class u h)).1)

      not_stuck : (u : ℕ) → Has kept.0.members u → ¬ (Has g.stuck u)
      not_stuck u h s = ((r.5.stuck u).0 s).1.apart (any_put (λ ids. Has ids (id_at g.ids u)) r.1 class.0 (has_place r.1 place class.0 class.1) (in_class u h))

      known : (u : ℕ) → Has kept.0.members u → (vertex_at g.vertices u).class ≡ Some place
      known u h = by (vertex_at g.vertices u).class (r.5.kept u (all_get _ kept.0.members kept.2.within u h)).class
        where
          there : Has r.1 class.0
          there = has_place r.1 place class.0 class.1

          by : (other : Option ℕ) → IsPlaceOfClass r.1 (id_at g.ids u) other → other ≡ Some place
          by None apart = absurd (apart (any_put (λ ids. Has ids (id_at g.ids u)) r.1 class.0 there (in_class u h)))
          by (Some other) at =
              let same : at.0 ≡ class.0 = class_unique r.0 (id_at g.ids u) at.0 class.0
              (class_of_resolved r.0 r.1 r.2 at.0 (id_at g.ids u) r.3.sound (has_place r.1 other at.0 at.1) at.2)
              (class_of_resolved r.0 r.1 r.2 class.0 (id_at g.ids u) r.3.sound there (in_class u h)) in
              ap Some (one_place r.1 other place class.0 r.3.sound.resolved_once (at.1 ∙ ap Some same) class.1)

-- what was done in a class, of an id that was ready
pub finishes_in : (id : TxnId) (v place : ℕ) (ready : List ℕ) (old new : GraphView) → slice_get old.ids v ≡ Some id → (vertex_at old.vertices v).class ≡ Some place → IsReadyWithout old.ready v ready
    → FinishesIn place (record old { ready = ready }) new → FinishesId id old new
finishes_in id v place ready old new at some without (one next kept kept_at next_at r rest) = before v place next kept at some kept_at next_at (record {
  ready = λ u. (
    λ h. elim ((r u).0 h) [ inl o ↦ inl ((without u).0 o) | inr e ↦ inr e ],
    λ s. (r u).1 (elim s [ inl o ↦ inl ((without u).1 o) | inr e ↦ inr e ]),
  );
  rest = rest;
})
finishes_in id v place ready old new at some without (all kept kept_at ends l) = last v place kept at some kept_at ends (record { ready = ready; without = without; leaves = l })
