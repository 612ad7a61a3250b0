-- The merge of what regions keep is legal, changes something at each event, and leads to the world of the chronicle.
use Rattle.std.proofs.Common.{◌≡◌, ◌<◌, ◌≤◌, ◌⊎◌, ℕ, true, eqb, List, [], ◌∷◌, ◌++◌, Some, refl, sym, ap, subst, ◌∙◌, inl, inr, arith, append-nil, eqb-true, eq-eqb}
use Rattle.std.proofs.lemmas.List.Elements.{filter-append}
use Rattle.dt_lists.specs.Lists.{EachThen, Has}
use Rattle.dt_lists.proofs.Callers.{all_get, all_put, any_append, any_append_right, each_across, each_append_right, has_filter, has_middle, has_of_filtered}
use Rattle.dt_cluster.specs.Valid.{IsValidCluster}
use Rattle.dt_cluster.specs.declared.Cluster.{Cluster}
use Rattle.dt_workload.specs.Valid.{IsValidWorkload}
use Rattle.dt_workload.specs.declared.Workload.{Workload}
use Rattle.dt_session.specs.World.{World, opening_world}
use Rattle.dt_session.specs.Step.{IsLegal, next}
use Rattle.dt_session.specs.Run.{world_from, world_after, AreLegalFrom, AreLegal}
use Rattle.dt_session.specs.Eager.{AllChange}
use Rattle.dt_merge.specs.OwnPart.{Own, own, HasGrown, IsSupplied, source_of}
use Rattle.dt_merge.specs.WorldRegions.{HasInvariant, world_regions}
use Rattle.dt_merge.specs.Regional.{Regions, after_all, AreLegalIn, AllChangeIn, AreLocal, IsRescheduling, Rescheduled}
use Rattle.dt_events.specs.declared.Stamped.{Stamped}
use Rattle.dt_events.specs.Stamps.{events_of}
use Rattle.dt_merge.specs.Merge.{region_at, those_at, kept_at, HasLowerStamp, ComesBefore, AreKept, IsMerge, IsFed, IsChronicle}
use Rattle.dt_merge.proofs.EventOrders.{rescheduled, rescheduled_whole}
use Rattle.dt_merge.proofs.GoodWorlds.{opening_good}
use Rattle.dt_merge.proofs.Worlds.{world_local}
use Rattle.dt_merge.proofs.MergeLists.{merge_keeps, not_above}

-- worlds with stamped events: the stamps are nothing to a world
abbrev stamped_regions : Cluster → Workload → Regions World Stamped Own
stamped_regions cluster workload = record {
  region = region_at;
  source = λ x. source_of x.event;
  next = λ w x. next cluster workload w x.event;
  own = own workload;
  Good = HasInvariant cluster workload;
  Legal = λ w x. IsLegal cluster workload w x.event;
  Supplied = λ w x. IsSupplied w x.event;
  Grown = λ before now. HasGrown before.node now.node;
}

stamped_local : (cluster : Cluster) → IsValidCluster cluster → (workload : Workload) → IsValidWorkload cluster workload → AreLocal (stamped_regions cluster workload)
stamped_local cluster ok workload fits =
    let l : AreLocal (world_regions cluster workload) = world_local cluster ok workload fits in
    record {
      kept = λ w x. l.kept w x.event;
      whole = l.whole;
      frame = λ w x. l.frame w x.event;
      grows = λ w x. l.grows w x.event;
      grown_refl = l.grown_refl;
      grown_trans = l.grown_trans;
      supplied = λ w x. l.supplied w x.event;
      lasting = λ u w v x. l.lasting u w v x.event;
      local = λ w v z x. l.local w v z x.event;
    }

module _ (cluster : Cluster) (workload : Workload) where
  after_is : (w : World) (items : List Stamped) → after_all (stamped_regions cluster workload) w items ≡ world_from cluster workload w (events_of items)
  after_is w [] = refl
  after_is w (x ∷ items) = after_is (next cluster workload w x.event) items

  legal_in : (w : World) (items : List Stamped) → AreLegalFrom cluster workload w (events_of items) → AreLegalIn (stamped_regions cluster workload) w items
  legal_in w [] l = tt
  legal_in w (x ∷ items) l = (l.0, legal_in (next cluster workload w x.event) items l.1)

  legal_out : (w : World) (items : List Stamped) → AreLegalIn (stamped_regions cluster workload) w items → AreLegalFrom cluster workload w (events_of items)
  legal_out w [] l = tt
  legal_out w (x ∷ items) l = (l.0, legal_out (next cluster workload w x.event) items l.1)

  change_in : (w : World) (items : List Stamped) → AllChange cluster workload w (events_of items) → AllChangeIn (stamped_regions cluster workload) w items
  change_in w [] c = tt
  change_in w (x ∷ items) c = (c.0, change_in (next cluster workload w x.event) items c.1)

  change_out : (w : World) (items : List Stamped) → AllChangeIn (stamped_regions cluster workload) w items → AllChange cluster workload w (events_of items)
  change_out w [] c = tt
  change_out w (x ∷ items) c = (c.0, change_out (next cluster workload w x.event) items c.1)

module _ {cluster : Cluster} {workload : Workload} {all : List Stamped} {kept : List (List Stamped)} (c : IsChronicle cluster workload all kept) where
  -- what regions keep stands in the chronicle, and the other way round

  from_all : (x : Stamped) → Has all x → Has (kept_at kept (region_at x)) x
  from_all x h = subst (λ l. Has l x) (sym (c.lists (region_at x))) (has_filter (λ y. eqb (region_at y) (region_at x)) all x h (eq-eqb (region_at x) (region_at x) refl))

  in_all : (region : ℕ) (x : Stamped) → Has (kept_at kept region) x → Has all x × (eqb (region_at x) region ≡ true)
  in_all region x h = has_of_filtered (λ y. eqb (region_at y) region) all x (subst (λ l. Has l x) (c.lists region) h)

  pub are_kept : AreKept kept
  are_kept region = (all_put (λ x. region_at x ≡ region) (kept_at kept region) (λ x h. eqb-true (region_at x) region (in_all region x h).1), c.rising region)

  module _ (merged : List Stamped) (m : IsMerge kept merged) where
    pub own_order : (region : ℕ) → those_at region merged ≡ kept_at kept region
    own_order = merge_keeps kept are_kept merged m

    -- each event that takes something from region q finds it, wherever in the chronicle q is as far as before it in the merge
    module _ (before : List Stamped) (x : Stamped) (behind front rest : List Stamped) (q : ℕ) (is : merged ≡ before ++ x ∷ behind) (cut : all ≡ front ++ rest)
        (from : source_of x.event ≡ Some q) (same : those_at q front ≡ those_at q before) where
      x_in_all : Has all x
      x_in_all = (in_all (region_at x) x ((m.members x).0 (subst (λ l. Has l x) (sym is) (has_middle before x behind)))).0

      cause : IsFed cluster workload all x q
      cause = all_get (λ y. (p : ℕ) → source_of y.event ≡ Some p → IsFed cluster workload all y p) all c.caused x x_in_all q from

      rising : EachThen HasLowerStamp (those_at q front ++ those_at q rest)
      rising = subst (EachThen HasLowerStamp) (c.lists q ∙ ap (those_at q) cut ∙ filter-append (λ y. eqb (region_at y) q) front rest) (c.rising q)

      later_one : (y : Stamped) → Has rest y → region_at y ≡ q → cause.stamp < y.stamp
      later_one y h here = by (any_append (λ z. z ≡ y) before (x ∷ behind) (subst (λ l. Has l y) is in_merge))
        where
          in_merge : Has merged y
          in_merge = (m.members y).1 (from_all y (subst (λ l. Has l y) (sym cut) (any_append_right (λ z. z ≡ y) front rest h)))

          passes : eqb (region_at y) q ≡ true
          passes = eq-eqb (region_at y) q here

          by : Has before y ⊎ Has (x ∷ behind) y → cause.stamp < y.stamp
          by (inl early) =
              let first : Has (those_at q front) y = subst (λ l. Has l y) (sym same) (has_filter (λ z. eqb (region_at z) q) before y early passes) in
              let second : Has (those_at q rest) y = has_filter (λ z. eqb (region_at z) q) rest y h passes in
              let twice : y.stamp < y.stamp = each_across HasLowerStamp (those_at q front) (those_at q rest) y y rising first second in
              absurd (let n : ⊥ = omega arith in n)
          by (inr (inl e)) = subst (λ z. cause.stamp < z.stamp) e cause.lower
          by (inr (inr late)) =
              let after_x : ComesBefore x y = all_get (ComesBefore x) behind (each_append_right ComesBefore before (x ∷ behind) (subst (EachThen ComesBefore) is m.ascending)).0 y late in
              let up : x.stamp ≤ y.stamp = not_above x y after_x in
              let low : cause.stamp < x.stamp = cause.lower in
              omega arith

      fed : IsSupplied (after_all (stamped_regions cluster workload) (opening_world cluster workload) front) x.event
      fed = subst (λ w. IsSupplied w x.event) (sym (after_is cluster workload (opening_world cluster workload) front))
          (cause.supplied front rest cut (all_put (λ y. region_at y ≡ q → cause.stamp < y.stamp) rest later_one))

    rescheduling : IsRescheduling (stamped_regions cluster workload) (opening_world cluster workload) all merged
    rescheduling = record { fronts = λ q. ([], append-nil (those_at q merged) ∙ own_order q ∙ c.lists q); fed = fed }

    module _ (ok : IsValidCluster cluster) (fits : IsValidWorkload cluster workload) where
      result : Rescheduled (stamped_regions cluster workload) (opening_world cluster workload) all merged
      result = rescheduled (stamped_regions cluster workload) (stamped_local cluster ok workload fits) (opening_world cluster workload) (opening_good ok fits) all
          (legal_in cluster workload (opening_world cluster workload) all c.legal) merged rescheduling

      pub merge_legal : AreLegal cluster workload (events_of merged)
      merge_legal = legal_out cluster workload (opening_world cluster workload) merged result.legal

      pub merge_changes : AllChange cluster workload (opening_world cluster workload) (events_of merged)
      merge_changes = change_out cluster workload (opening_world cluster workload) merged (result.changing (change_in cluster workload (opening_world cluster workload) all c.changing))

      pub merge_world : world_after cluster workload (events_of merged) ≡ world_after cluster workload (events_of all)
      merge_world =
          sym (after_is cluster workload (opening_world cluster workload) merged)
          ∙ rescheduled_whole (stamped_regions cluster workload) (stamped_local cluster ok workload fits) (opening_world cluster workload) (opening_good ok fits) all
          (legal_in cluster workload (opening_world cluster workload) all c.legal) merged rescheduling (λ q. own_order q ∙ c.lists q)
          ∙ after_is cluster workload (opening_world cluster workload) all
