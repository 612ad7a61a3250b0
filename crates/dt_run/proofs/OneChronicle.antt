-- The turns of all nodes, together: the list of all events is a chronicle again, and no stamp is above its length.
use Rattle.std.proofs.Common.{◌≡◌, ◌≢◌, ◌<◌, ◌≤◌, ◌+◌, ℕ, zero, suc, eqb, List, [], ◌∷◌, ◌++◌}
use Rattle.std.proofs.Common.{length, map, Some, refl, sym, ap, subst, ◌∙◌, inl, inr, arith, append-nil, eqb-true, eq-eqb}
use Rattle.std.proofs.lemmas.List.{length-append}
use Rattle.std.proofs.lemmas.List.Elements.{filter-append}
use Rattle.std.proofs.lemmas.Bool.{false_from_ne_true}
use Rattle.std.proofs.Math.Nat.{le-max_left}
use Rattle.dt_lists.specs.Lists.{AllIn, EachThen, Either, Has}
use Rattle.dt_lists.proofs.Callers.{all_append, all_get, all_image, all_map, all_put, any_append, any_append_left, any_append_right, each_append, either_le, either_nat, filter_none}
use Rattle.dt_events.specs.declared.Stamped.{Stamped}
use Rattle.dt_events.specs.Stamps.{events_of, last_stamp}
use Rattle.dt_packet.specs.declared.packet.Packet.{Packet}
use Rattle.dt_region.specs.Region.{latest_stamp}
use Rattle.dt_cluster.specs.Valid.{IsValidCluster}
use Rattle.dt_cluster.specs.declared.Cluster.{Cluster}
use Rattle.dt_workload.specs.Valid.{IsValidWorkload}
use Rattle.dt_workload.specs.declared.Workload.{Workload}
use Rattle.dt_merge.specs.Merge.{HasLowerStamp, IsChronicle, IsFed, kept_at, region_at, those_at}
use Rattle.dt_merge.specs.OwnPart.{source_of}
use Rattle.dt_node.specs.NodeView.{NodeView, new_items, number_of}
use Rattle.dt_node.specs.Packets.{IsTruePacket}
use Rattle.dt_node.specs.NodeInWorld.{AreTold, IsFor, NodeFits}
use Rattle.dt_node.specs.Turn.{IsBroughtBy, MovesOn, greatest}
use Rattle.dt_run.proofs.Laws.{greatest_below}
use Rattle.dt_run.proofs.ChronicleGrows.{brought_there, fed_longer, one_brought}
use Rattle.dt_run.proofs.TurnsInOrder.{SoFar, new_below, so_far}

-- where stamps rise, none is above the last
pub below_last : (items : List Stamped) → EachThen HasLowerStamp items → AllIn (λ x. x.stamp ≤ last_stamp items) items
below_last [] each = tt
below_last (x ∷ []) each = (omega arith, tt)
below_last (x ∷ y ∷ items) each =
    let rest : AllIn (λ z. z.stamp ≤ last_stamp (y ∷ items)) (y ∷ items) = below_last (y ∷ items) each.1 in
    let first : x.stamp < y.stamp = each.0.0 in
    let second : y.stamp ≤ last_stamp (y ∷ items) = rest.0 in
    (omega (arith, first, second), rest)

-- of items of one region, those of a region are all or none
pub those_same : (region : ℕ) (items : List Stamped) → AllIn (λ x. region_at x ≡ region) items → those_at region items ≡ items
those_same region [] a = refl
those_same region (x ∷ items) a = rw (eq-eqb (region_at x) region a.0) (ap (λ l. x ∷ l) (those_same region items a.1))

pub those_other : (region other : ℕ) → region ≢ other → (items : List Stamped) → AllIn (λ x. region_at x ≡ other) items → those_at region items ≡ []
those_other region other n items a = filter_none (λ x. eqb (region_at x) region) items
    (all_map _ _ items (λ x e. false_from_ne_true (eqb (region_at x) region) (λ t. n (sym (eqb-true (region_at x) region t) ∙ e))) a)

-- each node made a turn, after events of which each region has kept its own
pub record EachHasTurned (cluster : Cluster) (workload : Workload) (all : List Stamped) (kept kept' : List (List Stamped)) (node node' : ℕ → NodeView) (packets : ℕ → List Packet) : Type 0 where
  pub sound : IsValidCluster cluster
  pub fits : IsValidWorkload cluster workload
  pub chronicle : IsChronicle cluster workload all kept
  pub number : (region : ℕ) → region < cluster.regions → number_of (node region) ≡ region
  pub fit : (region : ℕ) → region < cluster.regions → NodeFits cluster workload (events_of all) (node region)
  pub addressed : (region : ℕ) → region < cluster.regions → AllIn (IsFor cluster.regions (number_of (node region))) (packets region)
  pub trues : (region : ℕ) → region < cluster.regions → AllIn (IsTruePacket cluster workload all) (packets region)
  pub turns : (region : ℕ) → region < cluster.regions → MovesOn cluster.procs (packets region) (node region) (node' region)
  pub kept_is : (region : ℕ) → region < cluster.regions → kept_at kept region ≡ (node region).site.region.events
  pub kept_none : (region : ℕ) → cluster.regions ≤ region → kept_at kept region ≡ []
  pub now_is : (region : ℕ) → region < cluster.regions → kept_at kept' region ≡ (node' region).site.region.events
  pub now_none : (region : ℕ) → cluster.regions ≤ region → kept_at kept' region ≡ []

module _ {cluster : Cluster} {workload : Workload} {all : List Stamped} {kept kept' : List (List Stamped)} {node node' : ℕ → NodeView} {packets : ℕ → List Packet}
    (turned : EachHasTurned cluster workload all kept kept' node node' packets) where
  told : (region : ℕ) → region < cluster.regions → AreTold cluster workload (events_of all) (packets region) (node region)
  told region lr = record { addressed = turned.addressed region lr; told = all_map _ _ (packets region) (λ p t. t.told all [] (sym (append-nil all)) tt) (turned.trues region lr) }

  abbrev new : ℕ → List Stamped
  new region = new_items (node region) (node' region)

  abbrev made_by : ℕ → List Stamped
  made_by n = new_below node node' n

  -- the chronicle after the turns
  abbrev pub all' : List Stamped
  all' = all ++ made_by cluster.regions

  whole : SoFar cluster workload all node node' packets cluster.regions
  whole = so_far all node node' packets turned.number turned.fit told turned.turns cluster.regions (omega arith)

  pub fits_now : (region : ℕ) → region < cluster.regions → NodeFits cluster workload (events_of all') (node' region)
  fits_now region lr = whole.turned region lr lr

  mine : (region : ℕ) → region < cluster.regions → AllIn (λ x. region_at x ≡ region) (new region)
  mine region lr = subst (λ r. AllIn (λ x. region_at x ≡ r) (new region)) (turned.number region lr) (turned.turns region lr).gone.mine

  made_above : (n : ℕ) → n ≤ cluster.regions → (region : ℕ) → n ≤ region → those_at region (made_by n) ≡ []
  made_above zero le region above = refl
  made_above (suc n) le region above =
      let n_there : n < cluster.regions = omega (arith, le) in
      let apart : region ≢ n = λ e. absurd (omega (arith, e, above)) in
      filter-append (λ x. eqb (region_at x) region) (made_by n) (new n)
      ∙ ap (λ l. l ++ those_at region (new n)) (made_above n (omega (arith, le)) region (omega (arith, above)))
      ∙ those_other region n apart (new n) (mine n n_there)

  made_below : (n : ℕ) → n ≤ cluster.regions → (region : ℕ) → region < n → those_at region (made_by n) ≡ new region
  made_below zero le region lt = absurd (omega (arith, lt))
  made_below (suc n) le region lt = by (either_nat region n) (λ l. made_below n (omega (arith, le)) region l)
    where
      n_there : n < cluster.regions
      n_there = omega (arith, le)

      split : those_at region (made_by (suc n)) ≡ those_at region (made_by n) ++ those_at region (new n)
      split = filter-append (λ x. eqb (region_at x) region) (made_by n) (new n)

      by : Either (region ≡ n) → (region < n → those_at region (made_by n) ≡ new region) → those_at region (made_by (suc n)) ≡ new region
      by (inl is) earlier =
          split ∙ ap (λ l. l ++ those_at region (new n)) (made_above n (omega (arith, le)) region (omega (arith, is)))
          ∙ subst (λ r. those_at r (new n) ≡ new r) (sym is) (those_same n (new n) (mine n n_there))
      by (inr m) earlier =
          split ∙ ap (λ l. l ++ those_at region (new n)) (earlier (omega (arith, lt, m)))
          ∙ ap (λ l. new region ++ l) (those_other region n m (new n) (mine n n_there)) ∙ append-nil (new region)

  lists : (region : ℕ) → kept_at kept' region ≡ those_at region all'
  lists region = by (either_le (suc region) cluster.regions)
    where
      split : those_at region all' ≡ those_at region all ++ those_at region (made_by cluster.regions)
      split = filter-append (λ x. eqb (region_at x) region) all (made_by cluster.regions)

      by : Either (suc region ≤ cluster.regions) → kept_at kept' region ≡ those_at region all'
      by (inl le) =
          let lr : region < cluster.regions = omega (arith, le) in
          turned.now_is region lr ∙ (turned.turns region lr).gone.grows ∙ ap (λ l. l ++ new region) (sym (turned.kept_is region lr) ∙ turned.chronicle.lists region)
          ∙ ap (λ l. those_at region all ++ l) (sym (made_below cluster.regions (omega arith) region lr)) ∙ sym split
      by (inr n) =
          let above : cluster.regions ≤ region = omega (arith, n) in
          turned.now_none region above ∙ sym (split ∙ ap (λ l. l ++ those_at region (made_by cluster.regions)) (sym (turned.chronicle.lists region) ∙ turned.kept_none region above)
          ∙ made_above cluster.regions (omega arith) region above)

  rising : (region : ℕ) → EachThen HasLowerStamp (kept_at kept' region)
  rising region = by (either_le (suc region) cluster.regions)
    where
      by : Either (suc region ≤ cluster.regions) → EachThen HasLowerStamp (kept_at kept' region)
      by (inr n) = subst (EachThen HasLowerStamp) (sym (turned.now_none region (omega (arith, n)))) tt
      by (inl le) = subst (EachThen HasLowerStamp) (sym (turned.now_is region lr ∙ (turned.turns region lr).gone.grows)) (each_append HasLowerStamp old (new region) old_rises across (turned.turns region lr).stamps.rising)
        where
          lr : region < cluster.regions
          lr = omega (arith, le)

          old : List Stamped
          old = (node region).site.region.events

          old_rises : EachThen HasLowerStamp (node region).site.region.events
          old_rises = subst (EachThen HasLowerStamp) (turned.kept_is region lr) (turned.chronicle.rising region)

          across : AllIn (λ x. AllIn (HasLowerStamp x) (new region)) (node region).site.region.events
          across = all_map _ _ (node region).site.region.events
              (λ x le. all_map _ _ (new region) (λ y lt.
              let m : last_stamp (node region).site.region.events ≤ latest_stamp (node region).site.region = le-max_left (last_stamp (node region).site.region.events) (node region).site.region.heard in
              omega (arith, le, lt, m)) (turned.turns region lr).stamps.above)
              (below_last (node region).site.region.events old_rises)

  made_has : (n : ℕ) → (x : Stamped) → Has (made_by n) x → (region : ℕ) × (region < n) × Has (new region) x
  made_has zero x h = absurd h
  made_has (suc n) x h = elim (any_append (λ y. y ≡ x) (made_by n) (new n) h) [
    | inl early ↦ let r = made_has n x early in let lt : r.0 < n = r.1 in (r.0, omega (arith, lt), r.2)
    | inr late ↦ (n, omega arith, late)
  ]

  first : NodeFits cluster workload (events_of all') (node' 0)
  first = fits_now 0 turned.sound.some

  caused : AllIn (λ x. (q : ℕ) → source_of x.event ≡ Some q → IsFed cluster workload all' x q) all'
  caused = all_append _ all (made_by cluster.regions)
      (all_put _ all (λ x h q from.
      let f : IsFed cluster workload all x q = all_get (λ y. (p : ℕ) → source_of y.event ≡ Some p → IsFed cluster workload all y p) all turned.chronicle.caused x h q from in
      fed_longer turned.sound turned.fits all (made_by cluster.regions) first.run.legal x (any_left x h) q from f.stamp f.lower f.supplied))
      (all_put _ (made_by cluster.regions) (λ x h q from. new_one x h q from))
    where
      any_left : (x : Stamped) → Has all x → Has all' x
      any_left x h = any_append_left (λ y. y ≡ x) all (made_by cluster.regions) h

      any_right : (x : Stamped) → Has (made_by cluster.regions) x → Has all' x
      any_right x h = any_append_right (λ y. y ≡ x) all (made_by cluster.regions) h

      new_one : (x : Stamped) → Has (made_by cluster.regions) x → (q : ℕ) → source_of x.event ≡ Some q → IsFed cluster workload all' x q
      new_one x h q from =
          let r : (region : ℕ) × (region < cluster.regions) × Has (new region) x = made_has cluster.regions x h in
          let b : IsBroughtBy (packets r.0) x.stamp x.event = all_get (λ y. IsBroughtBy (packets r.0) y.stamp y.event) (new r.0) (turned.turns r.0 r.1).brought.each x r.2 in
          let p : (p : Packet) × Has (packets r.0) p × IsBroughtBy (p ∷ []) x.stamp x.event = one_brought (packets r.0) x.event q x.stamp from b in
          let t = brought_there turned.sound turned.fits all p.0 (all_get (IsTruePacket cluster workload all) (packets r.0) (turned.trues r.0 r.1) p.0 p.1) x.event q x.stamp from p.2 in
          fed_longer turned.sound turned.fits all (made_by cluster.regions) first.run.legal x (any_right x h) q from p.0.stamp t.1 t.2

  pub chronicle_goes : IsChronicle cluster workload all' kept'
  chronicle_goes = record { legal = first.run.legal; changing = first.changing; lists = lists; rising = rising; caused = caused }

  -- stamps stay below the number of events

  long : (n : ℕ) (region : ℕ) → region < n → length (new region) ≤ length (made_by n)
  long zero region lt = absurd (omega (arith, lt))
  long (suc n) region lt = by (either_nat region n) (λ l. long n region l)
    where
      sum : length (made_by (suc n)) ≡ length (made_by n) + length (new n)
      sum = length-append (made_by n) (new n)

      by : Either (region ≡ n) → (region < n → length (new region) ≤ length (made_by n)) → length (new region) ≤ length (made_by (suc n))
      by (inl is) earlier = subst (λ r. length (new r) ≤ length (made_by (suc n))) (sym is) (omega (arith, sum))
      by (inr m) earlier = let l : length (new region) ≤ length (made_by n) = earlier (omega (arith, lt, m)) in omega (arith, sum, l)

  pub stamps_go : (region : ℕ) → region < cluster.regions → latest_stamp (node region).site.region ≤ length all → AllIn (λ p. p.stamp ≤ length all) (packets region)
      → latest_stamp (node' region).site.region ≤ length all'
  stamps_go region lr low few =
      let top : greatest (latest_stamp (node region).site.region) (map (λ p. p.stamp) (packets region)) ≤ length all =
      greatest_below (latest_stamp (node region).site.region) (length all) (map (λ p. p.stamp) (packets region)) low (all_image _ (λ (p : Packet). p.stamp) (packets region) few) in
      let up : latest_stamp (node' region).site.region ≤ greatest (latest_stamp (node region).site.region) (map (λ p. p.stamp) (packets region)) + length (new region) = (turned.turns region lr).stamps.low in
      omega (arith, top, up, long cluster.regions region lr, length-append all (made_by cluster.regions))
