-- A chronicle goes on by the turns of all nodes: what they made comes behind, node by node.
use Rattle.std.proofs.Common.{◌≡◌, ◌≢◌, ◌<◌, ◌≤◌, ◌+◌, ◌⊎◌, ℕ, true, false, eqb, List, [], ◌∷◌, ◌++◌, length}
use Rattle.std.proofs.Common.{Bool, Some, None, refl, sym, ap, subst, ◌∙◌, inl, inr, arith, append-nil, append_assoc, eq-eqb, cond}
use Rattle.std.proofs.lemmas.List.{map-append}
use Rattle.dt_lists.specs.Lists.{AnyIn, Has}
use Rattle.dt_lists.proofs.Callers.{Spot, all_append_left, any_get, same_rest, spot}
use Rattle.dt_events.specs.declared.Event.{Event}
use Rattle.dt_events.specs.declared.Event.TheVariants.{Submit, Append, Deliver, Insert, Resolve, Execute, Answer}
use Rattle.dt_events.specs.declared.Stamped.{Stamped}
use Rattle.dt_events.specs.Stamps.{events_of}
use Rattle.dt_packet.specs.declared.packet.Packet.{Packet}
use Rattle.dt_cluster.specs.Valid.{IsValidCluster}
use Rattle.dt_cluster.specs.declared.Cluster.{Cluster}
use Rattle.dt_workload.specs.Valid.{IsValidWorkload}
use Rattle.dt_workload.specs.declared.Workload.{Workload}
use Rattle.dt_session.specs.World.{World, node_at, opening_world, asked_of, log_of}
use Rattle.dt_session.specs.Step.{IsLegal, next}
use Rattle.dt_session.specs.Run.{AreLegal, AreLegalFrom, world_after, world_from}
use Rattle.dt_agreement.proofs.Callers.{legal_append, world_from_append, next_keeps, ordered}
use Rattle.dt_merge.specs.Merge.{AreLater, IsFed, region_at}
use Rattle.dt_merge.specs.OwnPart.{HaveGrown, IsSupplied, source_of}
use Rattle.dt_merge.specs.WorldRegions.{HasInvariant}
use Rattle.dt_node.specs.Packets.{IsToldOf, IsTruePacket}
use Rattle.dt_node.specs.Turn.{BringsEntries, BringsRequest, IsBroughtBy}
use Rattle.dt_merge.proofs.Callers.{opening_good}
use Rattle.dt_run.proofs.Laws.{grown_refl, grown_trans, legal_grows, supply_lasts, two_fronts}

-- worlds grow by any legal events
module _ {cluster : Cluster} (ok : IsValidCluster cluster) {workload : Workload} (fits : IsValidWorkload cluster workload) where
  pub worlds_grow : (events : List Event) (w : World) → HasInvariant cluster workload w → AreLegalFrom cluster workload w events
      → HasInvariant cluster workload (world_from cluster workload w events) × HaveGrown w (world_from cluster workload w events)
  worlds_grow [] w good legal = (good, λ q. grown_refl (node_at w q))
  worlds_grow (e ∷ events) w good legal =
      let then : HasInvariant cluster workload (next cluster workload w e) = record { order = ordered good.order e; inv = next_keeps ok fits w good.order e legal.0 good.inv } in
      let rest = worlds_grow events (next cluster workload w e) then legal.1 in
      (rest.0, λ q. grown_trans (node_at w q) (node_at (next cluster workload w e) q) _ (legal_grows cluster workload w e good legal.0 q) (rest.1 q))

  pub good_after : (items : List Stamped) → AreLegal cluster workload (events_of items) → HasInvariant cluster workload (world_after cluster workload (events_of items))
  good_after items legal = (worlds_grow (events_of items) (opening_world cluster workload) (opening_good ok fits) legal).0

  -- what an event of a longer list takes is there, if it is wherever the shorter one is cut
  module _ (all more : List Stamped) (legal : AreLegal cluster workload (events_of (all ++ more))) (x : Stamped) (there : Has (all ++ more) x) (q : ℕ) (from : source_of x.event ≡ Some q)
      (stamp : ℕ) (lower : stamp < x.stamp)
      (supplied : (front rest : List Stamped) → all ≡ front ++ rest → AreLater q stamp rest → IsSupplied (world_after cluster workload (events_of front)) x.event) where
    -- it is legal somewhere
    legal_there : (u : World) × IsLegal cluster workload u x.event
    legal_there =
        let s : Spot (all ++ more) x = spot (all ++ more) x there in
        let l : AreLegal cluster workload (events_of s.front ++ x.event ∷ events_of s.rest) =
        subst (AreLegal cluster workload) (ap events_of s.is ∙ map-append (λ (y : Stamped). y.event) s.front (x ∷ s.rest)) legal in
        (_, (legal_append cluster workload (opening_world cluster workload) (events_of s.front) (x.event ∷ events_of s.rest) l).1.0)

    -- the world after the shorter list
    abbrev reached : World
    reached = world_after cluster workload (events_of all)

    at_cut : (front rest : List Stamped) → all ++ more ≡ front ++ rest → AreLater q stamp rest
        → ((m : List Stamped) × (front ≡ all ++ m)) ⊎ ((m : List Stamped) × (all ≡ front ++ m)) → IsSupplied (world_after cluster workload (events_of front)) x.event
    at_cut front rest cut later (inr (m, is)) =
        -- the cut is within the shorter list
        let tail : m ++ more ≡ rest = same_rest front (m ++ more) rest (sym (append_assoc front m more) ∙ ap (λ l. l ++ more) (sym is) ∙ cut) in
        supplied front m is (all_append_left (λ y. region_at y ≡ q → stamp < y.stamp) m more (subst (AreLater q stamp) (sym tail) later))
    at_cut front rest cut later (inl (m, is)) =
        subst (λ l. IsSupplied (world_after cluster workload (events_of l)) x.event) (sym is)
        (supply_lasts legal_there.0 reached (world_after cluster workload (events_of (all ++ m))) x.event q legal_there.1 good_w good_v from (grown q) (supplied all [] (sym (append-nil all)) tt))
      where
        legal_front : AreLegal cluster workload (events_of all ++ events_of m)
        legal_front =
            let whole : AreLegal cluster workload (events_of front ++ events_of rest) = subst (AreLegal cluster workload) (ap events_of cut ∙ map-append (λ (y : Stamped). y.event) front rest) legal in
            subst (AreLegal cluster workload) (ap events_of is ∙ map-append (λ (y : Stamped). y.event) all m)
            (legal_append cluster workload (opening_world cluster workload) (events_of front) (events_of rest) whole).0

        parts : AreLegal cluster workload (events_of all) × AreLegalFrom cluster workload reached (events_of m)
        parts = legal_append cluster workload (opening_world cluster workload) (events_of all) (events_of m) legal_front

        good_w : HasInvariant cluster workload reached
        good_w = good_after all parts.0

        v_is : world_after cluster workload (events_of (all ++ m)) ≡ world_from cluster workload reached (events_of m)
        v_is = ap (world_after cluster workload) (map-append (λ (y : Stamped). y.event) all m) ∙ world_from_append cluster workload (opening_world cluster workload) (events_of all) (events_of m)

        on : HasInvariant cluster workload (world_from cluster workload reached (events_of m)) × HaveGrown reached (world_from cluster workload reached (events_of m))
        on = worlds_grow (events_of m) reached good_w parts.1

        good_v : HasInvariant cluster workload (world_after cluster workload (events_of (all ++ m)))
        good_v = subst (HasInvariant cluster workload) (sym v_is) on.0

        grown : HaveGrown reached (world_after cluster workload (events_of (all ++ m)))
        grown = subst (HaveGrown reached) (sym v_is) on.1

    pub fed_longer : IsFed cluster workload (all ++ more) x q
    fed_longer = record { stamp = stamp; lower = lower; supplied = λ front rest cut later. at_cut front rest cut later (two_fronts all more front rest cut) }

  -- what a packet brought is there, wherever all is cut
  module _ (all : List Stamped) (p : Packet) (true_packet : IsTruePacket cluster workload all p) where
    -- an event that takes something from another region is there wherever all is cut behind what the packet reports of that region
    abbrev IsThere : Event → ℕ → ℕ → Type 0
    IsThere event q stamp =
        (p.source ≡ q) × (p.stamp < stamp) × ((front rest : List Stamped) → all ≡ front ++ rest → AreLater q p.stamp rest → IsSupplied (world_after cluster workload (events_of front)) event)

    of_another : {Claim : Type 0} (mine other q : ℕ) → cond (eqb mine other) None (Some other) ≡ Some q → (mine ≢ other → other ≡ q → Claim) → Claim
    of_another {Claim} mine other q from claim = go (eqb mine other) refl from
      where
        go : (t : Bool) → eqb mine other ≡ t → cond t None (Some other) ≡ Some q → Claim
        go true e f = cc
        go false e f = claim (λ s. let t : eqb mine other ≡ true = eq-eqb mine other s in cc) cc

    pub brought_there : (event : Event) (q stamp : ℕ) → source_of event ≡ Some q → IsBroughtBy (p ∷ []) stamp event → IsThere event q stamp
    brought_there (Append home source number) q stamp from b = of_another home source q from (λ n is. by is (b n))
      where
        by : source ≡ q → AnyIn (BringsRequest home source number stamp) (p ∷ []) → IsThere (Append home source number) q stamp
        by is (inr none) = absurd none
        by is (inl r) = (
          r.from_source ∙ is,
          r.earlier,
          λ front rest cut later.
              let front_world = world_after cluster workload (events_of front) in
              let told : IsToldOf front_world p = true_packet.told front rest cut (subst (λ s. AreLater s p.stamp rest) (sym (r.from_source ∙ is)) later) in
              let far : p.asked_at + length p.asked ≤ length (asked_of front_world p.source p.target) = told.asked_to in
              let near : number < p.asked_at + length p.asked = r.to in
              let lt : number < length (asked_of front_world p.source p.target) = omega (arith, far, near) in
              subst (λ s. number < length (asked_of front_world s home)) r.from_source
              (subst (λ t. number < length (asked_of front_world p.source t)) r.to_home lt),
        )
    brought_there (Deliver region home first last) q stamp from b = of_another region home q from (λ n is. by is (b n))
      where
        by : home ≡ q → AnyIn (BringsEntries region home first last stamp) (p ∷ []) → IsThere (Deliver region home first last) q stamp
        by is (inr none) = absurd none
        by is (inl r) = (
          r.from_home ∙ is,
          r.earlier,
          λ front rest cut later.
              let front_world = world_after cluster workload (events_of front) in
              let told : IsToldOf front_world p = true_packet.told front rest cut (subst (λ s. AreLater s p.stamp rest) (sym (r.from_home ∙ is)) later) in
              let far : p.log_at + length p.entries ≤ length (log_of front_world p.source) = told.entries_to in
              let near : last ≡ p.log_at + length p.entries = r.to in
              let le : last ≤ length (log_of front_world p.source) = omega (arith, far, near) in
              subst (λ s. last ≤ length (log_of front_world s)) r.from_home le,
        )
    brought_there (Submit region name) q stamp from b = cc
    brought_there (Insert region home) q stamp from b = cc
    brought_there (Resolve region ids) q stamp from b = cc
    brought_there (Execute region id) q stamp from b = cc
    brought_there (Answer region name) q stamp from b = cc

-- the packet that brought what an event takes, if it takes something
pub one_brought : (packets : List Packet) (event : Event) (q stamp : ℕ) → source_of event ≡ Some q → IsBroughtBy packets stamp event → (p : Packet) × Has packets p × IsBroughtBy (p ∷ []) stamp event
one_brought packets (Append home source number) q stamp from b = of_test (eqb home source) refl from
  where
    of_test : (t : Bool) → eqb home source ≡ t → cond t None (Some source) ≡ Some q → (p : Packet) × Has packets p × IsBroughtBy (p ∷ []) stamp (Append home source number)
    of_test true e f = cc
    of_test false e f =
        let n : home ≢ source = λ s. let t : eqb home source ≡ true = eq-eqb home source s in cc in
        let r = any_get (BringsRequest home source number stamp) packets (b n) in
        (r.0, r.1, λ m. inl r.2)
one_brought packets (Deliver region home first last) q stamp from b = of_test (eqb region home) refl from
  where
    of_test : (t : Bool) → eqb region home ≡ t → cond t None (Some home) ≡ Some q → (p : Packet) × Has packets p × IsBroughtBy (p ∷ []) stamp (Deliver region home first last)
    of_test true e f = cc
    of_test false e f =
        let n : region ≢ home = λ s. let t : eqb region home ≡ true = eq-eqb region home s in cc in
        let r = any_get (BringsEntries region home first last stamp) packets (b n) in
        (r.0, r.1, λ m. inl r.2)
one_brought packets (Submit region name) q stamp from b = cc
one_brought packets (Insert region home) q stamp from b = cc
one_brought packets (Resolve region ids) q stamp from b = cc
one_brought packets (Execute region id) q stamp from b = cc
one_brought packets (Answer region name) q stamp from b = cc
