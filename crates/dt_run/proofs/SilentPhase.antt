-- A silent phase changes nothing but what nodes know: each node stands in the world in which it stood, what it knew exactly it
-- still knows so, and it knows exactly what the packets that waited said.
use Rattle.std.proofs.Common.{◌≡◌, ◌≢◌, ◌<◌, ◌≤◌, ◌+◌, ◌-◌, ℕ, zero, suc, eqb, List, [], ◌∷◌, ◌++◌, length, map, max, get_or, drop, min, refl, sym, ap, subst, ◌∙◌, inl, inr}
use Rattle.std.proofs.Common.{arith, append-nil, eq-eqb}
use Rattle.std.specs.Prelude.{flat_map}
use Rattle.std.proofs.lemmas.List.{drop_all, length-drop, length-take}
use Rattle.std.proofs.Math.ListN.{get_or-map}
use Rattle.dt_lists.specs.Lists.{EachThen, Has}
use Rattle.dt_lists.proofs.Callers.{all_get, any_append_left, any_append_right, has_filter, has_map}
use Rattle.dt_access.specs.declared.Part.{Part}
use Rattle.dt_access.specs.declared.TxnId.{TxnId}
use Rattle.dt_events.specs.Stamps.{events_of}
use Rattle.dt_sched.specs.Views.{log_at}
use Rattle.dt_txn.specs.Replica.{Replica, taken_from}
use Rattle.dt_packet.specs.declared.packet.Packet.{Packet}
use Rattle.dt_packet.specs.declared.loss.Verdict.{Verdict}
use Rattle.dt_packet.specs.declared.loss.Verdict.TheVariants.{Pass, Lost, Twice}
use Rattle.dt_packet.specs.Loss.{IsVerdict}
use Rattle.dt_cluster.specs.declared.Cluster.{Cluster}
use Rattle.dt_session.specs.World.{Node, World, node_at, received_of, taken_of}
use Rattle.dt_session.specs.Run.{world_after}
use Rattle.dt_site.specs.Site.{node_of}
use Rattle.dt_merge.specs.Merge.{HasLowerStamp, those_at}
use Rattle.dt_node.specs.NodeView.{NodeView, most_items, new_items, number_of, packet_for, stretch_from}
use Rattle.dt_node.specs.TurnPackets.{copies_of}
use Rattle.dt_node.specs.NodeInWorld.{AreTold, NodeFits}
use Rattle.dt_node.specs.Turn.{HasHeard, IsTaken, greatest, those_from}
use Rattle.dt_run.specs.Marks.{kept_by_region, plan_of}
use Rattle.dt_run.specs.NodesStand.{AreNodes, IsOnLink}
use Rattle.dt_run.specs.NodesView.{NodesView, link_to, no_running_node, node_in, waiting_at, waiting_between}
use Rattle.dt_run.specs.Phase.{IsPhase, TurnsWhole}
use Rattle.dt_run.specs.Silence.{HasArrived, IsSilent, KnowsExactly}
use Rattle.dt_run.proofs.Laws.{above_greatest}
use Rattle.dt_run.proofs.TurnsInOrder.{goes, received_here, taken_here}
use Rattle.dt_run.proofs.SentPackets.{asked_long, entries_long, first_asked, first_entry}

-- the greatest of numbers is above each of them

above_each : (n : ℕ) (ms : List ℕ) (m : ℕ) → Has ms m → m ≤ greatest n ms
above_each n [] m h = absurd h
above_each n (x ∷ ms) m (inl e) = let later : max n x ≤ greatest (max n x) ms = above_greatest (max n x) ms in omega (arith, later, e)
above_each n (x ∷ ms) m (inr h) = above_each (max n x) ms m h

-- what waits on a link waits for its target
on_links : (links : List (List Packet)) (link : ℕ) (p : Packet) → Has (get_or links link []) p → Has (flat_map (λ packets. packets) links) p
on_links [] link p h = absurd h
on_links (l ∷ links) zero p h = any_append_left (λ q. q ≡ p) l (flat_map (λ packets. packets) links) h
on_links (l ∷ links) (suc link) p h = any_append_right (λ q. q ≡ p) l (flat_map (λ packets. packets) links) (on_links links link p h)

-- a packet that was not lost waits
pub is_put : (cluster : Cluster) (number : ℕ) (packet : Packet) (waiting : List Packet) → IsOnLink cluster number packet waiting → ¬ (IsVerdict (plan_of cluster) number Lost) → Has waiting packet
is_put cluster number packet waiting w put = subst (λ l. Has l packet) (sym w.copies) (by w.verdict w.is)
  where
    by : (verdict : Verdict) → IsVerdict (plan_of cluster) number verdict → Has (copies_of verdict packet) packet
    by Lost is = absurd (put is)
    by Pass is = inl refl
    by Twice is = inl refl

module _ {before after : NodesView} (n : AreNodes before)
    (told : (region : ℕ) → region < before.cluster.regions → AreTold before.cluster before.workload (events_of n.all) (waiting_at before region) (node_in before region))
    (phase : IsPhase before after) (silent : IsSilent before after) where
  abbrev w : World
  w = world_after before.cluster before.workload (events_of n.all)

  abbrev b : ℕ → NodeView
  b region = node_in before region

  abbrev a : ℕ → NodeView
  a region = node_in after region

  fits : (region : ℕ) → region < before.cluster.regions → NodeFits before.cluster before.workload (events_of n.all) (b region)
  fits region lr = (n.stand region lr).fits

  number : (region : ℕ) → region < before.cluster.regions → number_of (b region) ≡ region
  number region lr = (n.stand region lr).number

  pub number_now : (region : ℕ) → region < before.cluster.regions → number_of (a region) ≡ region
  number_now region lr = (phase.turns region lr).gone.number ∙ number region lr

  pub none_new : (region : ℕ) → region < before.cluster.regions → new_items (b region) (a region) ≡ []
  none_new region lr =
      let e : length (kept_by_region after region) ≡ length (kept_by_region before region) = ap length (silent.each region lr) in
      drop_all (length (b region).site.region.events) (a region).site.region.events (omega (arith, e))

  pub fits_now : (region : ℕ) → region < before.cluster.regions → NodeFits before.cluster before.workload (events_of n.all) (a region)
  fits_now region lr =
      subst (λ l. NodeFits before.cluster before.workload l (a region)) (append-nil (events_of n.all))
      (subst (λ l. NodeFits before.cluster before.workload (events_of n.all ++ events_of l) (a region)) (none_new region lr) (goes (fits region lr) (told region lr) (phase.turns region lr)).fits)

  -- what a node holds stays

  node_same : (region : ℕ) → region < before.cluster.regions → node_of (a region).site ≡ node_of (b region).site
  node_same region lr = (fits_now region lr).site.node ∙ ap (node_at w) (phase.turns region lr).gone.number ∙ sym (fits region lr).site.node

  pub here_same : (region : ℕ) → region < before.cluster.regions → (a region).site.region.state.here ≡ (b region).site.region.state.here
  here_same region lr = ap (λ (x : Node). x.here) (node_same region lr)

  pub log_same : (region home : ℕ) → region < before.cluster.regions → home < before.cluster.regions → length (log_at (a region).site.region.state.logs home) ≡ length (log_at (b region).site.region.state.logs home)
  log_same region home lr lh =
      sym (received_here (fits_now region lr) home lh) ∙ ap (λ q. received_of w q home) (phase.turns region lr).gone.number ∙ received_here (fits region lr) home lh

  -- a node knows no more than is so, so it knows exactly what it knows to be no less

  module _ (region other : ℕ) (lr : region < before.cluster.regions) (lo : other < before.cluster.regions) (apart : region ≢ other) where
    apart_now : other ≢ number_of (a region)
    apart_now e = apart (sym (number_now region lr) ∙ sym e)

    took_is : taken_of w other (number_of (a region)) ≡ taken_from (a other).site.region.state.here region
    took_is =
        subst (λ q. taken_of w q (number_of (a region)) ≡ taken_from (a other).site.region.state.here region) (number_now other lo)
        (subst (λ q. taken_of w (number_of (a other)) q ≡ taken_from (a other).site.region.state.here region) (sym (number_now region lr)) (taken_here (fits_now other lo) region))

    received_is : received_of w other (number_of (a region)) ≡ length (log_at (a other).site.region.state.logs region)
    received_is =
        subst (λ q. received_of w q (number_of (a region)) ≡ length (log_at (a other).site.region.state.logs region)) (number_now other lo)
        (subst (λ q. received_of w (number_of (a other)) q ≡ length (log_at (a other).site.region.state.logs region)) (sym (number_now region lr)) (received_here (fits_now other lo) region lr))

    exact_of : taken_from (a other).site.region.state.here region ≤ get_or (a region).took other 0 → length (log_at (a other).site.region.state.logs region) ≤ get_or (a region).received other 0
        → KnowsExactly after region other
    exact_of least_took least_received = record {
      took = let u : get_or (a region).took other 0 ≤ taken_of w other (number_of (a region)) = ((fits_now region lr).knows other apart_now).took in omega (arith, u, took_is, least_took);
      received = let u : get_or (a region).received other 0 ≤ received_of w other (number_of (a region)) = ((fits_now region lr).knows other apart_now).received in omega (arith, u, received_is, least_received);
    }

    -- what it heard
    module _ (whole : TurnsWhole before after region) where
      heard : HasHeard (waiting_at before region) (b region) (a region) other
      heard = whole.taken.heard other (subst (λ m. other < m) (sym (fits region lr).took) lo) (subst (λ m. other < m) (sym (fits region lr).received) lo)

      abbrev from_other : List Packet
      from_other = those_from other (waiting_at before region)

      pub still_exact : KnowsExactly before region other → KnowsExactly after region other
      still_exact k =
          let t : get_or (a region).took other 0 ≡ greatest (get_or (b region).took other 0) (map (λ (p : Packet). p.took) from_other) = heard.took in
          let r : get_or (a region).received other 0 ≡ greatest (get_or (b region).received other 0) (map (λ (p : Packet). p.received) from_other) = heard.received in
          let u : get_or (b region).took other 0 ≤ greatest (get_or (b region).took other 0) (map (λ (p : Packet). p.took) from_other) = above_greatest (get_or (b region).took other 0) (map (λ (p : Packet). p.took) from_other) in
          let v : get_or (b region).received other 0 ≤ greatest (get_or (b region).received other 0) (map (λ (p : Packet). p.received) from_other) =
          above_greatest (get_or (b region).received other 0) (map (λ (p : Packet). p.received) from_other) in
          let x = k.took in let y = k.received in
          let p : taken_from (a other).site.region.state.here region ≡ taken_from (b other).site.region.state.here region = ap (λ (s : Replica). taken_from s region) (here_same other lo) in
          let q : length (log_at (a other).site.region.state.logs region) ≡ length (log_at (b other).site.region.state.logs region) = log_same other region lo lr in
          exact_of (omega (arith, t, u, x, p)) (omega (arith, r, v, y, q))

      pub told_exact : Has (waiting_between before other region) (packet_for (b other) region) → KnowsExactly after region other
      told_exact h =
          let t : get_or (a region).took other 0 ≡ greatest (get_or (b region).took other 0) (map (λ (p : Packet). p.took) from_other) = heard.took in
          let r : get_or (a region).received other 0 ≡ greatest (get_or (b region).received other 0) (map (λ (p : Packet). p.received) from_other) = heard.received in
          let waits : Has (waiting_at before region) (packet_for (b other) region) = on_links _ (link_to region other) (packet_for (b other) region) h in
          let its : Has from_other (packet_for (b other) region) = has_filter (λ (p : Packet). eqb p.source other) (waiting_at before region) (packet_for (b other) region) waits (eq-eqb (number_of (b other)) other (number other lo)) in
          let u : taken_from (b other).site.region.state.here region ≤ greatest (get_or (b region).took other 0) (map (λ (p : Packet). p.took) from_other) =
          above_each (get_or (b region).took other 0) (map (λ (p : Packet). p.took) from_other) _ (has_map (λ (p : Packet). p.took) from_other (packet_for (b other) region) its) in
          let v : length (log_at (b other).site.region.state.logs region) ≤ greatest (get_or (b region).received other 0) (map (λ (p : Packet). p.received) from_other) =
          above_each (get_or (b region).received other 0) (map (λ (p : Packet). p.received) from_other) _ (has_map (λ (p : Packet). p.received) from_other (packet_for (b other) region) its) in
          let p : taken_from (a other).site.region.state.here region ≡ taken_from (b other).site.region.state.here region = ap (λ (s : Replica). taken_from s region) (here_same other lo) in
          let q : length (log_at (a other).site.region.state.logs region) ≡ length (log_at (b other).site.region.state.logs region) = log_same other region lo lr in
          exact_of (omega (arith, t, u, p)) (omega (arith, r, v, q))

  -- where the source knew exactly how far the target had come, the packet that waited began with what was first in turn; as nothing
  -- of it was new to the target, nothing was outstanding

  module _ (source target : ℕ) (ls : source < before.cluster.regions) (lt : target < before.cluster.regions) (apart : source ≢ target) (exact : KnowsExactly before source target)
      (waits : Has (waiting_between before source target) (packet_for (b source) target)) (whole : TurnsWhole before after target) where
    kept_is : those_at (number_of (b source)) n.all ≡ (b source).site.region.events
    kept_is = subst (λ q. those_at q n.all ≡ (b source).site.region.events) (sym (number source ls))
        (sym (n.chronicle.lists source) ∙ get_or-map (λ (m : NodeView). m.site.region.events) before.nodes source no_running_node)

    rising : EachThen HasLowerStamp (b source).site.region.events
    rising = subst (EachThen HasLowerStamp) (get_or-map (λ (m : NodeView). m.site.region.events) before.nodes source no_running_node) (n.chronicle.rising source)

    other : target ≢ number_of (b source)
    other e = apart (sym (number source ls) ∙ sym e)

    abbrev p : Packet
    p = packet_for (b source) target

    abbrev asked : List TxnId
    asked = get_or (b source).site.region.state.here.asked target []

    abbrev log : List Part
    log = log_at (b source).site.region.state.logs (number_of (b source))

    taken : IsTaken (a target) p
    taken = all_get (IsTaken (a target)) (waiting_at before target) whole.taken.each p (on_links _ (link_to target source) p waits)

    long : {A : Type 0} (k : ℕ) (xs : List A) → length (stretch_from k xs) ≡ min most_items (length xs - k)
    long k xs = length-take most_items (drop k xs) ∙ ap (min most_items) (length-drop k xs)

    some_room : 1 ≤ most_items
    unfolding most_items
    some_room = omega arith

    requests_arrived : taken_from (a target).site.region.state.here source ≡ length (get_or (a source).site.region.state.here.asked target [])
    requests_arrived =
        let t : p.asked_at + length p.asked ≤ taken_from (a target).site.region.state.here (number_of (b source)) = taken.asked in
        let s : taken_from (a target).site.region.state.here (number_of (b source)) ≡ taken_from (b target).site.region.state.here source =
        ap (taken_from (a target).site.region.state.here) (number source ls) ∙ ap (λ (r : Replica). taken_from r source) (here_same target lt) in
        let k : get_or (b source).took target 0 ≡ taken_from (b target).site.region.state.here source = exact.took in
        let l : length p.asked ≡ length (stretch_from (get_or (b source).took target 0) asked) = asked_long n.all (fits source ls) kept_is rising target lt other in
        let m : length (stretch_from (get_or (b source).took target 0) asked) ≡ min most_items (length asked - get_or (b source).took target 0) = long (get_or (b source).took target 0) asked in
        let f : get_or (b source).took target 0 ≤ length asked = first_asked n.all (fits source ls) kept_is rising target lt other in
        let now : taken_from (a target).site.region.state.here source ≡ taken_from (b target).site.region.state.here source = ap (λ (r : Replica). taken_from r source) (here_same target lt) in
        let same : length (get_or (a source).site.region.state.here.asked target []) ≡ length asked = ap (λ (r : Replica). length (get_or r.asked target [])) (here_same source ls) in
        omega (arith, t, s, k, l, m, f, now, same, some_room)

    log_arrived : length (log_at (a target).site.region.state.logs source) ≡ length (log_at (a source).site.region.state.logs source)
    log_arrived =
        let t : p.log_at + length p.entries ≤ length (log_at (a target).site.region.state.logs (number_of (b source))) = taken.entries in
        let s : length (log_at (a target).site.region.state.logs (number_of (b source))) ≡ length (log_at (a target).site.region.state.logs source) = ap (λ q. length (log_at (a target).site.region.state.logs q)) (number source ls) in
        let k : get_or (b source).received target 0 ≡ length (log_at (b target).site.region.state.logs source) = exact.received in
        let l : length p.entries ≡ length (stretch_from (get_or (b source).received target 0) log) = entries_long n.all (fits source ls) kept_is rising target lt other in
        let m : length (stretch_from (get_or (b source).received target 0) log) ≡ min most_items (length log - get_or (b source).received target 0) = long (get_or (b source).received target 0) log in
        let f : get_or (b source).received target 0 ≤ length log = first_entry n.all (fits source ls) kept_is rising target lt other in
        let now : length (log_at (a target).site.region.state.logs source) ≡ length (log_at (b target).site.region.state.logs source) = log_same target source lt ls in
        let own : length log ≡ length (log_at (b source).site.region.state.logs source) = ap (λ q. length (log_at (b source).site.region.state.logs q)) (number source ls) in
        let same : length (log_at (a source).site.region.state.logs source) ≡ length (log_at (b source).site.region.state.logs source) = log_same source source ls ls in
        omega (arith, t, s, k, l, m, f, now, own, same, some_room)

    pub has_arrived : HasArrived after source target
    has_arrived = record { requests = requests_arrived; log = log_arrived }
