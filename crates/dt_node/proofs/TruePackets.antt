-- What packets say stays so while the node that they wait for makes events, and so does all that a turn's calls rest on.
use Rattle.std.proofs.Common.{◌≡◌, ◌≢◌, ◌<◌, ◌≤◌, ◌+◌, ◌^◌, ℕ, List, [], ◌∷◌, ◌++◌, length, map, drop, take, get_or, set, Some, sym, ap, subst, ◌∙◌, append-nil, arith}
use Rattle.std.specs.Prelude.{slice_index}
use Rattle.std.proofs.lemmas.List.{map-append, length-append}
use Rattle.dt_lists.specs.Lists.{AllIn}
use Rattle.dt_lists.proofs.Callers.{all_append, all_append_left, all_append_right, all_get, all_image, all_map, all_put}
use Rattle.dt_access.specs.declared.TxnId.{TxnId}
use Rattle.dt_events.specs.declared.Event.{Event}
use Rattle.dt_events.specs.Events.{region_of}
use Rattle.dt_events.specs.Stamps.{events_of}
use Rattle.dt_sched.specs.Views.{log_at}
use Rattle.dt_proc.specs.Tree.{ProcTree}
use Rattle.dt_txn.specs.declared.Txn.{Txn}
use Rattle.dt_txn.specs.Replica.{taken_from}
use Rattle.dt_region.specs.Region.{latest_stamp}
use Rattle.dt_packet.specs.declared.packet.Packet.{Packet}
use Rattle.dt_cluster.specs.declared.Cluster.{Cluster}
use Rattle.dt_workload.specs.declared.Workload.{Workload}
use Rattle.dt_session.specs.World.{World, Node, node_at, opening_world, received_of, taken_of, txn_of}
use Rattle.dt_session.specs.Run.{AreLegalFrom, world_after, world_from}
use Rattle.dt_agreement.proofs.Callers.{world_from_append}
use Rattle.dt_merge.proofs.Callers.{frame}
use Rattle.dt_site.specs.StandsIn.{IsReached}
use Rattle.dt_site.proofs.Callers.{after_more, has_received, run_more, txns_stay}
use Rattle.dt_node.specs.NodeView.{NodeView, new_items, number_of}
use Rattle.dt_node.specs.Packets.{IsToldOf, IsTruePacket}
use Rattle.dt_node.specs.NodeInWorld.{AreTold, IsFor, NodeFits, NodeStands}
use Rattle.dt_node.specs.Turn.{GoesAfter, MovesOn, greatest}
use Rattle.dt_node.specs.TurnInner.{BeginsWithin, CanGo, CanTake}
use Rattle.dt_node.proofs.EventsGoOn.{reached}
use Rattle.dt_node.proofs.Greatest.{greatest_below}

-- where the source's node is the same, and no transaction is lost, all that is said of it is so
module _ {w v : World} {p : Packet} (same : node_at v p.source ≡ node_at w p.source) (stay : (id : TxnId) (txn : Txn) → txn_of w id ≡ Some txn → txn_of v id ≡ Some txn) (t : IsToldOf w p) where
  pub told_still : IsToldOf v p
  told_still = record {
    asked_to = subst (λ (n : Node). p.asked_at + length p.asked ≤ length (get_or n.here.asked p.target [])) (sym same) t.asked_to;
    asked = subst (λ (n : Node). map (λ txn. txn.id) p.asked ≡ drop p.asked_at (take (p.asked_at + length p.asked) (get_or n.here.asked p.target []))) (sym same) t.asked;
    asked_txns = all_map _ _ p.asked (λ txn e. stay txn.id txn e) t.asked_txns;
    entries_to = subst (λ (n : Node). p.log_at + length p.entries ≤ length n.log) (sym same) t.entries_to;
    entries = subst (λ (n : Node). map (λ e. e.part) p.entries ≡ drop p.log_at (take (p.log_at + length p.entries) n.log)) (sym same) t.entries;
    entry_txns = all_map _ _ p.entries (λ e f. stay e.part.id e.txn f) t.entry_txns;
    took = subst (λ (n : Node). p.took ≤ taken_from n.here p.target) (sym same) t.took;
    received = subst (λ (n : Node). p.received ≤ slice_index (set n.received p.source (length n.log)) p.target) (sym same) t.received;
  }

module _ {cluster : Cluster} {workload : Workload} {me : ℕ} {p : Packet} (other : p.source ≢ me) where
  pub told_on : (new : List Event) {w : World} → IsReached cluster workload w → AreLegalFrom cluster workload w new → AllIn (λ e. region_of e ≡ me) new → IsToldOf w p
      → IsToldOf (world_from cluster workload w new) p
  told_on [] k legal mine t = t
  told_on (e ∷ new) {w} k legal mine t =
      told_on new (record { events = k.events ++ e ∷ []; run = run_more k e legal.0; after = after_more k e }) legal.1 mine.1
      (told_still (ap (λ o. o.node) (frame cluster workload w p.source e (λ is. other (sym is ∙ mine.0)))) (λ id txn f. txns_stay k e legal.0 id txn f) t)

-- what packets say stays so along a way of the node
pub told_along : {cluster : Cluster} {workload : Workload} {events : List Event} {packets : List Packet} {a b : NodeView} (new : List Event) → NodeFits cluster workload events a
    → AreLegalFrom cluster workload (world_after cluster workload events) new
    → AllIn (λ e. region_of e ≡ number_of a) new → number_of b ≡ number_of a → AreTold cluster workload events packets a → AreTold cluster workload (events ++ new) packets b
told_along {cluster} {workload} {events} {packets} {a} {b} new f legal mine number t = record {
  addressed = subst (λ n. AllIn (IsFor cluster.regions n) packets) (sym number) t.addressed;
  told = all_put _ packets (λ p h. subst (λ w. IsToldOf w p) (sym later) (told_on (all_get _ packets t.addressed p h).other new (reached f) legal mine (all_get _ packets t.told p h)));
}
  where
    later : world_after cluster workload (events ++ new) ≡ world_from cluster workload (world_after cluster workload events) new
    later = world_from_append cluster workload (opening_world cluster workload) events new

-- what all packets say, fewer packets say too

pub told_first : {cluster : Cluster} {workload : Workload} {events : List Event} (xs ys : List Packet) {a : NodeView} → AreTold cluster workload events (xs ++ ys) a → AreTold cluster workload events xs a
told_first xs ys t = record { addressed = all_append_left _ xs ys t.addressed; told = all_append_left _ xs ys t.told }

pub told_rest : {cluster : Cluster} {workload : Workload} {events : List Event} (xs ys : List Packet) {a : NodeView} → AreTold cluster workload events (xs ++ ys) a → AreTold cluster workload events ys a
told_rest xs ys t = record { addressed = all_append_right _ xs ys t.addressed; told = all_append_right _ xs ys t.told }

-- a turn begins where it may
module _ {procs : List ProcTree} {packets : List Packet} {n : NodeView} (s : NodeStands procs packets n) where
  begins_within : (p : Packet) → IsFor s.cluster.regions (number_of n) p → IsTruePacket s.cluster s.workload s.all p → BeginsWithin n p
  begins_within p to t =
      let w : World = world_after s.cluster s.workload (events_of s.all) in
      let taken : taken_of w (number_of n) p.source ≡ taken_from n.site.region.state.here p.source = ap (λ x. taken_from x.here p.source) (sym s.fits.site.node) in
      let got : length (log_at n.site.region.state.logs p.source) ≡ received_of w (number_of n) p.source = has_received (reached s.fits) s.fits.number s.fits.site to.source in
      let a : p.asked_at ≤ taken_of w (number_of n) p.source = subst (λ q. p.asked_at ≤ taken_of w q p.source) to.target t.asked_from in
      let b : p.log_at ≤ received_of w (number_of n) p.source = subst (λ q. p.log_at ≤ received_of w q p.source) to.target t.entries_from in
      record { asked = omega (arith, taken, a); entries = omega (arith, got, b) }

  pub may_begin : CanGo procs packets n
  may_begin = record {
    cluster = s.cluster;
    workload = s.workload;
    all = s.all;
    procs_are = s.procs_are;
    fits = s.fits;
    told = record { addressed = s.addressed; told = all_map _ _ packets (λ p t. t.told s.all [] (sym (append-nil s.all)) tt) s.true_packets };
    begins = all_put _ packets (λ p h. begins_within p (all_get _ packets s.addressed p h) (all_get _ packets s.true_packets p h));
    packet_stamps = s.packet_stamps;
    low = let h : latest_stamp n.site.region < 2 ^ 60 = s.heard in omega (arith, h);
  }

-- and goes on where it may, with what is left of the packets
module _ {procs : List ProcTree} (xs ys : List Packet) {a b : NodeView} (c : CanGo procs (xs ++ ys) a) (m : MovesOn procs xs a b) where
  new_events : List Event
  new_events = events_of (new_items a b)

  all_events : events_of (c.all ++ new_items a b) ≡ events_of c.all ++ new_events
  unfolding new_events
  all_events = map-append (λ x. x.event) c.all (new_items a b)

  goes : GoesAfter c.cluster c.workload (events_of c.all) new_events b
  unfolding new_events
  goes = m.gone.goes c.cluster c.workload (events_of c.all) c.procs_are c.fits (told_first xs ys c.told)

  own_events : AllIn (λ e. region_of e ≡ number_of a) new_events
  unfolding new_events
  own_events = all_image _ (λ x. x.event) (new_items a b) m.gone.mine

  still_within : (p : Packet) → BeginsWithin a p → BeginsWithin b p
  still_within p f =
      let one : taken_from a.site.region.state.here p.source ≤ taken_from b.site.region.state.here p.source = m.gone.taken p.source in
      let two : length (log_at a.site.region.state.logs p.source) ≤ length (log_at b.site.region.state.logs p.source) = m.gone.logs p.source in
      let here : p.asked_at ≤ taken_from a.site.region.state.here p.source = f.asked in
      let there : p.log_at ≤ length (log_at a.site.region.state.logs p.source) = f.entries in
      record { asked = omega (arith, one, here); entries = omega (arith, two, there) }

  pub can_on : CanGo procs ys b
  can_on = record {
    cluster = c.cluster;
    workload = c.workload;
    all = c.all ++ new_items a b;
    procs_are = c.procs_are;
    fits = subst (λ l. NodeFits c.cluster c.workload l b) (sym all_events) goes.fits;
    told = subst (λ l. AreTold c.cluster c.workload l ys b) (sym all_events) (told_along new_events c.fits goes.legal own_events m.gone.number (told_rest xs ys c.told));
    begins = all_map _ _ ys still_within (all_append_right _ xs ys c.begins);
    packet_stamps = all_append_right _ xs ys c.packet_stamps;
    low = low_then;
  }
    where
      low_then : latest_stamp b.site.region ≤ 2 ^ 60 + length (c.all ++ new_items a b)
      low_then =
          let before : latest_stamp a.site.region ≤ 2 ^ 60 + length c.all = c.low in
          let all : AllIn (λ x. x ≤ 2 ^ 60 + length c.all) (map (λ p. p.stamp) xs) =
          all_image _ (λ p. p.stamp) xs (all_map _ _ xs (λ p lt. omega (arith, lt)) (all_append_left _ xs ys c.packet_stamps)) in
          let below : greatest (latest_stamp a.site.region) (map (λ p. p.stamp) xs) ≤ 2 ^ 60 + length c.all =
          greatest_below (latest_stamp a.site.region) (2 ^ 60 + length c.all) (map (λ p. p.stamp) xs) before all in
          let up : latest_stamp b.site.region ≤ greatest (latest_stamp a.site.region) (map (λ p. p.stamp) xs) + length (new_items a b) = m.stamps.low in
          omega (arith, up, below, length-append c.all (new_items a b))

pub take_on : (xs ys : List Packet) {a b : NodeView} → CanTake (xs ++ ys) a → ((procs : List ProcTree) → MovesOn procs xs a b) → CanTake ys b
take_on xs ys c m = record { procs = c.procs; can = can_on xs ys c.can (m c.procs) }

can_twice : {procs : List ProcTree} (xs : List Packet) {a : NodeView} → CanGo procs xs a → CanGo procs (xs ++ xs) a
can_twice xs c = record {
  cluster = c.cluster;
  workload = c.workload;
  all = c.all;
  procs_are = c.procs_are;
  fits = c.fits;
  told = record { addressed = all_append _ xs xs c.told.addressed c.told.addressed; told = all_append _ xs xs c.told.told c.told.told };
  begins = all_append _ xs xs c.begins c.begins;
  packet_stamps = all_append _ xs xs c.packet_stamps c.packet_stamps;
  low = c.low;
}

-- the packets that were used may be used again
pub can_again : (xs : List Packet) {a b : NodeView} → CanTake xs a → ((procs : List ProcTree) → MovesOn procs xs a b) → CanTake xs b
can_again xs {a} c m = take_on xs xs (record { procs = c.procs; can = can_twice xs c.can }) m
