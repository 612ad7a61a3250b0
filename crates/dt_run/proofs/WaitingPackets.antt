-- What waits for a node before a phase: packets that the other nodes would send now, so that it may make its turn.
use Rattle.std.proofs.Common.{◌≡◌, ◌≢◌, ◌<◌, ◌≤◌, ◌+◌, ℕ, zero, suc, false, List, [], ◌∷◌}
use Rattle.std.proofs.Common.{◌++◌, length, map, get_or, slice_get, Some, Bool, refl, sym, ap, subst, ◌∙◌, inl, inr, arith}
use Rattle.std.specs.Prelude.{flat_map}
use Rattle.std.proofs.Math.Nat.{le-max_left}
use Rattle.std.proofs.lemmas.List.{length-map}
use Rattle.std.proofs.lemmas.Option.{get_or_from_slice_get, slice_get_within}
use Rattle.std.proofs.Math.ListN.{get_or-map}
use Rattle.dt_lists.specs.Lists.{AllIn, EachThen, Has}
use Rattle.dt_lists.proofs.Callers.{all_map, all_of_gets, all_put, any_append}
use Rattle.dt_events.specs.declared.Stamped.{Stamped}
use Rattle.dt_events.specs.Stamps.{events_of, last_stamp}
use Rattle.dt_packet.specs.declared.loss.Verdict.{Verdict}
use Rattle.dt_packet.specs.declared.loss.Verdict.TheVariants.{Pass, Lost, Twice}
use Rattle.dt_packet.specs.declared.packet.Packet.{Packet}
use Rattle.dt_region.specs.Region.{latest_stamp}
use Rattle.dt_ring.specs.Rings.{RingInView, RingOutView}
use Rattle.dt_cluster.specs.declared.Cluster.{Cluster}
use Rattle.dt_workload.specs.declared.Workload.{Workload}
use Rattle.dt_merge.specs.Merge.{HasLowerStamp, kept_at, those_at}
use Rattle.dt_node.specs.NodeView.{NodeView, number_of, packet_for}
use Rattle.dt_node.specs.Packets.{IsTruePacket}
use Rattle.dt_node.specs.TurnPackets.{copies_of}
use Rattle.dt_node.specs.NodeInWorld.{IsFor, NodeStands}
use Rattle.dt_run.specs.NodesStand.{AreInStep, AreNodes, LinkTells, StandsAmong}
use Rattle.dt_run.specs.NodesView.{NodesView, kept_by, link_to, no_running_node, node_in, waiting_at, waiting_between}
use Rattle.dt_run.specs.SeatsInner.{AreBeside, AreLinkedBy, AreSeated, SeatCan, SeatView, no_seat, nodes_view, places_of_link, seat_at, waits_in}
use Rattle.dt_run.proofs.Laws.{few_events}
use Rattle.dt_run.proofs.LinkNumbers.{LinkOf, link_of, link_within}
use Rattle.dt_run.proofs.SentPackets.{snapshot_true}

-- of copies each is the packet
copies_same : (verdict : Verdict) (packet p : Packet) → Has (copies_of verdict packet) p → p ≡ packet
copies_same Lost packet p h = absurd h
copies_same Pass packet p (inl e) = sym e
copies_same Pass packet p (inr h) = absurd h
copies_same Twice packet p (inl e) = sym e
copies_same Twice packet p (inr (inl e)) = sym e
copies_same Twice packet p (inr (inr h)) = absurd h

-- and there are two at most
copies_few : (verdict : Verdict) (packet : Packet) → length (copies_of verdict packet) ≤ 2
copies_few Lost packet = omega arith
copies_few Pass packet = omega arith
copies_few Twice packet = omega arith

-- what is seen of seats

pub node_is : (cluster : Cluster) (workload : Workload) (seats : List SeatView) (broken : Bool) (region : ℕ) → node_in (nodes_view cluster workload seats broken) region ≡ (seat_at seats region).node
node_is cluster workload seats broken region = get_or-map (λ (s : SeatView). s.node) seats region no_seat

pub one_for_each : {cluster : Cluster} {workload : Workload} {seats : List SeatView} {broken : Bool} → AreSeated cluster workload seats broken → length seats ≡ cluster.regions
one_for_each {cluster} {workload} {seats} a = sym (length-map seats (λ (s : SeatView). s.node)) ∙ a.nodes.many

pub seat_there : {cluster : Cluster} {workload : Workload} {seats : List SeatView} {broken : Bool} → AreSeated cluster workload seats broken → {region : ℕ} → region < cluster.regions → region < length seats
seat_there a {region} lr = subst (λ m. region < m) (sym (one_for_each a)) lr

pub region_there : {cluster : Cluster} {workload : Workload} {seats : List SeatView} {broken : Bool} → AreSeated cluster workload seats broken → {region : ℕ} → region < length seats → region < cluster.regions
region_there a {region} lt = subst (λ m. region < m) (one_for_each a) lt

pub node_at_seat : {cluster : Cluster} {workload : Workload} {seats : List SeatView} {broken : Bool} → AreSeated cluster workload seats broken
    → (region : ℕ) → node_in (nodes_view cluster workload seats broken) region ≡ (seat_at seats region).node
node_at_seat {cluster} {workload} {seats} {broken} a region = node_is cluster workload seats broken region

ins_are : (seats : List SeatView) (region : ℕ) → get_or (map (λ (s : SeatView). map waits_in s.ins) seats) region [] ≡ map waits_in (seat_at seats region).ins
ins_are seats region = get_or-map (λ (s : SeatView). map waits_in s.ins) seats region no_seat

flat_of_map : (ins : List RingInView) → flat_map (λ packets. packets) (map waits_in ins) ≡ flat_map waits_in ins
flat_of_map [] = refl
flat_of_map (i ∷ ins) = ap (λ l. i.waits ++ l) (flat_of_map ins)

pub waiting_is : (cluster : Cluster) (workload : Workload) (seats : List SeatView) (broken : Bool) (region : ℕ) → waiting_at (nodes_view cluster workload seats broken) region ≡ flat_map waits_in (seat_at seats region).ins
waiting_is cluster workload seats broken region = ap (flat_map (λ packets. packets)) (ins_are seats region) ∙ flat_of_map (seat_at seats region).ins

get_mapped : (ins : List RingInView) (link : ℕ) (e : RingInView) → link < length ins → get_or (map waits_in ins) link [] ≡ (get_or ins link e).waits
get_mapped [] link e lt = absurd (omega (arith, lt))
get_mapped (i ∷ ins) zero e lt = refl
get_mapped (i ∷ ins) (suc link) e lt = get_mapped ins link e (omega (arith, lt))

pub between_is : (cluster : Cluster) (workload : Workload) (seats : List SeatView) (broken : Bool) (source target : ℕ) (e : RingInView) → link_to target source < length (seat_at seats target).ins
    → waiting_between (nodes_view cluster workload seats broken) source target ≡ (get_or (seat_at seats target).ins (link_to target source) e).waits
between_is cluster workload seats broken source target e lt =
    ap (λ l. get_or l (link_to target source) []) (ins_are seats target) ∙ get_mapped (seat_at seats target).ins (link_to target source) e lt

-- a packet that waits waits on some link
pub on_link : (ins : List RingInView) (p : Packet) → Has (flat_map waits_in ins) p → (link : ℕ) × (link < length ins) × Has (get_or (map waits_in ins) link []) p
on_link [] p h = absurd h
on_link (i ∷ ins) p h = elim (any_append (λ q. q ≡ p) i.waits (flat_map waits_in ins) h) [
  | inl here ↦ (zero, omega arith, here)
  | inr there ↦ let r = on_link ins p there in let lt : r.0 < length ins = r.1 in (suc r.0, omega (arith, lt), r.2)
]

-- what waits on a link in step is what its source would send now
pub link_tells : (v : NodesView) (made source target : ℕ) → LinkTells v made source target → (p : Packet) → Has (waiting_between v source target) p → p ≡ packet_for (node_in v source) target
link_tells v zero source target t p h = absurd (subst (λ l. Has l p) t h)
link_tells v (suc made) source target t p h = copies_same t.verdict (packet_for (node_in v source) target) p (subst (λ l. Has l p) t.copies h)

-- and it is at most two packets
pub link_few : (v : NodesView) (made source target : ℕ) → LinkTells v made source target → length (waiting_between v source target) ≤ 2
link_few v zero source target t = subst (λ l. length l ≤ 2) (sym t) (omega arith)
link_few v (suc made) source target t = subst (λ l. length l ≤ 2) (sym t.copies) (copies_few t.verdict (packet_for (node_in v source) target))

-- a packet is what another node would send a region now
pub record IsSnapshot (v : NodesView) (region : ℕ) (p : Packet) : Type 0 where
  pub source : ℕ
  pub there : source < v.cluster.regions
  pub apart : source ≢ region
  pub is : p ≡ packet_for (node_in v source) region
  pub waits : Has (waiting_between v source region) p

-- what a node would send now is true, and so is what waits on a link
module _ {v : NodesView} (n : AreNodes v) where
  pub kept_now : (region : ℕ) → kept_at (kept_by v.nodes) region ≡ (node_in v region).site.region.events
  kept_now region = get_or-map (λ (m : NodeView). m.site.region.events) v.nodes region no_running_node

  pub rising_now : (region : ℕ) → EachThen HasLowerStamp (node_in v region).site.region.events
  rising_now region = subst (EachThen HasLowerStamp) (kept_now region) (n.chronicle.rising region)

  pub sent_true : (source target : ℕ) → source < v.cluster.regions → target < v.cluster.regions → source ≢ target → IsTruePacket v.cluster v.workload n.all (packet_for (node_in v source) target)
  sent_true source target ls lt apart =
      let f : StandsAmong v n.all source = n.stand source ls in
      snapshot_true n.all f.fits (subst (λ q. those_at q n.all ≡ (node_in v source).site.region.events) (sym f.number) (sym (n.chronicle.lists source) ∙ kept_now source)) (rising_now source) target lt
      (λ e. apart (sym f.number ∙ sym e))

  pub waiting_true : v.broken ≡ false → (source target : ℕ) → source < v.cluster.regions → target < v.cluster.regions → source ≢ target
      → AllIn (IsTruePacket v.cluster v.workload n.all) (waiting_between v source target)
  waiting_true sound source target ls lt apart =
      let step : AreInStep v = n.in_step sound in
      all_put _ (waiting_between v source target) (λ p h.
      subst (IsTruePacket v.cluster v.workload n.all) (sym (link_tells v step.made source target (step.links source target ls lt apart) p h)) (sent_true source target ls lt apart))

-- before a phase

module _ {cluster : Cluster} {workload : Workload} {seats : List SeatView} {broken : Bool} (a : AreSeated cluster workload seats broken) (sound : broken ≡ false) where
  abbrev v : NodesView
  v = nodes_view cluster workload seats broken

  abbrev n : AreNodes v
  n = a.nodes

  abbrev step : AreInStep v
  step = n.in_step sound

  abbrev linked : AreLinkedBy AreBeside seats
  linked = a.linked sound

  pub kept_is : (region : ℕ) → kept_at (kept_by v.nodes) region ≡ (node_in v region).site.region.events
  kept_is = kept_now n

  module _ {region : ℕ} (lr : region < cluster.regions) where
    -- each packet that waits for a node is what another one would send now
    pub sent_by : (p : Packet) → Has (waiting_at v region) p → IsSnapshot v region p
    sent_by p h =
        let r : (link : ℕ) × (link < length (seat_at seats region).ins) × Has (get_or (map waits_in (seat_at seats region).ins) link []) p =
        on_link (seat_at seats region).ins p (subst (λ l. Has l p) (waiting_is cluster workload seats broken region) h) in
        let ends : length (seat_at seats region).ins + 1 ≡ length seats = linked.ends.ins region (seat_there a lr) in
        let below : r.0 < length (seat_at seats region).ins = r.1 in
        let l : LinkOf cluster.regions region r.0 = link_of cluster.regions region r.0 lr (omega (arith, below, ends, one_for_each a)) in
        let here : Has (waiting_between v l.other region) p = subst (λ k. Has (get_or (get_or v.waiting region []) k []) p) (sym l.is) (subst (λ k. Has (get_or k r.0 []) p) (sym (ins_are seats region)) r.2) in
        record {
          source = l.other;
          there = l.there;
          apart = l.apart;
          is = link_tells v step.made l.other region (step.links l.other region l.there lr l.apart) p here;
          waits = here;
        }

    true_one : (p : Packet) → IsSnapshot v region p → IsTruePacket cluster workload n.all p
    true_one p s = subst (IsTruePacket cluster workload n.all) (sym s.is) (sent_true n s.source region s.there lr s.apart)

    for_one : (p : Packet) → IsSnapshot v region p → IsFor cluster.regions (number_of (node_in v region)) p
    for_one p s =
        let f : StandsAmong v n.all s.source = n.stand s.source s.there in
        subst (IsFor cluster.regions (number_of (node_in v region))) (sym s.is) (record {
          target = sym (n.stand region lr).number;
          other = λ e. s.apart (sym f.number ∙ e ∙ (n.stand region lr).number);
          source = subst (λ q. q < cluster.regions) (sym f.number) s.there;
        })

    stamp_one : (p : Packet) → IsSnapshot v region p → p.stamp ≤ length n.all
    stamp_one p s =
        let f : StandsAmong v n.all s.source = n.stand s.source s.there in
        let e : p.stamp ≡ last_stamp (node_in v s.source).site.region.events = ap (λ (q : Packet). q.stamp) s.is in
        let low : latest_stamp (node_in v s.source).site.region ≤ length n.all = f.stamps in
        let up : last_stamp (node_in v s.source).site.region.events ≤ latest_stamp (node_in v s.source).site.region =
        le-max_left (last_stamp (node_in v s.source).site.region.events) (node_in v s.source).site.region.heard in
        omega (arith, e, low, up)

    pub trues : AllIn (IsTruePacket cluster workload n.all) (waiting_at v region)
    trues = all_put _ (waiting_at v region) (λ p h. true_one p (sent_by p h))

    pub addressed : AllIn (IsFor cluster.regions (number_of (node_in v region))) (waiting_at v region)
    addressed = all_put _ (waiting_at v region) (λ p h. for_one p (sent_by p h))

    pub stamps : AllIn (λ p. p.stamp ≤ length n.all) (waiting_at v region)
    stamps = all_put _ (waiting_at v region) (λ p h. stamp_one p (sent_by p h))

    few_all : length n.all ≤ 24640000
    few_all = let e : length (events_of n.all) ≡ length n.all = length-map n.all (λ (x : Stamped). x.event) in let l : length (events_of n.all) ≤ 24640000 = few_events (n.stand region lr).fits in omega (arith, e, l)

    pub stands : NodeStands cluster.procs (waiting_at v region) (node_in v region)
    stands = record {
      cluster = cluster;
      workload = workload;
      all = n.all;
      procs_are = refl;
      fits = (n.stand region lr).fits;
      addressed = addressed;
      true_packets = trues;
      heard = let l : latest_stamp (node_in v region).site.region ≤ length n.all = (n.stand region lr).stamps in omega (arith, l, few_all);
      packet_stamps = all_map _ _ (waiting_at v region) (λ p l. omega (arith, l, few_all)) stamps;
    }

    -- so it may make its turn
    pub seat_can : SeatCan cluster.procs (seat_at seats region)
    unfolding places_of_link
    seat_can = record {
      stands = subst (λ m. NodeStands cluster.procs (flat_map waits_in (seat_at seats region).ins) m) (node_at_seat a region)
          (subst (λ l. NodeStands cluster.procs l (node_in v region)) (waiting_is cluster workload seats broken region) stands);
      ends = linked.ends.outs region (seat_there a lr) ∙ one_for_each a ∙ subst (λ (m : NodeView). cluster.regions ≡ m.site.region.state.regions) (node_at_seat a region) (sym (n.stand region lr).fits.site.many);
      free = all_of_gets (λ (o : RingOutView). 2 ≤ o.free) (seat_at seats region).outs free_one;
      turns = subst (λ (m : NodeView). m.turns ≡ length (seat_at seats region).marks) (node_at_seat a region)
          ((step.each region lr).turns ∙ sym ((step.each region lr).marks.many) ∙ ap length (get_or-map (λ (s : SeatView). s.marks) seats region no_seat));
    }
      where
        free_one : (link : ℕ) (o : RingOutView) → slice_get (seat_at seats region).outs link ≡ Some o → 2 ≤ o.free
        free_one link o e =
            let ends : length (seat_at seats region).outs + 1 ≡ length seats = linked.ends.outs region (seat_there a lr) in
            let below : link < length (seat_at seats region).outs = slice_get_within (seat_at seats region).outs link o e in
            let l : LinkOf cluster.regions region link = link_of cluster.regions region link lr (omega (arith, below, ends, one_for_each a)) in
            by l (get_or_from_slice_get (seat_at seats region).outs link o o e)
          where
            by : LinkOf cluster.regions region link → get_or (seat_at seats region).outs link o ≡ o → 2 ≤ o.free
            by l is =
                let there : l.other < length seats = seat_there a l.there in
                let ins : length (seat_at seats l.other).ins + 1 ≡ length seats = linked.ends.ins l.other there in
                let within : link_to l.other region + 1 < cluster.regions = link_within cluster.regions l.other region l.there lr (λ e. l.apart (sym e)) in
                by_inlet (seat_at seats l.other).ins (link_to l.other region) (omega (arith, ins, within, one_for_each a)) (λ e. subst (λ x. AreBeside x
                (get_or (seat_at seats l.other).ins (link_to l.other region) e)) (ap (λ k. get_or (seat_at seats region).outs k o) l.is ∙ is)
                (linked.each region l.other (seat_there a lr) there (λ q. l.apart (sym q)) o e)) (λ e lt. subst (λ k. length k ≤ 2)
                (between_is cluster workload seats broken region l.other e lt) (link_few v step.made region l.other (step.links region l.other lr l.there (λ q. l.apart (sym q)))))
              where
                by_inlet : (ins : List RingInView) (k : ℕ) → k < length ins → ((e : RingInView) → AreBeside o (get_or ins k e)) → ((e : RingInView) → k < length ins → length (get_or ins k e).waits ≤ 2) → 2 ≤ o.free
                by_inlet [] k lt b w = absurd (omega (arith, lt))
                by_inlet (i ∷ ins) k lt b w = enough (get_or (i ∷ ins) k i) (b i) (w i lt)
                  where
                    enough : (inlet : RingInView) → AreBeside o inlet → length inlet.waits ≤ 2 → 2 ≤ o.free
                    enough inlet b w = let f : o.free + length inlet.waits ≡ o.places = b.free in let p : o.places ≡ 8 = b.places in omega (arith, f, p, w)
