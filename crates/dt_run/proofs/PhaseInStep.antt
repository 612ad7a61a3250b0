-- A phase that did not fail: after the turns the ends of each link are brought beside each other, and all is in step again.
use Rattle.std.proofs.Common.{◌≡◌, ◌≢◌, ◌<◌, ◌+◌, ℕ, zero, suc, false, Bool, List, [], ◌∷◌, ◌++◌, length, map, get_or, sym, ap, subst, ◌∙◌, arith}
use Rattle.std.specs.Prelude.{flat_map}
use Rattle.std.proofs.lemmas.List.{get_or-map as read_map, length-map}
use Rattle.std.proofs.Math.ListN.{get_or-map}
use Rattle.dt_lists.specs.Lists.{Pairwise}
use Rattle.dt_lists.proofs.Callers.{both_empty, pairwise_length}
use Rattle.dt_packet.specs.declared.loss.LossPlan.{LossPlan}
use Rattle.dt_packet.specs.declared.packet.Packet.{Packet}
use Rattle.dt_packet.specs.Loss.{IsVerdict}
use Rattle.dt_ring.specs.Rings.{RingInView, RingOutView, SameIn, SameOut}
use Rattle.dt_ring.proofs.Callers.{ends_stay}
use Rattle.dt_proc.specs.Tree.{ProcTree}
use Rattle.dt_cluster.specs.declared.Cluster.{Cluster}
use Rattle.dt_workload.specs.declared.Workload.{Workload}
use Rattle.dt_node.specs.NodeView.{NodeView, number_of, other_at, packet_for}
use Rattle.dt_node.specs.TurnPackets.{IsSentBy, LeavesNothingOut, copies_of, no_outlet}
use Rattle.dt_node.specs.Steps.{HasTurned}
use Rattle.dt_node.specs.Turn.{HasTaken, IsSettled, MovesOn}
use Rattle.dt_run.specs.LinksInner.{BesideSoFar, LinkGoes, in_at, out_at}
use Rattle.dt_run.specs.Marks.{plan_of}
use Rattle.dt_run.specs.NodesStand.{IsOnLink}
use Rattle.dt_run.specs.NodesView.{NodesView, link_to, marks_at, node_in, waiting_at, waiting_between}
use Rattle.dt_run.specs.Phase.{EndsInStep, TurnsWhole}
use Rattle.dt_run.specs.SeatsInner.{EndsAreApart, AreBeside, AreLinkedBy, AreSeated, EachGoes, SeatTurned, SeatView, no_seat, nodes_view, seat_at, seen_out, waits_in}
use Rattle.dt_run.proofs.NodesAfterTurns.{EachTurns, stand_now}
use Rattle.dt_run.proofs.LinkNumbers.{link_within, other_of_link}
use Rattle.dt_run.proofs.WaitingPackets as waiting

item_at : {A : Type 0} (xs : List A) (k : ℕ) → k < length xs → A
item_at [] k lt = absurd (omega (arith, lt))
item_at (x ∷ xs) zero lt = x
item_at (x ∷ xs) (suc k) lt = item_at xs k (omega (arith, lt))

pair_at : {A B : Type 0} (R : A → B → Type 0) (xs : List A) (ys : List B) → Pairwise R xs ys → (k : ℕ) (d : A) (e : B) → k < length xs → R (get_or xs k d) (get_or ys k e)
pair_at R [] ys p k d e lt = absurd (omega (arith, lt))
pair_at R (x ∷ xs) [] p k d e lt = absurd p
pair_at R (x ∷ xs) (y ∷ ys) p zero d e lt = p.0
pair_at R (x ∷ xs) (y ∷ ys) p (suc k) d e lt = pair_at R xs ys p.1 k d e (omega (arith, lt))

emptied_at : (ins : List RingInView) → flat_map waits_in ins ≡ [] → (k : ℕ) (e : RingInView) → k < length ins → (get_or ins k e).waits ≡ []
emptied_at [] none k e lt = absurd (omega (arith, lt))
emptied_at (i ∷ ins) none zero e lt = (both_empty i.waits (flat_map waits_in ins) none).0
emptied_at (i ∷ ins) none (suc k) e lt = emptied_at ins (both_empty i.waits (flat_map waits_in ins) none).1 k e (omega (arith, lt))

-- while they were apart the ends of each link stay so
module _ {procs : List ProcTree} {seats seats' : List SeatView} (linked : AreLinkedBy AreBeside seats) (g : EachGoes procs seats seats') where
  there : (region : ℕ) → region < length seats' → region < length seats
  there region lt = subst (λ n. region < n) g.many lt

  many_ins : (region : ℕ) → region < length seats → length (seat_at seats' region).ins ≡ length (seat_at seats region).ins
  many_ins region lt = sym (pairwise_length SameIn (seat_at seats region).ins (seat_at seats' region).ins (g.each region lt).ins)

  many_outs : (region : ℕ) → region < length seats → length (seat_at seats' region).outs ≡ length (seat_at seats region).outs
  many_outs region lt = sym (pairwise_length SameOut (seat_at seats region).outs (seat_at seats' region).outs (g.each region lt).outs)

  pub link_in : (me other : ℕ) → me < length seats → other < length seats → other ≢ me → link_to me other < length (seat_at seats me).ins
  link_in me other lm lo n =
      let e : length (seat_at seats me).ins + 1 ≡ length seats = linked.ends.ins me lm in
      let l : link_to me other + 1 < length seats = link_within (length seats) me other lm lo n in
      omega (arith, e, l)

  pub link_out : (me other : ℕ) → me < length seats → other < length seats → other ≢ me → link_to me other < length (seat_at seats me).outs
  link_out me other lm lo n =
      let e : length (seat_at seats me).outs + 1 ≡ length seats = linked.ends.outs me lm in
      let l : link_to me other + 1 < length seats = link_within (length seats) me other lm lo n in
      omega (arith, e, l)

  pub apart_now : AreLinkedBy EndsAreApart seats'
  apart_now = record {
    ends = record {
      ins = λ region lt. ap (λ n. n + 1) (many_ins region (there region lt)) ∙ linked.ends.ins region (there region lt) ∙ sym g.many;
      outs = λ region lt. ap (λ n. n + 1) (many_outs region (there region lt)) ∙ linked.ends.outs region (there region lt) ∙ sym g.many;
    };
    each = λ source target ls lt n d e.
        let b : AreBeside (out_at seats source target d) (in_at seats source target e) = linked.each source target (there source ls) (there target lt) n d e in
        let o : SameOut (out_at seats source target d) (out_at seats' source target d) =
        pair_at SameOut (seat_at seats source).outs (seat_at seats' source).outs (g.each source (there source ls)).outs (link_to source target) d d (link_out source target (there source ls) (there target lt) (λ i. n (sym i))) in
        let i : SameIn (in_at seats source target e) (in_at seats' source target e) =
        pair_at SameIn (seat_at seats target).ins (seat_at seats' target).ins (g.each target (there target lt)).ins (link_to target source) e e (link_in target source (there target lt) (there source ls) n) in
        record { ends = ends_stay _ _ _ _ b.ends o i; places = o.places ∙ b.places };
  }

-- a phase that did not fail
module _ {cluster : Cluster} {workload : Workload} {seats seats' seats'' : List SeatView} {broken : Bool} (a : AreSeated cluster workload seats broken) (sound : broken ≡ false) (g : EachGoes cluster.procs seats seats')
    (whole : (region : ℕ) → region < length seats → SeatTurned cluster.procs (seat_at seats region) (seat_at seats' region)) (b : BesideSoFar (length seats') seats' seats'') where
  abbrev v : NodesView
  v = nodes_view cluster workload seats broken

  abbrev v' : NodesView
  v' = nodes_view cluster workload seats'' false

  abbrev linked : AreLinkedBy AreBeside seats
  linked = a.linked sound

  at_seat' : (region : ℕ) → region < length seats → region < length seats'
  at_seat' region lt = subst (λ n. region < n) (sym g.many) lt

  node_same : (region : ℕ) → region < length seats → (seat_at seats'' region).node ≡ (seat_at seats' region).node
  node_same region lt = (b.same region (at_seat' region lt)).node

  pub turns_now : EachTurns cluster.procs seats seats''
  turns_now = record {
    many = b.many ∙ g.many;
    each = λ region lt. subst (λ m. MovesOn cluster.procs (flat_map waits_in (seat_at seats region).ins) (seat_at seats region).node m) (sym (node_same region lt)) (g.each region lt).once;
  }

  pub beside_now : AreLinkedBy AreBeside seats''
  beside_now = record {
    ends = record {
      ins = λ region lt. let l = back region lt in ap (λ n. n + 1) (b.same region (at_seat' region l)).ins ∙ (apart_now linked g).ends.ins region (at_seat' region l) ∙ sym b.many;
      outs = λ region lt. let l = back region lt in ap (λ n. n + 1) (b.same region (at_seat' region l)).outs ∙ (apart_now linked g).ends.outs region (at_seat' region l) ∙ sym b.many;
    };
    each = λ source target ls lt n d e. (b.gone source target d e (at_seat' source (back source ls)) (at_seat' source (back source ls)) (at_seat' target (back target lt)) n).beside;
  }
    where
      back : (region : ℕ) → region < length seats'' → region < length seats
      back region lt = subst (λ n. region < n) (b.many ∙ g.many) lt

  -- what one node sent another waits
  module _ (source target : ℕ) (ls : source < length seats) (lt : target < length seats) (n : source ≢ target) where
    d : RingOutView
    d = item_at (seat_at seats source).outs (link_to source target) (link_out linked g source target ls lt (λ i. n (sym i)))

    e : RingInView
    e = item_at (seat_at seats target).ins (link_to target source) (link_in linked g target source lt ls n)

    goes : LinkGoes (out_at seats' source target d) (in_at seats' source target e) (out_at seats'' source target d) (in_at seats'' source target e)
    goes = b.gone source target d e (at_seat' source ls) (at_seat' source ls) (at_seat' target lt) n

    empty : (in_at seats' source target e).waits ≡ []
    empty = emptied_at (seat_at seats' target).ins (whole target lt).emptied (link_to target source) e
        (subst (λ k. link_to target source < k) (pairwise_length SameIn (seat_at seats target).ins (seat_at seats' target).ins (g.each target lt).ins) (link_in linked g target source lt ls n))

    within : link_to source target < length (seat_at seats source).outs
    within = link_out linked g source target ls lt (λ i. n (sym i))

    within' : link_to source target < length (seat_at seats' source).outs
    within' = subst (λ k. link_to source target < k) (pairwise_length SameOut (seat_at seats source).outs (seat_at seats' source).outs (g.each source ls).outs) within

    abbrev plan : LossPlan
    plan = (seat_at seats' source).node.plan

    abbrev turns : ℕ
    turns = (seat_at seats' source).node.turns

    abbrev packet : Packet
    packet = packet_for (seat_at seats' source).node (other_at (number_of (seat_at seats' source).node) (link_to source target))

    sent : IsSentBy plan turns packet
        (seen_out (out_at seats source target d)) (seen_out (out_at seats' source target d))
    sent =
        let s = (whole source ls).sent.each (link_to source target) (subst (λ k. link_to source target < k) (sym (length-map (seat_at seats source).outs seen_out)) within) in
        subst (λ x. IsSentBy plan turns packet x (seen_out (out_at seats' source target d))) (read_map seen_out (seat_at seats source).outs (link_to source target) d no_outlet within)
        (subst (λ y. IsSentBy plan turns packet (get_or (map seen_out (seat_at seats source).outs) (link_to source target) no_outlet) y) (read_map seen_out (seat_at seats' source).outs (link_to source target) d no_outlet within') s)

    waits : (in_at seats'' source target e).waits ≡ copies_of sent.verdict packet
    waits =
        let before : (out_at seats source target d).put ≡ [] = (linked.each source target ls lt n d e).put in
        goes.waits ∙ ap (λ l. l ++ (out_at seats' source target d).put) empty ∙ sent.put.put ∙ ap (λ l. l ++ copies_of sent.verdict packet) before

  pub node_now : (region : ℕ) → region < length seats → node_in v' region ≡ (seat_at seats' region).node
  node_now region lt = waiting.node_is cluster workload seats'' false region ∙ node_same region lt

  waits_at : (region : ℕ) → waiting_at v region ≡ flat_map waits_in (seat_at seats region).ins
  waits_at = waiting.waiting_is cluster workload seats broken

  link_waits : (source target : ℕ) → source < cluster.regions → target < cluster.regions → source ≢ target
      → IsOnLink cluster (node_in v' source).turns (packet_for (node_in v' source) target) (waiting_between v' source target)
  link_waits source target ls lt n =
      let s : IsSentBy _ _ _ _ _ = sent source target (waiting.seat_there a ls) (waiting.seat_there a lt) n in
      let now : node_in v' source ≡ (seat_at seats' source).node = node_now source (waiting.seat_there a ls) in
      let number : number_of (seat_at seats' source).node ≡ source = subst (λ (m : NodeView). number_of m ≡ source) now (stand_now a sound turns_now false source ls).number in
      let other : other_at (number_of (seat_at seats' source).node) (link_to source target) ≡ target = ap (λ k. other_at k (link_to source target)) number ∙ other_of_link source target (λ i. n (sym i)) in
      let plan : (seat_at seats' source).node.plan ≡ plan_of cluster = subst (λ (m : NodeView). m.plan ≡ plan_of cluster) now (stand_now a sound turns_now false source ls).plan in
      subst (λ m. IsOnLink cluster m.turns (packet_for m target) (waiting_between v' source target)) (sym now) (record {
        verdict = s.verdict;
        is = subst (λ p. IsVerdict p (seat_at seats' source).node.turns s.verdict) plan s.is;
        copies = waiting.between_is cluster workload seats'' false source target (e source target (waiting.seat_there a ls) (waiting.seat_there a lt) n) (in_now source target ls lt n)
            ∙ waits source target (waiting.seat_there a ls) (waiting.seat_there a lt) n ∙ ap (λ t. copies_of s.verdict (packet_for (seat_at seats' source).node t)) other;
      })
    where
      in_now : (source target : ℕ) → source < cluster.regions → target < cluster.regions → source ≢ target → link_to target source < length (seat_at seats'' target).ins
      in_now source target ls lt n =
          subst (λ k. link_to target source < k) (sym (b.same target (at_seat' target (waiting.seat_there a lt))).ins)
          (subst (λ k. link_to target source < k) (pairwise_length SameIn (seat_at seats target).ins (seat_at seats' target).ins (g.each target (waiting.seat_there a lt)).ins)
          (link_in linked g target source (waiting.seat_there a lt) (waiting.seat_there a ls) n))

  turned_whole : (region : ℕ) → region < cluster.regions → TurnsWhole v v' region
  turned_whole region lr =
      let w : SeatTurned cluster.procs (seat_at seats region) (seat_at seats' region) = whole region (waiting.seat_there a lr) in
      let was : node_in v region ≡ (seat_at seats region).node = waiting.node_at_seat a region in
      let now : node_in v' region ≡ (seat_at seats' region).node = node_now region (waiting.seat_there a lr) in
      record {
        turns = ap (λ (m : NodeView). m.turns) now ∙ w.sent.turns ∙ ap (λ (m : NodeView). m.turns + 1) (sym was);
        steps = subst (λ m. HasTurned cluster.procs (waiting_at v region) (node_in v region) m) (sym now) (subst (λ m. HasTurned cluster.procs (waiting_at v region) m (seat_at seats' region).node) (sym was)
            (subst (λ l. HasTurned cluster.procs l (seat_at seats region).node (seat_at seats' region).node) (sym (waits_at region)) w.steps));
        taken = subst (λ m. HasTaken (waiting_at v region) (node_in v region) m) (sym now) (subst (λ m. HasTaken (waiting_at v region) m (seat_at seats' region).node) (sym was)
            (subst (λ l. HasTaken l (seat_at seats region).node (seat_at seats' region).node) (sym (waits_at region)) w.taken));
        settled = subst (λ m. IsSettled (node_in v region) m) (sym now) (subst (λ m. IsSettled m (seat_at seats' region).node) (sym was) w.settled);
        whole = subst (λ m. (target : ℕ) → target < m.site.region.state.regions → LeavesNothingOut m target) (sym now) w.whole;
        marks = get_or-map (λ (s : SeatView). s.marks) seats'' region no_seat ∙ (b.same region (at_seat' region (waiting.seat_there a lr))).marks ∙ w.marks
            ∙ ap (λ l. l ++ length (seat_at seats' region).node.site.region.events ∷ []) (sym (get_or-map (λ (s : SeatView). s.marks) seats region no_seat))
            ∙ ap (λ (m : NodeView). marks_at v region ++ length m.site.region.events ∷ []) (sym now);
      }

  pub ends_in_step : EndsInStep v v'
  ends_in_step = record { broken = sym sound; each = turned_whole; links = link_waits }
