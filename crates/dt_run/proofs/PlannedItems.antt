-- What is new in a phase came as planned: what a region took from another one stood in a packet of the phase before.
use Rattle.std.proofs.Common.{◌≡◌, ◌<◌, ◌≤◌, ◌+◌, ◌-◌, ℕ, zero, suc, List, [], length, get_or, slice_get, Some, sym, ap, subst, ◌∙◌, arith}
use Rattle.std.proofs.lemmas.Option.{slice_get_within}
use Rattle.dt_lists.specs.Lists.{Has, IsFront}
use Rattle.dt_lists.proofs.Callers.{at_place, get_front, has_place, place_of}
use Rattle.dt_access.specs.declared.TxnId.{TxnId}
use Rattle.dt_events.specs.declared.Stamped.{Stamped}
use Rattle.dt_events.specs.Stamps.{events_of}
use Rattle.dt_packet.specs.declared.loss.Verdict.{Verdict}
use Rattle.dt_packet.specs.declared.loss.Verdict.TheVariants.{Lost}
use Rattle.dt_packet.specs.declared.packet.Packet.{Packet}
use Rattle.dt_packet.specs.Loss.{IsVerdict}
use Rattle.dt_packet.proofs.Callers.{one_verdict}
use Rattle.dt_cluster.specs.declared.Cluster.{Cluster}
use Rattle.dt_workload.specs.declared.Workload.{Workload}
use Rattle.dt_session.specs.World.{World, Node, asked_of, log_of, node_at}
use Rattle.dt_session.specs.Run.{world_after}
use Rattle.dt_agreement.proofs.Callers.{IsRequest, request_is}
use Rattle.dt_merge.specs.Merge.{those_at}
use Rattle.dt_merge.specs.WorldRegions.{HasInvariant}
use Rattle.dt_node.specs.NodeView.{NodeView, number_of, packet_for}
use Rattle.dt_node.specs.Packets.{IsToldOf}
use Rattle.dt_node.specs.TurnPackets.{copies_of}
use Rattle.dt_node.specs.NodeInWorld.{NodeFits}
use Rattle.dt_node.specs.Turn.{BringsEntries, BringsRequest}
use Rattle.dt_run.specs.Marks.{IsToldIn, WasAskedBefore, WerePlacedBefore, kept_before, placings_in, plan_of, submissions_in}
use Rattle.dt_run.specs.NodesStand.{LinkTells}
use Rattle.dt_run.specs.NodesView.{NodesView, node_in, waiting_between}
use Rattle.dt_run.proofs.CountedSubmissions.{RegionIsCounted, all_counted}
use Rattle.dt_run.proofs.TurnsInOrder.{good_world}

-- where something waits on a link, its packets were not lost
pub not_lost : (v : NodesView) (made source target : ℕ) → LinkTells v made source target → (p : Packet) → Has (waiting_between v source target) p → IsToldIn v.cluster (suc made)
not_lost v zero source target t p h = absurd (subst (λ l. Has l p) t h)
not_lost v (suc made) source target t p h = record { later = omega arith; not_lost = λ lost. none t.verdict t.is (subst (λ l. Has l p) t.copies h) (subst (λ k. IsVerdict (plan_of v.cluster) k Lost) before lost) }
  where
    before : suc (suc made) - 1 ≡ suc made
    before = omega arith

    same : (a b : Verdict) → IsVerdict (plan_of v.cluster) (suc made) a → IsVerdict (plan_of v.cluster) (suc made) b → a ≡ b
    same a b x y = let one = one_verdict (plan_of v.cluster) (suc made) in one.2 a x ∙ sym (one.2 b y)

    none : (verdict : Verdict) → IsVerdict (plan_of v.cluster) (suc made) verdict → Has (copies_of verdict (packet_for (node_in v source) target)) p → IsVerdict (plan_of v.cluster) (suc made) Lost → ⊥
    none verdict is k lost = subst (λ x. Has (copies_of x (packet_for (node_in v source) target)) p) (same verdict Lost is lost) k

-- what a region asked, and what it placed, it had by its events
module _ {cluster : Cluster} {workload : Workload} (all : List Stamped) {n : NodeView} (f : NodeFits cluster workload (events_of all) n) (kept_is : those_at (number_of n) all ≡ n.site.region.events) where
  abbrev w : World
  w = world_after cluster workload (events_of all)

  good : HasInvariant cluster workload w
  good = good_world f

  counted : RegionIsCounted cluster workload all (number_of n)
  counted = all_counted f.run.sound f.run.fits (number_of n) f.number all f.run.legal f.changing

  pub asked_early : (home number : ℕ) → home < cluster.regions → number < length (asked_of w (number_of n) home)
      → (id : TxnId) × (slice_get (asked_of w (number_of n) home) number ≡ Some id) × (id.seq ≤ submissions_in n.site.region.events)
  asked_early home number lh lt =
      let g : (id : TxnId) × (slice_get (asked_of w (number_of n) home) number ≡ Some id) = at_place (asked_of w (number_of n) home) number lt in
      let r : IsRequest w home (number_of n) g.0 = request_is good.inv home (number_of n) lh f.number g.0 (has_place (asked_of w (number_of n) home) number g.0 g.1) in
      let at : (i : ℕ) × (slice_get (node_at w (number_of n)).submitted i ≡ Some r.submission) = place_of (node_at w (number_of n)).submitted r.submission r.there in
      let numbered : r.submission.txn.id.seq ≡ at.0 + 1 = ap (λ i. i.seq) (good.inv.ids (number_of n) f.number at.0 r.submission at.1) in
      let is : r.submission.txn.id.seq ≡ g.0.seq = ap (λ i. i.seq) r.same in
      let within : at.0 < length (node_at w (number_of n)).submitted = slice_get_within (node_at w (number_of n)).submitted at.0 r.submission at.1 in
      let many : length (node_at w (number_of n)).submitted ≡ submissions_in n.site.region.events = counted.submitted ∙ ap submissions_in kept_is in
      (g.0, g.1, omega (arith, numbered, is, within, many))

  pub placed_early : length (log_of w (number_of n)) ≡ placings_in n.site.region.events
  placed_early = counted.placed ∙ ap placings_in kept_is

  -- what is said of it in this world
  module _ (v' : NodesView) (p : Packet) (told : IsToldOf w p) (from : p.source ≡ number_of n) (made : ℕ) (before : kept_before v' (number_of n) (suc made) ≡ n.site.region.events) where
    pub request_planned : (home number stamp : ℕ) → home < cluster.regions → BringsRequest home (number_of n) number stamp p
        → IsFront (get_or n.site.region.state.here.asked home []) (get_or (node_in v' (number_of n)).site.region.state.here.asked home []) → WasAskedBefore v' (suc made) (number_of n) home number
    request_planned home number stamp lh b front =
        let far : p.asked_at + length p.asked ≤ length (asked_of w (number_of n) home) = subst (λ s. p.asked_at + length p.asked ≤ length (asked_of w s home)) from
        (subst (λ t. p.asked_at + length p.asked ≤ length (asked_of w p.source t)) b.to_home told.asked_to) in
        let near : number < p.asked_at + length p.asked = b.to in
        let r = asked_early home number lh (omega (arith, far, near)) in
        let own : asked_of w (number_of n) home ≡ get_or n.site.region.state.here.asked home [] = ap (λ (x : Node). get_or x.here.asked home []) (sym f.site.node) in
        record {
          id = r.0;
          asked = get_front (get_or n.site.region.state.here.asked home []) _ number r.0 front (subst (λ l. slice_get l number ≡ Some r.0) own r.1);
          early = subst (λ l. r.0.seq ≤ submissions_in l) (sym before) r.2;
        }

    pub entries_planned : (region first last stamp : ℕ) → BringsEntries region (number_of n) first last stamp p → WerePlacedBefore v' (suc made) (number_of n) last
    entries_planned region first last stamp b =
        let far : p.log_at + length p.entries ≤ length (log_of w (number_of n)) = subst (λ s. p.log_at + length p.entries ≤ length (log_of w s)) from told.entries_to in
        let near : last ≡ p.log_at + length p.entries = b.to in
        let many : length (log_of w (number_of n)) ≡ placings_in n.site.region.events = placed_early in
        subst (λ l. last ≤ placings_in l) (sym before) (omega (arith, far, near, many))
