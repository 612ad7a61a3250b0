-- What the calls of a region ask for, where a turn may go on: stamps and places are left, since there are so few events.
use Rattle.std.proofs.Common.{◌≡◌, ◌<◌, ◌≤◌, ◌+◌, ◌^◌, List, length, sym, subst, arith}
use Rattle.std.proofs.lemmas.List.{length-map}
use Rattle.dt_events.specs.Stamps.{events_of}
use Rattle.dt_sched.specs.Sched.{parts_in}
use Rattle.dt_proc.specs.Tree.{ProcTree}
use Rattle.dt_table.specs.Table.{counter_of}
use Rattle.dt_txn.specs.Replica.{fronts}
use Rattle.dt_region.proofs.Callers.{fronts_few}
use Rattle.dt_region.specs.Conditions.{HoldsValid}
use Rattle.dt_region.specs.Region.{HasStamp, latest_stamp}
use Rattle.dt_region.specs.Rounds.{CanRound}
use Rattle.dt_packet.specs.declared.packet.Packet.{Packet}
use Rattle.dt_session.specs.World.{World, logs_of, received_lengths}
use Rattle.dt_session.specs.Run.{world_after}
use Rattle.dt_site.proofs.Callers.{HasShortLists, counter_few, holds_valid, legal_short}
use Rattle.dt_node.specs.NodeView.{NodeView, number_of}
use Rattle.dt_node.specs.TurnInner.{CanGo}
use Rattle.dt_node.proofs.EventLimit.{few_events}
use Rattle.dt_node.proofs.EventsGoOn.{reached}

module _ {procs : List ProcTree} {packets : List Packet} {n : NodeView} (c : CanGo procs packets n) where
  pub few : length (events_of c.all) ≤ 24640000
  few = few_events c.fits

  top : latest_stamp n.site.region < 2 ^ 61
  top =
      let low : latest_stamp n.site.region ≤ 2 ^ 60 + length c.all = c.low in
      let many : length (events_of c.all) ≡ length c.all = length-map c.all (λ x. x.event) in
      omega (arith, low, many, few)

  pub has_stamp : HasStamp n.site.region
  has_stamp = omega (arith, top)

  pub one_more : length (events_of c.all) + 1 < 4294967296
  one_more = omega (arith, few)

  parts_few : parts_in n.site.region.state.logs ≤ length (events_of c.all)
  parts_few =
      let w : World = world_after c.cluster c.workload (events_of c.all) in
      let short : HasShortLists w (length (events_of c.all)) = legal_short c.cluster c.fits.run.sound c.workload c.fits.run.fits (events_of c.all) c.fits.run.legal in
      let all : parts_in (fronts (received_lengths w (number_of n)) (logs_of w)) ≤ parts_in (logs_of w) = fronts_few (received_lengths w (number_of n)) (logs_of w) in
      subst (λ l. parts_in l ≤ length (events_of c.all)) (sym c.fits.site.logs) (omega (arith, all, short.parts))

  pub can_round : CanRound procs n.site.region
  can_round = record {
    holds = subst (λ l. HoldsValid l n.site.region.state) (sym c.procs_are) (holds_valid (reached c.fits) c.fits.number c.fits.site);
    moves = λ key. let moved : counter_of n.site.region.state.here.table key ≤ length (events_of c.all) = counter_few (reached c.fits) c.fits.number c.fits.site key in omega (arith, moved, parts_few, few);
    stamps = top;
  }
