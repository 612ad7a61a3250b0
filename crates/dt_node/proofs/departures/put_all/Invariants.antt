use Rattle.std.proofs.Common.{◌≡◌, ◌+◌, ◌≤◌, ◌++◌, List, drop, length, map, take}
use Rattle.std.specs.Vec.Iter.{into_iter_items}
use Rattle.dt_lists.specs.Lists.{AllIn, Pairwise}
use Rattle.dt_node.specs.TurnPacketsInner.{put_at}
use Rattle.dt_node.proofs.departures.put_all.Given as goal

abbrev pub invariant-loop-packet : goal.invariant-loop-packet
invariant-loop-packet g l = record {
  many : l.link + length (into_iter_items l.packet-iterator) ≡ length l.outs;
  put :
      take l.link (map g.O.Outlet.seen l.outs) ++ put_at (drop l.link (map g.O.Outlet.seen l.outs)) (into_iter_items l.packet-iterator)
      ≡ put_at (map g.O.Outlet.seen l.initial.outs) l.fn.packets.items;
  free : AllIn (λ out. 1 ≤ (g.O.Outlet.seen out).free) (drop l.link l.outs);
  same : (first : List _) → Pairwise g.O.Outlet.same first l.initial.outs → Pairwise g.O.Outlet.same first l.outs;
}
