use Rattle.std.proofs.Common.{◌≡◌, ◌<◌, ◌≤◌, ◌+◌, ◌++◌, suc, length, map, drop, take, sym, ap, ◌∙◌, arith}
use Rattle.std.specs.Vec.Iter.{into_iter_items}
use Rattle.std.proofs.lemmas.List.{length-set}
use Rattle.dt_node.specs.TurnPacketsInner.{put_at}
use Rattle.dt_node.proofs.PacketsPut.{all_goes, pairs_go, put_goes}
use Rattle.dt_node.proofs.departures.put_all.Goals as goal

pub loop-packet-preserved : goal.loop-packet-preserved
loop-packet-preserved g c =
    let seen = g.O.Outlet.seen in
    let outs = c.loop-packet.outs in
    let link = c.loop-packet.link in
    let old = c.index-outs-link.result in
    let rest = into_iter_items c.next.new.self in
    let steps = c.in-Some.ensures.steps.0 in
    let many : link + suc (length rest) ≡ length outs = ap (λ l. link + length l) (sym steps) ∙ c.loop-packet.invariant.many in
    let lt : link < length outs = omega (arith, many) in
    record {
      many = omega (arith, many, length-set outs link c.put.new.out);
      put = put_goes seen outs link old c.put.new.out c.in-Some.packet rest lt c.put.ensures.put
          ∙ ap (λ l. take link (map seen outs) ++ put_at (drop link (map seen outs)) l) (sym steps) ∙ c.loop-packet.invariant.put;
      free = all_goes (λ out. 1 ≤ (seen out).free) outs link c.put.new.out c.loop-packet.invariant.free;
      same = λ first s. pairs_go g.O.Outlet.same first outs link old c.put.new.out lt c.put.ensures.same (c.loop-packet.invariant.same first s);
    }
