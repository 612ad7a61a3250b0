use Rattle.std.proofs.Common.{◌+◌, length, sym, ap, ◌∙◌}
use Rattle.dt_node.proofs.PacketsPut.{many_made, many_still, once_sent, one_free, still_free, twice_sent}
use Rattle.dt_node.proofs.node.Node.send.Goals as goal

pub put_all-requires-clause-many : goal.put_all-requires-clause-many
put_all-requires-clause-many g c = c.in_ok-packets-in-Pass.packets.ok.0 ∙ many_made _ (length c.args.outs.now) _ c.in_ok-packets-in-Pass.ensures

pub put_all-requires-clause-places : goal.put_all-requires-clause-places
put_all-requires-clause-places g c = one_free g.O.Outlet.seen c.args.outs.now c.requires.places

pub put_all-requires-in-Twice-clause-many : goal.put_all-requires-in-Twice-clause-many
put_all-requires-in-Twice-clause-many g c = c.in_ok-packets-in-Twice.packets.ok.0 ∙ many_made _ (length c.args.outs.now) _ c.in_ok-packets-in-Twice.ensures

pub put_all-requires-in-Twice-clause-places : goal.put_all-requires-in-Twice-clause-places
put_all-requires-in-Twice-clause-places g c = one_free g.O.Outlet.seen c.args.outs.now c.requires.places

pub put_all-requires-in-Twice-2-clause-many : goal.put_all-requires-in-Twice-2-clause-many
put_all-requires-in-Twice-2-clause-many g c =
    c.in_ok-again-in-Twice.again.ok.0 ∙ many_made _ (length c.args.outs.now) _ c.in_ok-again-in-Twice.ensures
    ∙ sym (many_still g.O.Outlet.seen c.args.outs.now c.put_all-in-Twice.new.outs c.in_ok-packets-in-Twice.packets.items c.put_all-in-Twice.ensures.put)

pub put_all-requires-in-Twice-2-clause-places : goal.put_all-requires-in-Twice-2-clause-places
put_all-requires-in-Twice-2-clause-places g c =
    still_free g.O.Outlet.seen c.args.outs.now c.put_all-in-Twice.new.outs c.in_ok-packets-in-Twice.packets.items c.requires.places c.put_all-in-Twice.ensures.put

pub returns-in_ok-packets-in-Pass-clause-sent : goal.returns-in_ok-packets-in-Pass-clause-sent
returns-in_ok-packets-in-Pass-clause-sent g c =
    once_sent g.O.Outlet.seen (ap (λ n. n.turns + 1) c.self.view_is) c.args.outs.now c.requires.places c.in-Pass.ensures
    c.in_ok-packets-in-Pass.packets.items c.in_ok-packets-in-Pass.ensures c.put_all.new.outs c.put_all.ensures.put

pub returns-in_ok-again-in-Twice-clause-sent : goal.returns-in_ok-again-in-Twice-clause-sent
returns-in_ok-again-in-Twice-clause-sent g c =
    twice_sent g.O.Outlet.seen (ap (λ n. n.turns + 1) c.self.view_is) c.args.outs.now c.requires.places c.in-Twice.ensures
    c.in_ok-packets-in-Twice.packets.items c.in_ok-again-in-Twice.again.items c.in_ok-packets-in-Twice.ensures c.in_ok-again-in-Twice.ensures
    c.put_all-in-Twice.new.outs c.put_all-in-Twice-2.new.outs c.put_all-in-Twice.ensures.put c.put_all-in-Twice-2.ensures.put
