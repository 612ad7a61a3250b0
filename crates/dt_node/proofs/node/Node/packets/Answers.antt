use Rattle.std.proofs.Common.{◌≡◌, ap, ◌∙◌}
use Rattle.dt_node.specs.NodeView.{number_of}
use Rattle.dt_node.proofs.PacketsPut.{made_before, made_more}
use Rattle.dt_node.proofs.node.Node.packets.Goals as goal

pub packet-requires-clause-made : goal.packet-requires-clause-made
packet-requires-clause-made g c = made_before c.args.self.now c.loop-link.link c.as_slice.result.now (c.as_slice.ensures.value ∙ c.loop-link.invariant) c.last.result c.last.ensures.value

pub loop-link-preserved : goal.loop-link-preserved
loop-link-preserved g c =
    let n = c.args.self.now in
    let me : c.number-me.result ≡ number_of n = c.number-me.ensures.number ∙ ap (λ s. s.site.region.state.number) c.self-inside.view_is ∙ ap number_of c.self.view_is in
    c.in_ok-push.ensures.items ∙ made_more n c.loop-link.link c.other_region.result c.number-me.result c.loop-link.packets.items c.in_ok-packet.packet c.loop-link.invariant me c.other_region.ensures c.in_ok-packet.ensures
