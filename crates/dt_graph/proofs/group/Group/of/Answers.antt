use Rattle.std.proofs.Common.{nat_eq}
use Rattle.dt_lists.proofs.Callers.{tells_number}
use Rattle.dt_graph.proofs.Search.{index_more}
use Rattle.dt_graph.proofs.group.Group.of.Goals as goal

pub loop-vertex-preserved : goal.loop-vertex-preserved
loop-vertex-preserved c =
    index_more nat_eq tells_number c.args.list.now c.loop-vertex.vertices.keys c.insert.new.self.keys c.loop-vertex.vertex-index 0 c.requires.once c.loop-vertex-test.true c.loop-vertex.invariant c.in_ok-insert.ensures.keys
