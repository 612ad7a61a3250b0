use Rattle.std.proofs.Common.{take}
use Rattle.dt_lists.specs.Lists.{AllIn, Has}
use Rattle.dt_waits.specs.Waits.{id_at}
use Rattle.dt_graph.proofs.graph.Graph.ready_beside.Given as goal

abbrev pub invariant-loop-vertex : goal.invariant-loop-vertex
invariant-loop-vertex l = AllIn (λ v. Has l.busy (id_at l.self.ids v)) (take l.vertex-index l.vertex-items)
