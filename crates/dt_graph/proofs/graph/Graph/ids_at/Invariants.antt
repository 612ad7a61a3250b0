use Rattle.std.proofs.Common.{◌≡◌, get_or, map, take}
use Rattle.dt_waits.specs.Waits.{id_at}
use Rattle.dt_graph.proofs.graph.Graph.ids_at.Given as goal

abbrev pub invariant-loop-place : goal.invariant-loop-place
invariant-loop-place l = l.ids.items ≡ map (λ p. id_at l.self.ids (get_or l.list p 0)) (take l.place-index l.places)
