use Rattle.std.proofs.Common.{◌∙◌, ap, get_or, map}
use Rattle.std.proofs.lemmas.List.{take_all}
use Rattle.dt_waits.specs.Waits.{id_at}
use Rattle.dt_graph.proofs.SortResults.{ids_sorted}
use Rattle.dt_graph.proofs.graph.Graph.ids_at.Goals as goal

pub returns : goal.returns
returns c =
    let list = c.args.list.now in
    rw c.from_vec.ensures
    (ids_sorted c.args.self.now.ids list c.args.places.now c.loop-place.ids.items _
    (c.loop-place.invariant ∙ ap (map (λ p. id_at c.args.self.now.ids (get_or list p 0))) (take_all c.loop-place.place-index c.args.places.now c.loop-place-test.false))
    c.in_ok-sort.ensures.permutation c.in_ok-sort.ensures.sorted)
