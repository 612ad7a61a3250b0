use Rattle.std.proofs.Common.{◌∙◌, subst}
use Rattle.std.proofs.lemmas.List.{take_all}
use Rattle.dt_lists.specs.Lists.{Has}
use Rattle.dt_graph.specs.LinksInner.{HasLinked}
use Rattle.dt_queue.specs.Queues.{neighbours}
use Rattle.dt_graph.proofs.WaitEdges.{links_next_in, links_next_out, links_of_entries}
use Rattle.dt_graph.proofs.class.link_slot.Goals as goal
use Rattle.dt_graph.proofs.class.link_slot.Goals.{in-Some+in_ok-edge-in-Some, in-None}

pub loop-neighbour-preserved : goal.loop-neighbour-preserved
loop-neighbour-preserved c = elim c.match-place_of.branch [
  | in-Some+in_ok-edge-in-Some w ↦
      links_next_in _ _ _ _ _ _ _ _ _ _ c.requires.once c.loop-neighbour-test.true c.loop-neighbour.invariant w.in-Some.ensures (w.graph-is ∙ w.in_ok-edge-in-Some.ensures.added) w.blocked-is
  | in-None w ↦ links_next_out _ _ _ _ _ _ _ _ _ c.loop-neighbour-test.true c.loop-neighbour.invariant w.in-None.ensures w.graph-is w.blocked-is
]

pub returns : goal.returns
returns c =
    let all = take_all c.loop-neighbour.neighbour-index c.as_slice-neighbour-items.result.now c.loop-neighbour-test.false in
    let found = all ∙ c.as_slice-neighbour-items.ensures.value ∙ c.in_ok-neighbours.ensures in
    links_of_entries (neighbours c.args.queues.now c.args.slot) _ _ _ _ _ (subst (λ xs. HasLinked (Has xs) c.args.group.now c.args.place c.args.graph.now c.loop-neighbour.graph c.loop-neighbour.blocked) found c.loop-neighbour.invariant)
