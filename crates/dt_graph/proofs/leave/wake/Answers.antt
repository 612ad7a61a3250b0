use Rattle.std.proofs.Common.{◌∙◌, ap, refl, subst, sym}
use Rattle.dt_graph.specs.SubsetInner.{PutsIn, Removes}
use Rattle.dt_graph.proofs.ReadyVertices.{wakes_one}
use Rattle.dt_graph.proofs.leave.wake.Goals as goal

pub add_ready-requires-clause-apart : goal.add_ready-requires-clause-apart
add_ready-requires-clause-apart c h = ((c.take_stuck.ensures.removed c.args.vertex).0 h).1 refl

pub returns-then-is_stuck-clause-woken : goal.returns-then-is_stuck-clause-woken
returns-then-is_stuck-clause-woken c =
    let old = c.args.vertices.now in let now = c.add_ready.new.self in
    wakes_one old.degrees c.args.vertex old.stuck old.ready now.stuck now.ready (sym c.degree.ensures ∙ c.if-degree-eq0.true) (c.is_stuck.ensures.0 c.if-is_stuck.true)
    (subst (λ l. Removes c.args.vertex old.stuck l) (sym (ap (λ x. x.stuck) c.add_ready.ensures.same)) c.take_stuck.ensures.removed)
    (subst (λ l. PutsIn c.args.vertex l now.ready) (ap (λ x. x.ready) c.take_stuck.ensures.same) c.add_ready.ensures.put)
