use Rattle.std.proofs.Common.{◌∙◌, ◌<◌, sym, ap, subst}
use Rattle.dt_waits.specs.Graph.{vertex_at}
use Rattle.dt_graph.specs.SmallStepsInner.{Enters, Sorts}
use Rattle.dt_graph.proofs.PartsOfVertices.{added_again}
use Rattle.dt_graph.proofs.waits.Waits.extend.Goals as goal

pub enter-requires-clause-counted : goal.enter-requires-clause-counted
enter-requires-clause-counted c = c.degree.ensures ∙ c.requires.counted

pub returns-clause-extended : goal.returns-clause-extended
returns-clause-extended c ids classes size once named =
    let old = c.args.self.now in let new = c.sort.new.self in let part = c.args.part.now in
    let v = c.args.vertex in let grown = c.grow.new.self in
    let slots = c.enter.new.slots in let count = c.in_ok-degree.degree in
    let entered : Enters part.home v part.keys old.queues new.queues (vertex_at old.vertices.vertices v).slots slots count =
    subst (λ q. Enters part.home v part.keys old.queues q (vertex_at old.vertices.vertices v).slots slots count) (sym c.sort.ensures.queues)
    (subst (λ s. Enters part.home v part.keys old.queues c.enter.new.queues s slots count) (c.reserve.ensures ∙ c.in_ok-slots.ensures) c.in_ok-degree.ensures.entered) in
    let sorted : Sorts v new.vertices.vertices new.vertices.degrees old.vertices.ready old.vertices.stuck new.vertices.ready new.vertices.stuck =
    subst (λ l. Sorts v l new.vertices.degrees old.vertices.ready old.vertices.stuck new.vertices.ready new.vertices.stuck) (sym c.sort.ensures.vertices)
    (subst (λ l. Sorts v grown.vertices l old.vertices.ready old.vertices.stuck new.vertices.ready new.vertices.stuck) (sym c.sort.ensures.degrees)
    (subst (λ r. Sorts v grown.vertices grown.degrees r old.vertices.stuck new.vertices.ready new.vertices.stuck) (ap (λ w. w.ready) c.grow.ensures)
    (subst (λ s. Sorts v grown.vertices grown.degrees grown.ready s new.vertices.ready new.vertices.stuck) (ap (λ w. w.stuck) c.grow.ensures) c.sort.ensures.sorted))) in
    added_again part ids classes old new once (sym size) (c.requires.sizes ∙ sym size) slots count v (subst (λ n. v < n) (sym size) c.requires.vertex.1) named c.requires.missing entered
    (c.sort.ensures.vertices ∙ ap (λ w. w.vertices) c.grow.ensures) (c.sort.ensures.degrees ∙ ap (λ w. w.degrees) c.grow.ensures) sorted
