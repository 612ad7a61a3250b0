use Rattle.std.proofs.Common.{◌≡◌, ◌≢◌, ap, subst, sym, get_or, ◌∙◌}
use Rattle.dt_waits.specs.Graph.{vertex_at}
use Rattle.dt_graph.specs.SmallStepsInner.{Sorts}
use Rattle.dt_graph.proofs.Sorts.{sorts_ready, sorts_stuck}
use Rattle.dt_graph.proofs.waits.Waits.sort.Goals as goal

pub returns-then-degree-eq0-clause-sorted : goal.returns-then-degree-eq0-clause-sorted
returns-then-degree-eq0-clause-sorted c =
    let w = c.args.self.now.vertices in let now = c.add_ready.new.self in
    let v = c.args.vertex in
    let missing : (vertex_at w.vertices v).missing ≡ 0 = ap (λ x. x.missing) (sym c.get.ensures) ∙ c.if-get-eq0.true in
    let degree : get_or w.degrees v 0 ≡ 0 = sym c.degree.ensures ∙ c.if-degree-eq0.true in
    subst (λ l. Sorts v w.vertices w.degrees w.ready w.stuck now.ready l) (sym (ap (λ x. x.stuck) c.add_ready.ensures.same))
    (sorts_ready v w.vertices w.degrees w.ready w.stuck now.ready missing degree c.add_ready.ensures.put)

pub returns-else-degree-eq0-clause-sorted : goal.returns-else-degree-eq0-clause-sorted
returns-else-degree-eq0-clause-sorted c =
    let w = c.args.self.now.vertices in let now = c.add_stuck.new.self in
    let v = c.args.vertex in
    let missing : (vertex_at w.vertices v).missing ≡ 0 = ap (λ x. x.missing) (sym c.get.ensures) ∙ c.if-get-eq0.true in
    let degree : get_or w.degrees v 0 ≢ 0 = λ e. c.if-degree-eq0.false (c.degree.ensures ∙ e) in
    subst (λ l. Sorts v w.vertices w.degrees w.ready w.stuck l now.stuck) (sym (ap (λ x. x.ready) c.add_stuck.ensures.same))
    (sorts_stuck v w.vertices w.degrees w.ready w.stuck now.stuck missing degree c.add_stuck.ensures.put)
