use Rattle.std.proofs.Common.{◌≤◌, ◌<◌, is_some, length, sym, ap, subst, true≢false, arith, ◌∙◌}
use Rattle.dt_lists.specs.Lists.{AllIn}
use Rattle.dt_lists.proofs.Callers.{all_get}
use Rattle.dt_graph.specs.VerticesInner.{place_of_kind}
use Rattle.dt_graph.specs.declared.kept.Kind.TheVariants as kind
use Rattle.dt_graph.proofs.KeptVertices.{is_seen}
use Rattle.dt_graph.proofs.vertices.Vertices.is_stuck.Goals as goal

pub returns-then-is_kept : goal.returns-then-is_kept
returns-then-is_kept c =
    let s = c.self.inside in
    let lt = subst (λ v. c.args.number < length v.vertices) (sym c.self.view_is) c.requires in
    let below : c.args.number < length s.records.states = omega (arith, lt, c.self.invariant.are_stuck.sizes) in
    let is = c.is_some.ensures ∙ ap is_some (c.place_in.ensures ∙ ap (place_of_kind kind.Stuck) c.state.ensures) in
    rw (← c.self.view_is, is) (is_seen kind.Stuck _ _ _ c.self.invariant.are_stuck.subset c.args.number below)

pub returns-else-is_kept : goal.returns-else-is_kept
returns-else-is_kept c =
    let all : AllIn (λ n. c.args.self.now.first ≤ n) c.args.self.now.stuck = subst (λ v. AllIn (λ n. v.first ≤ n) v.stuck) c.self.view_is c.self.invariant.are_stuck.kept in
    (λ t. absurd (true≢false (sym t ∙ c.if-is_kept.false)), λ h. c.is_kept.ensures.1 (all_get _ _ all c.args.number h))
