use Rattle.std.proofs.Common.{subst, sym}
use Rattle.dt_lists.specs.Lists.{Has}
use Rattle.dt_graph.proofs.KeptVertices.{kept_forgotten}
use Rattle.dt_graph.proofs.vertices.Vertices.forget.Goals as goal

pub invariant_of-self : goal.invariant_of-self
invariant_of-self c =
    let s = c.self.inside in
    let not_ready : ¬ (Has s.ready.items s.records.first) = subst (λ v. ¬ (Has v.ready v.first)) (sym c.self.view_is) c.requires.not_ready in
    let not_stuck : ¬ (Has s.stuck.items s.records.first) = subst (λ v. ¬ (Has v.stuck v.first)) (sym c.self.view_is) c.requires.not_stuck in
    kept_forgotten s.records c.forget.new.self _ _ _ _ c.self.invariant not_ready not_stuck c.forget.ensures
