use Rattle.std.proofs.Common.{◌≡◌, ◌≤◌, ◌<◌, ◌^◌, ◌∙◌, ℕ, List, OnErr, OnOk, sym, subst}
use Rattle.dt_waits.specs.declared.open.Open.{Open}
use Rattle.dt_waits.specs.Graph.{GraphView}
use Rattle.dt_waits.specs.Steps.{InsertsPart}
use Rattle.dt_graph.specs.HeldInner.{kept_of}
use Rattle.dt_graph.specs.VerticesInner.{HasPassed}
use Rattle.dt_graph.proofs.Bounds.{fitted_forgotten}
use Rattle.dt_graph.proofs.InsertCall.{MayInsert}
use Rattle.dt_graph.proofs.graph.Graph.insert.Goals as goal

pub forget-requires-clause-few : goal.forget-requires-clause-few
forget-requires-clause-few c = subst (λ n. n < 2 ^ 32) (sym c.self.invariant.vertices) c.self.invariant.few

pub forget-requires-clause-first : goal.forget-requires-clause-first
forget-requires-clause-first c = subst (λ n. c.self.inside.waits.vertices.first ≤ n) (sym c.self.invariant.vertices) c.self.invariant.first

pub invariant_of-self : goal.invariant_of-self
invariant_of-self c =
    let ids = c.self.inside.names.ids in let classes = c.self.inside.classes.items in let old = c.self.inside.waits in let new = c.forget.new.self in
    let g : GraphView = kept_of ids old classes in
    let r : MayInsert g c.args.part.now = subst (λ g. MayInsert g c.args.part.now) (sym c.self.view_is) c.requires in
    fitted_forgotten ids old classes c.self.invariant r.0 r.1 r.2 r.3 r.5 new (c.forget.ensures.same ids classes) (subst (λ n. new.vertices.first ≤ n) c.self.invariant.vertices c.forget.ensures.first)
    (subst (λ (l : List Open). (v : ℕ) → old.vertices.first ≤ v → v < new.vertices.first → HasPassed l old.vertices v) c.as_slice.ensures.value c.forget.ensures.passed)

pub put_in-requires : goal.put_in-requires
put_in-requires c = subst (λ g. MayInsert g c.args.part.now) (sym (c.forget.ensures.same c.self.inside.names.ids c.self.inside.classes.items ∙ c.self.view_is)) c.requires

pub returns-clause-inserted : goal.returns-clause-inserted
returns-clause-inserted c =
    subst (λ g. OnOk c.put_in.result (InsertsPart c.args.part.now g c.put_in.new.self)) (c.forget.ensures.same c.self.inside.names.ids c.self.inside.classes.items ∙ c.self.view_is) c.put_in.ensures.inserted

pub returns-clause-same : goal.returns-clause-same
returns-clause-same c =
    subst (λ g. OnErr c.put_in.result (c.put_in.new.self ≡ g)) (c.forget.ensures.same c.self.inside.names.ids c.self.inside.classes.items ∙ c.self.view_is) c.put_in.ensures.same
