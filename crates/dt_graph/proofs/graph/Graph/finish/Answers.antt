use Rattle.std.proofs.Common.{◌≡◌, ◌≤◌, ◌<◌, ◌∙◌, ◌∷◌, [], None, Some, get_or, length, sym, ap, subst}
use Rattle.dt_lists.specs.Lists.{AllIn}
use Rattle.dt_waits.specs.Graph.{GraphView, vertex_at}
use Rattle.dt_waits.specs.Steps.{AreEntriesBelow, HaveSlots, Leaves, alone}
use Rattle.dt_waits.specs.Waits.{lowered_by}
use Rattle.dt_graph.specs.HeldInner.{IsFitted, kept_of}
use Rattle.dt_graph.specs.VerticesInner.{IsVertexKept, VerticesView}
use Rattle.dt_graph.specs.SmallStepsInner.{FinishesIn, MayFinishIn}
use Rattle.dt_graph.proofs.FinishCall.{MayFinish, finishes_in, is_ready, may_finish, may_finish_without, may_leave_one, number_there}
use Rattle.dt_graph.proofs.Bounds.{fitted_left, fitted_ready, ready_is_kept, ready_there, with_room}
use Rattle.dt_graph.proofs.graph.Graph.finish.Goals as goal
use Rattle.dt_graph.proofs.graph.Graph.finish.Goals.{After-take_ready}

-- with the vertex no longer ready, the graph is fitted
fitted_then : (c : After-take_ready) → IsFitted c.self.inside.names.ids (record c.self.inside.waits { vertices = c.take_ready.new.self }) c.self.inside.classes.items
fitted_then c =
    fitted_ready c.self.inside.names.ids c.self.inside.waits c.self.inside.classes.items c.self.invariant c.take_ready.new.self (with_room c.self.inside.waits.vertices c.take_ready.new.self c.take_ready.ensures.same)
    (λ v h. ready_there c.self.inside.names.ids c.self.inside.waits c.self.inside.classes.items c.self.invariant v ((c.take_ready.ensures.removed v).0 h).0)

pub take_ready-requires : goal.take_ready-requires
take_ready-requires c =
    let g : GraphView = kept_of c.self.inside.names.ids c.self.inside.waits c.self.inside.classes.items in
    let r : MayFinish g c.args.id = subst (λ g. MayFinish g c.args.id) (sym c.self.view_is) c.requires in
    ready_is_kept c.self.inside.names.ids c.self.inside.waits c.self.inside.classes.items c.self.invariant c.in-Some.vertex (is_ready g c.args.id r c.in-Some.vertex c.in-Some.ensures.number)

pub get-requires : goal.get-requires
get-requires c =
    let g : GraphView = kept_of c.self.inside.names.ids c.self.inside.waits c.self.inside.classes.items in
    let r : MayFinish g c.args.id = subst (λ g. MayFinish g c.args.id) (sym c.self.view_is) c.requires in
    subst (λ (x : VerticesView). IsVertexKept x c.in-Some.vertex) (sym c.take_ready.ensures.same)
    (ready_is_kept c.self.inside.names.ids c.self.inside.waits c.self.inside.classes.items c.self.invariant c.in-Some.vertex (is_ready g c.args.id r c.in-Some.vertex c.in-Some.ensures.number))

pub leave-requires-clause-left : goal.leave-requires-clause-left
leave-requires-clause-left c =
    let g : GraphView = kept_of c.self.inside.names.ids c.self.inside.waits c.self.inside.classes.items in
    let r : MayFinish g c.args.id = subst (λ g. MayFinish g c.args.id) (sym c.self.view_is) c.requires in
    let kept : IsVertexKept c.self.inside.waits.vertices c.in-Some.vertex =
    ready_is_kept c.self.inside.names.ids c.self.inside.waits c.self.inside.classes.items c.self.invariant c.in-Some.vertex (is_ready g c.args.id r c.in-Some.vertex c.in-Some.ensures.number) in
    subst (λ (x : VerticesView). AllIn (λ u. x.first ≤ u) (c.in-Some.vertex ∷ [])) (sym c.take_ready.ensures.same) (kept.0, tt)

pub leave-requires-clause-kept : goal.leave-requires-clause-kept
leave-requires-clause-kept c = subst (λ (x : VerticesView). AllIn (λ q. x.first ≤ q.vertex) c.self.inside.waits.queues) (sym c.take_ready.ensures.same) c.self.invariant.queues_kept

pub leave-requires-clause-slots : goal.leave-requires-clause-slots
leave-requires-clause-slots c =
    let g : GraphView = kept_of c.self.inside.names.ids c.self.inside.waits c.self.inside.classes.items in
    let r : MayFinish g c.args.id = subst (λ g. MayFinish g c.args.id) (sym c.self.view_is) c.requires in
    subst (λ x. HaveSlots g.waiting x.vertices (c.in-Some.vertex ∷ [])) (sym c.take_ready.ensures.same) (may_leave_one g c.args.id r c.in-Some.vertex c.in-Some.ensures.number).slots

pub leave-requires-clause-below : goal.leave-requires-clause-below
leave-requires-clause-below c =
    let g : GraphView = kept_of c.self.inside.names.ids c.self.inside.waits c.self.inside.classes.items in
    let r : MayFinish g c.args.id = subst (λ g. MayFinish g c.args.id) (sym c.self.view_is) c.requires in
    subst (λ n. AreEntriesBelow n g.waiting) (sym (ap (λ x. length x.vertices) c.take_ready.ensures.same ∙ c.self.invariant.vertices)) (may_leave_one g c.args.id r c.in-Some.vertex c.in-Some.ensures.number).below

pub leave-requires-clause-enough : goal.leave-requires-clause-enough
leave-requires-clause-enough c =
    let g : GraphView = kept_of c.self.inside.names.ids c.self.inside.waits c.self.inside.classes.items in
    let r : MayFinish g c.args.id = subst (λ g. MayFinish g c.args.id) (sym c.self.view_is) c.requires in
    subst (λ x. (v : _) → v < length x.degrees → lowered_by g.waiting (c.in-Some.vertex ∷ []) v ≤ get_or x.degrees v 0) (sym c.take_ready.ensures.same) (may_leave_one g c.args.id r c.in-Some.vertex c.in-Some.ensures.number).enough

pub invariant_of-self : goal.invariant_of-self
invariant_of-self c =
    fitted_left c.self.inside.names.ids (record c.self.inside.waits { vertices = c.take_ready.new.self }) c.self.inside.classes.items
    (fitted_then (goal.at.invariant_of-self c).After-take_ready)
    (c.in-Some.vertex ∷ []) c.leave.new.self c.self.inside.classes.items (c.leave.ensures.left c.self.inside.names.ids c.self.inside.classes.items) c.leave.ensures.first

pub invariant_of-self-in-Some-get : goal.invariant_of-self-in-Some-get
invariant_of-self-in-Some-get c =
    fitted_then (goal.at.invariant_of-self-in-Some-get c).After-take_ready

pub finish_in-requires : goal.finish_in-requires
finish_in-requires c =
    let g : GraphView = kept_of c.self.inside.names.ids c.self.inside.waits c.self.inside.classes.items in
    let r : MayFinish g c.args.id = subst (λ g. MayFinish g c.args.id) (sym c.self.view_is) c.requires in
    let same = ap (λ v. kept_of g.ids (record c.self.inside.waits { vertices = v }) g.classes) c.take_ready.ensures.same in
    let class : (vertex_at g.vertices c.in-Some.vertex).class ≡ Some c.in-Some-get.class = ap (λ x. (vertex_at x.vertices c.in-Some.vertex).class) (sym same)
    ∙ ap (λ x. x.class) (sym c.get.ensures) ∙ sym c.get-in-Some.ensures ∙ c.in-Some-get.is in
    subst (MayFinishIn c.in-Some-get.class) (sym same)
    (may_finish_without c.in-Some-get.class g c.take_ready.new.self.ready (may_finish g c.args.id r c.in-Some.vertex c.in-Some-get.class c.in-Some.ensures.number class))

pub returns-in-None : goal.returns-in-None
returns-in-None c =
    let g : GraphView = kept_of c.self.inside.names.ids c.self.inside.waits c.self.inside.classes.items in
    let same = ap (λ v. kept_of g.ids (record c.self.inside.waits { vertices = v }) g.classes) c.take_ready.ensures.same in
    let class : (vertex_at g.vertices c.in-Some.vertex).class ≡ None = ap (λ x. (vertex_at x.vertices c.in-Some.vertex).class) (sym same) ∙ ap (λ x. x.class) (sym c.get.ensures) ∙ sym c.get-in-Some.ensures ∙ c.in-None.is in
    rw (← c.self.view_is)
    (alone c.in-Some.vertex c.in-Some.ensures.number class (record {
      ready = c.take_ready.new.self.ready;
      without = c.take_ready.ensures.removed;
      leaves = subst (λ x. Leaves (c.in-Some.vertex ∷ []) x (kept_of g.ids c.leave.new.self g.classes)) same (c.leave.ensures.left g.ids g.classes);
    }))

pub returns-in-Some-get : goal.returns-in-Some-get
returns-in-Some-get c =
    let g : GraphView = kept_of c.self.inside.names.ids c.self.inside.waits c.self.inside.classes.items in
    let same = ap (λ v. kept_of g.ids (record c.self.inside.waits { vertices = v }) g.classes) c.take_ready.ensures.same in
    let class : (vertex_at g.vertices c.in-Some.vertex).class ≡ Some c.in-Some-get.class = ap (λ x. (vertex_at x.vertices c.in-Some.vertex).class) (sym same)
    ∙ ap (λ x. x.class) (sym c.get.ensures) ∙ sym c.get-in-Some.ensures ∙ c.in-Some-get.is in
    rw (← c.self.view_is)
    (finishes_in c.args.id c.in-Some.vertex c.in-Some-get.class c.take_ready.new.self.ready g c.finish_in.new.self c.in-Some.ensures.number class c.take_ready.ensures.removed
    (subst (λ x. FinishesIn c.in-Some-get.class x c.finish_in.new.self) same c.finish_in.ensures))

pub returns-in_default : goal.returns-in_default
returns-in_default c =
    let g : GraphView = kept_of c.self.inside.names.ids c.self.inside.waits c.self.inside.classes.items in
    let r : MayFinish g c.args.id = subst (λ g. MayFinish g c.args.id) (sym c.self.view_is) c.requires in
    absurd (number_there g c.args.id r c.number_of.result c.in_default.is c.number_of.ensures.number)
