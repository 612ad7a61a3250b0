use Rattle.std.proofs.Common.{◌≡◌, ◌∙◌, ◌<◌, ◌≤◌, ◌+◌, Some, length, get_or, slice_get, sym, ap, subst, inl, inr, arith}
use Rattle.std.proofs.lemmas.Option.{slice_get-get_or}
use Rattle.dt_lists.specs.Lists.{AllIn, Distinct}
use Rattle.dt_lists.proofs.Callers.{all_get}
use Rattle.dt_waits.specs.Graph.{GraphView}
use Rattle.dt_graph.specs.HeldInner.{kept_of}
use Rattle.dt_waits.specs.Steps.{HaveSlots}
use Rattle.dt_graph.specs.SmallStepsInner.{FinishesIn, MayFinishIn}
use Rattle.dt_waits.specs.Waits.{lowered_by}
use Rattle.dt_graph.proofs.FinishCall.{counted_on, finishes_all, finishes_one, open_has, open_is, open_not_stuck, within_open}
use Rattle.dt_graph.proofs.Bounds.{fitted_further, fitted_left, fitted_ready, open_kept, ready_there}
use Rattle.dt_graph.proofs.graph.Graph.finish_in.Goals as goal
use Rattle.dt_graph.proofs.graph.Graph.finish_in.Goals.{After-index_mut-kept, In-Some}

-- the vertex that is next in the class
next_at : (c : In-Some) → slice_get c.index_mut-kept.result.now.members (c.index_mut-kept.result.now.next + 1) ≡ Some c.in-Some.vertex.now
next_at c =
    rw c.as_slice.ensures at (slice_get-get_or c.as_slice.result.now (c.index_mut-kept.result.now.next + 1) c.in-Some.vertex.now c.in-Some.ensures.lookup.3.0 ∙ ap Some (sym c.in-Some.ensures.lookup.1))

-- the members of the class are kept
members_kept : (c : After-index_mut-kept) (m : MayFinishIn c.args.class (kept_of c.self.inside.names.ids c.self.inside.waits c.self.inside.classes.items)) → AllIn (λ u. c.self.inside.waits.vertices.first ≤ u) m.kept.members
members_kept c m = open_kept c.self.inside.names.ids c.self.inside.waits c.self.inside.classes.items c.self.invariant c.args.class m.kept m.at_place m.waits m.kept.members m.of_class

pub overflow_add-kept : goal.overflow_add-kept
overflow_add-kept c =
    let g : GraphView = kept_of c.self.inside.names.ids c.self.inside.waits c.self.inside.classes.items in
    let few : c.index_mut-kept.result.now.next + 1 < 18446744073709551616 =
    counted_on c.args.class g (subst (MayFinishIn c.args.class) (sym c.self.view_is) c.requires) c.index_mut-kept.result.now c.self.invariant.few c.index_mut-kept.ensures.value in
    omega (arith, few)

pub add_ready-requires-clause-within : goal.add_ready-requires-clause-within
add_ready-requires-clause-within c =
    let g : GraphView = kept_of c.self.inside.names.ids c.self.inside.waits c.self.inside.classes.items in
    let m : MayFinishIn c.args.class g = subst (MayFinishIn c.args.class) (sym c.self.view_is) c.requires in
    let at = next_at (goal.at.add_ready-requires-clause-within c).In-Some in
    let lt : c.in-Some.vertex.now < length g.ids = within_open c.args.class g m c.index_mut-kept.result.now c.index_mut-kept.ensures.value c.in-Some.vertex.now at in
    let first : c.self.inside.waits.vertices.first ≤ c.in-Some.vertex.now = all_get _ m.kept.members
    (members_kept (goal.at.add_ready-requires-clause-within c).After-index_mut-kept m)
    c.in-Some.vertex.now (open_has c.args.class g m c.index_mut-kept.result.now c.index_mut-kept.ensures.value c.in-Some.vertex.now at) in
    (first, omega (arith, lt, c.self.invariant.vertices))

pub add_ready-requires-clause-apart : goal.add_ready-requires-clause-apart
add_ready-requires-clause-apart c =
    let g : GraphView = kept_of c.self.inside.names.ids c.self.inside.waits c.self.inside.classes.items in
    let m : MayFinishIn c.args.class g = subst (MayFinishIn c.args.class) (sym c.self.view_is) c.requires in
    let at = next_at (goal.at.add_ready-requires-clause-apart c).In-Some in
    open_not_stuck c.args.class g m c.index_mut-kept.result.now c.index_mut-kept.ensures.value c.in-Some.vertex.now at

pub invariant_of-self : goal.invariant_of-self
invariant_of-self c =
    let g : GraphView = kept_of c.self.inside.names.ids c.self.inside.waits c.self.inside.classes.items in
    let m : MayFinishIn c.args.class g = subst (MayFinishIn c.args.class) (sym c.self.view_is) c.requires in
    let at = next_at (goal.at.invariant_of-self c).In-Some in
    let lt : c.in-Some.vertex.now < length g.ids = within_open c.args.class g m c.index_mut-kept.result.now c.index_mut-kept.ensures.value c.in-Some.vertex.now at in
    let first : c.self.inside.waits.vertices.first ≤ c.in-Some.vertex.now = all_get _ m.kept.members
    (members_kept (goal.at.invariant_of-self c).After-index_mut-kept m)
    c.in-Some.vertex.now (open_has c.args.class g m c.index_mut-kept.result.now c.index_mut-kept.ensures.value c.in-Some.vertex.now at) in
    let o = c.index_mut-kept.result.now in
    let le : o.next ≤ o.next + 1 = omega arith in
    fitted_further c.self.inside.names.ids (record c.self.inside.waits { vertices = c.add_ready.new.self }) c.self.inside.classes.items
    (fitted_ready c.self.inside.names.ids c.self.inside.waits c.self.inside.classes.items c.self.invariant c.add_ready.new.self c.add_ready.ensures.same
    (λ v h. elim ((c.add_ready.ensures.put v).0 h) [
      | inl o ↦ ready_there c.self.inside.names.ids c.self.inside.waits c.self.inside.classes.items c.self.invariant v o
      | inr e ↦ subst (λ u. (c.self.inside.waits.vertices.first ≤ u) × (u < length g.ids)) (sym e) (first, lt)
    ])) c.args.class o (o.next + 1) c.index_mut-kept.ensures.value le

pub leave-requires-clause-left : goal.leave-requires-clause-left
leave-requires-clause-left c =
    let g : GraphView = kept_of c.self.inside.names.ids c.self.inside.waits c.self.inside.classes.items in
    let m : MayFinishIn c.args.class g = subst (MayFinishIn c.args.class) (sym c.self.view_is) c.requires in
    rw c.as_slice-in-None.ensures
    (subst (λ o. AllIn (λ u. c.self.inside.waits.vertices.first ≤ u) o.members) (sym (open_is c.args.class g m c.index_mut-kept.result.now c.index_mut-kept.ensures.value))
    (members_kept (goal.at.leave-requires-clause-left c).After-index_mut-kept m))

pub leave-requires-clause-kept : goal.leave-requires-clause-kept
leave-requires-clause-kept c = c.self.invariant.queues_kept

pub leave-requires-clause-once : goal.leave-requires-clause-once
leave-requires-clause-once c =
    let g : GraphView = kept_of c.self.inside.names.ids c.self.inside.waits c.self.inside.classes.items in
    let m : MayFinishIn c.args.class g = subst (MayFinishIn c.args.class) (sym c.self.view_is) c.requires in
    rw c.as_slice-in-None.ensures (subst (λ o. Distinct o.members) (sym (open_is c.args.class g m c.index_mut-kept.result.now c.index_mut-kept.ensures.value)) m.leaves.once)

pub leave-requires-clause-slots : goal.leave-requires-clause-slots
leave-requires-clause-slots c =
    let g : GraphView = kept_of c.self.inside.names.ids c.self.inside.waits c.self.inside.classes.items in
    let m : MayFinishIn c.args.class g = subst (MayFinishIn c.args.class) (sym c.self.view_is) c.requires in
    rw c.as_slice-in-None.ensures (subst (λ o. HaveSlots g.waiting g.vertices o.members) (sym (open_is c.args.class g m c.index_mut-kept.result.now c.index_mut-kept.ensures.value)) m.leaves.slots)

pub leave-requires-clause-enough : goal.leave-requires-clause-enough
leave-requires-clause-enough c =
    let g : GraphView = kept_of c.self.inside.names.ids c.self.inside.waits c.self.inside.classes.items in
    let m : MayFinishIn c.args.class g = subst (MayFinishIn c.args.class) (sym c.self.view_is) c.requires in
    rw c.as_slice-in-None.ensures
    (subst (λ o. (v : _) → v < length g.degrees → lowered_by g.waiting o.members v ≤ get_or g.degrees v 0) (sym (open_is c.args.class g m c.index_mut-kept.result.now c.index_mut-kept.ensures.value)) m.leaves.enough)

pub invariant_of-self-in-None : goal.invariant_of-self-in-None
invariant_of-self-in-None c =
    let o = c.index_mut-kept.result.now in
    let le : o.next ≤ o.next + 1 = omega arith in
    fitted_further c.self.inside.names.ids c.leave.new.self c.self.inside.classes.items
    (fitted_left c.self.inside.names.ids c.self.inside.waits c.self.inside.classes.items c.self.invariant c.as_slice-in-None.result.now c.leave.new.self c.self.inside.classes.items
    (c.leave.ensures.left c.self.inside.names.ids c.self.inside.classes.items) c.leave.ensures.first) c.args.class o (o.next + 1) c.index_mut-kept.ensures.value le

pub returns-in-Some : goal.returns-in-Some
returns-in-Some c =
    let g : GraphView = kept_of c.self.inside.names.ids c.self.inside.waits c.self.inside.classes.items in
    let m : MayFinishIn c.args.class g = subst (MayFinishIn c.args.class) (sym c.self.view_is) c.requires in
    let at = next_at (goal.at.returns-in-Some c).In-Some in
    let o = c.index_mut-kept.result.now in
    let classes = Rattle.std.specs.List.slice_set c.self.inside.classes.items c.args.class (record { members = o.members; next = o.next + 1 }) in
    rw (← c.self.view_is)
    (subst (λ v. FinishesIn c.args.class g (kept_of g.ids (record c.self.inside.waits { vertices = v }) classes)) (sym c.add_ready.ensures.same)
    (finishes_one c.args.class g m o c.index_mut-kept.ensures.value c.in-Some.vertex.now c.add_ready.new.self.ready at c.add_ready.ensures.put))

pub returns-in-None : goal.returns-in-None
returns-in-None c =
    let g : GraphView = kept_of c.self.inside.names.ids c.self.inside.waits c.self.inside.classes.items in
    let m : MayFinishIn c.args.class g = subst (MayFinishIn c.args.class) (sym c.self.view_is) c.requires in
    let o = c.index_mut-kept.result.now in
    let classes = Rattle.std.specs.List.slice_set c.self.inside.classes.items c.args.class (record { members = o.members; next = o.next + 1 }) in
    rw (← c.self.view_is)
    (finishes_all c.args.class g m o c.index_mut-kept.ensures.value _ (rw c.as_slice.ensures at c.in-None.ensures.lookup.3) (rw c.as_slice-in-None.ensures at (c.leave.ensures.left c.self.inside.names.ids classes)))
