use Rattle.std.proofs.Common.{◌≡◌, ◌∙◌, ◌<◌, ◌≤◌, ◌+◌, ◌^◌, ◌∷◌, ◌++◌, [], length, refl, sym, ap, subst}
use Rattle.std.proofs.lemmas.List.{length-append}
use Rattle.std.proofs.lemmas.Result.{on_ok_weaker}
use Rattle.std.proofs.lemmas.Option.{slice_get_within}
use Rattle.dt_lists.specs.Lists.{AllIn}
use Rattle.dt_waits.specs.Graph.{GraphView, vertex_at}
use Rattle.dt_graph.specs.HeldInner.{kept_of}
use Rattle.dt_graph.proofs.Bounds.{fitted_inserted, fitted_same, missing_kept}
use Rattle.dt_waits.proofs.Callers.{at_named, counted_before, missing_before}
use Rattle.dt_graph.proofs.InsertCall.{MayInsert, few_more, kept_as, not_ready, not_stuck, result_cases}
use Rattle.dt_graph.proofs.graph.Graph.put_in.Goals as goal
use Rattle.dt_graph.proofs.graph.Graph.put_in.Goals.{In-Some, In_err-add-in-None}

-- a vertex that was there already was not complete
was_missing : (c : In-Some) → 0 < (vertex_at c.self.inside.waits.vertices.vertices c.in-Some.vertex).missing
was_missing c =
    let g : GraphView = kept_of c.self.inside.names.ids c.self.inside.waits c.self.inside.classes.items in
    let r : MayInsert g c.args.part.now = subst (λ g. MayInsert g c.args.part.now) (sym c.self.view_is) c.requires in
    missing_before r.0 r.1 r.2 c.args.part.now r.3 r.4 c.as_slice-homes.ensures.ascending g r.5 c.in-Some.vertex (slice_get_within g.ids c.in-Some.vertex c.args.part.now.id c.in-Some.ensures.number)
    (at_named g.ids c.in-Some.vertex c.args.part.now.id c.in-Some.ensures.number)

-- where memory ran out, the graph is as it was
all_same : (c : In_err-add-in-None) → kept_of c.self.inside.names.ids c.add.new.self c.self.inside.classes.items ≡ kept_of c.self.inside.names.ids c.self.inside.waits c.self.inside.classes.items
all_same c = c.in_err-add-in-None.ensures.same c.self.inside.names.ids c.self.inside.classes.items ∙ c.reserve-in-None.ensures.same c.self.inside.names.ids c.self.inside.classes.items

pub extend-requires-clause-vertex : goal.extend-requires-clause-vertex
extend-requires-clause-vertex c =
    let g : GraphView = kept_of c.self.inside.names.ids c.self.inside.waits c.self.inside.classes.items in
    let lt : c.in-Some.vertex < length g.ids = slice_get_within g.ids c.in-Some.vertex c.args.part.now.id c.in-Some.ensures.number in (
      missing_kept g.ids c.self.inside.waits g.classes c.self.invariant c.in-Some.vertex (was_missing (goal.at.extend-requires-clause-vertex c).In-Some),
      subst (λ n. c.in-Some.vertex < n) (sym c.self.invariant.vertices) lt,
    )

pub extend-requires-clause-missing : goal.extend-requires-clause-missing
extend-requires-clause-missing c = was_missing (goal.at.extend-requires-clause-missing c).In-Some

pub extend-requires-clause-counted : goal.extend-requires-clause-counted
extend-requires-clause-counted c =
    let g : GraphView = kept_of c.self.inside.names.ids c.self.inside.waits c.self.inside.classes.items in
    let r : MayInsert g c.args.part.now = subst (λ g. MayInsert g c.args.part.now) (sym c.self.view_is) c.requires in
    counted_before r.0 r.1 r.2 c.args.part.now r.3 r.4 c.as_slice-homes.ensures.ascending g r.5 c.in-Some.vertex (slice_get_within g.ids c.in-Some.vertex c.args.part.now.id c.in-Some.ensures.number)
    (at_named g.ids c.in-Some.vertex c.args.part.now.id c.in-Some.ensures.number)

pub extend-requires-clause-not_ready : goal.extend-requires-clause-not_ready
extend-requires-clause-not_ready c =
    let g : GraphView = kept_of c.self.inside.names.ids c.self.inside.waits c.self.inside.classes.items in
    let r : MayInsert g c.args.part.now = subst (λ g. MayInsert g c.args.part.now) (sym c.self.view_is) c.requires in
    let lt = slice_get_within g.ids c.in-Some.vertex c.args.part.now.id c.in-Some.ensures.number in
    not_ready g c.args.part.now r c.in-Some.vertex lt
    (was_missing (goal.at.extend-requires-clause-not_ready c).In-Some)

pub extend-requires-clause-not_stuck : goal.extend-requires-clause-not_stuck
extend-requires-clause-not_stuck c =
    let g : GraphView = kept_of c.self.inside.names.ids c.self.inside.waits c.self.inside.classes.items in
    let r : MayInsert g c.args.part.now = subst (λ g. MayInsert g c.args.part.now) (sym c.self.view_is) c.requires in
    let lt = slice_get_within g.ids c.in-Some.vertex c.args.part.now.id c.in-Some.ensures.number in
    not_stuck g c.args.part.now r c.in-Some.vertex lt
    (was_missing (goal.at.extend-requires-clause-not_stuck c).In-Some)

pub invariant_of-self : goal.invariant_of-self
invariant_of-self c =
    let ids = c.self.inside.names.ids in
    let classes = c.self.inside.classes.items in
    result_cases c.extend.result c.extend.ensures.extended (c.extend.ensures.same ids classes)
    (λ e. let i = e ids classes (sym c.self.invariant.vertices) c.number_of.ensures.once (at_named ids c.in-Some.vertex c.args.part.now.id c.in-Some.ensures.number) in
    fitted_inserted ids c.self.inside.waits classes c.self.invariant ids c.extend.new.self c.args.part.now c.in-Some.vertex i.0 c.self.invariant.few (missing_kept ids c.self.inside.waits classes c.self.invariant c.in-Some.vertex
    (was_missing (goal.at.invariant_of-self c).In-Some)) i.1 c.extend.ensures.first)
    (λ e. fitted_same ids c.self.inside.waits classes c.self.invariant c.extend.new.self e c.extend.ensures.first)

pub invariant_of-self-in_err-reserve-in-None-2 : goal.invariant_of-self-in_err-reserve-in-None-2
invariant_of-self-in_err-reserve-in-None-2 c =
    rw c.reserve.ensures.same
    (fitted_same c.self.inside.names.ids c.self.inside.waits c.self.inside.classes.items c.self.invariant c.reserve-in-None.new.self
    (c.reserve-in-None.ensures.same c.self.inside.names.ids c.self.inside.classes.items) c.reserve-in-None.ensures.first)

pub returns-in_err-reserve-in-None-2-clause-same : goal.returns-in_err-reserve-in-None-2-clause-same
returns-in_err-reserve-in-None-2-clause-same c =
    rw (← c.self.view_is) (kept_as c.from_residual-in_err-reserve-in-None-2.result c.self.inside.names.ids c.reserve.new.self.ids c.reserve-in-None.new.self c.self.inside.waits c.self.inside.classes.items c.reserve.ensures.same
    (c.reserve-in-None.ensures.same c.self.inside.names.ids c.self.inside.classes.items))

pub add-requires-clause-few : goal.add-requires-clause-few
add-requires-clause-few c =
    let g : GraphView = kept_of c.self.inside.names.ids c.self.inside.waits c.self.inside.classes.items in
    let r : MayInsert g c.args.part.now = subst (λ g. MayInsert g c.args.part.now) (sym c.self.view_is) c.requires in
    few_more g c.args.part.now r _ (ap (λ g. length g.vertices) (c.reserve-in-None.ensures.same c.self.inside.names.ids c.self.inside.classes.items) ∙ c.self.invariant.vertices)

pub add-requires-clause-sizes : goal.add-requires-clause-sizes
add-requires-clause-sizes c =
    let same = c.reserve-in-None.ensures.same c.self.inside.names.ids c.self.inside.classes.items in
    ap (λ g. length g.degrees) same ∙ c.self.invariant.degrees ∙ sym c.self.invariant.vertices ∙ sym (ap (λ g. length g.vertices) same)

pub add-requires-clause-distinct : goal.add-requires-clause-distinct
add-requires-clause-distinct c =
    let g : GraphView = kept_of c.self.inside.names.ids c.self.inside.waits c.self.inside.classes.items in
    let r : MayInsert g c.args.part.now = subst (λ g. MayInsert g c.args.part.now) (sym c.self.view_is) c.requires in
    subst Rattle.dt_queue.specs.Queues.HasDistinctSlots (sym (ap (λ g. g.waiting) (c.reserve-in-None.ensures.same c.self.inside.names.ids c.self.inside.classes.items))) r.5.uses.distinct

pub add-requires-clause-below : goal.add-requires-clause-below
add-requires-clause-below c =
    let g : GraphView = kept_of c.self.inside.names.ids c.self.inside.waits c.self.inside.classes.items in
    let r : MayInsert g c.args.part.now = subst (λ g. MayInsert g c.args.part.now) (sym c.self.view_is) c.requires in
    let same = c.reserve-in-None.ensures.same c.self.inside.names.ids c.self.inside.classes.items in
    subst (λ w. Rattle.dt_waits.specs.Steps.AreEntriesBelow (length c.reserve-in-None.new.self.vertices.vertices) w) (sym (ap (λ g. g.waiting) same))
    (subst (λ n. Rattle.dt_waits.specs.Steps.AreEntriesBelow n g.waiting) (sym (ap (λ g. length g.vertices) same ∙ c.self.invariant.vertices)) r.5.uses.vertices)

pub add-requires-clause-first : goal.add-requires-clause-first
add-requires-clause-first c =
    let same = c.reserve-in-None.ensures.same c.self.inside.names.ids c.self.inside.classes.items in
    subst (λ n. n ≤ length c.reserve-in-None.new.self.vertices.vertices) (sym c.reserve-in-None.ensures.first)
    (subst (λ n. c.self.inside.waits.vertices.first ≤ n) (sym (ap (λ g. length g.vertices) same ∙ c.self.invariant.vertices)) c.self.invariant.first)

pub add-requires-clause-ready_within : goal.add-requires-clause-ready_within
add-requires-clause-ready_within c =
    let same = c.reserve-in-None.ensures.same c.self.inside.names.ids c.self.inside.classes.items in
    subst (λ n. AllIn (λ v. v < n) c.reserve-in-None.new.self.vertices.ready) (sym (ap (λ g. length g.vertices) same ∙ c.self.invariant.vertices))
    (subst (AllIn (λ v. v < length c.self.inside.names.ids)) (sym (ap (λ g. g.ready) same)) c.self.invariant.ready_within)

pub add-requires-clause-stuck_within : goal.add-requires-clause-stuck_within
add-requires-clause-stuck_within c =
    let same = c.reserve-in-None.ensures.same c.self.inside.names.ids c.self.inside.classes.items in
    subst (λ n. AllIn (λ v. v < n) c.reserve-in-None.new.self.vertices.stuck) (sym (ap (λ g. length g.vertices) same ∙ c.self.invariant.vertices))
    (subst (AllIn (λ v. v < length c.self.inside.names.ids)) (sym (ap (λ g. g.stuck) same)) c.self.invariant.stuck_within)

pub invariant_of-self-in_err-add-in-None : goal.invariant_of-self-in_err-add-in-None
invariant_of-self-in_err-add-in-None c =
    rw c.reserve.ensures.same
    (fitted_same c.self.inside.names.ids c.self.inside.waits c.self.inside.classes.items c.self.invariant c.add.new.self
    (all_same (goal.at.invariant_of-self-in_err-add-in-None c).In_err-add-in-None)
    (c.in_err-add-in-None.ensures.first ∙ c.reserve-in-None.ensures.first))

pub returns-in_err-add-in-None-clause-same : goal.returns-in_err-add-in-None-clause-same
returns-in_err-add-in-None-clause-same c =
    rw (← c.self.view_is) (kept_as c.from_residual-in_err-add-in-None.result c.self.inside.names.ids c.reserve.new.self.ids c.add.new.self c.self.inside.waits c.self.inside.classes.items c.reserve.ensures.same
    (all_same (goal.at.returns-in_err-add-in-None-clause-same c).In_err-add-in-None))

pub add-requires-in-None-clause-few : goal.add-requires-in-None-clause-few
add-requires-in-None-clause-few c =
    let g : GraphView = kept_of c.self.inside.names.ids c.self.inside.waits c.self.inside.classes.items in
    let r : MayInsert g c.args.part.now = subst (λ g. MayInsert g c.args.part.now) (sym c.self.view_is) c.requires in
    few_more g c.args.part.now r _ (ap length c.reserve.ensures.same)

pub invariant_of-self-in-None : goal.invariant_of-self-in-None
invariant_of-self-in-None c =
    let ids = c.self.inside.names.ids in
    let classes = c.self.inside.classes.items in
    let g : GraphView = kept_of ids c.self.inside.waits classes in
    let r : MayInsert g c.args.part.now = subst (λ g. MayInsert g c.args.part.now) (sym c.self.view_is) c.requires in
    let size : length ids ≡ length c.reserve-in-None.new.self.vertices.vertices = sym (ap (λ g. length g.vertices) (c.reserve-in-None.ensures.same ids classes) ∙ c.self.invariant.vertices) in
    let i = c.in_ok-add-in-None.ensures.added ids classes size c.number_of.ensures.once c.in-None.ensures.number in
    let more : length (ids ++ c.args.part.now.id ∷ []) ≡ length ids + 1 = length-append ids (c.args.part.now.id ∷ []) in
    let few : length ids + 1 < 2 ^ 32 = few_more g c.args.part.now r (length ids) refl in
    rw (c.add-in-None.ensures, c.reserve.ensures.same)
    (fitted_inserted ids c.reserve-in-None.new.self classes
    (fitted_same ids c.self.inside.waits classes c.self.invariant c.reserve-in-None.new.self (c.reserve-in-None.ensures.same ids classes) c.reserve-in-None.ensures.first)
    (ids ++ c.args.part.now.id ∷ []) c.add.new.self c.args.part.now (length ids) i.0 (subst (λ n. n < 2 ^ 32) (sym more) few)
    (subst (λ n. n ≤ length ids) (sym c.reserve-in-None.ensures.first) c.self.invariant.first) i.1 c.in_ok-add-in-None.ensures.first)

pub returns-in-Some-clause-inserted : goal.returns-in-Some-clause-inserted
returns-in-Some-clause-inserted c =
    let ids = c.self.inside.names.ids in
    let classes = c.self.inside.classes.items in
    rw (← c.self.view_is)
    (on_ok_weaker c.extend.result (λ e. let i = e ids classes (sym c.self.invariant.vertices) c.number_of.ensures.once (at_named ids c.in-Some.vertex c.args.part.now.id c.in-Some.ensures.number) in
    (c.in-Some.vertex, i.0, i.1)) c.extend.ensures.extended)

pub returns-in_ok-add-in-None-clause-inserted : goal.returns-in_ok-add-in-None-clause-inserted
returns-in_ok-add-in-None-clause-inserted c =
    let ids = c.self.inside.names.ids in
    let classes = c.self.inside.classes.items in
    let same = c.reserve-in-None.ensures.same ids classes in
    let size : length ids ≡ length c.reserve-in-None.new.self.vertices.vertices = sym (ap (λ g. length g.vertices) same ∙ c.self.invariant.vertices) in
    let i = c.in_ok-add-in-None.ensures.added ids classes size c.number_of.ensures.once c.in-None.ensures.number in
    rw (← c.self.view_is, c.add-in-None.ensures, c.reserve.ensures.same)
    (length ids, i.0, subst (λ g. Rattle.dt_waits.specs.Steps.Inserts c.args.part.now (length ids) i.0 g (kept_of (ids ++ c.args.part.now.id ∷ []) c.add.new.self classes)) same i.1)
