use Rattle.std.proofs.Common.{◌≡◌, ◌∙◌, ◌+◌, ◌<◌, ◌≤◌, ◌^◌, ◌++◌, ◌∷◌, [], length, sym, ap, subst, arith}
use Rattle.dt_lists.specs.Lists.{AllIn}
use Rattle.dt_lists.proofs.Callers.{all_map}
use Rattle.dt_waits.specs.Graph.{GraphView}
use Rattle.dt_graph.specs.HeldInner.{IsFitted, kept_of}
use Rattle.dt_waits.specs.Steps.{Resolves, RunInOrder}
use Rattle.dt_graph.proofs.Bounds.{fitted_resolved, stuck_there}
use Rattle.dt_graph.proofs.ResolveCall.{MayResolve, are_once, are_stuck, are_there, class_fits, pushed_at, run_stuck}
use Rattle.dt_graph.proofs.graph.Graph.resolve.Goals as goal

pub in_order-requires-clause-there : goal.in_order-requires-clause-there
in_order-requires-clause-there c = are_there c.args.self.now c.args.ids.now c.requires

pub in_order-requires-clause-once : goal.in_order-requires-clause-once
in_order-requires-clause-once c = are_once c.args.self.now c.args.ids.now c.requires

pub in_order-requires-clause-stuck : goal.in_order-requires-clause-stuck
in_order-requires-clause-stuck c = are_stuck c.args.self.now c.args.ids.now c.requires

pub resolve-requires-clause-within : goal.resolve-requires-clause-within
resolve-requires-clause-within c =
    let size : c.len-class.result ≡ length c.self.inside.classes.items = omega (arith, c.len-class.ensures, c.self.inside.classes.ok.0) in
    let same : c.as_slice.result.now ≡ c.in_ok-members.members = c.as_slice.ensures ∙ ap (λ o. o.members) (pushed_at c.self.inside.classes.items _ _ c.len-class.result size (rw c.in_ok-push.ensures.items at c.index.ensures)) in
    let run : RunInOrder (kept_of c.self.inside.names.ids c.self.inside.waits c.self.inside.classes.items) c.args.ids.now c.in_ok-members.members = subst (λ g. RunInOrder g c.args.ids.now c.in_ok-members.members)
    (sym c.self.view_is) c.in_ok-members.ensures in
    subst (λ l. AllIn (λ v. v < length c.self.inside.waits.vertices.vertices) l) (sym same) (subst (λ n. AllIn (λ v. v < n) c.in_ok-members.members) (sym c.self.invariant.vertices) run.within)

pub resolve-requires-clause-kept : goal.resolve-requires-clause-kept
resolve-requires-clause-kept c =
    let size : c.len-class.result ≡ length c.self.inside.classes.items = omega (arith, c.len-class.ensures, c.self.inside.classes.ok.0) in
    let same : c.as_slice.result.now ≡ c.in_ok-members.members = c.as_slice.ensures ∙ ap (λ o. o.members) (pushed_at c.self.inside.classes.items _ _ c.len-class.result size (rw c.in_ok-push.ensures.items at c.index.ensures)) in
    let run : RunInOrder (kept_of c.self.inside.names.ids c.self.inside.waits c.self.inside.classes.items) c.args.ids.now c.in_ok-members.members = subst (λ g. RunInOrder g c.args.ids.now c.in_ok-members.members)
    (sym c.self.view_is) c.in_ok-members.ensures in
    let g : GraphView = kept_of c.self.inside.names.ids c.self.inside.waits c.self.inside.classes.items in
    let r : MayResolve g c.args.ids.now = subst (λ g. MayResolve g c.args.ids.now) (sym c.self.view_is) c.requires in
    let kept : AllIn (λ v. c.self.inside.waits.vertices.first ≤ v) c.in_ok-members.members = all_map _ _ c.in_ok-members.members
    (λ v h. (stuck_there c.self.inside.names.ids c.self.inside.waits c.self.inside.classes.items c.self.invariant v h).0) (run_stuck g c.args.ids.now c.in_ok-members.members r run) in
    subst (AllIn (λ v. c.self.inside.waits.vertices.first ≤ v)) (sym same) kept

pub resolve-requires-clause-few : goal.resolve-requires-clause-few
resolve-requires-clause-few c =
    let g : GraphView = kept_of c.self.inside.names.ids c.self.inside.waits c.self.inside.classes.items in
    let r : MayResolve g c.args.ids.now = subst (λ g. MayResolve g c.args.ids.now) (sym c.self.view_is) c.requires in
    let size : c.len-class.result ≡ length c.self.inside.classes.items = omega (arith, c.len-class.ensures, c.self.inside.classes.ok.0) in
    subst (λ n. n + 1 < 2 ^ 32) (sym size) (class_fits g c.args.ids.now r c.self.invariant.few)

pub invariant_of-self-2 : goal.invariant_of-self-2
invariant_of-self-2 c =
    let ids = c.self.inside.names.ids in
    let classes = c.self.inside.classes.items in
    let size : c.len-class.result ≡ length c.self.inside.classes.items = omega (arith, c.len-class.ensures, c.self.inside.classes.ok.0) in
    let same : c.as_slice.result.now ≡ c.in_ok-members.members = c.as_slice.ensures ∙ ap (λ o. o.members) (pushed_at c.self.inside.classes.items _ _ c.len-class.result size (rw c.in_ok-push.ensures.items at c.index.ensures)) in
    let run : RunInOrder (kept_of c.self.inside.names.ids c.self.inside.waits c.self.inside.classes.items) c.args.ids.now c.in_ok-members.members = subst (λ g. RunInOrder g c.args.ids.now c.in_ok-members.members)
    (sym c.self.view_is) c.in_ok-members.ensures in
    let g : GraphView = kept_of c.self.inside.names.ids c.self.inside.waits c.self.inside.classes.items in
    let r : MayResolve g c.args.ids.now = subst (λ g. MayResolve g c.args.ids.now) (sym c.self.view_is) c.requires in
    let kept : AllIn (λ v. c.self.inside.waits.vertices.first ≤ v) c.in_ok-members.members = all_map _ _ c.in_ok-members.members
    (λ v h. (stuck_there c.self.inside.names.ids c.self.inside.waits c.self.inside.classes.items c.self.invariant v h).0) (run_stuck g c.args.ids.now c.in_ok-members.members r run) in
    rw c.in_ok-push.ensures.items
    (subst (λ m. IsFitted ids c.resolve.new.self (classes ++ record { members = m; next = 0 } ∷ [])) same
    (fitted_resolved ids c.self.inside.waits classes c.self.invariant c.as_slice.result.now c.len-class.result c.resolve.new.self
    (subst (λ l. AllIn (λ v. v < length ids) l) (sym same) run.within) (subst (AllIn (λ v. c.self.inside.waits.vertices.first ≤ v)) (sym same) kept)
    (c.resolve.ensures.resolved ids classes) c.resolve.ensures.first))

pub returns-clause-resolved : goal.returns-clause-resolved
returns-clause-resolved c =
    let ids = c.self.inside.names.ids in
    let classes = c.self.inside.classes.items in
    let size : c.len-class.result ≡ length c.self.inside.classes.items = omega (arith, c.len-class.ensures, c.self.inside.classes.ok.0) in
    let same : c.as_slice.result.now ≡ c.in_ok-members.members = c.as_slice.ensures ∙ ap (λ o. o.members) (pushed_at c.self.inside.classes.items _ _ c.len-class.result size (rw c.in_ok-push.ensures.items at c.index.ensures)) in
    let run : RunInOrder (kept_of c.self.inside.names.ids c.self.inside.waits c.self.inside.classes.items) c.args.ids.now c.in_ok-members.members = subst (λ g. RunInOrder g c.args.ids.now c.in_ok-members.members)
    (sym c.self.view_is) c.in_ok-members.ensures in
    let r = subst (λ n. Resolves c.as_slice.result.now n (kept_of ids c.self.inside.waits classes) (kept_of ids c.resolve.new.self (classes ++ record { members = c.as_slice.result.now; next = 0 } ∷ []))) size
    (c.resolve.ensures.resolved ids classes) in
    rw (← c.self.view_is, c.in_ok-push.ensures.items)
    (c.in_ok-members.members, run, subst (λ m. Resolves m (length classes) (kept_of ids c.self.inside.waits classes) (kept_of ids c.resolve.new.self (classes ++ record { members = m; next = 0 } ∷ []))) same r)
