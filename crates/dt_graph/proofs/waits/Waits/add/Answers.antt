use Rattle.std.proofs.Common.{◌≡◌, ◌≤◌, ◌<◌, ◌∙◌, ◌-◌, ◌++◌, ◌∷◌, ℕ, suc, Option, [], length, sym, ap, subst, arith}
use Rattle.dt_lists.specs.Lists.{Has}
use Rattle.dt_lists.proofs.Callers.{all_get}
use Rattle.dt_waits.specs.Steps.{AreEntriesBelow}
use Rattle.dt_waits.specs.declared.vertex.Vertex.{Vertex}
use Rattle.dt_waits.proofs.Callers.{degree_of_new}
use Rattle.dt_graph.specs.SmallStepsInner.{Enters, Sorts}
use Rattle.dt_graph.proofs.PartsOfVertices.{added_first}
use Rattle.dt_graph.proofs.waits.Waits.add.Goals as goal

pub enter-requires-clause-counted : goal.enter-requires-clause-counted
enter-requires-clause-counted c =
    let old = c.args.self.now in
    sym (degree_of_new old.queues c.len-vertex.result (subst (λ n. AreEntriesBelow n old.queues) (sym c.len-vertex.ensures) c.requires.below))

pub sort-requires-clause-not_ready : goal.sort-requires-clause-not_ready
sort-requires-clause-not_ready c h =
    let v = c.len-vertex.result in
    let below : v < length c.args.self.now.vertices.vertices = all_get _ _ c.requires.ready_within v (subst (λ l. Has l v) c.push.ensures.ready h) in
    omega (arith, below, c.len-vertex.ensures)

pub sort-requires-clause-not_stuck : goal.sort-requires-clause-not_stuck
sort-requires-clause-not_stuck c h =
    let v = c.len-vertex.result in
    let below : v < length c.args.self.now.vertices.vertices = all_get _ _ c.requires.stuck_within v (subst (λ l. Has l v) c.push.ensures.stuck h) in
    omega (arith, below, c.len-vertex.ensures)

pub returns-clause-added : goal.returns-clause-added
returns-clause-added c ids classes size once fresh =
    let old = c.args.self.now in let new = c.sort.new.self in let part = c.args.part.now in
    let pushed = c.push.new.self in
    let v = c.len-vertex.result in
    let with_class : Option ℕ → Vertex = λ p. record { slots = c.enter.new.slots; class = p; missing = c.other_homes.result; rank = part.rank } in
    let entered : Enters part.home v part.keys old.queues new.queues [] c.enter.new.slots c.in_ok-degree.degree =
    subst (λ q. Enters part.home v part.keys old.queues q [] c.enter.new.slots c.in_ok-degree.degree) (sym c.sort.ensures.queues)
    (subst (λ s. Enters part.home v part.keys old.queues c.enter.new.queues s c.enter.new.slots c.in_ok-degree.degree) (c.reserve.ensures ∙ c.new-slots.ensures) c.in_ok-degree.ensures.entered) in
    let sorted : Sorts v new.vertices.vertices new.vertices.degrees old.vertices.ready old.vertices.stuck new.vertices.ready new.vertices.stuck =
    subst (λ l. Sorts v l new.vertices.degrees old.vertices.ready old.vertices.stuck new.vertices.ready new.vertices.stuck) (sym c.sort.ensures.vertices)
    (subst (λ l. Sorts v pushed.vertices l old.vertices.ready old.vertices.stuck new.vertices.ready new.vertices.stuck) (sym c.sort.ensures.degrees)
    (subst (λ l. Sorts v pushed.vertices pushed.degrees l old.vertices.stuck new.vertices.ready new.vertices.stuck) c.push.ensures.ready
    (subst (λ l. Sorts v pushed.vertices pushed.degrees pushed.ready l new.vertices.ready new.vertices.stuck) c.push.ensures.stuck c.sort.ensures.sorted))) in
    added_first part ids classes old new once (sym size) (c.requires.sizes ∙ sym size) c.enter.new.slots c.in_ok-degree.degree v _ (c.len-vertex.ensures ∙ sym size) fresh
    (one_less _ _ c.other_homes.ensures c.requires.homed) entered
    (c.sort.ensures.vertices ∙ c.push.ensures.vertices ∙ ap (λ p. old.vertices.vertices ++ with_class p ∷ []) c.none.ensures) (c.sort.ensures.degrees ∙ c.push.ensures.degrees) sorted
  where
    one_less : (n m : ℕ) → n ≡ m - 1 → 1 ≤ m → suc n ≡ m
    one_less n m e le = omega (arith, e, le)
