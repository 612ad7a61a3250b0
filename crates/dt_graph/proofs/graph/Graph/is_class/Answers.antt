use Rattle.std.proofs.Common.{◌≡◌, ◌<◌, ◌^◌, ◌==◌, ap, length, subst, sym, arith}
use Rattle.std.proofs.lemmas.List.{nil_from_length}
use Rattle.dt_lists.specs.Lists.{AllIn, Has}
use Rattle.dt_lists.proofs.Callers.{all_map}
use Rattle.dt_waits.specs.Among.{IsAmong}
use Rattle.dt_waits.specs.Graph.{AreVerticesOf, GraphView}
use Rattle.dt_waits.specs.Steps.{HaveSlots}
use Rattle.dt_graph.proofs.Bounds.{stuck_there}
use Rattle.dt_graph.proofs.ClassAnswers.{blocked_not_resolvable, class_told, empty_told, filled_told, stuck_slots, unstuck_not_resolvable, vertices_few, vertices_once}
use Rattle.dt_graph.proofs.graph.Graph.is_class.Goals as goal

pub returns-in_default : goal.returns-in_default
returns-in_default c view resolved done k is = unstuck_not_resolvable view resolved done k c.args.self.now is c.args.ids.now (rw c.in_default.is at c.in_ok-vertices.ensures)

pub gather-requires-clause-once : goal.gather-requires-clause-once
gather-requires-clause-once c =
    rw c.as_slice.ensures.value (vertices_once c.args.self.now c.args.ids.now c.in-Some.vertices.items c.requires.ascending (rw c.in-Some.is at c.in_ok-vertices.ensures))

pub gather-requires-clause-few : goal.gather-requires-clause-few
gather-requires-clause-few c =
    let g = c.args.self.now in
    let are : AreVerticesOf g c.args.ids.now c.in-Some.vertices.items = rw c.in-Some.is at c.in_ok-vertices.ensures in
    rw c.as_slice.ensures.value
    (vertices_few g c.in-Some.vertices.items
    (subst (λ (g : GraphView). length g.ids < 2 ^ 32) c.self.view_is c.self.invariant.few)
    (subst (λ (g : GraphView). AllIn (λ v. v < length g.ids) g.stuck) c.self.view_is c.self.invariant.stuck_within)
    (vertices_once g c.args.ids.now c.in-Some.vertices.items c.requires.ascending are) are.stuck)

pub gather-requires-clause-slots : goal.gather-requires-clause-slots
gather-requires-clause-slots c =
    let are : AreVerticesOf c.args.self.now c.args.ids.now c.in-Some.vertices.items = rw c.in-Some.is at c.in_ok-vertices.ensures in
    rw c.as_slice.ensures.value
    (subst (λ (g : GraphView). HaveSlots g.waiting g.vertices c.in-Some.vertices.items) (sym c.self.view_is) (stuck_slots c.args.self.now c.requires.known c.in-Some.vertices.items are.stuck))

pub gather-requires-clause-kept : goal.gather-requires-clause-kept
gather-requires-clause-kept c =
    let are : AreVerticesOf c.args.self.now c.args.ids.now c.in-Some.vertices.items = rw c.in-Some.is at c.in_ok-vertices.ensures in
    rw c.as_slice.ensures.value
    (all_map _ _ c.in-Some.vertices.items (λ v h. (stuck_there c.self.inside.names.ids c.self.inside.waits c.self.inside.classes.items c.self.invariant v h).0)
    (subst (λ (g : GraphView). AllIn (Has g.stuck) c.in-Some.vertices.items) (sym c.self.view_is) are.stuck))

pub returns-then-not-is_empty : goal.returns-then-not-is_empty
returns-then-not-is_empty c view resolved done k is =
    let g = c.args.self.now in
    let list = c.as_slice.result.now in
    let are : AreVerticesOf g c.args.ids.now list = rw c.as_slice.ensures.value (rw c.in-Some.is at c.in_ok-vertices.ensures) in
    let x = c.in_ok-among.among in
    let among : IsAmong g.waiting list x.graph x.blocked.items = subst (λ (g : GraphView). IsAmong g.waiting list x.graph x.blocked.items) c.self.view_is c.in_ok-among.ensures in
    blocked_not_resolvable view resolved done k g is c.args.ids.now c.requires.ascending list are x.graph x.blocked.items among
    (filled_told x.blocked.items _ _ (omega (arith, x.blocked.ok.0)) c.is_empty.ensures c.if-not-is_empty.true)

pub returns : goal.returns
returns c view resolved done k is =
    let g = c.args.self.now in
    let list = c.as_slice.result.now in
    let are : AreVerticesOf g c.args.ids.now list = rw c.as_slice.ensures.value (rw c.in-Some.is at c.in_ok-vertices.ensures) in
    let x = c.in_ok-among.among in
    let among : IsAmong g.waiting list x.graph x.blocked.items = subst (λ (g : GraphView). IsAmong g.waiting list x.graph x.blocked.items) c.self.view_is c.in_ok-among.ensures in
    let free = nil_from_length x.blocked.items (empty_told x.blocked.items _ _ (omega (arith, x.blocked.ok.0)) c.is_empty.ensures c.if-not-is_empty.false) in
    let many : c.len.result ≡ length c.in_ok-class.class.items = omega (arith, c.len.ensures, c.in_ok-class.class.ok.0) in
    class_told view resolved done k g is c.args.ids.now c.requires.ascending list are x.graph x.blocked.items among (omega (arith, c.if-ids-lt2.false)) free c.in_ok-class.class.items c.in_ok-class.ensures _
    (ap (λ n. n == length c.args.ids.now) many)
