use Rattle.std.proofs.Common.{◌∙◌, ◌<◌, ◌^◌, ℕ, ap, length, subst, sym}
use Rattle.dt_lists.specs.Lists.{AllIn, Distinct}
use Rattle.dt_lists.proofs.Callers.{all_put}
use Rattle.dt_class.specs.Graphs.{AreAllBlocked, AreVertices, IsInClass, IsSource}
use Rattle.dt_waits.specs.Among.{IsAmong}
use Rattle.dt_waits.specs.Graph.{GraphView}
use Rattle.dt_graph.specs.SmallStepsInner.{AreIdsAt}
use Rattle.dt_waits.specs.Steps.{HaveSlots}
use Rattle.dt_graph.proofs.ClassAnswers.{blocked_within, chosen, few_stuck, none_chosen, stuck_slots, vertices_few}
use Rattle.dt_graph.proofs.graph.Graph.some_class.Goals as goal

pub returns-then-stuck-lt2 : goal.returns-then-stuck-lt2
returns-then-stuck-lt2 c view resolved done k is =
    let list = c.stuck-stuck.result.now in
    few_stuck view resolved done k c.args.self.now is list (c.stuck-stuck.ensures.items ∙ ap (λ (g : GraphView). g.stuck) c.self.view_is) (rw c.stuck-stuck.ensures.items c.stuck-stuck.ensures.once)
    c.if-stuck-lt2.true

pub gather-requires-clause-few : goal.gather-requires-clause-few
gather-requires-clause-few c =
    rw (c.stuck-stuck.ensures.items)
    (subst (λ (g : GraphView). Distinct g.stuck → length g.stuck < 2 ^ 32) (sym c.self.view_is)
    (λ once. vertices_few c.args.self.now c.args.self.now.stuck
    (subst (λ (g : GraphView). length g.ids < 2 ^ 32) c.self.view_is c.self.invariant.few)
    (subst (λ (g : GraphView). AllIn (λ v. v < length g.ids) g.stuck) c.self.view_is c.self.invariant.stuck_within)
    once (all_put _ c.args.self.now.stuck (λ v h. h)))
    c.stuck-stuck.ensures.once)

pub gather-requires-clause-slots : goal.gather-requires-clause-slots
gather-requires-clause-slots c =
    rw c.stuck-stuck.ensures.items
    (subst (λ (g : GraphView). HaveSlots g.waiting g.vertices g.stuck) (sym c.self.view_is) (stuck_slots c.args.self.now c.requires c.args.self.now.stuck (all_put _ c.args.self.now.stuck (λ v h. h))))

pub gather-requires-clause-kept : goal.gather-requires-clause-kept
gather-requires-clause-kept c = rw c.stuck-stuck.ensures.items c.self.invariant.stuck_kept

pub source_class-requires : goal.source_class-requires
source_class-requires c = rw c.as_slice.ensures.value (blocked_within _ _ _ _ c.in_ok-among.ensures)

pub ids_at-requires-clause-list : goal.ids_at-requires-clause-list
ids_at-requires-clause-list c = rw (← c.self.view_is, c.stuck-stuck.ensures.items) c.self.invariant.stuck_within

pub ids_at-requires-clause-places : goal.ids_at-requires-clause-places
ids_at-requires-clause-places c =
    let x = c.in_ok-among.among.graph in
    let list = c.stuck-stuck.result.now in
    let found : (v : ℕ) × IsSource x c.as_slice.result.now v × AreVertices x (IsInClass x v) c.in-Some.places.items = rw c.in-Some.is at c.in_ok-places.ensures in
    rw c.as_slice-in-Some.ensures.value (subst (λ n. AllIn (λ p. p < n) c.in-Some.places.items) c.in_ok-among.ensures.vertices found.2.within)

pub returns-in-Some : goal.returns-in-Some
returns-in-Some c view resolved done k is =
    let g = c.args.self.now in
    let list = c.stuck-stuck.result.now in
    let x = c.in_ok-among.among in
    let among : IsAmong g.waiting list x.graph x.blocked.items = subst (λ (g : GraphView). IsAmong g.waiting list x.graph x.blocked.items) c.self.view_is c.in_ok-among.ensures in
    let found : (v : ℕ) × IsSource x.graph x.blocked.items v × AreVertices x.graph (IsInClass x.graph v) c.in-Some.places.items = rw (← c.as_slice.ensures.value) (rw c.in-Some.is at c.in_ok-places.ensures) in
    chosen view resolved done k g is list (c.stuck-stuck.ensures.items ∙ ap (λ (g : GraphView). g.stuck) c.self.view_is) (rw c.stuck-stuck.ensures.items c.stuck-stuck.ensures.once)
    x.graph x.blocked.items among c.in-Some.places.items found c.in_ok-ids_at-in-Some.field-0 (subst (λ ps. AreIdsAt g.ids list ps c.in_ok-ids_at-in-Some.field-0) c.as_slice-in-Some.ensures.value c.in_ok-ids_at-in-Some.ensures)

pub returns : goal.returns
returns c view resolved done k is =
    let g = c.args.self.now in
    let list = c.stuck-stuck.result.now in
    let x = c.in_ok-among.among in
    let among : IsAmong g.waiting list x.graph x.blocked.items = subst (λ (g : GraphView). IsAmong g.waiting list x.graph x.blocked.items) c.self.view_is c.in_ok-among.ensures in
    let none : AreAllBlocked x.graph x.blocked.items = rw (← c.as_slice.ensures.value) (rw c.in-None.is at c.in_ok-places.ensures) in
    none_chosen view resolved done k g is list (c.stuck-stuck.ensures.items ∙ ap (λ (g : GraphView). g.stuck) c.self.view_is) (rw c.stuck-stuck.ensures.items c.stuck-stuck.ensures.once)
    x.graph x.blocked.items among none
