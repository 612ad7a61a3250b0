use Rattle.std.proofs.Common.{◌≡◌, length, refl, sym, ap, subst, arith}
use Rattle.std.specs.Vec.Iter.{into_iter_items}
use Rattle.dt_lists.specs.Lists.{AllIn, Has}
use Rattle.dt_waits.specs.Graph.{AllAreStuck, GraphView}
use Rattle.dt_graph.specs.HeldInner.{kept_of}
use Rattle.dt_graph.proofs.Bounds.{stuck_is_kept}
use Rattle.dt_graph.proofs.QuestionAnswers.{named_stuck}
use Rattle.dt_graph.proofs.RunOrder.{all_came, all_numbered, gathered, members_more, run_in_order}
use Rattle.dt_graph.proofs.graph.Graph.in_order.Goals as goal
use Rattle.dt_graph.proofs.graph.Graph.in_order.Goals.{in-Some+in_ok-push, in_default}

pub get-requires : goal.get-requires
get-requires c =
    let g : GraphView = kept_of c.self.inside.names.ids c.self.inside.waits c.self.inside.classes.items in
    stuck_is_kept c.self.inside.names.ids c.self.inside.waits c.self.inside.classes.items c.self.invariant c.in-Some.vertex
    (named_stuck g c.args.ids.now c.loop-id.id-index _ c.self.invariant.stuck_within c.loop-id-test.true refl c.in-Some.vertex c.in-Some.ensures.once c.in-Some.ensures.number
    (subst (λ g. AllAreStuck g c.args.ids.now) (sym c.self.view_is) c.requires.stuck))

pub loop-id-preserved : goal.loop-id-preserved
loop-id-preserved c =
    let g : GraphView = kept_of c.self.inside.names.ids c.self.inside.waits c.self.inside.classes.items in
    elim c.match-number_of.branch [
      | in-Some+in_ok-push w ↦
          let rank = ap (λ x. x.rank) w.get.ensures in
          rw (← c.self.view_is, w.members-is, w.in_ok-push.ensures.items)
          (members_more g c.args.ids.now c.loop-id.id-index (record { seq = 0; region = 0 }) c.loop-id.members.items w.get.result.now.rank w.in-Some.vertex c.loop-id-test.true
          (rw (← c.self.view_is) at c.loop-id.invariant) w.in-Some.ensures.number rank)
      | in_default w ↦
          absurd (all_numbered g c.args.ids.now c.loop-id.id-index (record { seq = 0; region = 0 }) c.number_of.result (subst (λ g. AllIn (Has g.ids) c.args.ids.now) (sym c.self.view_is) c.requires.there)
          c.loop-id-test.true w.in_default.is c.number_of.ensures.number)
    ]

pub returns : goal.returns
returns c =
    let none : length (into_iter_items c.loop-member.member-iterator) ≡ 0 = omega (arith, c.in-None.ensures.steps.0, c.loop-member.member-iterator.rest.ok.0) in
    rw (all_came c.loop-member.vertices (into_iter_items c.loop-member.member-iterator)
    (into_iter_items c.into_iter-member-iterator.result) c.sort.new.self.items c.loop-member.invariant c.into_iter-member-iterator.ensures.into_iter_gives.0 none)
    (run_in_order c.args.self.now c.args.ids.now c.loop-id.members.items c.sort.new.self.items c.requires.once
    (gathered c.args.self.now c.args.ids.now c.loop-id.id-index c.loop-id.members.items c.loop-id-test.false c.loop-id.invariant) c.in_ok-sort.ensures.permutation c.in_ok-sort.ensures.sorted)
