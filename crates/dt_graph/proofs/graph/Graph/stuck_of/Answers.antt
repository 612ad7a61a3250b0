use Rattle.std.proofs.Common.{refl, true≢false, sym, ◌∙◌}
use Rattle.dt_waits.specs.Graph.{GraphView}
use Rattle.dt_graph.specs.HeldInner.{kept_of}
use Rattle.dt_graph.proofs.QuestionAnswers.{named_not_stuck, stuck_more, unnamed_not_stuck}
use Rattle.dt_graph.proofs.graph.Graph.stuck_of.Goals as goal
use Rattle.dt_graph.proofs.graph.Graph.stuck_of.Goals.{in_default-via-in-Some+else-is_stuck, in_default-via-in_default}

pub returns-in_default : goal.returns-in_default
returns-in_default c =
    let g : GraphView = kept_of c.self.inside.names.ids c.self.inside.waits c.self.inside.classes.items in
    rw (← c.self.view_is) elim c.in_default.branch [
      | in_default-via-in-Some+else-is_stuck w ↦
          named_not_stuck g _ _ _ c.self.invariant.stuck_within c.loop-id-test.true refl _ w.in-Some.ensures.once w.in-Some.ensures.number
          (λ h. true≢false (sym (w.is_stuck.ensures.1 h) ∙ w.if-is_stuck.false))
      | in_default-via-in_default w ↦ unnamed_not_stuck g _ _ _ c.self.invariant.stuck_within c.loop-id-test.true refl w.in_default.ensures.number
    ]

pub loop-id-preserved : goal.loop-id-preserved
loop-id-preserved c =
    rw (← c.self.view_is, c.in_ok-push-in-Some.ensures.items)
    (stuck_more _ _ _ _ _ _ c.loop-id-test.true (rw (← c.self.view_is) at c.loop-id.invariant) c.in-Some.ensures.number (c.is_stuck.ensures.0 c.if-is_stuck.true))
