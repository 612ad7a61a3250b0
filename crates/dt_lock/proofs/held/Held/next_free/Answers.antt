use Rattle.std.proofs.Common.{◌<◌, None, Some, sym, subst}
use Rattle.dt_lock.proofs.NextFree.{ArePassed, ids_left, one_left_less, one_passed, passed_all, ready_there}
use Rattle.dt_lock.proofs.held.Held.next_free.Goals as goal

pub returns-in_default : goal.returns-in_default
returns-in_default g c =
    passed_all g.N.Named.before.state c.args.self.now c.ids.busy.items c.ids.invariant
    (ready_there _ c.args.self.now c.self.view_is c.ids.busy.items c.as_slice.result.now c.as_slice.ensures.value c.in_ok-id.field-0 None c.in_default.is c.in_ok-id.ensures)

pub ids-smaller : goal.ids-smaller
ids-smaller g c =
    let h = c.args.self.now in
    let ready = ready_there _ h c.self.view_is c.ids.busy.items c.as_slice.result.now c.as_slice.ensures.value c.in_ok-id.field-0 (Some c.in-Some.id) c.in-Some.is c.in_ok-id.ensures in
    subst (λ l. ids_left h l < ids_left h c.ids.busy.items) (sym c.in_ok-push.ensures.items)
    (one_left_less g.N.Named.before.state h c.ids.busy.items c.ids.invariant c.in-Some.id ready (c.is_busy.ensures.0 c.if-not-is_busy.false))

pub ids-preserved : goal.ids-preserved
ids-preserved g c =
    let h = c.args.self.now in
    let ready = ready_there _ h c.self.view_is c.ids.busy.items c.as_slice.result.now c.as_slice.ensures.value c.in_ok-id.field-0 (Some c.in-Some.id) c.in-Some.is c.in_ok-id.ensures in
    subst (ArePassed g.N.Named.before.state h) (sym c.in_ok-push.ensures.items)
    (one_passed g.N.Named.before.state h c.ids.busy.items c.ids.invariant c.in-Some.id ready (c.is_busy.ensures.0 c.if-not-is_busy.false))
