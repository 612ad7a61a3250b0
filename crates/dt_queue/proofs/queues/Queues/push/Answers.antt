use Rattle.std.proofs.Common.{[], ◌∷◌, ◌++◌, ap, arith, subst, ◌∙◌}
use Rattle.std.proofs.lemmas.Result.{IfOk-weaker, on_err_weaker}
use Rattle.dt_queue.specs.Queues.{IsQueued}
use Rattle.dt_queue.proofs.NewNumbers.{shown_length}
use Rattle.dt_queue.proofs.EntriesOfCells.{shown_fresh, shown_push, shown_same}
use Rattle.dt_queue.proofs.queues.Queues.push.Goals as goal

pub returns-clause-added : goal.returns-clause-added
returns-clause-added c =
    let k = c.make_number.new.self in
    let same = c.in_ok-make_number.ensures.same in
    rw (← c.self.view_is)
    (IfOk-weaker c.push-pushed.result _ _ (λ slot a. shown_push k c.push-pushed.new.self slot (c.args.home, c.args.key.now) c.args.mode c.args.vertex same.kept c.push-pushed.ensures.kept c.push-pushed.ensures.rows a
    ∙ ap (λ l. l ++ record { slot = slot; home = c.args.home; key = c.args.key.now; mode = c.args.mode; vertex = c.args.vertex } ∷ []) same.shown) c.push-pushed.ensures.added)

pub returns-clause-fresh : goal.returns-clause-fresh
returns-clause-fresh c =
    let k = c.make_number.new.self in
    let same = c.in_ok-make_number.ensures.same in
    rw (← c.self.view_is)
    (IfOk-weaker c.push-pushed.result _ _ (λ slot a. subst (λ l. ¬ (IsQueued l slot)) same.shown
    (shown_fresh k c.push-pushed.new.self slot (c.args.home, c.args.key.now) c.args.mode c.args.vertex same.kept a)) c.push-pushed.ensures.added)

pub returns-clause-same : goal.returns-clause-same
returns-clause-same c =
    let k = c.make_number.new.self in
    let same = c.in_ok-make_number.ensures.same in
    rw (← c.self.view_is) (on_err_weaker c.push-pushed.result (λ e. shown_same k c.push-pushed.new.self same.kept c.push-pushed.ensures.rows e ∙ same.shown) c.push-pushed.ensures.same)

pub returns-clause-few : goal.returns-clause-few
returns-clause-few c = IfOk-weaker c.push-pushed.result _ _ (λ slot a. omega (arith, shown_length c.push-pushed.new.self, c.len-entries.ensures, c.len-entries.type_inv)) c.push-pushed.ensures.added
