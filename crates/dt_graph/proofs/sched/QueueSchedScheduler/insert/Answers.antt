use Rattle.std.proofs.Common.{refl, sym, subst}
use Rattle.dt_lists.proofs.Callers.{at_back}
use Rattle.dt_sched.specs.Sched.{CanInsert}
use Rattle.dt_sched.specs.Views.{log_at}
use Rattle.dt_waits.proofs.Callers.{keeping_pushed}
use Rattle.dt_graph.proofs.sched.QueueSchedScheduler.insert.Goals as goal

pub invariant_of-self-2 : goal.invariant_of-self-2
invariant_of-self-2 c =
    let part = c.args.part.now in
    rw c.after-self-inside.ensures
    (keeping_pushed _ c.self.inside.graph c.self.invariant part part _ c.insert.new.self refl (at_back (log_at c.self.inside.seen.sched.logs part.home) part)
    (subst (λ s. CanInsert s.logs part) (sym c.self.view_is) c.requires) c.in_ok-insert.ensures.ascending c.in_ok-insert.ensures.inserted)
