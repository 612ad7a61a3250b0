use Rattle.std.proofs.Common.{sym, subst}
use Rattle.dt_sched.specs.Sched.{CanExecute}
use Rattle.dt_waits.proofs.Callers.{keeping_finish}
use Rattle.dt_graph.proofs.sched.QueueSchedScheduler.finish.Goals as goal

pub invariant_of-self : goal.invariant_of-self
invariant_of-self c =
    rw c.after-self-inside.ensures
    (keeping_finish _ c.self.inside.graph c.self.invariant c.args.id c.finish.new.self (subst (λ s. CanExecute s c.args.id) (sym c.self.view_is) c.requires.executable) c.finish.ensures)
