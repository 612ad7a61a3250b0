use Rattle.std.proofs.Common.{sym, subst}
use Rattle.dt_sched.specs.Sched.{CanResolve}
use Rattle.dt_waits.proofs.Callers.{keeping_resolve}
use Rattle.dt_graph.proofs.sched.QueueSchedScheduler.resolve.Goals as goal

pub invariant_of-self-2 : goal.invariant_of-self-2
invariant_of-self-2 c =
    rw c.after-self-inside.ensures
    (keeping_resolve _ c.self.inside.graph c.self.invariant c.args.ids.now c.resolve.new.self (subst (λ s. CanResolve s c.args.ids.now) (sym c.self.view_is) c.requires) c.in_ok-resolve.ensures.resolved)
