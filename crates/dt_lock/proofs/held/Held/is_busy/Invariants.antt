use Rattle.std.proofs.Common.{◌↔◌, drop}
use Rattle.dt_lock.specs.Held.{IsBusy}
use Rattle.dt_lock.proofs.held.Held.is_busy.Given as goal

abbrev pub invariant-loop-running : goal.invariant-loop-running
invariant-loop-running g l = IsBusy g.N.Named.before.state (drop l.running-index l.self.running) l.id ↔ IsBusy g.N.Named.before.state l.self.running l.id
