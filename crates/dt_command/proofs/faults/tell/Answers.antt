use Rattle.dt_outside.proofs.Callers.{Writes-prefix, Writes-whole}
use Rattle.dt_command.proofs.faults.tell.Goals as goal

pub returns : goal.returns
returns g c = record { told = Writes-whole _ _ _ _ c.put_fault.ensures; told_prefix = Writes-prefix _ _ _ _ c.put_fault.ensures; quiet = λ done. absurd (c.in_default.not-Done done) }
