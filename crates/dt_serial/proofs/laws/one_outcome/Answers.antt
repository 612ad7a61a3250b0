use Rattle.dt_serial.specs.Order.{ByTest}
use Rattle.dt_serial.proofs.Outcome.{one_outcome, single_outcome}
use Rattle.dt_serial.proofs.laws.one_outcome.Goals as goal

pub returns-clause-part : goal.returns-clause-part
returns-clause-part c procs precedes start history txns p = one_outcome procs (ByTest precedes) start history p.fits txns p.members p.down

pub returns-clause-single : goal.returns-clause-single
returns-clause-single c procs precedes start history fits = single_outcome procs (ByTest precedes) start history fits
