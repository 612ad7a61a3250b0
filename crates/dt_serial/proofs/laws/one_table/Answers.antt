use Rattle.dt_serial.specs.Order.{ByTest}
use Rattle.dt_serial.proofs.Outcome.{one_set, one_restricted}
use Rattle.dt_serial.proofs.laws.one_table.Goals as goal

pub returns-clause-members : goal.returns-clause-members
returns-clause-members c procs precedes start history left right p q same = one_set procs (ByTest precedes) start history p.fits left right p.members q.members p.down q.down same

pub returns-clause-restricted : goal.returns-clause-restricted
returns-clause-restricted c procs precedes start history txns p = one_restricted procs (ByTest precedes) start history p.fits txns p.members p.down
