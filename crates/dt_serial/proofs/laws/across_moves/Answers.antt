use Rattle.dt_serial.specs.Order.{ByTest}
use Rattle.dt_serial.proofs.Outcome.{across_moves, before_next}
use Rattle.dt_serial.proofs.laws.across_moves.Goals as goal

pub returns-clause-ordered : goal.returns-clause-ordered
returns-clause-ordered c procs precedes start history fits x y o p = across_moves procs (ByTest precedes) start history fits x y o p

pub returns-clause-before_next : goal.returns-clause-before_next
returns-clause-before_next c procs precedes start history fits x o = before_next procs (ByTest precedes) start history fits x o
