use Rattle.dt_txn.specs.Serial.{table_after}
use Rattle.dt_serial.specs.Order.{ByTest}
use Rattle.dt_serial.proofs.OneTransaction.{live_of_outcome}
use Rattle.dt_serial.proofs.Outcome.{counters_reached, counters_exact}
use Rattle.dt_serial.proofs.laws.reached_counters.Goals as goal

pub returns-clause-reached : goal.returns-clause-reached
returns-clause-reached c procs precedes start history front x rest p = counters_reached procs (ByTest precedes) start history p.fits front x rest p.members p.down

pub returns-clause-exact : goal.returns-clause-exact
returns-clause-exact c procs precedes start history front x rest p fresh = counters_exact procs (ByTest precedes) start history p.fits front x rest p.members p.down (live_of_outcome procs x (table_after procs front start) fresh)
