use Rattle.dt_lists.proofs.Callers.{all_put}
use Rattle.dt_serial.specs.Order.{ByTest}
use Rattle.dt_serial.proofs.Runs.{movers_ran}
use Rattle.dt_serial.proofs.History.{chain}
use Rattle.dt_serial.proofs.Outcome.{move_numbered, moves_front, flag_up, flag_down}
use Rattle.dt_serial.proofs.laws.moves_of_a_unit.Goals as goal

pub returns-clause-in_order : goal.returns-clause-in_order
returns-clause-in_order c procs precedes start history fits key = chain procs (ByTest precedes) start history fits key

pub returns-clause-numbered : goal.returns-clause-numbered
returns-clause-numbered c procs precedes start history fits key i m e = move_numbered procs (ByTest precedes) start history fits key i m e

pub returns-clause-first : goal.returns-clause-first
returns-clause-first c procs precedes start history txns p key = moves_front procs (ByTest precedes) start history p.fits txns key p.members p.down

pub returns-clause-own : goal.returns-clause-own
returns-clause-own c procs precedes start history txns p key = movers_ran procs txns start key (p.fits.unmoved key)

pub returns-clause-next : goal.returns-clause-next
returns-clause-next c procs precedes start history front x rest p = all_put _ x.access (λ a k by. (
  flag_down procs (ByTest precedes) start history p.fits front x rest a by p.members p.down k,
  λ r. flag_up procs (ByTest precedes) start history p.fits front x rest a by p.members p.down k r.0 r.1,
))
