use Rattle.dt_waits.proofs.DegreeZero.{free_by_degree}
use Rattle.dt_waits.proofs.ChainsOfWaits.{reach_by_queues}
use Rattle.dt_waits.proofs.laws.neighbours_are_enough.Goals as goal

pub returns-clause-reach_by_queues : goal.returns-clause-reach_by_queues
returns-clause-reach_by_queues c = reach_by_queues

pub returns-clause-free_by_degree : goal.returns-clause-free_by_degree
returns-clause-free_by_degree c = free_by_degree
