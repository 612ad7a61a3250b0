use Rattle.dt_txn.proofs.Staleness.{one_first, one_otherwise, stale_exactly}
use Rattle.dt_txn.proofs.laws.stale_outcomes.Goals as goal

pub returns-clause-exactly : goal.returns-clause-exactly
returns-clause-exactly c = stale_exactly

pub returns-clause-first : goal.returns-clause-first
returns-clause-first c = one_first

pub returns-clause-otherwise : goal.returns-clause-otherwise
returns-clause-otherwise c = one_otherwise
