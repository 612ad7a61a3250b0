use Rattle.std.proofs.Common.{arith}
use Rattle.dt_queue.proofs.LanesOfCells.{none_kept}
use Rattle.dt_queue.proofs.kept.Kept.new.Goals as goal

pub returns-clause-kept : goal.returns-clause-kept
returns-clause-kept c = none_kept _ c.new-2.ensures.linked c.new.ensures.empty c.new-2.ensures.table c.new-4.ensures c.new-3.ensures.logs c.new-3.ensures.last (omega arith) (omega arith)
