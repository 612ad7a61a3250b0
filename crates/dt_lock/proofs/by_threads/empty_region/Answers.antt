use Rattle.std.proofs.Common.{sym, subst}
use Rattle.dt_region.specs.Conditions.{IsTableFor}
use Rattle.dt_region.proofs.Callers.{no_rows_fit}
use Rattle.dt_lock.proofs.by_threads.empty_region.Goals as goal

pub new-requires-2-clause-table : goal.new-requires-2-clause-table
new-requires-2-clause-table g c = subst (IsTableFor 1) (sym c.in_ok-new.ensures) (no_rows_fit 1)
