use Rattle.std.proofs.Common.{sym, subst}
use Rattle.dt_region.specs.Conditions.{IsTableFor}
use Rattle.dt_region.proofs.Callers.{no_rows_fit}
use Rattle.dt_test_world.proofs.regions.first_of_two.Goals as goal

pub new-requires-2-clause-table : goal.new-requires-2-clause-table
new-requires-2-clause-table c = subst (IsTableFor 2) (sym c.in_ok-table.ensures) (no_rows_fit 2)
