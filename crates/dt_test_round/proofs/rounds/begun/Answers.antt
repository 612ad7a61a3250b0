use Rattle.std.proofs.Common.{sym, subst}
use Rattle.dt_region.specs.Conditions.{IsTableFor}
use Rattle.dt_test_round.specs.BegunRegion.{begun_rows}
use Rattle.dt_test_round.proofs.Opening.{fed_none, rows_fit}
use Rattle.dt_test_round.proofs.rounds.begun.Goals as goal

pub new-requires-clause-table : goal.new-requires-clause-table
new-requires-clause-table g c = subst (IsTableFor c.args.regions) (sym c.in_ok-table.ensures) (rows_fit c.args.regions begun_rows)

pub returns-clause-fed : goal.returns-clause-fed
returns-clause-fed g c procs = fed_none procs c.args.number c.args.regions begun_rows c.in_ok-new.field-0 _ c.in_ok-table.ensures c.in_ok-new.ensures.opening
