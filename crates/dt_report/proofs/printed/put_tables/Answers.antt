use Rattle.std.proofs.Common.{arith}
use Rattle.dt_report.proofs.WordsAndLines.{table_put, tables_put}
use Rattle.dt_report.proofs.printed.put_tables.Goals as goal

pub loop-region-preserved : goal.loop-region-preserved
loop-region-preserved c =
    let put = rw c.as_slice.ensures at c.in_ok-put_table.ensures in
    table_put _ _ _ c.args.tables.now c.loop-region.region c.index-tables-region.result (omega arith) c.index-tables-region.is c.loop-region.invariant put

pub returns : goal.returns
returns c = tables_put _ _ c.args.tables.now c.loop-region.region (omega arith) c.loop-region.invariant
