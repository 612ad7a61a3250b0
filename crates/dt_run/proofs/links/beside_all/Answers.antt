use Rattle.std.proofs.Common.{arith}
use Rattle.dt_run.proofs.RowBeside.{beside_ends, beside_goes, row_here}
use Rattle.dt_run.proofs.links.beside_all.Goals as goal

pub beside_from-requires : goal.beside_from-requires
beside_from-requires g c = row_here c.loop-source.invariant (omega arith) c.requires

pub loop-source-preserved : goal.loop-source-preserved
loop-source-preserved g c = beside_goes c.loop-source.invariant (omega arith) c.beside_from.ensures

pub returns : goal.returns
returns g c = beside_ends c.loop-source.invariant (omega arith) (omega arith)
