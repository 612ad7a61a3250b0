use Rattle.std.proofs.Common.{◌∙◌, ap}
use Rattle.dt_txn.specs.Execution.{reads_of}
use Rattle.dt_txn.proofs.Sight.{reads_are_uses}
use Rattle.dt_txn.proofs.execution.execute_seen.Goals as goal

pub result_of-requires-clause-reads : goal.result_of-requires-clause-reads
result_of-requires-clause-reads c =
    reads_are_uses c.args.procs.now c.args.txn.now _ c.args.seen.now _ (c.in_ok-reads.ensures ∙ ap (reads_of c.as_slice-access.result.now) c.as_slice-2.ensures) c.as_slice-access.ensures.same c.requires.seen c.requires.uses
