use Rattle.std.proofs.Common.{Ok, List, length, map, ap, subst, ◌∙◌}
use Rattle.std.proofs.lemmas.List.{length-map}
use Rattle.dt_txn.specs.Execution.{seen_of}
use Rattle.dt_txn.specs.ReadingInner.{AreReads}
use Rattle.dt_txn.specs.declared.outcome.Seen.{Seen}
use Rattle.dt_txn.proofs.Sight.{reads_are_uses}
use Rattle.dt_txn.proofs.execution.execute.Goals as goal

pub result_of-requires-clause-reads : goal.result_of-requires-clause-reads
result_of-requires-clause-reads c =
    let seen : List Seen = map (seen_of c.args.table.now.state) c.as_slice.result.now in
    let are : AreReads c.as_slice.result.now seen (Ok c.in-Ok.reads) = subst (AreReads c.as_slice.result.now seen) c.in-Ok.is c.in_ok-reads.ensures in
    reads_are_uses c.args.procs.now c.args.txn.now _ seen _ are.1 c.as_slice.ensures.same (length-map c.as_slice.result.now (seen_of c.args.table.now.state) ∙ ap length c.as_slice.ensures.same) c.requires.uses
