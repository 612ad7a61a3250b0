use Rattle.std.proofs.Common.{length, inl, inr, refl}
use Rattle.dt_access.specs.declared.access.Mode.TheVariants.{Read}
use Rattle.dt_queue.specs.KeptInner.{lane}
use Rattle.dt_queue.proofs.LanesOfCells.{empty_of}
use Rattle.dt_queue.proofs.kept.Kept.has_one_near.Goals as goal

pub returns-in-Read : goal.returns-in-Read
returns-in-Read c _ = inl c.in-Read.is

pub returns-in-Write : goal.returns-in-Write
returns-in-Write c empty =
    let reads = lane c.args.self.now Read c.args.cell.now.row in
    inr (c.in-Write.is, empty_of reads (length reads) c.has_no_read.result refl (rw c.as_slice.ensures.value at c.has_no_read.ensures) empty)
