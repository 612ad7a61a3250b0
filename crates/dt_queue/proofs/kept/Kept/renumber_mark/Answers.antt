use Rattle.std.proofs.Common.{map, refl}
use Rattle.dt_queue.specs.NumbersInner.{renumbered}
use Rattle.dt_queue.specs.declared.row.Way.TheVariants as way
use Rattle.dt_queue.proofs.LanesOfCells.{changed_row, changed_whole, links_same}
use Rattle.dt_queue.proofs.kept.Kept.renumber_mark.Goals as goal

pub renumber-requires-clause-gap : goal.renumber-requires-clause-gap
renumber-requires-clause-gap c = rw c.in-Read.is at c.requires.gap

pub renumber-requires-in-Write-clause-gap : goal.renumber-requires-in-Write-clause-gap
renumber-requires-in-Write-clause-gap c = rw c.in-Write.is at c.requires.gap

pub renumber-requires-in-Whole-clause-gap : goal.renumber-requires-in-Whole-clause-gap
renumber-requires-in-Whole-clause-gap c = rw c.granule_of.ensures (rw c.in-Whole.is at c.requires.gap)

pub returns-in-Read : goal.returns-in-Read
returns-in-Read c = changed_row c.args.self.now _ (map (renumbered c.args.number c.args.new)) c.args.mode way.Read c.args.row c.in-Read.is c.renumber.ensures.lane c.renumber.ensures.others
    (links_same c.args.self.now.rows _ c.renumber.ensures.heads) refl refl refl refl

pub returns-in-Write : goal.returns-in-Write
returns-in-Write c = changed_row c.args.self.now _ (map (renumbered c.args.number c.args.new)) c.args.mode way.Write c.args.row c.in-Write.is c.renumber-in-Write.ensures.lane c.renumber-in-Write.ensures.others
    (links_same c.args.self.now.rows _ c.renumber-in-Write.ensures.heads) refl refl refl refl

pub returns-in-Whole : goal.returns-in-Whole
returns-in-Whole c =
    changed_whole c.args.self.now _ (map (renumbered c.args.number c.args.new)) c.args.mode c.args.row c.granule_of.result c.in-Whole.is c.granule_of.ensures c.renumber-in-Whole.ensures refl refl refl refl refl
