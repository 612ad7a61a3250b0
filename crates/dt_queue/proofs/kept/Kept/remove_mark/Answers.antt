use Rattle.std.proofs.Common.{not, ◌==◌, refl}
use Rattle.std.specs.List.{filter}
use Rattle.dt_queue.specs.declared.mark.Mark.{Mark}
use Rattle.dt_queue.specs.declared.row.Way.TheVariants as way
use Rattle.dt_queue.proofs.LanesOfCells.{changed_row, changed_whole, links_same}
use Rattle.dt_queue.proofs.kept.Kept.remove_mark.Goals as goal

pub returns-in-Read : goal.returns-in-Read
returns-in-Read c = changed_row c.args.self.now _ (filter (λ (m : Mark). not (m.number == c.args.number))) c.args.mode way.Read c.args.row c.in-Read.is c.remove.ensures.lane c.remove.ensures.others
    (links_same c.args.self.now.rows _ c.remove.ensures.heads) refl refl refl refl

pub returns-in-Write : goal.returns-in-Write
returns-in-Write c = changed_row c.args.self.now _ (filter (λ (m : Mark). not (m.number == c.args.number))) c.args.mode way.Write c.args.row c.in-Write.is c.remove-in-Write.ensures.lane c.remove-in-Write.ensures.others
    (links_same c.args.self.now.rows _ c.remove-in-Write.ensures.heads) refl refl refl refl

pub returns-in-Whole : goal.returns-in-Whole
returns-in-Whole c =
    changed_whole c.args.self.now _ (filter (λ (m : Mark). not (m.number == c.args.number))) c.args.mode c.args.row c.granule_of.result c.in-Whole.is c.granule_of.ensures c.remove-in-Whole.ensures refl refl refl refl refl
