use Rattle.std.proofs.Common.{◌∙◌, sym}
use Rattle.dt_eval.proofs.RowParts.{written_where_changed}
use Rattle.dt_eval.proofs.rows.changed_rows.Goals as goal

pub returns-then-are_all : goal.returns-then-are_all
returns-then-are_all c = written_where_changed c.args.items.items c.args.changed.now c.requires (sym c.if-are_all.true ∙ c.are_all.ensures)
