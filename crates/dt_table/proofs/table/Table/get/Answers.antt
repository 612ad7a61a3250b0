use Rattle.std.proofs.Common.{sym, ◌∙◌}
use Rattle.dt_table.proofs.StoredUnits.{value_of-view}
use Rattle.dt_table.proofs.table.Table.get.Goals as goal

pub returns : goal.returns
returns c = rw (← c.self.view_is) (c.get.ensures ∙ sym (value_of-view c.self.inside c.args.key.now))
