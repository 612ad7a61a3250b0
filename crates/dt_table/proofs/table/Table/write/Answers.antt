use Rattle.dt_table.specs.StoredMovesInner.{table_view}
use Rattle.dt_table.proofs.table.Table.write.Goals as goal

pub returns-clause-state : goal.returns-clause-state
returns-clause-state c = rw (← c.self.view_is) (λ i. record (table_view c.self.inside).state { values = c.put.ensures.entries i })
