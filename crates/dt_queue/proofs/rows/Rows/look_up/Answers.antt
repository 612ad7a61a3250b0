use Rattle.dt_lists.proofs.Callers.{found_at, missed}
use Rattle.dt_queue.proofs.RowLists.{same_name, tells_name}
use Rattle.dt_queue.proofs.rows.Rows.look_up.Goals as goal

pub add_row-requires-clause-absent : goal.add_row-requires-clause-absent
add_row-requires-clause-absent c = rw c.in_ok-copy-in-None.ensures.same (missed same_name tells_name (c.args.home, c.args.key.now) c.args.self.now.names.keys c.in-None.ensures.index)

pub returns-in-Some-clause-found : goal.returns-in-Some-clause-found
returns-in-Some-clause-found c = found_at same_name tells_name (c.args.home, c.args.key.now) c.args.self.now.names.keys c.in-Some.row c.in-Some.ensures.index
