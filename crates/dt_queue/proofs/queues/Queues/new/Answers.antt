use Rattle.std.proofs.Common.{ap, map}
use Rattle.slab.specs.Slab.{entries_from}
use Rattle.dt_queue.specs.KeptInner.{entry, in_order}
use Rattle.dt_queue.proofs.queues.Queues.new.Goals as goal

pub returns : goal.returns
returns c = ap (λ l. map (entry c.new.result.rows.names.keys) (in_order (entries_from 0 l))) c.new.ensures.empty
