use Rattle.std.proofs.Common.{take}
use Rattle.dt_queue.specs.TableInner.{lanes_read, lanes_written}
use Rattle.dt_queue.specs.ListedInner.{Forgets, IsListedRow}
use Rattle.dt_queue.proofs.listed.forget_unused.Given as goal

abbrev pub invariant-loop-listing : goal.invariant-loop-listing
invariant-loop-listing l = Forgets (lanes_read l.table) (lanes_written l.table) (IsListedRow (take l.listing-index l.listings)) l.initial.last.items l.last.items
