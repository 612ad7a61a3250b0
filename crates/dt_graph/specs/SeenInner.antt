-- What the scheduler with queues is seen as after a change. What it keeps of what is left in the graph stands in Graph.antt of
-- dt_waits. Read next: `HeldInner`, for how it is kept.
use Rattle.dt_sched.specs.Sched.{Sched, after_finish, after_insert, after_resolve}
use Rattle.dt_graph.specs.declared.seen.Change.{Change}
use Rattle.dt_graph.specs.declared.seen.Change.TheVariants.{Finished, Inserted, Resolved}

-- a part was inserted, a class resolved or an id done
abbrev pub after_change : Sched → Change → Sched
after_change s (Inserted part) = after_insert s part.now
after_change s (Resolved ids) = after_resolve s ids.now
after_change s (Finished id) = after_finish s id
