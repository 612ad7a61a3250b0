use Rattle.std.proofs.Common.{length, ◌-◌, ◌≤◌, take}
use Rattle.dt_outside.specs.Sink.{Adds}
use Rattle.dt_outside.proofs.sinks.write_all.Given as goal

-- what was written so far stands behind what the sink held, and its count did not fall
abbrev pub invariant-loop-written : goal.invariant-loop-written
invariant-loop-written g l =
    (l.written ≤ length l.piece)
    × Adds (g.O.Sink.seen l.fn.out).held (g.O.Sink.seen l.out).held (take l.written l.piece)
    × ((g.O.Sink.seen l.fn.out).faults ≤ (g.O.Sink.seen l.out).faults)

abbrev pub decreases-loop-written : goal.decreases-loop-written
decreases-loop-written g l = length l.piece - l.written
