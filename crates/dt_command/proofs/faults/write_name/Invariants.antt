use Rattle.std.proofs.Common.{◌≡◌, map}
use Rattle.std.specs.Slice.Iter.{chunks_rest, chunks_size}
use Rattle.dt_outside.proofs.Callers.{HasAddedUpTo}
use Rattle.dt_command.specs.Statuses.{visible_byte}
use Rattle.dt_command.proofs.faults.write_name.Given as goal

-- all was added but the bytes that are left
abbrev pub invariant-loop-run : goal.invariant-loop-run
invariant-loop-run g l =
    (goal.iterator-loop-run g).can_next l.run-iterator
    × (goal.iterator-loop-run g).is_finite l.run-iterator
    × (chunks_size l.run-iterator ≡ 256)
    × HasAddedUpTo (map visible_byte l.name) (map visible_byte (chunks_rest l.run-iterator)) (g.O.Sink.seen l.fn.out) (g.O.Sink.seen l.out)
