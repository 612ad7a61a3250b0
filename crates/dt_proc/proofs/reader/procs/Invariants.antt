use Rattle.std.proofs.Common.{◌≤◌, length}
use Rattle.dt_proc.proofs.ProcsWalk.{Going}
use Rattle.dt_proc.proofs.reader.procs.Given as goal

abbrev pub invariant-loop-rest : goal.invariant-loop-rest
invariant-loop-rest l = record {
  going : Going l.tokens l.procs.items l.rest;
  shorter : length l.rest ≤ length l.tokens;
}

abbrev pub decreases-loop-rest : goal.decreases-loop-rest
decreases-loop-rest l = length l.rest
