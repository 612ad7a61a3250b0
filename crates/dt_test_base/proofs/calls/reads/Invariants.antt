use Rattle.std.proofs.Common.{◌≡◌, ◌++◌, map, drop}
use Rattle.dt_test_base.proofs.calls.reads.Given as goal

abbrev pub invariant-loop-place : goal.invariant-loop-place
invariant-loop-place l = map (λ read. read.0) l.reads ++ map (λ used. used.0) (drop l.place l.keys) ≡ map (λ used. used.0) l.keys
