use Rattle.std.proofs.Common.{◌≡◌}
use Rattle.dt_test_graph.proofs.alike.go_on.Given as goal

abbrev pub invariant-loop-call : goal.invariant-loop-call
invariant-loop-call l = (l.plain.seen.logs ≡ l.logs.items) × (l.queue.logs ≡ l.logs.items)
