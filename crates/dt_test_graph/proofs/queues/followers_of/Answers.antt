use Rattle.std.proofs.Common.{ap, arith, length}
use Rattle.dt_test_graph.proofs.queues.followers_of.Goals as goal

pub loop-follower-smaller : goal.loop-follower-smaller
loop-follower-smaller c = omega (arith, ap length c.in-Some.ensures)
