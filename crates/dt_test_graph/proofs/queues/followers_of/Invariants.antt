use Rattle.std.proofs.Common.{length}
use Rattle.dt_test_graph.proofs.queues.followers_of.Given as goal

abbrev pub decreases-loop-follower : goal.decreases-loop-follower
decreases-loop-follower l = length l.followers
