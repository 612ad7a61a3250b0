use Rattle.std.proofs.Common.{arith}
use Rattle.dt_test_round.proofs.Opening.{can_round}
use Rattle.dt_test_round.proofs.twins.feed.Goals as goal

pub returns-clause-can : goal.returns-clause-can
returns-clause-can g c = can_round c.args.procs.now 4 c.place-2.new.region (omega arith) c.in_ok-place-2.ensures.fed
