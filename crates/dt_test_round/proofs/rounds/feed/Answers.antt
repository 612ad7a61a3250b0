use Rattle.std.proofs.Common.{◌+◌, length}
use Rattle.dt_test_round.proofs.Opening.{can_round}
use Rattle.dt_test_round.proofs.rounds.feed.Goals as goal

pub returns : goal.returns
returns g c = can_round c.args.procs.now (length c.args.story.calls.now + length c.args.story.rows.now) c.feed_all.new.region c.in_ok-feed_all.ensures.few c.in_ok-feed_all.ensures.fed
