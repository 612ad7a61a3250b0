use Rattle.dt_test_round.proofs.steps.alone.Goals as goal

pub feed-requires : goal.feed-requires
feed-requires g c = c.in_ok-region.ensures.fed c.args.procs.now
