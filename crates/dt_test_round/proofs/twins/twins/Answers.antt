use Rattle.dt_test_round.proofs.twins.twins.Goals as goal

pub feed-requires-clause-fed : goal.feed-requires-clause-fed
feed-requires-clause-fed g c = c.in_ok-region.ensures.fed c.args.procs.now
