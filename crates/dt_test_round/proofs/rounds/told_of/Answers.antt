use Rattle.dt_test_round.proofs.rounds.told_of.Goals as goal

pub go_on-requires-clause-fed : goal.go_on-requires-clause-fed
go_on-requires-clause-fed g c κs within = c.in_ok-region.ensures.fed c.args.procs.now
