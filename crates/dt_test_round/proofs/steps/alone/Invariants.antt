use Rattle.dt_test_round.proofs.steps.alone.Given as goal

abbrev pub ghosts-steps_named : goal.ghosts-steps_named
ghosts-steps_named g a = record { before = a.region; procs = a.procs.now }
