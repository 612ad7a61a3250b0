use Rattle.dt_test_round.proofs.steps.beside_twin.Given as goal

abbrev pub ghosts-twin_steps_named : goal.ghosts-twin_steps_named
ghosts-twin_steps_named g a = record { before = a.twins.0; procs = a.procs.now }
