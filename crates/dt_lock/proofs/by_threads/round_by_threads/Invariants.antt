use Rattle.dt_lock.proofs.by_threads.round_by_threads.Given as goal

abbrev pub ghosts-round_named : goal.ghosts-round_named
ghosts-round_named g a = record { before = a.region; procs = a.procs.now }
