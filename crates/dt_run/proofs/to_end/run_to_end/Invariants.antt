use Rattle.dt_run.specs.SeatsInner.{SeatCan, SeatGoes}
use Rattle.dt_run.proofs.to_end.run_to_end.Given as goal

-- the helpers of a run are lent seats, whose turns they make
abbrev pub ghosts-with_links : goal.ghosts-with_links
ghosts-with_links g a = record { links = a.links.items; can = SeatCan a.setting.now.cluster.procs; goes = SeatGoes a.setting.now.cluster.procs }
