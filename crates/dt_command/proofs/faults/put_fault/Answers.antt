use Rattle.dt_command.proofs.faults.put_fault.Goals as goal

pub returns-in-BadWorkload : goal.returns-in-BadWorkload
returns-in-BadWorkload g c = rw c.in-BadWorkload.is c.put_bad_workload.ensures

pub returns-in-BadEvents : goal.returns-in-BadEvents
returns-in-BadEvents g c = rw c.in-BadEvents.is c.put_bad_events.ensures

pub returns-in-CannotWrite : goal.returns-in-CannotWrite
returns-in-CannotWrite g c = rw c.in-CannotWrite.is c.write_all-in-CannotWrite.ensures
