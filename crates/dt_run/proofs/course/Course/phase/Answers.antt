use Rattle.dt_run.proofs.PhaseOfTurns.{AreTurnedWhole, ends_apart, in_step_made, phase_failed, phase_made, seats_can, turned_whole}
use Rattle.dt_run.proofs.PhaseRuns.{comes_to_an_end, failed_running, kept_fits, phase_counts, quiet_fits, running_now}
use Rattle.dt_run.proofs.course.Course.phase.Given.{Over}
use Rattle.dt_run.proofs.course.Course.phase.Goals as goal
use Rattle.dt_run.proofs.course.Course.phase.Goals.{After-beside_all}

-- the seats after turns of which none failed
whole : (g : Over) (c : After-beside_all g) → AreTurnedWhole c.turn_with.new.seats.items c.beside_all.new.seats c.turn_with.new.seats.len
whole g c = turned_whole c.turn_with.new.seats.ok.0 c.as_mut_slice.ensures.value c.as_slice.ensures.value (c.some_failed.ensures.0 c.if-some_failed.false) c.beside_all.ensures

pub turn_with-requires-clause-can : goal.turn_with-requires-clause-can
turn_with-requires-clause-can g c κs within = seats_can c.requires.running.seated c.requires.sound

pub returns-then-some_failed-clause-running : goal.returns-then-some_failed-clause-running
returns-then-some_failed-clause-running g c = failed_running c.requires.running c.requires.sound c.turn_with.ensures

pub returns-then-some_failed-clause-phase : goal.returns-then-some_failed-clause-phase
returns-then-some_failed-clause-phase g c = phase_failed c.requires.running.seated c.requires.sound c.turn_with.ensures

pub beside_all-requires : goal.beside_all-requires
beside_all-requires g c =
    ends_apart c.requires.running.seated c.requires.sound c.turn_with.ensures c.as_mut_slice.ensures.value

pub after-self-requires-clause-kept : goal.after-self-requires-clause-kept
after-self-requires-clause-kept g c =
    kept_fits c.requires.running c.requires.sound c.turn_with.ensures (whole g (goal.at.after-self-requires-clause-kept g c).After-beside_all) c.as_slice-2.ensures.value

pub after-self-requires-clause-quiet : goal.after-self-requires-clause-quiet
after-self-requires-clause-quiet g c =
    quiet_fits c.requires.running c.requires.sound c.turn_with.ensures (whole g (goal.at.after-self-requires-clause-quiet g c).After-beside_all) c.as_slice-2.ensures.value

pub returns-clause-running : goal.returns-clause-running
returns-clause-running g c =
    running_now c.requires.running c.requires.sound c.turn_with.ensures (whole g (goal.at.returns-clause-running g c).After-beside_all) c.as_slice-2.ensures.value
    c.after-self.ensures.made c.after-self.ensures.kept c.after-self.ensures.quiet

pub returns-clause-phase : goal.returns-clause-phase
returns-clause-phase g c =
    phase_made c.requires.running.seated c.requires.sound c.turn_with.ensures (whole g (goal.at.returns-clause-phase g c).After-beside_all)

pub returns-clause-in_step : goal.returns-clause-in_step
returns-clause-in_step g c =
    in_step_made c.requires.running.seated c.requires.sound c.turn_with.ensures (whole g (goal.at.returns-clause-in_step g c).After-beside_all)

pub returns-clause-counted : goal.returns-clause-counted
returns-clause-counted g c =
    phase_counts c.requires.running c.requires.sound c.turn_with.ensures (whole g (goal.at.returns-clause-counted g c).After-beside_all)

pub returns-clause-ends : goal.returns-clause-ends
returns-clause-ends g c =
    comes_to_an_end c.requires.running c.requires.sound c.turn_with.ensures (whole g (goal.at.returns-clause-ends g c).After-beside_all)
