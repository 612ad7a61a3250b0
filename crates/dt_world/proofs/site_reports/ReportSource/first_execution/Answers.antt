use Rattle.std.proofs.Common.{◌≡◌, Some, slice_get, refl}
use Rattle.dt_events.specs.declared.Event.TheVariants.{Execute}
use Rattle.dt_world.specs.MarksInner.{is_marked}
use Rattle.dt_world.proofs.Reports.{absent_of, event_at, not_execution, notes_again, notes_new, notes_other, present_of}
use Rattle.dt_world.proofs.site_reports.ReportSource.first_execution.Given.{Over}
use Rattle.dt_world.proofs.site_reports.ReportSource.first_execution.Goals as goal
use Rattle.dt_world.proofs.site_reports.ReportSource.first_execution.Goals.{In-Execute}

-- the event, where it is an execution
execution : (g : Over) (c : In-Execute g) → slice_get c.args.self.now.events c.args.at ≡ Some (Execute c.in-Execute.region c.in-Execute.id)
execution g c = event_at c.args.self.now c.requires.events c.args.at c.index-events-at.result (Execute c.in-Execute.region c.in-Execute.id) c.requires.at c.index-events-at.is c.in-Execute.is

pub returns-in_default : goal.returns-in_default
returns-in_default g c =
    let event = event_at c.args.self.now c.requires.events c.args.at c.index-events-at.result c.index-events-at.result c.requires.at c.index-events-at.is refl in
    let notes = notes_other c.requires.led c.args.at c.index-events-at.result event (not_execution c.index-events-at.result c.in_default.not-Execute) c.args.seen.now c.requires.seen in
    record { seen = notes.seen; adds = notes.adds }

pub returns-then-not-branch : goal.returns-then-not-branch
returns-then-not-branch g c =
    let event = execution g (goal.at.returns-then-not-branch g c).In-Execute in
    let there = present_of c.in_ok-mark.field-0 (is_marked c.args.seen.now c.in-Execute.id) c.if-not-branch.true c.in_ok-mark.ensures.first in
    let notes = notes_again c.requires.led c.args.at c.in-Execute.region c.in-Execute.id event c.args.seen.now c.mark.new.self c.requires.seen c.in_ok-mark.ensures.marks there in
    record { seen = notes.seen; adds = notes.adds }

pub returns : goal.returns
returns g c =
    let event = execution g (goal.at.returns g c).In-Execute in
    let absent = absent_of c.in_ok-mark.field-0 (is_marked c.args.seen.now c.in-Execute.id) c.if-not-branch.false c.in_ok-mark.ensures.first in
    let notes = notes_new c.requires.led c.args.at c.in-Execute.region c.in-Execute.id event c.args.seen.now c.mark.new.self c.requires.seen c.in_ok-mark.ensures.marks absent in
    record { seen = notes.seen; adds = notes.adds }
