-- What holds of the text of a report. The last section has the events, so that a run can be replayed from its report
-- alone: whoever has the text has the one list of events that it ends with. Read next: `WorldReport` of dt_world, for
-- what the report says of the events.
use Rattle.std.specs.Prelude.{◌≡◌}
use Rattle.dt_report.specs.Report.{report_text}
use Rattle.dt_report.specs.Printable.{IsPrintable}
use Rattle.dt_report.specs.declared.report.Report.{Report}

-- reports of one text have the same events
abbrev pub TextsTellEvents : Type 0
TextsTellEvents = (left right : Report) → IsPrintable left → IsPrintable right → report_text left ≡ report_text right → left.events ≡ right.events
