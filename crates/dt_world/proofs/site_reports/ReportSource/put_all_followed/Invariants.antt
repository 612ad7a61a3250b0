-- The lines so far, and that their replies are printable.
use Rattle.std.proofs.Common.{◌≡◌, ◌++◌}
use Rattle.std.specs.List.{flat_map}
use Rattle.dt_lists.specs.Lists.{AllIn}
use Rattle.dt_report.specs.Printable.{IsPrintableReply}
use Rattle.dt_report.specs.Report.{reply_line}
use Rattle.dt_world.specs.SessionReplayInner.{replay_at, replies_at}
use Rattle.dt_world.proofs.site_reports.ReportSource.put_all_followed.Given as goal

abbrev pub invariant-loop-at : goal.invariant-loop-at
invariant-loop-at g l = record {
  replay : l.replay ≡ replay_at l.self l.at;
  lines : l.out.items ≡ l.initial.out.items ++ flat_map reply_line (replies_at l.self l.at);
  printable : AllIn IsPrintableReply (replies_at l.self l.at);
}
