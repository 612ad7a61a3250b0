-- The lines so far, and that their attempts are printable.
use Rattle.std.proofs.Common.{◌≡◌, ◌++◌, take}
use Rattle.std.specs.List.{flat_map}
use Rattle.dt_lists.specs.Lists.{AllIn}
use Rattle.dt_report.specs.Printable.{IsPrintableRan}
use Rattle.dt_report.specs.Report.{ran_line}
use Rattle.dt_session.specs.Run.{order_of}
use Rattle.dt_world.specs.MarksInner.{AreMarkedIds}
use Rattle.dt_world.specs.SessionReplayInner.{rans_at}
use Rattle.dt_world.proofs.site_reports.ReportSource.put_rans.Given as goal

abbrev pub invariant-loop-at : goal.invariant-loop-at
invariant-loop-at g l = record {
  seen : AreMarkedIds l.seen (order_of (take l.at l.self.events));
  lines : l.out.items ≡ l.initial.out.items ++ flat_map ran_line (rans_at l.self l.at);
  printable : AllIn IsPrintableRan (rans_at l.self l.at);
}
