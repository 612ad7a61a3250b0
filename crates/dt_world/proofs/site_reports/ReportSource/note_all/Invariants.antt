use Rattle.std.proofs.Common.{◌≡◌, take}
use Rattle.dt_session.specs.Run.{order_of}
use Rattle.dt_world.specs.MarksInner.{AreMarkedIds}
use Rattle.dt_world.specs.SessionReplayInner.{rans_at}
use Rattle.dt_world.proofs.site_reports.ReportSource.note_all.Given as goal

abbrev pub invariant-loop-at : goal.invariant-loop-at
invariant-loop-at g l = record {
  seen : AreMarkedIds l.seen (order_of (take l.at l.self.events));
  order : l.order ≡ rans_at l.self l.at;
}
