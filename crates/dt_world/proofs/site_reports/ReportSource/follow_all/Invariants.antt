use Rattle.std.proofs.Common.{◌≡◌}
use Rattle.dt_world.specs.SessionReplayInner.{replay_at, replies_at}
use Rattle.dt_world.proofs.site_reports.ReportSource.follow_all.Given as goal

abbrev pub invariant-loop-at : goal.invariant-loop-at
invariant-loop-at g l = record {
  replay : l.replay ≡ replay_at l.self l.at;
  replies : l.replies ≡ replies_at l.self l.at;
}
