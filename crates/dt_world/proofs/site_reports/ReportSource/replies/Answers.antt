use Rattle.std.proofs.Common.{◌≡◌, None, length, replicate, ap, subst, ◌∙◌}
use Rattle.dt_session.specs.World.{opening_world}
use Rattle.dt_world.specs.SessionReplayInner.{replay_of}
use Rattle.dt_world.specs.ReportSourceInner.{ReportSourceView}
use Rattle.dt_world.proofs.Reports.{course_begins}
use Rattle.dt_world.proofs.site_reports.ReportSource.replies.Goals as goal

pub follow_all-requires-clause-replay : goal.follow_all-requires-clause-replay
follow_all-requires-clause-replay g c =
    let many : c.len-sessions.result ≡ length c.self.inside.workload.now.sessions = c.len-sessions.ensures in
    let opened : c.in_ok-replay.replay ≡ replay_of (opening_world c.self.inside.cluster.now c.self.inside.workload.now) = c.in_ok-replay.ensures
    ∙ ap (λ n. record { waits = replicate n None; submitted = replicate c.self.inside.cluster.now.regions 0 }) many ∙ course_begins c.self.inside.cluster.now c.self.inside.workload.now in
    subst (λ (v : ReportSourceView). c.in_ok-replay.replay ≡ replay_of (opening_world v.cluster v.workload)) c.self.view_is opened
