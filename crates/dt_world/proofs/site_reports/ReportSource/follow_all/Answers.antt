use Rattle.std.proofs.Common.{ap}
use Rattle.dt_world.specs.ReportSourceInner.{ReportSourceView}
use Rattle.dt_world.proofs.Reports.{replies_whole}
use Rattle.dt_world.proofs.site_reports.ReportSource.follow_all.Goals as goal

pub loop-at-init : goal.loop-at-init
loop-at-init g c = record { replay = c.requires.replay; replies = c.requires.replies }

pub follow-requires-clause-events : goal.follow-requires-clause-events
follow-requires-clause-events g c = ap (λ (t : ReportSourceView). t.events) c.self.view_is

pub returns : goal.returns
returns g c = replies_whole c.args.self.now (ap (λ (t : ReportSourceView). t.events) c.self.view_is) c.loop-at.at c.loop-at.replies c.loop-at.auto.at-end c.loop-at-test.false c.loop-at.invariant.replies
