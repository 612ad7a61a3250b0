use Rattle.std.proofs.Common.{ap}
use Rattle.dt_world.specs.ReportSourceInner.{ReportSourceView}
use Rattle.dt_world.proofs.Reports.{order_whole}
use Rattle.dt_world.proofs.site_reports.ReportSource.note_all.Goals as goal

pub loop-at-init : goal.loop-at-init
loop-at-init g c = record { seen = c.requires.seen; order = c.requires.order }

pub note-requires-clause-events : goal.note-requires-clause-events
note-requires-clause-events g c = ap (λ (t : ReportSourceView). t.events) c.self.view_is

pub returns : goal.returns
returns g c = order_whole c.args.self.now (ap (λ (t : ReportSourceView). t.events) c.self.view_is) c.loop-at.at c.loop-at.order c.loop-at.auto.at-end c.loop-at-test.false c.loop-at.invariant.order
