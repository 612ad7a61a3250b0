use Rattle.std.proofs.Common.{sym, ◌∙◌}
use Rattle.dt_report.proofs.Callers.{tell_events}
use Rattle.dt_world.specs.WorldReport.{report_of}
use Rattle.dt_world.proofs.world.texts_tell_one_run.Goals as goal

pub returns : goal.returns
returns c = λ text left right l r. tell_events (report_of l.0 l.1 left) (report_of r.0 r.1 right) l.3 r.3 (sym l.2 ∙ r.2)
