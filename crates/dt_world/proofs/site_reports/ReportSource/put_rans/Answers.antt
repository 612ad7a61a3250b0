use Rattle.std.proofs.Common.{◌++◌, append-nil, refl, sym, ap, subst, ◌∙◌}
use Rattle.std.specs.List.{flat_map}
use Rattle.dt_lists.specs.Lists.{AllIn}
use Rattle.dt_report.specs.Printable.{IsPrintableRan}
use Rattle.dt_report.specs.Report.{ran_line}
use Rattle.dt_world.specs.SessionReplayInner.{rans_at}
use Rattle.dt_world.specs.ReportSourceInner.{ReportSourceView}
use Rattle.dt_world.proofs.Reports.{order_whole}
use Rattle.dt_world.proofs.site_reports.ReportSource.put_rans.Goals as goal

pub loop-at-init : goal.loop-at-init
loop-at-init g c = record { seen = c.requires.seen; lines = sym (append-nil c.args.out.now.items); printable = tt }

pub put_noted-requires-clause-events : goal.put_noted-requires-clause-events
put_noted-requires-clause-events g c = ap (λ (t : ReportSourceView). t.events) c.self.view_is

pub loop-at-preserved : goal.loop-at-preserved
loop-at-preserved g c = record {
  seen = c.in_ok-put_noted.ensures.seen;
  lines = c.in_ok-put_noted.ensures.lines c.args.out.now.items c.loop-at.invariant.lines;
  printable = c.in_ok-put_noted.ensures.printable c.loop-at.invariant.printable;
}

pub returns : goal.returns
returns g c =
    let whole = order_whole c.args.self.now (ap (λ (t : ReportSourceView). t.events) c.self.view_is) c.loop-at.at (rans_at c.args.self.now c.loop-at.at) c.loop-at.auto.at-end c.loop-at-test.false refl in
    record {
      text = c.loop-at.invariant.lines ∙ ap (λ l. c.args.out.now.items ++ flat_map ran_line l) whole;
      printable = subst (AllIn IsPrintableRan) whole c.loop-at.invariant.printable;
    }
