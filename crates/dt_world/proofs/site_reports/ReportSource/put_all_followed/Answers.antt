use Rattle.std.proofs.Common.{◌++◌, append-nil, refl, sym, ap, subst, ◌∙◌}
use Rattle.std.specs.List.{flat_map}
use Rattle.dt_lists.specs.Lists.{AllIn}
use Rattle.dt_report.specs.Printable.{IsPrintableReply}
use Rattle.dt_report.specs.Report.{reply_line}
use Rattle.dt_world.specs.SessionReplayInner.{replies_at}
use Rattle.dt_world.specs.ReportSourceInner.{ReportSourceView}
use Rattle.dt_world.proofs.Reports.{replies_whole}
use Rattle.dt_world.proofs.site_reports.ReportSource.put_all_followed.Goals as goal

pub loop-at-init : goal.loop-at-init
loop-at-init g c = record { replay = c.requires.replay; lines = sym (append-nil c.args.out.now.items); printable = tt }

pub put_followed-requires-clause-events : goal.put_followed-requires-clause-events
put_followed-requires-clause-events g c = ap (λ (t : ReportSourceView). t.events) c.self.view_is

pub loop-at-preserved : goal.loop-at-preserved
loop-at-preserved g c = record {
  replay = c.in_ok-put_followed.ensures.replay;
  lines = c.in_ok-put_followed.ensures.lines c.args.out.now.items c.loop-at.invariant.lines;
  printable = c.in_ok-put_followed.ensures.printable c.loop-at.invariant.printable;
}

pub returns : goal.returns
returns g c =
    let whole = replies_whole c.args.self.now (ap (λ (t : ReportSourceView). t.events) c.self.view_is) c.loop-at.at (replies_at c.args.self.now c.loop-at.at) c.loop-at.auto.at-end c.loop-at-test.false refl in
    record {
      text = c.loop-at.invariant.lines ∙ ap (λ l. c.args.out.now.items ++ flat_map reply_line l) whole;
      printable = subst (AllIn IsPrintableReply) whole c.loop-at.invariant.printable;
    }
