use Rattle.std.proofs.Common.{◌≡◌, [], ◌∷◌, ◌++◌, codes}
use Rattle.std.specs.List.{flat_map}
use Rattle.std.proofs.lemmas.Result.{on_ok_weaker}
use Rattle.dt_report.specs.Report.{line_of, order_text, ran_line}
use Rattle.dt_world.specs.WorldReport.{rans_of}
use Rattle.dt_world.proofs.TextByLines.{section_is}
use Rattle.dt_world.proofs.site_reports.ReportSource.put_order.Goals as goal

pub returns : goal.returns
returns g c =
    let rans = rans_of c.args.self.now.cluster c.args.self.now.workload c.args.self.now.events in
    record {
      text = on_ok_weaker {Q = c.put_rans.new.out.items ≡ c.args.out.now.items ++ order_text rans} c.put_rans.result
          (λ put. section_is c.args.out.now.items (line_of (codes "order" ∷ [])) (flat_map ran_line rans) c.in_ok-begin_order.ensures put) c.put_rans.ensures.text;
      printable = c.put_rans.ensures.printable;
    }
