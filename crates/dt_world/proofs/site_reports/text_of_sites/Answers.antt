use Rattle.std.proofs.Common.{length, refl, sym, ap, subst, ◌∙◌, arith}
use Rattle.std.proofs.lemmas.List.{length-map}
use Rattle.dt_report.specs.Printable.{IsPrintable}
use Rattle.dt_report.specs.Report.{report_text}
use Rattle.dt_report.specs.ShownTables.{all_shown}
use Rattle.dt_world.specs.WorldReport.{rans_of, replies_of}
use Rattle.dt_world.proofs.CountedIds.{counted}
use Rattle.dt_world.proofs.Reports.{parts_told}
use Rattle.dt_world.proofs.TextByLines.{text_is}
use Rattle.dt_world.proofs.site_reports.text_of_sites.Goals as goal

pub returns : goal.returns
returns g c =
    let tables = ap all_shown c.as_slice.ensures.value ∙ c.in_ok-tables.ensures in
    let whole = parts_told c.args.sites.now c.requires refl refl tables refl in
    let many = ap length tables ∙ length-map c.args.sites.now _ ∙ sym (length-map c.args.sites.now _) ∙ c.requires.many in
    record {
      text = text_is (replies_of c.args.cluster c.args.workload c.args.events.now) (rans_of c.args.cluster c.args.workload c.args.events.now) (all_shown c.as_slice.result.now)
          c.args.events.now
          c.in_ok-text.ensures c.in_ok-put_replies_and_order.ensures.text c.in_ok-put_all_shown.ensures.text c.in_ok-put_events.ensures
          ∙ ap report_text whole;
      printable = subst IsPrintable whole (record {
        replies = c.in_ok-put_replies_and_order.ensures.replies;
        order = c.in_ok-put_replies_and_order.ensures.order;
        regions = (let few = c.requires.valid.few in omega (arith, many, few));
        tables = c.in_ok-put_all_shown.ensures.printable;
        events = c.events_are_written.ensures;
      });
    }

pub events_are_written-requires : goal.events_are_written-requires
events_are_written-requires g c = counted (record { sound = c.requires.valid; fits = c.requires.fits; legal = c.requires.legal })
