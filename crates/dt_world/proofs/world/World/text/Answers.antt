use Rattle.std.proofs.Common.{◌≡◌, ◌<◌, Bor, map, sym, ap, subst, ◌∙◌, arith}
use Rattle.dt_report.specs.Report.{report_text}
use Rattle.dt_site.specs.Site.{SiteView}
use Rattle.dt_world.specs.SitesAfter.{AreSitesAfter}
use Rattle.dt_world.specs.WorldView.{WorldView}
use Rattle.dt_world.specs.WorldReport.{report_of}
use Rattle.dt_world.proofs.Reports.{sites_after}
use Rattle.dt_world.proofs.world.World.text.Goals as goal

pub text_of_sites-requires : goal.text_of_sites-requires
text_of_sites-requires g c =
    let made = ap (λ (v : WorldView). v.steps) c.self.view_is in
    let few : c.self.inside.steps < 4294967296 = let fits = c.steps-made.type_inv in let same = c.steps-made.ensures in omega (arith, made, fits, same) in
    subst (AreSitesAfter c.self.inside.cluster c.self.inside.workload c.args.events.now)
    (sym (ap (map (λ (site : Bor SiteView). site.now)) c.as_slice-2.ensures.value ∙ c.in_ok-lent.ensures ∙ c.as_slice.ensures.value))
    (sites_after c.self.invariant c.self.view_is c.args.events.now c.requires.legal c.requires.reached few)

pub returns : goal.returns
returns g c = record {
  text = subst (λ (v : WorldView). c.in_ok-text.text.items ≡ report_text (report_of v.cluster v.workload c.args.events.now)) c.self.view_is c.in_ok-text.ensures.text;
  told = (c.self.inside.cluster, c.self.inside.workload, c.in_ok-text.ensures.text, c.in_ok-text.ensures.printable);
}
