use Rattle.std.proofs.Common.{◌≡◌, ◌≤◌, false, Bor, IfOk, length, map, refl, ap, subst, sym, ◌∙◌}
use Rattle.dt_site.specs.Site.{SiteView}
use Rattle.dt_run.specs.EndOfRun.{IsAllDone}
use Rattle.dt_run.specs.NodesView.{NodesView, marks_at}
use Rattle.dt_run.specs.Run.{IsRunReport}
use Rattle.dt_run.specs.SeatsInner.{SeatView}
use Rattle.dt_run.proofs.KeptLists.{sites_by_nodes}
use Rattle.dt_run.proofs.RunLaws.{merged_of_seen, report_told, sites_after}
use Rattle.dt_run.proofs.nodes.Nodes.report.Goals as goal

pub report_of_sites-requires : goal.report_of_sites-requires
report_of_sites-requires g c =
    sites_after c.self.invariant.seated.nodes (subst (λ (v : NodesView). v.broken ≡ false) (sym c.self.view_is) c.requires.sound)
    (subst (λ (v : NodesView). 1 ≤ length (marks_at v 0)) (sym c.self.view_is) c.requires.phases) (subst IsAllDone (sym c.self.view_is) c.requires.done)
    (merged_of_seen c.self.view_is refl c.in_ok-events.ensures)
    (ap (map (λ (site : Bor SiteView). site.now)) c.as_slice-2.ensures.value ∙ c.in_ok-sites.ensures ∙ ap (map (λ (s : SeatView). s.node.site)) c.as_slice.ensures.value ∙ sites_by_nodes _)

pub returns : goal.returns
returns g c =
    subst (λ v. IfOk c.report_of_sites.result (IsRunReport v)) c.self.view_is
    (report_told c.self.invariant.seated.nodes (subst (λ (v : NodesView). v.broken ≡ false) (sym c.self.view_is) c.requires.sound)
    (subst (λ (v : NodesView). 1 ≤ length (marks_at v 0)) (sym c.self.view_is) c.requires.phases) (subst IsAllDone (sym c.self.view_is) c.requires.done)
    (merged_of_seen c.self.view_is refl c.in_ok-events.ensures)
    c.report_of_sites.result c.report_of_sites.ensures)
