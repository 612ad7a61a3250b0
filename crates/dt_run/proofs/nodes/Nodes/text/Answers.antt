use Rattle.std.proofs.Common.{◌≡◌, ◌≤◌, false, Bor, IfOk, length, map, ap, subst, sym, ◌∙◌}
use Rattle.dt_site.specs.Site.{SiteView}
use Rattle.dt_run.specs.EndOfRun.{IsAllDone}
use Rattle.dt_run.specs.NodesView.{NodesView, marks_at}
use Rattle.dt_run.specs.Run.{IsRunText}
use Rattle.dt_run.specs.SeatsInner.{SeatView}
use Rattle.dt_run.proofs.KeptLists.{sites_by_nodes}
use Rattle.dt_run.proofs.RunLaws.{merged_of_seen, sites_after, text_told}
use Rattle.dt_run.proofs.nodes.Nodes.text.Goals as goal

pub text_of_sites-requires : goal.text_of_sites-requires
text_of_sites-requires g c =
    sites_after c.self.invariant.seated.nodes (subst (λ (v : NodesView). v.broken ≡ false) (sym c.self.view_is) c.requires.sound)
    (subst (λ (v : NodesView). 1 ≤ length (marks_at v 0)) (sym c.self.view_is) c.requires.phases) (subst IsAllDone (sym c.self.view_is) c.requires.done)
    (merged_of_seen c.self.view_is c.as_slice-3.ensures.value c.in_ok-merged.ensures)
    (ap (map (λ (site : Bor SiteView). site.now)) c.as_slice-2.ensures.value ∙ c.in_ok-sites.ensures ∙ ap (map (λ (s : SeatView). s.node.site)) c.as_slice.ensures.value ∙ sites_by_nodes _)

pub returns : goal.returns
returns g c =
    subst (λ v. IfOk c.text_of_sites.result (λ text. IsRunText v text.items)) c.self.view_is
    (text_told c.self.invariant.seated.nodes (subst (λ (v : NodesView). v.broken ≡ false) (sym c.self.view_is) c.requires.sound)
    (subst (λ (v : NodesView). 1 ≤ length (marks_at v 0)) (sym c.self.view_is) c.requires.phases) (subst IsAllDone (sym c.self.view_is) c.requires.done)
    (merged_of_seen c.self.view_is c.as_slice-3.ensures.value c.in_ok-merged.ensures)
    c.text_of_sites.result c.text_of_sites.ensures.text c.text_of_sites.ensures.printable)
