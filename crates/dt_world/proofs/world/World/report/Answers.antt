use Rattle.std.proofs.Common.{◌≡◌, Bor, IfOk, map, sym, ap, subst, ◌∙◌, arith}
use Rattle.std.specs.Prelude.{filter_map}
use Rattle.dt_lists.specs.Lists.{AllIn}
use Rattle.dt_report.specs.declared.Ran.{Ran}
use Rattle.dt_report.specs.declared.Reply.{Reply}
use Rattle.dt_report.specs.declared.Report.{Report}
use Rattle.dt_table.specs.Table.{shown}
use Rattle.dt_session.specs.Run.{order_of}
use Rattle.dt_session.specs.World.{Node}
use Rattle.dt_site.specs.Site.{SiteView}
use Rattle.dt_world.specs.SitesAfter.{AreSitesAfter}
use Rattle.dt_world.specs.WorldView.{WorldView}
use Rattle.dt_world.specs.WorldReport.{IsOutcomeOf, IsReplyOf, answered_name, report_of}
use Rattle.dt_world.proofs.Reports.{answered_all, nodes_tables, outcomes_are, ran_all, replies_are, same_told, sites_after}
use Rattle.dt_world.proofs.world.World.report.Goals as goal

pub report_of_sites-requires : goal.report_of_sites-requires
report_of_sites-requires g c =
    subst (AreSitesAfter c.self.inside.cluster c.self.inside.workload c.args.events.items)
    (sym (ap (map (λ (site : Bor SiteView). site.now)) c.as_slice-2.ensures.value ∙ c.in_ok-sites.ensures ∙ c.as_slice.ensures.value))
    (sites_after c.self.invariant c.self.view_is c.args.events.items c.requires.legal c.requires.reached (omega arith))

pub returns-clause-report : goal.returns-clause-report
returns-clause-report g c = subst (λ (v : WorldView). IfOk c.report_of_sites.result (λ report. report ≡ report_of v.cluster v.workload c.args.events.items)) c.self.view_is c.report_of_sites.ensures

pub returns-clause-all_ran : goal.returns-clause-all_ran
returns-clause-all_ran g c = same_told (λ (r : Report). map (λ (x : Ran). x.id) r.order ≡ order_of c.args.events.items) c.report_of_sites.result (returns-clause-report g c)
    (ran_all c.self.invariant c.self.view_is c.args.events.items c.requires.legal c.requires.reached)

pub returns-clause-all_answered : goal.returns-clause-all_answered
returns-clause-all_answered g c = same_told (λ (r : Report). map (λ (x : Reply). x.session) r.replies ≡ filter_map answered_name c.args.events.items) c.report_of_sites.result (returns-clause-report g c)
    (answered_all c.self.invariant c.self.view_is c.args.events.items c.requires.legal c.requires.reached)

pub returns-clause-outcomes : goal.returns-clause-outcomes
returns-clause-outcomes g c =
    same_told (λ (r : Report). AllIn (λ (x : Ran). IsOutcomeOf c.args.self.now.cluster.regions c.args.self.now.state x.id x.outcome) r.order) c.report_of_sites.result (returns-clause-report g c)
    (outcomes_are c.self.invariant c.self.view_is c.args.events.items c.requires.legal c.requires.reached)

pub returns-clause-replies : goal.returns-clause-replies
returns-clause-replies g c =
    same_told (λ (r : Report). AllIn (IsReplyOf c.args.self.now.cluster.regions c.args.self.now.state) r.replies) c.report_of_sites.result (returns-clause-report g c)
    (replies_are c.self.invariant c.self.view_is c.args.events.items c.requires.legal c.requires.reached)

pub returns-clause-tables : goal.returns-clause-tables
returns-clause-tables g c =
    same_told (λ (r : Report). r.tables ≡ map (λ (n : Node). shown n.here.table) c.args.self.now.state.nodes) c.report_of_sites.result (returns-clause-report g c)
    (nodes_tables c.self.invariant c.self.view_is c.args.events.items c.requires.legal c.requires.reached)
