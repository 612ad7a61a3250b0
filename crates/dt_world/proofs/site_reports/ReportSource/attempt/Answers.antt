use Rattle.std.proofs.Common.{◌≡◌, ◌≤◌, ◌-◌, Some, length, get_or, sym, ap, subst, ◌∙◌}
use Rattle.dt_txn.specs.declared.Outcome.{Outcome}
use Rattle.dt_session.specs.World.{outcome_at}
use Rattle.dt_site.specs.Site.{SiteView, attempt, no_site}
use Rattle.dt_world.specs.ReportSourceInner.{ReportSourceView, world_told}
use Rattle.dt_world.proofs.ReportLookups.{executed_there, lent_is, lent_there, outcome_told, stands_among}
use Rattle.dt_world.proofs.site_reports.ReportSource.attempt.Goals as goal

pub unreachable-requires : goal.unreachable-requires
unreachable-requires g c =
    let all = ap (λ (t : ReportSourceView). t.sites) c.self.view_is in
    let o : (o : Outcome) × (outcome_at (world_told c.args.self.now) c.args.region c.args.id ≡ Some o) = executed_there c.requires.led c.requires.region c.args.id c.requires.executed in
    let here = outcome_told c.requires.led c.self.inside.sites.now all c.requires.region c.index-self-region.result c.executing.view_is c.args.id in
    cc (o.1, here, c.in_default.ensures)

pub bounds-self-inside-id : goal.bounds-self-inside-id
bounds-self-inside-id g c =
    let all = ap (λ (t : ReportSourceView). t.sites) c.self.view_is in
    lent_there c.requires.led c.self.inside.sites.now all (stands_among c.requires.led c.requires.region c.args.id c.requires.executed).home

pub origin-requires-clause-from : goal.origin-requires-clause-from
origin-requires-clause-from g c = (stands_among c.requires.led c.requires.region c.args.id c.requires.executed).from

pub origin-requires-clause-to : goal.origin-requires-clause-to
origin-requires-clause-to g c =
    let all = ap (λ (t : ReportSourceView). t.sites) c.self.view_is in
    let among = stands_among c.requires.led c.requires.region c.args.id c.requires.executed in
    subst (λ (p : SiteView). c.args.id.seq ≤ length p.origins) (sym (lent_is c.requires.led c.self.inside.sites.now all among.home c.index-self-id.result)) among.to

pub returns : goal.returns
returns g c =
    let all = ap (λ (t : ReportSourceView). t.sites) c.self.view_is in
    let among = stands_among c.requires.led c.requires.region c.args.id c.requires.executed in
    let here = outcome_told c.requires.led c.self.inside.sites.now all c.requires.region c.index-self-region.result c.executing.view_is c.args.id in
    let site = lent_is c.requires.led c.self.inside.sites.now all among.home c.index-self-id.result in
    let whose : c.origin.result.now ≡ get_or (get_or c.args.self.now.sites c.args.id.region no_site).origins (c.args.id.seq - 1) c.origin.result.now =
    c.origin.ensures ∙ ap (λ (p : SiteView). get_or p.origins (c.args.id.seq - 1) c.origin.result.now) site in
    record {
      submission = among.submission;
      found = among.found;
      origin_is = among.origin c.origin.result.now ∙ ap (attempt among.submission.txn) (sym whose);
      outcome_is = sym here ∙ sym c.in-Some.ensures;
    }
