use Rattle.std.proofs.Common.{◌≡◌, IfOk, subst}
use Rattle.dt_site.specs.Site.{SiteView, opening_site}
use Rattle.dt_site.proofs.site.first_site.Goals as goal

pub returns-clause-opening : goal.returns-clause-opening
returns-clause-opening g c =
    subst (λ t. IfOk c.new.result (λ (site : SiteView). site ≡ opening_site c.args.number c.args.cluster.now.regions t)) c.in_ok-table.ensures.opening c.new.ensures.opening
