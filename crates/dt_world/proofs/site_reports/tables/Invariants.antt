use Rattle.std.proofs.Common.{◌≡◌, Bor, map, take}
use Rattle.dt_table.specs.Table.{shown}
use Rattle.dt_site.specs.Site.{SiteView}
use Rattle.dt_world.proofs.site_reports.tables.Given as goal

abbrev pub invariant-loop-site : goal.invariant-loop-site
invariant-loop-site g l = l.tables ≡ map (λ (p : Bor SiteView). shown p.now.region.state.here.table) (take l.site-index l.sites)
