use Rattle.std.proofs.Common.{◌≡◌, Bor, map, take}
use Rattle.dt_site.specs.Site.{SiteView}
use Rattle.dt_world.proofs.world.each_lent.Given as goal

abbrev pub invariant-loop-site : goal.invariant-loop-site
invariant-loop-site g l = map (λ (site : Bor SiteView). site.now) l.lent.items ≡ take l.site-index l.sites
