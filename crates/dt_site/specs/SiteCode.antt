-- How a site is told apart from another. The toolchain wants a code of each type whose values contracts see: how a value is
-- stored as a pair of its fields, and is the same again when it is read from there. Nothing is promised here, and only the
-- `impl Model` of `Site` and the codes of what holds sites name it. Read `Site` for what a site is, then `StandsIn`.
use Rattle.std.specs.Prelude.{List, refl}
use Rattle.std.specs.Coded.{Coded, code_by, coded×, coded_list}
use Rattle.dt_region.specs.Region.{RegionView}
use Rattle.dt_region.specs.RegionCode.{region_code}
use Rattle.dt_site.specs.contracts.site.Origin as origin
use Rattle.dt_site.specs.declared.site.Origin.{Origin}
use Rattle.dt_site.specs.Site.{SiteView}

-- a site is stored as its fields
abbrev pub site_code : Coded SiteView
site_code = code_by (RegionView × List Origin) (coded× region_code (coded_list origin.the_row.coded)) (λ p. (p.region, p.origins)) (λ q. record { region = q.0; origins = q.1 }) (λ _. refl)
