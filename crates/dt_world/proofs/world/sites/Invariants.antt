use Rattle.std.proofs.Common.{◌≡◌, map}
use Rattle.std.specs.List.{range_with_len}
use Rattle.dt_lists.specs.Lists.{AllIn}
use Rattle.dt_region.specs.Sound.{IsSoundRegion}
use Rattle.dt_session.specs.World.{opening_table}
use Rattle.dt_site.specs.Site.{opening_site}
use Rattle.dt_world.proofs.world.sites.Given as goal

abbrev pub invariant-loop-number : goal.invariant-loop-number
invariant-loop-number g l = record {
  opening : l.sites.items ≡ map (λ number. opening_site number l.cluster.regions (opening_table l.cluster)) (range_with_len 0 l.number);
  sound : AllIn (λ site. IsSoundRegion site.region.state) l.sites.items;
}
