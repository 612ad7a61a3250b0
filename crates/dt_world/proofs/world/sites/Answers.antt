use Rattle.std.proofs.Common.{◌≡◌, map, sym, ap, subst, ◌∙◌, arith}
use Rattle.std.specs.List.{range_with_len}
use Rattle.dt_lists.specs.Lists.{AllIn}
use Rattle.dt_lists.proofs.Callers.{all_more}
use Rattle.dt_region.specs.Sound.{IsSoundRegion}
use Rattle.dt_session.specs.World.{opening_table}
use Rattle.dt_site.specs.Site.{SiteView, opening_site}
use Rattle.dt_world.proofs.Opening.{opened_more}
use Rattle.dt_world.proofs.world.sites.Goals as goal

pub loop-number-preserved : goal.loop-number-preserved
loop-number-preserved g c = record {
  opening = opened_more c.args.cluster.now c.loop-number.number c.loop-number.sites.items c.push.new.self.items c.in_ok-first_site.field-0
      c.loop-number.invariant.opening c.in_ok-first_site.ensures.opening c.in_ok-push.ensures.items;
  sound = subst (AllIn (λ (site : SiteView). IsSoundRegion site.region.state)) (sym c.in_ok-push.ensures.items)
      (all_more (λ site. IsSoundRegion site.region.state) c.loop-number.sites.items c.in_ok-first_site.field-0 c.loop-number.invariant.sound c.in_ok-first_site.ensures.sound);
}

pub first_site-requires-clause-cluster : goal.first_site-requires-clause-cluster
first_site-requires-clause-cluster g c = c.requires

pub first_site-requires-clause-homes : goal.first_site-requires-clause-homes
first_site-requires-clause-homes g c = c.in_ok-opening.ensures.homes

pub first_site-requires-clause-rows : goal.first_site-requires-clause-rows
first_site-requires-clause-rows g c = c.in_ok-opening.ensures.rows

pub first_site-requires-clause-number : goal.first_site-requires-clause-number
first_site-requires-clause-number g c = c.loop-number-test.true

pub returns-clause-opening : goal.returns-clause-opening
returns-clause-opening g c =
    let cluster = c.args.cluster.now in
    let all : c.loop-number.number ≡ cluster.regions = omega (arith, c.loop-number.auto.number-end, c.loop-number-test.false) in
    c.loop-number.invariant.opening ∙ ap (λ n. map (λ number. opening_site number cluster.regions (opening_table cluster)) (range_with_len 0 n)) all

pub returns-clause-sound : goal.returns-clause-sound
returns-clause-sound g c = c.loop-number.invariant.sound
