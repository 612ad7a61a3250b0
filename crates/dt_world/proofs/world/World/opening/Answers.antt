use Rattle.std.proofs.Common.{◌≡◌, ◌∙◌, List, ◌++◌, length, take, refl, sym, ap, subst}
use Rattle.std.proofs.lemmas.List.{take_at}
use Rattle.dt_lists.specs.Lists.{AllIn}
use Rattle.dt_region.specs.Sound.{IsSoundRegion}
use Rattle.dt_site.specs.Site.{SiteView}
use Rattle.dt_world.specs.WorldInner.{IsLawful, opening_sites, view_in}
use Rattle.dt_world.specs.WorldSessions.{WorldSessions}
use Rattle.dt_world.specs.WorldView.{opening_view}
use Rattle.dt_world.proofs.Opening.{begun_from}
use Rattle.dt_world.proofs.world.World.opening.Given.{Over}
use Rattle.dt_world.proofs.world.World.opening.Goals as goal
use Rattle.dt_world.proofs.world.World.opening.Goals.{In_ok-sessions}

-- with room made in them, the sites are as they were
sites_same : (g : Over) (c : In_ok-sessions g) → c.expect_calls.new.sites ≡ c.in_ok-sites.sites.items
sites_same g c = c.expect_calls.ensures ∙ c.as_mut_slice.ensures.value

-- so they are the opening ones
sites_open : (g : Over) (c : In_ok-sessions g) → c.expect_calls.new.sites ≡ opening_sites c.args.cluster
sites_open g c = sites_same g c ∙ c.in_ok-sites.ensures.opening

sites_sound : (g : Over) (c : In_ok-sessions g) → AllIn (λ (site : SiteView). IsSoundRegion site.region.state) c.expect_calls.new.sites
sites_sound g c = subst (AllIn (λ (site : SiteView). IsSoundRegion site.region.state)) (sym (sites_same g c)) c.in_ok-sites.ensures.sound

-- they are all that the list has
sites_many : (g : Over) (c : In_ok-sessions g) → length c.expect_calls.new.sites ≡ c.in_ok-sites.sites.len
sites_many g c = ap length (sites_same g c) ∙ sym c.in_ok-sites.sites.ok.0

-- so the world begins, whatever stands behind the sites in the list
begins : (g : Over) (c : In_ok-sessions g) (rest : List SiteView) →
    let sessions : WorldSessions = record { workload = c.args.workload; by_region = c.in_ok-sessions.field-0.items } in
    let sites = take c.in_ok-sites.sites.len (c.expect_calls.new.sites ++ rest) in
    IsLawful c.args.cluster sessions sites 0 × (view_in c.args.cluster sessions sites 0 ≡ opening_view c.args.cluster c.args.workload)
begins g c rest =
    let all = take_at c.expect_calls.new.sites rest c.in_ok-sites.sites.len (sites_many g c) in
    begun_from c.args.cluster c.args.cluster c.args.workload c.args.workload c.in_ok-sessions.field-0.items _ refl refl
    c.requires.cluster c.requires.workload c.in_ok-sessions.ensures (all ∙ sites_open g c) (subst (AllIn (λ (site : SiteView). IsSoundRegion site.region.state)) (sym all) (sites_sound g c))

pub invariant_of-result : goal.invariant_of-result
invariant_of-result g c = (begins g c _).0

pub returns : goal.returns
returns g c = (begins g c _).1
