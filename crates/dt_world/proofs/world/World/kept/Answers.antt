use Rattle.std.proofs.Common.{◌<◌, [], length, get_or, sym, ap, ◌∙◌, arith}
use Rattle.std.proofs.lemmas.Grind.{common_steps}
use Rattle.std.proofs.Math.ListN.{get_or-map}
use Rattle.dt_events.specs.Stamps.{events_of}
use Rattle.dt_region.specs.Region.{RegionView}
use Rattle.dt_site.specs.Site.{no_site}
use Rattle.dt_world.specs.WorldInner.{kept_in}
use Rattle.dt_world.specs.WorldView.{WorldView}
use Rattle.dt_world.proofs.WorldLaws.{a_site, behind}
use Rattle.dt_world.proofs.WorldFacts.{a_number}
use Rattle.dt_world.proofs.world.World.kept.Goals as goal

pub index-requires : goal.index-requires
index-requires g c = let here : c.args.region < length c.self.inside.sites.items = a_site c.self.invariant (a_number c.self.invariant c.self.view_is c.requires) in grind (arith, common_steps, here)

pub returns : goal.returns
returns g c =
    let lr = a_number c.self.invariant c.self.view_is c.requires in
    let site = behind (a_site c.self.invariant lr) c.index.ensures c.behind-self.view_is in
    ap events_of (c.events.ensures ∙ ap (λ (r : RegionView). r.events) site.region_is)
    ∙ sym (get_or-map kept_in c.self.inside.sites.items c.args.region no_site) ∙ ap (λ (v : WorldView). get_or v.kept c.args.region []) c.self.view_is
