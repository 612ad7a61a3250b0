use Rattle.std.proofs.lemmas.Grind.{common_steps}
use Rattle.std.proofs.Common.{◌<◌, refl, length, sym, ap, subst, ◌∙◌, arith}
use Rattle.dt_region.specs.Region.{RegionView, held}
use Rattle.dt_events.specs.declared.Event.TheVariants.{Append}
use Rattle.dt_session.specs.Step.{IsLegal}
use Rattle.dt_site.proofs.Callers.{asked_held}
use Rattle.dt_world.specs.WorldView.{WorldView}
use Rattle.dt_world.proofs.OneSite.{region_here, same_lawful, same_view, stamp_here}
use Rattle.dt_world.proofs.Rule2Append.{append_done, append_not, asks, can_place, few_asked, id_in, wanted_in}
use Rattle.dt_world.proofs.WorldLaws.{IsMade, SiteOf, a_site, holds_site, made_before, out_of_memory, with_region}
use Rattle.dt_world.proofs.WorldFacts.{steps_few}
use Rattle.dt_world.proofs.world.World.append.Given.{Over}
use Rattle.dt_world.proofs.world.World.append.Goals as goal
use Rattle.dt_world.proofs.world.World.append.Goals.{After-behind-self, After-behind-self-2, In_ok-append_owned}

-- the site of the request's source
source : (g : Over) (c : After-behind-self g) → SiteOf c.self.invariant c.args.source c.behind-self.inside.region c.behind-self.inside.origins.items
source g c = holds_site c.self.invariant c.if-source-self.false c.index.ensures c.behind-self.view_is

-- the home's site
home : (g : Over) (c : After-behind-self-2 g) → SiteOf c.self.invariant c.args.home c.behind-self-2.inside.region c.behind-self-2.inside.origins.items
home g c = holds_site c.self.invariant c.if-home-self.false c.index_mut.ensures.value c.behind-self-2.view_is

pub asked-asked-requires : goal.asked-asked-requires
asked-asked-requires g c =
    let from = source g (goal.at.asked-asked-requires g c).After-behind-self in
    region_here from c.args.home c.if-home-self.false

pub unreachable-requires : goal.unreachable-requires
unreachable-requires g c =
    let from = source g (goal.at.unreachable-requires g c).After-behind-self in
    let wanted = wanted_in from.site c.args.home c.args.number c.asked-asked.ensures c.if-number-asked.false in
    let there = asked_held c.self.invariant.reached c.if-home-self.false c.if-source-self.false (c.self.invariant.stands c.args.source c.if-source-self.false) c.args.number wanted in
    let here = ap (λ (r : RegionView). held r.state (id_in c.asked-asked.result.now c.args.number)) from.site.region_is in
    cc (there.1, here, c.in_default.ensures)

pub append_owned-requires-clause-source : goal.append_owned-requires-clause-source
append_owned-requires-clause-source g c =
    let here = home g (goal.at.append_owned-requires-clause-source g c).After-behind-self-2 in
    region_here here c.args.source c.if-source-self.false

pub append_owned-requires-clause-can : goal.append_owned-requires-clause-can
append_owned-requires-clause-can g c =
    let from = source g (goal.at.append_owned-requires-clause-can g c).After-behind-self in
    let request = asks from.site c.args.home c.args.number c.asked-asked.ensures c.if-number-asked.false c.in-Some.ensures c.in_ok-txn.ensures in
    let here = home g (goal.at.append_owned-requires-clause-can g c).After-behind-self-2 in
    can_place here c.if-source-self.false request (omega (arith, steps_few c.self.invariant c.self.view_is c.requires))

-- the part is placed
placed : (g : Over) (c : In_ok-append_owned g) →
    let w = c.self.inside in
    IsMade w.cluster (record { workload = w.workload; by_region = w.sessions.items }) w.sites.items w.steps (Append c.args.home c.args.source c.args.number)
    (record { workload = w.workload; by_region = w.sessions.items }) (with_region w.sites.items c.args.home c.append_owned.new.self c.behind-self-2.inside.origins.items)
placed g c =
    let from = holds_site c.self.invariant c.if-source-self.false c.index.ensures c.behind-self.view_is in
    let request = asks from.site c.args.home c.args.number c.asked-asked.ensures c.if-number-asked.false c.in-Some.ensures c.in_ok-txn.ensures in
    let here = holds_site c.self.invariant c.if-home-self.false c.index_mut.ensures.value c.behind-self-2.view_is in
    append_done here c.if-source-self.false request c.append_owned.new.self c.in_ok-append_owned.field-0 c.in_ok-append_owned.ensures.makes c.append_owned.ensures.sound

pub invariant_of-self-2 : goal.invariant_of-self-2
invariant_of-self-2 g c = (placed g (goal.at.invariant_of-self-2 g c).In_ok-append_owned).lawful

pub returns : goal.returns
returns g c = made_before c.self.view_is (placed g (goal.at.returns g c).In_ok-append_owned)

pub index-requires : goal.index-requires
index-requires g c = let here : c.args.source < length c.self.inside.sites.items = a_site c.self.invariant c.if-source-self.false in grind (arith, common_steps, here)

pub index_mut-requires : goal.index_mut-requires
index_mut-requires g c = let here : c.args.home < length c.self.inside.sites.items = a_site c.self.invariant c.if-home-self.false in grind (arith, common_steps, here)

pub invariant_of-self : goal.invariant_of-self
invariant_of-self g c =
    let here = home g (goal.at.invariant_of-self g c).After-behind-self-2 in
    same_lawful here c.append_owned.new.self c.in_err-append_owned.ensures.makes

pub returns-then-number-asked : goal.returns-then-number-asked
returns-then-number-asked g c =
    let from = source g (goal.at.returns-then-number-asked g c).After-behind-self in
    let beyond = few_asked from.site c.args.home c.args.number c.asked-asked.ensures c.if-number-asked.true in (
      refl,
      λ l. append_not c.self.invariant c.args.home c.args.source c.args.number beyond
          (subst (λ (v : WorldView). IsLegal v.cluster v.workload v.state (Append c.args.home c.args.source c.args.number)) (sym c.self.view_is) l),
      refl,
    )

pub returns-in_err-append_owned : goal.returns-in_err-append_owned
returns-in_err-append_owned g c =
    let here = home g (goal.at.returns-in_err-append_owned g c).After-behind-self-2 in
    out_of_memory (Append c.args.home c.args.source c.args.number) _ c.from_residual-in_err-append_owned.ensures.1
    (same_view here c.append_owned.new.self c.in_err-append_owned.ensures.makes ∙ c.self.view_is)

pub append_owned-requires-clause-stamp : goal.append_owned-requires-clause-stamp
append_owned-requires-clause-stamp g c =
    let here = home g (goal.at.append_owned-requires-clause-stamp g c).After-behind-self-2 in
    stamp_here here (steps_few c.self.invariant c.self.view_is c.requires)
