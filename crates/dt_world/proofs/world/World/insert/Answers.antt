use Rattle.dt_session.specs.Step.{IsLegal}
use Rattle.dt_world.specs.WorldView.{WorldView}
use Rattle.dt_events.specs.declared.Event.TheVariants.{Insert}
use Rattle.std.proofs.lemmas.Grind.{common_steps}
use Rattle.std.proofs.Common.{refl, sym, subst, ◌∙◌, ◌<◌, length, arith, []}
use Rattle.dt_world.proofs.OneSite.{insert_done, insert_not, refused_same, region_here, same_lawful, same_view, stamp_here}
use Rattle.dt_world.proofs.WorldLaws.{SiteOf, a_site, holds_site, made_before}
use Rattle.dt_world.proofs.WorldFacts.{steps_few}
use Rattle.dt_world.proofs.world.World.insert.Given.{Over}
use Rattle.dt_world.proofs.world.World.insert.Goals as goal
use Rattle.dt_world.proofs.world.World.insert.Goals.{After-behind-self, then-region-self-via-then-region-self, then-region-self-via-else-region-self+then-home-self}

-- the region's site, which the call reaches
site : (g : Over) (c : After-behind-self g) → SiteOf c.self.invariant c.args.region c.behind-self.inside.region c.behind-self.inside.origins.items
site g c = holds_site c.self.invariant c.if-region-self.false c.index_mut.ensures.value c.behind-self.view_is

pub insert-requires-clause-home : goal.insert-requires-clause-home
insert-requires-clause-home g c = region_here (site g (goal.at.insert-requires-clause-home g c).After-behind-self) c.args.home c.if-home-self.false

pub invariant_of-self-2 : goal.invariant_of-self-2
invariant_of-self-2 g c = (insert_done (site g (goal.at.invariant_of-self-2 g c).After-behind-self) c.args.home c.if-home-self.false c.insert.new.self
    c.in_ok-insert.field-0 c.in_ok-insert.ensures.makes c.if-not-branch.false c.insert.ensures.sound).lawful

pub returns : goal.returns
returns g c = made_before c.self.view_is (insert_done (site g (goal.at.returns g c).After-behind-self) c.args.home c.if-home-self.false
    c.insert.new.self c.in_ok-insert.field-0 c.in_ok-insert.ensures.makes c.if-not-branch.false c.insert.ensures.sound)

pub index_mut-requires : goal.index_mut-requires
index_mut-requires g c = let here : c.args.region < length c.self.inside.sites.items = a_site c.self.invariant c.if-region-self.false in grind (arith, common_steps, here)

pub invariant_of-self : goal.invariant_of-self
invariant_of-self g c = same_lawful (site g (goal.at.invariant_of-self g c).After-behind-self) c.insert.new.self c.in_err-insert.ensures.makes

pub invariant_of-self-then-not-branch : goal.invariant_of-self-then-not-branch
invariant_of-self-then-not-branch g c =
    let same = refused_same [] c.behind-self.inside.region (Insert c.behind-self.inside.region.state.number c.args.home) c.in_ok-insert.field-0 c.insert.new.self c.if-not-branch.true c.in_ok-insert.ensures.makes in
    same_lawful (site g (goal.at.invariant_of-self-then-not-branch g c).After-behind-self) c.insert.new.self same

pub returns-then-not-branch : goal.returns-then-not-branch
returns-then-not-branch g c =
    let same = refused_same [] c.behind-self.inside.region (Insert c.behind-self.inside.region.state.number c.args.home) c.in_ok-insert.field-0 c.insert.new.self c.if-not-branch.true c.in_ok-insert.ensures.makes in
    let here = site g (goal.at.returns-then-not-branch g c).After-behind-self in (
      refl,
      λ l. insert_not here c.args.home c.if-home-self.false c.insert.new.self c.in_ok-insert.field-0 c.in_ok-insert.ensures.makes c.if-not-branch.true
          (subst (λ (v : WorldView). IsLegal v.cluster v.workload v.state (Insert c.args.region c.args.home)) (sym c.self.view_is) l),
      same_view here c.insert.new.self same ∙ c.self.view_is,
    )

pub insert-requires-clause-stamp : goal.insert-requires-clause-stamp
insert-requires-clause-stamp g c =
    stamp_here (site g (goal.at.insert-requires-clause-stamp g c).After-behind-self) (steps_few c.self.invariant c.self.view_is c.requires)

pub returns-then-region-self : goal.returns-then-region-self
returns-then-region-self g c =
    let here : IsLegal c.args.self.now.cluster c.args.self.now.workload c.args.self.now.state (Insert c.args.region c.args.home)
    → IsLegal c.self.inside.cluster c.self.inside.workload _ (Insert c.args.region c.args.home) =
    λ l. subst (λ (v : WorldView). IsLegal v.cluster v.workload v.state (Insert c.args.region c.args.home)) (sym c.self.view_is) l in
    elim c.then-region-self.branch [
      | then-region-self-via-then-region-self w ↦ (
        refl,
        λ l. omega (arith, (here l).regions.0, w.if-region-self.true),
        refl,
      )
      | then-region-self-via-else-region-self+then-home-self w ↦ (
        refl,
        λ l. omega (arith, (here l).regions.1, w.if-home-self.true),
        refl,
      )
    ]
