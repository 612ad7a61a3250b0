use Rattle.dt_session.specs.Step.{IsLegal}
use Rattle.dt_world.specs.WorldView.{WorldView}
use Rattle.dt_events.specs.declared.Event.TheVariants.{Resolve}
use Rattle.std.proofs.lemmas.Grind.{common_steps}
use Rattle.std.proofs.Common.{refl, sym, subst, ◌∙◌, ◌<◌, length, arith, []}
use Rattle.dt_world.proofs.OneSite.{refused_same, resolve_done, resolve_not, same_lawful, same_view, stamp_here}
use Rattle.dt_world.proofs.WorldLaws.{SiteOf, a_site, holds_site, made_before}
use Rattle.dt_world.proofs.WorldFacts.{steps_few}
use Rattle.dt_world.proofs.world.World.resolve.Given.{Over}
use Rattle.dt_world.proofs.world.World.resolve.Goals as goal
use Rattle.dt_world.proofs.world.World.resolve.Goals.{After-behind-self}

-- the region's site, which the call reaches
site : (g : Over) (c : After-behind-self g) → SiteOf c.self.invariant c.args.region c.behind-self.inside.region c.behind-self.inside.origins.items
site g c = holds_site c.self.invariant c.if-region-self.false c.index_mut.ensures.value c.behind-self.view_is

pub invariant_of-self-2 : goal.invariant_of-self-2
invariant_of-self-2 g c = (resolve_done (site g (goal.at.invariant_of-self-2 g c).After-behind-self) c.args.ids.now c.resolve.new.self
    c.in_ok-resolve.field-0 c.in_ok-resolve.ensures.makes c.if-not-branch.false c.resolve.ensures.sound).lawful

pub returns : goal.returns
returns g c = made_before c.self.view_is (resolve_done (site g (goal.at.returns g c).After-behind-self) c.args.ids.now c.resolve.new.self
    c.in_ok-resolve.field-0 c.in_ok-resolve.ensures.makes c.if-not-branch.false c.resolve.ensures.sound)

pub index_mut-requires : goal.index_mut-requires
index_mut-requires g c = let here : c.args.region < length c.self.inside.sites.items = a_site c.self.invariant c.if-region-self.false in grind (arith, common_steps, here)

pub invariant_of-self : goal.invariant_of-self
invariant_of-self g c = same_lawful (site g (goal.at.invariant_of-self g c).After-behind-self) c.resolve.new.self c.in_err-resolve.ensures.makes

pub invariant_of-self-then-not-branch : goal.invariant_of-self-then-not-branch
invariant_of-self-then-not-branch g c =
    let same = refused_same [] c.behind-self.inside.region (Resolve c.behind-self.inside.region.state.number c.args.ids.now) c.in_ok-resolve.field-0 c.resolve.new.self c.if-not-branch.true c.in_ok-resolve.ensures.makes in
    same_lawful (site g (goal.at.invariant_of-self-then-not-branch g c).After-behind-self) c.resolve.new.self same

pub returns-then-not-branch : goal.returns-then-not-branch
returns-then-not-branch g c =
    let same = refused_same [] c.behind-self.inside.region (Resolve c.behind-self.inside.region.state.number c.args.ids.now) c.in_ok-resolve.field-0 c.resolve.new.self c.if-not-branch.true c.in_ok-resolve.ensures.makes in
    let here = site g (goal.at.returns-then-not-branch g c).After-behind-self in (
      refl,
      λ l. resolve_not here c.args.ids.now c.resolve.new.self c.in_ok-resolve.field-0 c.in_ok-resolve.ensures.makes c.if-not-branch.true
          (subst (λ (v : WorldView). IsLegal v.cluster v.workload v.state (Resolve c.args.region c.args.ids.now)) (sym c.self.view_is) l),
      same_view here c.resolve.new.self same ∙ c.self.view_is,
    )

pub resolve-requires : goal.resolve-requires
resolve-requires g c =
    let here = site g (goal.at.resolve-requires g c).After-behind-self in
    record { stamp = stamp_here here (steps_few c.self.invariant c.self.view_is c.requires) }
