use Rattle.dt_world.specs.WorldView.{WorldView}
use Rattle.dt_session.specs.Step.{IsLegal}
use Rattle.dt_events.specs.declared.Event.{Event}
use Rattle.dt_events.specs.declared.Event.TheVariants.{Execute}
use Rattle.std.proofs.lemmas.Grind.{common_steps}
use Rattle.std.proofs.Common.{refl, sym, subst, ◌∙◌, ◌<◌, length, arith}
use Rattle.dt_world.proofs.OneSite.{execute_done, execute_not, holds_here, moves_here, refused_same, same_lawful, same_view, stamp_here}
use Rattle.dt_world.proofs.WorldFacts.{steps_few}
use Rattle.dt_world.proofs.WorldLaws.{SiteOf, a_site, holds_site, made_before}
use Rattle.dt_world.proofs.world.World.execute.Given.{Over}
use Rattle.dt_world.proofs.world.World.execute.Goals as goal
use Rattle.dt_world.proofs.world.World.execute.Goals.{After-behind-self}

-- the region's site, which the call reaches
site : (g : Over) (c : After-behind-self g) → SiteOf c.self.invariant c.args.region c.behind-self.inside.region c.behind-self.inside.origins.items
site g c = holds_site c.self.invariant c.if-region-self.false c.index_mut.ensures.value c.behind-self.view_is

pub execute-requires-clause-place : goal.execute-requires-clause-place
execute-requires-clause-place g c =
    moves_here (site g (goal.at.execute-requires-clause-place g c).After-behind-self) (steps_few c.self.invariant c.self.view_is c.requires) c.args.id

pub execute-requires-clause-holds : goal.execute-requires-clause-holds
execute-requires-clause-holds g c = holds_here (site g (goal.at.execute-requires-clause-holds g c).After-behind-self)

pub invariant_of-self-2 : goal.invariant_of-self-2
invariant_of-self-2 g c = (execute_done (site g (goal.at.invariant_of-self-2 g c).After-behind-self) c.args.id c.execute.new.self
    c.in_ok-execute.field-0 c.in_ok-execute.ensures.makes c.if-not-branch.false c.execute.ensures.sound).lawful

pub returns : goal.returns
returns g c = made_before c.self.view_is (execute_done (site g (goal.at.returns g c).After-behind-self) c.args.id c.execute.new.self
    c.in_ok-execute.field-0 c.in_ok-execute.ensures.makes c.if-not-branch.false c.execute.ensures.sound)

pub index_mut-requires : goal.index_mut-requires
index_mut-requires g c = let here : c.args.region < length c.self.inside.sites.items = a_site c.self.invariant c.if-region-self.false in grind (arith, common_steps, here)

pub invariant_of-self : goal.invariant_of-self
invariant_of-self g c = same_lawful (site g (goal.at.invariant_of-self g c).After-behind-self) c.execute.new.self c.in_err-execute.ensures.makes

pub invariant_of-self-then-not-branch : goal.invariant_of-self-then-not-branch
invariant_of-self-then-not-branch g c =
    let event : Event = Execute c.behind-self.inside.region.state.number c.args.id in
    let same = refused_same c.self.inside.cluster.procs c.behind-self.inside.region event c.in_ok-execute.field-0 c.execute.new.self c.if-not-branch.true c.in_ok-execute.ensures.makes in
    same_lawful (site g (goal.at.invariant_of-self-then-not-branch g c).After-behind-self) c.execute.new.self same

pub returns-then-not-branch : goal.returns-then-not-branch
returns-then-not-branch g c =
    let event : Event = Execute c.behind-self.inside.region.state.number c.args.id in
    let same = refused_same c.self.inside.cluster.procs c.behind-self.inside.region event c.in_ok-execute.field-0 c.execute.new.self c.if-not-branch.true c.in_ok-execute.ensures.makes in
    let here = site g (goal.at.returns-then-not-branch g c).After-behind-self in (
      refl,
      λ l. execute_not here c.args.id c.execute.new.self c.in_ok-execute.field-0 c.in_ok-execute.ensures.makes c.if-not-branch.true
          (subst (λ (v : WorldView). IsLegal v.cluster v.workload v.state (Execute c.args.region c.args.id)) (sym c.self.view_is) l),
      same_view here c.execute.new.self same ∙ c.self.view_is,
    )

pub execute-requires-clause-stamp : goal.execute-requires-clause-stamp
execute-requires-clause-stamp g c =
    stamp_here (site g (goal.at.execute-requires-clause-stamp g c).After-behind-self) (steps_few c.self.invariant c.self.view_is c.requires)
