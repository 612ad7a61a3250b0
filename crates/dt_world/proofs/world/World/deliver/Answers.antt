use Rattle.std.proofs.lemmas.Grind.{common_steps}
use Rattle.std.proofs.Common.{◌≡◌, ◌<◌, Bool, refl, length, sym, ap, subst, ◌∙◌, arith}
use Rattle.dt_sched.specs.Views.{log_at}
use Rattle.dt_region.specs.Region.{RegionView}
use Rattle.dt_events.specs.declared.Event.TheVariants.{Deliver}
use Rattle.dt_session.specs.Step.{IsLegal}
use Rattle.dt_site.proofs.Callers.{joins_from, joins_to}
use Rattle.dt_world.specs.WorldView.{WorldView}
use Rattle.dt_world.proofs.OneSite.{region_here, sound_here, same_lawful, same_view, stamp_here}
use Rattle.dt_world.proofs.Rule3Deliver.{IsDelivery, can_take, deliver_done, deliver_none, delivery_is, entries_are, out_of_order, past_log}
use Rattle.dt_world.proofs.WorldLaws.{IsMade, SiteOf, a_site, holds_site, made_before, out_of_memory, with_region}
use Rattle.dt_world.proofs.WorldFacts.{steps_few}
use Rattle.dt_world.proofs.world.World.deliver.Given.{Over}
use Rattle.dt_world.proofs.world.World.deliver.Goals as goal
use Rattle.dt_world.proofs.world.World.deliver.Goals.{After-behind-self, After-behind-self-2, After-behind-self-3, After-joins, In_ok-deliver, then-first-last-via-then-first-last, then-first-last-via-else-first-last+then-last-len}

-- the home's site
home : (g : Over) (c : After-behind-self g) → SiteOf c.self.invariant c.args.home c.behind-self.inside.region c.behind-self.inside.origins.items
home g c = holds_site c.self.invariant c.if-home-self.false c.index.ensures c.behind-self.view_is

-- the region's site, as it is read
region : (g : Over) (c : After-behind-self-2 g) → SiteOf c.self.invariant c.args.region c.behind-self-2.inside.region c.behind-self-2.inside.origins.items
region g c = holds_site c.self.invariant c.if-region-self.false c.index-2.ensures c.behind-self-2.view_is

-- the region's site, as it is changed
here : (g : Over) (c : After-behind-self-3 g) → SiteOf c.self.invariant c.args.region c.behind-self-3.inside.region c.behind-self-3.inside.origins.items
here g c = holds_site c.self.invariant c.if-region-self.false c.index_mut.ensures.value c.behind-self-3.view_is

-- the delivery, by what the call read of both
delivery : (g : Over) (c : After-joins g) {join : Bool} → c.joins.result ≡ join →
    IsDelivery c.self.inside.sites.items c.args.region c.args.home c.args.first c.args.last c.len-received.result join
delivery g c {join} test =
    let from = holds_site c.self.invariant c.if-home-self.false c.index.ensures c.behind-self.view_is in
    let to = holds_site c.self.invariant c.if-region-self.false c.index-2.ensures c.behind-self-2.view_is in
    delivery_is from.site to.site c.args.first c.args.last join c.len.ensures c.log.ensures c.if-last-len.false c.len-received.ensures c.log-2.ensures c.joins.ensures test

pub log-requires : goal.log-requires
log-requires g c =
    let from = home g (goal.at.log-requires g c).After-behind-self in
    region_here from c.args.home c.if-home-self.false

pub log-requires-2 : goal.log-requires-2
log-requires-2 g c =
    let to = region g (goal.at.log-requires-2 g c).After-behind-self-2 in
    region_here to c.args.home c.if-home-self.false

pub invariant_of-self : goal.invariant_of-self
invariant_of-self g c =
    let joined = delivery g (goal.at.invariant_of-self g c).After-joins c.if-not-joins.true in
    (deliver_none c.self.invariant c.if-home-self.false c.if-region-self.false c.if-first-last.false joined).lawful

pub returns-then-not-joins : goal.returns-then-not-joins
returns-then-not-joins g c =
    let joined = delivery g (goal.at.returns-then-not-joins g c).After-joins c.if-not-joins.true in
    made_before c.self.view_is (deliver_none c.self.invariant c.if-home-self.false c.if-region-self.false c.if-first-last.false joined)

pub entries-requires-clause-sound : goal.entries-requires-clause-sound
entries-requires-clause-sound g c =
    let from = home g (goal.at.entries-requires-clause-sound g c).After-behind-self in
    sound_here from

pub entries-requires-clause-home : goal.entries-requires-clause-home
entries-requires-clause-home g c =
    let from = home g (goal.at.entries-requires-clause-home g c).After-behind-self in
    region_here from c.args.home c.if-home-self.false

pub entries-requires-clause-order : goal.entries-requires-clause-order
entries-requires-clause-order g c =
    let joined = delivery g (goal.at.entries-requires-clause-order g c).After-joins c.if-not-joins.false in
    let more = joins_to _ c.args.first c.args.last joined.joined in
    omega (arith, more, joined.has_is)

pub deliver-requires-clause-begins : goal.deliver-requires-clause-begins
deliver-requires-clause-begins g c =
    let joined = delivery g (goal.at.deliver-requires-clause-begins g c).After-joins c.if-not-joins.false in
    let reach = joins_from _ c.args.first c.args.last joined.joined in
    omega (arith, reach, joined.has_is)

pub deliver-requires-clause-home : goal.deliver-requires-clause-home
deliver-requires-clause-home g c =
    let site = here g (goal.at.deliver-requires-clause-home g c).After-behind-self-3 in
    region_here site c.args.home c.if-home-self.false

pub deliver-requires-clause-can : goal.deliver-requires-clause-can
deliver-requires-clause-can g c =
    let joined = delivery g (goal.at.deliver-requires-clause-can g c).After-joins c.if-not-joins.false in
    let taken = entries_are (home g (goal.at.deliver-requires-clause-can g c).After-behind-self).site _ c.args.last c.in_ok-entries.entries.items c.in_ok-entries.ensures.parts c.in_ok-entries.ensures.txns in
    let site = here g (goal.at.deliver-requires-clause-can g c).After-behind-self-3 in
    let few = steps_few c.self.invariant c.self.view_is c.requires in
    can_take site c.if-home-self.false joined taken (omega (arith, few))

-- the entries are delivered
delivered : (g : Over) (c : In_ok-deliver g) →
    let w = c.self.inside in
    IsMade w.cluster (record { workload = w.workload; by_region = w.sessions.items }) w.sites.items w.steps (Deliver c.args.region c.args.home c.args.first c.args.last)
    (record { workload = w.workload; by_region = w.sessions.items }) (with_region w.sites.items c.args.region c.deliver.new.self c.behind-self-3.inside.origins.items)
delivered g c =
    let from = holds_site c.self.invariant c.if-home-self.false c.index.ensures c.behind-self.view_is in
    let to = holds_site c.self.invariant c.if-region-self.false c.index-2.ensures c.behind-self-2.view_is in
    let joined = delivery_is from.site to.site c.args.first c.args.last _ c.len.ensures c.log.ensures c.if-last-len.false c.len-received.ensures c.log-2.ensures c.joins.ensures c.if-not-joins.false in
    let taken = entries_are from.site _ c.args.last c.in_ok-entries.entries.items c.in_ok-entries.ensures.parts c.in_ok-entries.ensures.txns in
    let site = holds_site c.self.invariant c.if-region-self.false c.index_mut.ensures.value c.behind-self-3.view_is in
    deliver_done site c.if-home-self.false joined taken c.deliver.new.self c.in_ok-deliver.field-0 c.in_ok-deliver.ensures.makes c.deliver.ensures.sound

pub invariant_of-self-2 : goal.invariant_of-self-2
invariant_of-self-2 g c = (delivered g (goal.at.invariant_of-self-2 g c).In_ok-deliver).lawful

pub returns : goal.returns
returns g c = made_before c.self.view_is (delivered g (goal.at.returns g c).In_ok-deliver)

pub index-requires : goal.index-requires
index-requires g c = let here : c.args.home < length c.self.inside.sites.items = a_site c.self.invariant c.if-home-self.false in grind (arith, common_steps, here)

pub index-requires-2 : goal.index-requires-2
index-requires-2 g c = let here : c.args.region < length c.self.inside.sites.items = a_site c.self.invariant c.if-region-self.false in grind (arith, common_steps, here)

pub index_mut-requires : goal.index_mut-requires
index_mut-requires g c = let here : c.args.region < length c.self.inside.sites.items = a_site c.self.invariant c.if-region-self.false in grind (arith, common_steps, here)

pub invariant_of-self-in_err-deliver : goal.invariant_of-self-in_err-deliver
invariant_of-self-in_err-deliver g c =
    let site = here g (goal.at.invariant_of-self-in_err-deliver g c).After-behind-self-3 in
    same_lawful site c.deliver.new.self c.in_err-deliver.ensures.makes

pub returns-then-first-last : goal.returns-then-first-last
returns-then-first-last g c =
    let from = home g (goal.at.returns-then-first-last g c).After-behind-self in
    elim c.then-first-last.branch [
      | then-first-last-via-then-first-last w ↦ (
        refl,
        λ l. out_of_order w.if-first-last.true l,
        refl,
      )
      | then-first-last-via-else-first-last+then-last-len w ↦ (
        refl,
        λ l. past_log c.self.invariant c.if-home-self.false (subst (λ n. n < c.args.last) (w.len.ensures ∙ ap length (w.log.ensures ∙ ap (λ (r : RegionView). log_at r.state.logs c.args.home) from.site.region_is)) w.if-last-len.true)
            (subst (λ (v : WorldView). IsLegal v.cluster v.workload v.state (Deliver c.args.region c.args.home c.args.first c.args.last)) (sym c.self.view_is) l),
        refl,
      )
    ]

pub returns-in_err-deliver : goal.returns-in_err-deliver
returns-in_err-deliver g c =
    let site = here g (goal.at.returns-in_err-deliver g c).After-behind-self-3 in
    out_of_memory (Deliver c.args.region c.args.home c.args.first c.args.last) _ c.from_residual-in_err-deliver.ensures.1
    (same_view site c.deliver.new.self c.in_err-deliver.ensures.makes ∙ c.self.view_is)

pub deliver-requires-clause-stamp : goal.deliver-requires-clause-stamp
deliver-requires-clause-stamp g c =
    let site = here g (goal.at.deliver-requires-clause-stamp g c).After-behind-self-3 in
    stamp_here site (steps_few c.self.invariant c.self.view_is c.requires)
