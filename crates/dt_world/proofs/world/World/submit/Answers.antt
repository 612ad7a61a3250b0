use Rattle.std.proofs.lemmas.Grind.{common_steps}
use Rattle.std.proofs.Common.{◌<◌, Some, None, length, set, refl, ap, subst, arith}
use Rattle.dt_access.specs.Clash.{Bytes}
use Rattle.dt_events.specs.declared.Event.TheVariants.{Submit}
use Rattle.dt_session.specs.Sessions.{StandsAt}
use Rattle.dt_site.specs.NextAttempt.{IsNextHere, last_here}
use Rattle.dt_site.specs.Site.{SiteView}
use Rattle.dt_world.proofs.OneSite.{put_back, stamp_left}
use Rattle.dt_world.proofs.Rule1Submit.{SubmitsAt, may_wait, submit_fits, submit_place, submit_rank, submit_refused, submits_at, waits_made}
use Rattle.dt_world.proofs.WorldFacts.{HasRead, has_next_call, has_read, next_of, some_sessions, stands_again, steps_few}
use Rattle.dt_world.proofs.WorldLaws.{SessionStepOf, a_site, behind, made_before}
use Rattle.dt_world.proofs.world.World.submit.Given.{Over}
use Rattle.dt_world.proofs.world.World.submit.Goals as goal
use Rattle.dt_world.proofs.world.World.submit.Goals.{After-index_mut, After-index_mut-2, After-site, After-wait_at}

-- what the call reads at the region of a session
read : (g : Over) (c : After-site g) (name : Bytes) →
    HasRead c.self.inside.sessions.items c.self.inside.sites.items c.args.region name c.index-sessions.result.now
    (last_here c.index-sessions.result.now c.site.inside.region.state name)
read g c name =
    let site = behind (a_site c.self.invariant c.if-region-self.false) c.index-site.ensures c.site.view_is in
    has_read (some_sessions c.self.invariant c.self.view_is c.if-region-self.false) c.index-sessions.ensures site name refl

-- what the session submits next, at the region's site
submits : (g : Over) (c : After-index_mut g) →
    let w = c.self.inside in
    SubmitsAt w.cluster (record { workload = w.workload; by_region = w.sessions.items }) w.sites.items w.steps c.args.region c.args.name.now c.index_mut.result.now c.in-Some-next.origin
    c.in-Some-next.rank c.in-Some-next.body
submits g c =
    let name = c.args.name.now in
    let site = behind (a_site c.self.invariant c.if-region-self.false) c.index-site.ensures c.site.view_is in
    let seen = has_read (some_sessions c.self.invariant c.self.view_is c.if-region-self.false) c.index-sessions.ensures site name {last = last_here c.index-sessions.result.now c.site.inside.region.state name} refl in
    let here = subst (IsNextHere c.index-sessions.result.now c.site.inside.region.state name) c.in-Some-next.is (c.in_ok-next.ensures.next name c.in-Some.ensures) in
    submits_at c.self.invariant c.if-region-self.false name c.index_mut.ensures.value
    (next_of c.self.invariant c.if-region-self.false name c.site.inside.region.state seen (Some (c.in-Some-next.origin, c.in-Some-next.rank, c.in-Some-next.body)) here)

-- where the session waits, it stands where it was found
stands : (g : Over) (c : After-index_mut-2 g) → StandsAt c.index_mut-2.result.now c.in-Some.place c.args.name.now
stands g c =
    stands_again c.self.inside.sessions.items c.args.region (some_sessions c.self.invariant c.self.view_is c.if-region-self.false) c.index-sessions.result.now c.index_mut-2.result.now
    c.index-sessions.ensures c.index_mut-2.ensures.value c.in-Some.place c.args.name.now c.in-Some.ensures

pub index-site-requires : goal.index-site-requires
index-site-requires g c = let here : c.args.region < length c.self.inside.sites.items = a_site c.self.invariant c.if-region-self.false in grind (arith, common_steps, here)

pub next_attempt-requires : goal.next_attempt-requires
next_attempt-requires g c name stands = has_next_call c.self.invariant c.if-region-self.false name c.site.inside.region.state (read g c name)

pub returns-in_default-next : goal.returns-in_default-next
returns-in_default-next g c =
    let name = c.args.name.now in
    let here = subst (IsNextHere c.index-sessions.result.now c.site.inside.region.state name) c.in_default-next.is (c.in_ok-next.ensures.next name c.in-Some.ensures) in
    let none = next_of c.self.invariant c.if-region-self.false name c.site.inside.region.state (read g (goal.at.returns-in_default-next g c).After-site name) None here in
    (refl, submit_refused c.args.region name c.self.view_is none, refl)

pub index_mut-requires : goal.index_mut-requires
index_mut-requires g c = let here : c.args.region < length c.self.inside.sites.items = a_site c.self.invariant c.if-region-self.false in grind (arith, common_steps, here)

pub submit-requires-clause-stamp : goal.submit-requires-clause-stamp
submit-requires-clause-stamp g c =
    let at = submits g (goal.at.submit-requires-clause-stamp g c).After-index_mut in
    stamp_left c.self.invariant c.if-region-self.false c.index_mut.result.now.region (ap (λ (p : SiteView). p.region) at.site) (steps_few c.self.invariant c.self.view_is c.requires)

pub submit-requires-clause-fits : goal.submit-requires-clause-fits
submit-requires-clause-fits g c = submit_fits (submits g (goal.at.submit-requires-clause-fits g c).After-index_mut)

pub submit-requires-clause-rank : goal.submit-requires-clause-rank
submit-requires-clause-rank g c = submit_rank (submits g (goal.at.submit-requires-clause-rank g c).After-index_mut)

pub submit-requires-clause-place : goal.submit-requires-clause-place
submit-requires-clause-place g c =
    submit_place (submits g (goal.at.submit-requires-clause-place g c).After-index_mut)
    (steps_few c.self.invariant c.self.view_is c.requires)

pub invariant_of-self : goal.invariant_of-self
invariant_of-self g c =
    let at = submits g (goal.at.invariant_of-self g c).After-index_mut in
    put_back c.self.invariant c.args.region c.index_mut.result.now c.submit.new.self at.site c.in_err-id.ensures.makes

pub index-requires-2 : goal.index-requires-2
index-requires-2 g c = let here : c.args.region < length c.self.inside.sites.items = a_site c.self.invariant c.if-region-self.false in grind (arith, common_steps, here)

pub wait_at-requires : goal.wait_at-requires
wait_at-requires g c =
    let at = submits g (goal.at.wait_at-requires g c).After-index_mut in
    let name = c.args.name.now in
    let again = stands_again c.self.inside.sessions.items c.args.region (some_sessions c.self.invariant c.self.view_is c.if-region-self.false) c.index-sessions.result.now c.index.result.now
    c.index-sessions.ensures c.index.ensures c.in-Some.place name c.in-Some.ensures in
    let may = may_wait at c.in_ok-id.id c.submit.new.self c.in_ok-id.ensures.makes c.index_mut-2.result.now c.index_mut-2.ensures.value
    c.index-2.ensures c.behind-self.view_is c.index.result.now c.index.ensures _ (c.last_outcome_at-last.ensures.outcome name again) in
    (name, stands g c, may)

-- the event is made: the session waits for what was submitted
waits : (g : Over) (c : After-wait_at g)
    (at : let w = c.self.inside in SubmitsAt w.cluster (record { workload = w.workload; by_region = w.sessions.items }) w.sites.items w.steps c.args.region c.args.name.now c.index_mut.result.now
    c.in-Some-next.origin c.in-Some-next.rank c.in-Some-next.body) → StandsAt c.index_mut-2.result.now c.in-Some.place c.args.name.now →
    SessionStepOf c.self.invariant (Submit c.args.region c.args.name.now) c.args.region c.wait_at.new.self (set c.self.inside.sites.items c.args.region c.submit.new.self)
waits g c at here =
    waits_made at c.in_ok-id.id c.submit.new.self c.in_ok-id.ensures.makes c.index_mut-2.result.now c.index_mut-2.ensures.value
    c.in_ok-id.ensures.sound c.wait_at.new.self (c.wait_at.ensures c.args.name.now here)

pub invariant_of-self-2 : goal.invariant_of-self-2
invariant_of-self-2 g c =
    let p = goal.at.invariant_of-self-2 g c in
    (waits g p.After-wait_at (submits g p.After-index_mut) (stands g p.After-index_mut-2)).lawful

pub returns : goal.returns
returns g c =
    let p = goal.at.returns g c in
    made_before c.self.view_is (waits g p.After-wait_at (submits g p.After-index_mut) (stands g p.After-index_mut-2))
