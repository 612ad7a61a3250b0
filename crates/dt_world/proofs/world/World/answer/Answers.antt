use Rattle.std.proofs.lemmas.Grind.{common_steps}
use Rattle.std.proofs.Common.{◌<◌, ◌∙◌, length, refl, arith}
use Rattle.std.specs.Option.{option_copied}
use Rattle.dt_events.specs.declared.Event.TheVariants.{Answer}
use Rattle.dt_session.specs.Sessions.{StandsAt}
use Rattle.dt_world.specs.WorldInner.{MayBeTold, view_in}
use Rattle.dt_world.proofs.OneSite.{same_lawful, same_view, stamp_here}
use Rattle.dt_world.proofs.Rule7Answer.{answer_refused, answers_made, may_end}
use Rattle.dt_world.proofs.WorldFacts.{HasRead, away_told, has_read, of_told, sessions_at_place, some_sessions, stands_again, steps_few, told_of}
use Rattle.dt_world.proofs.WorldLaws.{SessionStepOf, SiteOf, a_site, behind, holds_site, made_before, out_of_memory, with_region}
use Rattle.dt_world.proofs.world.World.answer.Given.{Over}
use Rattle.dt_world.proofs.world.World.answer.Goals as goal
use Rattle.dt_world.proofs.world.World.answer.Goals.{After-answer_at, After-behind-self-2, After-index_mut-2, After-last_outcome_at-last}

-- what the call reads at the region
read : (g : Over) (c : After-last_outcome_at-last g) →
    HasRead c.self.inside.sessions.items c.self.inside.sites.items c.args.region c.args.name.now c.index-sessions.result.now (option_copied c.last_outcome_at-last.result)
read g c =
    let site = behind (a_site c.self.invariant c.if-region-self.false) c.index.ensures c.behind-self.view_is in
    has_read (some_sessions c.self.invariant c.self.view_is c.if-region-self.false) c.index-sessions.ensures site c.args.name.now (c.last_outcome_at-last.ensures.outcome c.args.name.now c.in-Some.ensures)

-- the region's site, which the call reaches
site : (g : Over) (c : After-behind-self-2 g) → SiteOf c.self.invariant c.args.region c.behind-self-2.inside.region c.behind-self-2.inside.origins.items
site g c = holds_site c.self.invariant c.if-region-self.false c.index_mut.ensures.value c.behind-self-2.view_is

-- the session may be answered
may : (g : Over) (c : After-behind-self-2 g) →
    let w = c.self.inside in
    MayBeTold (view_in w.cluster (record { workload = w.workload; by_region = w.sessions.items }) w.sites.items w.steps) c.args.region c.args.name.now
may g c =
    let name = c.args.name.now in
    let there = behind (a_site c.self.invariant c.if-region-self.false) c.index.ensures c.behind-self.view_is in
    let seen = has_read (some_sessions c.self.invariant c.self.view_is c.if-region-self.false) c.index-sessions.ensures there name (c.last_outcome_at-last.ensures.outcome name c.in-Some.ensures) in
    told_of c.self.invariant c.if-region-self.false name seen ((c.may_answer_at.ensures.may name c.in-Some.ensures).0 c.if-not-may_answer_at.false)

-- where the session is answered, it stands where it was found
stands : (g : Over) (c : After-index_mut-2 g) → StandsAt c.index_mut-2.result.now c.in-Some.place c.args.name.now
stands g c =
    stands_again c.self.inside.sessions.items c.args.region (some_sessions c.self.invariant c.self.view_is c.if-region-self.false) c.index-sessions.result.now c.index_mut-2.result.now
    c.index-sessions.ensures c.index_mut-2.ensures.value c.in-Some.place c.args.name.now c.in-Some.ensures

pub returns-in_default : goal.returns-in_default
returns-in_default g c =
    let name = c.args.name.now in
    let same = sessions_at_place c.self.inside.sessions.items c.args.region c.index-sessions.result.now (some_sessions c.self.invariant c.self.view_is c.if-region-self.false) c.index-sessions.ensures in
    (refl, answer_refused c.args.region name c.self.view_is (away_told c.self.invariant c.if-region-self.false name same c.in_default.ensures), refl)

pub index-requires : goal.index-requires
index-requires g c = let here : c.args.region < length c.self.inside.sites.items = a_site c.self.invariant c.if-region-self.false in grind (arith, common_steps, here)

pub returns-then-not-may_answer_at : goal.returns-then-not-may_answer_at
returns-then-not-may_answer_at g c =
    let name = c.args.name.now in
    let seen = read g (goal.at.returns-then-not-may_answer_at g c).After-last_outcome_at-last in (
      refl,
      answer_refused c.args.region name c.self.view_is
          (λ m. cc (c.if-not-may_answer_at.true, (c.may_answer_at.ensures.may name c.in-Some.ensures).1 (of_told c.self.invariant c.if-region-self.false name seen m))),
      refl,
    )

pub index_mut-requires : goal.index_mut-requires
index_mut-requires g c = let here : c.args.region < length c.self.inside.sites.items = a_site c.self.invariant c.if-region-self.false in grind (arith, common_steps, here)

pub answer-requires : goal.answer-requires
answer-requires g c =
    let here = site g (goal.at.answer-requires g c).After-behind-self-2 in
    record { stamp = stamp_here here (steps_few c.self.invariant c.self.view_is c.requires) }

pub invariant_of-self : goal.invariant_of-self
invariant_of-self g c = same_lawful (site g (goal.at.invariant_of-self g c).After-behind-self-2) c.answer.new.self c.in_err-answer.ensures.makes

pub returns-in_err-answer : goal.returns-in_err-answer
returns-in_err-answer g c =
    let here = site g (goal.at.returns-in_err-answer g c).After-behind-self-2 in
    out_of_memory (Answer c.args.region c.args.name.now) c.from_residual.result c.from_residual.ensures.1 (same_view here c.answer.new.self c.in_err-answer.ensures.makes ∙ c.self.view_is)

pub index-requires-3 : goal.index-requires-3
index-requires-3 g c = let here : c.args.region < length c.self.inside.sites.items = a_site c.self.invariant c.if-region-self.false in grind (arith, common_steps, here)

-- the event is made: the session is answered
ended : (g : Over) (c : After-answer_at g) (here : SiteOf c.self.invariant c.args.region c.behind-self-2.inside.region c.behind-self-2.inside.origins.items)
    (told : let w = c.self.inside in MayBeTold (view_in w.cluster (record { workload = w.workload; by_region = w.sessions.items }) w.sites.items w.steps) c.args.region c.args.name.now) →
    StandsAt c.index_mut-2.result.now c.in-Some.place c.args.name.now →
    SessionStepOf c.self.invariant (Answer c.args.region c.args.name.now) c.args.region c.answer_at.new.self (with_region c.self.inside.sites.items c.args.region c.answer.new.self c.behind-self-2.inside.origins.items)
ended g c here told at =
    let name = c.args.name.now in
    let again = stands_again c.self.inside.sessions.items c.args.region (some_sessions c.self.invariant c.self.view_is c.if-region-self.false) c.index-sessions.result.now c.index-2.result.now
    c.index-sessions.ensures c.index-2.ensures c.in-Some.place name c.in-Some.ensures in
    let can = may_end here name told c.answer.new.self c.in_ok-answer.ensures.makes c.index_mut-2.result.now c.index_mut-2.ensures.value
    c.index-3.ensures c.behind-self-3.view_is c.index-2.result.now c.index-2.ensures _ (c.last_outcome_at-last-2.ensures.outcome name again) in
    answers_made here name told c.answer.new.self c.in_ok-answer.ensures.makes c.index_mut-2.result.now c.index_mut-2.ensures.value
    c.answer_at.new.self (c.answer_at.ensures.answered ((c.answer_at.ensures.legal name at).1 can) name at)

pub invariant_of-self-2 : goal.invariant_of-self-2
invariant_of-self-2 g c =
    let p = goal.at.invariant_of-self-2 g c in
    (ended g p.After-answer_at (site g p.After-behind-self-2) (may g p.After-behind-self-2) (stands g p.After-index_mut-2)).lawful

pub returns : goal.returns
returns g c =
    let p = goal.at.returns g c in
    made_before c.self.view_is (ended g p.After-answer_at (site g p.After-behind-self-2) (may g p.After-behind-self-2) (stands g p.After-index_mut-2))
