use Rattle.std.proofs.Common.{◌≡◌, ◌+◌, Some, slice_get, refl, sym, ◌∙◌, inl, inr}
use Rattle.dt_events.specs.declared.Event.TheVariants.{Submit, Answer}
use Rattle.dt_world.specs.SessionReplayInner.{replay_at, replies_at}
use Rattle.dt_world.proofs.Reports.{FollowsAnswer, FollowsSubmission, adds_reply, follows_answer, follows_submission, event_at, plain_event, session_listed}
use Rattle.dt_world.proofs.site_reports.ReportSource.answered.Given.{Over}
use Rattle.dt_world.proofs.site_reports.ReportSource.answered.Goals as goal
use Rattle.dt_world.proofs.site_reports.ReportSource.answered.Goals.{In-Submit, In-Some, In-Answer, In-Some-find}

-- the event, where it is a submission
submission : (g : Over) (c : In-Submit g) → slice_get c.args.self.now.events c.args.at ≡ Some (Submit c.in-Submit.region c.in-Submit.session)
submission g c = event_at c.args.self.now c.requires.events c.args.at c.index-events-at.result (Submit c.in-Submit.region c.in-Submit.session) c.requires.at c.index-events-at.is c.in-Submit.is

-- what it does, where the session was found
submits : (g : Over) (c : In-Some g) → slice_get c.args.self.now.events c.args.at ≡ Some (Submit c.in-Submit.region c.in-Submit.session)
    → FollowsSubmission c.args.self.now c.args.at c.in-Submit.region c.in-Some.place c.args.replay.now
submits g c event = follows_submission c.requires.led c.args.at c.in-Submit.region c.in-Submit.session event c.in-Some.place (sym c.find.ensures ∙ c.in-Some.is) c.args.replay.now c.requires.replay

-- the event, where it is an answer
answer : (g : Over) (c : In-Answer g) → slice_get c.args.self.now.events c.args.at ≡ Some (Answer c.in-Answer.region c.in-Answer.session)
answer g c = event_at c.args.self.now c.requires.events c.args.at c.index-events-at.result (Answer c.in-Answer.region c.in-Answer.session) c.requires.at c.index-events-at.is c.in-Answer.is

-- what it does, where the session was found
answers : (g : Over) (c : In-Some-find g) → slice_get c.args.self.now.events c.args.at ≡ Some (Answer c.in-Answer.region c.in-Answer.session)
    → FollowsAnswer c.args.self.now c.args.at c.in-Answer.region c.in-Some-find.place c.args.replay.now
answers g c event =
    follows_answer c.requires.led c.args.at c.in-Answer.region c.in-Answer.session event c.in-Some-find.place (sym c.find-in-Answer.ensures ∙ c.in-Some-find.is) c.args.replay.now c.requires.replay

pub unreachable-requires : goal.unreachable-requires
unreachable-requires g c =
    let at = goal.at.unreachable-requires g c in
    session_listed c.requires.led c.args.at (Submit c.in-Submit.region c.in-Submit.session) (submission g at.In-Submit) c.in-Submit.region c.in-Submit.session (inl refl) (sym c.find.ensures ∙ c.in_default-find.is)

pub submit-requires-clause-place : goal.submit-requires-clause-place
submit-requires-clause-place g c =
    let at = goal.at.submit-requires-clause-place g c in
    let follows = submits g at.In-Some (submission g at.In-Submit) in
    follows.place_there

pub submit-requires-clause-region : goal.submit-requires-clause-region
submit-requires-clause-region g c =
    let at = goal.at.submit-requires-clause-region g c in
    let follows = submits g at.In-Some (submission g at.In-Submit) in
    follows.region_there

pub submit-requires-clause-few : goal.submit-requires-clause-few
submit-requires-clause-few g c =
    let at = goal.at.submit-requires-clause-few g c in
    let follows = submits g at.In-Some (submission g at.In-Submit) in
    follows.few

pub unreachable-requires-in_default-find-2 : goal.unreachable-requires-in_default-find-2
unreachable-requires-in_default-find-2 g c =
    let at = goal.at.unreachable-requires-in_default-find-2 g c in
    session_listed c.requires.led c.args.at (Answer c.in-Answer.region c.in-Answer.session) (answer g at.In-Answer) c.in-Answer.region c.in-Answer.session (inr refl) (sym c.find-in-Answer.ensures ∙ c.in_default-find-2.is)

pub waits-requires : goal.waits-requires
waits-requires g c =
    let at = goal.at.waits-requires g c in
    let follows = answers g at.In-Some-find (answer g at.In-Answer) in
    follows.place_there

pub unreachable-requires-in_default-waits : goal.unreachable-requires-in_default-waits
unreachable-requires-in_default-waits g c =
    let at = goal.at.unreachable-requires-in_default-waits g c in
    let follows = answers g at.In-Some-find (answer g at.In-Answer) in
    follows.waited (sym c.waits.ensures ∙ c.in_default-waits.is)

pub returns-in-Some : goal.returns-in-Some
returns-in-Some g c =
    let at = goal.at.returns-in-Some g c in
    let follows = submits g at.In-Some (submission g at.In-Submit) in
    record { replay = c.submit.ensures ∙ follows.replay; adds = follows.replies }

pub returns-in-Some-waits : goal.returns-in-Some-waits
returns-in-Some-waits g c =
    let at = goal.at.returns-in-Some-waits g c in
    let event = answer g at.In-Answer in
    let follows = answers g at.In-Some-find event in
    record {
      replay = c.answer.ensures ∙ follows.replay;
      adds = adds_reply c.requires.led c.args.at c.in-Answer.region c.in-Answer.session event c.in-Some-find.place (sym c.find-in-Answer.ensures ∙ c.in-Some-find.is) c.args.replay.now c.requires.replay
          c.in-Some-waits.id (sym c.waits.ensures ∙ c.in-Some-waits.is);
    }

pub returns-in_default : goal.returns-in_default
returns-in_default g c =
    let event = event_at c.args.self.now c.requires.events c.args.at c.index-events-at.result c.index-events-at.result c.requires.at c.index-events-at.is refl in
    let plain : (replay_at c.args.self.now c.args.at ≡ replay_at c.args.self.now (c.args.at + 1))
    × (replies_at c.args.self.now c.args.at ≡ replies_at c.args.self.now (c.args.at + 1)) =
    plain_event c.requires.led c.args.at c.index-events-at.result event (λ r n. c.in_default.not-Submit r n) (λ r n. c.in_default.not-Answer r n) in
    record { replay = c.requires.replay ∙ plain.0; adds = plain.1 }
