use Rattle.std.proofs.Common.{refl, sym, subst}
use Rattle.dt_session.specs.Sessions.{MayBeAnswered}
use Rattle.dt_site.proofs.Callers.{no_name_at}
use Rattle.dt_node.proofs.CallAfterCall.{made_nothing, same_moves}
use Rattle.dt_node.proofs.PartsOfNode.{WasAnswered, call_moves, call_on, call_seats, call_step, opened, was_answered}
use Rattle.dt_node.proofs.CallConditions.{has_stamp}
use Rattle.dt_node.proofs.node.Node.answer_one.Given.{Over}
use Rattle.dt_node.proofs.node.Node.answer_one.Goals as goal
use Rattle.dt_node.proofs.node.Node.answer_one.Goals.{After-answer_at}

-- the session at the place was answered
answered : (g : Over) (c : After-answer_at g) →
    let is = rw (← c.self-inside.view_is) at c.self.view_is in
    WasAnswered (opened is) c.in-Some.name.now c.answer.new.self c.answer_at.new.self
answered g c =
    let is = rw (← c.self-inside.view_is) at c.self.view_is in
    let name = c.in-Some.name.now in
    let stands = sym c.in-Some.ensures.place in
    let might = (c.may_answer_at.ensures.may name stands).0 c.if-not-may_answer_at.false in
    was_answered (opened is) name (c.last_outcome_at-last.ensures.outcome name stands) might c.answer.new.self c.in_ok-answer.ensures.makes
    (c.last_outcome_at-last-2.ensures.outcome name stands) c.answer_at.new.self (λ m. c.answer_at.ensures.answered ((c.answer_at.ensures.legal name stands).1 m) name stands)

pub answer-requires : goal.answer-requires
answer-requires g c = record { stamp = rw (← c.self.view_is, ← c.self-inside.view_is) at (has_stamp c.requires.can.can) }

pub returns-in_err-answer-clause-moved : goal.returns-in_err-answer-clause-moved
returns-in_err-answer-clause-moved g c = rw (← c.self.view_is, ← c.self-inside.view_is) (λ procs. same_moves _ c.answer.new.self c.in_err-answer.ensures.makes)

pub returns-clause-moved : goal.returns-clause-moved
returns-clause-moved g c = rw (← c.self.view_is, ← c.self-inside.view_is) (call_moves (answered g (goal.at.returns-clause-moved g c).After-answer_at))

pub returns-clause-seats : goal.returns-clause-seats
returns-clause-seats g c = rw (← c.self.view_is, ← c.self-inside.view_is) (call_seats (answered g (goal.at.returns-clause-seats g c).After-answer_at))

pub returns-clause-ends : goal.returns-clause-ends
returns-clause-ends g c = rw (← c.self.view_is, ← c.self-inside.view_is) (call_on (answered g (goal.at.returns-clause-ends g c).After-answer_at))

pub returns-clause-one : goal.returns-clause-one
returns-clause-one g c = rw (← c.self.view_is, ← c.self-inside.view_is) (c.in-Some.name.now, sym c.in-Some.ensures.place, call_step (answered g (goal.at.returns-clause-one g c).After-answer_at))

pub unreachable-requires : goal.unreachable-requires
unreachable-requires g c = no_name_at _ c.args.index (c.may_answer_at.ensures.there c.if-not-may_answer_at.false) c.in_default.ensures.place

pub returns-then-not-may_answer_at-clause-moved : goal.returns-then-not-may_answer_at-clause-moved
returns-then-not-may_answer_at-clause-moved g c = λ procs. made_nothing c.args.self.now

pub returns-then-not-may_answer_at-clause-ends : goal.returns-then-not-may_answer_at-clause-ends
returns-then-not-may_answer_at-clause-ends g c =
    let is = rw (← c.self-inside.view_is) at c.self.view_is in
    rw (← c.self.view_is, ← c.self-inside.view_is) (
      refl,
      λ name stands may.
          let told = sym (c.last_outcome_at-last.ensures.outcome name stands) in
          cc (c.if-not-may_answer_at.true, (c.may_answer_at.ensures.may name stands).1 (subst (MayBeAnswered (opened is).sessions name) told may)),
    )

pub returns-then-not-may_answer_at-clause-one : goal.returns-then-not-may_answer_at-clause-one
returns-then-not-may_answer_at-clause-one g c = tt
