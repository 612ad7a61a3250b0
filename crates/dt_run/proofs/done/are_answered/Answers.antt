use Rattle.std.proofs.Common.{◌≡◌, ◌<◌, true, length, sym, subst, arith, ◌∙◌}
use Rattle.std.proofs.lemmas.Bool.{false≢true}
use Rattle.dt_session.specs.Sessions.{EachNameIsAnswered}
use Rattle.dt_run.specs.SeatsInner.{SeatView}
use Rattle.dt_run.proofs.EachItem.{all_next, all_one}
use Rattle.dt_run.proofs.done.are_answered.Goals as goal

pub loop-seat-preserved : goal.loop-seat-preserved
loop-seat-preserved g c =
    let lt : c.loop-seat.seat-index < length c.args.seats.now = omega (arith, c.loop-seat-test.true) in
    let there : EachNameIsAnswered c.seat.inside.node.sessions = subst EachNameIsAnswered c.sessions.ensures (c.all_answered.ensures.by_name.0 c.if-not-all_answered.false) in
    all_next (λ (s : SeatView). EachNameIsAnswered s.node.sessions) c.args.seats.now c.loop-seat.seat-index c.seat-item.result c.seat-item.is lt c.loop-seat.invariant
    (subst (λ (s : SeatView). EachNameIsAnswered s.node.sessions) c.seat.view_is there)

pub returns-then-not-all_answered : goal.returns-then-not-all_answered
returns-then-not-all_answered g c =
    let lt : c.loop-seat.seat-index < length c.args.seats.now = omega (arith, c.loop-seat-test.true) in
    let back : EachNameIsAnswered c.seat-item.result.node.sessions → c.all_answered.result ≡ true =
    λ p. c.all_answered.ensures.by_name.1 (subst EachNameIsAnswered (sym c.sessions.ensures) (subst (λ (s : SeatView). EachNameIsAnswered s.node.sessions) (sym c.seat.view_is) p)) in (
      λ e. absurd (false≢true e),
      λ a. absurd (false≢true (sym c.if-not-all_answered.true ∙ back (all_one (λ (s : SeatView). EachNameIsAnswered s.node.sessions) c.args.seats.now c.loop-seat.seat-index c.seat-item.result c.seat-item.is lt a))),
    )
