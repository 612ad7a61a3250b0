use Rattle.std.proofs.Common.{◌≡◌, ◌-◌, ◌∙◌, ◌++◌, ◌∷◌, [], List, length, drop, map, sym, ap, subst, arith}
use Rattle.std.proofs.lemmas.Iterator.Adapters.{YieldsList-from_rev_slice}
use Rattle.std.proofs.lemmas.Iterator.Consumers.{YieldsList-end, YieldsList-turn}
use Rattle.std.proofs.lemmas.List.{length-map, length-reverse}
use Rattle.dt_lists.specs.Lists.{AllIn}
use Rattle.dt_access.specs.Orders.{HasAscendingKeys}
use Rattle.dt_workload.specs.declared.Session.{Session}
use Rattle.dt_session.specs.Eager.{sessions_at}
use Rattle.dt_session.specs.Sessions.{IsSoundSeat, idle_seat}
use Rattle.dt_session.proofs.SessionsLaws.{ascends, idle_sound, length_at, passed_over, put_among}
use Rattle.dt_session.proofs.sessions.Sessions.new.Goals as goal
use Rattle.dt_session.proofs.sessions.Sessions.new.Goals.{In_ok-insert}

-- with the session's own among them, the seats are those of the sessions up to it
put_in : (c : In_ok-insert) →
    (c.insert.new.self.entries ≡ map idle_seat (sessions_at c.args.region (drop (length c.args.workload.now.sessions - length (c.loop-session.yielded ++ c.in-Some.session ∷ [])) c.args.workload.now.sessions)))
    × HasAscendingKeys c.insert.new.self.entries
put_in c =
    let turn = YieldsList-turn (YieldsList-from_rev_slice {s = c.into_iter-session-iterator.result} c.args.workload.now.sessions cc) c.loop-session.yielded c.loop-session.session-iterator c.loop-session.yielded_by _ _
    c.in-Some.session c.in-Some.is c.next.ensures.steps in (
      put_among c.args.region c.args.workload.now.sessions c.requires.names c.loop-session.yielded c.in-Some.session c.in-Some.session.now turn _ _ _ _ c.if-session-region.true c.loop-session.invariant.0
          c.in_ok-copy-2.ensures.same c.in_ok-copy.ensures c.in_ok-insert.ensures.entries,
      ascends _ c.in_ok-insert.ensures.ordered,
    )

pub loop-session-preserved : goal.loop-session-preserved
loop-session-preserved c =
    let turn = YieldsList-turn (YieldsList-from_rev_slice {s = c.into_iter-session-iterator.result} c.args.workload.now.sessions cc) c.loop-session.yielded c.loop-session.session-iterator c.loop-session.yielded_by _ _
    c.in-Some.session c.in-Some.is c.next.ensures.steps in (
      c.loop-session.invariant.0
          ∙ ap (map idle_seat) (passed_over c.args.region c.args.workload.now.sessions c.requires.names c.loop-session.yielded c.in-Some.session c.in-Some.session.now turn c.if-session-region.false),
      c.loop-session.invariant.1,
    )

pub loop-session-preserved-in_ok-insert : goal.loop-session-preserved-in_ok-insert
loop-session-preserved-in_ok-insert c = put_in (goal.at.loop-session-preserved-in_ok-insert c).In_ok-insert

pub loop-session-preserved-in_ok-insert-2 : goal.loop-session-preserved-in_ok-insert-2
loop-session-preserved-in_ok-insert-2 c = put_in (goal.at.loop-session-preserved-in_ok-insert-2 c).In_ok-insert

pub invariant_of-result : goal.invariant_of-result
invariant_of-result c =
    let sessions : List Session = c.args.workload.now.sessions in
    let all = YieldsList-end (YieldsList-from_rev_slice {s = c.into_iter-session-iterator.result} sessions cc) c.loop-session.yielded c.loop-session.session-iterator c.loop-session.yielded_by _ _ c.in-None.is c.next.ensures.steps in
    let whole : length sessions - length c.loop-session.yielded ≡ 0 = omega (arith, all.1, length-reverse sessions) in
    let listed : c.in_ok-listed.field-0.entries ≡ c.loop-session.seats.entries = c.in_ok-listed.ensures in
    let seats : c.in_ok-listed.field-0.entries ≡ map idle_seat (sessions_at c.args.region sessions) =
    listed ∙ c.loop-session.invariant.0 ∙ ap (λ k. map idle_seat (sessions_at c.args.region (drop k sessions))) whole in
    let count = ap length seats ∙ length-map (sessions_at c.args.region sessions) idle_seat ∙ length_at c.args.region sessions in
    record {
      few = omega (arith, count, c.requires.sessions);
      ascending = subst HasAscendingKeys (sym listed) c.loop-session.invariant.1;
      each = subst (AllIn (λ p. IsSoundSeat p.1)) (sym seats) (idle_sound c.args.region sessions c.requires.few);
    }
