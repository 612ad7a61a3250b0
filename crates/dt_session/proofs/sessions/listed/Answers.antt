use Rattle.std.proofs.Common.{◌++◌, ◌∙◌, ap}
use Rattle.dt_session.proofs.SessionsLaws.{goes_last}
use Rattle.dt_session.proofs.sessions.listed.Goals as goal

pub loop-name-preserved : goal.loop-name-preserved
loop-name-preserved c =
    ap (λ l. l ++ c.next.new.self) c.in_ok-insert.ensures.entries
    ∙ goes_last c.loop-name.listed (c.in-Some.name, c.in-Some.seat) c.next.new.self c.loop-name.name-iterator c.args.seats.entries c.in-Some.ensures.steps c.len.ensures.ordered c.loop-name.invariant

pub loop-name-preserved-in_ok-insert : goal.loop-name-preserved-in_ok-insert
loop-name-preserved-in_ok-insert c =
    ap (λ l. l ++ c.next.new.self) c.in_ok-insert.ensures.entries
    ∙ goes_last c.loop-name.listed (c.in-Some.name, c.in-Some.seat) c.next.new.self c.loop-name.name-iterator c.args.seats.entries c.in-Some.ensures.steps c.len.ensures.ordered c.loop-name.invariant
