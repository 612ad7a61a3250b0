use Rattle.dt_node.proofs.CallAfterCall.{made_nothing, same_moves}
use Rattle.dt_node.proofs.PartsOfNode.{all_placed, is_there, it_moves, it_own, may_place_it, same_own}
use Rattle.dt_node.proofs.SubmissionEvents.{placing_none}
use Rattle.dt_node.proofs.CallConditions.{has_stamp}
use Rattle.dt_node.proofs.node.Node.place_next.Goals as goal

pub returns-then-number-asked-clause-moved : goal.returns-then-number-asked-clause-moved
returns-then-number-asked-clause-moved g c = λ procs. made_nothing c.args.self.now

pub returns-then-number-asked-clause-ends : goal.returns-then-number-asked-clause-ends
returns-then-number-asked-clause-ends g c =
    let can = rw (← c.self.view_is, ← c.self-inside.view_is) at c.requires.can in
    rw (← c.self.view_is, ← c.self-inside.view_is) (all_placed can c.number-me.ensures.number c.taken-number.ensures.taken c.asked-asked.ensures c.if-number-asked.true)

pub returns-then-number-asked-clause-own : goal.returns-then-number-asked-clause-own
returns-then-number-asked-clause-own g c = placing_none c.args.self.now

pub unreachable-requires : goal.unreachable-requires
unreachable-requires g c =
    let can = rw (← c.self.view_is, ← c.self-inside.view_is) at c.requires.can in
    let there = is_there can c.number-me.ensures.number c.taken-number.ensures.taken c.asked-asked.ensures c.if-number-asked.false in
    cc (there.1, c.in_default.ensures)

pub returns-in_err-txn-clause-moved : goal.returns-in_err-txn-clause-moved
returns-in_err-txn-clause-moved g c = λ procs. made_nothing c.args.self.now

pub returns-in_err-txn-clause-own : goal.returns-in_err-txn-clause-own
returns-in_err-txn-clause-own g c = placing_none c.args.self.now

pub append_owned-requires-clause-stamp : goal.append_owned-requires-clause-stamp
append_owned-requires-clause-stamp g c = rw (← c.self.view_is, ← c.self-inside.view_is) at (has_stamp c.requires.can.can)

pub append_owned-requires-clause-can : goal.append_owned-requires-clause-can
append_owned-requires-clause-can g c =
    let can = rw (← c.self.view_is, ← c.self-inside.view_is) at c.requires.can in
    may_place_it can c.number-me.ensures.number c.taken-number.ensures.taken c.asked-asked.ensures c.if-number-asked.false c.in-Some.ensures c.in_ok-txn.ensures

pub returns-in_err-append_owned-clause-moved : goal.returns-in_err-append_owned-clause-moved
returns-in_err-append_owned-clause-moved g c = rw (← c.self.view_is, ← c.self-inside.view_is) (λ procs. same_moves _ c.append_owned.new.self c.in_err-append_owned.ensures.makes)

pub returns-in_err-append_owned-clause-own : goal.returns-in_err-append_owned-clause-own
returns-in_err-append_owned-clause-own g c = rw (← c.self.view_is, ← c.self-inside.view_is) (same_own _ c.append_owned.new.self c.in_err-append_owned.ensures.makes)

pub returns-clause-moved : goal.returns-clause-moved
returns-clause-moved g c =
    let can = rw (← c.self.view_is, ← c.self-inside.view_is) at c.requires.can in
    rw (← c.self.view_is, ← c.self-inside.view_is)
    (it_moves can c.number-me.ensures.number c.taken-number.ensures.taken c.asked-asked.ensures c.if-number-asked.false c.in-Some.ensures c.in_ok-txn.ensures
    c.append_owned.new.self c.in_ok-append_owned.field-0 c.in_ok-append_owned.ensures.makes c.append_owned.ensures.sound)

pub returns-clause-own : goal.returns-clause-own
returns-clause-own g c =
    let can = rw (← c.self.view_is, ← c.self-inside.view_is) at c.requires.can in
    rw (← c.self.view_is, ← c.self-inside.view_is)
    (it_own can c.number-me.ensures.number c.taken-number.ensures.taken c.asked-asked.ensures c.if-number-asked.false c.in-Some.ensures c.in_ok-txn.ensures
    c.append_owned.new.self c.in_ok-append_owned.field-0 c.in_ok-append_owned.ensures.makes c.append_owned.ensures.sound)
