use Rattle.std.proofs.Common.{Ok}
use Rattle.dt_node.proofs.PacketItems.{may_place, place_append, place_count, place_ends}
use Rattle.dt_node.proofs.CallAfterCall.{same_moves}
use Rattle.dt_node.proofs.CallConditions.{has_stamp}
use Rattle.dt_node.proofs.node.Node.place_one.Goals as goal

pub append_owned-requires-clause-stamp : goal.append_owned-requires-clause-stamp
append_owned-requires-clause-stamp g c = rw (← c.self.view_is, ← c.self-inside.view_is) at (has_stamp c.requires.can.can)

pub append_owned-requires-clause-can : goal.append_owned-requires-clause-can
append_owned-requires-clause-can g c =
    let can = rw (← c.self.view_is, ← c.self-inside.view_is) at c.requires.can in
    may_place c.args.source c.args.number c.args.txn can

pub returns-in_err-append_owned-clause-moved : goal.returns-in_err-append_owned-clause-moved
returns-in_err-append_owned-clause-moved g c = rw (← c.self.view_is, ← c.self-inside.view_is) (λ procs. same_moves _ c.append_owned.new.self c.in_err-append_owned.ensures.makes)

pub returns-clause-moved : goal.returns-clause-moved
returns-clause-moved g c =
    let can = rw (← c.self.view_is, ← c.self-inside.view_is) at c.requires.can in
    rw (← c.self.view_is, ← c.self-inside.view_is)
    (λ procs. place_ends c.args.source c.args.number c.args.txn can (Ok c.in_ok-append_owned.field-0) c.append_owned.new.self c.in_ok-append_owned.ensures.makes c.append_owned.ensures.sound)

pub returns-clause-append : goal.returns-clause-append
returns-clause-append g c =
    let can = rw (← c.self.view_is, ← c.self-inside.view_is) at c.requires.can in
    rw (← c.self.view_is, ← c.self-inside.view_is) (place_append c.args.source c.args.number c.args.txn can c.in_ok-append_owned.field-0 c.append_owned.new.self c.in_ok-append_owned.ensures.makes)

pub returns-clause-count : goal.returns-clause-count
returns-clause-count g c =
    let can = rw (← c.self.view_is, ← c.self-inside.view_is) at c.requires.can in
    rw (← c.self.view_is, ← c.self-inside.view_is) (place_count c.args.source c.args.number c.args.txn can c.in_ok-append_owned.field-0 c.append_owned.new.self c.in_ok-append_owned.ensures.makes)
