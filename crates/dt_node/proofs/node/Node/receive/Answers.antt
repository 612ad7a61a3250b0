use Rattle.std.proofs.Common.{ap, ◌∙◌}
use Rattle.dt_node.specs.NodeView.{NodeView}
use Rattle.dt_node.proofs.PartsOfNode.{placed_so_far, received_so_far, then_ask, then_log, whole_moved, whole_step, whole_taken}
use Rattle.dt_node.proofs.node.Node.receive.Goals as goal

pub place_all-requires : goal.place_all-requires
place_all-requires g c =
    let can = rw (← c.self.view_is, ← c.self-inside.view_is) at c.requires.can in
    record { can = then_ask c.args.packet can c.hear.new.self c.hear.ensures }

pub returns-in_err-place_all-clause-moved : goal.returns-in_err-place_all-clause-moved
returns-in_err-place_all-clause-moved g c =
    let can = rw (← c.self.view_is, ← c.self-inside.view_is) at c.requires.can in
    rw (← c.self.view_is, ← c.self-inside.view_is) (placed_so_far c.args.packet can c.hear.new.self c.hear.ensures c.place_all.new.self c.place_all.ensures.moved)

pub receive_entries-requires : goal.receive_entries-requires
receive_entries-requires g c =
    let can = rw (← c.self.view_is, ← c.self-inside.view_is) at c.requires.can in
    record { can = then_log c.args.packet can c.hear.new.self c.hear.ensures c.place_all.new.self c.place_all.ensures.moved }

pub returns-in_err-receive_entries-clause-moved : goal.returns-in_err-receive_entries-clause-moved
returns-in_err-receive_entries-clause-moved g c =
    let can = rw (← c.self.view_is, ← c.self-inside.view_is) at c.requires.can in
    rw (← c.self.view_is, ← c.self-inside.view_is)
    (received_so_far c.args.packet can c.hear.new.self c.hear.ensures c.place_all.new.self c.place_all.ensures.moved c.receive_entries.new.self c.receive_entries.ensures.moved)

pub returns-clause-moved : goal.returns-clause-moved
returns-clause-moved g c =
    let can = rw (← c.self.view_is, ← c.self-inside.view_is) at c.requires.can in
    rw (← c.self.view_is, ← c.self-inside.view_is)
    (whole_moved c.args.packet can c.hear.new.self c.hear.ensures c.place_all.new.self c.place_all.ensures.moved c.receive_entries.new.self c.receive_entries.ensures.moved c.note.new.self c.note.ensures)

pub returns-clause-taken : goal.returns-clause-taken
returns-clause-taken g c =
    let can = rw (← c.self.view_is, ← c.self-inside.view_is) at c.requires.can in
    rw (← c.self.view_is, ← c.self-inside.view_is)
    (whole_taken c.args.packet can c.hear.new.self c.hear.ensures c.place_all.new.self c.place_all.ensures.moved c.receive_entries.new.self c.receive_entries.ensures.moved c.note.new.self c.note.ensures
    c.place_all.ensures.knows c.receive_entries.ensures.knows c.in_ok-place_all.ensures.taken c.in_ok-receive_entries.ensures.taken)

pub returns-clause-one : goal.returns-clause-one
returns-clause-one g c =
    let can = rw (← c.self.view_is, ← c.self-inside.view_is) at c.requires.can in
    rw (← c.self.view_is, ← c.self-inside.view_is)
    (whole_step c.args.packet can c.hear.new.self c.hear.ensures c.place_all.new.self c.place_all.ensures.moved c.receive_entries.new.self c.receive_entries.ensures.moved c.note.new.self c.note.ensures
    c.in_ok-place_all.ensures.append c.in_ok-place_all.ensures.count c.in_ok-receive_entries.ensures.receives
    (ap (λ (n : NodeView). n.sessions) c.note.ensures ∙ c.receive_entries.ensures.sessions ∙ c.place_all.ensures.sessions))
