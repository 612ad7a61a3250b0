use Rattle.std.proofs.Common.{[], ◌+◌, flat_map, sym, subst, ◌∙◌}
use Rattle.dt_site.proofs.Callers.{on_ok}
use Rattle.dt_node.specs.Turn.{BeginsEagerly, HasTaken, IsSettled, MovesOn}
use Rattle.dt_node.proofs.WholePackets.{sends_whole}
use Rattle.dt_node.proofs.CallAfterCall.{moves_on}
use Rattle.dt_node.proofs.PassesOfTurn.{turn_begins, turn_can, turn_moves, turn_ready, turn_settles, turn_steps, turn_takes}
use Rattle.dt_node.proofs.TruePackets.{can_on, may_begin}
use Rattle.dt_node.proofs.node.Node.turn.Given.{Over}
use Rattle.dt_node.proofs.node.Node.turn.Goals as goal
use Rattle.dt_node.proofs.node.Node.turn.Goals.{After-go_on}

-- what the node has made of the packets once its sessions stand still
went : (g : Over) (c : After-go_on g) → MovesOn c.args.procs.now (flat_map g.I.Inlet.waits c.args.ins.now) c.args.self.now c.go_on.new.self
went g c = moves_on (c.receive_all.ensures.moved c.args.procs.now) c.go_on.ensures.moved

-- and once the turn is counted
ended : (g : Over) (c : After-go_on g) → MovesOn c.args.procs.now (flat_map g.I.Inlet.waits c.args.ins.now) c.args.self.now (record c.go_on.new.self { turns = c.go_on.new.self.turns + 1 })
ended g c = turn_moves (c.receive_all.ensures.moved c.args.procs.now) c.go_on.ensures.moved

pub receive_all-requires : goal.receive_all-requires
receive_all-requires g c = record { can = record { procs = c.args.procs.now; can = may_begin c.requires.stands } }

pub returns-in_err-receive_all-clause-moved : goal.returns-in_err-receive_all-clause-moved
returns-in_err-receive_all-clause-moved g c = c.receive_all.ensures.moved c.args.procs.now

pub go_on-requires-clause-can : goal.go_on-requires-clause-can
go_on-requires-clause-can g c =
    turn_can c.requires.stands (c.receive_all.ensures.moved c.args.procs.now)

pub returns-in_err-go_on-clause-moved : goal.returns-in_err-go_on-clause-moved
returns-in_err-go_on-clause-moved g c = went g (goal.at.returns-in_err-go_on-clause-moved g c).After-go_on

pub send-requires-clause-ready : goal.send-requires-clause-ready
send-requires-clause-ready g c =
    turn_ready (can_on [] [] (turn_can c.requires.stands (c.receive_all.ensures.moved c.args.procs.now)) c.go_on.ensures.moved)

pub send-requires-clause-ends : goal.send-requires-clause-ends
send-requires-clause-ends g c =
    c.requires.ends ∙ sym (went g (goal.at.send-requires-clause-ends g c).After-go_on).gone.regions

pub returns-clause-moved : goal.returns-clause-moved
returns-clause-moved g c =
    subst (λ n. MovesOn c.args.procs.now (flat_map g.I.Inlet.waits c.args.ins.now) c.args.self.now n) (sym c.send.ensures.still) (ended g (goal.at.returns-clause-moved g c).After-go_on)

pub returns-clause-taken : goal.returns-clause-taken
returns-clause-taken g c =
    on_ok c.send.result (subst (λ n. HasTaken (flat_map g.I.Inlet.waits c.args.ins.now) c.args.self.now n) (sym c.send.ensures.still)
    (turn_takes (c.receive_all.ensures.moved c.args.procs.now) c.go_on.ensures.moved c.in_ok-receive_all.ensures.taken c.go_on.ensures.knows))

pub returns-clause-settled : goal.returns-clause-settled
returns-clause-settled g c =
    on_ok c.send.result (subst (λ n. IsSettled c.args.self.now n) (sym c.send.ensures.still)
    (turn_settles (c.receive_all.ensures.moved c.args.procs.now) c.go_on.ensures.moved c.receive_all.ensures.placed c.receive_all.ensures.sessions c.in_ok-go_on.ensures.settled))

pub returns-clause-begins : goal.returns-clause-begins
returns-clause-begins g c =
    on_ok c.send.result (λ none. subst (λ n. BeginsEagerly c.args.procs.now c.args.self.now n) (sym c.send.ensures.still) (turn_begins (c.receive_all.ensures.still none) c.go_on.ensures.moved c.in_ok-go_on.ensures.begins))

pub returns-clause-steps : goal.returns-clause-steps
returns-clause-steps g c = on_ok c.send.result (turn_steps (c.in_ok-receive_all.ensures.each c.args.procs.now) c.in_ok-go_on.ensures.passes c.send.ensures.still)

pub returns-clause-whole : goal.returns-clause-whole
returns-clause-whole g c =
    on_ok c.send.result (sends_whole (can_on [] [] (turn_can c.requires.stands (c.receive_all.ensures.moved c.args.procs.now)) c.go_on.ensures.moved) c.send.ensures.still)
