use Rattle.std.proofs.Common.{[], ◌∷◌, refl}
use Rattle.dt_node.proofs.Inlets.{can_next, none_left, taking_as}
use Rattle.dt_node.proofs.PacketsTaken.{taking_breaks, taking_ends, taking_goes, taking_starts}
use Rattle.dt_node.proofs.node.Node.receive_from.Goals as goal

pub loop-packet-init : goal.loop-packet-init
loop-packet-init g c = record {
  taking = taking_starts (g.I.Inlet.waits c.args.inlet.now) c.args.self.now;
  same = λ first s. s;
  still = λ none. refl;
}

pub receive-requires : goal.receive-requires
receive-requires g c =
    let taking = taking_as c.in-Some.ensures.takes c.loop-packet.invariant.taking in
    record { can = can_next (c.in-Some.packet ∷ []) (g.I.Inlet.waits c.take.new.self) c.requires.can taking }

pub loop-packet-preserved : goal.loop-packet-preserved
loop-packet-preserved g c =
    let taking = taking_as c.in-Some.ensures.takes c.loop-packet.invariant.taking in
    record {
      taking = taking_goes {xs = c.in-Some.packet ∷ []} (g.I.Inlet.waits c.take.new.self) taking c.receive.ensures.moved c.in_ok-receive.ensures.taken
          (λ procs. (c.receive.new.self, c.in_ok-receive.ensures.one procs, refl)) c.receive.ensures.turns c.receive.ensures.sessions c.receive.ensures.placed;
      same = λ first s. c.take.ensures.same first (c.loop-packet.invariant.same first s);
      still = λ none. absurd (none_left c.in-Some.packet none taking);
    }

pub returns-in_err-receive-clause-moved : goal.returns-in_err-receive-clause-moved
returns-in_err-receive-clause-moved g c =
    let taking = taking_as c.in-Some.ensures.takes c.loop-packet.invariant.taking in
    taking_breaks {xs = c.in-Some.packet ∷ []} (g.I.Inlet.waits c.take.new.self) taking c.receive.ensures.moved

pub returns-in_err-receive-clause-still : goal.returns-in_err-receive-clause-still
returns-in_err-receive-clause-still g c =
    let taking = taking_as c.in-Some.ensures.takes c.loop-packet.invariant.taking in
    λ none. absurd (none_left c.in-Some.packet none taking)

pub returns-clause-moved : goal.returns-clause-moved
returns-clause-moved g c =
    (taking_ends (taking_as c.in_default.ensures.takes.0 c.loop-packet.invariant.taking)).0

pub returns-clause-each : goal.returns-clause-each
returns-clause-each g c =
    (taking_ends (taking_as c.in_default.ensures.takes.0 c.loop-packet.invariant.taking)).2
