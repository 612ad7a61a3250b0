use Rattle.std.proofs.Common.{◌<◌, ◌≤◌, ◌+◌, ◌++◌, drop, flat_map, get_or, length, refl, sym, ap, ◌∙◌, arith}
use Rattle.std.proofs.Math.ListN.{drop_of_length-le, length-set}
use Rattle.dt_node.specs.TurnInner.{IsTaking}
use Rattle.dt_node.proofs.Inlets.{can_next, emptied_here, same_set, taking_as, waits_behind, waits_here}
use Rattle.dt_node.proofs.SmallNumbers.{none_waits}
use Rattle.dt_node.proofs.PacketsTaken.{taking_breaks, taking_ends, taking_goes, taking_starts}
use Rattle.dt_node.proofs.node.Node.receive_all.Given.{Over}
use Rattle.dt_node.proofs.node.Node.receive_all.Goals as goal
use Rattle.dt_node.proofs.node.Node.receive_all.Goals.{After-inlet-item}

-- what is left: what waits at the inlet that is taken next, and behind it
taking_next : (g : Over) (c : After-inlet-item g) →
    let waits = g.I.Inlet.waits in let ins = c.loop-inlet.ins in let link = c.loop-inlet.inlet-index in
    IsTaking c.args.self.now (flat_map waits c.args.ins.now) (waits (get_or ins link c.inlet-item.result) ++ flat_map waits (drop (link + 1) ins)) c.loop-inlet.self
taking_next g c =
    let ins = c.loop-inlet.ins in let link = c.loop-inlet.inlet-index in
    let lt : link < length ins = omega (arith, c.loop-inlet-test.true, c.loop-inlet.auto.ins) in
    taking_as (waits_here g.I.Inlet.waits ins link (get_or ins link c.inlet-item.result) lt (ap (get_or ins link) c.inlet-item.is)) c.loop-inlet.invariant.taking

pub loop-inlet-init : goal.loop-inlet-init
loop-inlet-init g c = record {
  taking = taking_starts (flat_map g.I.Inlet.waits c.args.ins.now) c.args.self.now;
  emptied = refl;
  many = refl;
  same = λ first s. s;
  still = λ none. refl;
}

pub receive_from-requires : goal.receive_from-requires
receive_from-requires g c =
    let waits = g.I.Inlet.waits in let ins = c.loop-inlet.ins in let link = c.loop-inlet.inlet-index in
    let x = get_or ins link c.inlet-item.result in let rest = flat_map waits (drop (link + 1) ins) in
    let taking = taking_next g (goal.at.receive_from-requires g c).After-inlet-item in
    record { can = can_next (waits x) rest c.requires.can taking }

pub returns-in_err-receive_from-clause-moved : goal.returns-in_err-receive_from-clause-moved
returns-in_err-receive_from-clause-moved g c =
    let waits = g.I.Inlet.waits in let ins = c.loop-inlet.ins in let link = c.loop-inlet.inlet-index in
    let x = get_or ins link c.inlet-item.result in let rest = flat_map waits (drop (link + 1) ins) in
    let taking = taking_next g (goal.at.returns-in_err-receive_from-clause-moved g c).After-inlet-item in
    taking_breaks {xs = waits x} rest taking c.receive_from.ensures.moved

pub returns-in_err-receive_from-clause-same : goal.returns-in_err-receive_from-clause-same
returns-in_err-receive_from-clause-same g c =
    let ins = c.loop-inlet.ins in let link = c.loop-inlet.inlet-index in let x = get_or ins link c.inlet-item.result in
    λ first s. same_set g.I.Inlet.same first ins link x c.receive_from.new.inlet (ap (get_or ins link) c.inlet-item.is) c.receive_from.ensures.same (c.loop-inlet.invariant.same first s)

pub returns-in_err-receive_from-clause-still : goal.returns-in_err-receive_from-clause-still
returns-in_err-receive_from-clause-still g c =
    let waits = g.I.Inlet.waits in let ins = c.loop-inlet.ins in let link = c.loop-inlet.inlet-index in
    let x = get_or ins link c.inlet-item.result in let rest = flat_map waits (drop (link + 1) ins) in
    let taking = taking_next g (goal.at.returns-in_err-receive_from-clause-still g c).After-inlet-item in
    λ none. c.receive_from.ensures.still (none_waits (waits x) rest none taking) ∙ c.loop-inlet.invariant.still none

pub loop-inlet-preserved : goal.loop-inlet-preserved
loop-inlet-preserved g c =
    let waits = g.I.Inlet.waits in let ins = c.loop-inlet.ins in let link = c.loop-inlet.inlet-index in
    let x = get_or ins link c.inlet-item.result in let rest = flat_map waits (drop (link + 1) ins) in
    let taking = taking_next g (goal.at.loop-inlet-preserved g c).After-inlet-item in
    record {
      taking = taking_as (sym (waits_behind waits ins link c.receive_from.new.inlet))
          (taking_goes {xs = waits x} rest taking c.receive_from.ensures.moved c.in_ok-receive_from.ensures.taken c.in_ok-receive_from.ensures.each c.receive_from.ensures.turns c.receive_from.ensures.sessions c.receive_from.ensures.placed);
      emptied = emptied_here waits ins link c.receive_from.new.inlet c.loop-inlet.invariant.emptied c.in_ok-receive_from.ensures.emptied;
      many = length-set ins link c.receive_from.new.inlet ∙ c.loop-inlet.invariant.many;
      same = λ first s. same_set g.I.Inlet.same first ins link x c.receive_from.new.inlet (ap (get_or ins link) c.inlet-item.is) c.receive_from.ensures.same (c.loop-inlet.invariant.same first s);
      still = λ none. c.receive_from.ensures.still (none_waits (waits x) rest none taking) ∙ c.loop-inlet.invariant.still none;
    }

pub returns-clause-moved : goal.returns-clause-moved
returns-clause-moved g c =
    let waits = g.I.Inlet.waits in let ins = c.loop-inlet.ins in let link = c.loop-inlet.inlet-index in
    let le : length ins ≤ link = omega (arith, c.loop-inlet-test.false, c.loop-inlet.auto.ins) in
    (taking_ends (taking_as (ap (flat_map waits) (drop_of_length-le ins le)) c.loop-inlet.invariant.taking)).0

pub returns-clause-each : goal.returns-clause-each
returns-clause-each g c =
    let waits = g.I.Inlet.waits in let ins = c.loop-inlet.ins in let link = c.loop-inlet.inlet-index in
    let le : length ins ≤ link = omega (arith, c.loop-inlet-test.false, c.loop-inlet.auto.ins) in
    (taking_ends (taking_as (ap (flat_map waits) (drop_of_length-le ins le)) c.loop-inlet.invariant.taking)).2
