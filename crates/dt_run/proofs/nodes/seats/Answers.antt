use Rattle.std.proofs.Common.{◌≡◌, map, subst, arith}
use Rattle.std.specs.List.{range_with_len}
use Rattle.dt_node.specs.NodeView.{opening_node_of}
use Rattle.dt_run.specs.SeatsInner.{new_seat}
use Rattle.dt_run.proofs.NextSeat.{seats_more, sound_more}
use Rattle.dt_run.proofs.nodes.seats.Goals as goal

pub loop-region-preserved : goal.loop-region-preserved
loop-region-preserved g c =
    let more = c.in_ok-push.ensures.items in
    let made = c.new.ensures in
    let seats = c.loop-region.seats.items in
    let seats' = c.push.new.self.items in
    let seat = c.new.result in
    let node = c.in_ok-node.node in
    record {
      opening = seats_more seats seats' seat node more made (opening_node_of c.args.cluster.now c.args.workload.now) c.loop-region.region c.loop-region.invariant.opening c.in_ok-node.ensures;
      sound = sound_more seats seats' seat node more made c.region.ensures c.number-number.ensures.sound c.loop-region.invariant.sound;
    }

pub returns-clause-opening : goal.returns-clause-opening
returns-clause-opening g c =
    let all : c.loop-region.region ≡ c.args.cluster.now.regions = omega arith in
    subst (λ n. c.loop-region.seats.items ≡ map (λ region. new_seat (opening_node_of c.args.cluster.now c.args.workload.now region)) (range_with_len 0 n)) all c.loop-region.invariant.opening
