use Rattle.std.proofs.Common.{[], ◌∷◌, sym, ◌∙◌, arith}
use Rattle.dt_node.specs.TurnInner.{asking_packet}
use Rattle.dt_node.proofs.SmallNumbers.{taken_counted}
use Rattle.dt_node.proofs.RequestByRequest.{can_place_next, placing_as, placing_breaks, placing_goes, placing_starts}
use Rattle.dt_node.proofs.TruePackets.{can_again}
use Rattle.dt_node.proofs.node.Node.place_all.Goals as goal

pub loop-txn-init : goal.loop-txn-init
loop-txn-init g c =
    placing_as (sym (c.into_iter-txn-iterator.ensures.into_iter_gives.0 ∙ c.into_vec-txn-items.ensures)) (placing_starts c.requires.can)

pub place_one-requires : goal.place_one-requires
place_one-requires g c =
    let p = placing_as c.in-Some.ensures.steps.0 c.loop-txn.invariant in
    record { can = can_place_next c.requires.can p }

pub returns-in_err-place_one-clause-moved : goal.returns-in_err-place_one-clause-moved
returns-in_err-place_one-clause-moved g c =
    let p = placing_as c.in-Some.ensures.steps.0 c.loop-txn.invariant in
    placing_breaks c.requires.can p c.place_one.ensures.moved

pub overflow_add-number : goal.overflow_add-number
overflow_add-number g c =
    let p = placing_as c.in-Some.ensures.steps.0 c.loop-txn.invariant in
    let can = can_again (asking_packet c.args.self.now c.args.source c.args.first c.args.asked ∷ []) c.requires.can (placing_breaks c.requires.can p c.place_one.ensures.moved) in
    omega (arith, taken_counted can c.args.source, c.in_ok-place_one.ensures.taken)

pub loop-txn-preserved : goal.loop-txn-preserved
loop-txn-preserved g c =
    let p = placing_as c.in-Some.ensures.steps.0 c.loop-txn.invariant in
    placing_goes c.requires.can p c.place_one.ensures.moved c.in_ok-place_one.ensures.taken c.in_ok-place_one.ensures.append c.in_ok-place_one.ensures.count c.place_one.ensures.knows c.place_one.ensures.sessions c.place_one.ensures.placed
