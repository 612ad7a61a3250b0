use Rattle.std.proofs.Common.{◌<◌, length, Bool, Ok, subst, arith}
use Rattle.dt_region.specs.Rules.{MakesAppend}
use Rattle.dt_test_round.proofs.OwnEvents.{placed}
use Rattle.dt_test_round.proofs.feeding.place.Goals as goal

pub returns : goal.returns
returns g c =
    let r = c.args.region.now in
    let source = c.args.row.now.2 in
    let there : r.state.number < length r.state.logs = let a = c.number.ensures.sound.number in let b = c.number.ensures.sound.logs in omega (arith, a, b) in
    let made = subst (λ (b : Bool). MakesAppend r source c.taken-number.result c.in_ok-txn.txn (Ok b) c.append.new.self) c.if-not-branch.false c.in_ok-append.ensures.makes in
    placed c.args.procs.now c.args.count r c.append.new.self c.requires.fed source c.in_ok-txn.txn there _ c.in_ok-txn.ensures.valid made.1
