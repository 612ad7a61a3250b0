use Rattle.std.proofs.Common.{◌≡◌, ◌<◌, length, Bool, Ok, sym, subst, ◌∙◌, arith}
use Rattle.dt_lists.specs.Lists.{Has}
use Rattle.dt_sched.specs.Views.{HasPart, log_at}
use Rattle.dt_txn.specs.Transaction.{homes_of}
use Rattle.dt_region.specs.Conditions.{CanAppend}
use Rattle.dt_region.specs.Region.{RegionView}
use Rattle.dt_region.specs.Rules.{MakesAppend}
use Rattle.dt_test_round.specs.FedRegion.{WasFed}
use Rattle.dt_test_round.proofs.Opening.{has_stamp}
use Rattle.dt_test_round.proofs.OwnEvents.{can_place, placed}
use Rattle.dt_test_round.proofs.StayEqual.{placed_alike}
use Rattle.dt_test_round.proofs.twins.place.Goals as goal

pub append-requires-clause-source : goal.append-requires-clause-source
append-requires-clause-source g c =
    let below : c.args.row.now.2 < c.args.region.now.state.regions = let a = c.if-by-regions.false in let b = c.regions.ensures.regions in omega (arith, a, b) in
    subst (λ (x : RegionView). c.args.row.now.2 < x.state.regions) (sym c.requires.equal) below

pub append-requires-clause-stamp : goal.append-requires-clause-stamp
append-requires-clause-stamp g c = has_stamp c.args.procs.now c.args.count c.args.twin.now c.requires.few (subst (WasFed c.args.procs.now c.args.count) (sym c.requires.equal) c.requires.fed)

pub append-requires-clause-can : goal.append-requires-clause-can
append-requires-clause-can g c =
    let r = c.args.region.now in
    let txn = c.in_ok-txn.txn in
    let at : c.args.row.now.0 ≡ r.state.number = c.if-home-number.false ∙ c.number.ensures.number in
    let there : r.state.number < length r.state.logs = let a = c.number.ensures.sound.number in let b = c.number.ensures.sound.logs in omega (arith, a, b) in
    subst (λ (x : RegionView). CanAppend x.state c.args.row.now.2 c.taken-number.result txn) (sym c.requires.equal)
    (can_place c.args.procs.now c.args.count r r c.requires.fed c.args.row.now.2 txn there c.taken-number.result c.requires.few (subst (Has (homes_of txn)) at c.in_ok-txn.ensures.home)
    c.in_ok-txn.ensures.agrees (subst (λ n. ¬ (HasPart (log_at r.state.logs n) txn.id)) at c.in_ok-txn.ensures.fresh))

pub returns-clause-fed : goal.returns-clause-fed
returns-clause-fed g c =
    let r = c.args.region.now in
    let source = c.args.row.now.2 in
    let there : r.state.number < length r.state.logs = let a = c.number.ensures.sound.number in let b = c.number.ensures.sound.logs in omega (arith, a, b) in
    let made = subst (λ (b : Bool). MakesAppend r source c.taken-number.result c.in_ok-txn.txn (Ok b) c.append-else-not-branch.new.self) c.if-not-branch-2.false c.in_ok-append-2.ensures.makes in
    placed c.args.procs.now c.args.count r c.append-else-not-branch.new.self c.requires.fed source c.in_ok-txn.txn there _ c.in_ok-txn.ensures.valid made.1

pub returns-clause-equal : goal.returns-clause-equal
returns-clause-equal g c =
    let r = c.args.region.now in
    let twin = c.args.twin.now in
    let source = c.args.row.now.2 in
    let number = c.taken-number.result in
    let txn = c.in_ok-txn.txn in
    let made = subst (λ (b : Bool). MakesAppend twin source number txn (Ok b) c.append.new.self) c.if-not-branch.false c.in_ok-append.ensures.makes in
    let own = subst (λ (b : Bool). MakesAppend r source number txn (Ok b) c.append-else-not-branch.new.self) c.if-not-branch-2.false c.in_ok-append-2.ensures.makes in
    placed_alike r twin c.append-else-not-branch.new.self c.append.new.self source number txn c.requires.equal made.1 own.1
