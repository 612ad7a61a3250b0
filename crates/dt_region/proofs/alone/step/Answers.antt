use Rattle.std.proofs.Common.{◌≡◌, List, [], Bool, false, Some, Ok, Err, Result, sym, subst}
use Rattle.std.specs.Result.{IsErr}
use Rattle.std.proofs.lemmas.Bool.{false≢true}
use Rattle.dt_text.specs.declared.NoMemory.{NoMemory}
use Rattle.dt_access.specs.declared.TxnId.{TxnId}
use Rattle.dt_proc.specs.Tree.{ProcTree}
use Rattle.dt_sched.specs.Sched.{CanExecute, CanResolve, IsNextClass, IsNextReady}
use Rattle.dt_txn.specs.Replica.{HasInsertedAll}
use Rattle.dt_region.specs.Conditions.{CanMove, HoldsValid}
use Rattle.dt_region.specs.Region.{HasStamp, RegionView, sched_of}
use Rattle.dt_region.specs.StepsInner.{InsertsSome, StepsOn}
use Rattle.dt_region.proofs.OneStep.{executes, resolves, stops}
use Rattle.dt_region.proofs.alone.step.Given.{Over}
use Rattle.dt_region.proofs.alone.step.Goals as goal
use Rattle.dt_region.proofs.alone.step.Goals.{In-Some}

-- nothing was inserted
none_inserted : (procs : List ProcTree) (r after : RegionView) (on : Bool) → on ≡ false → InsertsSome procs r (Ok on) after → HasInsertedAll r.state.logs r.state.here × (after ≡ r)
none_inserted procs r after on e made = subst (λ b. InsertsSome procs r (Ok b) after) e made

still : (procs : List ProcTree) {r after : RegionView} {on : Bool} → on ≡ false → ((procs : List ProcTree) → InsertsSome procs r (Ok on) after) → after ≡ r
still procs off made = (none_inserted procs _ _ _ off (made procs)).1

-- memory ran out before anything was done
stopped : (procs : List ProcTree) (r after : RegionView) (result : Result Bool NoMemory) → IsErr result → after ≡ r → StepsOn procs r result after
stopped procs r after (Err e) is same = same
stopped procs r after (Ok on) is same = absurd (false≢true is)

-- the transaction that is executed is the next that is ready
next_ready : (g : Over) (c : In-Some g) → IsNextReady (sched_of c.insert_some.new.region.state.logs c.insert_some.new.region.state.here) [] (Some c.in-Some.id)
next_ready g c = subst (IsNextReady (sched_of c.insert_some.new.region.state.logs c.insert_some.new.region.state.here) []) c.in-Some.is c.in_ok-id.ensures

pub returns-in_err-insert_some-clause-steps : goal.returns-in_err-insert_some-clause-steps
returns-in_err-insert_some-clause-steps g c = stopped c.args.procs.now _ _ _ c.from_residual.ensures.0 (c.in_err-insert_some.ensures.inserts c.args.procs.now)

pub returns-then-branch-clause-steps : goal.returns-then-branch-clause-steps
returns-then-branch-clause-steps g c =
    subst (λ b. InsertsSome c.args.procs.now c.args.region.now (Ok b) c.insert_some.new.region) c.if-branch.true (c.in_ok-insert_some.ensures.inserts c.args.procs.now)

pub returns-in_err-id-clause-steps : goal.returns-in_err-id-clause-steps
returns-in_err-id-clause-steps g c =
    stopped c.args.procs.now _ _ _ c.from_residual-in_err-id.ensures.0 (still c.args.procs.now c.if-branch.false c.in_ok-insert_some.ensures.inserts)

pub execute-requires-clause-stamp : goal.execute-requires-clause-stamp
execute-requires-clause-stamp g c =
    subst HasStamp (sym (still c.args.procs.now c.if-branch.false c.in_ok-insert_some.ensures.inserts)) c.requires.stamp

pub execute-requires-clause-holds : goal.execute-requires-clause-holds
execute-requires-clause-holds g c =
    subst (λ (r : RegionView). HoldsValid c.args.procs.now r.state) (sym (still c.args.procs.now c.if-branch.false c.in_ok-insert_some.ensures.inserts)) c.requires.holds

pub execute-requires-clause-place : goal.execute-requires-clause-place
execute-requires-clause-place g c =
    let same = still c.args.procs.now c.if-branch.false c.in_ok-insert_some.ensures.inserts in
    let next = next_ready g (goal.at.execute-requires-clause-place g c).In-Some in
    subst (λ (r : RegionView). (id : TxnId) → CanExecute (sched_of r.state.logs r.state.here) id → CanMove r.state id) (sym same) c.requires.moves c.in-Some.id next.0

pub returns-in-Some-clause-steps : goal.returns-in-Some-clause-steps
returns-in-Some-clause-steps g c =
    let next = next_ready g (goal.at.returns-in-Some-clause-steps g c).In-Some in
    executes c.args.procs.now c.args.region.now c.insert_some.new.region
    (still c.args.procs.now c.if-branch.false c.in_ok-insert_some.ensures.inserts) c.in-Some.id next.0 c.execute.result c.execute.new.self c.execute.ensures.makes

pub returns-in_err-ids-clause-steps : goal.returns-in_err-ids-clause-steps
returns-in_err-ids-clause-steps g c = stopped c.args.procs.now _ _ _ c.from_residual-in_err-ids.ensures.0 (still c.args.procs.now c.if-branch.false c.in_ok-insert_some.ensures.inserts)

pub returns-in-Some-2-clause-steps : goal.returns-in-Some-2-clause-steps
returns-in-Some-2-clause-steps g c =
    let sched = sched_of c.insert_some.new.region.state.logs c.insert_some.new.region.state.here in
    let next : IsNextClass sched (Some c.in-Some-2.ids) = subst (IsNextClass sched) c.in-Some-2.is c.in_ok-ids.ensures in
    resolves c.args.procs.now c.args.region.now c.insert_some.new.region
    (still c.args.procs.now c.if-branch.false c.in_ok-insert_some.ensures.inserts) _ (subst (CanResolve sched) (sym c.as_slice.ensures) next) c.resolve.result c.resolve.new.self c.resolve.ensures.makes

pub resolve-requires : goal.resolve-requires
resolve-requires g c = record { stamp = subst HasStamp (sym (still c.args.procs.now c.if-branch.false c.in_ok-insert_some.ensures.inserts)) c.requires.stamp }

pub returns-clause-steps : goal.returns-clause-steps
returns-clause-steps g c =
    let sched = sched_of c.insert_some.new.region.state.logs c.insert_some.new.region.state.here in
    let none = none_inserted c.args.procs.now _ _ _ c.if-branch.false (c.in_ok-insert_some.ensures.inserts c.args.procs.now) in
    stops c.args.procs.now c.args.region.now c.insert_some.new.region none.1 none.0
    (subst (IsNextReady sched []) c.in_default.is c.in_ok-id.ensures) (subst (IsNextClass sched) c.in_default-2.is c.in_ok-ids.ensures)
