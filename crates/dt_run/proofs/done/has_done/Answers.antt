use Rattle.std.proofs.Common.{◌≢◌, ◌≤◌, ◌+◌, length, None, refl, sym, arith}
use Rattle.std.proofs.lemmas.Bool.{false≢true}
use Rattle.dt_region.specs.Region.{held}
use Rattle.dt_run.proofs.DoneSubmissions.{done_all, done_fails, done_goes, no_outcome, none_held, outcome_done, some_held, within}
use Rattle.dt_run.proofs.done.has_done.Goals as goal

pub returns-then-is_none : goal.returns-then-is_none
returns-then-is_none g c =
    let there : held c.args.source.now.state c.loop-id.id ≢ None = some_held c.txn.result _ c.txn.ensures (sym c.loop-id-test.ensures) in (
      λ e. absurd (false≢true e),
      λ a. absurd (done_fails c.number.ensures.sound c.loop-id.invariant there
          (no_outcome c.args.region.now.state c.loop-id.id (none_held c.outcome.result _ c.outcome.ensures c.if-is_none.ensures)) a),
    )

pub overflow_add-id : goal.overflow_add-id
overflow_add-id g c =
    let there : held c.args.source.now.state c.loop-id.id ≢ None = some_held c.txn.result _ c.txn.ensures (sym c.loop-id-test.ensures) in
    let le : c.loop-id.id.seq ≤ length c.args.source.now.state.submitted = within c.number.ensures.sound c.loop-id.invariant there in
    omega (arith, le, c.requires)

pub loop-id-preserved : goal.loop-id-preserved
loop-id-preserved g c =
    let there : held c.args.source.now.state c.loop-id.id ≢ None = some_held c.txn.result _ c.txn.ensures (sym c.loop-id-test.ensures) in
    done_goes c.number.ensures.sound c.loop-id.invariant there
    (outcome_done c.args.region.now.state c.loop-id.id (some_held c.outcome.result _ c.outcome.ensures c.if-is_none.ensures))
    (record { seq = c.loop-id.id.seq + 1; region = c.loop-id.id.region }) refl refl

pub returns : goal.returns
returns g c = (λ e. done_all c.number.ensures.sound c.loop-id.invariant (none_held c.txn.result _ c.txn.ensures (sym c.loop-id-test.ensures)), λ a. refl)
