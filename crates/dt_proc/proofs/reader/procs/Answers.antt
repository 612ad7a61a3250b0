use Rattle.std.proofs.Common.{ap, sym, ◌∙◌, Ok, Err, length, subst, arith}
use Rattle.std.proofs.lemmas.Result.{err_from_is_err_and}
use Rattle.dt_proc.proofs.ProcsWalk.{Going, Right, starts, some_left, none_left, going_next, going_fault, going_end}
use Rattle.dt_proc.proofs.reader.procs.Goals as goal

pub proc-requires-clause-starts : goal.proc-requires-clause-starts
proc-requires-clause-starts c = starts (length c.loop-rest.procs.items) c.loop-rest.rest.now (some_left c.loop-rest.rest.now c.loop-rest-test.ensures) c.loop-rest.invariant.going.left

pub returns-in_err-item-clause-right : goal.returns-in_err-item-clause-right
returns-in_err-item-clause-right c = λ ps good cut.
    let r = err_from_is_err_and c.from_residual.result c.from_residual.ensures.1 in
    let right = subst (λ v. Right v c.loop-rest.rest.now (Err c.in_err-item.field-0.0)) c.as_slice.ensures.value c.in_err-item.ensures.right in
    rw (r.1, r.2) (going_fault c.args.tokens.now c.loop-rest.procs.items c.loop-rest.rest.now c.in_err-item.field-0.0
    (some_left c.loop-rest.rest.now c.loop-rest-test.ensures) c.loop-rest.invariant.going.told right ps good cut)

pub loop-rest-preserved : goal.loop-rest-preserved
loop-rest-preserved c = record {
  going =
      let right = subst (λ v. Right v c.loop-rest.rest.now (Ok (c.in_ok-item.item, c.in_ok-item.after.now))) c.as_slice.ensures.value c.in_ok-item.ensures.right in
      subst (λ v. Going c.args.tokens.now v c.in_ok-item.after.now) (sym c.in_ok-push.ensures.items)
      (going_next c.args.tokens.now c.loop-rest.procs.items c.in_ok-item.item c.loop-rest.rest.now c.in_ok-item.after.now
      (some_left c.loop-rest.rest.now c.loop-rest-test.ensures) c.loop-rest.invariant.going c.in_ok-item.ensures.fits right);
  shorter = omega (arith, c.loop-rest.invariant.shorter, c.in_ok-item.ensures.shorter);
}

pub returns-clause-right : goal.returns-clause-right
returns-clause-right c = λ ps good cut.
    going_end c.args.tokens.now c.loop-rest.procs.items c.loop-rest.rest.now (none_left c.loop-rest.rest.now c.loop-rest-test.ensures) c.loop-rest.invariant.going.told ps good cut
    ∙ ap Ok (sym c.in_ok-from_vec.ensures)
