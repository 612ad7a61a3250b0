use Rattle.std.proofs.Common.{refl}
use Rattle.dt_txn.proofs.PartKeys.{next_annotated}
use Rattle.dt_txn.proofs.annotation.annotated.Goals as goal

pub push-requires : goal.push-requires
push-requires c =
    next_annotated c.args.table.now.state c.in_ok-uses.uses c.as_slice-key-items.result.now c.loop-key.access _ c.loop-key.key-index _
    c.as_slice-key-items.ensures.ascending c.as_slice-key-items.ensures.same c.loop-key.invariant c.loop-key-test.true c.loop-key-item.is
    (rw (c.mastership-mastership.ensures.home, c.mastership-mastership.ensures.counter, c.hinted-key.ensures, c.in_ok-copy.ensures.same) refl)
