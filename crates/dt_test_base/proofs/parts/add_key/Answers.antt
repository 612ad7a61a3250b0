use Rattle.dt_test_base.proofs.Ascending.{ascends_on}
use Rattle.dt_test_base.proofs.parts.add_key.Goals as goal

pub push-requires : goal.push-requires
push-requires c =
    ascends_on _ _ c.as_slice.ensures.ascending (rw c.as_slice.ensures.same at (c.is_above.ensures c.if-not-is_above.false))
