use Rattle.dt_plain.proofs.Order.{pointwise_tells}
use Rattle.dt_plain.proofs.class.same.Goals as goal

pub returns : goal.returns
returns c = pointwise_tells _ _ _ c.eq.ensures
