use Rattle.dt_plain.proofs.Intersections.{common_of_order}
use Rattle.dt_plain.proofs.class.common.Goals as goal

pub returns : goal.returns
returns c = common_of_order _ _ _ _ c.in_ok-shared.ensures c.ordered.ensures
