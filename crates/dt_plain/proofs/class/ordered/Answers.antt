use Rattle.dt_plain.proofs.Order.{order_of_sorted}
use Rattle.dt_plain.proofs.class.ordered.Goals as goal

pub returns : goal.returns
returns c = rw c.from_vec.ensures (order_of_sorted _ _ c.requires c.in_ok-sort.ensures.permutation c.in_ok-sort.ensures.sorted)
