use Rattle.std.proofs.Common.{◌≡◌, ◌+◌, length}
use Rattle.dt_access.specs.ClashSearchInner.{meet_on_row}
use Rattle.dt_access.specs.Orders.{HasAscendingKeys}
use Rattle.dt_access.proofs.clashes.meet_on_row.Given as goal

abbrev pub invariant-loop-left_key : goal.invariant-loop-left_key
invariant-loop-left_key l =
    HasAscendingKeys l.left × HasAscendingKeys l.right × (meet_on_row l.left l.right ≡ meet_on_row l.fn.left l.fn.right)

abbrev pub decreases-loop-left_key : goal.decreases-loop-left_key
decreases-loop-left_key l = length l.left + length l.right
