use Rattle.std.proofs.Common.{◌∙◌, ◌++◌, map, drop}
use Rattle.dt_txn.specs.Transaction.{targets_of}
use Rattle.dt_txn.proofs.HomeSets.{ascending_of_set}
use Rattle.dt_txn.proofs.placement.homes.Goals as goal

pub from_slice-requires : goal.from_slice-requires
from_slice-requires c =
    ascending_of_set _ (map (λ a. a.home) (drop c.loop-place.place c.as_slice-access.result.now) ++ targets_of c.args.txn.now.body) (c.as_slice.ensures ∙ c.loop-place.invariant.so_far)
