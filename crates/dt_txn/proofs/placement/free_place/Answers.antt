use Rattle.std.proofs.Common.{arith}
use Rattle.dt_txn.proofs.HomeSets.{with_number_fresh_at, with_number_there_at}
use Rattle.dt_txn.proofs.placement.free_place.Goals as goal
use Rattle.dt_txn.proofs.placement.free_place.Goals.{else-place-homes-via-then-place-homes+else-homes-place, else-place-homes-via-else-place-homes}

pub returns-then-homes-place-clause-there : goal.returns-then-homes-place-clause-there
returns-then-homes-place-clause-there c =
    with_number_there_at _ _ _ c.place_of-place.ensures.first c.if-place-homes.true c.if-homes-place.true

pub returns-clause-place : goal.returns-clause-place
returns-clause-place c = with_number_fresh_at _ _ _ c.place_of-place.ensures.first
    (elim c.else-place-homes.branch [
      | else-place-homes-via-then-place-homes+else-homes-place w ↦ λ _ e. w.if-homes-place.false e
      | else-place-homes-via-else-place-homes w ↦ λ l _. absurd (omega (arith, w.if-place-homes.false))
    ])
