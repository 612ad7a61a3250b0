use Rattle.std.proofs.Common.{◌≡◌, take, false}
use Rattle.dt_access.specs.ClashSearchInner.{takes_from}
use Rattle.dt_access.proofs.clashes.takes_from.Given as goal

abbrev pub invariant-loop-key : goal.invariant-loop-key
invariant-loop-key l = takes_from (take l.key-index l.takers) l.keys ≡ false
