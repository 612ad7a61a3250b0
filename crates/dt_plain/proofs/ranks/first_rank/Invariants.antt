use Rattle.std.proofs.Common.{◌≡◌, drop}
use Rattle.dt_plain.specs.RanksInner.{first_rank}
use Rattle.dt_plain.proofs.ranks.first_rank.Given as goal

abbrev pub invariant-loop-part : goal.invariant-loop-part
invariant-loop-part l = first_rank (drop l.part-index l.log) l.id ≡ first_rank l.log l.id
