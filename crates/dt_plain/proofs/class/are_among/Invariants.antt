use Rattle.std.proofs.Common.{◌⊎◌, ◌↔◌, drop}
use Rattle.dt_lists.specs.Lists.{AllIn, Has}
use Rattle.dt_plain.proofs.class.are_among.Given as goal

abbrev pub invariant-loop-id : goal.invariant-loop-id
invariant-loop-id l = AllIn (λ u. Has l.left u ⊎ Has l.right u) (drop l.id-index l.ids) ↔ AllIn (λ u. Has l.left u ⊎ Has l.right u) l.ids
