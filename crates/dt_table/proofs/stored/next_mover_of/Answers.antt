use Rattle.std.proofs.Common.{◌+◌, ◌∙◌, refl}
use Rattle.dt_table.specs.StoredMovesInner.{history}
use Rattle.dt_table.proofs.MoveHistories.{mover_in-next}
use Rattle.dt_table.proofs.stored.next_mover_of.Goals as goal

pub returns : goal.returns
returns c = c.mover_of.ensures ∙ mover_in-next (history c.args.moves.now c.args.unit.now.last) (c.args.had + 1) c.args.had refl
