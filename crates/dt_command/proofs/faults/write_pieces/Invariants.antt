use Rattle.std.proofs.Common.{drop}
use Rattle.std.specs.List.{flat_map}
use Rattle.dt_outside.proofs.Callers.{HasAddedUpTo}
use Rattle.dt_command.proofs.faults.write_pieces.Given as goal

-- all was added but the pieces that are left
abbrev pub invariant-loop-piece : goal.invariant-loop-piece
invariant-loop-piece g l =
    HasAddedUpTo (flat_map (λ piece. piece.now) l.pieces) (flat_map (λ piece. piece.now) (drop l.piece-index l.pieces)) (g.O.Sink.seen l.fn.out) (g.O.Sink.seen l.out)
