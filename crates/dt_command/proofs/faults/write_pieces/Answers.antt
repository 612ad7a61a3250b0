use Rattle.std.proofs.Common.{ap}
use Rattle.std.specs.List.{flat_map}
use Rattle.std.proofs.lemmas.List.{drop_more}
use Rattle.dt_outside.proofs.Callers.{HasAddedUpTo-next, HasAddedUpTo-failed}
use Rattle.dt_command.proofs.faults.write_pieces.Goals as goal

pub returns-in_err-write_all : goal.returns-in_err-write_all
returns-in_err-write_all g c =
    let cut = ap (flat_map (λ piece. piece.now)) (drop_more c.args.pieces.now c.loop-piece.piece-index _ c.loop-piece-test.true) in
    HasAddedUpTo-failed _ _ _ _ _ _ _ _ cut c.loop-piece.invariant c.write_all.ensures _ _ _ c.in_err-write_all.was c.from_residual.ensures.1

pub loop-piece-preserved : goal.loop-piece-preserved
loop-piece-preserved g c =
    let cut = ap (flat_map (λ piece. piece.now)) (drop_more c.args.pieces.now c.loop-piece.piece-index _ c.loop-piece-test.true) in
    HasAddedUpTo-next _ _ _ _ _ _ _ _ cut c.loop-piece.invariant c.write_all.ensures _ c.in_ok-write_all.was
