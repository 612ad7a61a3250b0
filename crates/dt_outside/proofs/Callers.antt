-- What a caller's proof needs of texts that are written to a sink: how the writing of two, one behind the other, ends; and how
-- far a loop has come that writes a text piece after piece.
pub use Rattle.dt_outside.proofs.TextPieces.{Writes-append, Writes-longer, Writes-prefix, Writes-whole}
pub use Rattle.dt_outside.proofs.TextPieces.{HasAddedUpTo, HasAddedUpTo-next, HasAddedUpTo-failed}
