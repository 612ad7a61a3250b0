use Rattle.std.proofs.Common.{inl, inr}
use Rattle.dt_command.proofs.FilesAboveLimit.{longer}
use Rattle.dt_command.proofs.files.load.Goals as goal

pub returns-in-Err-TooLong-clause-refused : goal.returns-in-Err-TooLong-clause-refused
returns-in-Err-TooLong-clause-refused g c = λ status is. inr (inl (cc, longer _ _ _ c.load.ensures.long_only cc))
