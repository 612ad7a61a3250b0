use Rattle.dt_merge.proofs.Frames as frames
use Rattle.dt_merge.proofs.laws.frame.Goals as goal

pub returns : goal.returns
returns c cluster workload w event region other = frames.frame cluster workload w region event other
