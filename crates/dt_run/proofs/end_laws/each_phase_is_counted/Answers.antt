use Rattle.std.proofs.Common.{arith}
use Rattle.dt_run.proofs.CountedPhases.{is_counted}
use Rattle.dt_run.proofs.end_laws.each_phase_is_counted.Goals as goal

pub returns : goal.returns
returns c = λ before after n sound phase ends. is_counted (n.in_step sound) phase ends (let s = n.cluster.some in omega (arith, s))
