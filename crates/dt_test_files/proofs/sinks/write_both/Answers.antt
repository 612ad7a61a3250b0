use Rattle.dt_outside.proofs.Callers.{Writes-append, Writes-longer}
use Rattle.dt_test_files.proofs.sinks.write_both.Goals as goal

pub returns-in_err-write_all : goal.returns-in_err-write_all
returns-in_err-write_all g c = Writes-longer _ _ c.args.first.now c.args.second.now _ _ _ _ c.in_err-write_all.was c.from_residual.ensures.1 c.write_all.ensures

pub returns : goal.returns
returns g c = Writes-append _ _ _ c.args.first.now c.args.second.now _ _ _ c.in_ok-write_all.was c.write_all.ensures c.write_all-2.ensures
