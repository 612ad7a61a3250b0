use Rattle.std.proofs.Common.{map}
use Rattle.dt_outside.proofs.Callers.{Writes-append, Writes-longer}
use Rattle.dt_command.specs.Statuses.{visible_byte}
use Rattle.dt_command.proofs.faults.put_named.Goals as goal

pub returns-in_err-write_all : goal.returns-in_err-write_all
returns-in_err-write_all g c =
    Writes-longer _ _ c.args.front.now (map visible_byte c.args.name.now) _ _ _ _ c.in_err-write_all.was c.from_residual.ensures.1 c.write_all.ensures

pub returns : goal.returns
returns g c = Writes-append _ _ _ c.args.front.now (map visible_byte c.args.name.now) _ _ _ c.in_ok-write_all.was c.write_all.ensures c.write_name.ensures
