use Rattle.std.proofs.Common.{codes}
use Rattle.dt_outside.proofs.Callers.{Writes-append, Writes-longer}
use Rattle.dt_command.specs.Statuses.{place_text}
use Rattle.dt_command.proofs.faults.put_front.Goals as goal

pub returns-in_err-write_all : goal.returns-in_err-write_all
returns-in_err-write_all g c =
    Writes-longer _ _ (codes "detock: cluster") (place_text c.args.place.now) _ _ _ _ c.in_err-write_all.was c.from_residual.ensures.1 c.write_all.ensures

pub returns : goal.returns
returns g c = Writes-append _ _ _ (codes "detock: cluster") (place_text c.args.place.now) _ _ _ c.in_ok-write_all.was c.write_all.ensures c.put_place.ensures
