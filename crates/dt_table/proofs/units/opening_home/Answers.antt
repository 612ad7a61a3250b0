use Rattle.std.proofs.Common.{◌%◌, ℕ, ap, Option, unwrap_or, slice_index}
use Rattle.dt_table.proofs.units.opening_home.Goals as goal

pub returns-in-Some : goal.returns-in-Some
returns-in-Some c =
    let listed = λ (o : Option ℕ). unwrap_or o (slice_index c.args.unit.now 0 % c.args.regions) in
    ap listed c.in-Some.ensures

pub returns-in-None : goal.returns-in-None
returns-in-None c =
    let listed = λ (o : Option ℕ). unwrap_or o (slice_index c.args.unit.now 0 % c.args.regions) in
    ap listed c.in-None.ensures
