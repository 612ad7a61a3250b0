use Rattle.std.proofs.Common.{◌<◌, length, arith}
use Rattle.std.proofs.lemmas.Grind.{common_steps}
use Rattle.dt_plain.proofs.Callers.{home_there}
use Rattle.dt_test_graph.proofs.calls.insert.Goals as goal

pub index_mut-log-requires : goal.index_mut-log-requires
index_mut-log-requires c =
    let here : c.args.part.home < length c.args.logs.now.items = home_there _ _ (rw c.as_slice.ensures.value at c.fits.ensures (c.if-not-fits.false)) in
    grind (arith, common_steps, here)
