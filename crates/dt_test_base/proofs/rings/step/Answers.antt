use Rattle.std.proofs.Common.{refl}
use Rattle.dt_ring.proofs.Callers.{ends_stay}
use Rattle.dt_test_base.proofs.rings.step.Goals as goal

pub returns-in-43 : goal.returns-in-43
returns-in-43 c =
    let outlet = c.args.outlet.now in
    let inlet = c.args.inlet.now in
    ends_stay outlet c.put.new.outlet inlet inlet c.requires (c.put.ensures outlet (record { ring = refl; before = refl; places = refl })) (record { ring = refl; order = refl })
