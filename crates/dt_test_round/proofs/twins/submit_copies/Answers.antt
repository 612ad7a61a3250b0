use Rattle.std.proofs.Common.{refl, sym, subst}
use Rattle.dt_txn.specs.Transaction.{BodyFits}
use Rattle.dt_region.specs.Region.{RegionView}
use Rattle.dt_test_round.specs.FedRegion.{WasFed}
use Rattle.dt_test_round.proofs.StayEqual.{submitted_alike}
use Rattle.dt_test_round.proofs.twins.submit_copies.Goals as goal

pub submit_copy-requires-clause-fed : goal.submit_copy-requires-clause-fed
submit_copy-requires-clause-fed g c = subst (WasFed c.args.procs.now c.args.count) (sym c.requires.equal) c.requires.fed

pub submit_copy-requires-clause-fits : goal.submit_copy-requires-clause-fits
submit_copy-requires-clause-fits g c =
    subst (λ (x : RegionView). BodyFits c.args.procs.now x.state.here.table.version x.state.regions c.args.body.now) (sym c.requires.equal) c.requires.fits

pub returns-clause-equal : goal.returns-clause-equal
returns-clause-equal g c =
    submitted_alike c.args.procs.now c.args.region.now c.args.twin.now c.submit_copy-2.new.region c.submit_copy.new.region _ _ _ c.requires.equal refl c.in_ok-submit_copy.ensures.makes
    c.in_ok-submit_copy-2.ensures.makes
