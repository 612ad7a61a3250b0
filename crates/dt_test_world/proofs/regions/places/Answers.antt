use Rattle.std.proofs.Common.{max, sym, ap, subst, ◌∙◌, arith}
use Rattle.dt_region.specs.Conditions.{CanAppend}
use Rattle.dt_region.specs.Region.{RegionView}
use Rattle.dt_test_world.proofs.Requests.{may_be_asked, regions_left, stamp_left}
use Rattle.dt_test_world.proofs.regions.places.Goals as goal

pub append-placed-requires-clause-stamp : goal.append-placed-requires-clause-stamp
append-placed-requires-clause-stamp c =
    stamp_left c.hear.new.self c.from.result (let same = c.from.ensures in omega (arith, same))
    (ap (λ (r : RegionView). r.events) c.hear.ensures ∙ ap (λ (r : RegionView). r.events) c.requires)
    (ap (λ (r : RegionView). r.heard) c.hear.ensures ∙ ap (λ (r : RegionView). max r.heard c.from.result) c.requires)

pub append-placed-requires-clause-can : goal.append-placed-requires-clause-can
append-placed-requires-clause-can c =
    subst (λ s. CanAppend s 1 c.args.number c.in_ok-txn.txn)
    (sym (ap (λ (r : RegionView). r.state) c.hear.ensures ∙ ap (λ (r : RegionView). r.state) c.requires))
    (may_be_asked _ 1 c.args.number c.in_ok-txn.txn c.in_ok-txn.ensures.homes c.in_ok-txn.ensures.other)

pub returns : goal.returns
returns c =
    regions_left c.hear.new.self c.append-placed.new.self 1 c.args.number c.in_ok-txn.txn c.in_ok-placed.field-0 c.in_ok-placed.ensures.makes
    ∙ ap (λ (r : RegionView). r.state.regions) c.hear.ensures ∙ ap (λ (r : RegionView). r.state.regions) c.requires
