use Rattle.std.proofs.Common.{◌<◌, length, subst, arith}
use Rattle.dt_run.proofs.SliceOffsets.{offset_fits}
use Rattle.dt_run.proofs.RowBeside.{next_apart, next_ends, next_place, next_there, row_ends, row_steps}
use Rattle.dt_run.proofs.links.beside_row.Goals as goal

pub offset_bounds-seats-target : goal.offset_bounds-seats-target
offset_bounds-seats-target g c =
    let there = next_there c.loop-link.invariant c.requires (omega arith) c.other_region-target.result c.other_region-target.ensures in
    offset_fits c.other_region-target.result (length c.args.seats.now) _ (subst (λ n. c.other_region-target.result < n) c.loop-link.auto.seats there) c.well_formed.1.0.1

pub bounds-seats-target : goal.bounds-seats-target
bounds-seats-target g c = next_there c.loop-link.invariant c.requires (omega arith) c.other_region-target.result c.other_region-target.ensures

pub link_number-requires : goal.link_number-requires
link_number-requires g c = next_apart c.loop-link.invariant c.requires (omega arith) c.other_region-target.result c.other_region-target.ensures

pub beside_inlet-requires-clause-within : goal.beside_inlet-requires-clause-within
beside_inlet-requires-clause-within g c =
    next_place c.loop-link.invariant c.requires (omega arith) c.other_region-target.result c.other_region-target.ensures c.link_number.result c.link_number.ensures c.index-row-link.result
    c.index-seats-target.result

pub beside_inlet-requires-clause-apart : goal.beside_inlet-requires-clause-apart
beside_inlet-requires-clause-apart g c =
    next_ends c.loop-link.invariant c.requires (omega arith) c.other_region-target.result c.other_region-target.ensures c.link_number.result c.link_number.ensures c.index-row-link.result c.index-seats-target.result

pub loop-link-preserved : goal.loop-link-preserved
loop-link-preserved g c =
    row_steps c.loop-link.invariant c.requires (omega arith) c.other_region-target.result c.other_region-target.ensures c.link_number.result c.link_number.ensures c.index-row-link.result
    c.index-seats-target.result c.beside_inlet.new.out c.beside_inlet.new.seat c.beside_inlet.ensures

pub returns : goal.returns
returns g c = row_ends c.loop-link.invariant (omega arith) (omega arith)
