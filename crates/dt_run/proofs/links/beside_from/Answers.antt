use Rattle.std.proofs.Common.{◌∙◌, ◌<◌, drop, length, subst, sym}
use Rattle.std.proofs.Math.ListN.{length-set}
use Rattle.dt_run.proofs.SliceOffsets.{written_back}
use Rattle.dt_run.proofs.RowBeside.{row_put, row_taken}
use Rattle.dt_run.proofs.links.beside_from.Goals as goal

pub bounds-seats-source : goal.bounds-seats-source
bounds-seats-source g c = c.requires.within

pub bounds-seats-source-2 : goal.bounds-seats-source-2
bounds-seats-source-2 g c = subst (λ n. c.args.source < n) (sym (c.beside_row.ensures.many ∙ length-set c.args.seats.now c.args.source c.take_outlets-row.new.self)) c.requires.within

pub beside_row-requires : goal.beside_row-requires
beside_row-requires g c =
    row_taken c.requires c.index-seats-source.result c.take_outlets-row.ensures.seat c.as_mut_slice.result.now (c.as_mut_slice.ensures.value ∙ c.take_outlets-row.ensures.outlets)

pub returns : goal.returns
returns g c =
    let row = c.beside_row.new.row in
    let old = c.take_outlets-row.result in
    row_put c.requires c.index-seats-source.result c.take_outlets-row.ensures.seat c.as_mut_slice.result.now (c.as_mut_slice.ensures.value ∙ c.take_outlets-row.ensures.outlets) row _
    c.beside_row.new.seats c.index-seats-source-2.result c.put_outlets.new.self
    (written_back old.len row (drop (length row) old.items) (sym c.as_mut_slice.ensures.len ∙ sym c.beside_row.ensures.many_outs)) c.beside_row.ensures c.put_outlets.ensures
