use Rattle.std.proofs.Common.{◌<◌, ◌==◌, not, length, ap, arith, ◌∙◌}
use Rattle.std.specs.List.{filter}
use Rattle.dt_queue.specs.declared.mark.Mark.{Mark}
use Rattle.dt_queue.proofs.TableLanes.{heads_left, other_lanes, row_changed}
use Rattle.dt_queue.proofs.row.remove.Goals as goal

pub returns-then-row-len-clause-lane : goal.returns-then-row-len-clause-lane
returns-then-row-len-clause-lane c =
    let xs = c.args.table.now.items in
    let known : c.args.row < length xs = omega (arith, c.if-row-len.true, c.len.ensures, c.args.table.now.ok.0) in
    row_changed c.args.way xs c.args.row c.index_mut.result.now c.remove.new.self known c.index_mut.ensures.value
    (filter (λ (m : Mark). not (m.number == c.args.number))) (c.remove.ensures ∙ ap (filter (λ (m : Mark). not (m.number == c.args.number))) c.lane_mut.ensures.value)

pub returns-then-row-len-clause-others : goal.returns-then-row-len-clause-others
returns-then-row-len-clause-others c =
    let xs = c.args.table.now.items in
    let known : c.args.row < length xs = omega (arith, c.if-row-len.true, c.len.ensures, c.args.table.now.ok.0) in
    other_lanes c.args.way xs c.args.row c.index_mut.result.now c.remove.new.self known c.index_mut.ensures.value

pub returns-then-row-len-clause-heads : goal.returns-then-row-len-clause-heads
returns-then-row-len-clause-heads c =
    let xs = c.args.table.now.items in
    let known : c.args.row < length xs = omega (arith, c.if-row-len.true, c.len.ensures, c.args.table.now.ok.0) in
    heads_left c.args.way xs c.args.row c.index_mut.result.now c.remove.new.self known c.index_mut.ensures.value
