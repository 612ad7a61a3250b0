use Rattle.std.proofs.Common.{◌++◌, ◌∷◌, [], ap, ◌∙◌}
use Rattle.std.proofs.lemmas.Result.{on_ok_weaker}
use Rattle.dt_queue.proofs.TableLanes.{heads_left, other_lanes, row_changed}
use Rattle.dt_queue.proofs.row.push.Goals as goal

pub returns-clause-added : goal.returns-clause-added
returns-clause-added c =
    on_ok_weaker c.push.result (λ e. row_changed c.args.way c.args.table.now.items c.args.row c.index_mut.result.now c.push.new.self c.requires.known c.index_mut.ensures.value
    (λ l. l ++ c.args.mark ∷ []) (e ∙ ap (λ l. l ++ c.args.mark ∷ []) c.lane_mut.ensures.value)) c.push.ensures.added

pub returns-clause-others : goal.returns-clause-others
returns-clause-others c = other_lanes c.args.way c.args.table.now.items c.args.row c.index_mut.result.now c.push.new.self c.requires.known c.index_mut.ensures.value

pub returns-clause-heads : goal.returns-clause-heads
returns-clause-heads c = heads_left c.args.way c.args.table.now.items c.args.row c.index_mut.result.now c.push.new.self c.requires.known c.index_mut.ensures.value
