use Rattle.std.proofs.Common.{◌∙◌}
use Rattle.dt_queue.proofs.RowSets.{told_behind}
use Rattle.dt_queue.proofs.listed.make_last.Goals as goal

pub loop-last-preserved : goal.loop-last-preserved
loop-last-preserved c = λ r. rw c.in_ok-push.ensures.items (told_behind c.loop-last.last.items 0 r ∙ c.loop-last.invariant r)
