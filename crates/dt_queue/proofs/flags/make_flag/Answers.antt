use Rattle.std.proofs.Common.{false, ◌∙◌}
use Rattle.dt_queue.proofs.RowSets.{told_behind}
use Rattle.dt_queue.proofs.flags.make_flag.Goals as goal

pub loop-flags-preserved : goal.loop-flags-preserved
loop-flags-preserved c = λ r. rw c.in_ok-push.ensures.items (told_behind c.loop-flags.flags.items false r ∙ c.loop-flags.invariant r)
