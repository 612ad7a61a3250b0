use Rattle.std.proofs.Common.{ap, ◌∙◌}
use Rattle.dt_queue.specs.Queues.{taken_out}
use Rattle.dt_queue.proofs.Callers.{distinct_pushed, pushed_waits}
use Rattle.dt_graph.proofs.Entries.{enters_one, raised_fits, without_last}
use Rattle.dt_graph.proofs.enter.enter_use.Goals as goal

pub keep_slot-requires-clause-waits : goal.keep_slot-requires-clause-waits
keep_slot-requires-clause-waits c = rw c.in_ok-slot.ensures.added (pushed_waits c.args.queues.now _)

pub keep_slot-requires-clause-fits : goal.keep_slot-requires-clause-fits
keep_slot-requires-clause-fits c =
    raised_fits c.args.queues.now c.push.new.self _ c.requires.distinct c.in_ok-slot.ensures.added c.in_ok-slot.ensures.fresh c.args.before c.requires.counted c.in_ok-slot.ensures.few

pub remove-requires : goal.remove-requires
remove-requires c = rw c.in_ok-slot.ensures.added (pushed_waits c.args.queues.now _)

pub returns-in-Ok-clause-entered : goal.returns-in-Ok-clause-entered
returns-in-Ok-clause-entered c =
    enters_one c.args.queues.now c.push.new.self _ c.requires.distinct c.in_ok-slot.ensures.added c.in_ok-slot.ensures.fresh c.args.before c.requires.counted c.args.slots.now c.keep_slot.new.slots c.in-Ok.risen
    c.in-Ok.ensures.kept c.in-Ok.ensures.raised

pub returns-in-Err-clause-same_queues : goal.returns-in-Err-clause-same_queues
returns-in-Err-clause-same_queues c =
    c.remove.ensures ∙ ap (λ l. taken_out l c.in_ok-slot.slot) c.in_ok-slot.ensures.added
    ∙ without_last c.args.queues.now _ (distinct_pushed c.args.queues.now _ c.requires.distinct c.in_ok-slot.ensures.fresh)
