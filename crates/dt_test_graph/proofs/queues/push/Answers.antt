use Rattle.std.proofs.Common.{[], ◌∷◌, ◌++◌}
use Rattle.dt_lists.proofs.Callers.{all_map, all_more}
use Rattle.dt_queue.specs.Queues.{IsQueued}
use Rattle.dt_queue.proofs.Callers.{pushed_waits, waits_longer}
use Rattle.dt_test_graph.proofs.queues.push.Goals as goal

pub returns : goal.returns
returns c =
    rw (c.in_ok-push.ensures.items, c.in_ok-slot.ensures.added)
    (all_more (IsQueued (c.args.queues.now ++ _ ∷ [])) c.args.slots.now.items c.in_ok-slot.slot
    (all_map (IsQueued c.args.queues.now) (IsQueued (c.args.queues.now ++ _ ∷ [])) c.args.slots.now.items
    (λ slot h. waits_longer c.args.queues.now _ slot h) c.requires)
    (pushed_waits c.args.queues.now _))
