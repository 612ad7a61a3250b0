use Rattle.dt_queue.proofs.Marks.{numbered_more}
use Rattle.dt_queue.proofs.tail.Tail.push.Goals as goal

pub invariant_of-self-2 : goal.invariant_of-self-2
invariant_of-self-2 c = rw c.in_ok-push_back.ensures.items (numbered_more _ _ c.self.invariant (rw (← c.self.view_is) at c.requires))
