use Rattle.dt_plain.proofs.plain.PlainSchedScheduler.next_ready.Goals as goal

pub returns : goal.returns
returns c =
    rw (← c.self.view_is)
    (rw (c.in_ok-graph.ensures, c.as_slice.ensures.value, c.as_slice-2.ensures.value, c.as_slice-3.ensures.value) at c.next_ready.ensures)
