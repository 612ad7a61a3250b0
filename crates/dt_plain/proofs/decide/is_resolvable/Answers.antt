use Rattle.dt_plain.proofs.Scan.{tested}
use Rattle.dt_plain.proofs.TestsOfScheduler.{unhindered_tells}
use Rattle.dt_plain.proofs.decide.is_resolvable.Goals as goal

pub returns : goal.returns
returns c =
    unhindered_tells _ _ _ _ _ _ _ _
    (tested _ c.are_candidates.ensures c.if-not-are_candidates.false)
    c.in_ok-behind.ensures
    c.in_ok-ahead.ensures
    (rw (c.as_slice.ensures, c.as_slice-2.ensures) at c.in_ok-class.ensures)
    (rw (c.as_slice-3.ensures, c.as_slice-4.ensures) at c.is_unhindered.ensures)
