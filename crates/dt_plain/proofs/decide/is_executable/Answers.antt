use Rattle.dt_plain.proofs.Scan.{tested, refuted}
use Rattle.dt_plain.proofs.TestsOfScheduler.{not_clear, settled_tells}
use Rattle.dt_plain.proofs.decide.is_executable.Goals as goal

pub returns-then-not-are_clear : goal.returns-then-not-are_clear
returns-then-not-are_clear c =
    not_clear _ _ _ _ _ _ _ c.in_ok-behind.ensures c.in_ok-ahead.ensures (rw (c.as_slice.ensures, c.as_slice-2.ensures) at c.are_clear.ensures) c.if-not-are_clear.true

pub returns : goal.returns
returns c =
    settled_tells _ _ _ _ _ _ _ _
    (refuted _ c.has.ensures c.if-has.false)
    c.in_ok-behind.ensures
    c.in_ok-ahead.ensures
    (rw (c.as_slice-3.ensures, c.as_slice-4.ensures) at c.in_ok-class.ensures)
    (tested _ (rw (c.as_slice.ensures, c.as_slice-2.ensures) at c.are_clear.ensures) c.if-not-are_clear.false)
    (rw c.as_slice-5.ensures at c.is_settled.ensures)
