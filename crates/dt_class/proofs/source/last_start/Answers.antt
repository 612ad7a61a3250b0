use Rattle.std.proofs.Common.{arith}
use Rattle.dt_class.proofs.Scan.{scan_begins, scan_goes_on, scan_passes, scan_ends}
use Rattle.dt_class.proofs.source.last_start.Goals as goal
use Rattle.dt_class.proofs.source.last_start.Goals.{then-begun, else-begun}

pub loop-vertex-init : goal.loop-vertex-init
loop-vertex-init c = scan_begins _ _ _ _ c.requires.vertices c.requires.once c.requires.closed

pub loop-vertex-preserved : goal.loop-vertex-preserved
loop-vertex-preserved c =
    elim c.if-begun.branch [
      | then-begun w ↦
          rw w.last-is
          (scan_goes_on _ _ _ _ _ _ _ c.loop-vertex.invariant _ c.loop-vertex-test.true (rw w.if-begun.true at c.in_ok-begun.ensures))
      | else-begun w ↦ rw w.last-is (scan_passes _ _ _ _ _ _ _ c.loop-vertex.invariant _ (rw w.if-begun.false at c.in_ok-begun.ensures))
    ]

pub returns : goal.returns
returns c = scan_ends _ _ _ _ c.loop-vertex.vertex _ _ (omega (arith, c.loop-vertex-test.false)) c.loop-vertex.invariant
