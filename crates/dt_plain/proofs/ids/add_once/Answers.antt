use Rattle.dt_plain.proofs.GrowingIds.{adds_new}
use Rattle.dt_plain.proofs.Scan.{refuted}
use Rattle.dt_plain.proofs.ids.add_once.Goals as goal

pub returns-in_ok-push : goal.returns-in_ok-push
returns-in_ok-push c =
    rw c.in_ok-push.ensures.added (adds_new _ _ c.requires (refuted _ (rw c.as_slice.ensures at c.has.ensures) c.if-not-has.true))
