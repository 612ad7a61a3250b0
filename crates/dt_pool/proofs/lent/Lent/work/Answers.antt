use Rattle.dt_pool.proofs.LastItems.{same_some}
use Rattle.dt_pool.proofs.lent.Lent.work.Goals as goal

pub invariant_of-result : goal.invariant_of-result
invariant_of-result g c = (
  c.self.invariant.0,
  λ old is. rw (same_some is c.self.invariant.2) (c.requires.goes _ _ c.work.ensures),
)
