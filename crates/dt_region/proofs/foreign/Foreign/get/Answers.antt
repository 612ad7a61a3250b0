use Rattle.std.proofs.Common.{◌∙◌}
use Rattle.dt_region.proofs.Find.{find_keyed}
use Rattle.dt_region.proofs.foreign.Foreign.get.Goals as goal

pub returns : goal.returns
returns c = rw (← c.self.view_is) (c.get.ensures ∙ find_keyed c.self.inside.txns.entries c.args.id c.self.invariant)
