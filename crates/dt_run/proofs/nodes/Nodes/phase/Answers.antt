use Rattle.std.proofs.Common.{ap, arith, length, ◌∙◌}
use Rattle.dt_run.specs.NodesView.{NodesView}
use Rattle.dt_run.proofs.nodes.Nodes.phase.Goals as goal

-- no helper is there
pub phase-requires-clause-turns : goal.phase-requires-clause-turns
phase-requires-clause-turns g c κs within = λ some. let none = ap length c.as_mut_slice.ensures.value in absurd (omega (arith, some, none))

pub phase-requires-clause-sound : goal.phase-requires-clause-sound
phase-requires-clause-sound g c κs within = ap (λ (v : NodesView). v.broken) c.self.view_is ∙ c.requires
