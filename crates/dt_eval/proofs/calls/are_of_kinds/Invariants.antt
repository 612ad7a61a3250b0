use Rattle.std.proofs.Common.{drop}
use Rattle.std.specs.Prelude.{◌↔◌}
use Rattle.dt_lists.specs.Lists.{Pairwise}
use Rattle.dt_eval.specs.Meaning.{IsOfKind}
use Rattle.dt_eval.proofs.calls.are_of_kinds.Given as goal

abbrev pub invariant-loop-place : goal.invariant-loop-place
invariant-loop-place l = Pairwise IsOfKind (drop l.place l.kinds) (drop l.place l.values) ↔ Pairwise IsOfKind l.kinds l.values
