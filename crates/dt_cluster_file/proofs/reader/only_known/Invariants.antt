-- The names so far are known: what is left decides.
use Rattle.std.proofs.Common.{◌≡◌}
use Rattle.dt_lists.specs.Lists.{AllIn}
use Rattle.dt_text.specs.Texts.{Bytes}
use Rattle.dt_cluster_file.specs.Document.{IsFirstFaulty}
use Rattle.dt_cluster_file.specs.File.{IsKnown}
use Rattle.dt_cluster_file.specs.declared.error.ClusterCause.TheVariants as cause
use Rattle.dt_cluster_file.proofs.MapEntries.{listed}
use Rattle.dt_cluster_file.proofs.reader.only_known.Given as goal

abbrev pub invariant-loop-name : goal.invariant-loop-name
invariant-loop-name l =
    (goal.iterator-loop-name).can_next l.name-iterator × (goal.iterator-loop-name).is_finite l.name-iterator
    × (AllIn IsKnown (listed l.name-iterator) → AllIn IsKnown (listed l.top.entries))
    × ((name : Bytes) → IsFirstFaulty (λ e. e.0) IsKnown (λ e c. (c ≡ cause.Unknown) × ¬ (IsKnown e)) (listed l.name-iterator) name cause.Unknown
    → IsFirstFaulty (λ e. e.0) IsKnown (λ e c. (c ≡ cause.Unknown) × ¬ (IsKnown e)) (listed l.top.entries) name cause.Unknown)
