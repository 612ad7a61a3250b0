-- The entries so far are the rows so far: what is left decides.
use Rattle.std.proofs.Common.{List, ◌++◌}
use Rattle.dt_lists.specs.Lists.{Pairwise}
use Rattle.dt_text.specs.declared.value.Value.{Value}
use Rattle.dt_text.specs.Texts.{Bytes}
use Rattle.dt_cluster_file.specs.Document.{IsFirstFaulty}
use Rattle.dt_cluster_file.specs.Rows.{IsRow, IsBadRow}
use Rattle.dt_cluster_file.specs.declared.error.ClusterCause.{ClusterCause}
use Rattle.dt_cluster_file.proofs.MapEntries.{listed}
use Rattle.dt_cluster_file.proofs.rows.rows_of.Given as goal

abbrev pub invariant-loop-name : goal.invariant-loop-name
invariant-loop-name l =
    (goal.iterator-loop-name).can_next l.name-iterator × (goal.iterator-loop-name).is_finite l.name-iterator
    × ((rest : List (Bytes × Value)) → Pairwise IsRow (listed l.name-iterator) rest
    → Pairwise IsRow (listed l.table.entries) (l.rows.items ++ rest))
    × ((name : Bytes) (why : ClusterCause) → IsFirstFaulty (λ e. e.0) (λ e. (r : Bytes × Value) × IsRow e r) IsBadRow (listed l.name-iterator) name why
    → IsFirstFaulty (λ e. e.0) (λ e. (r : Bytes × Value) × IsRow e r) IsBadRow (listed l.table.entries) name why)
