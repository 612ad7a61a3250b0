-- The entries so far are the homes so far: what is left decides.
use Rattle.std.proofs.Common.{ℕ, List, ◌++◌}
use Rattle.dt_lists.specs.Lists.{Pairwise}
use Rattle.dt_text.specs.Texts.{Bytes}
use Rattle.dt_cluster_file.specs.Document.{IsFirstFaulty}
use Rattle.dt_cluster_file.specs.Rows.{IsHome, IsBadHome}
use Rattle.dt_cluster_file.specs.declared.error.ClusterCause.{ClusterCause}
use Rattle.dt_cluster_file.proofs.MapEntries.{listed}
use Rattle.dt_cluster_file.proofs.homes.homes_of.Given as goal

abbrev pub invariant-loop-name : goal.invariant-loop-name
invariant-loop-name l =
    (goal.iterator-loop-name).can_next l.name-iterator × (goal.iterator-loop-name).is_finite l.name-iterator
    × ((rest : List (Bytes × ℕ)) → Pairwise (IsHome l.version l.regions) (listed l.name-iterator) rest
    → Pairwise (IsHome l.version l.regions) (listed l.table.entries) (l.homes.items ++ rest))
    × ((name : Bytes) (why : ClusterCause) → IsFirstFaulty (λ e. e.0) (λ e. (h : Bytes × ℕ) × IsHome l.version l.regions e h) (IsBadHome l.version l.regions) (listed l.name-iterator) name why
    → IsFirstFaulty (λ e. e.0) (λ e. (h : Bytes × ℕ) × IsHome l.version l.regions e h) (IsBadHome l.version l.regions) (listed l.table.entries) name why)
