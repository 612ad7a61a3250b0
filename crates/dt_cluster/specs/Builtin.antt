-- The built-in clusters, which need no file: `:1` to `:8` on the command line. They mean what a file with the line
-- `regions = N` alone means. Read next: `Valid`, for what a cluster has to be.
use Rattle.std.specs.Prelude.{ℕ, []}
use Rattle.dt_proc.specs.Builtin.{builtin_procs}
use Rattle.dt_cluster.specs.declared.cluster.Cluster.{Cluster}

-- the built-in cluster of n regions: version 1, four workers, three tries, nothing lost or repeated, the built-in
-- procedures, and no homes and rows listed
abbrev pub builtin_cluster : ℕ → Cluster
builtin_cluster regions = record { version = 1; regions = regions; workers = 4; tries = 3; drop = 0; repeat = 0; procs = builtin_procs; homes = []; rows = [] }
