-- A file that is a cluster is one that can be.
use Rattle.std.proofs.Common.{Option, Some, None, List, sym, subst}
use Rattle.std.specs.Prelude.{codes}
use Rattle.dt_proc.specs.Tree.{ProcTree}
use Rattle.dt_proc.specs.Sound.{AreProcs}
use Rattle.dt_proc.proofs.Callers.{outcome_sound, builtin_sound}
use Rattle.toml.specs.Data.{Data, string, integer, float, boolean, datetime, array, table, get_member}
use Rattle.dt_text.specs.Texts.{Bytes}
use Rattle.dt_cluster_file.specs.File.{GivesProcs, IsCluster}
use Rattle.dt_cluster.specs.Valid.{IsValidCluster}
use Rattle.dt_cluster.specs.declared.cluster.Cluster.{Cluster}
use Rattle.dt_cluster_file.proofs.Valid.{given_valid}

-- the procedures that a document gives are sound
given_sound : (d : Option Data) (procs : List ProcTree) → GivesProcs d procs → AreProcs procs
given_sound None procs h = subst AreProcs (sym h) builtin_sound
given_sound (Some (string text)) procs h = outcome_sound text procs h
given_sound (Some (integer z)) procs h = absurd h
given_sound (Some (float x)) procs h = absurd h
given_sound (Some (boolean b)) procs h = absurd h
given_sound (Some (datetime t)) procs h = absurd h
given_sound (Some (array ds)) procs h = absurd h
given_sound (Some (table ms)) procs h = absurd h

-- what a file is, is a cluster that can be
pub cluster_valid : (bytes : Bytes) (c : Cluster) → IsCluster bytes c → IsValidCluster c
cluster_valid bytes c h =
    given_valid h.0 c h.2.numbers (given_sound (get_member (codes "procs") h.0) c.procs h.2.procs) h.2.homes h.2.rows
