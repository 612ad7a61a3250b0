-- What every cluster is that a file, or a number of regions, gives: its numbers are in their ranges, its procedures are
-- sound, and its homes and rows can stand in a table. Whoever takes a cluster may rely on this (`IsValidCluster`). Read
-- next: `World` of dt_session, which begins with a cluster.
use Rattle.std.specs.Prelude.{◌≡◌, ◌<◌, ◌≤◌, ◌⊎◌, ℕ, map}
use Rattle.dt_lists.specs.Lists.{AllIn, Distinct}
use Rattle.dt_text.specs.Texts.{IsKey}
use Rattle.dt_text.specs.Values.{IsRowValue}
use Rattle.dt_access.specs.Granules.{IsUnit}
use Rattle.dt_proc.specs.Sound.{AreProcs}
use Rattle.dt_cluster.specs.declared.cluster.Cluster.{Cluster}

-- which packets are lost: none, or one in every n, from 2 to 1000 and so never each of them
abbrev pub IsDrop : ℕ → Type 0
IsDrop d = (d ≡ 0) ⊎ (2 ≤ d) × (d ≤ 1000)

-- a cluster that can be: its version is 1 or 2, its other numbers are in their ranges, its procedures are sound, no key is
-- listed twice for a home or for a value, the keys that are listed for a home are units (in version 2 they are granules),
-- the listed homes are regions, and the listed values can stand in rows
pub record IsValidCluster (cluster : Cluster) : Type 0 where
  pub some_version : 1 ≤ cluster.version
  pub known_version : cluster.version ≤ 2
  pub some : 1 ≤ cluster.regions
  pub few : cluster.regions ≤ 8
  pub some_worker : 1 ≤ cluster.workers
  pub few_workers : cluster.workers ≤ 16
  pub tries : 1 ≤ cluster.tries
  pub few_tries : cluster.tries ≤ 8
  pub drop : IsDrop cluster.drop
  pub repeat : cluster.repeat ≤ 1000
  pub procs : AreProcs cluster.procs
  pub home_keys : AllIn (λ h. IsKey h.0) cluster.homes
  pub home_units : AllIn (λ h. IsUnit cluster.version h.0) cluster.homes
  pub homes_once : Distinct (map (λ h. h.0) cluster.homes)
  pub homes : AllIn (λ h. h.1 < cluster.regions) cluster.homes
  pub row_keys : AllIn (λ r. IsKey r.0) cluster.rows
  pub rows_once : Distinct (map (λ r. r.0) cluster.rows)
  pub rows : AllIn (λ r. IsRowValue r.1) cluster.rows
