-- A site before anything happens stands in the opening world.
use Rattle.std.proofs.Common.{◌≡◌, ◌<◌, ℕ, zero, suc, List, [], ◌∷◌, length, map, set, replicate, refl, sym, ap, ap₂, subst, ◌∙◌}
use lib.LanesLaws.{map-replicate}
use Rattle.std.proofs.lemmas.List.{get_or-replicate}
use Rattle.dt_lists.specs.Lists.{AllIn}
use Rattle.dt_access.specs.declared.Part.{Part}
use Rattle.dt_table.specs.Table.{Table}
use Rattle.dt_txn.specs.Replica.{fronts}
use Rattle.dt_sched.proofs.Callers.{empty_log}
use Rattle.dt_region.specs.Conditions.{IsTableFor}
use Rattle.dt_region.specs.Rules.{opening_state}
use Rattle.dt_region.specs.Sound.{IsSoundRegion}
use Rattle.dt_cluster.specs.declared.Cluster.{Cluster}
use Rattle.dt_cluster.specs.Valid.{IsValidCluster}
use Rattle.dt_workload.specs.declared.Workload.{Workload}
use Rattle.dt_session.specs.World.{Node, no_node, opening_node, opening_table, opening_world}
use Rattle.dt_agreement.proofs.Callers.{unmoved_at_first}
use Rattle.dt_site.specs.Site.{node_of, opening_site}
use Rattle.dt_site.specs.StandsIn.{StandsIn}

pub opening_is_for : (cluster : Cluster) → IsValidCluster cluster → IsTableFor cluster.regions (opening_table cluster)
opening_is_for cluster valid = record {
  sized = refl;
  homes = valid.homes;
  moves = λ key. subst (AllIn (λ m. m.target < cluster.regions)) (sym (unmoved_at_first cluster key)) tt;
}

no_lengths : (n h : ℕ) → set (map length (replicate {A = List Part} n [])) h 0 ≡ replicate n 0
no_lengths zero h = refl
no_lengths (suc n) zero = ap (λ l. 0 ∷ l) (map-replicate length n [])
no_lengths (suc n) (suc h) = ap (λ l. 0 ∷ l) (no_lengths n h)

no_fronts : (lengths : List ℕ) (n : ℕ) → fronts lengths (replicate n []) ≡ replicate n []
no_fronts lengths zero = refl
no_fronts [] (suc n) = ap (λ l. [] ∷ l) (no_fronts [] n)
no_fronts (zero ∷ lengths) (suc n) = ap (λ l. [] ∷ l) (no_fronts lengths n)
no_fronts (suc m ∷ lengths) (suc n) = ap (λ l. [] ∷ l) (no_fronts lengths n)

pub opening_node_is : (number regions : ℕ) (t : Table) → node_of (opening_site number regions t) ≡ opening_node regions t
opening_node_is number regions t = ap₂ (λ (a : List Part) (b : List ℕ). record (opening_node regions t) { log = a; received = b }) (empty_log regions number) (no_lengths regions number)

module _ (cluster : Cluster) (workload : Workload) (region : ℕ) (lr : region < cluster.regions) where
  pub opening_stands : IsSoundRegion (opening_state region cluster.regions (opening_table cluster))
      → StandsIn cluster.regions (opening_world cluster workload) region (opening_site region cluster.regions (opening_table cluster))
  opening_stands sound = record {
    number = refl;
    many = refl;
    sound = sound;
    logs = sym (ap (fronts _) (map-replicate (λ (y : Node). y.log) cluster.regions (opening_node cluster.regions (opening_table cluster))) ∙ no_fronts _ cluster.regions);
    origins = refl;
    known = λ id txn h. cc;
    node = opening_node_is region cluster.regions (opening_table cluster)
        ∙ sym (get_or-replicate cluster.regions region (opening_node cluster.regions (opening_table cluster)) no_node lr);
  }
