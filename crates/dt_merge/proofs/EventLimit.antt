-- How many events there can be at most, as a number: by the limits of clusters and workloads.
use Rattle.std.proofs.Common.{◌≤◌, ◌+◌, ◌*◌, ℕ, arith}
use Rattle.std.proofs.Math.Nat.{mul-le-mul_left, mul-le-mul_right}
use Rattle.dt_cluster.specs.declared.Cluster.{Cluster}
use Rattle.dt_cluster.specs.Valid.{IsValidCluster}
use Rattle.dt_workload.specs.declared.Workload.{Workload}
use Rattle.dt_workload.specs.Valid.{IsValidWorkload, calls_in}
use Rattle.dt_merge.specs.Weight.{most_events}

mul_both : (a b c d : ℕ) → a ≤ b → c ≤ d → a * c ≤ b * d
mul_both a b c d l m = let x : a * c ≤ b * c = mul-le-mul_right c l in let y : b * c ≤ b * d = mul-le-mul_left b m in omega (arith, x, y)

-- how many events there may be for each attempt
abbrev events_each : Cluster → ℕ
events_each cluster = 2 + cluster.regions + cluster.regions * (2 * cluster.regions + 2)

pub most_few : (cluster : Cluster) → IsValidCluster cluster → (workload : Workload) → IsValidWorkload cluster workload → most_events cluster workload ≤ 24640000
most_few cluster ok workload fits =
    let regions : cluster.regions ≤ 8 = ok.few in
    let calls : calls_in workload.sessions * cluster.tries ≤ 20000 * 8 = mul_both (calls_in workload.sessions) 20000 cluster.tries 8 fits.few_calls ok.few_tries in
    let square : cluster.regions * (2 * cluster.regions + 2) ≤ 8 * 18 = mul_both cluster.regions 8 (2 * cluster.regions + 2) 18 regions (omega (arith, regions)) in
    let all : calls_in workload.sessions * cluster.tries * events_each cluster ≤ 20000 * 8 * 154 = mul_both (calls_in workload.sessions * cluster.tries) (20000 * 8) (events_each cluster) 154 calls (omega (arith, regions, square)) in
    all
