-- How much has happened, as one number, and how much can. Each event that changes something raises the weight of its region
-- and leaves that of all others, so a list of such events is no longer than the weight of the world to which it leads. Read
-- next: src/laws.rt.
use Rattle.std.specs.Prelude.{◌+◌, ◌*◌, ℕ, zero, suc, length, set, sum, sum_by}
use Rattle.dt_cluster.specs.declared.Cluster.{Cluster}
use Rattle.dt_workload.specs.Valid.{calls_in}
use Rattle.dt_workload.specs.declared.Workload.{Workload}
use Rattle.dt_session.specs.World.{World}
use Rattle.dt_merge.specs.OwnPart.{Own, own}

-- the sum of f below n
abbrev pub sum_below : (ℕ → ℕ) → ℕ → ℕ
sum_below f zero = 0
sum_below f (suc n) = sum_below f n + f n

-- what has happened in a region: its attempts, the answered calls of its sessions, what it received of all logs, its own
-- whole, and what it inserted, resolved and executed
abbrev pub weight : ℕ → Own → ℕ
weight region o =
    length o.node.submitted + sum_by (λ p. p.answered) o.places + sum (set o.node.received region (length o.node.log))
    + sum o.node.here.inserted + length o.node.here.resolved + length o.node.here.done

-- what has happened in n regions
abbrev pub world_weight : ℕ → Workload → World → ℕ
world_weight regions workload w = sum_below (λ region. weight region (own workload w region)) regions

-- how many events can change something: of each attempt one submission and one answer, an append in each region, and in each
-- region of each log one delivery and one insertion, one execution and one resolution
abbrev pub most_events : Cluster → Workload → ℕ
most_events cluster workload = calls_in workload.sessions * cluster.tries * (2 + cluster.regions + cluster.regions * (2 * cluster.regions + 2))
