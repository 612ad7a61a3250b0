-- Why a run ends. A phase in which no region keeps an event is silent. Phases may be silent while something is left to do, since
-- packets are lost, and a packet carries only what its source does not know to have arrived. One learns here how phases and
-- events are counted (`made_in`, `all_kept_in`, `quiet_in`) and what silent phases leave: as nothing changes, what nodes know of each
-- other becomes exact, and then the next packets that are not lost carry what is first in turn. So of any four phases in a row
-- before all is done one keeps an event, and as the events are few, so are the phases (`ComesToAnEnd`, `most_phases`). Read
-- `EndOfRun` before. Read next: `EndLaws`, for the statements that are promised of this.
use Rattle.std.specs.Prelude.{◌≡◌, ◌≢◌, ◌<◌, ◌≤◌, ◌⊎◌, ◌+◌, ◌*◌, ◌==◌, ℕ, zero, suc, [], length, get_or, max, if◌then◌else◌}
use Rattle.dt_sched.specs.Views.{log_at}
use Rattle.dt_txn.specs.Replica.{taken_from}
use Rattle.dt_packet.specs.declared.loss.Verdict.TheVariants.{Lost}
use Rattle.dt_packet.specs.Loss.{IsVerdict}
use Rattle.dt_cluster.specs.declared.Cluster.{Cluster}
use Rattle.dt_workload.specs.declared.Workload.{Workload}
use Rattle.dt_merge.specs.Weight.{most_events, sum_below}
use Rattle.dt_run.specs.declared.counts.Counts.{Counts}
use Rattle.dt_run.specs.EndOfRun.{IsAllDone}
use Rattle.dt_run.specs.Marks.{kept_by_region, mark_at, plan_of}
use Rattle.dt_run.specs.NodesView.{NodesView, marks_at, node_in}

-- how many phases were made: each adds a mark for each region
abbrev pub made_in : NodesView → ℕ
made_in v = length (marks_at v 0)

-- how many events all regions together have kept
abbrev pub all_kept_in : NodesView → ℕ
all_kept_in v = sum_below (λ region. length (kept_by_region v region)) v.cluster.regions

-- how many they had kept after n phases
abbrev pub all_kept_after : NodesView → ℕ → ℕ
all_kept_after v phase = sum_below (λ region. mark_at v region phase) v.cluster.regions

-- of n phases, how many of the last ones were silent: in none of them an event was kept
abbrev pub quiet_after : NodesView → ℕ → ℕ
quiet_after v zero = 0
quiet_after v (suc made) = if all_kept_after v made == all_kept_after v (suc made) then quiet_after v made + 1 else 0

-- how many silent phases were made since the last one in which some event was kept
abbrev pub quiet_in : NodesView → ℕ
quiet_in v = quiet_after v (made_in v)

-- the three numbers together, as the nodes count them
abbrev pub counts_in : NodesView → Counts
counts_in v = record { made = made_in v; kept = all_kept_in v; quiet = quiet_in v }

-- a phase is silent: no region keeps an event in it
pub record IsSilent (before after : NodesView) : Type 0 where
  pub each : (region : ℕ) → region < before.cluster.regions → kept_by_region after region ≡ kept_by_region before region

-- a phase is counted: one more is made, nothing that was kept is lost, and the run of silent ones continues or restarts
pub record PhaseIsCounted (before after : NodesView) : Type 0 where
  pub made : made_in after ≡ made_in before + 1
  pub kept : all_kept_in before ≤ all_kept_in after
  pub quiet : quiet_in after ≡ (if all_kept_in before == all_kept_in after then quiet_in before + 1 else 0)

-- nothing is outstanding from one region to another: this one has placed all its requests and received its whole log
pub record HasArrived (v : NodesView) (source target : ℕ) : Type 0 where
  pub requests : taken_from (node_in v target).site.region.state.here source ≡ length (get_or (node_in v source).site.region.state.here.asked target [])
  pub log : length (log_at (node_in v target).site.region.state.logs source) ≡ length (log_at (node_in v source).site.region.state.logs source)

-- nothing is outstanding anywhere
pub record HasAllArrived (v : NodesView) : Type 0 where
  pub each : (source target : ℕ) → source < v.cluster.regions → target < v.cluster.regions → source ≢ target → HasArrived v source target

-- the node of one region knows just how far another region has come with its requests and its log
pub record KnowsExactly (v : NodesView) (region other : ℕ) : Type 0 where
  pub took : get_or (node_in v region).took other 0 ≡ taken_from (node_in v other).site.region.state.here region
  pub received : get_or (node_in v region).received other 0 ≡ length (log_at (node_in v other).site.region.state.logs region)

-- all that nodes know of each other is exact
pub record IsExact (v : NodesView) : Type 0 where
  pub each : (region other : ℕ) → region < v.cluster.regions → other < v.cluster.regions → region ≢ other → KnowsExactly v region other

-- packets wait on all links: a phase was made, and the packets of the last one were not lost
pub record PacketsWait (v : NodesView) : Type 0 where
  pub some : 1 ≤ made_in v
  pub put : ¬ (IsVerdict (plan_of v.cluster) (made_in v) Lost)

-- what makes a run end
pub record ComesToAnEnd (v : NodesView) : Type 0 where
  -- after a silent phase all knowledge is exact, or packets wait that make it so
  pub after_one : 1 ≤ quiet_in v → IsExact v ⊎ PacketsWait v
  -- after two it is exact
  pub after_two : 2 ≤ quiet_in v → IsExact v
  -- after three, while not all is done, packets wait too; as knowledge is exact, they carry all that is first in turn
  pub after_three : ¬ (IsAllDone v) → 3 ≤ quiet_in v → IsExact v × PacketsWait v
  -- so there are no more than three in a row
  pub few_quiet : ¬ (IsAllDone v) → quiet_in v ≤ 3
  pub few_made : ¬ (IsAllDone v) → made_in v ≤ 4 * all_kept_in v + quiet_in v
  -- and the number of events is bounded
  pub few_kept : all_kept_in v ≤ most_events v.cluster v.workload

-- the most phases that are made until all is done
abbrev pub most_phases : Cluster → Workload → ℕ
most_phases cluster workload = 4 * most_events cluster workload + 4

-- a run that begins here ends there: it makes one phase at least, and no more than there can be
abbrev pub MakesFewPhases : NodesView → NodesView → Type 0
MakesFewPhases before after = made_in after ≤ max (made_in before + 1) (most_phases before.cluster before.workload)
