-- The laws by which a run ends, as statements: what holds before the first phase and after each one, that what waits is true, what
-- silent phases lead to, that what is done stays done, and that phases are few. Read `Silence` before, for the words. Read next:
-- src/end_laws.rt, where each law is promised.
use Rattle.std.specs.Prelude.{◌≡◌, ◌≢◌, ◌<◌, ◌⊎◌, ℕ, false}
use Rattle.dt_lists.specs.Lists.{AllIn}
use Rattle.dt_events.specs.Stamps.{events_of}
use Rattle.dt_cluster.specs.declared.Cluster.{Cluster}
use Rattle.dt_workload.specs.declared.Workload.{Workload}
use Rattle.dt_node.specs.Packets.{IsTruePacket}
use Rattle.dt_node.specs.NodeInWorld.{AreTold}
use Rattle.dt_run.specs.EndOfRun.{IsAllDone}
use Rattle.dt_run.specs.NodesStand.{AreNodes}
use Rattle.dt_run.specs.NodesView.{NodesView, node_in, opening_nodes, waiting_at, waiting_between}
use Rattle.dt_run.specs.Phase.{EndsInStep, IsPhase}
use Rattle.dt_run.specs.Silence.{ComesToAnEnd, HasAllArrived, IsExact, IsSilent, PacketsWait, PhaseIsCounted, made_in, most_phases}

-- before the first phase
abbrev pub BeginsToEnd : Type 0
BeginsToEnd = (cluster : Cluster) (workload : Workload) → ComesToAnEnd (opening_nodes cluster workload)

-- what waits for each node is true in the world in which the nodes stand
abbrev pub AreAllTold : (v : NodesView) → AreNodes v → Type 0
AreAllTold v n = (region : ℕ) → region < v.cluster.regions → AreTold v.cluster v.workload (events_of n.all) (waiting_at v region) (node_in v region)

-- after each phase
abbrev pub EachPhaseIsCounted : Type 0
EachPhaseIsCounted = (before after : NodesView) (n : AreNodes before) → before.broken ≡ false → IsPhase before after → EndsInStep before after → PhaseIsCounted before after

-- after each phase, a run that was to come to an end still is
abbrev pub EachPhaseLeadsToAnEnd : Type 0
EachPhaseLeadsToAnEnd =
    (before after : NodesView) (n : AreNodes before) → before.broken ≡ false → AreAllTold before n → IsPhase before after → EndsInStep before after → AreNodes after
    → ComesToAnEnd before → ComesToAnEnd after

-- what is done stays done
abbrev pub WhatIsDoneStaysDone : Type 0
WhatIsDoneStaysDone = (before after : NodesView) (n : AreNodes before) → AreAllTold before n → IsPhase before after → IsAllDone before → IsAllDone after

-- what waits on a link says what is so in the world in which the nodes stand, whatever region takes it and when
abbrev pub WhatWaitsIsTrue : Type 0
WhatWaitsIsTrue =
    (v : NodesView) (n : AreNodes v) → v.broken ≡ false → (source target : ℕ) → source < v.cluster.regions → target < v.cluster.regions → source ≢ target
    → AllIn (IsTruePacket v.cluster v.workload n.all) (waiting_between v source target)

-- a silent phase leaves exact knowledge, or packets that make it exact; where one of these was so before, it leaves exact
-- knowledge; and where both were so, all is done
pub record LeavesWhenSilent (before after : NodesView) : Type 0 where
  pub one : IsExact after ⊎ PacketsWait after
  pub two : IsExact before ⊎ PacketsWait before → IsExact after
  pub done : IsExact before → PacketsWait before → IsAllDone after

-- and where nothing is outstanding after it, all is done
abbrev pub SilentPhasesLeadToAnEnd : Type 0
SilentPhasesLeadToAnEnd =
    (before after : NodesView) (n : AreNodes before) → before.broken ≡ false → AreAllTold before n → IsPhase before after → EndsInStep before after → IsSilent before after
    → LeavesWhenSilent before after × (HasAllArrived after → IsAllDone after)

-- while not all is done, fewer phases are made than there can be
abbrev pub PhasesAreFew : Type 0
PhasesAreFew = (v : NodesView) → ComesToAnEnd v → ¬ (IsAllDone v) → made_in v < most_phases v.cluster v.workload
