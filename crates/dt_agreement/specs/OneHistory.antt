-- What all regions execute, as one history. The theory of serial runs knows no region and no event: it speaks of a list of
-- transactions and an order of their ids that fits it (`IsHistory`), and of lists of some of them that keep to that order
-- (`IsPart`). One learns here what these are for events. The history is what was executed anywhere, in the order of first
-- executions. The order is "precedes" in the whole logs. And what one region executed, in its own order, is a part. So each
-- law of serial runs is a law of legal events (`one_history` in src/laws.rt). Read next: Invariant, from which it follows.
use Rattle.std.specs.Prelude.{◌≡◌, ◌↔◌, ◌<◌, ℕ, Bool, List, Some}
use Rattle.dt_access.specs.declared.Access.{Access}
use Rattle.dt_access.specs.declared.TxnId.{TxnId}
use Rattle.dt_sched.specs.Views.{Precedes}
use Rattle.dt_table.specs.Table.{Table, next_mover}
use Rattle.dt_txn.specs.Replica.{done_ids}
use Rattle.dt_txn.specs.Serial.{table_after}
use Rattle.dt_txn.specs.declared.Txn.{Txn}
use Rattle.dt_serial.specs.Order.{ByTest, IsHistory, IsPart}
use Rattle.dt_cluster.specs.declared.Cluster.{Cluster}
use Rattle.dt_session.specs.World.{World, logs_of, node_at, opening_table}
use Rattle.dt_session.specs.Run.{txns_of}
use Rattle.dt_agreement.specs.Invariant.{IsRunOf}

-- what a region executed, in its order
abbrev pub executions_at : World → ℕ → List Txn
executions_at w region = txns_of w (done_ids (node_at w region).here)

-- a test decides which id precedes which in the whole logs, and by it the executions of all regions are one history: these ids
-- in their order, of which each region executed a part
pub record AreOneHistory (cluster : Cluster) (w : World) (order : List TxnId) : Type 0 where
  -- the test, and that it decides "precedes"
  pub precedes : TxnId → TxnId → Bool
  pub told : (u t : TxnId) → ByTest precedes u t ↔ Precedes (logs_of w) u t
  -- by it, the order fits the serial run
  pub fits : IsHistory cluster.procs (ByTest precedes) (opening_table cluster) (txns_of w order)
  -- what a region executed is a part of that run
  pub parts : (region : ℕ) → region < cluster.regions →
      IsPart cluster.procs (ByTest precedes) (opening_table cluster) (txns_of w order) (executions_at w region)
  -- and what this part gives is what the region keeps: its outcomes and its table
  pub kept : (region : ℕ) → region < cluster.regions → IsRunOf cluster (opening_table cluster) (executions_at w region) (node_at w region).here

-- the last table of the one history, with all moves that were made
abbrev pub history_table : Cluster → World → List TxnId → Table
history_table cluster w order = table_after cluster.procs (txns_of w order) (opening_table cluster)

-- on this table, an attempt of this id sees at an entry the mover that follows the annotated moves in the one history, if that
-- one precedes the attempt, and else none
abbrev pub SeesMover : Cluster → World → List TxnId → Table → TxnId → Access → Type 0
SeesMover cluster w order t id a =
    (by : TxnId) → (next_mover t a.key a.counter ≡ Some by)
    ↔ ((next_mover (history_table cluster w order) a.key a.counter ≡ Some by) × Precedes (logs_of w) by id)
