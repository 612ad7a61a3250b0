-- The laws of the generated load: no transfer and no move makes or loses money, whatever became of it, so neither does any run
-- of the load. They speak of each region at each moment, and not only of the end. Read next: src/laws.rt.
use Rattle.std.specs.Prelude.{◌≡◌, ◌<◌, ◌≤◌, ℕ, pos, List, length, filter_map, codes, Option, is_some}
use Rattle.dt_lists.specs.Lists.{AllIn}
use Rattle.dt_text.specs.Texts.{Bytes}
use Rattle.dt_events.specs.declared.Event.{Event}
use Rattle.dt_proc.specs.Builtin.{builtin_procs}
use Rattle.dt_table.specs.Table.{Table, shown}
use Rattle.dt_eval.specs.declared.finish.Cause.TheVariants as cause
use Rattle.dt_txn.specs.declared.Txn.{Txn}
use Rattle.dt_txn.specs.declared.Outcome.{Outcome}
use Rattle.dt_txn.specs.declared.outcome.Outcome.TheVariants.{Aborted, Gave, Stale}
use Rattle.dt_txn.specs.Transaction.{IsValid}
use Rattle.dt_txn.specs.Serial.{table_after}
use Rattle.dt_session.specs.World.{node_at}
use Rattle.dt_session.specs.Step.{body_of}
use Rattle.dt_session.specs.Run.{AreLegal, region_table, world_after}
use Rattle.dt_session.specs.Finished.{IsFinished}
use Rattle.dt_gen.specs.Load.{load_call, load_cluster, load_workload}
use Rattle.dt_gen.specs.Balances.{HoldsAccounts}
use Rattle.dt_gen.specs.Summary.{answer_count, big_text, is_answer, row_sum, summary_text}

-- a valid transaction that does what some call of the load asks for
pub record IsOfLoad (txn : Txn) : Type 0 where
  pub valid : IsValid load_cluster.procs load_cluster.version load_cluster.regions txn
  pub call : ℕ
  pub body : txn.body ≡ body_of (load_call call).wanted

-- what the accounts have together stays as it is, whatever transactions of the load run, in whatever order, also where some of
-- them fail or are stale
abbrev pub LoadKeepsTotal : Type 0
LoadKeepsTotal = (txns : List Txn) (t : Table) → AllIn IsOfLoad txns → HoldsAccounts 100000 t → HoldsAccounts 100000 (table_after builtin_procs txns t)

-- at each moment of a run of the load, the table of each region holds the accounts, with 100,000 in all
abbrev pub EachRegionHoldsAccounts : Type 0
EachRegionHoldsAccounts =
    (calls : ℕ) (events : List Event) (region : ℕ) → calls ≤ 20000 → AreLegal load_cluster (load_workload calls) events → region < 4 →
    HoldsAccounts 100000 (node_at (world_after load_cluster (load_workload calls) events) region).here.table

-- how an attempt of the load can end: with values, for lack of funds, or stale. So no sum overflows, and no row lacks a number
abbrev pub IsLoadOutcome : Outcome → Type 0
IsLoadOutcome (Gave values) = Unit {0}
IsLoadOutcome (Aborted why) = why ≡ cause.Word (codes "funds")
IsLoadOutcome (Stale unit had by) = Unit {0}

-- at each moment of a run of the load, all that a region has executed ended so
abbrev pub EachAttemptEndsPlainly : Type 0
EachAttemptEndsPlainly =
    (calls : ℕ) (events : List Event) (region : ℕ) → calls ≤ 20000 → AreLegal load_cluster (load_workload calls) events → region < 4 →
    AllIn (λ d. IsLoadOutcome d.1) (node_at (world_after load_cluster (load_workload calls) events) region).here.done

-- what a report shows of a table that holds the accounts has their total as its sum
abbrev pub ShownSumIsTotal : Type 0
ShownSumIsTotal = (total : ℕ) (t : Table) → HoldsAccounts total t → row_sum (shown t) ≡ pos total

-- so the sum of the rows that a report of a run of the load shows of a region is 100,000
abbrev pub EachReportShowsTheTotal : Type 0
EachReportShowsTheTotal =
    (calls : ℕ) (events : List Event) (region : ℕ) → calls ≤ 20000 → AreLegal load_cluster (load_workload calls) events → region < 4 →
    row_sum (shown (region_table load_cluster (load_workload calls) events region)) ≡ pos 100000

-- once a run of the load is finished, it has as many answers as calls
abbrev pub EachCallIsAnsweredOnce : Type 0
EachCallIsAnsweredOnce =
    (calls : ℕ) (events : List Event) → calls ≤ 20000 → AreLegal load_cluster (load_workload calls) events → IsFinished load_cluster (load_workload calls) events → answer_count events ≡ calls

-- so a list that has an item for each answer and for no other event, as the replies of a report do, has as many items as there are
-- calls
abbrev pub EachCallHasAReply : Type 0
EachCallHasAReply =
    (calls : ℕ) (events : List Event) (item_of : Event → Option Bytes) → calls ≤ 20000 → AreLegal load_cluster (load_workload calls) events
    → IsFinished load_cluster (load_workload calls) events → ((event : Event) → is_some (item_of event) ≡ is_answer event) → length (filter_map item_of events) ≡ calls

-- so what is reported of a finished run, by its events and by the rows that its report shows of region 0, is known beforehand
abbrev pub EachSummaryIsKnown : Type 0
EachSummaryIsKnown =
    (calls : ℕ) (events : List Event) → calls ≤ 20000 → AreLegal load_cluster (load_workload calls) events → IsFinished load_cluster (load_workload calls) events →
    summary_text calls (answer_count events) (row_sum (shown (region_table load_cluster (load_workload calls) events 0))) ≡ big_text calls
