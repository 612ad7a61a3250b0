-- Workloads that cannot deadlock. Where no call is a move, and the keys of each call have one home in the opening table,
-- every transaction has one home for good, since nothing is ever moved. Then each class has one member and rule 5 never
-- applies: the law `one_home_each_call` of dt_agreement says so. Read next: that law in src/laws.rt of that crate.
use Rattle.std.specs.Prelude.{◌≡◌, ℕ, List, length}
use Rattle.dt_lists.specs.Lists.{AllIn}
use Rattle.dt_txn.specs.declared.Body.{Body}
use Rattle.dt_txn.specs.declared.txn.Body.TheVariants.{Call, Move}
use Rattle.dt_txn.specs.Transaction.{annotate, homes_of}
use Rattle.dt_txn.specs.Replica.{next_id}
use Rattle.dt_cluster.specs.declared.Cluster.{Cluster}
use Rattle.dt_workload.specs.declared.Workload.{Workload}
use Rattle.dt_session.specs.World.{opening_table}
use Rattle.dt_session.specs.Step.{body_of}

-- the homes of a body before anything is moved; they are the same under whichever id and rank
abbrev pub homes_at_first : Cluster → Body → List ℕ
homes_at_first cluster body = homes_of (annotate cluster.procs (next_id 0 0) 0 body (opening_table cluster))

-- the body is a call, and has one home before anything is moved
abbrev pub HasOneHome : Cluster → Body → Type 0
HasOneHome cluster (Call proc args) = length (homes_at_first cluster (Call proc args)) ≡ 1
HasOneHome cluster (Move key target) = ⊥

-- no session of the workload wants a move, and each of their calls has one home before anything is moved
abbrev pub CallsHaveOneHome : Cluster → Workload → Type 0
CallsHaveOneHome cluster workload = AllIn (λ session. AllIn (λ call. HasOneHome cluster (body_of call.wanted)) session.calls) workload.sessions
