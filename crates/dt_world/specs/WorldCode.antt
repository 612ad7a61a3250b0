-- The toolchain asks for these; skip them. They are the codes by which proofs tell worlds apart, each by its fields. Read
-- next: `WorldView`, for what they are.
use Rattle.std.specs.Prelude.{ℕ, List, Option, refl}
use Rattle.std.specs.Coded.{Coded, code_by, coded×, coded_ℕ, coded_list, coded_option}
use Rattle.dt_access.specs.Clash.{Bytes}
use Rattle.dt_access.specs.contracts.id.TxnId as id
use Rattle.dt_access.specs.declared.TxnId.{TxnId}
use Rattle.dt_access.specs.contracts.part.Part as part
use Rattle.dt_access.specs.declared.Part.{Part}
use Rattle.dt_events.specs.contracts.event.Event as event
use Rattle.dt_events.specs.declared.Event.{Event}
use Rattle.dt_region.specs.RegionCode as regions
use Rattle.dt_txn.specs.contracts.txn.Txn as txn
use Rattle.dt_txn.specs.declared.Txn.{Txn}
use Rattle.dt_txn.specs.Replica.{Replica}
use Rattle.dt_cluster.specs.contracts.Cluster as cluster
use Rattle.dt_cluster.specs.declared.Cluster.{Cluster}
use Rattle.dt_workload.specs.contracts.Workload as workload
use Rattle.dt_workload.specs.declared.Workload.{Workload}
use Rattle.dt_session.specs.World.{World, Node, Place, Submission}
use Rattle.dt_world.specs.WorldView.{WorldView}

-- an attempt is stored as its fields
abbrev pub submission_code : Coded Submission
submission_code = code_by (Txn × (Bytes × (ℕ × ℕ))) (coded× txn.the_row.coded (coded× (coded_list coded_ℕ) (coded× coded_ℕ coded_ℕ)))
    (λ s. (s.txn, (s.session, (s.call, s.attempt)))) (λ p. record { txn = p.0; session = p.1.0; call = p.1.1.0; attempt = p.1.1.1 }) (λ _. refl)

-- what one region holds is stored as its fields
abbrev pub node_code : Coded Node
node_code = code_by (List Submission × (List Part × (List ℕ × Replica)))
    (coded× (coded_list submission_code) (coded× (coded_list part.the_row.coded) (coded× (coded_list coded_ℕ) regions.replica_code)))
    (λ n. (n.submitted, (n.log, (n.received, n.here)))) (λ p. record { submitted = p.0; log = p.1.0; received = p.1.1.0; here = p.1.1.1 }) (λ _. refl)

-- where a session stands is stored as its fields
abbrev pub place_code : Coded Place
place_code = code_by (ℕ × Option TxnId) (coded× coded_ℕ (coded_option id.the_row.coded)) (λ p. (p.answered, p.waits)) (λ p. record { answered = p.0; waits = p.1 }) (λ _. refl)

-- the state of a world is stored as its fields
abbrev pub world_state_code : Coded World
world_state_code = code_by (List Node × List Place) (coded× (coded_list node_code) (coded_list place_code)) (λ w. (w.nodes, w.places)) (λ p. record { nodes = p.0; places = p.1 }) (λ _. refl)

-- a world, as callers see it, is stored as its fields
abbrev pub world_code : Coded WorldView
world_code = code_by (Cluster × (Workload × (World × (List (List Event) × ℕ))))
    (coded× cluster.the_row.coded (coded× workload.the_row.coded (coded× world_state_code (coded× (coded_list (coded_list event.the_row.coded)) coded_ℕ))))
    (λ v. (v.cluster, (v.workload, (v.state, (v.kept, v.steps)))))
    (λ p. record { cluster = p.0; workload = p.1.0; state = p.1.1.0; kept = p.1.1.1.0; steps = p.1.1.1.1 })
    (λ _. refl)
