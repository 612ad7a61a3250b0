-- Only proofs need this file: each type that contracts see has a code, by which the toolchain tells its values apart.
-- Here are those of a replica and of a region, each by its fields. Skip it; read `Region` for what they are.
use Rattle.std.specs.Prelude.{ℕ, List, refl}
use Rattle.std.specs.Coded.{Coded, code_by, coded×, coded_ℕ, coded_list}
use Rattle.dt_table.specs.Table.{Table}
use Rattle.dt_table.specs.TableCode.{table_code}
use Rattle.dt_access.specs.contracts.id.TxnId as id
use Rattle.dt_access.specs.contracts.part.Part as part
use Rattle.dt_access.specs.declared.TxnId.{TxnId}
use Rattle.dt_access.specs.declared.Part.{Part}
use Rattle.dt_txn.specs.contracts.txn.Txn as txn
use Rattle.dt_txn.specs.contracts.outcome.Outcome as outcome
use Rattle.dt_txn.specs.declared.txn.Txn.{Txn}
use Rattle.dt_txn.specs.declared.outcome.Outcome.{Outcome}
use Rattle.dt_txn.specs.Replica.{Replica}
use Rattle.dt_events.specs.contracts.event.Stamped as stamped
use Rattle.dt_events.specs.declared.Stamped.{Stamped}
use Rattle.dt_region.specs.Region.{RegionState, RegionView}

-- the code of lists of lists of ids
abbrev ids_code : Coded (List (List TxnId))
ids_code = coded_list (coded_list id.the_row.coded)

-- a replica is stored as its fields
abbrev pub replica_code : Coded Replica
replica_code = code_by (List (List TxnId) × (List ℕ × (List ℕ × (List (List TxnId) × (List (TxnId × Outcome) × Table)))))
    (coded× ids_code (coded× (coded_list coded_ℕ) (coded× (coded_list coded_ℕ) (coded× ids_code (coded× (coded_list (coded× id.the_row.coded outcome.the_row.coded)) table_code)))))
    (λ r. (r.asked, (r.taken, (r.inserted, (r.resolved, (r.done, r.table))))))
    (λ p. record {
      asked = p.0;
      taken = p.1.0;
      inserted = p.1.1.0;
      resolved = p.1.1.1.0;
      done = p.1.1.1.1.0;
      table = p.1.1.1.1.1;
    })
    (λ _. refl)

-- what a region holds is stored as its fields
abbrev pub state_code : Coded RegionState
state_code = code_by (ℕ × (ℕ × (List Txn × (List Txn × (List (List Part) × Replica)))))
    (coded× coded_ℕ (coded× coded_ℕ (coded× (coded_list txn.the_row.coded) (coded× (coded_list txn.the_row.coded) (coded× (coded_list (coded_list part.the_row.coded)) replica_code)))))
    (λ s. (s.number, (s.regions, (s.submitted, (s.foreign, (s.logs, s.here))))))
    (λ p. record {
      number = p.0;
      regions = p.1.0;
      submitted = p.1.1.0;
      foreign = p.1.1.1.0;
      logs = p.1.1.1.1.0;
      here = p.1.1.1.1.1;
    })
    (λ _. refl)

-- a region is stored as its fields
abbrev pub region_code : Coded RegionView
region_code = code_by (RegionState × (List Stamped × (ℕ × ℕ))) (coded× state_code (coded× (coded_list stamped.the_row.coded) (coded× coded_ℕ coded_ℕ))) (λ k. (k.state, (k.events, (k.heard, k.room))))
    (λ p. record { state = p.0; events = p.1.0; heard = p.1.1.0; room = p.1.1.1 }) (λ _. refl)
