-- When a region is drained: all that it received is inserted, and its scheduler finds nothing to do.
use Rattle.std.proofs.Common.{◌≡◌, ◌↔◌, ℕ, Bool, true, false, List, [], Option, Some, None, length, not, refl, sym, ◌∙◌}
use Rattle.std.specs.Prelude.{IsTrue, is_some, slice_index}
use Rattle.dt_access.specs.declared.TxnId.{TxnId}
use Rattle.dt_sched.specs.Views.{View, log_at}
use Rattle.dt_sched.specs.Sched.{IsNextClass, IsNextReady}
use Rattle.dt_txn.specs.Replica.{HasInsertedAll, IsDrained, Replica}
use Rattle.dt_region.specs.Region.{RegionState, sched_of}

-- all that is received of a home's log is inserted
abbrev pub HasInserted : RegionState → ℕ → Type 0
HasInserted s home = slice_index s.here.inserted home ≡ length (log_at s.logs home)

-- a test that a drained region passes has failed
pub not_drained : (logs : View) (here : Replica) {b : Bool} → (IsDrained logs here → IsTrue b) → b ≡ false → IsTrue false ↔ IsDrained logs here
not_drained logs here passes failed = (λ e. absurd (clash e), λ d. sym failed ∙ passes d)
  where
    clash : IsTrue false → ⊥
    clash e = cc

-- something is executable
pub ready_undrained : (logs : View) (here : Replica) (ready : Option TxnId) → is_some ready ≡ true → IsNextReady (sched_of logs here) [] ready → IsTrue false ↔ IsDrained logs here
ready_undrained logs here None some is = cc
ready_undrained logs here (Some id) some is = (λ e. cc, λ d. absurd (d.executed id is.0))

-- all is inserted and nothing is executable: then it is drained where no class is resolvable
pub drained_exactly : (logs : View) (here : Replica) → HasInsertedAll logs here → (ready : Option TxnId) → is_some ready ≡ false → IsNextReady (sched_of logs here) [] ready
    → (class : Option (List TxnId)) → IsNextClass (sched_of logs here) class → (b : Bool) → is_some class ≡ not b → IsTrue b ↔ IsDrained logs here
drained_exactly logs here inserted (Some id) some ready class next b is = cc
drained_exactly logs here inserted None some ready None next true is = (λ _. record { inserted = inserted; executed = λ id can. ready id can; resolved = λ ids can. next ids can }, λ _. refl)
drained_exactly logs here inserted None some ready None next false is = cc
drained_exactly logs here inserted None some ready (Some ids) next true is = cc
drained_exactly logs here inserted None some ready (Some ids) next false is = (λ e. cc, λ d. absurd (d.resolved ids next))
