-- The search for an id that may be claimed: it passes over what is busy, each id once, and there are no more ids than parts.
use Rattle.std.proofs.Common.{◌≡◌, ◌≤◌, ◌<◌, ◌+◌, ◌-◌, ℕ, List, [], ◌∷◌, ◌++◌, length, Option, Some, None, subst, arith}
use Rattle.std.proofs.lemmas.List.{length-append}
use Rattle.dt_lists.specs.Lists.{AllIn, Distinct, Has}
use Rattle.dt_lists.proofs.Callers.{all_get, all_map, all_more, distinct_push, distinct_within}
use Rattle.dt_access.specs.declared.TxnId.{TxnId}
use Rattle.dt_sched.specs.Sched.{CanExecute, IsNextReady, Sched}
use Rattle.dt_sched.proofs.Callers.{complete_of_closed, has_of_present, ids_in, present_of_complete}
use Rattle.dt_region.specs.Region.{RegionState, sched_of}
use Rattle.dt_lock.specs.Held.{HeldView, IsBusy, IsNextFree}

-- what the region behind the lock has of logs, and what it did with them
abbrev pub sched_in : HeldView → Sched
sched_in h = sched_of h.region.state.logs h.region.state.here

-- the ids that were passed over may be executed and are busy, and each was passed over once
pub record ArePassed (before : RegionState) (h : HeldView) (ids : List TxnId) : Type 0 where
  pub each : AllIn (λ id. CanExecute (sched_in h) id × IsBusy before h.running id) ids
  pub once : Distinct ids

-- what a region answers to a search for an id that it may execute, said of the region behind its lock
pub ready_there : (v h : HeldView) → v ≡ h → (ids given : List TxnId) → given ≡ ids → (found answer : Option TxnId) → found ≡ answer
    → IsNextReady (sched_in v) given found → IsNextReady (sched_in h) ids answer
ready_there v h same ids given e found answer f ready =
    subst (λ (x : HeldView). IsNextReady (sched_in x) ids answer) same
    (subst (λ l. IsNextReady (sched_in v) l answer) e (subst (IsNextReady (sched_in v) given) f ready))

-- how many more can be passed over at most
abbrev pub ids_left : HeldView → List TxnId → ℕ
ids_left h ids = length (ids_in (sched_in h).logs) - length ids

module _ (before : RegionState) (h : HeldView) (ids : List TxnId) (passed : ArePassed before h ids) where
  abbrev sched : Sched
  sched = sched_in h

  pub passed_all : IsNextReady sched ids None → IsNextFree before h None
  passed_all none id can = (all_get _ ids passed.each id (none id can)).1

  module _ (id : TxnId) (ready : IsNextReady sched ids (Some id)) (busy : IsBusy before h.running id) where
    pub one_passed : ArePassed before h (ids ++ id ∷ [])
    one_passed = record { each = all_more _ ids id passed.each (ready.0, busy); once = distinct_push ids id passed.once ready.1 }

    known : (other : TxnId) → CanExecute sched other → Has (ids_in sched.logs) other
    known other can = has_of_present sched.logs other (present_of_complete sched.logs other (complete_of_closed sched.logs other can.closed))

    pub one_left_less : ids_left h (ids ++ id ∷ []) < ids_left h ids
    one_left_less =
        let few : length (ids ++ id ∷ []) ≤ length (ids_in sched.logs) = distinct_within (ids ++ id ∷ []) (ids_in sched.logs) one_passed.once (all_map _ _ (ids ++ id ∷ []) (λ other k. known other k.0) one_passed.each) in
        let more : length (ids ++ id ∷ []) ≡ length ids + 1 = length-append ids (id ∷ []) in
        omega (arith, few, more)
