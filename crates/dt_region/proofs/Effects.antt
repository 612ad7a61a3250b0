-- What one step counts: it is one more, it leaves the version of the table, and it moves a unit once at most, if it does one
-- transaction more.
use Rattle.std.proofs.Common.{◌≡◌, ◌<◌, ◌≤◌, ◌+◌, ℕ, suc, List, [], ◌∷◌, ◌++◌, length, set, Some, refl, sym, ap, subst, inl, inr, arith}
use Rattle.std.specs.Prelude.{slice_index, sum}
use Rattle.std.proofs.lemmas.List.{get_or_past, length-append}
use Rattle.std.proofs.lemmas.List.Sums.{sum_by-set}
use Rattle.dt_lists.specs.Lists.{Either}
use Rattle.dt_lists.proofs.Callers.{either_le}
use Rattle.dt_access.specs.Clash.{Bytes}
use Rattle.dt_access.specs.declared.TxnId.{TxnId}
use Rattle.dt_events.specs.declared.Event.{Event}
use Rattle.dt_events.specs.declared.Event.TheVariants.{Submit, Append, Deliver, Insert, Resolve, Execute, Answer}
use Rattle.dt_sched.specs.Views.{log_at}
use Rattle.dt_proc.specs.Tree.{ProcTree}
use Rattle.dt_table.specs.Table.{counter_of}
use Rattle.dt_table.proofs.Callers.{counter_of-apply, version-apply}
use Rattle.dt_txn.specs.declared.txn.Txn.{Txn}
use Rattle.dt_txn.specs.Execution.{one}
use Rattle.dt_txn.specs.Replica.{Replica, executed, stepped}
use Rattle.dt_region.specs.Region.{RegionState, held}
use Rattle.dt_region.specs.Rules.{MayMake}
use Rattle.dt_region.specs.Sound.{IsSoundRegion}
use Rattle.dt_region.proofs.Rule6Execute.{executable_held}
use Rattle.dt_region.specs.StepsInner.{steps_of}

-- a replica has become another by one step
pub record IsOneStepOn (here next : Replica) : Type 0 where
  pub more : steps_of next ≡ steps_of here + 1
  pub version : next.table.version ≡ here.table.version
  pub moves : (key : Bytes) → counter_of next.table key + length here.done ≤ counter_of here.table key + length next.done

module _ (procs : List ProcTree) (s : RegionState) (sound : IsSoundRegion s) where
  -- a log with a part that isn't inserted is there
  has_log : (home : ℕ) → slice_index s.here.inserted home < length (log_at s.logs home) → home < length s.here.inserted
  has_log home lt = by (either_le (suc home) (length s.here.inserted))
    where
      by : Either (home < length s.here.inserted) → home < length s.here.inserted
      by (inl there) = there
      by (inr past) =
          let a = sound.inserted in
          let b = sound.logs in
          let none : log_at s.logs home ≡ [] = get_or_past s.logs home [] (omega (arith, past, a, b)) in
          let empty : length (log_at s.logs home) ≡ 0 = ap length none in
          absurd (omega (arith, lt, empty))

  inserts : (region home : ℕ) → MayMake s (Insert region home) → IsOneStepOn s.here (stepped procs (held s) s.here (Insert region home))
  inserts region home may = record {
    more =
        let more : sum (set s.here.inserted home (slice_index s.here.inserted home + 1)) + slice_index s.here.inserted home ≡ sum s.here.inserted + (slice_index s.here.inserted home + 1) =
        sum_by-set (λ y. y) s.here.inserted home (slice_index s.here.inserted home + 1) 0 (has_log home may) in
        omega (arith, more);
    version = refl;
    moves = λ key. omega arith;
  }

  resolves : (region : ℕ) (ids : List TxnId) → IsOneStepOn s.here (stepped procs (held s) s.here (Resolve region ids))
  resolves region ids = record {
    more = let more : length (s.here.resolved ++ ids ∷ []) ≡ length s.here.resolved + 1 = length-append s.here.resolved (ids ∷ []) in omega (arith, more);
    version = refl;
    moves = λ key. omega arith;
  }

  does : (txn : Txn) → IsOneStepOn s.here (executed procs s.here (Some txn))
  does txn =
      let more : length (s.here.done ++ (txn.id, (one procs txn s.here.table).0) ∷ []) ≡ length s.here.done + 1 = length-append s.here.done ((txn.id, (one procs txn s.here.table).0) ∷ []) in
      record {
        more = omega (arith, more);
        version = version-apply (one procs txn s.here.table).1 s.here.table;
        moves = λ key. (let moved = counter_of-apply (one procs txn s.here.table).1 s.here.table key in omega (arith, more, moved));
      }

  pub step_counted : (event : Event) → MayMake s event → IsOneStepOn s.here (stepped procs (held s) s.here event)
  step_counted (Insert region home) may = inserts region home may
  step_counted (Resolve region ids) may = resolves region ids
  step_counted (Execute region id) may =
      let r : (txn : Txn) × (held s id ≡ Some txn) = executable_held s sound id may in
      subst (λ o. IsOneStepOn s.here (executed procs s.here o)) (sym r.1) (does r.0)
  step_counted (Submit region session) may = absurd may
  step_counted (Append home source number) may = absurd may
  step_counted (Deliver region home first last) may = absurd may
  step_counted (Answer region session) may = absurd may
