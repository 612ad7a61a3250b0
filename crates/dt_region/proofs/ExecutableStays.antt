-- What is executable at a region stays so by each step of its own, until it is executed itself.
use Rattle.std.proofs.Common.{◌≡◌, ◌≢◌, ◌<◌, ℕ, List, [], ◌∷◌, ◌++◌, Some, sym, ap, subst, ◌∙◌, inl, inr}
use Rattle.std.specs.Prelude.{slice_get, slice_index}
use Rattle.std.proofs.lemmas.List.{map-append}
use Rattle.dt_lists.specs.Lists.{Has, IsWithin}
use Rattle.dt_lists.proofs.Callers.{all_put, any_append_left, at_place, has_more, within_refl}
use Rattle.dt_access.specs.declared.Part.{Part}
use Rattle.dt_access.specs.declared.TxnId.{TxnId}
use Rattle.dt_events.specs.declared.Event.TheVariants.{Insert, Resolve, Execute}
use Rattle.dt_sched.specs.Views.{View, IsLonger, log_at}
use Rattle.dt_sched.specs.Decide.{IsExecutable}
use Rattle.dt_sched.specs.Sched.{CanExecute}
use Rattle.dt_sched.proofs.Callers.{executable_stays, with_part_longer, longer_refl}
use Rattle.dt_proc.specs.Tree.{ProcTree}
use Rattle.dt_txn.specs.declared.txn.Txn.{Txn}
use Rattle.dt_txn.specs.declared.outcome.Outcome.{Outcome}
use Rattle.dt_txn.specs.Execution.{one}
use Rattle.dt_txn.specs.Replica.{done_ids, executed, view_of}
use Rattle.dt_region.specs.Region.{RegionState, held, sched_of}
use Rattle.dt_region.specs.Rules.{MayMake, after_making}
use Rattle.dt_region.specs.Sound.{IsSoundRegion}
use Rattle.dt_region.proofs.HeldTransactions.{held_id}
use Rattle.dt_region.proofs.Rule4Insert.{insert_sound, view_now}
use Rattle.dt_region.proofs.Rule6Execute.{executable_held}
use Rattle.dt_region.proofs.StepSound.{has_log}

within_more : {A : Type 0} (xs : List A) (y : A) → IsWithin xs (xs ++ y ∷ [])
within_more xs y = all_put (Has (xs ++ y ∷ [])) xs (λ x h. any_append_left (λ z. z ≡ x) xs (y ∷ []) h)

module _ (procs : List ProcTree) (s : RegionState) (sound : IsSoundRegion s) (id : TxnId) (can : CanExecute (sched_of s.logs s.here) id) where
  pub insert_leaves : (home : ℕ) → MayMake s (Insert s.number home) → CanExecute (sched_of s.logs (after_making procs s (Insert s.number home)).here) id
  insert_leaves home may =
      let next : (part : Part) × (slice_get (log_at s.logs home) (slice_index s.here.inserted home) ≡ Some part) = at_place (log_at s.logs home) (slice_index s.here.inserted home) may in
      let known : home < s.regions = has_log s sound home (slice_index s.here.inserted home) may in
      let now : View = view_of s.logs (after_making procs s (Insert s.number home)).here in
      let longer : IsLonger (view_of s.logs s.here) now = subst (IsLonger (view_of s.logs s.here)) (sym (view_now s sound home next.0 known next.1)) (with_part_longer (view_of s.logs s.here) next.0) in
      executable_stays (view_of s.logs s.here) now longer (insert_sound s sound home next.0 known next.1).decided.well_formed s.here.resolved s.here.resolved (done_ids s.here) (done_ids s.here)
      id (within_refl s.here.resolved) (within_refl (done_ids s.here)) can.waiting can

  pub resolve_leaves : (ids : List TxnId) → CanExecute (sched_of s.logs (after_making procs s (Resolve s.number ids)).here) id
  resolve_leaves ids =
      executable_stays (view_of s.logs s.here) (view_of s.logs s.here) (longer_refl (view_of s.logs s.here)) sound.decided.well_formed s.here.resolved (s.here.resolved ++ ids ∷ []) (done_ids s.here) (done_ids s.here)
      id (within_more s.here.resolved ids) (within_refl (done_ids s.here)) can.waiting can

  pub execute_leaves : (other : TxnId) → MayMake s (Execute s.number other) → other ≢ id → CanExecute (sched_of s.logs (after_making procs s (Execute s.number other)).here) id
  execute_leaves other may apart =
      let found : (txn : Txn) × (held s other ≡ Some txn) = executable_held s sound other may in
      subst (λ o. CanExecute (sched_of s.logs (executed procs s.here o)) id) (sym found.1) (does found.0 found.1)
    where
      does : (txn : Txn) → held s other ≡ Some txn → CanExecute (sched_of s.logs (executed procs s.here (Some txn))) id
      does txn e =
          let ids : done_ids (executed procs s.here (Some txn)) ≡ done_ids s.here ++ other ∷ [] =
          map-append (λ (d : TxnId × Outcome). d.0) s.here.done ((txn.id, (one procs txn s.here.table).0) ∷ []) ∙ ap (λ i. done_ids s.here ++ i ∷ []) (held_id s other txn e) in
          let waits : ¬ (Has (done_ids s.here ++ other ∷ []) id) = λ h. elim (has_more (done_ids s.here) other id h) [ inl k ↦ can.waiting k | inr k ↦ apart k ] in
          subst (λ l. IsExecutable (view_of s.logs s.here) s.here.resolved l id) (sym ids)
          (executable_stays (view_of s.logs s.here) (view_of s.logs s.here) (longer_refl (view_of s.logs s.here)) sound.decided.well_formed s.here.resolved s.here.resolved (done_ids s.here) (done_ids s.here ++ other ∷ [])
          id (within_refl s.here.resolved) (within_more (done_ids s.here) other) waits can)
