-- Rule 6: what an execution makes of a region's fields is what the rule says, and keeps the region sound. Its scheduler
-- goes along.
use Rattle.std.proofs.Common.{◌≡◌, ◌≤◌, ◌+◌, ◌-◌, arith, ℕ, Ok, true, List, [], ◌∷◌, ◌++◌, map, Some, refl, sym, ap, subst, ◌∙◌}
use Rattle.dt_lists.specs.Lists.{Has}
use Rattle.dt_access.specs.declared.Part.{Part}
use Rattle.dt_access.specs.declared.TxnId.{TxnId}
use Rattle.dt_events.specs.declared.Stamped.{Stamped}
use Rattle.dt_events.specs.declared.Event.TheVariants.{Execute}
use Rattle.dt_sched.specs.Views.{View, log_at, HasParts}
use Rattle.dt_sched.specs.Decide.{IsExecutable, IsSound}
use Rattle.dt_sched.specs.Sched.{Sched, CanExecute, after_finish}
use Rattle.dt_sched.proofs.Callers.{complete_of_closed, part_of_complete}
use Rattle.dt_sched.proofs.Callers.{sound_execute}
use Rattle.dt_proc.specs.Tree.{ProcTree}
use Rattle.dt_table.specs.Table.{Table, HasPlaceFor, MovesUnit, apply, places_for}
use Rattle.dt_table.specs.declared.Effect.{Effect}
use Rattle.dt_txn.specs.declared.txn.Txn.{Txn}
use Rattle.dt_txn.specs.declared.outcome.Outcome.{Outcome}
use Rattle.dt_txn.specs.Execution.{one}
use Rattle.dt_txn.specs.Replica.{view_of, done_ids, executed}
use Rattle.dt_txn.proofs.Callers.{few_places, moves_unit}
use Rattle.dt_region.specs.Region.{RegionState, RegionView, latest_stamp, held, sched_of}
use Rattle.dt_region.specs.Rules.{after_finishing, after_making, with_event, MakesStep}
use Rattle.dt_region.specs.Conditions.{CanMove, HoldsValid}
use Rattle.dt_region.specs.Sound.{IsSoundRegion, IsHeldPart}
use Rattle.dt_region.specs.RegionInner.{AreWell}
use Rattle.dt_region.proofs.StaysSound.{stays_sound}
use Rattle.dt_region.proofs.ViewOfRegion.{IsSeenAs, kept_under, under}
use Rattle.dt_region.proofs.HeldTransactions.{held_id, view_parts}
use Rattle.dt_region.proofs.Tables.{after_table, one_place}

-- what is executable is held
pub executable_held : (s : RegionState) → IsSoundRegion s → (id : TxnId) → IsExecutable (view_of s.logs s.here) s.here.resolved (done_ids s.here) id → (txn : Txn) × (held s id ≡ Some txn)
executable_held s sound id executable =
    let sight : View = view_of s.logs s.here in
    let r : (home : ℕ) × (p : Part) × Has (log_at sight home) p × (p.id ≡ id) × HasParts sight p.homes id = part_of_complete sight id (complete_of_closed sight id executable.closed) in
    let k : IsHeldPart s r.0 r.1 = view_parts s sound r.0 r.1 r.2 in
    (k.0, ap (held s) (sym r.3) ∙ k.1)

-- what contracts see as executable is so for the scheduler
pub can_seen : {r : RegionView} {s : RegionState} {events : List Stamped} {heard room : ℕ} {seen : Sched} → IsSeenAs s events heard room seen r → (id : TxnId)
    → CanExecute (sched_of r.state.logs r.state.here) id → CanExecute seen id
can_seen stands id can = subst (λ x. CanExecute x id) (sym (stands.well.1 ∙ ap (λ (x : RegionView). sched_of x.state.logs x.state.here) stands.view)) can

-- and the other way round
pub can_shown : {r : RegionView} {s : RegionState} {events : List Stamped} {heard room : ℕ} {seen : Sched} → IsSeenAs s events heard room seen r → (id : TxnId)
    → CanExecute seen id → CanExecute (sched_of r.state.logs r.state.here) id
can_shown stands id can = subst (λ x. CanExecute x id) (stands.well.1 ∙ ap (λ (x : RegionView). sched_of x.state.logs x.state.here) stands.view) can

ids_done : (done : List (TxnId × Outcome)) (d : TxnId × Outcome) → map (λ x. x.0) (done ++ d ∷ []) ≡ map (λ x. x.0) done ++ d.0 ∷ []
ids_done [] d = refl
ids_done (x ∷ done) d = ap (λ l. x.0 ∷ l) (ids_done done d)

module _ (procs : List ProcTree) (s : RegionState) (sound : IsSoundRegion s) (holds : HoldsValid procs s) (id : TxnId) (may : CanExecute (sched_of s.logs s.here) id) (txn : Txn) (e : held s id ≡ Some txn) where
  abbrev after : RegionState
  after = record s { here = executed procs s.here (Some txn) }

  done_now : done_ids after.here ≡ done_ids s.here ++ id ∷ []
  done_now = ids_done s.here.done (txn.id, (one procs txn s.here.table).0) ∙ ap (λ i. done_ids s.here ++ i ∷ []) (held_id s id txn e)

  pub execute_sound : IsSoundRegion after
  execute_sound =
      stays_sound s sound s.here.inserted s.here.resolved after.here.done after.here.table sound.inserted sound.inserted_few
      (after_table procs s.here.table.version s.regions txn s.here.table sound.table (holds id txn e))
      (subst (IsSound (view_of s.logs s.here) s.here.resolved) (sym done_now) (sound_execute (view_of s.logs s.here) s.here.resolved (done_ids s.here) id may sound.decided))

  pub execute_well : (seen : Sched) → seen ≡ after_finish (sched_of s.logs s.here) id → AreWell after seen
  execute_well seen f = (execute_sound, f ∙ ap (λ ids. record (sched_of s.logs s.here) { done = ids }) (sym done_now))

-- The region has the state s and these events, and contracts see it as r: what the call makes of its fields is what the
-- rule says.
module _ (procs : List ProcTree) (r : RegionView) (s : RegionState) (events : List Stamped) (heard room : ℕ) (seen : Sched) (stands : IsSeenAs s events heard room seen r)
    (holds : HoldsValid procs r.state) (id : TxnId) (can : CanExecute seen id) where
  may_here : CanExecute (sched_of s.logs s.here) id
  may_here = subst (λ x. CanExecute x id) stands.well.1 can

  held_here : (txn : Txn) × (held s id ≡ Some txn)
  held_here = executable_held s stands.well.0 id may_here

  pub execute_held : (txn : Txn) × (held r.state id ≡ Some txn)
  execute_held = (held_here.0, subst (λ x. held x.state id ≡ Some held_here.0) stands.view held_here.1)

  abbrev txn_here : Txn
  txn_here = held_here.0

  valid_here : HoldsValid procs s
  valid_here = subst (λ x. HoldsValid procs x.state) (sym stands.view) holds

  abbrev made : Sched → List (TxnId × Outcome) → Table → RegionState
  made now done table = record s { here = record s.here { resolved = now.resolved; done = done; table = table } }

  -- The transaction came to this outcome and this effect.
  module _ (outcome : Outcome) (effect : Effect) (ran : (txn : Txn) → held r.state id ≡ Some txn → (outcome, effect) ≡ one procs txn r.state.here.table) where
    run_is : (outcome, effect) ≡ one procs txn_here s.here.table
    run_is = subst (λ x. (outcome, effect) ≡ one procs txn_here x.state.here.table) (sym stands.view) (ran txn_here (subst (λ x. held x.state id ≡ Some txn_here) stands.view held_here.1))

    -- the effect may be applied to the table: what it moves is a unit, for which a place is left
    pub execute_unit : (t : Table) → t ≡ s.here.table → MovesUnit t.version effect.moved
    execute_unit t e =
        subst (λ u. MovesUnit u.version effect.moved) (sym e)
        (subst (λ x. MovesUnit s.here.table.version x.1.moved) (sym run_is) (moves_unit procs s.here.table.version s.regions txn_here s.here.table (valid_here id txn_here held_here.1)))

    -- and it takes few places
    pub execute_few : places_for effect ≤ 17
    execute_few = subst (λ x. places_for x.1 ≤ 17) (sym run_is) (few_places procs s.here.table.version s.regions txn_here s.here.table (valid_here id txn_here held_here.1))

    pub execute_place : CanMove r.state id → (t : Table) → t ≡ s.here.table → HasPlaceFor effect.moved t
    execute_place moves t e =
        let place : CanMove s id = subst (λ x. CanMove x.state id) (sym stands.view) moves in
        subst (HasPlaceFor effect.moved) (sym e) (subst (λ x. HasPlaceFor x.1.moved s.here.table) (sym run_is) (one_place procs txn_here s.here.table (place txn_here held_here.1)))

    -- The scheduler, the done list and the table are these afterwards.
    module _ (now : Sched) (done : List (TxnId × Outcome)) (table : Table) (is : now ≡ after_finish seen id) (noted : done ≡ s.here.done ++ (id, outcome) ∷ []) (applied : table ≡ apply effect s.here.table) where
      -- the region afterwards, with these events
      abbrev region_made : List Stamped → RegionView
      region_made after = record { state = made now done table; events = after; heard = heard; room = room - 1 }

      now_is : now ≡ after_finish (sched_of s.logs s.here) id
      now_is = is ∙ ap (λ x. after_finish x id) stands.well.1

      ran_so : made now done table ≡ record s { here = executed procs s.here (Some txn_here) }
      ran_so =
          let done_is : done ≡ s.here.done ++ (txn_here.id, (one procs txn_here s.here.table).0) ∷ [] = noted ∙ (λ i. s.here.done ++ (sym (held_id s id txn_here held_here.1) i, (run_is i).0) ∷ []) in
          let table_is : table ≡ apply (one procs txn_here s.here.table).1 s.here.table = applied ∙ ap (λ x. apply x.1 s.here.table) run_is in
          λ j. made (now_is j) (done_is j) (table_is j)

      pub execute_keeps : AreWell (made now done table) now
      execute_keeps = subst (λ x. AreWell x now) (sym ran_so) (execute_well procs s stands.well.0 valid_here id may_here txn_here held_here.1 now now_is)

      pub finish_made : (stamp : ℕ) (is_next : stamp ≡ latest_stamp r + 1) (after : List Stamped)
          → after ≡ events ++ under stamp (Execute s.number id) ∷ []
          → region_made after ≡ after_finishing procs r id
      finish_made stamp is_next after kept =
          let state : made now done table ≡ after_making procs s (Execute s.number id) = ran_so ∙ ap (λ o. record s { here = executed procs s.here o }) (sym held_here.1) in
          subst (λ x. region_made after ≡ after_finishing procs x id) stands.view
          (λ j. record { state = state j; events = kept_under stands (Execute s.number id) stamp after is_next kept j; heard = heard; room = room - 1 })

-- an execution for which room was made, and which was then finished, is the step
pub execute_made : (procs : List ProcTree) (r roomy after : RegionView) (id : TxnId) → CanExecute (sched_of r.state.logs r.state.here) id → roomy ≡ record r { room = r.room + 1 }
    → after ≡ after_finishing procs roomy id → MakesStep procs r (Execute r.state.number id) (Ok true) after
execute_made procs r roomy after id may made finished =
    let back : r.room + 1 - 1 ≡ r.room = omega arith in
    (may, finished ∙ ap (λ x. after_finishing procs x id) made ∙ ap (λ n. record (with_event r (after_making procs r.state (Execute r.state.number id)) (Execute r.state.number id)) { room = n }) back)
