-- Each step under the lock keeps what holds whenever the lock is free.
use Rattle.std.proofs.Common.{◌≡◌, ◌≢◌, ◌≤◌, ◌+◌, ◌-◌, ℕ, Bool, true, false, List, [], ◌∷◌, ◌++◌, length, map, max, Option, Some, None}
use Rattle.std.proofs.Common.{Result, Ok, Err, refl, sym, ap, ap₂, subst, ◌∙◌, arith}
use Rattle.std.proofs.lemmas.Bool.{false_from_ne_true}
use Rattle.std.proofs.lemmas.List.{length-append, length-map}
use Rattle.std.proofs.lemmas.Option.{same_Some}
use Rattle.std.proofs.Math.Nat.{le-max_right}
use Rattle.dt_lists.specs.Lists.{Has}
use Rattle.dt_lists.proofs.Callers.{all_get, all_map, all_more, filter_all, filter_each}
use Rattle.dt_text.specs.declared.NoMemory.{NoMemory}
use Rattle.dt_access.specs.Clash.{clash}
use Rattle.dt_access.specs.declared.TxnId.{TxnId}
use Rattle.dt_events.specs.declared.Event.{Event}
use Rattle.dt_events.specs.declared.Event.TheVariants.{Insert, Resolve, Execute}
use Rattle.dt_events.specs.Events.{region_of}
use Rattle.dt_sched.specs.Sched.{CanExecute}
use Rattle.dt_serial.proofs.Callers.{seen_apart}
use Rattle.dt_proc.specs.Tree.{ProcTree}
use Rattle.dt_txn.specs.declared.txn.Txn.{Txn}
use Rattle.dt_txn.specs.declared.outcome.Seen.{Seen}
use Rattle.dt_txn.specs.Transaction.{used_of}
use Rattle.dt_txn.specs.Execution.{execution, one, see, seen_of}
use Rattle.dt_txn.specs.Replica.{executed}
use Rattle.dt_txn.specs.Serial.{after}
use Rattle.dt_region.specs.Region.{RegionState, RegionView, held, sched_of}
use Rattle.dt_region.specs.Rules.{MakesStep, after_finishing, after_making, with_event}
use Rattle.dt_region.specs.Conditions.{ComesTo, HasRun}
use Rattle.dt_region.specs.Sound.{IsSoundRegion}
use Rattle.dt_region.proofs.Callers.{executable_held, execute_leaves, held_id, insert_leaves, resolve_leaves, step_sound}
use Rattle.dt_region.specs.Rounds.{CanRound}
use Rattle.dt_region.proofs.Callers.{at_first, one_more, whatever_room}
use Rattle.dt_lock.specs.declared.running.Running.{Running}
use Rattle.dt_lock.specs.Claims.{ClaimView, FinishedView, IsClaim, IsWorked}
use Rattle.dt_lock.specs.Held.{AreDisjoint, IdsClash, HeldView, IsBusy, IsClaimed, IsHeld, as_running, sight_in, uses_held, without_claim}
use Rattle.dt_lock.proofs.RunningClaims.{apart_more, fewer_left, left_without, one_less_left, touch_not}

-- a region that comes behind its lock
pub held_at_first : (procs : List ProcTree) (before : RegionView) → CanRound procs before → IsSoundRegion before.state → IsHeld procs before (record { region = before; running = [] })
held_at_first procs before can sound = record { underway = at_first procs before can sound; executable = tt; rows = tt; apart = tt; room = omega arith }

-- a claim may be noted: its id may be executed and is not busy, and this is what its transaction sees now
pub record MayClaim (before : RegionView) (v : HeldView) (id : TxnId) (txn : Txn) (seen : List Seen) : Type 0 where
  pub can : CanExecute (sched_of v.region.state.logs v.region.state.here) id
  pub free : ¬ (IsBusy before.state v.running id)
  pub known : held before.state id ≡ Some txn
  pub sees : seen ≡ see txn v.region.state.here.table

-- so it is said of the region as callers see it
pub may_claim : {before : RegionView} {v now : HeldView} {id : TxnId} {txn : Txn} {seen : List Seen} → v ≡ now → CanExecute (sched_of now.region.state.logs now.region.state.here) id
    → ¬ (IsBusy before.state now.running id) → held before.state id ≡ Some txn → seen ≡ see txn now.region.state.here.table → MayClaim before v id txn seen
may_claim {before} {v} {now} {id} {txn} {seen} is can free known sees =
    subst (λ x. MayClaim before x id txn seen) (sym is) (record { can = can; free = free; known = known; sees = sees })

module _ (procs : List ProcTree) (before : RegionView) (v : HeldView) (h : IsHeld procs before v) where
  -- what is held stays, and so does the number of regions
  pub held_stays : (id : TxnId) → held v.region.state id ≡ held before.state id
  held_stays id = ap (λ s. held s id) h.underway.continues.state

  pub regions_stay : v.region.state.regions ≡ before.state.regions
  regions_stay = ap (λ s. s.regions) h.underway.continues.state

  -- a step that leaves the table and what is executable
  module _ (later : RegionView) (event : Event) (mine : region_of event ≡ v.region.state.number) (makes : MakesStep procs v.region event (Ok true) later) (sound : IsSoundRegion later.state)
      (leaves : (id : TxnId) → CanExecute (sched_of v.region.state.logs v.region.state.here) id → CanExecute (sched_of v.region.state.logs (after_making procs v.region.state event).here) id)
      (table : (after_making procs v.region.state event).here.table ≡ v.region.state.here.table) where
    same_state : later.state ≡ after_making procs v.region.state event
    same_state = ap (λ (r : RegionView). r.state) makes.1

    goes_on : IsHeld procs before (record v { region = later })
    goes_on = record {
      underway = one_more procs before v.region h.underway later (record { event = event; mine = mine; makes = makes }) sound;
      executable = all_map _ _ v.running (λ r can. subst (λ (s : RegionState). CanExecute (sched_of s.logs s.here) r.id) (sym same_state) (leaves r.id can)) h.executable;
      rows = all_map _ _ v.running (λ r e. e ∙ ap (sight_in (held before.state r.id)) (sym table ∙ sym (ap (λ (s : RegionState). s.here.table) same_state))) h.rows;
      apart = h.apart;
      room = subst (λ n. length v.running ≤ n) (sym (ap (λ (r : RegionView). r.room) makes.1)) h.room;
    }

  same_region : (later : RegionView) → later ≡ v.region → IsHeld procs before (record v { region = later })
  same_region later same = subst (λ r. IsHeld procs before (record v { region = r })) (sym same) h

  -- an attempt at an insertion
  pub inserted : (home : ℕ) (result : Result Bool NoMemory) (later : RegionView) → MakesStep [] v.region (Insert v.region.state.number home) result later → IsSoundRegion later.state
      → IsHeld procs before (record v { region = later })
  inserted home (Ok true) later makes sound =
      goes_on later (Insert v.region.state.number home) refl makes sound (λ id can. insert_leaves procs v.region.state h.underway.sound id can home makes.0) refl
  inserted home (Ok false) later makes sound = same_region later makes.1
  inserted home (Err e) later makes sound = same_region later makes

  -- an attempt at a resolution
  pub resolved : (ids : List TxnId) (result : Result Bool NoMemory) (later : RegionView) → MakesStep [] v.region (Resolve v.region.state.number ids) result later → IsSoundRegion later.state
      → IsHeld procs before (record v { region = later })
  resolved ids (Ok true) later makes sound =
      goes_on later (Resolve v.region.state.number ids) refl makes sound (λ id can. resolve_leaves procs v.region.state h.underway.sound id can ids) refl
  resolved ids (Ok false) later makes sound = same_region later makes.1
  resolved ids (Err e) later makes sound = same_region later makes

  -- some are taken off
  pub taken_off : (id : TxnId) → IsHeld procs before (record v { running = without_claim id v.running })
  taken_off id = record {
    underway = h.underway;
    executable = filter_all _ _ v.running h.executable;
    rows = filter_all _ _ v.running h.rows;
    apart = filter_each (AreDisjoint before.state) _ v.running h.apart;
    room = let few = fewer_left id v.running in let room = h.room in omega (arith, few, room);
  }

  pub none_running : IsHeld procs before (record v { running = [] })
  none_running = record { underway = h.underway; executable = tt; rows = tt; apart = tt; room = omega arith }

  -- a claim is noted
  module _ {id : TxnId} {txn : Txn} {seen : List Seen} (may : MayClaim before v id txn seen) where
    pub one_running : IsHeld procs before (record { region = record v.region { room = max v.region.room (length v.running + 1) }; running = v.running ++ record { id = id; seen = seen } ∷ [] })
    one_running = record {
      underway = whatever_room procs before v.region (max v.region.room (length v.running + 1)) h.underway;
      executable = all_more _ v.running (record { id = id; seen = seen }) h.executable may.can;
      rows = all_more _ v.running (record { id = id; seen = seen }) h.rows (may.sees ∙ ap (λ o. sight_in o v.region.state.here.table) (sym may.known));
      apart = apart_more before.state v.running (record { id = id; seen = seen }) h.apart may.free;
      room =
          let more : length (v.running ++ record { id = id; seen = seen } ∷ []) ≡ length v.running + 1 = length-append v.running (record { id = id; seen = seen } ∷ []) in
          let fits : length v.running + 1 ≤ max v.region.room (length v.running + 1) = le-max_right v.region.room (length v.running + 1) in
          omega (arith, more, fits);
    }

    pub claim_noted : (later : RegionView) (running : List Running) → later ≡ record v.region { room = max v.region.room (length v.running + 1) } → running ≡ v.running ++ record { id = id; seen = seen } ∷ []
        → IsHeld procs before (record { region = later; running = running })
    claim_noted later running is more =
        subst (λ l. IsHeld procs before (record { region = later; running = l })) (sym more)
        (subst (λ r. IsHeld procs before (record { region = r; running = v.running ++ record { id = id; seen = seen } ∷ [] })) (sym is) one_running)

    pub is_claim : IsClaim procs before.state (record { txn = txn; seen = seen })
    is_claim = record {
      known = subst (λ i. held before.state i ≡ Some txn) (sym (held_id before.state id txn may.known)) may.known;
      valid = h.underway.began.holds id txn may.known;
      sized = ap length may.sees ∙ length-map txn.access (seen_of v.region.state.here.table);
    }

    pub is_claimed : (later : RegionView) (running : List Running) → later ≡ record v.region { room = max v.region.room (length v.running + 1) } → running ≡ v.running ++ record { id = id; seen = seen } ∷ []
        → IsClaimed v (record { txn = txn; seen = seen }) (record { region = later; running = running })
    is_claimed later running is more = record {
      seen = may.sees;
      is = ap₂ (λ r l. record { region = r; running = l }) is (more ∙ ap (λ i. v.running ++ record { id = i; seen = seen } ∷ []) (sym (held_id before.state id txn may.known)));
    }

  -- a claim that is running is committed
  module _ (r : Running) (there : Has v.running r) where
    pub can_commit : CanExecute (sched_of v.region.state.logs v.region.state.here) r.id
    can_commit = all_get _ v.running h.executable r there

    found : (txn : Txn) × (held v.region.state r.id ≡ Some txn)
    found = executable_held v.region.state h.underway.sound r.id can_commit

    abbrev event : Event
    event = Execute v.region.state.number r.id

    abbrev plain : RegionView
    plain = with_event v.region (after_making procs v.region.state event) event

    plain_sound : IsSoundRegion plain.state
    plain_sound = step_sound procs v.region.state h.underway.sound h.underway.holds event can_commit

    table_is : plain.state.here.table ≡ after procs found.0 v.region.state.here.table
    table_is = ap (λ o. (executed procs v.region.state.here o).table) found.1

    -- another one that is running sees the same afterwards
    sees_on : (other : Running) → Has v.running other → other.id ≢ r.id → other.seen ≡ sight_in (held before.state other.id) v.region.state.here.table → other.seen ≡ sight_in (held before.state other.id) plain.state.here.table
    sees_on other running apart saw = saw ∙ sym (ap (sight_in (held before.state other.id)) table_is ∙ by (held before.state other.id) refl)
      where
        by : (o : Option Txn) → held before.state other.id ≡ o → sight_in o (after procs found.0 v.region.state.here.table) ≡ sight_in o v.region.state.here.table
        by None e = refl
        by (Some txn) e =
            let untouched : ¬ (IdsClash before.state r.id other.id) = touch_not before.state v.running h.apart r other there running (λ same. apart (sym same)) in
            let mine : held before.state r.id ≡ Some found.0 = sym (held_stays r.id) ∙ found.1 in
            let never : clash (map used_of found.0.access) (map used_of txn.access) ≡ false = false_from_ne_true _ (λ c. untouched (ap₂ (λ a b. clash (uses_held a) (uses_held b)) mine e ∙ c)) in
            seen_apart procs v.region.state.regions found.0 txn v.region.state.here.table (h.underway.holds r.id found.0 found.1) never

    pub committed : (later : RegionView) → later ≡ after_finishing procs v.region r.id → IsHeld procs before (record { region = later; running = without_claim r.id v.running })
    committed later is = subst (λ x. IsHeld procs before (record { region = x; running = without_claim r.id v.running })) (sym is) (record {
      underway = whatever_room procs before plain (v.region.room - 1) (one_more procs before v.region h.underway plain (record { event = event; mine = refl; makes = (can_commit, refl) }) plain_sound);
      executable = all_map _ _ (without_claim r.id v.running) (λ other k.
          execute_leaves procs v.region.state h.underway.sound other.id (all_get _ v.running h.executable other k.0) r.id can_commit (λ same. k.1 (sym same))) (left_without r.id v.running);
      rows = all_map _ _ (without_claim r.id v.running) (λ other k. sees_on other k.0 k.1 (all_get _ v.running h.rows other k.0)) (left_without r.id v.running);
      apart = filter_each (AreDisjoint before.state) _ v.running h.apart;
      room = let less = one_less_left r.id v.running r there refl in let room = h.room in omega (arith, less, room);
    })

  -- what is finished of a claim that is running is what its transaction comes to now
  module _ (f : FinishedView) (there : Has v.running (as_running f.claim)) (claim : IsClaim procs before.state f.claim) (finished : IsWorked procs f) where
    sees_now : f.claim.seen ≡ see f.claim.txn v.region.state.here.table
    sees_now = all_get _ v.running h.rows (as_running f.claim) there ∙ ap (λ o. sight_in o v.region.state.here.table) claim.known

    pub comes_now : ComesTo procs v.region.state f.claim.txn.id f.outcome f.effect
    comes_now = record {
      holds = h.underway.holds;
      values = λ txn e.
          (let same : f.claim.txn ≡ txn = same_Some f.claim.txn txn (sym claim.known ∙ sym (held_stays f.claim.txn.id) ∙ e) in
          finished ∙ ap (execution procs f.claim.txn) sees_now ∙ ap (λ x. one procs x v.region.state.here.table) same);
    }

    pub has_run : HasRun v.region.state f.claim.txn.id f.outcome f.effect
    has_run = record { procs = procs; comes = comes_now }

-- what was found running is the claim
pub found_running : (running given : List Running) (id : TxnId) (seen : List Seen) (claim : ClaimView) → given ≡ running → id ≡ claim.txn.id → seen ≡ claim.seen
    → Has given (record { id = id; seen = seen }) → Has running (as_running claim)
found_running running given id seen claim e i s there =
    subst (λ l. Has l (as_running claim)) e (subst (λ x. Has given (record { id = x; seen = claim.seen })) i (subst (λ x. Has given (record { id = id; seen = x })) s there))
