-- A round on its way: what holds after each of its steps, and what follows for the next one.
use Rattle.std.proofs.Common.{◌≡◌, ◌<◌, ◌≤◌, ◌+◌, ◌*◌, ◌^◌, ℕ, List, [], ◌∷◌, ◌++◌, length, sym, ap, subst, ◌∙◌, arith}
use Rattle.std.proofs.lemmas.List.{length-append, length-map}
use Rattle.dt_access.specs.declared.TxnId.{TxnId}
use Rattle.dt_sched.specs.Sched.{CanExecute, parts_in}
use Rattle.dt_sched.proofs.Callers.{sound_execute}
use Rattle.dt_proc.specs.Tree.{ProcTree}
use Rattle.dt_table.specs.Table.{counter_of}
use Rattle.dt_txn.specs.declared.txn.Body.{Body}
use Rattle.dt_txn.specs.declared.txn.Body.TheVariants.{Call, Move}
use Rattle.dt_txn.specs.Transaction.{IsValid}
use Rattle.dt_txn.specs.Replica.{done_ids, view_of}
use Rattle.dt_region.specs.Region.{HasStamp, RegionView, held, latest_stamp, sched_of}
use Rattle.dt_region.specs.Rules.{after_making}
use Rattle.dt_region.specs.Conditions.{CanMove, HasPlaceToMove, HoldsValid}
use Rattle.dt_region.specs.Sound.{IsSoundRegion}
use Rattle.dt_region.proofs.Logs.{fronts_few}
use Rattle.dt_region.proofs.Stamps.{latest_more}
use Rattle.dt_region.specs.Rounds.{CanRound}
use Rattle.dt_region.specs.StepsInner.{IsOwnStep, steps_left, steps_of}
use Rattle.dt_region.specs.Underway.{IsUnderway}
use Rattle.dt_region.proofs.StepCounts.{few_done, few_steps}
use Rattle.dt_region.proofs.Effects.{IsOneStepOn, step_counted}
use Rattle.dt_region.proofs.OneStepMore.{continues_more, continues_none}

pub at_first : (procs : List ProcTree) (r : RegionView) → CanRound procs r → IsSoundRegion r.state → IsUnderway procs r r
at_first procs r can sound = record {
  began = can;
  continues = continues_none procs r;
  sound = sound;
  holds = can.holds;
  many = omega arith;
  counted = omega arith;
  moves = λ key. omega arith;
}

-- a round looks at no room
pub whatever_room : (procs : List ProcTree) (entry now : RegionView) (room : ℕ) → IsUnderway procs entry now → IsUnderway procs entry (record now { room = room })
whatever_room procs entry now room u = record {
  began = u.began;
  continues = record { events = u.continues.events; legal = u.continues.legal; state = u.continues.state; kept = u.continues.kept; heard = u.continues.heard };
  sound = u.sound;
  holds = u.holds;
  many = u.many;
  counted = u.counted;
  moves = u.moves;
}

module _ (procs : List ProcTree) (entry now : RegionView) (u : IsUnderway procs entry now) where
  logs_stay : now.state.logs ≡ entry.state.logs
  logs_stay = ap (λ s. s.logs) u.continues.state

  few : steps_of now.state.here ≤ 3 * parts_in now.state.logs
  few = few_steps now.state u.sound

  pub stamp_left : HasStamp now
  stamp_left =
      let a = few in
      let b = u.many in
      let c = u.counted in
      let d = u.sound.few in
      let e = u.began.stamps in
      omega (arith, a, b, c, d, e)

  -- what may be executed isn't done yet, so less is done than there are parts
  room : (id : TxnId) → CanExecute (sched_of now.state.logs now.state.here) id → length now.state.here.done + 1 ≤ parts_in now.state.logs
  room id can =
      let view = view_of now.state.logs now.state.here in
      let ids = done_ids now.state.here in
      let a : length (ids ++ id ∷ []) ≤ parts_in view = few_done view now.state.here.resolved (ids ++ id ∷ []) (sound_execute view now.state.here.resolved ids id can u.sound.decided) in
      let b : length (ids ++ id ∷ []) ≡ length ids + 1 = length-append ids (id ∷ []) in
      let c : length ids ≡ length now.state.here.done = length-map now.state.here.done (λ x. x.0) in
      let d : parts_in view ≤ parts_in now.state.logs = fronts_few now.state.here.inserted now.state.logs in
      omega (arith, a, b, c, d)

  pub moves_left : (id : TxnId) → CanExecute (sched_of now.state.logs now.state.here) id → CanMove now.state id
  moves_left id can txn e = by txn.body
    where
      by : (body : Body) → HasPlaceToMove now.state.here.table body
      by (Call proc args) = tt
      by (Move key target) =
          let a : length now.state.here.done + 1 ≤ parts_in now.state.logs = room id can in
          let b : counter_of now.state.here.table key + length entry.state.here.done ≤ counter_of entry.state.here.table key + length now.state.here.done = u.moves key in
          let c : counter_of entry.state.here.table key + parts_in entry.state.logs < 2 ^ 32 = u.began.moves key in
          let d : parts_in now.state.logs ≡ parts_in entry.state.logs = ap parts_in logs_stay in
          omega (arith, a, b, c, d)

  -- one step more
  module _ (next : RegionView) (step : IsOwnStep procs now next) (sound : IsSoundRegion next.state) where
    counts : IsOneStepOn now.state.here next.state.here
    counts = subst (λ (r : RegionView). IsOneStepOn now.state.here r.state.here) (sym step.makes.1) (step_counted procs now.state u.sound step.event step.makes.0)

    latest : latest_stamp next ≡ latest_stamp now + 1
    latest = ap latest_stamp step.makes.1 ∙ latest_more now (after_making procs now.state step.event) step.event

    holds : HoldsValid procs next.state
    holds id txn e =
        let same : held next.state id ≡ held now.state id = ap (λ (r : RegionView). held r.state id) step.makes.1 in
        let many : next.state.regions ≡ now.state.regions = ap (λ (r : RegionView). r.state.regions) step.makes.1 in
        let valid : IsValid procs now.state.here.table.version now.state.regions txn = u.holds id txn (sym same ∙ e) in
        subst (λ n. IsValid procs next.state.here.table.version n txn) (sym many) (subst (λ v. IsValid procs v now.state.regions txn) (sym counts.version) valid)

    pub one_more : IsUnderway procs entry next
    one_more =
        let longer : length (u.continues.events ++ step.event ∷ []) ≡ length u.continues.events + 1 = length-append u.continues.events (step.event ∷ []) in
        let a = u.many in
        let b = u.counted in
        let c = latest in
        let d = counts.more in
        record {
          began = u.began;
          continues = continues_more procs entry now next u.continues u.many step.event step.mine step.makes;
          sound = sound;
          holds = holds;
          many = omega (arith, longer, a, c);
          counted = omega (arith, longer, b, d);
          moves = λ key. (let e = u.moves key in let f = counts.moves key in omega (arith, e, f));
        }

    -- and one less is left
    pub one_less : steps_left next.state < steps_left now.state
    one_less =
        let a = counts.more in
        let b : steps_of next.state.here ≤ 3 * parts_in next.state.logs = few_steps next.state sound in
        let c : parts_in next.state.logs ≡ parts_in now.state.logs = ap (λ (r : RegionView). parts_in r.state.logs) step.makes.1 in
        omega (arith, a, b, c)
