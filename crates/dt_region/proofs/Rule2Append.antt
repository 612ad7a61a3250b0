-- Rule 2: what an append makes of a region's fields is what the rule says, and keeps the region sound. Its scheduler has
-- what it had.
use Rattle.std.proofs.Common.{◌≡◌, ◌<◌, ◌≤◌, ◌+◌, ◌^◌, ℕ, Ok, true, List, [], ◌∷◌, ◌++◌, length, length-append, set, refl, sym, ap, subst, ◌∙◌, inl, inr, arith}
use Rattle.std.specs.Prelude.{slice_index}
use Rattle.std.proofs.lemmas.List.{length-set, get_or-set_same, get_or-set_other}
use Rattle.dt_lists.specs.Lists.{AllIn, Distinct, Either, Has}
use Rattle.dt_lists.proofs.Callers.{any_of_image, all_map}
use Rattle.dt_lists.proofs.Callers.{all_more}
use Rattle.dt_lists.proofs.Callers.{distinct_push}
use Rattle.dt_lists.proofs.Callers.{either_nat}
use Rattle.dt_access.specs.declared.Part.{Part}
use Rattle.dt_sched.specs.Views.{View, log_at, ids_of, HasPart}
use Rattle.dt_sched.specs.Decide.{IsSound}
use Rattle.dt_sched.specs.Sched.{Sched, with_part}
use Rattle.dt_sched.proofs.Callers.{log_with_part}
use Rattle.dt_events.specs.declared.Stamped.{Stamped}
use Rattle.dt_events.specs.declared.Event.TheVariants.{Append}
use Rattle.dt_txn.specs.declared.txn.Txn.{Txn}
use Rattle.dt_txn.specs.Transaction.{part_of}
use Rattle.dt_region.specs.Region.{RegionState, RegionView, latest_stamp, sched_of}
use Rattle.dt_txn.specs.Replica.{view_of, done_ids, taken_from}
use Rattle.dt_region.specs.Rules.{keep, after_append, MakesAppend}
use Rattle.dt_region.specs.Conditions.{CanAppend}
use Rattle.dt_region.specs.Sound.{AreCounted, IsSoundRegion, IsHeldPart}
use Rattle.dt_region.specs.RegionInner.{AreWell}
use Rattle.dt_region.proofs.ViewOfRegion.{IsSeenAs, kept_under, under}
use Rattle.dt_region.proofs.HeldTransactions.{hold_keeps, hold_holds, hold_foreign, hold_homes}
use Rattle.dt_txn.proofs.Callers.{fronts_grown}
use Rattle.dt_region.proofs.Logs.{log_few, parts_one_more}

ids_more : (log : List Part) (part : Part) → ids_of (log ++ part ∷ []) ≡ ids_of log ++ part.id ∷ []
ids_more [] part = refl
ids_more (p ∷ log) part = ap (λ l. p.id ∷ l) (ids_more log part)

pub once_more : (log : List Part) (part : Part) → Distinct (ids_of log) → ¬ (HasPart log part.id) → Distinct (ids_of (log ++ part ∷ []))
once_more log part once fresh = subst Distinct (sym (ids_more log part)) (distinct_push (ids_of log) part.id once (λ h. fresh (any_of_image (λ i. i ≡ part.id) (λ (p : Part). p.id) log h)))

module _ (s : RegionState) (sound : IsSoundRegion s) (source number : ℕ) (txn : Txn) (known : source < s.regions) (can : CanAppend s source number txn) (turn : number ≡ taken_from s.here source) where
  abbrev part : Part
  part = part_of txn s.number

  abbrev logs : View
  logs = with_part s.logs part

  held_still : (home : ℕ) (p : Part) → IsHeldPart s home p → IsHeldPart (after_append s source txn) home p
  held_still home p h = (h.0, hold_keeps s txn p.id h.0 h.1, h.2)

  once : (home : ℕ) → Distinct (ids_of (log_at logs home))
  once home = elim (log_with_part s.logs part home) [
    | inl e ↦ subst (λ l. Distinct (ids_of l)) (sym e.1) (once_more (log_at s.logs home) part (sound.once home) (subst (λ h. ¬ (HasPart (log_at s.logs h) txn.id)) (sym e.0) (can.fresh turn)))
    | inr e ↦ subst (λ l. Distinct (ids_of l)) (sym e) (sound.once home)
  ]

  new_part : (home : ℕ) → home ≡ s.number → IsHeldPart (after_append s source txn) home part
  new_part home e = subst (λ h. IsHeldPart (after_append s source txn) h part) (sym e) (txn, hold_holds s txn can.agrees, (can.home, refl))

  parts : (home : ℕ) → AllIn (IsHeldPart (after_append s source txn) home) (log_at logs home)
  parts home =
      let old : AllIn (IsHeldPart (after_append s source txn) home) (log_at s.logs home) = all_map _ _ (log_at s.logs home) (held_still home) (sound.parts home) in
      elim (log_with_part s.logs part home) [
        | inl e ↦ subst (AllIn (IsHeldPart (after_append s source txn) home)) (sym e.1) (all_more _ (log_at s.logs home) part old (new_part home e.0))
        | inr e ↦ subst (AllIn (IsHeldPart (after_append s source txn) home)) (sym e) old
      ]

  -- the own log is longer by one, and no log is shorter
  own_log : length (log_at logs s.number) ≡ length (log_at s.logs s.number) + 1
  own_log =
      ap length (get_or-set_same s.logs s.number (log_at s.logs s.number ++ part ∷ []) [] (let a = sound.number in let b = sound.logs in omega (arith, a, b)))
      ∙ length-append (log_at s.logs s.number) (part ∷ [])

  no_shorter : (home : ℕ) → length (log_at s.logs home) ≤ length (log_at logs home)
  no_shorter home = elim (log_with_part s.logs part home) [
    | inl e ↦ let a = length-append (log_at s.logs home) (part ∷ []) in let b : length (log_at logs home) ≡ length (log_at s.logs home ++ part ∷ []) = ap length e.1 in omega (arith, a, b)
    | inr e ↦ let b : length (log_at logs home) ≡ length (log_at s.logs home) = ap length e in omega (arith, b)
  ]

  abbrev taken_now : List ℕ
  taken_now = set s.here.taken source (taken_from s.here source + 1)

  taken_few : (other : ℕ) → slice_index taken_now other ≤ length (log_at logs s.number)
  taken_few other = by (either_nat other source)
    where
      by : Either (other ≡ source) → slice_index taken_now other ≤ length (log_at logs s.number)
      by (inl e) =
          let a : slice_index taken_now other ≡ taken_from s.here source + 1 =
          subst (λ o. slice_index taken_now o ≡ taken_from s.here source + 1) (sym e) (get_or-set_same s.here.taken source (taken_from s.here source + 1) 0 (subst (λ n. source < n) (sym sound.taken) known)) in
          let b = sound.taken_few source in
          let c = own_log in
          omega (arith, a, b, c)
      by (inr n) =
          let a : slice_index taken_now other ≡ slice_index s.here.taken other = get_or-set_other s.here.taken source other (taken_from s.here source + 1) 0 n in
          let b = sound.taken_few other in
          let c = own_log in
          omega (arith, a, b, c)

  -- what is inserted stays the same
  same_fronts : view_of logs s.here ≡ view_of s.logs s.here
  same_fronts = fronts_grown s.here.inserted s.logs s.number (part ∷ []) (sound.inserted_few s.number)

  pub append_sound : IsSoundRegion (after_append s source txn)
  append_sound = record {
    number = sound.number;
    regions = sound.regions;
    asked = sound.asked;
    taken = length-set s.here.taken source (taken_from s.here source + 1) ∙ sound.taken;
    logs = length-set s.logs s.number (log_at s.logs s.number ++ part ∷ []) ∙ sound.logs;
    inserted = sound.inserted;
    counted = sound.counted;
    foreign = hold_foreign s txn sound.foreign can.agrees;
    submitted_homes = sound.submitted_homes;
    foreign_homes = hold_homes s txn sound.foreign_homes can.agrees.homes;
    once = once;
    parts = parts;
    few = can.few turn;
    taken_few = taken_few;
    inserted_few = λ home. let a = sound.inserted_few home in let b = no_shorter home in omega (arith, a, b);
    table = sound.table;
    decided = subst (λ v. IsSound v s.here.resolved (done_ids s.here)) (sym same_fronts) sound.decided;
  }

  pub append_well : (seen : Sched) → seen ≡ sched_of s.logs s.here → AreWell (after_append s source txn) seen
  append_well seen e = (append_sound, e ∙ ap (λ v. record (sched_of s.logs s.here) { logs = v }) (sym same_fronts))

-- The region has the state s and these events, and contracts see it as r: what the call makes of its fields is what the
-- rule says.
module _ (r : RegionView) (s : RegionState) (events : List Stamped) (heard room : ℕ) (seen : Sched) (stands : IsSeenAs s events heard room seen r)
    (source number : ℕ) (txn : Txn) (known : source < r.state.regions) (can : CanAppend r.state source number txn) (turn : number ≡ taken_from r.state.here source) where
  can_here : CanAppend s source number txn
  can_here = subst (λ x. CanAppend x.state source number txn) (sym stands.view) can

  turn_here : number ≡ taken_from s.here source
  turn_here = subst (λ x. number ≡ taken_from x.state.here source) (sym stands.view) turn

  -- there is a place for the part in its log, and for one more in the count
  pub append_room : (length (log_at s.logs s.number) + 1 < 2 ^ 32) × (number + 1 < 2 ^ 32)
  append_room =
      let a = log_few s.logs s.number in
      let b = parts_one_more s.logs (part_of txn s.number) (subst (λ n. s.number < n) (sym stands.well.0.logs) stands.well.0.number) in
      let c = can_here.few turn_here in
      let d = stands.well.0.taken_few source in
      let room : length (log_at s.logs s.number) + 1 < 2 ^ 32 = omega (arith, a, b, c) in
      let e = turn_here in
      (room, omega (arith, e, d, room))

  -- what is kept of others is what the rule keeps, since what is of the region itself it submitted
  pub append_kept : {before after : List Txn} → before ≡ s.foreign
      → ((submitted : List Txn) → AreCounted s.number 1 submitted → (txn.id.region ≡ s.number → Has submitted txn) → after ≡ keep submitted before txn) → after ≡ keep s.submitted s.foreign txn
  append_kept same kept = kept s.submitted stands.well.0.counted can_here.agrees.own ∙ ap (λ f. keep s.submitted f txn) same

  abbrev made : List Txn → View → RegionState
  made foreign logs = record s { foreign = foreign; logs = logs; here = record s.here { taken = set s.here.taken source (number + 1) } }

  module _ (foreign : List Txn) (logs : View) (f : foreign ≡ keep s.submitted s.foreign txn) (l : logs ≡ with_part s.logs (part_of txn s.number)) where
    -- the region afterwards, with these events
    abbrev region_made : List Stamped → RegionView
    region_made after = record { state = made foreign logs; events = after; heard = heard; room = room }

    append_is : made foreign logs ≡ after_append s source txn
    append_is = λ j. record s { foreign = f j; logs = l j; here = record s.here { taken = set s.here.taken source (turn_here j + 1) } }

    pub append_keeps : AreWell (made foreign logs) seen
    append_keeps = subst (λ x. AreWell x seen) (sym append_is) (append_well s stands.well.0 source number txn (subst (λ x. source < x.state.regions) (sym stands.view) known) can_here turn_here seen stands.well.1)

    pub append_made : (stamp : ℕ) (is_next : stamp ≡ latest_stamp r + 1) (after : List Stamped)
        → after ≡ events ++ under stamp (Append s.number source number) ∷ []
        → MakesAppend r source number txn (Ok true) (region_made after)
    append_made stamp is_next after kept =
        subst (λ x. MakesAppend x source number txn (Ok true) (region_made after)) stands.view
        (turn_here, λ j. record { state = append_is j; events = kept_under stands (Append s.number source number) stamp after is_next kept j; heard = heard; room = room })
