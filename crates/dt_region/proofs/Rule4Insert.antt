-- Rule 4: what an insertion makes of a region's fields is what the rule says, and keeps the region sound. Its scheduler
-- goes along.
use Rattle.std.proofs.Common.{◌≡◌, ◌<◌, ◌≤◌, ◌+◌, ◌^◌, ℕ, Ok, true, List, [], ◌∷◌, ◌++◌, length, set, slice_get, Some, sym, ap, ap₂, subst, ◌∙◌, inl, inr, arith}
use Rattle.std.specs.Prelude.{slice_index}
use Rattle.std.proofs.lemmas.List.{length-set, get_or-set_same, get_or-set_other}
use Rattle.std.proofs.lemmas.Option.{slice_get_within, same_Some}
use Rattle.dt_lists.specs.Lists.{AllIn, Has, Either}
use Rattle.dt_lists.proofs.Callers.{all_get, all_of_places, all_put}
use Rattle.dt_lists.proofs.Callers.{has_place}
use Rattle.dt_lists.proofs.Callers.{either_nat}
use Rattle.dt_access.specs.declared.Part.{Part}
use Rattle.dt_events.specs.declared.Stamped.{Stamped}
use Rattle.dt_events.specs.declared.Event.TheVariants.{Insert}
use Rattle.dt_sched.specs.Views.{View, log_at, HasPart}
use Rattle.dt_sched.specs.Decide.{IsSound}
use Rattle.dt_sched.specs.Sched.{Sched, CanInsert, parts_in, with_part, after_insert}
use Rattle.dt_sched.proofs.Callers.{sound_insert}
use Rattle.dt_txn.specs.declared.txn.Txn.{Txn}
use Rattle.dt_txn.specs.Transaction.{homes_of}
use Rattle.dt_txn.specs.Replica.{fronts, view_of, done_ids}
use Rattle.dt_region.specs.Region.{RegionState, RegionView, latest_stamp, held, sched_of}
use Rattle.dt_region.specs.Rules.{after_making, MakesStep}
use Rattle.dt_region.specs.Sound.{IsSoundRegion, IsHeldPart}
use Rattle.dt_region.specs.RegionInner.{AreWell}
use Rattle.dt_region.proofs.StaysSound.{stays_sound}
use Rattle.dt_region.proofs.ViewOfRegion.{IsSeenAs, kept_under, under}
use Rattle.dt_region.proofs.HeldTransactions.{held_homes, view_parts}
use Rattle.dt_txn.proofs.Callers.{fronts_at}
use Rattle.dt_region.proofs.Logs.{fronts_length, fronts_insert, fronts_few, parts_one_more, next_fresh, log_few}

module _ (s : RegionState) (sound : IsSoundRegion s) (home : ℕ) (part : Part) (known : home < s.regions) (next : slice_get (log_at s.logs home) (slice_index s.here.inserted home) ≡ Some part) where
  abbrev sight : View
  sight = view_of s.logs s.here

  held_part : IsHeldPart s home part
  held_part = all_get (IsHeldPart s home) (log_at s.logs home) (sound.parts home) part (has_place (log_at s.logs home) (slice_index s.here.inserted home) part next)

  part_home : part.home ≡ home
  part_home = ap (λ (p : Part). p.home) held_part.2.1

  part_homes : part.homes ≡ homes_of held_part.0
  part_homes = ap (λ (p : Part). p.homes) held_part.2.1

  length_view : length sight ≡ s.regions
  length_view = fronts_length s.here.inserted s.logs ∙ sound.logs

  abbrev lengths : List ℕ
  lengths = set s.here.inserted home (slice_index s.here.inserted home + 1)

  pub view_now : fronts lengths s.logs ≡ with_part sight part
  view_now = fronts_insert s.here.inserted s.logs home part (subst (λ n. home < n) (sym sound.inserted) known) next part_home

  room : parts_in sight < 4294967295
  room =
      let a : parts_in (with_part sight part) ≡ parts_in sight + 1 = parts_one_more sight part (subst (λ h. h < length sight) (sym part_home) (subst (λ n. home < n) (sym length_view) known)) in
      let b : parts_in (fronts lengths s.logs) ≤ parts_in s.logs = fronts_few lengths s.logs in
      let c : parts_in (fronts lengths s.logs) ≡ parts_in (with_part sight part) = ap parts_in view_now in
      let d = sound.few in
      omega (arith, a, b, c, d)

  -- two parts of one id are of one transaction, so they name the same homes
  alike_at : (other : ℕ) (p : Part) → IsHeldPart s other p → p.id ≡ part.id → p.homes ≡ part.homes
  alike_at other p h e =
      let same : h.0 ≡ held_part.0 = same_Some h.0 held_part.0 (sym h.1 ∙ ap (held s) e ∙ held_part.1) in
      ap (λ (q : Part). q.homes) h.2.1 ∙ ap homes_of same ∙ sym part_homes

  -- and have one rank
  ranked_at : (other : ℕ) (p : Part) → IsHeldPart s other p → p.id ≡ part.id → p.rank ≡ part.rank
  ranked_at other p h e =
      let same : h.0 ≡ held_part.0 = same_Some h.0 held_part.0 (sym h.1 ∙ ap (held s) e ∙ held_part.1) in
      ap (λ (q : Part). q.rank) h.2.1 ∙ ap (λ (txn : Txn). txn.rank) same ∙ sym (ap (λ (q : Part). q.rank) held_part.2.1)

  pub can_insert : CanInsert sight part
  can_insert = record {
    homed = subst (λ hs. Has hs part.home) (sym part_homes) (subst (λ h. Has (homes_of held_part.0) h) (sym part_home) held_part.2.0);
    within = subst (λ hs. AllIn (λ h. h < length sight) hs) (sym part_homes) (subst (λ n. AllIn (λ h. h < n) (homes_of held_part.0)) (sym length_view) (held_homes s sound part.id held_part.0 held_part.1));
    fresh = subst (λ h. ¬ (HasPart (log_at sight h) part.id)) (sym part_home)
        (subst (λ l. ¬ (HasPart l part.id)) (sym (fronts_at s.here.inserted s.logs home)) (next_fresh (log_at s.logs home) (slice_index s.here.inserted home) part next (sound.once home)));
    few = room;
    alike = all_of_places (AllIn (λ p. p.id ≡ part.id → p.homes ≡ part.homes)) [] sight (λ other there. all_put _ (log_at sight other) (λ p h. alike_at other p (view_parts s sound other p h)));
    ranked = all_of_places (AllIn (λ p. p.id ≡ part.id → p.rank ≡ part.rank)) [] sight (λ other there. all_put _ (log_at sight other) (λ p h. ranked_at other p (view_parts s sound other p h)));
  }

  inserted_few : (other : ℕ) → slice_index lengths other ≤ length (log_at s.logs other)
  inserted_few other = by (either_nat other home)
    where
      by : Either (other ≡ home) → slice_index lengths other ≤ length (log_at s.logs other)
      by (inl e) =
          let a : slice_index lengths home ≡ slice_index s.here.inserted home + 1 = get_or-set_same s.here.inserted home (slice_index s.here.inserted home + 1) 0 (subst (λ n. home < n) (sym sound.inserted) known) in
          let b : slice_index s.here.inserted home < length (log_at s.logs home) = slice_get_within (log_at s.logs home) (slice_index s.here.inserted home) part next in
          subst (λ o. slice_index lengths o ≤ length (log_at s.logs o)) (sym e) (omega (arith, a, b))
      by (inr n) = subst (λ k. k ≤ length (log_at s.logs other)) (sym (get_or-set_other s.here.inserted home other (slice_index s.here.inserted home + 1) 0 n)) (sound.inserted_few other)

  abbrev after : RegionState
  after = record s { here = record s.here { inserted = lengths } }

  pub insert_sound : IsSoundRegion after
  insert_sound =
      stays_sound s sound lengths s.here.resolved s.here.done s.here.table (length-set s.here.inserted home (slice_index s.here.inserted home + 1) ∙ sound.inserted) inserted_few sound.table
      (subst (λ v. IsSound v s.here.resolved (done_ids s.here)) (sym view_now) (sound_insert sight s.here.resolved (done_ids s.here) part can_insert sound.decided))

  pub insert_well : (seen : Sched) → seen ≡ after_insert (sched_of s.logs s.here) part → AreWell after seen
  insert_well seen e = (insert_sound, e ∙ ap (λ v. record (sched_of s.logs s.here) { logs = v }) (sym view_now))

-- The region has the state s and these events, and contracts see it as r: what the call makes of its fields is what the
-- rule says.
module _ (r : RegionView) (s : RegionState) (events : List Stamped) (heard room : ℕ) (seen : Sched) (stands : IsSeenAs s events heard room seen r)
    (home : ℕ) (known : home < r.state.regions) (part : Part) (next : slice_get (log_at r.state.logs home) (slice_index r.state.here.inserted home) ≡ Some part) where
  known_here : home < s.regions
  known_here = subst (λ x. home < x.state.regions) (sym stands.view) known

  next_here : slice_get (log_at s.logs home) (slice_index s.here.inserted home) ≡ Some part
  next_here = subst (λ x. slice_get (log_at x.state.logs home) (slice_index x.state.here.inserted home) ≡ Some part) (sym stands.view) next

  -- the scheduler may take a copy of the part
  pub insert_can : (copy : Part) → copy ≡ part → CanInsert seen.logs copy
  insert_can copy same =
      subst (λ v. CanInsert v copy) (sym (ap (λ (x : Sched). x.logs) stands.well.1)) (subst (CanInsert (view_of s.logs s.here)) (sym same) (can_insert s stands.well.0 home part known_here next_here))

  -- there is a place for one more in the count
  pub insert_room : slice_index s.here.inserted home + 1 < 2 ^ 32
  insert_room =
      let a = log_few s.logs home in
      let b = slice_get_within (log_at s.logs home) (slice_index s.here.inserted home) part next_here in
      let c = stands.well.0.few in
      omega (arith, a, b, c)

  abbrev made : ℕ → Sched → RegionState
  made place now = record s { here = record s.here { inserted = set s.here.inserted home (place + 1); resolved = now.resolved } }

  module _ (copy : Part) (place : ℕ) (now : Sched) (same : copy ≡ part) (at : place ≡ slice_index s.here.inserted home) (is : now ≡ after_insert seen copy) where
    -- the region afterwards, with these events
    abbrev region_made : List Stamped → RegionView
    region_made after = record { state = made place now; events = after; heard = heard; room = room }

    now_is : now ≡ after_insert (sched_of s.logs s.here) part
    now_is = is ∙ ap₂ after_insert stands.well.1 same

    insert_is : made place now ≡ after_making [] s (Insert s.number home)
    insert_is = λ j. made (at j) (now_is j)

    pub insert_keeps : AreWell (made place now) now
    insert_keeps = subst (λ x. AreWell x now) (sym insert_is) (insert_well s stands.well.0 home part known_here next_here now now_is)

    pub insert_made : (stamp : ℕ) (is_next : stamp ≡ latest_stamp r + 1) (after : List Stamped)
        → after ≡ events ++ under stamp (Insert s.number home) ∷ []
        → MakesStep [] r (Insert r.state.number home) (Ok true) (region_made after)
    insert_made stamp is_next after kept =
        let may : slice_index s.here.inserted home < length (log_at s.logs home) = slice_get_within (log_at s.logs home) (slice_index s.here.inserted home) part next_here in
        subst (λ x. MakesStep [] x (Insert x.state.number home) (Ok true) (region_made after)) stands.view
        (may, λ j. record { state = insert_is j; events = kept_under stands (Insert s.number home) stamp after is_next kept j; heard = heard; room = room })
