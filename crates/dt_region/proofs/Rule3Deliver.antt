-- Rule 3: what a delivery makes of a region's fields is what the rule says, and keeps the region sound. Its scheduler has
-- what it had.
use Rattle.std.proofs.Common.{◌≡◌, ◌<◌, ◌≤◌, ◌+◌, ◌-◌, ℕ, Ok, List, [], ◌∷◌, ◌++◌, map, length, set, drop, Some, refl, sym, ap, ap₂, subst, ◌∙◌, inl, inr, arith}
use Rattle.std.specs.Prelude.{slice_index}
use Rattle.std.proofs.lemmas.List.{length-set, length-map, length-drop, get_or-set_other, map-append, take-append-drop, length-append}
use Rattle.dt_lists.specs.Lists.{AllIn, Has, Distinct}
use Rattle.dt_lists.proofs.Callers.{all_map, all_append, all_append_right, all_get, all_put, all_image, all_of_image, each_append_right}
use Rattle.dt_access.specs.declared.Part.{Part}
use Rattle.dt_sched.specs.Views.{View, log_at, ids_of}
use Rattle.dt_sched.specs.Decide.{IsSound}
use Rattle.dt_sched.specs.Sched.{Sched}
use Rattle.dt_sched.proofs.Callers.{put_log}
use Rattle.dt_log.specs.declared.Taken.TheVariants.{New}
use Rattle.dt_events.specs.declared.Stamped.{Stamped}
use Rattle.dt_events.specs.declared.Event.TheVariants.{Deliver}
use Rattle.dt_txn.specs.declared.txn.Txn.{Txn}
use Rattle.dt_txn.specs.declared.txn.Entry.{Entry}
use Rattle.dt_region.specs.Region.{RegionState, RegionView, latest_stamp, held, sched_of}
use Rattle.dt_txn.specs.Replica.{view_of, done_ids}
use Rattle.dt_region.specs.Rules.{keep_all, past_end, with_entries, after_deliver, MakesDelivery}
use Rattle.dt_region.specs.Conditions.{CanDeliver, Agrees, HasHomesIn, IsPartOf}
use Rattle.dt_region.specs.Sound.{IsSoundRegion, IsHeldPart, AreCounted}
use Rattle.dt_region.specs.RegionInner.{AreWell}
use Rattle.dt_region.proofs.ViewOfRegion.{IsSeenAs, kept_under, under}
use Rattle.dt_region.proofs.HeldTransactions.{hold_all_keeps, hold_all_holds, hold_all_foreign, hold_all_homes}
use Rattle.dt_txn.proofs.Callers.{fronts_grown}

pub all_drop : {A : Type 0} (P : A → Type 0) (n : ℕ) (xs : List A) → AllIn P xs → AllIn P (drop n xs)
all_drop {A} P n xs all = all_append_right P _ (drop n xs) (subst (λ (l : List A). AllIn P l) (sym (take-append-drop n xs)) all)

same_ids : (home : ℕ) (entries : List Entry) → AllIn (λ e. IsPartOf e.txn home e.part) entries → map (λ p. p.id) (map (λ e. e.part) entries) ≡ map (λ x. x.id) (map (λ e. e.txn) entries)
same_ids home [] all = refl
same_ids home (e ∷ entries) all = λ i. (all.0.1 i).id ∷ same_ids home entries all.1 i

module _ (s : RegionState) (sound : IsSoundRegion s) (home first : ℕ) (entries : List Entry) (known : home < s.regions) (can : CanDeliver s home first entries) (reach : first ≤ length (log_at s.logs home)) where
  abbrev log : List Part
  log = log_at s.logs home

  abbrev news : List Entry
  news = past_end log first entries

  abbrev txns : List Txn
  txns = map (λ e. e.txn) news

  abbrev logs : View
  logs = set s.logs home (with_entries log first entries)

  abbrev after : RegionState
  after = after_deliver s home first entries

  new_parts : AllIn (λ e. IsPartOf e.txn home e.part) news
  new_parts = all_drop _ (length log - first) entries can.parts

  new_agree : AllIn (Agrees s) txns
  new_agree = all_image _ (λ (e : Entry). e.txn) news (all_drop _ (length log - first) entries can.agree)

  new_homes : AllIn (HasHomesIn s.regions) txns
  new_homes = all_map (Agrees s) (HasHomesIn s.regions) txns (λ txn agrees. agrees.homes) new_agree

  new_once : Distinct (map (λ x. x.id) txns)
  new_once =
      subst Distinct (same_ids home news new_parts)
      (each_append_right _ (ids_of log) (ids_of (map (λ e. e.part) news)) (subst Distinct (map-append (λ (p : Part). p.id) log (map (λ e. e.part) news)) (can.distinct reach)))

  held_still : (h : ℕ) (p : Part) → IsHeldPart s h p → IsHeldPart after h p
  held_still h p k = (k.0, hold_all_keeps s txns p.id k.0 k.1, k.2)

  new_held : AllIn (λ e. held after e.txn.id ≡ Some e.txn) news
  new_held = all_of_image (λ txn. held after txn.id ≡ Some txn) (λ (e : Entry). e.txn) news (hold_all_holds s txns new_once new_agree)

  new_are_held : AllIn (IsHeldPart after home) (map (λ e. e.part) news)
  new_are_held = all_image _ (λ (e : Entry). e.part) news (all_put _ news one)
    where
      one : (e : Entry) → Has news e → IsHeldPart after home e.part
      one e h =
          let at : IsPartOf e.txn home e.part = all_get _ news new_parts e h in
          let there : held after e.txn.id ≡ Some e.txn = all_get _ news new_held e h in
          (e.txn, ap (λ (p : Part). held after p.id) at.1 ∙ there, at)

  once : (h : ℕ) → Distinct (ids_of (log_at logs h))
  once h = elim (put_log s.logs home h (with_entries log first entries)) [
    | inl e ↦ subst (λ l. Distinct (ids_of l)) (sym e.1) (can.distinct reach)
    | inr e ↦ subst (λ l. Distinct (ids_of l)) (sym e) (sound.once h)
  ]

  parts : (h : ℕ) → AllIn (IsHeldPart after h) (log_at logs h)
  parts h = elim (put_log s.logs home h (with_entries log first entries)) [
    | inl e ↦ subst (λ l. AllIn (IsHeldPart after h) l) (sym e.1) (subst (λ g. AllIn (IsHeldPart after g) (with_entries log first entries)) (sym e.0)
        (all_append _ log (map (λ e. e.part) news) (all_map _ _ log (held_still home) (sound.parts home)) new_are_held))
    | inr e ↦ subst (λ l. AllIn (IsHeldPart after h) l) (sym e) (all_map _ _ (log_at s.logs h) (held_still h) (sound.parts h))
  ]

  no_shorter : (h : ℕ) → length (log_at s.logs h) ≤ length (log_at logs h)
  no_shorter h = elim (put_log s.logs home h (with_entries log first entries)) [
    | inl e ↦
        let a : length (log_at logs h) ≡ length log + length (map (λ (e : Entry). e.part) news) = ap length e.1 ∙ length-append log (map (λ e. e.part) news) in
        let b : length (log_at s.logs h) ≡ length log = ap (λ g. length (log_at s.logs g)) e.0 in
        omega (arith, a, b)
    | inr e ↦ let b : length (log_at logs h) ≡ length (log_at s.logs h) = ap length e in omega (arith, b)
  ]

  own_log : log_at logs s.number ≡ log_at s.logs s.number
  own_log = get_or-set_other s.logs home s.number (with_entries log first entries) [] (λ e. can.other (sym e))

  -- what is inserted stays the same
  same_fronts : view_of logs s.here ≡ view_of s.logs s.here
  same_fronts = fronts_grown s.here.inserted s.logs home (map (λ e. e.part) news) (sound.inserted_few home)

  pub deliver_sound : IsSoundRegion after
  deliver_sound = record {
    number = sound.number;
    regions = sound.regions;
    asked = sound.asked;
    taken = sound.taken;
    logs = length-set s.logs home (with_entries log first entries) ∙ sound.logs;
    inserted = sound.inserted;
    counted = sound.counted;
    foreign = hold_all_foreign s txns new_once new_agree sound.foreign;
    submitted_homes = sound.submitted_homes;
    foreign_homes = hold_all_homes s txns new_homes sound.foreign_homes;
    once = once;
    parts = parts;
    few = can.few reach;
    taken_few = λ source. subst (λ l. slice_index s.here.taken source ≤ length l) (sym own_log) (sound.taken_few source);
    inserted_few = λ h. let a = sound.inserted_few h in let b = no_shorter h in omega (arith, a, b);
    table = sound.table;
    decided = subst (λ v. IsSound v s.here.resolved (done_ids s.here)) (sym same_fronts) sound.decided;
  }

  pub deliver_well : (seen : Sched) → seen ≡ sched_of s.logs s.here → AreWell after seen
  deliver_well seen e = (deliver_sound, e ∙ ap (λ v. record (sched_of s.logs s.here) { logs = v }) (sym same_fronts))

-- The region has the state s and these events, and contracts see it as r: what the call makes of its fields is what the
-- rule says.
module _ (r : RegionView) (s : RegionState) (events : List Stamped) (heard room : ℕ) (seen : Sched) (stands : IsSeenAs s events heard room seen r)
    (home first : ℕ) (entries : List Entry) (known : home < r.state.regions) (can : CanDeliver r.state home first entries) where
  abbrev log_here : List Part
  log_here = log_at s.logs home

  can_here : CanDeliver s home first entries
  can_here = subst (λ x. CanDeliver x.state home first entries) (sym stands.view) can

  known_here : home < s.regions
  known_here = subst (λ x. home < x.state.regions) (sym stands.view) known

  abbrev made : List Txn → View → RegionState
  made foreign logs = record s { foreign = foreign; logs = logs }

  -- The parts and the transactions of the entries past the log's end, where there is no gap before the entries and some are new.
  module _ (parts : List Part) (txns : List Txn) (end : ℕ) (ends : end ≡ length (log_at r.state.logs home)) (reach : first ≤ end) (past : end < first + length entries)
      (p : parts ≡ map (λ e. e.part) (drop (end - first) entries)) (t : txns ≡ map (λ e. e.txn) (drop (end - first) entries)) where
    ends_here : end ≡ length log_here
    ends_here = ends ∙ ap (λ (x : RegionView). length (log_at x.state.logs home)) (sym stands.view)

    reach_here : first ≤ length log_here
    reach_here = subst (λ m. first ≤ m) ends_here reach

    news_here : drop (end - first) entries ≡ past_end log_here first entries
    news_here = ap (λ m. drop (m - first) entries) ends_here

    -- what the region itself submitted of them it has
    own : AllIn (λ txn. txn.id.region ≡ s.number → Has s.submitted txn) txns
    own =
        let agree = all_drop _ (end - first) entries can_here.agree in
        subst (AllIn (λ txn. txn.id.region ≡ s.number → Has s.submitted txn)) (sym t)
        (all_image _ (λ (e : Entry). e.txn) (drop (end - first) entries) (all_map _ _ (drop (end - first) entries) (λ e agrees. agrees.own) agree))

    module _ (foreign : List Txn) (logs : View) (grown : logs ≡ set s.logs home (log_here ++ parts))
        (keeps : (submitted : List Txn) → AreCounted s.number 1 submitted → AllIn (λ txn. txn.id.region ≡ s.number → Has submitted txn) txns → foreign ≡ keep_all submitted s.foreign txns) where
      -- the region afterwards, with these events
      abbrev region_made : List Stamped → RegionView
      region_made after = record { state = made foreign logs; events = after; heard = heard; room = room }

      deliver_is : made foreign logs ≡ after_deliver s home first entries
      deliver_is = ap₂ made (keeps s.submitted stands.well.0.counted own ∙ ap (keep_all s.submitted s.foreign) (t ∙ ap (λ (l : List Entry). map (λ e. e.txn) l) news_here))
          (grown ∙ ap (λ x. set s.logs home (log_here ++ x)) (p ∙ ap (λ (l : List Entry). map (λ e. e.part) l) news_here))

      pub deliver_keeps : AreWell (made foreign logs) seen
      deliver_keeps = subst (λ x. AreWell x seen) (sym deliver_is) (deliver_well s stands.well.0 home first entries known_here can_here reach_here seen stands.well.1)

      pub deliver_made : (new : ℕ) → new ≡ length txns → (begin : ℕ) (stamp : ℕ) (is_next : stamp ≡ latest_stamp r + 1) (after : List Stamped)
          → after ≡ events ++ under stamp (Deliver s.number home begin (end + new)) ∷ []
          → MakesDelivery r home begin first entries (Ok (New new)) (region_made after)
      deliver_made new n begin stamp is_next after kept =
          let count : new ≡ length entries - (end - first) = n ∙ ap length t ∙ length-map (drop (end - first) entries) (λ (e : Entry). e.txn) ∙ length-drop (end - first) entries in
          let last : end + new ≡ first + length entries = omega (arith, count, reach, past) in
          let renamed : after ≡ events ++ under stamp (Deliver s.number home begin (first + length entries)) ∷ [] = kept ∙ ap (λ m. events ++ under stamp (Deliver s.number home begin m) ∷ []) last in
          let event = kept_under stands (Deliver s.number home begin (first + length entries)) stamp after is_next renamed in
          subst (λ x. MakesDelivery x home begin first entries (Ok (New new)) (region_made after)) stands.view
          (reach_here, subst (λ m. m < first + length entries) ends_here past, subst (λ m. m + new ≡ first + length entries) ends_here last, λ j. record { state = deliver_is j; events = event j; heard = heard; room = room })
