-- Stamps of a turn's events: each is above all that the node's region knew of, so they rise, and go no further than one for
-- each event.
use Rattle.std.proofs.Common.{◌≡◌, ◌<◌, ◌≤◌, ◌+◌, ℕ, List, [], ◌∷◌, ◌++◌, length, map, max, sym, ap, subst, ◌∙◌, append-nil, append_assoc, arith}
use Rattle.std.proofs.lemmas.List.{length-append, map-append}
use Rattle.dt_lists.specs.Lists.{AllIn, EachThen}
use Rattle.dt_lists.proofs.Callers.{all_append, all_map, each_append}
use Rattle.dt_events.specs.declared.Event.{Event}
use Rattle.dt_events.specs.declared.Stamped.{Stamped}
use Rattle.dt_events.specs.Stamps.{last_stamp, stamped_from}
use Rattle.dt_events.proofs.Callers.{last_of_more}
use Rattle.dt_region.specs.Region.{latest_stamp}
use Rattle.dt_packet.specs.declared.packet.Packet.{Packet}
use Rattle.dt_merge.specs.Merge.{HasLowerStamp}
use Rattle.dt_node.specs.NodeView.{NodeView, new_items}
use Rattle.dt_node.specs.Turn.{StampsRise, greatest}
use Rattle.dt_node.proofs.Greatest.{above_greatest, greatest_append, greatest_more, greatest_twice}

-- the stamps of packets, and the greatest stamp that a node knows or they bring

abbrev stamps : List Packet → List ℕ
stamps packets = map (λ p. p.stamp) packets

abbrev highest : NodeView → List Packet → ℕ
highest n packets = greatest (latest_stamp n.site.region) (stamps packets)

-- stamps rise along one way and then along another

module _ {xs ys : List Packet} {a b c : NodeView} (joined : new_items a c ≡ new_items a b ++ new_items b c) (s : StampsRise xs a b) (t : StampsRise ys b c) where
  across : AllIn (λ x. AllIn (HasLowerStamp x) (new_items b c)) (new_items a b)
  across = all_map _ _ (new_items a b) (λ x le. all_map _ _ (new_items b c) (λ y lt. omega (arith, le, lt)) t.above) s.below

  first_low : latest_stamp b.site.region ≤ highest a xs + length (new_items a b)
  first_low = s.low

  both_low : latest_stamp c.site.region ≤ highest a (xs ++ ys) + length (new_items a b ++ new_items b c)
  both_low =
      let second : latest_stamp c.site.region ≤ highest b ys + length (new_items b c) = t.low in
      let up : highest b ys ≤ greatest (highest a xs) (stamps ys) + length (new_items a b) =
      greatest_more (highest a xs) (length (new_items a b)) (latest_stamp b.site.region) (stamps ys) first_low in
      let all : highest a (xs ++ ys) ≡ greatest (highest a xs) (stamps ys) =
      ap (greatest (latest_stamp a.site.region)) (map-append (λ p. p.stamp) xs ys) ∙ greatest_append (latest_stamp a.site.region) (stamps xs) (stamps ys) in
      let long : length (new_items a b ++ new_items b c) ≡ length (new_items a b) + length (new_items b c) = length-append (new_items a b) (new_items b c) in
      omega (arith, second, up, all, long)

  pub rise_more : StampsRise (xs ++ ys) a c
  rise_more =
      let s_up : latest_stamp a.site.region ≤ latest_stamp b.site.region = s.up in
      let t_up : latest_stamp b.site.region ≤ latest_stamp c.site.region = t.up in
      record {
        rising = subst (EachThen HasLowerStamp) (sym joined) (each_append HasLowerStamp (new_items a b) (new_items b c) s.rising across t.rising);
        above = subst (AllIn (λ x. latest_stamp a.site.region < x.stamp)) (sym joined)
            (all_append _ (new_items a b) (new_items b c) s.above (all_map _ _ (new_items b c) (λ x lt. omega (arith, lt, s_up)) t.above));
        below = subst (AllIn (λ x. x.stamp ≤ latest_stamp c.site.region)) (sym joined)
            (all_append _ (new_items a b) (new_items b c) (all_map _ _ (new_items a b) (λ x le. omega (arith, le, t_up)) s.below) t.below);
        up = omega (arith, s_up, t_up);
        low = subst (λ l. latest_stamp c.site.region ≤ highest a (xs ++ ys) + length l) (sym joined) both_low;
      }

-- a packet with a greater stamp in the place of one with stamp 0
pub rise_with : {q : Packet} (p : Packet) {a b : NodeView} → q.stamp ≡ 0 → StampsRise (q ∷ []) a b → StampsRise (p ∷ []) a b
rise_with {q} p {a} {b} none s =
    let low : latest_stamp b.site.region ≤ max (latest_stamp a.site.region) q.stamp + length (new_items a b) = s.low in
    record { rising = s.rising; above = s.above; below = s.below; up = s.up; low = omega (arith, low, none) }

-- no event was made, and perhaps a stamp was heard that some packet has
pub rise_none : {packets : List Packet} {a b : NodeView} → new_items a b ≡ [] → latest_stamp a.site.region ≤ latest_stamp b.site.region
    → latest_stamp b.site.region ≤ highest a packets → StampsRise packets a b
rise_none {packets} {a} {b} none up low = record {
  rising = subst (EachThen HasLowerStamp) (sym none) tt;
  above = subst (AllIn (λ x. latest_stamp a.site.region < x.stamp)) (sym none) tt;
  below = subst (AllIn (λ x. x.stamp ≤ latest_stamp b.site.region)) (sym none) tt;
  up = up;
  low = omega (arith, low);
}

-- events were made under consecutive stamps
consecutive : (n : ℕ) (events : List Event) → EachThen HasLowerStamp (stamped_from n events) × AllIn (λ x. n ≤ x.stamp) (stamped_from n events) × AllIn (λ x. x.stamp + 1 ≤ n + length events) (stamped_from n events)
consecutive n [] = (tt, tt, tt)
consecutive n (event ∷ events) =
    let later = consecutive (n + 1) events in (
      (all_map _ _ (stamped_from (n + 1) events) (λ x le. omega (arith, le)) later.1, later.0),
      (omega arith, all_map _ _ (stamped_from (n + 1) events) (λ x le. omega (arith, le)) later.1),
      (omega arith, all_map _ _ (stamped_from (n + 1) events) (λ x le. omega (arith, le)) later.2),
    )

last_from : (items : List Stamped) (n : ℕ) (event : Event) (events : List Event) → last_stamp (items ++ stamped_from n (event ∷ events)) ≡ n + length events
last_from items n event [] = last_of_more items (record { stamp = n; event = event }) ∙ (let e : n ≡ n + 0 = omega arith in e)
last_from items n event (other ∷ events) =
    ap last_stamp (sym (append_assoc items (record { stamp = n; event = event } ∷ []) (stamped_from (n + 1) (other ∷ events))))
    ∙ last_from (items ++ record { stamp = n; event = event } ∷ []) (n + 1) other events
    ∙ (let e : n + 1 + length events ≡ n + length (other ∷ events) = omega arith in e)

pub rise_by : {packets : List Packet} {a b : NodeView} (events : List Event) → b.site.region.events ≡ a.site.region.events ++ stamped_from (latest_stamp a.site.region + 1) events
    → b.site.region.heard ≡ a.site.region.heard → new_items a b ≡ stamped_from (latest_stamp a.site.region + 1) events → length (stamped_from (latest_stamp a.site.region + 1) events) ≡ length events
    → StampsRise packets a b
rise_by {packets} {a} {b} events kept heard new many =
    let top : ℕ = latest_stamp a.site.region in
    let far : latest_stamp b.site.region ≡ top + length events = latest events kept in
    let c = consecutive (top + 1) events in
    let great : top ≤ greatest top (stamps packets) = above_greatest top (stamps packets) in
    record {
      rising = subst (EachThen HasLowerStamp) (sym new) c.0;
      above = subst (AllIn (λ x. top < x.stamp)) (sym new) (all_map _ _ (stamped_from (top + 1) events) (λ x le. omega (arith, le)) c.1);
      below = subst (AllIn (λ x. x.stamp ≤ latest_stamp b.site.region)) (sym new) (all_map _ _ (stamped_from (top + 1) events) (λ x le. omega (arith, le, far)) c.2);
      up = omega (arith, far);
      low = subst (λ l. latest_stamp b.site.region ≤ greatest top (stamps packets) + length l) (sym new) (omega (arith, far, many, great));
    }
  where
    latest : (es : List Event) → b.site.region.events ≡ a.site.region.events ++ stamped_from (latest_stamp a.site.region + 1) es
        → latest_stamp b.site.region ≡ latest_stamp a.site.region + length es
    latest [] k =
        let same : last_stamp b.site.region.events ≡ last_stamp a.site.region.events = ap last_stamp k ∙ ap last_stamp (append-nil a.site.region.events) in
        omega (arith, same, heard)
    latest (e ∷ es) k =
        let last : last_stamp b.site.region.events ≡ latest_stamp a.site.region + 1 + length es = ap last_stamp k ∙ last_from a.site.region.events (latest_stamp a.site.region + 1) e es in
        omega (arith, last, heard)

-- the same packets twice
pub rise_same : {xs : List Packet} {a b : NodeView} → StampsRise (xs ++ xs) a b → StampsRise xs a b
rise_same {xs} {a} {b} s =
    let low : latest_stamp b.site.region ≤ highest a (xs ++ xs) + length (new_items a b) = s.low in
    let is : highest a (xs ++ xs) ≡ greatest (latest_stamp a.site.region) (stamps xs ++ stamps xs) =
    ap (greatest (latest_stamp a.site.region)) (map-append (λ p. p.stamp) xs xs) in
    let once : greatest (latest_stamp a.site.region) (stamps xs ++ stamps xs) ≤ highest a xs =
    greatest_twice (latest_stamp a.site.region) (stamps xs) in
    record { rising = s.rising; above = s.above; below = s.below; up = s.up; low = omega (arith, low, is, once) }
