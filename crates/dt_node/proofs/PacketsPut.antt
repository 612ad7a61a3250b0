-- The packets of a turn are made, and put: one on each outlet, as often as the plan says.
use Rattle.std.proofs.Common.{◌≡◌, ◌<◌, ◌≤◌, ◌+◌, ◌-◌, ℕ, Bor, zero, suc, List, [], ◌∷◌, ◌++◌, length, map, get_or, slice_get, slice_set, drop, take, None, Some}
use Rattle.std.proofs.Common.{refl, sym, ap, subst, ◌∙◌, arith, append_assoc}
use Rattle.std.specs.List.{range_with_len}
use Rattle.std.specs.Option.{option_copied}
use Rattle.std.specs.Prelude.{Option, IfSome}
use Rattle.std.proofs.lemmas.List.{length-map}
use Rattle.std.proofs.lemmas.List.FromFn.{get_or-map-range_with_len, length-map-range_with_len, map-range_with_len_more}
use Rattle.std.proofs.lemmas.Option.{slice_get-get_or}
use Rattle.dt_lists.specs.Lists.{AllIn, Pairwise}
use Rattle.dt_lists.proofs.Callers.{all_get, all_image, all_of_image, all_put, has_place}
use Rattle.dt_packet.specs.declared.packet.Packet.{Packet}
use Rattle.dt_packet.specs.declared.loss.Verdict.TheVariants.{Pass, Twice}
use Rattle.dt_packet.specs.Links.{OutletView}
use Rattle.dt_packet.specs.Loss.{IsVerdict}
use Rattle.dt_node.specs.NodeView.{NodeView, number_of, other_at, packet_for}
use Rattle.dt_node.specs.TurnPackets.{HasSent, IsSentBy, no_outlet}
use Rattle.dt_node.specs.TurnPacketsInner.{HasEntriesOf, packets_for, put_at, put_one}

many_put : (outs : List OutletView) (packets : List Packet) → length (put_at outs packets) ≡ length outs
many_put [] packets = refl
many_put (o ∷ outs) [] = refl
many_put (o ∷ outs) (p ∷ packets) = ap suc (many_put outs packets)

get_put : (outs : List OutletView) (packets : List Packet) (link : ℕ) (p : Packet) → link < length outs → slice_get packets link ≡ Some p → get_or (put_at outs packets) link no_outlet ≡ put_one (get_or outs link no_outlet) p
get_put [] packets link p lt e = absurd (omega (arith, lt))
get_put (o ∷ outs) [] link p lt e = cc
get_put (o ∷ outs) (q ∷ packets) zero p lt e = let same : q ≡ p = cc in ap (put_one o) same
get_put (o ∷ outs) (q ∷ packets) (suc link) p lt e = get_put outs packets link p (omega (arith, lt)) e

-- where two places were free on each outlet, one still is
free_put : (outs : List OutletView) (packets : List Packet) → AllIn (λ o. 2 ≤ o.free) outs → AllIn (λ o. 1 ≤ o.free) (put_at outs packets)
free_put [] packets a = tt
free_put (o ∷ outs) [] a = let two = a.0 in (omega (arith, two), one_less outs a.1)
  where
    one_less : (all : List OutletView) → AllIn (λ x. 2 ≤ x.free) all → AllIn (λ x. 1 ≤ x.free) all
    one_less [] b = tt
    one_less (x ∷ all) b = let two = b.0 in (omega (arith, two), one_less all b.1)
free_put (o ∷ outs) (p ∷ packets) a = let two = a.0 in (omega (arith, two), free_put outs packets a.1)

-- the same of the outlets themselves
module _ {O : Type 0} (seen : O → OutletView) where
  pub one_free : (outs : List O) → AllIn (λ o. 2 ≤ (seen o).free) outs → AllIn (λ o. 1 ≤ (seen o).free) outs
  one_free [] a = tt
  one_free (o ∷ outs) a = let two = a.0 in (omega (arith, two), one_free outs a.1)

  pub still_free : (outs later : List O) (packets : List Packet) → AllIn (λ o. 2 ≤ (seen o).free) outs → map seen later ≡ put_at (map seen outs) packets → AllIn (λ o. 1 ≤ (seen o).free) later
  still_free outs later packets a put = all_of_image (λ v. 1 ≤ v.free) seen later (subst (AllIn (λ v. 1 ≤ v.free)) (sym put) (free_put (map seen outs) packets (all_image (λ v. 2 ≤ v.free) seen outs a)))

  pub many_still : (outs later : List O) (packets : List Packet) → map seen later ≡ put_at (map seen outs) packets → length later ≡ length outs
  many_still outs later packets put = sym (length-map later seen) ∙ ap length put ∙ many_put (map seen outs) packets ∙ length-map outs seen

-- one more packet was put, on the outlet at this place
module _ {O : Type 0} (seen : O → OutletView) where
  goes : (outs : List O) (k : ℕ) (d next : O) (p : Packet) (rest : List Packet) → k < length outs → seen next ≡ put_one (seen (get_or outs k d)) p
      → take (suc k) (map seen (slice_set outs k next)) ++ put_at (drop (suc k) (map seen (slice_set outs k next))) rest ≡ take k (map seen outs) ++ put_at (drop k (map seen outs)) (p ∷ rest)
  goes [] k d next p rest lt e = absurd (omega (arith, lt))
  goes (o ∷ outs) zero d next p rest lt e = ap (λ v. v ∷ put_at (map seen outs) rest) e
  goes (o ∷ outs) (suc k) d next p rest lt e = ap (λ l. seen o ∷ l) (goes outs k d next p rest (omega (arith, lt)) e)

  pub put_goes : (outs : List O) (k : ℕ) (d next : O) (p : Packet) (rest : List Packet) → k < length outs → seen next ≡ put_one (seen (get_or outs k d)) p
      → take (k + 1) (map seen (slice_set outs k next)) ++ put_at (drop (k + 1) (map seen (slice_set outs k next))) rest ≡ take k (map seen outs) ++ put_at (drop k (map seen outs)) (p ∷ rest)
  put_goes outs k d next p rest lt e =
      let more : k + 1 ≡ suc k = omega arith in
      ap (λ m. take m (map seen (slice_set outs k next)) ++ put_at (drop m (map seen (slice_set outs k next))) rest) more ∙ goes outs k d next p rest lt e

-- what holds of all from a place on holds of all behind the place, whatever is set at it
pub all_goes : {O : Type 0} (P : O → Type 0) (outs : List O) (k : ℕ) (next : O) → AllIn P (drop k outs) → AllIn P (drop (k + 1) (slice_set outs k next))
all_goes {O} P outs k next a =
    let more : suc k ≡ k + 1 = omega arith in
    subst (λ m. AllIn P (drop m (slice_set outs k next))) more (go outs k a)
  where
    go : (all : List O) (place : ℕ) → AllIn P (drop place all) → AllIn P (drop (suc place) (slice_set all place next))
    go [] zero b = tt
    go [] (suc place) b = tt
    go (o ∷ all) zero b = b.1
    go (o ∷ all) (suc place) b = go all place b

-- an item is set that has all of the old one's in common
pub pairs_go : {O : Type 0} (R : O → O → Type 0) (first outs : List O) (k : ℕ) (d next : O) → k < length outs → ((f : O) → R f (get_or outs k d) → R f next)
    → Pairwise R first outs → Pairwise R first (slice_set outs k next)
pairs_go R first [] k d next lt keeps s = absurd (omega (arith, lt))
pairs_go R [] (o ∷ outs) k d next lt keeps s = absurd s
pairs_go R (f ∷ first) (o ∷ outs) zero d next lt keeps s = (keeps f s.0, s.1)
pairs_go R (f ∷ first) (o ∷ outs) (suc k) d next lt keeps s = (s.0, pairs_go R first outs k d next (omega (arith, lt)) keeps s.1)

-- the packet of a link
its_packet : (n : NodeView) (links link : ℕ) → link < links → slice_get (packets_for n links) link ≡ Some (packet_for n (other_at (number_of n) link))
its_packet n links link lt =
    slice_get-get_or (packets_for n links) link (packet_for n 0) (subst (λ m. link < m) (sym (length-map-range_with_len (λ k. packet_for n (other_at (number_of n) k)) 0 links)) lt)
    ∙ ap Some (get_or-map-range_with_len (λ k. packet_for n (other_at (number_of n) k)) 0 links link link (packet_for n 0) lt (omega arith))

-- there is a packet for each link
pub many_made : (made_for : ℕ → Packet) (links : ℕ) (packets : List Packet) → packets ≡ map made_for (range_with_len 0 links) → length packets ≡ links
many_made made_for links packets e = ap length e ∙ length-map-range_with_len made_for 0 links

-- one more packet is made, for the region at the other end of the next link
pub made_more : (n : NodeView) (link target me : ℕ) (packets : List Packet) (p : Packet) → packets ≡ packets_for n link → me ≡ number_of n → target ≡ other_at me link → p ≡ packet_for n target
    → packets ++ p ∷ [] ≡ packets_for n (link + 1)
made_more n link target me packets p before is at this =
    let at_link : ℕ → Packet = λ k. packet_for n (other_at (number_of n) k) in
    let same : p ≡ at_link link = this ∙ ap (packet_for n) (at ∙ ap (λ m. other_at m link) is) in
    (λ i. before i ++ same i ∷ []) ∙ sym (map-range_with_len_more at_link 0 link link (omega arith))

-- a packet that was made before has the entries that stand in the log from its place on
pub made_before : (n : NodeView) (links : ℕ) (packets : List Packet) → packets ≡ packets_for n links → (made : Option (Bor Packet)) → option_copied made ≡ slice_get packets (length packets - 1)
    → IfSome made (λ packet. HasEntriesOf n.site.region.state packet.now)
made_before n links packets are None is = tt
made_before n links packets are (Some packet) is =
    let each : AllIn (HasEntriesOf n.site.region.state) (packets_for n links) = all_image (HasEntriesOf n.site.region.state) (λ link. packet_for n (other_at (number_of n) link)) (range_with_len 0 links) (all_put _ _ (λ link h. refl)) in
    all_get (HasEntriesOf n.site.region.state) packets (subst (AllIn (HasEntriesOf n.site.region.state)) (sym are) each) packet.now (has_place packets (length packets - 1) packet.now (sym is))

two_free : (outs : List OutletView) → AllIn (λ o. 2 ≤ o.free) outs → (link : ℕ) → link < length outs → 2 ≤ (get_or outs link no_outlet).free
two_free [] a link lt = absurd (omega (arith, lt))
two_free (o ∷ outs) a zero lt = a.0
two_free (o ∷ outs) a (suc link) lt = two_free outs a.1 link (omega (arith, lt))

-- a packet for each outlet
abbrev packets_each : NodeView → List OutletView → List Packet
packets_each now outs = packets_for now (length outs)

module _ {before now : NodeView} (turns : now.turns ≡ before.turns + 1) (outs : List OutletView) (free : AllIn (λ o. 2 ≤ o.free) outs) where
  -- each was put once
  pub sent_once : IsVerdict now.plan now.turns Pass → (later : List OutletView) → later ≡ put_at outs (packets_each now outs) → HasSent before now outs later
  sent_once is later put = subst (HasSent before now outs) (sym put) (record {
    turns = turns;
    many = many_put outs (packets_each now outs);
    each = λ link lt.
        let p : Packet = packet_for now (other_at (number_of now) link) in
        let o : OutletView = get_or outs link no_outlet in
        let two : 2 ≤ o.free = two_free outs free link lt in
        subst (IsSentBy now.plan now.turns p o) (sym (get_put outs (packets_each now outs) link p lt (its_packet now (length outs) link lt)))
        (record { verdict = Pass; is = is; put = record { put = refl; free = omega (arith, two) } });
  })

  -- each was put twice
  pub sent_twice : IsVerdict now.plan now.turns Twice → (later : List OutletView) → later ≡ put_at (put_at outs (packets_each now outs)) (packets_each now outs) → HasSent before now outs later
  sent_twice is later put = subst (HasSent before now outs) (sym put) (record {
    turns = turns;
    many = many_put (put_at outs (packets_each now outs)) (packets_each now outs) ∙ many_put outs (packets_each now outs);
    each = λ link lt.
        let p : Packet = packet_for now (other_at (number_of now) link) in
        let o : OutletView = get_or outs link no_outlet in
        let two : 2 ≤ o.free = two_free outs free link lt in
        let first : get_or (put_at outs (packets_each now outs)) link no_outlet ≡ put_one o p = get_put outs (packets_each now outs) link p lt (its_packet now (length outs) link lt) in
        let there : link < length (put_at outs (packets_each now outs)) = subst (λ m. link < m) (sym (many_put outs (packets_each now outs))) lt in
        let second : get_or (put_at (put_at outs (packets_each now outs)) (packets_each now outs)) link no_outlet ≡ put_one (put_one o p) p =
        get_put (put_at outs (packets_each now outs)) (packets_each now outs) link p there (its_packet now (length outs) link lt) ∙ ap (λ v. put_one v p) first in
        subst (IsSentBy now.plan now.turns p o) (sym second)
        (record { verdict = Twice; is = is; put = record { put = append_assoc o.put (p ∷ []) (p ∷ []); free = omega (arith, two) } });
  })

made : {O : Type 0} (seen : O → OutletView) (now : NodeView) (outs : List O) (packets : List Packet) → packets ≡ packets_for now (length outs) → packets ≡ packets_for now (length (map seen outs))
made seen now outs packets e = e ∙ ap (packets_for now) (sym (length-map outs seen))

-- the same of the outlets themselves, and of the packets as they were made
module _ {O : Type 0} (seen : O → OutletView) {before now : NodeView} (turns : now.turns ≡ before.turns + 1) (outs : List O) (free : AllIn (λ o. 2 ≤ (seen o).free) outs) where
  pub once_sent : IsVerdict now.plan now.turns Pass → (packets : List Packet) → packets ≡ packets_for now (length outs) → (later : List O) → map seen later ≡ put_at (map seen outs) packets
      → HasSent before now (map seen outs) (map seen later)
  once_sent is packets e later put = sent_once turns (map seen outs) (all_image (λ v. 2 ≤ v.free) seen outs free) is (map seen later) (put ∙ ap (put_at (map seen outs)) (made seen now outs packets e))

  pub twice_sent : IsVerdict now.plan now.turns Twice → (packets again : List Packet) → packets ≡ packets_for now (length outs) → again ≡ packets_for now (length outs) → (middle later : List O)
      → map seen middle ≡ put_at (map seen outs) packets → map seen later ≡ put_at (map seen middle) again → HasSent before now (map seen outs) (map seen later)
  twice_sent is packets again e f middle later first second = sent_twice turns (map seen outs) (all_image (λ v. 2 ≤ v.free) seen outs free) is (map seen later)
      (second ∙ (λ i. put_at (first i) (made seen now outs again f i)) ∙ ap (λ l. put_at (put_at (map seen outs) l) (packets_for now (length (map seen outs)))) (made seen now outs packets e))
