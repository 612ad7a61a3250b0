-- Links are made between new seats, those of each region with all before it.
use Rattle.std.proofs.Common.{◌≡◌, ◌≢◌, ◌<◌, ◌+◌, ◌-◌, ◌++◌, ℕ, zero, suc, List, [], ◌∷◌, length, map, get_or, set, refl, sym, ap, subst, ◌∙◌, inl, inr, arith}
use Rattle.std.proofs.lemmas.List.{get_or_default, get_or-set_same, get_or-set_other, get_or_append_left, length-set, length_push, length-map}
use Rattle.std.proofs.Math.Seq.{get_or-append_seam, map-set_same}
use Rattle.dt_lists.specs.Lists.{AllIn, Either}
use Rattle.dt_lists.proofs.Callers.{either_nat}
use Rattle.dt_ring.specs.Rings.{AreEnds, RingInView, RingOutView}
use Rattle.dt_run.specs.LinksInner.{AreFresh, HasEnds, IsJoined, LinkAdded, LinkedSoFar, in_at, out_at, without_links}
use Rattle.dt_run.specs.NodesView.{link_to}
use Rattle.dt_run.specs.SeatsInner.{AreBeside, AreLinkedBy, AreNew, HaveEnds, SeatView, new_seat, no_seat, places_of_link, seat_at}
use Rattle.dt_run.proofs.EachItem.{all_by_place}
use Rattle.dt_run.proofs.LinkNumbers.{LinkOf, link_above, link_below, link_of, link_within, links_apart}

-- nothing waits on the links that lead to a seat
abbrev pub HasEmptyLinks : SeatView → Type 0
HasEmptyLinks s = AllIn (λ (i : RingInView). i.waits ≡ []) s.ins

-- the two ends of a ring that was just made are those of a new link
pub made_fresh : {out : RingOutView} {inlet : RingInView} → AreEnds out inlet → (out.put ≡ []) × (inlet.waits ≡ []) → (out.places ≡ 8) × (out.free ≡ 8) → AreFresh out inlet
unfolding places_of_link
made_fresh {out} {inlet} ends none places =
    let n : length inlet.waits ≡ 0 = ap length none.1 in
    record { beside = record { ends = ends; put = none.0; places = places.0; free = let p : out.places ≡ 8 = places.0 in let f : out.free ≡ 8 = places.1 in omega (arith, n, p, f) }; empty = none.1 }

-- the ends of one link are put at two seats
module _ (seats : List SeatView) {source target : ℕ} (ls : source < length seats) (lt : target < length seats) {out : RingOutView} {inlet : RingInView} (fresh : AreFresh out inlet)
    (a a' b b' : SeatView) (a_goes : a' ≡ record (get_or seats source a) { outs = (get_or seats source a).outs ++ out ∷ [] })
    (b_goes : b' ≡ record (get_or (set seats source a') target b) { ins = (get_or (set seats source a') target b).ins ++ inlet ∷ [] }) where
  abbrev mid : List SeatView
  mid = set seats source a'

  abbrev after : List SeatView
  after = set mid target b'

  many_mid : length mid ≡ length seats
  many_mid = length-set seats source a'

  first : get_or seats source a ≡ seat_at seats source
  first = get_or_default seats source a no_seat ls

  target_mid : target < length mid
  target_mid = subst (λ n. target < n) (sym many_mid) lt

  second : get_or mid target b ≡ seat_at mid target
  second = get_or_default mid target b no_seat target_mid

  mid_here : seat_at mid source ≡ a'
  mid_here = get_or-set_same seats source a' no_seat ls

  mid_other : (q : ℕ) → q ≢ source → seat_at mid q ≡ seat_at seats q
  mid_other q n = get_or-set_other seats source q a' no_seat n

  after_here : seat_at after target ≡ b'
  after_here = get_or-set_same mid target b' no_seat target_mid

  after_other : (q : ℕ) → q ≢ target → seat_at after q ≡ seat_at mid q
  after_other q n = get_or-set_other mid target q b' no_seat n

  -- what the second step leaves of the outlets, and the first of the inlets
  outs_after : (q : ℕ) → Either (q ≡ target) → (seat_at after q).outs ≡ (seat_at mid q).outs
  outs_after q (inr n) = ap (λ (s : SeatView). s.outs) (after_other q n)
  outs_after q (inl is) =
      subst (λ p. (seat_at after p).outs ≡ (seat_at mid p).outs) (sym is)
      (ap (λ (s : SeatView). s.outs) after_here ∙ ap (λ (s : SeatView). s.outs) b_goes ∙ ap (λ (s : SeatView). s.outs) second)

  ins_mid : (q : ℕ) → Either (q ≡ source) → (seat_at mid q).ins ≡ (seat_at seats q).ins
  ins_mid q (inr n) = ap (λ (s : SeatView). s.ins) (mid_other q n)
  ins_mid q (inl is) =
      subst (λ p. (seat_at mid p).ins ≡ (seat_at seats p).ins) (sym is)
      (ap (λ (s : SeatView). s.ins) mid_here ∙ ap (λ (s : SeatView). s.ins) a_goes ∙ ap (λ (s : SeatView). s.ins) first)

  pub link_added : LinkAdded source target seats after
  link_added = record {
    out = out;
    inlet = inlet;
    fresh = fresh;
    seats =
        map-set_same without_links mid target b' no_seat (ap without_links b_goes ∙ ap without_links second)
        ∙ map-set_same without_links seats source a' no_seat (ap without_links a_goes ∙ ap without_links first);
    outs =
        outs_after source (either_nat source target) ∙ ap (λ (s : SeatView). s.outs) mid_here ∙ ap (λ (s : SeatView). s.outs) a_goes
        ∙ ap (λ (s : SeatView). s.outs ++ out ∷ []) first;
    ins =
        ap (λ (s : SeatView). s.ins) after_here ∙ ap (λ (s : SeatView). s.ins) b_goes ∙ ap (λ (s : SeatView). s.ins ++ inlet ∷ []) second
        ∙ ap (λ l. l ++ inlet ∷ []) (ins_mid target (either_nat target source));
    other_outs = λ q n. outs_after q (either_nat q target) ∙ ap (λ (s : SeatView). s.outs) (mid_other q n);
    other_ins = λ q n. ap (λ (s : SeatView). s.ins) (after_other q n) ∙ ins_mid q (either_nat q source);
  }

-- a link more leaves all links joined
abbrev pub AreJoined : List SeatView → Type 0
AreJoined seats = (source target : ℕ) → source < length seats → target < length seats → source ≢ target → link_to source target < length (seat_at seats source).outs → IsJoined seats source target

module _ {source target : ℕ} {before after : List SeatView} (l : LinkAdded source target before after) where
  pub many_added : length after ≡ length before
  many_added = sym (length-map after without_links) ∙ ap length l.seats ∙ length-map before without_links

  module _ (j : AreJoined before) (apart : source ≢ target) (outs_place : length (seat_at before source).outs ≡ link_to source target) (ins_place : length (seat_at before target).ins ≡ link_to target source)
    where
      new_out : (d : RingOutView) → out_at after source target d ≡ l.out
      new_out d =
          ap (λ o. get_or o (link_to source target) d) l.outs ∙ ap (λ k. get_or ((seat_at before source).outs ++ l.out ∷ []) k d) (sym outs_place)
          ∙ get_or-append_seam (seat_at before source).outs l.out [] d

      new_in : (e : RingInView) → in_at after source target e ≡ l.inlet
      new_in e =
          ap (λ i. get_or i (link_to target source) e) l.ins ∙ ap (λ k. get_or ((seat_at before target).ins ++ l.inlet ∷ []) k e) (sym ins_place)
          ∙ get_or-append_seam (seat_at before target).ins l.inlet [] e

      in_there : link_to target source < length (seat_at after target).ins
      in_there =
          let k : length (seat_at after target).ins ≡ length (seat_at before target).ins + 1 = ap length l.ins ∙ length_push (seat_at before target).ins l.inlet in
          omega (arith, k, ins_place)

      -- an inlet that there was is there still
      in_still : (s t : ℕ) (e : RingInView) → link_to t s < length (seat_at before t).ins → Either (t ≡ target) → in_at after s t e ≡ in_at before s t e
      in_still s t e lt (inr n) = ap (λ i. get_or i (link_to t s) e) (l.other_ins t n)
      in_still s t e lt (inl is) =
          let lt' : link_to target s < length (seat_at before target).ins = subst (λ q. link_to q s < length (seat_at before q).ins) is lt in
          subst (λ q. in_at after s q e ≡ in_at before s q e) (sym is)
          (ap (λ i. get_or i (link_to target s) e) l.ins ∙ get_or_append_left (seat_at before target).ins (l.inlet ∷ []) e (link_to target s) lt')

      there_still : (s t : ℕ) → link_to t s < length (seat_at before t).ins → Either (t ≡ target) → link_to t s < length (seat_at after t).ins
      there_still s t lt (inr n) = subst (λ i. link_to t s < length i) (sym (l.other_ins t n)) lt
      there_still s t lt (inl is) =
          let k : length (seat_at after target).ins ≡ length (seat_at before target).ins + 1 = ap length l.ins ∙ length_push (seat_at before target).ins l.inlet in
          let lt' : link_to target s < length (seat_at before target).ins = subst (λ q. link_to q s < length (seat_at before q).ins) is lt in
          subst (λ q. link_to q s < length (seat_at after q).ins) (sym is) (omega (arith, k, lt'))

      -- a link that there was, and whose outlet stands as it did
      still : (s t : ℕ) → s < length before → t < length before → s ≢ t → link_to s t < length (seat_at before s).outs
          → ((d : RingOutView) → out_at after s t d ≡ out_at before s t d) → IsJoined after s t
      still s t hs ht n lt same =
          let o : IsJoined before s t = j s t hs ht n lt in
          record {
            inlet = there_still s t o.inlet (either_nat t target);
            fresh = λ d e.
                subst (λ q. AreFresh q (in_at after s t e)) (sym (same d)) (subst (AreFresh (out_at before s t d)) (sym (in_still s t e o.inlet (either_nat t target))) (o.fresh d e));
          }

      new : IsJoined after source target
      new = record { inlet = in_there; fresh = λ d e. subst (λ q. AreFresh q (in_at after source target e)) (sym (new_out d)) (subst (AreFresh l.out) (sym (new_in e)) l.fresh) }

      joined : (s t : ℕ) → s < length before → t < length before → s ≢ t → link_to s t < length (seat_at after s).outs → Either (s ≡ source) → Either (t ≡ target) → IsJoined after s t
      joined s t hs ht n lt (inr m) e =
          still s t hs ht n (subst (λ o. link_to s t < length o) (l.other_outs s m) lt) (λ d. ap (λ o. get_or o (link_to s t) d) (l.other_outs s m))
      joined s t hs ht n lt (inl is) (inl at) = subst (λ q. IsJoined after q t) (sym is) (subst (IsJoined after source) (sym at) new)
      joined s t hs ht n lt (inl is) (inr m) =
          let n' : t ≢ source = λ i. n (is ∙ sym i) in
          let other : link_to source t ≢ link_to source target = links_apart source t target n' (λ i. apart (sym i)) m in
          let k : length (seat_at after source).outs ≡ length (seat_at before source).outs + 1 = ap length l.outs ∙ length_push (seat_at before source).outs l.out in
          let lt' : link_to source t < length (seat_at after source).outs = subst (λ q. link_to q t < length (seat_at after q).outs) is lt in
          let below : link_to source t < length (seat_at before source).outs = omega (arith, k, lt', outs_place, other) in
          subst (λ q. IsJoined after q t) (sym is)
          (still source t (subst (λ q. q < length before) is hs) ht (λ i. n' (sym i)) below
          (λ d. ap (λ o. get_or o (link_to source t) d) l.outs ∙ get_or_append_left (seat_at before source).outs (l.out ∷ []) d (link_to source t) below))

      pub all_joined : AreJoined after
      all_joined s t hs ht n lt =
          joined s t (subst (λ k. s < k) many_added hs) (subst (λ k. t < k) many_added ht) n lt (either_nat s source) (either_nat t target)

-- the first region has none before it
pub linking_starts : {seats : List SeatView} → AreNew seats → LinkedSoFar 0 0 seats seats
linking_starts {seats} new = record {
  seats = unlinked seats new;
  first = λ r lt. absurd (omega (arith, lt));
  rest = λ r le lt. absurd (omega (arith, lt));
  here = none seats 0 new;
  above = λ r lt. none seats r new;
  joined = λ source target ls lt n at. let e : length (seat_at seats source).outs ≡ 0 = (none seats source new).outs in absurd (omega (arith, at, e));
}
  where
    unlinked : (xs : List SeatView) → AreNew xs → map without_links xs ≡ xs
    unlinked [] a = refl
    unlinked (x ∷ xs) a = let e : without_links x ≡ x = ap without_links a.0 ∙ sym a.0 in ap (λ y. y ∷ map without_links xs) e ∙ ap (λ l. x ∷ l) (unlinked xs a.1)

    none : (xs : List SeatView) (r : ℕ) → AreNew xs → HasEnds 0 (seat_at xs r)
    none [] r a = record { outs = refl; ins = refl }
    none (x ∷ xs) zero a = record { outs = ap (λ (s : SeatView). length s.outs) a.0; ins = ap (λ (s : SeatView). length s.ins) a.0 }
    none (x ∷ xs) (suc r) a = none xs r a.1

-- two links more: from a region to one before it, and back
module _ {region other : ℕ} {before now mid after : List SeatView} (s : LinkedSoFar region other before now) (lo : other < region) (lr : region < length now) (to : LinkAdded region other now mid)
    (from : LinkAdded other region mid after) where
  two : region ≢ other
  two i = absurd (omega (arith, i, lo))

  back : other ≢ region
  back i = two (sym i)

  outs_here : length (seat_at after region).outs ≡ other + 1
  outs_here = ap length (from.other_outs region two) ∙ ap length to.outs ∙ length_push (seat_at now region).outs to.out ∙ ap (λ n. n + 1) s.here.outs

  ins_here : length (seat_at after region).ins ≡ other + 1
  ins_here = ap length from.ins ∙ length_push (seat_at mid region).ins from.inlet ∙ ap (λ l. length l + 1) (to.other_ins region two) ∙ ap (λ n. n + 1) s.here.ins

  was : HasEnds (region - 1) (seat_at now other)
  was = s.rest other (omega arith) lo

  outs_there : length (seat_at after other).outs ≡ region
  outs_there =
      let e : length (seat_at now other).outs ≡ region - 1 = was.outs in
      let k : length (seat_at after other).outs ≡ length (seat_at now other).outs + 1 =
      ap length from.outs ∙ length_push (seat_at mid other).outs from.out ∙ ap (λ l. length l + 1) (to.other_outs other back) in
      omega (arith, e, k, lo)

  ins_there : length (seat_at after other).ins ≡ region
  ins_there =
      let e : length (seat_at now other).ins ≡ region - 1 = was.ins in
      let k : length (seat_at after other).ins ≡ length (seat_at now other).ins + 1 = ap length (from.other_ins other back) ∙ ap length to.ins ∙ length_push (seat_at now other).ins to.inlet in
      omega (arith, e, k, lo)

  else_same : {count : ℕ} (r : ℕ) → r ≢ region → r ≢ other → HasEnds count (seat_at now r) → HasEnds count (seat_at after r)
  else_same r n m h = record {
    outs = ap length (from.other_outs r m) ∙ ap length (to.other_outs r n) ∙ h.outs;
    ins = ap length (from.other_ins r n) ∙ ap length (to.other_ins r m) ∙ h.ins;
  }

  low : (r : ℕ) → r < other + 1 → Either (r ≡ other) → HasEnds region (seat_at after r)
  low r lt (inl is) = subst (λ q. HasEnds region (seat_at after q)) (sym is) (record { outs = outs_there; ins = ins_there })
  low r lt (inr n) = else_same r (λ i. absurd (omega (arith, i, lt, lo))) n (s.first r (omega (arith, lt, n)))

  link_there : link_to region other ≡ other
  link_there = link_below region other lo

  link_back : link_to other region ≡ region - 1
  link_back = link_above other region (omega (arith, lo))

  joined_between : AreJoined mid
  joined_between = all_joined to s.joined two (s.here.outs ∙ sym link_there) (was.ins ∙ sym link_back)

  pub linking_goes : LinkedSoFar region (other + 1) before after
  linking_goes = record {
    seats = from.seats ∙ to.seats ∙ s.seats;
    first = λ r lt. low r lt (either_nat r other);
    rest = λ r le lt. else_same r (λ i. absurd (omega (arith, i, lt))) (λ i. absurd (omega (arith, i, le))) (s.rest r (omega (arith, le)) lt);
    here = record { outs = outs_here; ins = ins_here };
    above = λ r lt. else_same r (λ i. absurd (omega (arith, i, lt))) (λ i. absurd (omega (arith, i, lt, lo))) (s.above r lt);
    joined =
        all_joined from joined_between back (ap length (to.other_outs other back) ∙ was.outs ∙ sym link_back) (ap length (to.other_ins region two) ∙ s.here.ins ∙ sym link_there);
  }

-- a region is linked with all before it
pub linking_next : {region : ℕ} {before now : List SeatView} → LinkedSoFar region region before now → LinkedSoFar (region + 1) 0 before now
linking_next {region} {before} {now} s = record {
  seats = s.seats;
  first = λ r lt. absurd (omega (arith, lt));
  rest = λ r le lt. subst (λ n. HasEnds n (seat_at now r)) (omega arith) (lower r lt (either_nat r region));
  here = s.above (region + 1) (omega arith);
  above = λ r lt. s.above r (omega (arith, lt));
  joined = s.joined;
}
  where
    lower : (r : ℕ) → r < region + 1 → Either (r ≡ region) → HasEnds region (seat_at now r)
    lower r lt (inl is) = subst (λ q. HasEnds region (seat_at now q)) (sym is) s.here
    lower r lt (inr n) = s.first r (omega (arith, lt, n))

-- all are linked
module _ {before now : List SeatView} {regions : ℕ} (s : LinkedSoFar regions 0 before now) (new : AreNew before) (all : regions ≡ length now) where
  ends : (r : ℕ) → r < length now → HasEnds (length now - 1) (seat_at now r)
  ends r lt = subst (λ n. HasEnds (n - 1) (seat_at now r)) all (s.rest r (omega arith) (subst (λ n. r < n) (sym all) lt))

  have : HaveEnds now
  have = record {
    ins = λ r lt. let e : length (seat_at now r).ins ≡ length now - 1 = (ends r lt).ins in omega (arith, e, lt);
    outs = λ r lt. let e : length (seat_at now r).outs ≡ length now - 1 = (ends r lt).outs in omega (arith, e, lt);
  }

  all_pairs : (source target : ℕ) → source < length now → target < length now → source ≢ target → IsJoined now source target
  all_pairs source target ls lt n =
      let e : length (seat_at now source).outs ≡ length now - 1 = (ends source ls).outs in
      let l : link_to source target + 1 < length now = link_within (length now) source target ls lt (λ i. n (sym i)) in
      s.joined source target ls lt n (omega (arith, e, l))

  pub are_linked : AreLinkedBy AreBeside now
  are_linked = record { ends = have; each = λ source target ls lt n d e. ((all_pairs source target ls lt n).fresh d e).beside }

  -- some outlet, of the ring of an inlet
  out_of : RingInView → RingOutView
  out_of inlet = record { ring = inlet.ring; before = []; put = []; places = 0; free = 0 }

  none_waits : (t : ℕ) (seat : SeatView) → t < length now → seat ≡ seat_at now t → (p : ℕ) (inlet : RingInView) → p < length seat.ins → inlet ≡ get_or seat.ins p inlet → inlet.waits ≡ []
  none_waits t seat lt seat_is p inlet lp is =
      let same : seat.ins ≡ (seat_at now t).ins = ap (λ (q : SeatView). q.ins) seat_is in
      let e : length (seat_at now t).ins ≡ length now - 1 = (ends t lt).ins in
      let m : length seat.ins ≡ length (seat_at now t).ins = ap length same in
      let k : LinkOf (length now) t p = link_of (length now) t p lt (omega (arith, e, m, lp)) in
      let at : inlet ≡ in_at now k.other t inlet = is ∙ ap (λ l. get_or l p inlet) same ∙ ap (λ n. get_or (seat_at now t).ins n inlet) (sym k.is) in
      ap (λ (i : RingInView). i.waits) at ∙ ((all_pairs k.other t k.there lt k.apart).fresh (out_of inlet) inlet).empty

  pub are_empty : AllIn HasEmptyLinks now
  are_empty =
      all_by_place HasEmptyLinks now
      (λ t seat lt is. all_by_place (λ (i : RingInView). i.waits ≡ []) seat.ins (none_waits t seat lt (is ∙ get_or_default now t seat no_seat lt)))

  unlinked : AreNew (map without_links now)
  unlinked = subst AreNew (sym s.seats) new

  pub are_nodes : map (λ (q : SeatView). new_seat q.node) now ≡ before
  are_nodes = go now unlinked ∙ s.seats
    where
      go : (xs : List SeatView) → AreNew (map without_links xs) → map (λ (q : SeatView). new_seat q.node) xs ≡ map without_links xs
      go [] a = refl
      go (x ∷ xs) a = ap (λ y. y ∷ map (λ (q : SeatView). new_seat q.node) xs) (sym a.0) ∙ ap (λ l. without_links x ∷ l) (go xs a.1)

  pub no_marks : AllIn (λ (q : SeatView). q.marks ≡ []) now
  no_marks = go now unlinked
    where
      go : (xs : List SeatView) → AreNew (map without_links xs) → AllIn (λ (q : SeatView). q.marks ≡ []) xs
      go [] a = tt
      go (x ∷ xs) a = (ap (λ (q : SeatView). q.marks) a.0, go xs a.1)
