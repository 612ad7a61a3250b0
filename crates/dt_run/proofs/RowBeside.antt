-- One outlet after another is brought beside its inlet, of one seat after another.
use Rattle.std.proofs.Common.{◌≡◌, ◌≢◌, ◌<◌, ◌≤◌, ◌+◌, ◌⊎◌, ℕ, List, [], length, get_or, set, refl, sym, ap, subst, ◌∙◌, inl, inr, arith}
use Rattle.std.proofs.lemmas.List.{get_or_default, get_or-set_same, get_or-set_other, length-set}
use Rattle.dt_lists.specs.Lists.{Either}
use Rattle.dt_lists.proofs.Callers.{either_nat}
use Rattle.dt_ring.specs.Rings.{RingInView, RingOutView}
use Rattle.dt_node.specs.NodeView.{other_at}
use Rattle.dt_run.specs.LinksInner.{BesideSoFar, InletGoes, LinkGoes, LinksGo, RowApart, RowSoFar, SameButIns, SameButLinks, in_at, out_at}
use Rattle.dt_run.specs.NodesView.{link_to}
use Rattle.dt_run.specs.SeatsInner.{EndsAreApart, AreLinkedBy, SeatView, no_seat, seat_at}
use Rattle.dt_run.proofs.LinkNumbers.{LinkOfNumber, link_of_number, link_within, links_apart}

-- one outlet more
module _ {source link : ℕ} {row row1 : List RingOutView} {seats seats1 : List SeatView} (r : RowSoFar source link row seats row1 seats1) (a : RowApart source row seats) (below : link < length row)
    (target : ℕ) (target_is : target ≡ other_at source link) (within : target < length seats) (apart : source ≢ target) (place_is : link_to source target ≡ link)
    (out out' : RingOutView) (inlet inlet' : RingInView) (out_is : out ≡ get_or row1 link out) (inlet_is : inlet ≡ get_or (seat_at seats1 target).ins (link_to target source) inlet)
    (goes : LinkGoes out inlet out' inlet') where
  abbrev seat : SeatView
  seat = seat_at seats1 target

  abbrev place : ℕ
  place = link_to target source

  abbrev seat' : SeatView
  seat' = record seat { ins = set seat.ins place inlet' }

  abbrev row2 : List RingOutView
  row2 = set row1 link out'

  abbrev seats2 : List SeatView
  seats2 = set seats1 target seat'

  there : target < length seats1
  there = let e : length seats1 ≡ length seats = r.many in omega (arith, e, within)

  link_there : link < length row1
  link_there = let e : length row1 ≡ length row = r.many_outs in omega (arith, e, below)

  place_there : place < length seat.ins
  place_there =
      let e : length (seat_at seats1 target).ins ≡ length (seat_at seats target).ins = (r.same target within).ins in
      let f : length (seat_at seats target).ins + 1 ≡ length seats = a.ins target within in
      let l : link_to target source + 1 < length seats = link_within (length seats) target source within a.within apart in
      omega (arith, e, f, l)

  seat_here : seat_at seats2 target ≡ seat'
  seat_here = get_or-set_same seats1 target seat' no_seat there

  seat_other : (q : ℕ) → q ≢ target → seat_at seats2 q ≡ seat_at seats1 q
  seat_other q n = get_or-set_other seats1 target q seat' no_seat n

  same : (region : ℕ) → region < length seats → Either (region ≡ target) → SameButIns (seat_at seats region) (seat_at seats2 region)
  same region lt (inr n) = subst (SameButIns (seat_at seats region)) (sym (seat_other region n)) (r.same region lt)
  same region lt (inl is) =
      let s = r.same target within in
      subst (λ q. SameButIns (seat_at seats q) (seat_at seats2 q)) (sym is) (subst (SameButIns (seat_at seats target)) (sym seat_here) (record {
        node = s.node;
        marks = s.marks;
        failed = s.failed;
        outs = s.outs;
        ins = length-set seat.ins place inlet' ∙ s.ins;
      }))

  in_here : (e : RingInView) → in_at seats2 source target e ≡ inlet'
  in_here e = ap (λ (s : SeatView). get_or s.ins place e) seat_here ∙ get_or-set_same seat.ins place inlet' e place_there

  in_other : (q : ℕ) → q ≢ target → (p : ℕ) (e : RingInView) → get_or (seat_at seats2 q).ins p e ≡ get_or (seat_at seats1 q).ins p e
  in_other q n p e = ap (λ (s : SeatView). get_or s.ins p e) (seat_other q n)

  gone : (q : ℕ) (d : RingOutView) (e : RingInView) → link_to source q < link + 1 → q < length seats → source ≢ q → Either (q ≡ target)
      → LinkGoes (get_or row (link_to source q) d) (in_at seats source q e) (get_or row2 (link_to source q) d) (in_at seats2 source q e)
  gone q d e lt lq n (inl is) = subst (λ t. LinkGoes (get_or row (link_to source t) d) (in_at seats source t e) (get_or row2 (link_to source t) d) (in_at seats2 source t e)) (sym is) here
    where
      old_out : out ≡ get_or row (link_to source target) d
      old_out = out_is ∙ get_or_default row1 link out d link_there ∙ r.row_left link d (omega arith) ∙ ap (λ k. get_or row k d) (sym place_is)

      old_in : inlet ≡ in_at seats source target e
      old_in = inlet_is ∙ get_or_default seat.ins place inlet e place_there ∙ r.ins_left target e (omega (arith, place_is)) within apart

      new_out : get_or row2 (link_to source target) d ≡ out'
      new_out = ap (λ k. get_or row2 k d) place_is ∙ get_or-set_same row1 link out' d link_there

      here : LinkGoes (get_or row (link_to source target) d) (in_at seats source target e) (get_or row2 (link_to source target) d) (in_at seats2 source target e)
      here = subst (λ o. LinkGoes o (in_at seats source target e) (get_or row2 (link_to source target) d) (in_at seats2 source target e)) old_out
          (subst (λ i. LinkGoes out i (get_or row2 (link_to source target) d) (in_at seats2 source target e)) old_in
          (subst (λ o. LinkGoes out inlet o (in_at seats2 source target e)) (sym new_out) (subst (LinkGoes out inlet out') (sym (in_here e)) goes)))
  gone q d e lt lq n (inr m) =
      let other : link_to source q ≢ link = λ s. links_apart source q target (λ i. n (sym i)) (λ i. apart (sym i)) m (s ∙ sym place_is) in
      subst (λ o. LinkGoes (get_or row (link_to source q) d) (in_at seats source q e) o (in_at seats2 source q e)) (sym (get_or-set_other row1 link (link_to source q) out' d other))
      (subst (LinkGoes (get_or row (link_to source q) d) (in_at seats source q e) (get_or row1 (link_to source q) d)) (sym (in_other q m (link_to q source) e)) (r.gone q d e (omega (arith, lt, other)) lq n))

  others : (region p : ℕ) (e : RingInView) → region < length seats → (region ≡ source) ⊎ (p ≢ link_to region source) → Either (region ≡ target)
      → get_or (seat_at seats2 region).ins p e ≡ get_or (seat_at seats region).ins p e
  others region p e lt o (inr n) = in_other region n p e ∙ r.others region p e lt o
  others region p e lt (inl s) (inl is) = absurd (apart (sym s ∙ is))
  others region p e lt (inr m) (inl is) =
      let n : p ≢ link_to target source = λ i. m (i ∙ ap (λ q. link_to q source) (sym is)) in
      subst (λ q. get_or (seat_at seats2 q).ins p e ≡ get_or (seat_at seats q).ins p e) (sym is)
      (ap (λ (s : SeatView). get_or s.ins p e) seat_here ∙ get_or-set_other seat.ins place p inlet' e n ∙ r.others target p e within (inr n))

  pub row_goes : RowSoFar source (link + 1) row seats row2 seats2
  row_goes = record {
    many = length-set seats1 target seat' ∙ r.many;
    many_outs = length-set row1 link out' ∙ r.many_outs;
    same = λ region lt. same region lt (either_nat region target);
    gone = λ q d e lt lq n. gone q d e lt lq n (either_nat q target);
    row_left = λ k d le. get_or-set_other row1 link k out' d (λ i. absurd (omega (arith, i, le))) ∙ r.row_left k d (omega (arith, le));
    ins_left = λ q e le lq n.
        let m : q ≢ target = λ i. let at : link_to source q ≡ link = ap (link_to source) i ∙ place_is in absurd (omega (arith, at, le)) in
        in_other q m (link_to q source) e ∙ r.ins_left q e (omega (arith, le)) lq n;
    others = λ region p e lt o. others region p e lt o (either_nat region target);
  }

-- the next outlet, and where its inlet is
module _ {source link : ℕ} {row row1 : List RingOutView} {seats seats1 : List SeatView} (r : RowSoFar source link row seats row1 seats1) (a : RowApart source row seats) (more : link < length row1)
    (target : ℕ) (target_is : target ≡ other_at source link) where
  below : link < length row
  below = let m : length row1 ≡ length row = r.many_outs in omega (arith, m, more)

  at : LinkOfNumber (length seats) source link target
  at = let m : length row + 1 ≡ length seats = a.many in subst (LinkOfNumber (length seats) source link) (sym target_is) (link_of_number (length seats) source link a.within (omega (arith, m, below)))

  pub next_apart : source ≢ target
  next_apart i = at.apart (sym i)

  pub next_there : target < length seats1
  next_there = let e : length seats1 ≡ length seats = r.many in let t : target < length seats = at.there in omega (arith, e, t)

  next_within : link_to target source < length (seat_at seats1 target).ins
  next_within =
      let e : length (seat_at seats1 target).ins ≡ length (seat_at seats target).ins = (r.same target at.there).ins in
      let f : length (seat_at seats target).ins + 1 ≡ length seats = a.ins target at.there in
      let l : link_to target source + 1 < length seats = link_within (length seats) target source at.there a.within next_apart in
      omega (arith, e, f, l)

  module _ (place : ℕ) (place_is : place ≡ link_to target source) (out : RingOutView) (seat : SeatView) where
    seat_is : get_or seats1 target seat ≡ seat_at seats1 target
    seat_is = get_or_default seats1 target seat no_seat next_there

    pub next_place : place < length (get_or seats1 target seat).ins
    next_place = subst (λ p. p < length (get_or seats1 target seat).ins) (sym place_is) (subst (λ (q : SeatView). link_to target source < length q.ins) (sym seat_is) next_within)

    pub next_ends : (e : RingInView) → EndsAreApart (get_or row1 link out) (get_or (get_or seats1 target seat).ins place e)
    next_ends e =
        let low : link ≤ link_to source target = let i : link_to source target ≡ link = at.is in omega (arith, i) in
        let o : get_or row (link_to source target) out ≡ get_or row1 link out = ap (λ k. get_or row k out) at.is ∙ sym (r.row_left link out (omega arith)) in
        let i : in_at seats source target e ≡ get_or (get_or seats1 target seat).ins place e =
        sym (r.ins_left target e low at.there next_apart) ∙ ap (λ (q : SeatView). get_or q.ins (link_to target source) e) (sym seat_is)
        ∙ ap (λ k. get_or (get_or seats1 target seat).ins k e) (sym place_is) in
        subst (λ p. EndsAreApart p (get_or (get_or seats1 target seat).ins place e)) o (subst (EndsAreApart (get_or row (link_to source target) out)) i (a.each target out e at.there next_apart))

    pub row_steps : (out' : RingOutView) (later : SeatView) → InletGoes place (get_or row1 link out) (get_or seats1 target seat) out' later
        → RowSoFar source (link + 1) row seats (set row1 link out') (set seats1 target later)
    row_steps out' later g =
        let old : RingInView = get_or (seat_at seats1 target).ins (link_to target source) g.inlet in
        let old_is : old ≡ get_or (seat_at seats1 target).ins (link_to target source) old = get_or_default (seat_at seats1 target).ins (link_to target source) g.inlet old next_within in
        let out_is : get_or row1 link out ≡ get_or row1 link (get_or row1 link out) = get_or_default row1 link out (get_or row1 link out) more in
        let goes : LinkGoes (get_or row1 link out) old out' g.inlet =
        subst (λ (q : SeatView). LinkGoes (get_or row1 link out) (get_or q.ins (link_to target source) g.inlet) out' g.inlet) seat_is
        (subst (λ k. LinkGoes (get_or row1 link out) (get_or (get_or seats1 target seat).ins k g.inlet) out' g.inlet) place_is g.goes) in
        let after : later ≡ record (seat_at seats1 target) { ins = set (seat_at seats1 target).ins (link_to target source) g.inlet } =
        g.after_is ∙ ap (λ k. record (get_or seats1 target seat) { ins = set (get_or seats1 target seat).ins k g.inlet }) place_is
        ∙ ap (λ (q : SeatView). record q { ins = set q.ins (link_to target source) g.inlet }) seat_is in
        subst (λ q. RowSoFar source (link + 1) row seats (set row1 link out') (set seats1 target q)) (sym after)
        (row_goes r a below target target_is at.there next_apart at.is (get_or row1 link out) out' old g.inlet out_is old_is goes)

-- a row that has been gone through
pub row_ends : {source link : ℕ} {row row' : List RingOutView} {seats seats' : List SeatView} → RowSoFar source link row seats row' seats' → length row' ≤ link → link ≤ length row'
    → RowSoFar source (length row) row seats row' seats'
row_ends {source} {link} {row} {row'} {seats} {seats'} r all within =
    let m : length row' ≡ length row = r.many_outs in subst (λ n. RowSoFar source n row seats row' seats') (omega (arith, m, all, within)) r

-- all links of one seat: its outlets are taken out

same_but_links : {a b : SeatView} → SameButIns a b → SameButLinks a b
same_but_links s = record { node = s.node; marks = s.marks; failed = s.failed; ins = s.ins; outs = ap length s.outs }

same_twice : {a b c : SeatView} → SameButLinks a b → SameButLinks b c → SameButLinks a c
same_twice s t = record { node = t.node ∙ s.node; marks = t.marks ∙ s.marks; failed = t.failed ∙ s.failed; ins = t.ins ∙ s.ins; outs = t.outs ∙ s.outs }

module _ {source : ℕ} {seats : List SeatView} (a : RowApart source (seat_at seats source).outs seats) where
  abbrev all_outs : List RingOutView
  all_outs = (seat_at seats source).outs

  abbrev emptied : SeatView
  emptied = record (seat_at seats source) { outs = [] }

  abbrev taken : List SeatView
  taken = set seats source emptied

  many_taken : length taken ≡ length seats
  many_taken = length-set seats source emptied

  taken_other : (q : ℕ) → q ≢ source → seat_at taken q ≡ seat_at seats q
  taken_other q n = get_or-set_other seats source q emptied no_seat n

  taken_here : seat_at taken source ≡ emptied
  taken_here = get_or-set_same seats source emptied no_seat a.within

  ins_taken : (region : ℕ) → (seat_at taken region).ins ≡ (seat_at seats region).ins
  ins_taken region = by (either_nat region source)
    where
      by : Either (region ≡ source) → (seat_at taken region).ins ≡ (seat_at seats region).ins
      by (inr n) = ap (λ (s : SeatView). s.ins) (taken_other region n)
      by (inl is) = subst (λ q. (seat_at taken q).ins ≡ (seat_at seats q).ins) (sym is) (ap (λ (s : SeatView). s.ins) taken_here)

  pub row_apart : RowApart source all_outs taken
  row_apart = record {
    within = subst (λ n. source < n) (sym many_taken) a.within;
    many = a.many ∙ sym many_taken;
    ins = λ region lt. ap (λ l. length l + 1) (ins_taken region) ∙ a.ins region (subst (λ n. region < n) many_taken lt) ∙ sym many_taken;
    each = λ target d e lt n.
        subst (EndsAreApart (get_or all_outs (link_to source target) d)) (sym (ap (λ l. get_or l (link_to target source) e) (ins_taken target)))
        (a.each target d e (subst (λ n. target < n) many_taken lt) n);
  }

  -- and when each is beside its inlet, they are put back
  module _ {row' : List RingOutView} {seats2 : List SeatView} (r : RowSoFar source (length all_outs) all_outs taken row' seats2) where
    abbrev filled : SeatView
    filled = record (seat_at seats2 source) { outs = row' }

    abbrev seats3 : List SeatView
    seats3 = set seats2 source filled

    many2 : length seats2 ≡ length seats
    many2 = r.many ∙ many_taken

    back_here : seat_at seats3 source ≡ filled
    back_here = get_or-set_same seats2 source filled no_seat (subst (λ n. source < n) (sym many2) a.within)

    back_other : (q : ℕ) → q ≢ source → seat_at seats3 q ≡ seat_at seats2 q
    back_other q n = get_or-set_other seats2 source q filled no_seat n

    in_taken : (q : ℕ) → q < length seats → q < length taken
    in_taken q lt = subst (λ n. q < n) (sym many_taken) lt

    seat_goes : (region : ℕ) → region < length seats → Either (region ≡ source) → SameButLinks (seat_at seats region) (seat_at seats3 region)
    seat_goes region lt (inr n) =
        subst (SameButLinks (seat_at seats region)) (sym (back_other region n))
        (subst (λ t. SameButLinks t (seat_at seats2 region)) (taken_other region n) (same_but_links (r.same region (in_taken region lt))))
    seat_goes region lt (inl is) =
        let s : SameButIns (seat_at taken source) (seat_at seats2 source) = r.same source (in_taken source a.within) in
        subst (λ q. SameButLinks (seat_at seats q) (seat_at seats3 q)) (sym is) (subst (SameButLinks (seat_at seats source)) (sym back_here) (record {
          node = s.node ∙ ap (λ (t : SeatView). t.node) taken_here;
          marks = s.marks ∙ ap (λ (t : SeatView). t.marks) taken_here;
          failed = s.failed ∙ ap (λ (t : SeatView). t.failed) taken_here;
          ins = s.ins ∙ ap (λ (t : SeatView). length t.ins) taken_here;
          outs = r.many_outs;
        }))

    -- the inlets of a seat, but for those of the links from this one
    in_still : (s target : ℕ) (e : RingInView) → s ≢ source → s ≢ target → target < length seats → Either (target ≡ source) → in_at seats3 s target e ≡ in_at seats s target e
    in_still s target e ns nt lt (inl is) =
        subst (λ q. in_at seats3 s q e ≡ in_at seats s q e) (sym is)
        (ap (λ (t : SeatView). get_or t.ins (link_to source s) e) back_here ∙ r.others source (link_to source s) e (in_taken source a.within) (inl refl)
        ∙ ap (λ (t : SeatView). get_or t.ins (link_to source s) e) taken_here)
    in_still s target e ns nt lt (inr n) =
        let apart : link_to target s ≢ link_to target source = links_apart target s source nt (λ i. n (sym i)) ns in
        ap (λ (t : SeatView). get_or t.ins (link_to target s) e) (back_other target n) ∙ r.others target (link_to target s) e (in_taken target lt) (inr apart)
        ∙ ap (λ l. get_or l (link_to target s) e) (ins_taken target)

    out_still : (s target : ℕ) (d : RingOutView) → s ≢ source → s < length seats → out_at seats3 s target d ≡ out_at seats s target d
    out_still s target d ns ls =
        ap (λ (t : SeatView). get_or t.outs (link_to s target) d) (back_other s ns) ∙ ap (λ l. get_or l (link_to s target) d) (r.same s (in_taken s ls)).outs
        ∙ ap (λ (t : SeatView). get_or t.outs (link_to s target) d) (taken_other s ns)

    link_goes : (target : ℕ) (d : RingOutView) (e : RingInView) → target < length seats → source ≢ target
        → LinkGoes (out_at seats source target d) (in_at seats source target e) (out_at seats3 source target d) (in_at seats3 source target e)
    link_goes target d e lt n =
        subst (λ i. LinkGoes (out_at seats source target d) i (out_at seats3 source target d) (in_at seats3 source target e)) (ap (λ l. get_or l (link_to target source) e) (ins_taken target))
        (subst (λ o. LinkGoes (out_at seats source target d) (in_at taken source target e) o (in_at seats3 source target e)) (ap (λ (t : SeatView). get_or t.outs (link_to source target) d) (sym back_here))
        (subst (LinkGoes (out_at seats source target d) (in_at taken source target e) (get_or row' (link_to source target) d))
        (ap (λ (t : SeatView). get_or t.ins (link_to target source) e) (sym (back_other target (λ i. n (sym i))))) (r.gone target d e within (in_taken target lt) n)))
      where
        within : link_to source target < length all_outs
        within =
            let l : link_to source target + 1 < length seats = link_within (length seats) source target a.within lt (λ i. n (sym i)) in
            let m : length all_outs + 1 ≡ length seats = a.many in
            omega (arith, l, m)

    pub links_go : LinksGo source seats seats3
    links_go = record {
      many = length-set seats2 source filled ∙ many2;
      same = λ region lt. seat_goes region lt (either_nat region source);
      gone = link_goes;
      outs_left = λ other target d n lt. out_still other target d n lt;
      ins_left = λ other target e n apart lt. in_still other target e n apart lt (either_nat target source);
    }

-- the same, with the seat that was found
module _ {source : ℕ} {seats : List SeatView} (a : RowApart source (seat_at seats source).outs seats) (seat : SeatView) {taken : SeatView} (taken_is : taken ≡ record (get_or seats source seat) { outs = [] })
    (row : List RingOutView) (row_is : row ≡ (get_or seats source seat).outs) where
  found : get_or seats source seat ≡ seat_at seats source
  found = get_or_default seats source seat no_seat a.within

  without : taken ≡ record (seat_at seats source) { outs = [] }
  without = taken_is ∙ ap (λ (q : SeatView). record q { outs = [] }) found

  found_row : row ≡ (seat_at seats source).outs
  found_row = row_is ∙ ap (λ (q : SeatView). q.outs) found

  pub row_taken : RowApart source row (set seats source taken)
  row_taken = subst (λ l. RowApart source l (set seats source taken)) (sym found_row) (subst (λ q. RowApart source (seat_at seats source).outs (set seats source q)) (sym without) (row_apart a))

  pub row_put : (row' outs' : List RingOutView) (seats' : List SeatView) (seat' full : SeatView) → outs' ≡ row' → RowSoFar source (length row) row (set seats source taken) row' seats'
      → full ≡ record (get_or seats' source seat') { outs = outs' } → LinksGo source seats (set seats' source full)
  row_put row' outs' seats' seat' full outs_are r full_is =
      let r1 : RowSoFar source (length (seat_at seats source).outs) (seat_at seats source).outs (set seats source (record (seat_at seats source) { outs = [] })) row' seats' =
      subst (λ q. RowSoFar source (length (seat_at seats source).outs) (seat_at seats source).outs (set seats source q) row' seats') without
      (subst (λ l. RowSoFar source (length l) l (set seats source taken) row' seats') found_row r) in
      let there : source < length seats' = let m : length seats' ≡ length (set seats source taken) = r.many in subst (λ n. source < n) (sym (m ∙ length-set seats source taken)) a.within in
      let same = ap (λ l. record (get_or seats' source seat') { outs = l }) outs_are ∙ ap (λ (q : SeatView). record q { outs = row' }) (get_or_default seats' source seat' no_seat there) in
      subst (λ q. LinksGo source seats (set seats' source q)) (sym (full_is ∙ same)) (links_go a r1)

-- one seat after another

module _ {source : ℕ} {before now : List SeatView} (b : BesideSoFar source before now) (here : source < length before) where
  pub row_here : AreLinkedBy EndsAreApart before → RowApart source (seat_at now source).outs now
  row_here linked = record {
    within = subst (λ n. source < n) (sym b.many) here;
    many = ap (λ n. n + 1) ((b.same source here).outs) ∙ linked.ends.outs source here ∙ sym b.many;
    ins = λ region lt. let lb : region < length before = subst (λ n. region < n) b.many lt in ap (λ n. n + 1) (b.same region lb).ins ∙ linked.ends.ins region lb ∙ sym b.many;
    each = λ target d e lt n.
        let lb : target < length before = subst (λ n. target < n) b.many lt in
        subst (λ o. EndsAreApart o (in_at now source target e)) (sym (b.outs_left source target d (omega arith) here lb n))
        (subst (EndsAreApart (out_at before source target d)) (sym (b.ins_left source target e (omega arith) here lb n)) (linked.each source target here lb n d e));
  }

  module _ {after : List SeatView} (g : LinksGo source now after) where
    in_now : (q : ℕ) → q < length before → q < length now
    in_now q lt = subst (λ n. q < n) (sym b.many) lt

    link_gone : (s target : ℕ) (d : RingOutView) (e : RingInView) → s < source + 1 → s < length before → target < length before → s ≢ target → Either (s ≡ source)
        → LinkGoes (out_at before s target d) (in_at before s target e) (out_at after s target d) (in_at after s target e)
    link_gone s target d e lt ls lt' n (inr m) =
        subst (λ o. LinkGoes (out_at before s target d) (in_at before s target e) o (in_at after s target e)) (sym (g.outs_left s target d m (in_now s ls)))
        (subst (LinkGoes (out_at before s target d) (in_at before s target e) (out_at now s target d)) (sym (g.ins_left s target e m n (in_now target lt')))
        (b.gone s target d e (omega (arith, lt, m)) ls lt' n))
    link_gone s target d e lt ls lt' n (inl is) =
        let apart : source ≢ target = λ i. n (is ∙ i) in
        subst (λ q. LinkGoes (out_at before q target d) (in_at before q target e) (out_at after q target d) (in_at after q target e)) (sym is)
        (subst (λ o. LinkGoes o (in_at before source target e) (out_at after source target d) (in_at after source target e)) (b.outs_left source target d (omega arith) here lt' apart)
        (subst (λ i. LinkGoes (out_at now source target d) i (out_at after source target d) (in_at after source target e)) (b.ins_left source target e (omega arith) here lt' apart)
        (g.gone target d e (in_now target lt') apart)))

    pub beside_goes : BesideSoFar (source + 1) before after
    beside_goes = record {
      many = g.many ∙ b.many;
      same = λ region lt. same_twice (b.same region lt) (g.same region (in_now region lt));
      gone = λ s target d e lt ls lt' n. link_gone s target d e lt ls lt' n (either_nat s source);
      outs_left = λ s target d le ls lt n.
          let m : s ≢ source = λ i. absurd (omega (arith, i, le)) in g.outs_left s target d m (in_now s ls) ∙ b.outs_left s target d (omega (arith, le)) ls lt n;
      ins_left = λ s target e le ls lt n.
          let m : s ≢ source = λ i. absurd (omega (arith, i, le)) in g.ins_left s target e m n (in_now target lt) ∙ b.ins_left s target e (omega (arith, le)) ls lt n;
    }

pub beside_ends : {source : ℕ} {before now : List SeatView} → BesideSoFar source before now → length now ≤ source → source ≤ length now → BesideSoFar (length before) before now
beside_ends {source} {before} {now} b all within = let m : length now ≡ length before = b.many in subst (λ n. BesideSoFar n before now) (omega (arith, m, all, within)) b
