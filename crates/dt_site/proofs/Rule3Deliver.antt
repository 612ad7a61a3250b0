-- Rule 3: a region receives a stretch of a home's log. The entries are those of the world's log, from whichever place on:
-- below what the region has, at its end, or past it.
use Rattle.std.proofs.Common.{◌≡◌, ◌≢◌, ◌<◌, ◌≤◌, ◌+◌, ◌-◌, ◌⊎◌, ℕ, zero, suc, Bool, true, false, cond, ltb, leb, ◌&&◌, List, [], ◌∷◌, ◌++◌, length, map, set}
use Rattle.std.proofs.Common.{take, drop, Ok, Some, refl, sym, ap, ap₂, subst, ◌∙◌, inl, inr, append-nil, arith}
use Rattle.std.proofs.lemmas.Bool.Decides.{nat_tests}
use Rattle.std.proofs.lemmas.List.{drop-drop, drop-map, length-map, length-set, length-take-le, length-drop, map-set, get_or-set_same, get_or-set_other, set-get_or, set_comm}
use Rattle.std.proofs.Math.ListN.{drop_of_length-le, length-take}
use Rattle.std.proofs.Math.Seq.{map-set_same}
use Rattle.dt_lists.specs.Lists.{AllIn, Distinct, Has, IsFront}
use Rattle.dt_lists.proofs.Callers.{any_front, each_front, front_map, front_take, either_le, all_get, all_image, all_map, all_put, has_map, has_dropped}
use Rattle.dt_region.proofs.Callers.{fronts_few}
use Rattle.dt_access.specs.declared.TxnId.{TxnId}
use Rattle.dt_access.specs.declared.Part.{Part}
use Rattle.dt_log.specs.declared.Taken.{Taken}
use Rattle.dt_log.specs.declared.Taken.TheVariants.{New, Old, Gap}
use Rattle.dt_sched.specs.Views.{View, ids_of, log_at}
use Rattle.dt_sched.specs.Sched.{parts_in}
use Rattle.dt_events.specs.declared.Event.{Event}
use Rattle.dt_events.specs.declared.Event.TheVariants.{Deliver}
use Rattle.dt_txn.specs.declared.Entry.{Entry}
use Rattle.dt_txn.specs.declared.Txn.{Txn}
use Rattle.dt_txn.specs.Transaction.{homes_of, part_of, IsValid}
use Rattle.dt_txn.specs.Replica.{fronts}
use Rattle.dt_region.specs.Region.{RegionView, held, latest_stamp}
use Rattle.dt_region.specs.Rules.{MakesDelivery, after_deliver, past_end, with_entries, with_event}
use Rattle.dt_region.specs.Conditions.{CanDeliver, IsPartOf}
use Rattle.dt_region.specs.Sound.{IsSoundRegion}
use Rattle.dt_region.proofs.Callers.{kept_more, latest_more}
use Rattle.dt_events.specs.Stamps.{events_of}
use Rattle.dt_cluster.specs.declared.Cluster.{Cluster}
use Rattle.dt_workload.specs.declared.Workload.{Workload}
use Rattle.dt_session.specs.World.{World, Node, log_of, logs_of, no_node, node_at, received_lengths, received_logs, received_of, txn_of}
use Rattle.dt_session.specs.Step.{IsLegal, next, received}
use Rattle.dt_agreement.specs.Invariant.{IsPartAt}
use Rattle.dt_agreement.proofs.Callers.{log_distinct, part_homed, received_within, log_is, received_log, received_own}
use Rattle.dt_site.specs.Site.{SiteView, in_region, node_of}
use Rattle.dt_site.specs.StandsIn.{IsReached, StandsIn}
use Rattle.dt_site.proofs.Lists.{fronts_set, held_all}
use Rattle.dt_site.proofs.SitesInWorlds.{Steps, inv, node_then, own_of, txns_stay, valid_txn}

-- a list up to one place, and from there to a later one

pub front_and_rest : {A : Type 0} (first last : ℕ) (xs : List A) → first ≤ last → take first xs ++ drop first (take last xs) ≡ take last xs
front_and_rest zero last xs le = refl
front_and_rest (suc first) zero xs le = absurd (omega arith)
front_and_rest (suc first) (suc last) [] le = refl
front_and_rest (suc first) (suc last) (x ∷ xs) le = ap (λ l. x ∷ l) (front_and_rest first last xs (omega arith))

-- and from an earlier place to one that is not later
nothing_between : {A : Type 0} (first last : ℕ) (xs : List A) → last ≤ first → drop first (take last xs) ≡ []
nothing_between first last xs le = drop_of_length-le (take last xs) (omega (arith, length-take last xs))

drop_twice : {A : Type 0} (first rest more : ℕ) (xs : List A) → more ≡ first + rest → drop rest (drop first xs) ≡ drop more xs
drop_twice first rest more xs e = drop-drop rest first xs ∙ ap (λ n. drop n xs) (sym e)

drop_fronts : {A : Type 0} (n a b : ℕ) (xs : List A) → a ≤ b → IsFront (drop n (take a xs)) (drop n (take b xs))
drop_fronts zero a b xs le = (drop a (take b xs), front_and_rest a b xs le)
drop_fronts (suc n) zero b xs le = (drop (suc n) (take b xs), refl)
drop_fronts (suc n) (suc a) zero xs le = absurd (omega arith)
drop_fronts (suc n) (suc a) (suc b) [] le = ([], refl)
drop_fronts (suc n) (suc a) (suc b) (x ∷ xs) le = drop_fronts n a b xs (omega arith)

has_taken : {A : Type 0} (n : ℕ) (xs : List A) (x : A) → Has (take n xs) x → Has xs x
has_taken n xs x h = any_front (λ y. y ≡ x) (take n xs) xs (front_take n xs) h

-- a delivery goes on where what was received ends
abbrev pub joins : ℕ → ℕ → ℕ → Bool
joins received first last = leb first received && ltb received last

pub joins_from : (received first last : ℕ) → joins received first last ≡ true → first ≤ received
joins_from received first last = go (leb first received) (ltb received last) refl
  where
    go : (a b : Bool) → leb first received ≡ a → (a && b) ≡ true → first ≤ received
    go true b e t = grind (arith, nat_tests)
    go false b e t = cc

pub joins_to : (received first last : ℕ) → joins received first last ≡ true → received < last
joins_to received first last = go (leb first received) (ltb received last) refl
  where
    go : (a b : Bool) → ltb received last ≡ b → (a && b) ≡ true → received < last
    go true true e t = grind (arith, nat_tests)
    go true false e t = cc
    go false b e t = cc

module _ {cluster : Cluster} {workload : Workload} {w : World} (k : IsReached cluster workload w) {region : ℕ} (lr : region < cluster.regions) {p : SiteView} (s : StandsIn cluster.regions w region p)
    {home : ℕ} (lh : home < cluster.regions) where
  -- what the region has of the log is what it received in the world

  abbrev pub has_of : List Part
  has_of = log_at p.region.state.logs home

  has_log : has_of ≡ take (received_of w region home) (log_of w home)
  has_log = ap (λ l. log_at l home) s.logs ∙ received_log w region home

  in_log : received_of w region home ≤ length (log_of w home)
  in_log = received_within (inv k) region home lr lh

  pub has_received : length has_of ≡ received_of w region home
  has_received = ap length has_log ∙ length-take-le (received_of w region home) (log_of w home) in_log

  module _ (first last : ℕ) (ordered : first ≤ last) (within : last ≤ length (log_of w home)) where
    pub deliver_legal : IsLegal cluster workload w (Deliver region home first last)
    deliver_legal = record { regions = (lr, lh); allowed = (ordered, within) }

    pub deliver_still : joins (length has_of) first last ≡ false → next cluster workload w (Deliver region home first last) ≡ w
    deliver_still stays = ap (λ b. cond b (received w region home last) w) (subst (λ n. joins n first last ≡ false) has_received stays)

    -- nothing of a region's own log is new to it
    pub apart : (begin : ℕ) → joins (length has_of) begin last ≡ true → home ≢ region
    apart begin on e =
        let more : received_of w region home < last = subst (λ n. n < last) has_received (joins_to (length has_of) begin last on) in
        let fits : region < length (node_at w region).received = subst (λ n. region < n) (sym ((inv k).sized region lr).received) lr in
        let a : received_of w region region < last = subst (λ h. received_of w region h < last) e more in
        let b : last ≤ length (log_of w region) = subst (λ h. last ≤ length (log_of w h)) e within in
        let own : received_of w region region ≡ length (log_of w region) = received_own w region fits in
        omega (arith, a, b, own)

    -- entries of the home's log, with the world's transactions

    module _ (entries : List Entry) (parts : map (λ e. e.part) entries ≡ drop first (take last (log_of w home))) (txns : AllIn (λ e. txn_of w e.part.id ≡ Some e.txn) entries) where
      -- past what the region has, they are the log's
      past : (far : ℕ) → length has_of ≡ far → first ≤ far → map (λ e. e.part) (drop (length has_of - first) entries) ≡ drop far (take last (log_of w home))
      past far long le =
          sym (drop-map (λ e. e.part) (length has_of - first) entries) ∙ ap (drop (length has_of - first)) parts ∙ ap (λ n. drop (n - first) (drop first (take last (log_of w home)))) long
          ∙ drop_twice first (far - first) far (take last (log_of w home)) (omega arith)

      -- where there is no gap, the region has a longer front of the log with them

      joined : (far : ℕ) → has_of ≡ take far (log_of w home) → length has_of ≡ far → first ≤ far → (last ≤ far) ⊎ (far ≤ last)
          → (n : ℕ) × (n ≤ length (log_of w home)) × (far ≤ last → n ≡ last) × (with_entries has_of first entries ≡ take n (log_of w home))
      joined far is long le (inl shorter) =
          let none : map (λ e. e.part) (drop (length has_of - first) entries) ≡ [] = past far long le ∙ nothing_between far last (log_of w home) shorter in
          let few : far ≤ length (log_of w home) = subst (λ n. n ≤ length (log_of w home)) (sym has_received ∙ long) in_log in
          (far, few, λ longer. omega arith, ap (λ l. has_of ++ l) none ∙ append-nil has_of ∙ is)
      joined far is long le (inr longer) = (last, within, λ longer. refl, ap₂ (λ a b. a ++ b) is (past far long le) ∙ front_and_rest far last (log_of w home) longer)

      either_way : (a b : ℕ) → (a ≤ b) ⊎ (b ≤ a)
      either_way a b = elim (either_le a b) [ inl y ↦ inl y | inr n ↦ inr (omega arith) ]

      log_then : first ≤ length has_of
          → (n : ℕ) × (n ≤ length (log_of w home)) × (received_of w region home ≤ last → n ≡ last) × (with_entries has_of first entries ≡ take n (log_of w home))
      log_then le = joined (received_of w region home) has_log has_received (subst (λ n. first ≤ n) has_received le) (either_way last (received_of w region home))

      overlap : IsFront (map (λ e. e.part) entries) (drop first has_of) ⊎ IsFront (drop first has_of) (map (λ e. e.part) entries)
      overlap = subst (λ l. IsFront l (drop first has_of) ⊎ IsFront (drop first has_of) l) (sym parts)
          (subst (λ l. IsFront (drop first (take last (log_of w home))) (drop first l) ⊎ IsFront (drop first l) (drop first (take last (log_of w home)))) (sym has_log)
          (elim (either_way last (received_of w region home)) [
            | inl shorter ↦ inl (drop_fronts first last (received_of w region home) (log_of w home) shorter)
            | inr longer ↦ inr (drop_fronts first (received_of w region home) last (log_of w home) longer)
          ]))

      -- the logs of the region with a front of that length

      logs_then : home ≢ region → (n : ℕ) → set p.region.state.logs home (take n (log_of w home)) ≡ fronts (set (received_lengths w region) home n) (logs_of w)
      logs_then other n =
          let own : ℕ = length (log_of w region) in
          let fits : home < length (received_lengths w region) = subst (λ m. home < m) (sym (length-set (node_at w region).received region own ∙ ((inv k).sized region lr).received)) lh in
          ap₂ (λ l x. set l home (take n x)) s.logs (sym (log_is w home))
          ∙ sym (fronts_set (received_lengths w region) (logs_of w) home n (log_at (logs_of w) home) fits)
          ∙ ap (fronts (set (received_lengths w region) home n)) (set-get_or (logs_of w) home [])

      -- the logs of the region with these entries
      abbrev logs_with : View
      logs_with = set p.region.state.logs home (with_entries has_of first entries)

      few : home ≢ region → (le : first ≤ length has_of) → parts_in logs_with ≤ parts_in (logs_of w)
      few other le =
          subst (λ l. parts_in (set p.region.state.logs home l) ≤ parts_in (logs_of w)) (sym (log_then le).3)
          (subst (λ l. parts_in l ≤ parts_in (logs_of w)) (sym (logs_then other (log_then le).0)) (fronts_few (set (received_lengths w region) home (log_then le).0) (logs_of w)))

      -- each entry's part is of the home's log, and so it is that of its transaction

      part_here : AllIn (λ e. IsPartOf e.txn home e.part) entries
      part_here = all_put _ entries (λ e h.
          let there : Has (log_of w home) e.part = has_taken last (log_of w home) e.part (has_dropped first (take last (log_of w home)) e.part (subst (λ l. Has l e.part) parts (has_map (λ x. x.part) entries e h))) in
          let at : IsPartAt w home e.part = all_get (IsPartAt w home) (log_of w home) ((inv k).logs home lh).parts e.part there in
          let both : Some at.0 ≡ Some e.txn = sym at.1 ∙ all_get (λ x. txn_of w x.part.id ≡ Some x.txn) entries txns e h in
          let same : at.0 ≡ e.txn = cc in
          let homed : Has e.part.homes home = (part_homed cluster.regions w (inv k).nodes (inv k).ids (inv k).asked (inv k).logs home e.part lh there).1 in
          let is : e.part ≡ part_of e.txn home = at.2 ∙ ap (λ t. part_of t home) same in
          (subst (λ x. Has x.homes home) is homed, is))

      valid_here : AllIn (λ e. IsValid cluster.procs cluster.version cluster.regions e.txn) entries
      valid_here = all_map _ _ entries (λ e f. valid_txn k e.part.id e.txn f) txns

      own_id : AllIn (λ e. txn_of w e.txn.id ≡ Some e.txn) entries
      own_id = all_put _ entries (λ e h.
          let f : txn_of w e.part.id ≡ Some e.txn = all_get (λ x. txn_of w x.part.id ≡ Some x.txn) entries txns e h in
          let is : e.part ≡ part_of e.txn home = (all_get (λ x. IsPartOf x.txn home x.part) entries part_here e h).1 in
          subst (λ x. txn_of w x ≡ Some e.txn) (ap (λ x. x.id) is) f)

      -- what the region may be given
      pub can_deliver : home ≢ region → parts_in (logs_of w) < 4294967296 → CanDeliver p.region.state home first entries
      can_deliver other short = record {
        other = λ e. other (e ∙ s.number);
        overlap = overlap;
        parts = part_here;
        agree = all_put _ entries (λ e h. record {
          homes = subst (λ n. AllIn (λ x. x < n) (homes_of e.txn)) (sym s.many) (all_get _ entries valid_here e h).homes;
          same = λ o g. let both : Some o ≡ Some e.txn = sym (s.known e.txn.id o g) ∙ all_get _ entries own_id e h in cc;
          own = own_of k s e.txn (all_get _ entries own_id e h);
        });
        distinct = λ le. subst (λ l. Distinct (ids_of l)) (sym (log_then le).3)
            (each_front _ (ids_of (take (log_then le).0 (log_of w home))) (ids_of (log_of w home)) (front_map (λ p. p.id) (take (log_then le).0 (log_of w home)) (log_of w home) (front_take (log_then le).0 (log_of w home)))
            (log_distinct (inv k) home lh));
        few = λ le. let a : parts_in logs_with ≤ parts_in (logs_of w) = few other le in omega (arith, a, short);
      }

      -- a delivery that joins: it begins at some place, and of its entries those from `first` on are given

      module _ (begin : ℕ) (on : joins (length has_of) begin last ≡ true) (from_here : first ≤ length has_of) where
        goes_on : received_of w region home < last
        goes_on = subst (λ n. n < last) has_received (joins_to (length has_of) begin last on)

        begins_legal : IsLegal cluster workload w (Deliver region home begin last)
        begins_legal = let le = joins_from (length has_of) begin last on in record { regions = (lr, lh); allowed = (omega (arith, le, goes_on, has_received), within) }

        longer_log : with_entries has_of first entries ≡ take last (log_of w home)
        longer_log = let r = log_then from_here in let le : received_of w region home ≤ last = omega (arith, goes_on) in r.3 ∙ ap (λ n. take n (log_of w home)) (r.2 le)

        abbrev node_now : Node
        node_now = record (node_at w region) { received = set (node_at w region).received home last }

        received_is : next cluster workload w (Deliver region home begin last) ≡ received w region home last
        received_is = ap (λ b. cond b (received w region home last) w) (subst (λ n. joins n begin last ≡ true) has_received on)

        logs_same : logs_of (received w region home last) ≡ logs_of w
        logs_same = map-set_same (λ n. n.log) w.nodes region node_now no_node refl

        -- the logs of the region then, by both accounts
        logs_after : logs_with ≡ received_logs (received w region home last) region
        logs_after =
            let other : home ≢ region = apart begin on in
            let own : ℕ = length (log_of w region) in
            let node_then : node_at (received w region home last) region ≡ node_now = get_or-set_same w.nodes region node_now no_node (subst (λ n. region < n) (sym (inv k).nodes) lr) in
            ap (set p.region.state.logs home) longer_log ∙ logs_then other last
            ∙ ap (λ l. fronts l (logs_of w)) (set_comm (node_at w region).received region home own last (λ e. other (sym e)))
            ∙ ap (fronts (set (set (node_at w region).received home last) region own)) (sym logs_same)
            ∙ sym (ap (λ n. fronts (set n.received region (length n.log)) (logs_of (received w region home last))) node_then)

        several : length entries ≡ last - first
        several =
            let a : length (map (λ e. e.part) entries) ≡ length entries = length-map entries (λ e. e.part) in
            let b : length (map (λ e. e.part) entries) ≡ length (drop first (take last (log_of w home))) = ap length parts in
            let d : length (take last (log_of w home)) ≡ last = length-take-le last (log_of w home) within in
            omega (arith, length-drop first (take last (log_of w home)))

        to_last : first + length entries ≡ last
        to_last = omega (arith, several, ordered)

        -- the region after the event

        abbrev event : Event
        event = Deliver p.region.state.number home begin (first + length entries)

        module _ (r : RegionView) (is : r ≡ with_event p.region (after_deliver p.region.state home first entries) event) (sound : IsSoundRegion r.state) where
          node_made : node_of (in_region p r) ≡ node_now
          node_made =
              let here : ℕ = p.region.state.number in
              let other : home ≢ here = λ e. apart begin on (e ∙ s.number) in
              let new_log : log_at logs_with here ≡ log_at p.region.state.logs here =
              get_or-set_other p.region.state.logs home here (with_entries has_of first entries) [] (λ e. other (sym e)) in
              let new_received : set (map length logs_with) here 0 ≡ set (set (map length p.region.state.logs) here 0) home last =
              ap (λ l. set (map length (set p.region.state.logs home l)) here 0) longer_log
              ∙ ap (λ l. set l here 0) (map-set length p.region.state.logs home (take last (log_of w home)) ∙ ap (set (map length p.region.state.logs) home) (length-take-le last (log_of w home) within))
              ∙ set_comm (map length p.region.state.logs) home here last 0 other in
              ap (λ x. node_of (in_region p x)) is
              ∙ ap₂ (λ (a : List Part) (b : List ℕ). record (node_of p) { log = a; received = b }) new_log new_received
              ∙ ap (λ (n : Node). record n { received = set n.received home last }) s.node

          next_is : next cluster workload w (Deliver region home begin last) ≡ record { nodes = set w.nodes region (node_of (in_region p r)); places = w.places }
          next_is = received_is ∙ ap (λ n. record { nodes = set w.nodes region n; places = w.places }) (sym node_made)

          others : (q : ℕ) → q ≢ region → q < cluster.regions → received_logs (next cluster workload w (Deliver region home begin last)) q ≡ received_logs w q
          others q n lq =
              ap (λ v. received_logs v q) received_is
              ∙ ap₂ (λ x l. fronts (set x.received q (length x.log)) l) (get_or-set_other w.nodes region q node_now no_node n) logs_same

          known_now : (x : TxnId) (u : Txn) → held r.state x ≡ Some u → txn_of w x ≡ Some u
          known_now x u h = elim (held_all p.region.state.submitted p.region.state.foreign (map (λ e. e.txn) (past_end has_of first entries)) x u (subst (λ v. held v.state x ≡ Some u) is h)) [
            | inl o ↦ s.known x u o
            | inr e ↦ subst (λ y. txn_of w y ≡ Some u) e.1 (all_get (λ t. txn_of w t.id ≡ Some t) (map (λ e. e.txn) entries) (all_image (λ t. txn_of w t.id ≡ Some t) (λ e. e.txn) entries own_id) u
                (has_dropped (length has_of - first) (map (λ e. e.txn) entries) u (subst (λ l. Has l u) (sym (drop-map (λ e. e.txn) (length has_of - first) entries)) e.0)))
          ]

          deliver_steps : Steps cluster workload w (Deliver region home begin last) region p (in_region p r) w.places
          deliver_steps = record {
            legal = begins_legal;
            is = next_is;
            stands = record {
              number = ap (λ x. x.state.number) is ∙ s.number;
              many = ap (λ x. x.state.regions) is ∙ s.many;
              sound = sound;
              logs = ap (λ x. x.state.logs) is ∙ logs_after ∙ sym (ap (λ v. received_logs v region) received_is);
              origins = s.origins ∙ sym (ap (λ x. length x.state.submitted) is);
              known = λ x u h. txns_stay k (Deliver region home begin last) begins_legal x u (known_now x u h);
              node = node_then k (Deliver region home begin last) (in_region p r) lr next_is;
            };
            others = others;
            kept =
                ap (λ x. events_of x.events) is ∙ kept_more p.region p.region.state event
                ∙ ap₂ (λ a b. events_of p.region.events ++ Deliver a home begin b ∷ []) s.number to_last;
            stamp = ap latest_stamp is ∙ latest_more p.region p.region.state event;
          }

        pub deliver_made : (r : RegionView) (t : Taken) → MakesDelivery p.region home begin first entries (Ok t) r → IsSoundRegion r.state
            → Steps cluster workload w (Deliver region home begin last) region p (in_region p r) w.places
        deliver_made r (New n) m sound = deliver_steps r m.3 sound
        deliver_made r Old m sound = let a : first + length entries ≤ length has_of = m.1 in absurd (omega (arith, a, to_last, has_received, goes_on))
        deliver_made r Gap m sound = let a : length has_of < first = m.0 in absurd (omega (arith, a, from_here))
