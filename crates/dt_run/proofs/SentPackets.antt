-- What a node sends is true: whoever has all of its events up to the packet's stamp has all that the packet says.
use Rattle.std.proofs.Common.{◌≡◌, ◌≢◌, ◌<◌, ◌≤◌, ◌+◌, ℕ, zero, suc, List, [], ◌∷◌, ◌++◌, length, drop, take}
use Rattle.std.proofs.Common.{get_or, set, min, slice_get, Some, option_map, eqb, refl, sym, ap, subst, ◌∙◌, inl, inr, arith, eq-eqb}
use Rattle.std.specs.Prelude.{filter_map, slice_index}
use Rattle.std.proofs.lemmas.List.{length-map, length-take, map-append}
use Rattle.std.proofs.Math.Seq.{take-nil}
use Rattle.dt_lists.specs.Lists.{AllIn, EachThen, Has}
use Rattle.dt_lists.proofs.Callers.{all_get, all_image, all_map, all_put, any_append_right, has_filter, has_map, place_of}
use Rattle.dt_access.specs.declared.Part.{Part}
use Rattle.dt_access.specs.declared.TxnId.{TxnId}
use Rattle.dt_events.specs.declared.Event.{Event}
use Rattle.dt_events.specs.declared.Stamped.{Stamped}
use Rattle.dt_events.specs.Events.{region_of}
use Rattle.dt_events.specs.Stamps.{events_of, last_stamp}
use Rattle.dt_sched.specs.Views.{log_at}
use Rattle.dt_txn.specs.declared.Entry.{Entry}
use Rattle.dt_txn.specs.declared.Txn.{Txn}
use Rattle.dt_txn.specs.Replica.{taken_from}
use Rattle.dt_region.specs.Region.{RegionState, held}
use Rattle.dt_region.specs.Sound.{AreCounted, IsSoundRegion}
use Rattle.dt_region.proofs.Callers.{all_drop, held_id, held_own}
use Rattle.dt_packet.specs.declared.packet.Packet.{Packet}
use Rattle.dt_cluster.specs.declared.Cluster.{Cluster}
use Rattle.dt_workload.specs.declared.Workload.{Workload}
use Rattle.dt_session.specs.World.{World, Node, node_at, opening_world, asked_of, find_submission, log_of, received_of, taken_of, txn_of}
use Rattle.dt_session.specs.Step.{next}
use Rattle.dt_session.specs.Run.{AreLegal, AreLegalFrom, world_after, world_from}
use Rattle.dt_agreement.specs.Invariant.{IsPartAt}
use Rattle.dt_agreement.proofs.Callers.{IsRequest, legal_append, next_keeps, next_txns, ordered, request_is, world_from_append}
use Rattle.dt_merge.specs.Merge.{AreLater, HasLowerStamp, region_at, those_at}
use Rattle.dt_merge.specs.OwnPart.{Own, own}
use Rattle.dt_merge.specs.WorldRegions.{HasInvariant}
use Rattle.dt_cluster.specs.Valid.{IsValidCluster}
use Rattle.dt_workload.specs.Valid.{IsValidWorkload}
use Rattle.dt_node.specs.NodeView.{NodeView, entry_held, most_items, number_of, packet_for, stretch_from}
use Rattle.dt_node.specs.Packets.{IsToldOf, IsTruePacket}
use Rattle.dt_node.specs.NodeInWorld.{NodeFits}
use Rattle.dt_run.proofs.Laws.{IsHeld, all_take, found_ids, found_parts, frame, own_of, reached}
use Rattle.dt_run.proofs.ChronicleGrows.{good_after}
use Rattle.dt_run.proofs.TurnsInOrder.{good_world, received_here}
use Rattle.dt_run.proofs.OneChronicle.{below_last}

-- lists

take_drop : {A : Type 0} (m k : ℕ) (xs : List A) → take m (drop k xs) ≡ drop k (take (k + length (take m (drop k xs))) xs)
take_drop m zero xs = whole m xs ∙ ap (λ k. take k xs) (let z : length (take m xs) ≡ 0 + length (take m xs) = omega arith in z)
  where
    whole : {B : Type 0} (n : ℕ) (ys : List B) → take n ys ≡ take (length (take n ys)) ys
    whole zero ys = refl
    whole (suc n) [] = refl
    whole (suc n) (y ∷ ys) = ap (λ l. y ∷ l) (whole n ys)
take_drop m (suc k) [] = take-nil m ∙ sym (ap (drop (suc k)) (take-nil (suc k + length (take m (drop (suc k) [])))))
take_drop m (suc k) (x ∷ xs) =
    take_drop m k xs ∙ ap (λ c. drop (suc k) (take c (x ∷ xs))) (let z : suc (k + length (take m (drop k xs))) ≡ suc k + length (take m (drop k xs)) = omega arith in z)

long_within : {A : Type 0} (m k : ℕ) (xs : List A) → k ≤ length xs → k + length (take m (drop k xs)) ≤ length xs
long_within m zero xs le = let e : length (take m xs) ≡ min m (length xs) = length-take m xs in omega (arith, e)
long_within m (suc k) [] le = absurd (omega (arith, le))
long_within m (suc k) (x ∷ xs) le = let r : k + length (take m (drop k xs)) ≤ length xs = long_within m k xs (omega (arith, le)) in omega (arith, r)

-- own transactions are held

counted_at : (region seq : ℕ) (xs : List Txn) → AreCounted region seq xs → (k : ℕ) (x : Txn) → slice_get xs k ≡ Some x → (x.id.seq ≡ seq + k) × (x.id.region ≡ region)
counted_at region seq [] c k x e = cc
counted_at region seq (y ∷ xs) c zero x e =
    let same : y ≡ x = cc in
    let first : y.id.seq ≡ seq = ap (λ i. i.seq) c.0 in
    let here : y.id.seq ≡ seq + zero = omega (arith, first) in
    (subst (λ z. z.id.seq ≡ seq + zero) same here, subst (λ z. z.id.region ≡ region) same (ap (λ i. i.region) c.0))
counted_at region seq (y ∷ xs) c (suc k) x e =
    let r = counted_at region (seq + 1) xs c.1 k x e in
    let s : x.id.seq ≡ (seq + 1) + k = r.0 in
    (omega (arith, s), r.1)

pub held_submitted : (s : RegionState) → IsSoundRegion s → (x : Txn) → Has s.submitted x → held s x.id ≡ Some x
held_submitted s sound x h =
    let p : (i : ℕ) × (slice_get s.submitted i ≡ Some x) = place_of s.submitted x h in
    let at = counted_at s.number 1 s.submitted sound.counted p.0 x p.1 in
    held_own s.number s.submitted s.foreign x.id p.0 sound.counted sound.foreign at.1 at.0 ∙ p.1

-- looking all of a list up

module _ (s : RegionState) where
  looked_held : (ids : List TxnId) → AllIn (IsHeld s) ids → AllIn (λ t. held s t.id ≡ Some t) (filter_map (held s) ids)
  looked_held [] a = tt
  looked_held (id ∷ ids) a = rw a.0.1 (subst (λ i. held s i ≡ Some a.0.0) (sym (held_id s id a.0.0 a.0.1)) a.0.1, looked_held ids a.1)

  looked_entries : (parts : List Part) → AllIn (λ p. IsHeld s p.id) parts → AllIn (λ e. Has parts e.part × (held s e.part.id ≡ Some e.txn)) (filter_map (entry_held s) parts)
  looked_entries [] a = tt
  looked_entries (p ∷ parts) a = rw a.0.1 ((inl refl, a.0.1), all_map _ _ (filter_map (entry_held s) parts) (λ e h. (inr h.0, h.1)) (looked_entries parts a.1))

-- other regions' events leave what is a region's own, and lose no transaction

own_still : (cluster : Cluster) (workload : Workload) (q : ℕ) (events : List Event) (w : World) → AllIn (λ e. region_of e ≢ q) events → own workload (world_from cluster workload w events) q ≡ own workload w q
own_still cluster workload q [] w a = refl
own_still cluster workload q (e ∷ events) w a = own_still cluster workload q events (next cluster workload w e) a.1 ∙ frame cluster workload w q e a.0

txns_still : {cluster : Cluster} → IsValidCluster cluster → {workload : Workload} → IsValidWorkload cluster workload → (events : List Event) (w : World) → HasInvariant cluster workload w
    → AreLegalFrom cluster workload w events → (id : TxnId) (txn : Txn) → txn_of w id ≡ Some txn → txn_of (world_from cluster workload w events) id ≡ Some txn
txns_still ok fits [] w good legal id txn e = e
txns_still {cluster} ok {workload} fits (x ∷ events) w good legal id txn e =
    txns_still ok fits events (next cluster workload w x) (record { order = ordered good.order x; inv = next_keeps ok fits w good.order x legal.0 good.inv }) legal.1 id txn
    (next_txns ok fits w good.order x legal.0 good.inv id txn e)

module _ {cluster : Cluster} {workload : Workload} (all : List Stamped) {n : NodeView} (f : NodeFits cluster workload (events_of all) n) (kept_is : those_at (number_of n) all ≡ n.site.region.events)
    (rising : EachThen HasLowerStamp n.site.region.events) (target : ℕ) (there : target < cluster.regions) (apart : target ≢ number_of n) where
  abbrev me : ℕ
  me = number_of n

  abbrev s : RegionState
  s = n.site.region.state

  abbrev whole : World
  whole = world_after cluster workload (events_of all)

  abbrev asked : List TxnId
  asked = get_or s.here.asked target []

  abbrev log : List Part
  log = log_at s.logs me

  asked_is : asked_of whole me target ≡ asked
  asked_is = ap (λ (x : Node). get_or x.here.asked target []) (sym f.site.node)

  log_is_its : log_of whole me ≡ log
  log_is_its = ap (λ (x : Node). x.log) (sym f.site.node)

  good : HasInvariant cluster workload whole
  good = good_world f

  requests_held : AllIn (IsHeld s) asked
  requests_held = subst (AllIn (IsHeld s)) asked_is (all_put (IsHeld s) (asked_of whole me target) one)
    where
      one : (id : TxnId) → Has (asked_of whole me target) id → IsHeld s id
      one id h =
          let r : IsRequest whole target me id = request_is good.inv target me there f.number id h in
          let t = r.submission.txn in
          let found : txn_of whole t.id ≡ Some t = subst (λ i. txn_of whole i ≡ Some t) (sym r.same) r.found in
          let mine : Has s.submitted t = own_of (reached f) f.site t found (ap (λ i. i.region) r.same ∙ r.region) in
          (t, subst (λ i. held s i ≡ Some t) r.same (held_submitted s f.site.sound t mine))

  parts_held : AllIn (λ p. IsHeld s p.id) log
  parts_held = all_map _ _ log (λ p h. (h.0, h.1)) (f.site.sound.parts me)

  pub first_asked : get_or n.took target 0 ≤ length asked
  first_asked =
      let k : get_or n.took target 0 ≤ taken_of whole target me = (f.knows target apart).took in
      let l : taken_of whole target me ≤ length (asked_of whole me target) = (good.inv.logs target there).taken me f.number in
      let e : length (asked_of whole me target) ≡ length asked = ap length asked_is in
      omega (arith, k, l, e)

  pub first_entry : get_or n.received target 0 ≤ length log
  first_entry =
      let k : get_or n.received target 0 ≤ received_of whole target me = (f.knows target apart).received in
      let l : received_of whole target me ≤ length (log_of whole me) = (good.inv.lengths target me there f.number).received in
      let e : length (log_of whole me) ≡ length log = ap length log_is_its in
      omega (arith, k, l, e)

  abbrev p : Packet
  p = packet_for n target

  abbrev ids : List TxnId
  ids = stretch_from (get_or n.took target 0) asked

  abbrev parts : List Part
  parts = stretch_from (get_or n.received target 0) log

  ids_held : AllIn (IsHeld s) ids
  ids_held = all_take (IsHeld s) most_items _ (all_drop (IsHeld s) (get_or n.took target 0) asked requests_held)

  ids_parts_held : AllIn (λ q. IsHeld s q.id) parts
  ids_parts_held = all_take (λ (q : Part). IsHeld s q.id) most_items _ (all_drop (λ (q : Part). IsHeld s q.id) (get_or n.received target 0) log parts_held)

  pub asked_long : length p.asked ≡ length ids
  asked_long = sym (length-map p.asked (λ (t : Txn). t.id)) ∙ ap length (found_ids s ids ids_held)

  pub entries_long : length p.entries ≡ length parts
  entries_long = sym (length-map p.entries (λ (e : Entry). e.part)) ∙ ap length (found_parts s parts ids_parts_held)

  -- where only later events of others are left
  module _ (front rest : List Stamped) (cut : all ≡ front ++ rest) (later : AreLater me (last_stamp n.site.region.events) rest) where
    abbrev w : World
    w = world_after cluster workload (events_of front)

    none : AllIn (λ e. region_of e ≢ me) (events_of rest)
    none = all_image (λ e. region_of e ≢ me) (λ (x : Stamped). x.event) rest (all_put _ rest (λ x h is. absurd (late x h is)))
      where
        late : (x : Stamped) → Has rest x → region_at x ≡ me → ⊥
        late x h is =
            let after : last_stamp n.site.region.events < x.stamp = all_get (λ y. region_at y ≡ me → last_stamp n.site.region.events < y.stamp) rest later x h is in
            let in_all : Has all x = subst (λ l. Has l x) (sym cut) (any_append_right (λ y. y ≡ x) front rest h) in
            let kept : Has n.site.region.events x = subst (λ l. Has l x) kept_is (has_filter (λ y. eqb (region_at y) me) all x in_all (eq-eqb (region_at x) me is)) in
            let low : x.stamp ≤ last_stamp n.site.region.events = all_get (λ y. y.stamp ≤ last_stamp n.site.region.events) n.site.region.events (below_last n.site.region.events rising) x kept in
            omega (arith, after, low)

    events_cut : events_of all ≡ events_of front ++ events_of rest
    events_cut = ap events_of cut ∙ map-append (λ (x : Stamped). x.event) front rest

    whole_is : whole ≡ world_from cluster workload w (events_of rest)
    whole_is = ap (world_after cluster workload) events_cut ∙ world_from_append cluster workload (opening_world cluster workload) (events_of front) (events_of rest)

    legal_parts : AreLegal cluster workload (events_of front) × AreLegalFrom cluster workload w (events_of rest)
    legal_parts = legal_append cluster workload (opening_world cluster workload) (events_of front) (events_of rest) (subst (AreLegal cluster workload) events_cut f.run.legal)

    good_w : HasInvariant cluster workload w
    good_w = good_after f.run.sound f.run.fits front legal_parts.0

    node_same : node_at w me ≡ node_at whole me
    node_same = sym (ap (λ v. node_at v me) whole_is ∙ ap (λ (o : Own). o.node) (own_still cluster workload me (events_of rest) w none))

    own_txn : (id : TxnId) (t : Txn) → id.region ≡ me → txn_of whole id ≡ Some t → txn_of w id ≡ Some t
    own_txn id t at e =
        subst (λ (x : Node). option_map (λ y. y.txn) (find_submission x.submitted id) ≡ Some t) (subst (λ r. node_at whole r ≡ node_at w r) (sym at) (sym node_same)) e

    asks : asked_of w me target ≡ asked
    asks = ap (λ (x : Node). get_or x.here.asked target []) node_same ∙ asked_is

    logs : log_of w me ≡ log
    logs = ap (λ (x : Node). x.log) node_same ∙ log_is_its

    told : IsToldOf w p
    told = record {
      asked_to = subst (λ l. get_or n.took target 0 + length p.asked ≤ length l) (sym asks)
          (subst (λ m. get_or n.took target 0 + m ≤ length asked) (sym asked_long) (long_within most_items (get_or n.took target 0) asked first_asked));
      asked = found_ids s ids ids_held ∙ take_drop most_items (get_or n.took target 0) asked
          ∙ ap (λ m. drop (get_or n.took target 0) (take (get_or n.took target 0 + m) asked)) (sym asked_long)
          ∙ ap (λ l. drop (get_or n.took target 0) (take (get_or n.took target 0 + length p.asked) l)) (sym asks);
      asked_txns = all_put _ p.asked asked_one;
      entries_to = subst (λ l. get_or n.received target 0 + length p.entries ≤ length l) (sym logs)
          (subst (λ m. get_or n.received target 0 + m ≤ length log) (sym entries_long) (long_within most_items (get_or n.received target 0) log first_entry));
      entries = found_parts s parts ids_parts_held ∙ take_drop most_items (get_or n.received target 0) log
          ∙ ap (λ m. drop (get_or n.received target 0) (take (get_or n.received target 0 + m) log)) (sym entries_long)
          ∙ ap (λ l. drop (get_or n.received target 0) (take (get_or n.received target 0 + length p.entries) l)) (sym logs);
      entry_txns = all_put _ p.entries entry_one;
      took = let e : taken_of w me target ≡ taken_from s.here target = ap (λ (x : Node). taken_from x.here target) (node_same ∙ sym f.site.node) in omega (arith, e);
      received =
          let e : received_of w me target ≡ received_of whole me target = ap (λ (x : Node). slice_index (set x.received me (length x.log)) target) node_same in
          let g : received_of whole me target ≡ length (log_at s.logs target) = received_here f target there in
          omega (arith, e, g);
    }
      where
        asked_one : (t : Txn) → Has p.asked t → txn_of w t.id ≡ Some t
        asked_one t h =
            let e : held s t.id ≡ Some t = all_get (λ x. held s x.id ≡ Some x) p.asked (looked_held s ids ids_held) t h in
            let mine : Has ids t.id = subst (λ l. Has l t.id) (found_ids s ids ids_held) (has_map (λ (x : Txn). x.id) p.asked t h) in
            let r : AllIn (λ i. i.region ≡ me) ids = all_take _ most_items _ (all_drop _ (get_or n.took target 0) asked own_ids) in
            own_txn t.id t (all_get (λ i. i.region ≡ me) ids r t.id mine) (f.site.known t.id t e)
          where
            own_ids : AllIn (λ (i : TxnId). i.region ≡ me) asked
            own_ids = subst (AllIn (λ (i : TxnId). i.region ≡ me)) asked_is
                (all_put _ (asked_of whole me target) (λ i k. (request_is good.inv target me there f.number i k).region))

        entry_one : (e : Entry) → Has p.entries e → txn_of w e.part.id ≡ Some e.txn
        entry_one e h =
            let r : Has parts e.part × (held s e.part.id ≡ Some e.txn) = all_get _ p.entries (looked_entries s parts ids_parts_held) e h in
            let known : AllIn (IsPartAt w me) log = subst (AllIn (IsPartAt w me)) logs (good_w.inv.logs me f.number).parts in
            let part : IsPartAt w me e.part = all_get (IsPartAt w me) parts (all_take _ most_items _ (all_drop _ (get_or n.received target 0) log known)) e.part r.0 in
            let there_too : txn_of whole e.part.id ≡ Some part.0 =
            subst (λ v. txn_of v e.part.id ≡ Some part.0) (sym whole_is) (txns_still f.run.sound f.run.fits (events_of rest) w good_w legal_parts.1 e.part.id part.0 part.1) in
            let same : Some part.0 ≡ Some e.txn = sym there_too ∙ f.site.known e.part.id e.txn r.1 in
            part.1 ∙ same

  few : {A : Type 0} (k : ℕ) (xs : List A) → length (stretch_from k xs) ≤ most_items
  few k xs = let e : length (stretch_from k xs) ≡ min most_items (length (drop k xs)) = length-take most_items (drop k xs) in omega (arith, e)

  -- what the node sends the target is true
  pub snapshot_true : IsTruePacket cluster workload all p
  snapshot_true = record {
    few_asked = subst (λ m. m ≤ most_items) (sym asked_long) (few (get_or n.took target 0) asked);
    few_entries = subst (λ m. m ≤ most_items) (sym entries_long) (few (get_or n.received target 0) log);
    asked_from = (f.knows target apart).took;
    entries_from = (f.knows target apart).received;
    told = λ front rest cut later. told front rest cut later;
  }
