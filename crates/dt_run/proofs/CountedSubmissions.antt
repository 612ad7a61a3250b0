-- What a region has submitted and placed is as much as it kept events of submissions and of placings.
use Rattle.std.proofs.Common.{◌≡◌, ◌≢◌, ◌<◌, ◌+◌, ℕ, true, false, cond, eqb, leb, ltb, ◌&&◌, Bool, List, []}
use Rattle.std.proofs.Common.{◌∷◌, ◌++◌, length, filter, Some, None, Option, refl, sym, ap, subst, ◌∙◌, inl, inr, arith, append-nil, eq-eqb, eqb-true}
use Rattle.std.proofs.lemmas.Bool.{false_from_ne_true}
use Rattle.std.proofs.lemmas.List.{get_or-replicate, length-append, length_push, map-append}
use Rattle.std.proofs.lemmas.List.Elements.{filter-append}
use Rattle.dt_lists.specs.Lists.{Either}
use Rattle.dt_lists.proofs.Callers.{either_nat, from_right}
use Rattle.dt_access.specs.Clash.{Bytes}
use Rattle.dt_events.specs.declared.Event.{Event}
use Rattle.dt_events.specs.declared.Event.TheVariants.{Submit, Append, Deliver, Insert, Resolve, Execute, Answer}
use Rattle.dt_events.specs.declared.Stamped.{Stamped}
use Rattle.dt_events.specs.Events.{region_of}
use Rattle.dt_events.specs.Stamps.{events_of}
use Rattle.dt_txn.specs.declared.Txn.{Txn}
use Rattle.dt_txn.specs.Transaction.{part_of}
use Rattle.dt_cluster.specs.Valid.{IsValidCluster}
use Rattle.dt_cluster.specs.declared.Cluster.{Cluster}
use Rattle.dt_workload.specs.Valid.{IsValidWorkload}
use Rattle.dt_workload.specs.declared.Session.{Session}
use Rattle.dt_workload.specs.declared.Workload.{Workload}
use Rattle.dt_session.specs.World.{World, Node, Place, no_node, node_at, opening_node, opening_table, opening_world, received_of, session_at}
use Rattle.dt_session.specs.Step.{IsLegal, MayAnswer, MaySubmit, answered, next, next_attempt, placed, received}
use Rattle.dt_session.specs.Run.{AreLegal, world_after, world_from}
use Rattle.dt_session.specs.Eager.{AllChange}
use Rattle.dt_agreement.proofs.Callers.{Submits, append_cases, legal_more, next_call_submits, world_after_more}
use Rattle.dt_merge.specs.Merge.{region_at, those_at}
use Rattle.dt_merge.specs.OwnPart.{Own, own}
use Rattle.dt_merge.specs.WorldRegions.{HasInvariant}
use Rattle.dt_merge.proofs.Callers.{node_there}
use Rattle.dt_run.proofs.ChronicleGrows.{good_after}
use Rattle.dt_run.specs.Marks.{places, placings_in, submissions_in, submits as is_submission}
use Rattle.dt_run.proofs.Laws.{attempt_of_own, frame, own_answered, own_appended, own_delivered, own_moved, own_submitted}

-- how many a test counts
abbrev one_if : Bool → ℕ
one_if true = 1
one_if false = 0

-- what an event makes of the counts of its own region
pub record Counts (e : Event) (n m : Node) : Type 0 where
  pub submitted : length m.submitted ≡ length n.submitted + one_if (is_submission e)
  pub placed : length m.log ≡ length n.log + one_if (places e)

still : (e : Event) (n m : Node) → is_submission e ≡ false → places e ≡ false → m.submitted ≡ n.submitted → m.log ≡ n.log → Counts e n m
still e n m s p x y = record {
  submitted = ap length x ∙ (let z : length n.submitted ≡ length n.submitted + 0 = omega arith in z) ∙ ap (λ b. length n.submitted + one_if b) (sym s);
  placed = ap length y ∙ (let z : length n.log ≡ length n.log + 0 = omega arith in z) ∙ ap (λ b. length n.log + one_if b) (sym p);
}

module _ {cluster : Cluster} (ok : IsValidCluster cluster) (workload : Workload) (w : World) (g : HasInvariant cluster workload w) (region : ℕ) (lr : region < cluster.regions) where
  by_own : (e : Event) (v : World) (o : Own) → own workload v region ≡ o → Counts e (node_at w region) o.node → Counts e (node_at w region) (node_at v region)
  by_own e v o is c = subst (λ (p : Own). Counts e (node_at w region) p.node) (sym is) c

  submit_counts : (name : Bytes) → MaySubmit cluster w region (session_at workload.sessions w.places region name) → Counts (Submit region name) (node_at w region) (node_at (next cluster workload w (Submit region name)) region)
  submit_counts name may =
      let s : Submits cluster workload w region name = next_call_submits g.inv ok region name may in
      subst (λ v. Counts (Submit region name) (node_at w region) (node_at v region)) (sym s.next)
      (by_own (Submit region name) _ _ (own_submitted cluster workload w region (node_there g region lr) s.session s.place s.call) (record {
        submitted = length_push (node_at w region).submitted (attempt_of_own cluster region s.session s.place s.call (own workload w region) (next_attempt w s.place.waits));
        placed = let z : length (node_at w region).log ≡ length (node_at w region).log + 0 = omega arith in z;
      }))

  append_counts : (source number : ℕ) → IsLegal cluster workload w (Append region source number) → next cluster workload w (Append region source number) ≢ w
      → Counts (Append region source number) (node_at w region) (node_at (next cluster workload w (Append region source number)) region)
  append_counts source number l changes = elim (append_cases g.inv region source number l.regions.0 l.regions.1 l.allowed) [
    | inl same ↦ absurd (changes same)
    | inr r ↦ subst (λ v. Counts (Append region source number) (node_at w region) (node_at v region)) (sym r.2) (made r.0)
  ]
    where
      made : (txn : Txn) → Counts (Append region source number) (node_at w region) (node_at (placed w region source (Some txn)) region)
      made txn = by_own (Append region source number) _ _ (own_appended cluster workload w region (node_there g region lr) source true (Some txn)) (record {
        submitted = let z : length (node_at w region).submitted ≡ length (node_at w region).submitted + 0 = omega arith in z;
        placed = length_push (node_at w region).log (part_of txn region);
      })

  deliver_counts : (home first last : ℕ) → Counts (Deliver region home first last) (node_at w region) (node_at (next cluster workload w (Deliver region home first last)) region)
  deliver_counts home first last = go (leb first (received_of w region home) && ltb (received_of w region home) last)
    where
      go : (b : Bool) → Counts (Deliver region home first last) (node_at w region) (node_at (cond b (received w region home last) w) region)
      go false = still (Deliver region home first last) (node_at w region) (node_at w region) refl refl refl refl
      go true = by_own (Deliver region home first last) _ _ (own_delivered cluster workload w region (node_there g region lr) home last true) (still (Deliver region home first last) (node_at w region) _ refl refl refl refl)

  answer_counts : (name : Bytes) → MayAnswer cluster w region (session_at workload.sessions w.places region name) → Counts (Answer region name) (node_at w region) (node_at (next cluster workload w (Answer region name)) region)
  answer_counts name may = go (session_at workload.sessions w.places region name) may
    where
      go : (x : Option (Session × Place)) → MayAnswer cluster w region x → Counts (Answer region name) (node_at w region) (node_at (answered workload w region x) region)
      go None m = absurd m
      go (Some (session, place)) m = by_own (Answer region name) _ _ (own_answered cluster workload w region session place) (still (Answer region name) (node_at w region) _ refl refl refl refl)

  pub event_counts : (e : Event) → region_of e ≡ region → IsLegal cluster workload w e → next cluster workload w e ≢ w → Counts e (node_at w region) (node_at (next cluster workload w e) region)
  event_counts (Submit r name) is l c = subst (λ q. Counts (Submit r name) (node_at w q) (node_at (next cluster workload w (Submit r name)) q)) is (of_here is l)
    where
      of_here : r ≡ region → IsLegal cluster workload w (Submit r name) → Counts (Submit r name) (node_at w r) (node_at (next cluster workload w (Submit r name)) r)
      of_here e m = subst (λ q. IsLegal cluster workload w (Submit q name) → Counts (Submit q name) (node_at w q) (node_at (next cluster workload w (Submit q name)) q)) (sym e) (λ k. submit_counts name k.allowed) m
  event_counts (Append r source number) is l c =
      subst (λ q. Counts (Append r source number) (node_at w q) (node_at (next cluster workload w (Append r source number)) q)) is
      (subst (λ q. IsLegal cluster workload w (Append q source number) → next cluster workload w (Append q source number) ≢ w
      → Counts (Append q source number) (node_at w q) (node_at (next cluster workload w (Append q source number)) q)) (sym is) (λ k n. append_counts source number k n) l c)
  event_counts (Deliver r home first last) is l c =
      subst (λ q. Counts (Deliver r home first last) (node_at w q) (node_at (next cluster workload w (Deliver r home first last)) q)) is
      (subst (λ q. Counts (Deliver q home first last) (node_at w q) (node_at (next cluster workload w (Deliver q home first last)) q)) (sym is) (deliver_counts home first last))
  event_counts (Insert r home) is l c =
      subst (λ q. Counts (Insert r home) (node_at w q) (node_at (next cluster workload w (Insert r home)) q)) is
      (subst (λ q. Counts (Insert q home) (node_at w q) (node_at (next cluster workload w (Insert q home)) q)) (sym is)
      (by_own (Insert region home) _ _ (own_moved cluster workload w region (node_there g region lr) _) (still (Insert region home) (node_at w region) _ refl refl refl refl)))
  event_counts (Resolve r ids) is l c =
      subst (λ q. Counts (Resolve r ids) (node_at w q) (node_at (next cluster workload w (Resolve r ids)) q)) is
      (subst (λ q. Counts (Resolve q ids) (node_at w q) (node_at (next cluster workload w (Resolve q ids)) q)) (sym is)
      (by_own (Resolve region ids) _ _ (own_moved cluster workload w region (node_there g region lr) _) (still (Resolve region ids) (node_at w region) _ refl refl refl refl)))
  event_counts (Execute r id) is l c =
      subst (λ q. Counts (Execute r id) (node_at w q) (node_at (next cluster workload w (Execute r id)) q)) is
      (subst (λ q. Counts (Execute q id) (node_at w q) (node_at (next cluster workload w (Execute q id)) q)) (sym is)
      (by_own (Execute region id) _ _ (own_moved cluster workload w region (node_there g region lr) _) (still (Execute region id) (node_at w region) _ refl refl refl refl)))
  event_counts (Answer r name) is l c =
      subst (λ q. Counts (Answer r name) (node_at w q) (node_at (next cluster workload w (Answer r name)) q)) is
      (subst (λ q. IsLegal cluster workload w (Answer q name) → Counts (Answer q name) (node_at w q) (node_at (next cluster workload w (Answer q name)) q)) (sym is) (λ k. answer_counts name k.allowed) l)

-- over lists

change_split : (cluster : Cluster) (workload : Workload) (w : World) (xs ys : List Event) → AllChange cluster workload w (xs ++ ys) → AllChange cluster workload w xs × AllChange cluster workload (world_from cluster workload w xs) ys
change_split cluster workload w [] ys a = (tt, a)
change_split cluster workload w (x ∷ xs) ys a = let r = change_split cluster workload (next cluster workload w x) xs ys a.1 in ((a.0, r.0), r.1)

one_counted : (test : Event → Bool) (x : Stamped) → length (filter (λ (y : Stamped). test y.event) (x ∷ [])) ≡ one_if (test x.event)
one_counted test x = go (test x.event)
  where
    go : (b : Bool) → length (cond b (x ∷ []) []) ≡ one_if b
    go true = refl
    go false = refl

counted_more : (test : Event → Bool) (xs ys : List Stamped)
    → length (filter (λ (y : Stamped). test y.event) (xs ++ ys)) ≡ length (filter (λ (y : Stamped). test y.event) xs) + length (filter (λ (y : Stamped). test y.event) ys)
counted_more test xs ys =
    ap length (filter-append (λ (y : Stamped). test y.event) xs ys) ∙ length-append (filter (λ (y : Stamped). test y.event) xs) (filter (λ (y : Stamped). test y.event) ys)

those_one : (q : ℕ) (x : Stamped) → region_at x ≡ q → those_at q (x ∷ []) ≡ x ∷ []
those_one q x is = rw (eq-eqb (region_at x) q is) refl

those_none : (q : ℕ) (x : Stamped) → region_at x ≢ q → those_at q (x ∷ []) ≡ []
those_none q x n = rw (false_from_ne_true (eqb (region_at x) q) (λ t. n (eqb-true (region_at x) q t))) refl

-- as many submissions and placings as a region made of these
pub record RegionIsCounted (cluster : Cluster) (workload : Workload) (items : List Stamped) (q : ℕ) : Type 0 where
  pub submitted : length (node_at (world_after cluster workload (events_of items)) q).submitted ≡ submissions_in (those_at q items)
  pub placed : length (node_at (world_after cluster workload (events_of items)) q).log ≡ placings_in (those_at q items)

module _ {cluster : Cluster} (ok : IsValidCluster cluster) {workload : Workload} (fits : IsValidWorkload cluster workload) (q : ℕ) (lq : q < cluster.regions) where
  opening_counted : RegionIsCounted cluster workload [] q
  opening_counted = record { submitted = ap (λ (n : Node). length n.submitted) none; placed = ap (λ (n : Node). length n.log) none }
    where
      none : node_at (opening_world cluster workload) q ≡ opening_node cluster.regions (opening_table cluster)
      none = get_or-replicate cluster.regions q (opening_node cluster.regions (opening_table cluster)) no_node lq

  -- the world after these
  abbrev after : List Stamped → World
  after items = world_after cluster workload (events_of items)

  -- each of these changes the world in which it happens
  abbrev AllChangeOf : List Stamped → Type 0
  AllChangeOf items = AllChange cluster workload (opening_world cluster workload) (events_of items)

  counted_step : (items : List Stamped) (x : Stamped) → AreLegal cluster workload (events_of items) → IsLegal cluster workload (after items) x.event
      → next cluster workload (after items) x.event ≢ after items
      → RegionIsCounted cluster workload items q → RegionIsCounted cluster workload (items ++ x ∷ []) q
  counted_step items x legal l changes c = by (either_nat (region_at x) q)
    where
      later : after (items ++ x ∷ []) ≡ next cluster workload (after items) x.event
      later = ap (world_after cluster workload) (map-append (λ (y : Stamped). y.event) items (x ∷ [])) ∙ world_after_more cluster workload (events_of items) x.event

      split : those_at q (items ++ x ∷ []) ≡ those_at q items ++ those_at q (x ∷ [])
      split = filter-append (λ y. eqb (region_at y) q) items (x ∷ [])

      good : HasInvariant cluster workload (after items)
      good = good_after ok fits items legal

      sum_is : (test : Event → Bool) → those_at q (x ∷ []) ≡ x ∷ []
          → length (filter (λ (y : Stamped). test y.event) (those_at q (items ++ x ∷ []))) ≡ length (filter (λ (y : Stamped). test y.event) (those_at q items)) + one_if (test x.event)
      sum_is test one =
          ap (λ l. length (filter (λ (y : Stamped). test y.event) l)) (split ∙ ap (λ l. those_at q items ++ l) one) ∙ counted_more test (those_at q items) (x ∷ [])
          ∙ ap (λ n. length (filter (λ (y : Stamped). test y.event) (those_at q items)) + n) (one_counted test x)

      by : Either (region_at x ≡ q) → RegionIsCounted cluster workload (items ++ x ∷ []) q
      by (inl is) =
          let e : Counts x.event (node_at (after items) q) (node_at (next cluster workload (after items) x.event) q) = event_counts ok workload (after items) good q lq x.event is l changes in
          let one : those_at q (x ∷ []) ≡ x ∷ [] = those_one q x is in
          record {
            submitted = ap (λ v. length (node_at v q).submitted) later ∙ e.submitted ∙ ap (λ n. n + one_if (is_submission x.event)) c.submitted ∙ sym (sum_is is_submission one);
            placed = ap (λ v. length (node_at v q).log) later ∙ e.placed ∙ ap (λ n. n + one_if (places x.event)) c.placed ∙ sym (sum_is places one);
          }
      by (inr n) =
          let same : node_at (next cluster workload (after items) x.event) q ≡ node_at (after items) q = ap (λ (o : Own). o.node) (frame cluster workload (after items) q x.event n) in
          let none : those_at q (items ++ x ∷ []) ≡ those_at q items = split ∙ ap (λ l. those_at q items ++ l) (those_none q x n) ∙ append-nil (those_at q items) in
          record {
            submitted = ap (λ v. length (node_at v q).submitted) later ∙ ap (λ (m : Node). length m.submitted) same ∙ c.submitted ∙ ap submissions_in (sym none);
            placed = ap (λ v. length (node_at v q).log) later ∙ ap (λ (m : Node). length m.log) same ∙ c.placed ∙ ap placings_in (sym none);
          }

  pub all_counted : (items : List Stamped) → AreLegal cluster workload (events_of items) → AllChangeOf items → RegionIsCounted cluster workload items q
  all_counted items = from_right (λ l. AreLegal cluster workload (events_of l) → AllChangeOf l → RegionIsCounted cluster workload l q)
      (λ legal changing. opening_counted)
      (λ xs x counted legal changing.
      let parts : events_of (xs ++ x ∷ []) ≡ events_of xs ++ x.event ∷ [] = map-append (λ (y : Stamped). y.event) xs (x ∷ []) in
      let l = legal_more cluster workload (events_of xs) x.event (subst (AreLegal cluster workload) parts legal) in
      let c = change_split cluster workload (opening_world cluster workload) (events_of xs) (x.event ∷ []) (subst (AllChange cluster workload (opening_world cluster workload)) parts changing) in
      counted_step xs x l.0 l.1 c.1.0 (counted l.0 c.0))
      items
