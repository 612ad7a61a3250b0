-- A delivery keeps the invariant.
use Rattle.std.proofs.Common.{◌≡◌, ◌<◌, ◌≤◌, ℕ, Bool, true, false, cond, ltb, leb, ◌&&◌, List, length, get_or, set, refl, sym, ap, subst, ◌∙◌, inl, inr, arith}
use Rattle.std.specs.Prelude.{slice_index}
use Rattle.std.proofs.lemmas.Bool.{and_parts}
use Rattle.std.proofs.lemmas.Bool.Decides.{nat_tests}
use Rattle.std.proofs.lemmas.List.{length-set, get_or-set_same, get_or-set_other}
use Rattle.dt_lists.specs.Lists.{Either}
use Rattle.dt_lists.proofs.Callers.{either_nat}
use Rattle.dt_access.specs.declared.TxnId.{TxnId}
use Rattle.dt_cluster.specs.declared.Cluster.{Cluster}
use Rattle.dt_workload.specs.declared.Workload.{Workload}
use Rattle.dt_session.specs.World.{World, Node, node_at, log_of, received_of, view_at}
use Rattle.dt_session.specs.Step.{received, next}
use Rattle.dt_events.specs.declared.Event.TheVariants.{Deliver}
use Rattle.dt_agreement.specs.Invariant.{AreInOrder, Inv}
use Rattle.dt_agreement.proofs.InvariantParts.{Lengths, sound_kept, tables_kept, ordered_kept}
use Rattle.dt_agreement.proofs.OneRegion.{Leaves, change_keeps, leaves}
use Rattle.dt_agreement.proofs.Views.{view_is}
use Rattle.dt_agreement.proofs.RegionViews.{view_fronts}
use Rattle.dt_txn.specs.Replica.{fronts, done_ids}

module _ {cluster : Cluster} {workload : Workload} {w : World} {order : List TxnId} (i : Inv cluster workload w order)
    (region home last : ℕ) (lr : region < cluster.regions) (lh : home < cluster.regions) (rises : received_of w region home ≤ last) (reaches : last ≤ length (log_of w home)) where
  n' : Node
  n' = record (node_at w region) { received = set (node_at w region).received home last }

  v : World
  v = received w region home last

  left : Leaves cluster w v region n'
  unfolding v n'
  left = leaves i region lr n' (record { submitted = refl; log = refl; asked = refl; taken = refl })

  -- what the region received, of each home
  received_here : (other : ℕ) → other < cluster.regions → (received_of w region other ≤ received_of v region other) × (received_of v region other ≤ length (log_of w other))
  unfolding v n'
  received_here other lo = by (either_nat other region) (either_nat other home)
    where
      log : length (log_of v region) ≡ length (log_of w region)
      log = ap length (left.keeps (λ n. n.log) refl region)

      sizes : length (node_at w region).received ≡ cluster.regions
      sizes = (i.sized region lr).received

      -- the lengths that the region received, its own log aside
      others : List ℕ
      others = set (node_at w region).received home last

      own : ℕ
      own = length (log_of v region)

      within : region < length others
      within = subst (λ m. region < m) (sym (length-set (node_at w region).received home last ∙ sizes)) lr

      now : received_of v region other ≡ get_or (set others region own) other 0
      now = ap (λ n. get_or (set n.received region own) other 0) left.node

      before : AreInOrder w region other
      before = i.lengths region other lr lo

      by : Either (other ≡ region) → Either (other ≡ home) → (received_of w region other ≤ received_of v region other) × (received_of v region other ≤ length (log_of w other))
      by (inl e) h =
          let is : received_of v region other ≡ length (log_of w region) =
          now ∙ ap (λ x. get_or (set others region own) x 0) e ∙ get_or-set_same others region own 0 within ∙ log in
          let same : length (log_of w other) ≡ length (log_of w region) = ap (λ x. length (log_of w x)) e in
          let most : received_of w region other ≤ length (log_of w other) = before.received in
          (omega arith, omega arith)
      by (inr n) (inl e) =
          let is : received_of v region other ≡ last =
          now ∙ get_or-set_other others region other own 0 n ∙ ap (λ x. get_or others x 0) e
          ∙ get_or-set_same (node_at w region).received home last 0 (subst (λ m. home < m) (sym sizes) lh) in
          let same : length (log_of w other) ≡ length (log_of w home) = ap (λ x. length (log_of w x)) e in
          let was : received_of w region other ≡ received_of w region home = ap (λ x. received_of w region x) e in
          (omega arith, omega arith)
      by (inr n) (inr m) =
          let is : received_of v region other ≡ received_of w region other =
          now ∙ get_or-set_other others region other own 0 n ∙ get_or-set_other (node_at w region).received home other last 0 m
          ∙ sym (get_or-set_other (node_at w region).received region other (length (log_of w region)) 0 n) in
          let most : received_of w region other ≤ length (log_of w other) = before.received in
          (omega arith, omega arith)

  lengths : Lengths cluster.regions v
  unfolding v n'
  lengths q other lq lo = by (either_nat q region)
    where
      before : AreInOrder w q other
      before = i.lengths q other lq lo

      inserted : slice_index (node_at v q).here.inserted other ≡ slice_index (node_at w q).here.inserted other
      inserted = ap (λ t. get_or t other 0) (left.keeps (λ n. n.here.inserted) refl q)

      log : length (log_of v other) ≡ length (log_of w other)
      log = ap length (left.keeps (λ n. n.log) refl other)

      first : slice_index (node_at w q).here.inserted other ≤ received_of w q other
      first = before.inserted

      second : received_of w q other ≤ length (log_of w other)
      second = before.received

      put : (received_of w q other ≤ received_of v q other) × (received_of v q other ≤ length (log_of w other)) → AreInOrder v q other
      put b =
          let least : received_of w q other ≤ received_of v q other = b.0 in
          let most : received_of v q other ≤ length (log_of w other) = b.1 in
          record { inserted = omega (arith, inserted, first); received = omega (arith, log) }

      by : Either (q ≡ region) → AreInOrder v q other
      by (inl e) = put (subst (λ x. (received_of w x other ≤ received_of v x other) × (received_of v x other ≤ length (log_of w other))) (sym e) (received_here other lo))
      by (inr n) =
          let node : node_at v q ≡ node_at w q = left.others q n in
          let is : received_of v q other ≡ received_of w q other = λ j. get_or (set (node j).received q (length (node j).log)) other 0 in
          put (omega arith, omega (arith, second))

  view_same : (q : ℕ) → q < cluster.regions → view_at v q ≡ view_at w q
  unfolding v n'
  view_same q lq =
      view_is v q (λ other lo. (lengths q other lq (subst (λ m. other < m) left.nodes lo)).inserted)
      ∙ (λ j. fronts (left.keeps (λ n. n.here.inserted) refl q j) (left.logs j))
      ∙ sym (view_fronts i q lq)

  pub received_keeps : Inv cluster workload (received w region home last) order
  unfolding v n'
  received_keeps = change_keeps i region lr n' left.same order (record {
    received = length-set (node_at w region).received home last ∙ (i.sized region lr).received;
    inserted = (i.sized region lr).inserted;
    lengths = lengths;
    sound = sound_kept cluster w v cluster.regions view_same (left.keeps (λ n. n.here.resolved) refl) (left.keeps (λ n. n.here.done) refl) i.sound;
    tables = tables_kept cluster w v (λ q lq. left.txns (done_ids (node_at w q).here)) (left.keeps (λ n. n.here.done) refl) (left.keeps (λ n. n.here.table) refl) i.tables;
    ordered = ordered_kept cluster w v cluster.regions order left.logs (left.keeps (λ n. n.here.done) refl) i.ordered;
  })

pub deliver_keeps : {cluster : Cluster} {workload : Workload} {w : World} {order : List TxnId} → Inv cluster workload w order
    → (region home first last : ℕ) → region < cluster.regions → home < cluster.regions → last ≤ length (log_of w home)
    → Inv cluster workload (next cluster workload w (Deliver region home first last)) order
deliver_keeps {cluster = cluster} {workload = workload} {w = w} {order = order} i region home first last lr lh reaches = go (leb first (received_of w region home) && ltb (received_of w region home) last) refl
  where
    below : ltb (received_of w region home) last ≡ true → received_of w region home ≤ last
    below e = grind (arith, nat_tests)

    go : (b : Bool) → leb first (received_of w region home) && ltb (received_of w region home) last ≡ b → Inv cluster workload (cond b (received w region home last) w) order
    go true e = received_keeps i region home last lr lh (below (and_parts (leb first (received_of w region home)) (ltb (received_of w region home) last) e).1) reaches
    go false e = i
