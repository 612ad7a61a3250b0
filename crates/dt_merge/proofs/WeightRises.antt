-- Each event that changes something raises the weight of its region.
use Rattle.std.proofs.Common.{◌≡◌, ◌≢◌, ◌<◌, ◌≤◌, ◌+◌, ◌⊎◌, ℕ, zero, suc, Bool, true, false, cond, ltb, leb, ◌&&◌, List, [], ◌∷◌, ◌++◌, length, get_or, set}
use Rattle.std.proofs.Common.{Some, None, refl, sym, ap, subst, ◌∙◌, inl, inr, arith, ltb-true}
use Rattle.std.specs.Prelude.{Option, sum, sum_by, slice_index}
use Rattle.std.proofs.lemmas.Bool.{and_parts}
use Rattle.std.proofs.lemmas.List.{length_push, length-set, set_comm}
use Rattle.std.proofs.lemmas.List.Sums.{sum_by-set}
use Rattle.dt_lists.specs.Lists.{Either, Has}
use Rattle.dt_lists.proofs.Callers.{either_nat}
use Rattle.dt_access.specs.Clash.{Bytes}
use Rattle.dt_access.specs.declared.TxnId.{TxnId}
use Rattle.dt_events.specs.declared.Event.{Event}
use Rattle.dt_events.specs.declared.Event.TheVariants.{Submit, Append, Deliver, Insert, Resolve, Execute, Answer}
use Rattle.dt_events.specs.Events.{region_of}
use Rattle.dt_txn.specs.declared.Txn.{Txn}
use Rattle.dt_txn.specs.Transaction.{part_of}
use Rattle.dt_txn.specs.Execution.{one}
use Rattle.dt_txn.specs.Replica.{MayStep, executed, stepped}
use Rattle.dt_cluster.specs.Valid.{IsValidCluster}
use Rattle.dt_cluster.specs.declared.Cluster.{Cluster}
use Rattle.dt_workload.specs.Valid.{IsValidWorkload}
use Rattle.dt_workload.specs.declared.Session.{Session}
use Rattle.dt_workload.specs.declared.Workload.{Workload}
use Rattle.dt_session.specs.World.{World, Place, Submission, node_at, log_of, received_lengths, received_of, received_logs, txn_of, session_at, with_place}
use Rattle.dt_session.specs.Step.{IsLegal, MayAnswer, MaySubmit, answered, next, next_attempt, placed, received, submitted}
use Rattle.dt_session.specs.Run.{world_from, AreLegalFrom}
use Rattle.dt_session.specs.Eager.{AllChange}
use Rattle.dt_agreement.specs.Invariant.{IsPlaceOf}
use Rattle.dt_agreement.proofs.Callers.{WasSubmitted, Submits, answered_changed, append_cases, executable_known, next_keeps, ordered, received_own, session_found, next_call_submits}
use Rattle.dt_merge.specs.OwnPart.{own}
use Rattle.dt_merge.specs.Weight.{sum_below, weight, world_weight}
use Rattle.dt_merge.specs.WorldRegions.{HasInvariant}
use Rattle.dt_merge.proofs.Frames.{frame}
use Rattle.dt_merge.proofs.GoodWorlds.{node_there}
use Rattle.dt_merge.proofs.OwnParts.{local, found_own}
use Rattle.dt_merge.proofs.OwnSteps.{attempt_of_own, move_own, own_answered, own_submitted, own_appended, own_delivered, own_moved}
use Rattle.dt_merge.proofs.SideBySide.{below_other}
use Rattle.dt_merge.proofs.SumsBelow.{sum_below_same}
use Rattle.dt_merge.proofs.Worlds.{region_there}

-- sums

raise_at : (xs : List ℕ) (i n : ℕ) → i < length xs → get_or xs i 0 < n → sum xs < sum (set xs i n)
raise_at xs i n lt less = let e : sum_by (λ x. x) (set xs i n) + get_or xs i 0 ≡ sum_by (λ x. x) xs + n = sum_by-set (λ x. x) xs i n 0 lt in omega arith

raise_set : (xs : List ℕ) (i a b : ℕ) → i < length xs → a < b → sum (set xs i a) < sum (set xs i b)
raise_set xs i a b lt less =
    let e : sum_by (λ x. x) (set xs i a) + get_or xs i 0 ≡ sum_by (λ x. x) xs + a = sum_by-set (λ x. x) xs i a 0 lt in
    let f : sum_by (λ x. x) (set xs i b) + get_or xs i 0 ≡ sum_by (λ x. x) xs + b = sum_by-set (λ x. x) xs i b 0 lt in
    omega arith

sum_raise : (f g : ℕ → ℕ) (r n : ℕ) → r < n → f r < g r → ((q : ℕ) → r ≢ q → f q ≡ g q) → sum_below f n < sum_below g n
sum_raise f g r zero lt less h = absurd (omega arith)
sum_raise f g r (suc n) lt less h = by (λ early. sum_raise f g r n early less h) (below_other r n lt)
  where
    by : (r < n → sum_below f n < sum_below g n) → (r < n) ⊎ (n ≡ r) → sum_below f (suc n) < sum_below g (suc n)
    by later (inl early) =
        let a : sum_below f n < sum_below g n = later early in
        let b : f n ≡ g n = h n (λ is. let none : ⊥ = omega arith in none) in
        omega arith
    by later (inr is) =
        let a : sum_below f n ≡ sum_below g n = sum_below_same f g n (λ q early. h q (λ same. let none : ⊥ = omega arith in none)) in
        let b : f n < g n = subst (λ x. f x < g x) (sym is) less in
        omega arith

-- one of the parts of a weight rises

by_submitted : (a a' b b' c d e f : ℕ) → a' ≡ a + 1 → b' ≡ b → a + b + c + d + e + f < a' + b' + c + d + e + f
by_submitted a a' b b' c d e f p q = omega arith

by_answered : (a b b' c d e f : ℕ) → b' ≡ b + 1 → a + b + c + d + e + f < a + b' + c + d + e + f
by_answered a b b' c d e f p = omega arith

by_received : (a b c c' d e f : ℕ) → c < c' → a + b + c + d + e + f < a + b + c' + d + e + f
by_received a b c c' d e f p = omega arith

by_inserted : (a b c d d' e f : ℕ) → d < d' → a + b + c + d + e + f < a + b + c + d' + e + f
by_inserted a b c d d' e f p = omega arith

by_resolved : (a b c d e e' f : ℕ) → e' ≡ e + 1 → a + b + c + d + e + f < a + b + c + d + e' + f
by_resolved a b c d e e' f p = omega arith

by_done : (a b c d e f f' : ℕ) → f' ≡ f + 1 → a + b + c + d + e + f < a + b + c + d + e + f'
by_done a b c d e f f' p = omega arith

module _ (cluster : Cluster) (ok : IsValidCluster cluster) (workload : Workload) (w : World) (g : HasInvariant cluster workload w) (region : ℕ) (lr : region < cluster.regions) where
  Rises : World → Type 0
  Rises v = weight region (own workload w region) < weight region (own workload v region)

  in_own : (name : Bytes) (session : Session) (place : Place) → session.name ≡ name → session_at workload.sessions w.places region name ≡ Some (session, place)
      → session_at (local region workload.sessions) (own workload w region).places region session.name ≡ Some (session, place)
  in_own name session place named found =
      subst (λ y. session_at (local region workload.sessions) (own workload w region).places region y ≡ Some (session, place)) (sym named)
      (sym (found_own workload.sessions w.places region name) ∙ found)

  submit_rises : (name : Bytes) → MaySubmit cluster w region (session_at workload.sessions w.places region name) → Rises (submitted cluster workload w region (session_at workload.sessions w.places region name))
  unfolding Rises
  submit_rises name may =
      let s : Submits cluster workload w region name = next_call_submits g.inv ok region name may in
      let attempt : Submission = attempt_of_own cluster region s.session s.place s.call (own workload w region) (next_attempt w s.place.waits) in
      let now : Place = record s.place { waits = Some attempt.txn.id } in
      let places : List Place = with_place (local region workload.sessions) (own workload w region).places region s.session.name now in
      let sum_now : sum_by (λ p. p.answered) places + s.place.answered ≡ sum_by (λ p. p.answered) (own workload w region).places + s.place.answered =
      answered_changed (local region workload.sessions) (own workload w region).places region s.session.name s.session s.place now (in_own name s.session s.place s.named s.found) in
      subst (λ v. weight region (own workload w region) < weight region (own workload v region)) (sym s.next)
      (subst (λ x. weight region (own workload w region) < weight region x) (sym (own_submitted cluster workload w region (node_there g region lr) s.session s.place s.call))
      (by_submitted (length (node_at w region).submitted) (length ((node_at w region).submitted ++ attempt ∷ []))
      (sum_by (λ p. p.answered) (own workload w region).places) (sum_by (λ p. p.answered) places)
      (sum (received_lengths w region)) (sum (node_at w region).here.inserted) (length (node_at w region).here.resolved) (length (node_at w region).here.done)
      (length_push (node_at w region).submitted attempt) (omega arith)))

  answer_rises : (name : Bytes) → MayAnswer cluster w region (session_at workload.sessions w.places region name) → Rises (answered workload w region (session_at workload.sessions w.places region name))
  unfolding Rises
  answer_rises name may = go (session_at workload.sessions w.places region name) refl may
    where
      go : (x : Option (Session × Place)) → session_at workload.sessions w.places region name ≡ x → MayAnswer cluster w region x
          → weight region (own workload w region) < weight region (own workload (answered workload w region x) region)
      go None e m = absurd m
      go (Some (session, place)) e m =
          let f : Has workload.sessions session × (session.name ≡ name) × (session.region ≡ region) × IsPlaceOf cluster.tries w session place =
          session_found (IsPlaceOf cluster.tries w) workload.sessions w.places region name session place g.inv.sessions.places e in
          let now : Place = record { answered = place.answered + 1; waits = None } in
          let places : List Place = with_place (local region workload.sessions) (own workload w region).places region session.name now in
          let sum_now : sum_by (λ p. p.answered) places + place.answered ≡ sum_by (λ p. p.answered) (own workload w region).places + (place.answered + 1) =
          answered_changed (local region workload.sessions) (own workload w region).places region session.name session place now (in_own name session place f.1 e) in
          subst (λ x. weight region (own workload w region) < weight region x) (sym (own_answered cluster workload w region session place))
          (by_answered (length (node_at w region).submitted) (sum_by (λ p. p.answered) (own workload w region).places) (sum_by (λ p. p.answered) places)
          (sum (received_lengths w region)) (sum (node_at w region).here.inserted) (length (node_at w region).here.resolved)
          (length (node_at w region).here.done) (omega arith))

  received_there : region < length (node_at w region).received
  received_there = subst (λ m. region < m) (sym (g.inv.sized region lr).received) lr

  append_rises : (source number : ℕ) → IsLegal cluster workload w (Append region source number)
      → (next cluster workload w (Append region source number) ≡ w) ⊎ Rises (next cluster workload w (Append region source number))
  unfolding Rises
  append_rises source number l = elim (append_cases g.inv region source number l.regions.0 l.regions.1 l.allowed) [
    | inl same ↦ inl same
    | inr r ↦ inr (subst (λ v. weight region (own workload w region) < weight region (own workload v region)) (sym r.2) (rises r.0))
  ]
    where
      rises : (txn : Txn) → weight region (own workload w region) < weight region (own workload (placed w region source (Some txn)) region)
      rises txn =
          subst (λ x. weight region (own workload w region) < weight region x) (sym (own_appended cluster workload w region (node_there g region lr) source true (Some txn)))
          (by_received (length (node_at w region).submitted) (sum_by (λ p. p.answered) (own workload w region).places)
          (sum (received_lengths w region))
          (sum (set (node_at w region).received region (length ((node_at w region).log ++ part_of txn region ∷ []))))
          (sum (node_at w region).here.inserted) (length (node_at w region).here.resolved) (length (node_at w region).here.done)
          (raise_set (node_at w region).received region (length (node_at w region).log) (length ((node_at w region).log ++ part_of txn region ∷ [])) received_there
          (let more : length ((node_at w region).log ++ part_of txn region ∷ []) ≡ length (node_at w region).log + 1 = length_push (node_at w region).log (part_of txn region) in omega arith)))

  deliver_rises : (home first last : ℕ) → IsLegal cluster workload w (Deliver region home first last)
      → (next cluster workload w (Deliver region home first last) ≡ w) ⊎ Rises (next cluster workload w (Deliver region home first last))
  unfolding Rises
  deliver_rises home first last l = go brings_more refl
    where
      -- whether some of it was not received yet
      brings_more : Bool
      brings_more = leb first (received_of w region home) && ltb (received_of w region home) last

      go : (b : Bool) → brings_more ≡ b
          → (cond b (received w region home last) w ≡ w) ⊎ (weight region (own workload w region) < weight region (own workload (cond b (received w region home last) w) region))
      go false e = inl refl
      go true e = inr (by (either_nat home region))
        where
          below : received_of w region home < last
          below = ltb-true (received_of w region home) last (and_parts (leb first (received_of w region home)) (ltb (received_of w region home) last) e).1

          by : Either (home ≡ region) → weight region (own workload w region) < weight region (own workload (received w region home last) region)
          by (inl is) =
              let mine : received_of w region home ≡ length (log_of w region) = ap (received_of w region) is ∙ received_own w region received_there in
              let end : last ≤ length (log_of w region) = subst (λ h. last ≤ length (log_of w h)) is l.allowed.1 in
              absurd (let none : ⊥ = omega (arith, below) in none)
          by (inr n) =
              subst (λ x. weight region (own workload w region) < weight region x) (sym (own_delivered cluster workload w region (node_there g region lr) home last true))
              (by_received (length (node_at w region).submitted) (sum_by (λ p. p.answered) (own workload w region).places)
              (sum (received_lengths w region))
              (sum (set (set (node_at w region).received home last) region (length (node_at w region).log)))
              (sum (node_at w region).here.inserted) (length (node_at w region).here.resolved) (length (node_at w region).here.done)
              (subst (λ xs. sum (received_lengths w region) < sum xs)
              (sym (set_comm (node_at w region).received home region last (length (node_at w region).log) n))
              (raise_at (received_lengths w region) home last
              (subst (λ m. home < m) (sym (length-set (node_at w region).received region (length (node_at w region).log) ∙ (g.inv.sized region lr).received)) l.regions.1) below)))

  insert_rises : (home : ℕ) → home < cluster.regions → Rises (next cluster workload w (Insert region home))
  unfolding Rises
  insert_rises home lh =
      let before : List ℕ = (node_at w region).here.inserted in
      subst (λ x. weight region (own workload w region) < weight region x)
      (sym (own_moved cluster workload w region (node_there g region lr) (stepped cluster.procs (txn_of w) (node_at w region).here (Insert region home))))
      (by_inserted (length (node_at w region).submitted) (sum_by (λ p. p.answered) (own workload w region).places) (sum (received_lengths w region))
      (sum (node_at w region).here.inserted) (sum (set (node_at w region).here.inserted home (slice_index (node_at w region).here.inserted home + 1)))
      (length (node_at w region).here.resolved) (length (node_at w region).here.done)
      (raise_at (node_at w region).here.inserted home (slice_index (node_at w region).here.inserted home + 1) (subst (λ m. home < m) (sym (g.inv.sized region lr).inserted) lh) (omega arith)))

  resolve_rises : (ids : List TxnId) → Rises (next cluster workload w (Resolve region ids))
  unfolding Rises
  resolve_rises ids =
      subst (λ x. weight region (own workload w region) < weight region x)
      (sym (own_moved cluster workload w region (node_there g region lr) (stepped cluster.procs (txn_of w) (node_at w region).here (Resolve region ids))))
      (by_resolved (length (node_at w region).submitted) (sum_by (λ p. p.answered) (own workload w region).places) (sum (received_lengths w region))
      (sum (node_at w region).here.inserted) (length (node_at w region).here.resolved) (length ((node_at w region).here.resolved ++ ids ∷ [])) (length (node_at w region).here.done)
      (length_push (node_at w region).here.resolved ids))

  execute_rises : (id : TxnId) → MayStep (received_logs w region) (node_at w region).here (Execute region id) → Rises (next cluster workload w (Execute region id))
  unfolding Rises
  execute_rises id may =
      let known : WasSubmitted w id = executable_known g.inv region id lr may in
      let outcome : _ = (known.0.id, (one cluster.procs known.0 (node_at w region).here.table).0) in
      subst (λ x. weight region (own workload w region) < weight region x)
      (sym (own_moved cluster workload w region (node_there g region lr) (executed cluster.procs (node_at w region).here (txn_of w id))
      ∙ ap (λ t. move_own (own workload w region) (executed cluster.procs (node_at w region).here t)) known.1))
      (by_done (length (node_at w region).submitted) (sum_by (λ p. p.answered) (own workload w region).places) (sum (received_lengths w region))
      (sum (node_at w region).here.inserted) (length (node_at w region).here.resolved) (length (node_at w region).here.done) (length ((node_at w region).here.done ++ outcome ∷ []))
      (length_push (node_at w region).here.done outcome))

-- a legal event leaves the world, or raises the weight of its region
pub rises : (cluster : Cluster) → IsValidCluster cluster → (workload : Workload) (w : World) (event : Event) → HasInvariant cluster workload w → IsLegal cluster workload w event
    → (next cluster workload w event ≡ w) ⊎ (weight (region_of event) (own workload w (region_of event)) < weight (region_of event) (own workload (next cluster workload w event) (region_of event)))
unfolding Rises
rises cluster ok workload w (Submit region name) g l = inr (submit_rises cluster ok workload w g region l.regions name l.allowed)
rises cluster ok workload w (Append home source number) g l = append_rises cluster ok workload w g home l.regions.0 source number l
rises cluster ok workload w (Deliver region home first last) g l = deliver_rises cluster ok workload w g region l.regions.0 home first last l
rises cluster ok workload w (Insert region home) g l = inr (insert_rises cluster ok workload w g region l.regions.0 home l.regions.1)
rises cluster ok workload w (Resolve region ids) g l = inr (resolve_rises cluster ok workload w g region l.regions ids)
rises cluster ok workload w (Execute region id) g l = inr (execute_rises cluster ok workload w g region l.regions id l.allowed)
rises cluster ok workload w (Answer region name) g l = inr (answer_rises cluster ok workload w g region l.regions name l.allowed)

-- so where it changes something, the weight of the world rises
pub world_rises : (cluster : Cluster) → IsValidCluster cluster → (workload : Workload) (w : World) (event : Event) → HasInvariant cluster workload w → IsLegal cluster workload w event
    → next cluster workload w event ≢ w → world_weight cluster.regions workload w < world_weight cluster.regions workload (next cluster workload w event)
world_rises cluster ok workload w event g l changes = elim (rises cluster ok workload w event g l) [
  | inl same ↦ absurd (changes same)
  | inr up ↦ sum_raise (λ q. weight q (own workload w q)) (λ q. weight q (own workload (next cluster workload w event) q)) (region_of event) cluster.regions
      (region_there cluster.regions event l.regions) up (λ q n. ap (weight q) (sym (frame cluster workload w q event n)))
]

module _ (cluster : Cluster) (ok : IsValidCluster cluster) (workload : Workload) (fits : IsValidWorkload cluster workload) where
  -- a list of events that change something is no longer than what has happened
  pub events_weighed : (w : World) (events : List Event) → HasInvariant cluster workload w → AreLegalFrom cluster workload w events → AllChange cluster workload w events
      → length events + world_weight cluster.regions workload w ≤ world_weight cluster.regions workload (world_from cluster workload w events)
  events_weighed w [] g l c = omega arith
  events_weighed w (e ∷ events) g l c =
      let up : world_weight cluster.regions workload w < world_weight cluster.regions workload (next cluster workload w e) = world_rises cluster ok workload w e g l.0 c.0 in
      let later : length events + world_weight cluster.regions workload (next cluster workload w e) ≤ world_weight cluster.regions workload (world_from cluster workload (next cluster workload w e) events) =
      events_weighed (next cluster workload w e) events (record { order = ordered g.order e; inv = next_keeps ok fits w g.order e l.0 g.inv }) l.1 c.1 in
      omega arith
