-- What can happen is bounded: the weight of a legal world is at most what the calls, the tries and the regions allow.
use Rattle.std.proofs.Common.{◌≡◌, ◌≢◌, ◌<◌, ◌≤◌, ◌+◌, ◌*◌, ◌⊎◌, ℕ, zero, suc, Bool, true, false, cond, eqb, List, [], ◌∷◌, length, get_or, map, take, Some, None}
use Rattle.std.proofs.Common.{refl, sym, ap, subst, ◌∙◌, inl, inr, arith, eqb-true, eq-eqb}
use Rattle.std.specs.Cmp.Lexicographic.{bytes_decides}
use Rattle.std.specs.Prelude.{Option, flat_map, slice_index, sum, sum_by}
use Rattle.std.proofs.lemmas.Bool.{cases_Bool}
use Rattle.std.proofs.lemmas.List.{length-append, length-map, length-set}
use Rattle.std.proofs.lemmas.List.Sums.{sum_by-cons}
use Rattle.std.proofs.lemmas.Nat.{mul-le}
use Rattle.dt_lists.specs.Lists.{AnyIn, AllIn, Distinct, Has, IsFront, Pairwise}
use Rattle.dt_lists.proofs.Callers.{any_at, any_front, any_image, front_take, front_trans, pairwise_length}
use Rattle.dt_lists.proofs.Callers.{all_get, all_map, all_put, any_get, any_map, any_of_image, any_put, distinct_within, has_filter, has_map, has_of_filtered}
use Rattle.dt_access.specs.Clash.{Bytes, same_key}
use Rattle.dt_access.specs.declared.TxnId.{TxnId}
use Rattle.dt_access.specs.declared.Part.{Part}
use Rattle.dt_sched.specs.Views.{View, HasPart, IsClosed, IsLonger, ids_of, log_at}
use Rattle.dt_sched.specs.Decide.{IsSound}
use Rattle.dt_sched.proofs.Callers.{complete_of_closed, few_groups, present_of_complete}
use Rattle.dt_txn.specs.Replica.{done_ids}
use Rattle.dt_cluster.specs.Valid.{IsValidCluster}
use Rattle.dt_cluster.specs.declared.Cluster.{Cluster}
use Rattle.dt_workload.specs.Valid.{IsValidWorkload, calls_in}
use Rattle.dt_workload.specs.declared.Session.{Session}
use Rattle.dt_workload.specs.declared.Workload.{Workload}
use Rattle.dt_events.specs.declared.Event.{Event}
use Rattle.dt_session.specs.Step.{next}
use Rattle.dt_session.specs.Run.{world_from, AreLegalFrom}
use Rattle.dt_session.specs.Eager.{AllChange}
use Rattle.dt_session.specs.World.{World, Place, Submission, no_node, node_at, log_of, received_lengths, received_logs, received_of, logs_of, submissions, txn_of, view_at}
use Rattle.dt_agreement.specs.Invariant.{IsPartAt, IsPlaceOf, IsPlaced, IsSubmissionOf, attempts_by}
use Rattle.dt_agreement.proofs.Callers.{WasSubmitted, done_known, fronts_longer, log_distinct, logs_length, next_keeps, ordered, received_log, received_within, txn_there}
use Rattle.dt_txn.proofs.Callers.{fronts_at}
use Rattle.dt_merge.specs.OwnPart.{own, places_at}
use Rattle.dt_merge.specs.Weight.{most_events, sum_below, weight, world_weight}
use Rattle.dt_merge.specs.WorldRegions.{HasInvariant}
use Rattle.dt_merge.proofs.SumsBelow.{sum_below_added, sum_below_const, sum_below_first, sum_below_le}
use Rattle.dt_merge.proofs.WeightRises.{events_weighed}
use Rattle.dt_merge.proofs.OwnParts.{local, local_no, local_yes, places_no, places_yes}

-- a longer view has as many logs
as_many : (short long : View) → IsLonger short long → length short ≡ length long
as_many short long longer = pairwise_length IsFront short long longer

-- sums

at_most_each : (xs : List ℕ) (m : ℕ) → ((i : ℕ) → i < length xs → get_or xs i 0 ≤ m) → sum xs ≤ length xs * m
at_most_each [] m f = omega arith
at_most_each (x ∷ xs) m f =
    let first : x ≤ m = f zero (omega arith) in
    let rest : sum xs ≤ length xs * m = at_most_each xs m (λ i lt. f (suc i) (omega arith)) in
    subst (λ n. n ≤ suc (length xs) * m) (sym (sum_by-cons (λ y. y) x xs)) (omega arith)

joined_length : {A B : Type 0} (f : A → List B) (d : A) (xs : List A) → length (flat_map f xs) ≡ sum_below (λ q. length (f (get_or xs q d))) (length xs)
joined_length f d [] = refl
joined_length f d (x ∷ xs) =
    length-append (f x) (flat_map f xs) ∙ ap (λ n. length (f x) + n) (joined_length f d xs)
    ∙ sym (sum_below_first (λ q. length (f (get_or (x ∷ xs) q d))) (length xs))

-- what each region's sessions have is not more than what all have

past : (k r : ℕ) → k ≤ r → r ≢ k → suc k ≤ r
past k r le n = grind arith

at_one : (r m k : ℕ) (b : Bool) → eqb r k ≡ b → cond (eqb r k) m 0 ≡ cond b m 0
at_one r m k b e = ap (λ c. cond c m 0) e

one_exactly : (r m k : ℕ) → ((k ≤ r) × (sum_below (λ q. cond (eqb r q) m 0) k ≡ 0)) ⊎ ((r < k) × (sum_below (λ q. cond (eqb r q) m 0) k ≡ m))
one_exactly r m zero = inl (omega arith, refl)
one_exactly r m (suc k) = go (one_exactly r m k) (cases_Bool (eqb r k))
  where
    go : ((k ≤ r) × (sum_below (λ q. cond (eqb r q) m 0) k ≡ 0)) ⊎ ((r < k) × (sum_below (λ q. cond (eqb r q) m 0) k ≡ m)) → (eqb r k ≡ true) ⊎ (eqb r k ≡ false)
        → ((suc k ≤ r) × (sum_below (λ q. cond (eqb r q) m 0) (suc k) ≡ 0)) ⊎ ((r < suc k) × (sum_below (λ q. cond (eqb r q) m 0) (suc k) ≡ m))
    go (inl h) (inl t) =
        let is : r ≡ k = eqb-true r k t in
        let a : sum_below (λ q. cond (eqb r q) m 0) k ≡ 0 = h.1 in
        let b : cond (eqb r k) m 0 ≡ m = at_one r m k true t in
        inr (omega arith, omega arith)
    go (inl h) (inr n) =
        let le : k ≤ r = h.0 in
        let a : sum_below (λ q. cond (eqb r q) m 0) k ≡ 0 = h.1 in
        let b : cond (eqb r k) m 0 ≡ 0 = at_one r m k false n in
        let apart : r ≢ k = λ is. (let t : eqb r k ≡ true = eq-eqb r k is in cc) in
        inl (past k r le apart, omega arith)
    go (inr h) (inl t) = let is : r ≡ k = eqb-true r k t in let lt : r < k = h.0 in absurd (let none : ⊥ = omega arith in none)
    go (inr h) (inr n) =
        let lt : r < k = h.0 in
        let e : sum_below (λ q. cond (eqb r q) m 0) k ≡ m = h.1 in
        let z : cond (eqb r k) m 0 ≡ 0 = at_one r m k false n in
        inr (omega arith, omega arith)

one_of : (r m n : ℕ) → sum_below (λ q. cond (eqb r q) m 0) n ≤ m
one_of r m n = elim (one_exactly r m n) [
  | inl h ↦ (let e : sum_below (λ q. cond (eqb r q) m 0) n ≡ 0 = h.1 in omega arith)
  | inr h ↦ (let e : sum_below (λ q. cond (eqb r q) m 0) n ≡ m = h.1 in omega arith)
]

under_list : (f g : Session → ℕ) (sessions : List Session) → AllIn (λ s. f s ≤ g s) sessions → sum_by f sessions ≤ sum_by g sessions
under_list f g [] a = omega arith
under_list f g (s ∷ sessions) a =
    let first : f s ≤ g s = a.0 in
    let rest : sum_by f sessions ≤ sum_by g sessions = under_list f g sessions a.1 in
    let p : sum_by f (s ∷ sessions) ≡ f s + sum_by f sessions = sum_by-cons f s sessions in
    let q : sum_by g (s ∷ sessions) ≡ g s + sum_by g sessions = sum_by-cons g s sessions in
    omega arith

more_list : (f g : Session → ℕ) (sessions : List Session) → ((s : Session) → f s ≤ g s) → AnyIn (λ s. suc (f s) ≤ g s) sessions → suc (sum_by f sessions) ≤ sum_by g sessions
more_list f g [] a e = absurd e
more_list f g (s ∷ sessions) a (inl h) =
    let rest : sum_by f sessions ≤ sum_by g sessions = under_list f g sessions (all_put (λ t. f t ≤ g t) sessions (λ t k. a t)) in
    let p : sum_by f (s ∷ sessions) ≡ f s + sum_by f sessions = sum_by-cons f s sessions in
    let q : sum_by g (s ∷ sessions) ≡ g s + sum_by g sessions = sum_by-cons g s sessions in
    omega arith
more_list f g (s ∷ sessions) a (inr h) =
    let first : f s ≤ g s = a s in
    let rest : suc (sum_by f sessions) ≤ sum_by g sessions = more_list f g sessions a h in
    let p : sum_by f (s ∷ sessions) ≡ f s + sum_by f sessions = sum_by-cons f s sessions in
    let q : sum_by g (s ∷ sessions) ≡ g s + sum_by g sessions = sum_by-cons g s sessions in
    omega arith

scaled : (t : ℕ) (sessions : List Session) → sum_by (λ s. length s.calls * t) sessions ≡ sum_by (λ s. length s.calls) sessions * t
scaled t [] = omega arith
scaled t (s ∷ sessions) =
    let rest : sum_by (λ x. length x.calls * t) sessions ≡ sum_by (λ x. length x.calls) sessions * t = scaled t sessions in
    sum_by-cons (λ x. length x.calls * t) s sessions ∙ (let e : length s.calls * t + sum_by (λ x. length x.calls * t) sessions ≡ (length s.calls + sum_by (λ x. length x.calls) sessions) * t = omega arith in e)
    ∙ ap (λ n. n * t) (sym (sum_by-cons (λ x. length x.calls) s sessions))

-- of a session its region has it, and no other
spread : (f : Session → ℕ) (sessions : List Session) (n : ℕ) → sum_below (λ q. sum_by f (local q sessions)) n ≤ sum_by f sessions
spread f [] n = let e : sum_below (λ q. 0) n ≡ n * 0 = sum_below_const 0 n in omega arith
spread f (s ∷ sessions) n =
    let with_first : ℕ → ℕ = λ q. cond (eqb s.region q) (f s) 0 + sum_by f (local q sessions) in
    let each : sum_below (λ q. sum_by f (local q (s ∷ sessions))) n ≤ sum_below with_first n =
    sum_below_le (λ q. sum_by f (local q (s ∷ sessions))) with_first n (λ q lt. at q (cases_Bool (eqb s.region q))) in
    let both : sum_below with_first n ≡ sum_below (λ q. cond (eqb s.region q) (f s) 0) n + sum_below (λ q. sum_by f (local q sessions)) n = sum_below_added (λ q. cond (eqb s.region q) (f s) 0) (λ q. sum_by f (local q sessions)) n in
    let first : sum_below (λ q. cond (eqb s.region q) (f s) 0) n ≤ f s = one_of s.region (f s) n in
    let rest : sum_below (λ q. sum_by f (local q sessions)) n ≤ sum_by f sessions = spread f sessions n in
    let p : sum_by f (s ∷ sessions) ≡ f s + sum_by f sessions = sum_by-cons f s sessions in
    omega arith
  where
    at : (q : ℕ) → (eqb s.region q ≡ true) ⊎ (eqb s.region q ≡ false) → sum_by f (local q (s ∷ sessions)) ≤ cond (eqb s.region q) (f s) 0 + sum_by f (local q sessions)
    at q (inl t) =
        let a : sum_by f (local q (s ∷ sessions)) ≡ f s + sum_by f (local q sessions) = ap (sum_by f) (local_yes q s sessions t) ∙ sum_by-cons f s (local q sessions) in
        let b : cond (eqb s.region q) (f s) 0 ≡ f s = ap (λ c. cond c (f s) 0) t in
        omega arith
    at q (inr n) =
        let a : sum_by f (local q (s ∷ sessions)) ≡ sum_by f (local q sessions) = ap (sum_by f) (local_no q s sessions n) in
        omega arith

-- sessions have no more calls answered than there are
answered_within : (P : Session → Place → Type 0) → ((s : Session) (p : Place) → P s p → p.answered ≤ length s.calls) → (q : ℕ) (sessions : List Session) (places : List Place) → Pairwise P sessions places
    → sum_by (λ p. p.answered) (places_at q sessions places) ≤ sum_by (λ s. length s.calls) (local q sessions)
answered_within P f q [] places pair = omega arith
answered_within P f q (s ∷ sessions) [] pair = absurd pair
answered_within P f q (s ∷ sessions) (p ∷ places) pair = at (cases_Bool (eqb s.region q)) (answered_within P f q sessions places pair.1)
  where
    at : (eqb s.region q ≡ true) ⊎ (eqb s.region q ≡ false) → sum_by (λ x. x.answered) (places_at q sessions places) ≤ sum_by (λ x. length x.calls) (local q sessions)
        → sum_by (λ x. x.answered) (places_at q (s ∷ sessions) (p ∷ places)) ≤ sum_by (λ x. length x.calls) (local q (s ∷ sessions))
    at (inl t) later =
        let a : sum_by (λ x. x.answered) (places_at q (s ∷ sessions) (p ∷ places)) ≡ p.answered + sum_by (λ x. x.answered) (places_at q sessions places) =
        ap (sum_by (λ x. x.answered)) (places_yes q s sessions t p places) ∙ sum_by-cons (λ x. x.answered) p (places_at q sessions places) in
        let b : sum_by (λ x. length x.calls) (local q (s ∷ sessions)) ≡ length s.calls + sum_by (λ x. length x.calls) (local q sessions) =
        ap (sum_by (λ x. length x.calls)) (local_yes q s sessions t) ∙ sum_by-cons (λ x. length x.calls) s (local q sessions) in
        let c : p.answered ≤ length s.calls = f s p pair.0 in
        omega arith
    at (inr n) later =
        let a : sum_by (λ x. x.answered) (places_at q (s ∷ sessions) (p ∷ places)) ≡ sum_by (λ x. x.answered) (places_at q sessions places) =
        ap (sum_by (λ x. x.answered)) (places_no q s sessions n p places) in
        let b : sum_by (λ x. length x.calls) (local q (s ∷ sessions)) ≡ sum_by (λ x. length x.calls) (local q sessions) = ap (sum_by (λ x. length x.calls)) (local_no q s sessions n) in
        omega arith

-- each submission is one of a session

attempts_cons : (name : Bytes) (x : Submission) (xs : List Submission) → (b : Bool) → same_key x.session name ≡ b → attempts_by name (x ∷ xs) ≡ cond b (suc (attempts_by name xs)) (attempts_by name xs)
attempts_cons name x xs true e = rw e refl
attempts_cons name x xs false e = rw e refl

counted : (sessions : List Session) (xs : List Submission) → AllIn (λ x. AnyIn (λ s. x.session ≡ s.name) sessions) xs → length xs ≤ sum_by (λ s. attempts_by s.name xs) sessions
counted sessions [] a = omega arith
counted sessions (x ∷ xs) a =
    let before : length xs ≤ sum_by (λ s. attempts_by s.name xs) sessions = counted sessions xs a.1 in
    let up : suc (sum_by (λ s. attempts_by s.name xs) sessions) ≤ sum_by (λ s. attempts_by s.name (x ∷ xs)) sessions =
    more_list (λ s. attempts_by s.name xs) (λ s. attempts_by s.name (x ∷ xs)) sessions (λ s. no_less s (cases_Bool (same_key x.session s.name)))
    (any_map (λ s. x.session ≡ s.name) (λ s. suc (attempts_by s.name xs) ≤ attempts_by s.name (x ∷ xs)) sessions (λ s is. one_more s is) a.0) in
    omega arith
  where
    no_less : (s : Session) → (same_key x.session s.name ≡ true) ⊎ (same_key x.session s.name ≡ false) → attempts_by s.name xs ≤ attempts_by s.name (x ∷ xs)
    no_less s (inl t) = let e : attempts_by s.name (x ∷ xs) ≡ suc (attempts_by s.name xs) = attempts_cons s.name x xs true t in omega arith
    no_less s (inr n) = let e : attempts_by s.name (x ∷ xs) ≡ attempts_by s.name xs = attempts_cons s.name x xs false n in omega arith

    one_more : (s : Session) → x.session ≡ s.name → suc (attempts_by s.name xs) ≤ attempts_by s.name (x ∷ xs)
    one_more s is = let e : attempts_by s.name (x ∷ xs) ≡ suc (attempts_by s.name xs) = attempts_cons s.name x xs true ((bytes_decides x.session s.name).1 is) in omega arith

-- a session made no more attempts than its calls can have
attempts_within : (tries : ℕ) (w : World) (session : Session) (place : Place) → IsPlaceOf tries w session place → attempts_by session.name (node_at w session.region).submitted ≤ length session.calls * tries
attempts_within tries w session place p = go place.waits p.placed
  where
    go : (waits : Option TxnId) → IsPlaced tries (node_at w session.region).submitted session place.answered waits → attempts_by session.name (node_at w session.region).submitted ≤ length session.calls * tries
    go None q =
        let few : attempts_by session.name (node_at w session.region).submitted ≤ tries * place.answered = q in
        let grow : place.answered * tries ≤ length session.calls * tries = mul-le place.answered tries (length session.calls) tries p.answered (omega arith) in
        omega arith
    go (Some id) q =
        let few : attempts_by session.name (node_at w session.region).submitted ≤ tries * place.answered + q.submission.attempt = q.attempts in
        let last : q.submission.attempt ≤ tries = q.attempt_to in
        let call : place.answered < length session.calls = q.call in
        let grow : suc place.answered * tries ≤ length session.calls * tries = mul-le (suc place.answered) tries (length session.calls) tries (omega arith) (omega arith) in
        omega arith

chain : {x y s t u v p q z k o : ℕ} → x ≤ y → y ≡ s + t → s ≡ u + v → t ≡ p → u ≤ q → v ≤ z → p ≤ k → z ≤ q → q + q + k ≤ o → x ≤ o
chain a b c d e f h i j = omega arith

ring_each : (n r : ℕ) → r * n + r * n + n + n ≡ (2 * r + 2) * n
ring_each n r = omega arith

ring_all : (k r : ℕ) → k + k + r * ((2 * r + 2) * k) ≤ k * (2 + r + r * (2 * r + 2))
ring_all k r = omega arith

module _ {cluster : Cluster} {workload : Workload} (ok : IsValidCluster cluster) {w : World} (g : HasInvariant cluster workload w) where
  -- the ids that were submitted
  known : List TxnId
  known = map (λ s. s.txn.id) (submissions w)

  there : ℕ
  there = length (submissions w)

  in_known : (id : TxnId) → WasSubmitted w id → Has known id
  unfolding known
  in_known id k =
      let r : (s : Submission) × Has (submissions w) s × (s.txn ≡ k.0) × (s.txn.id ≡ id) = txn_there w id k.0 k.1 in
      subst (Has (map (λ s. s.txn.id) (submissions w))) r.3 (has_map (λ s. s.txn.id) (submissions w) r.0 r.1)

  -- distinct ids that were submitted are no more than there are submissions
  few_ids : (ids : List TxnId) → Distinct ids → AllIn (WasSubmitted w) ids → length ids ≤ there
  unfolding known there
  few_ids ids once all =
      subst (λ n. length ids ≤ n) (length-map (submissions w) (λ s. s.txn.id))
      (distinct_within ids (map (λ s. s.txn.id) (submissions w)) once (all_map (WasSubmitted w) (Has (map (λ s. s.txn.id) (submissions w))) ids (λ id k. in_known id k) all))

  in_log : (home : ℕ) → home < cluster.regions → (id : TxnId) → Has (ids_of (log_of w home)) id → WasSubmitted w id
  in_log home lh id h =
      let r : (p : Part) × Has (log_of w home) p × (p.id ≡ id) = any_get (λ p. p.id ≡ id) (log_of w home) (any_of_image (λ y. y ≡ id) (λ p. p.id) (log_of w home) h) in
      let part : IsPartAt w home r.0 = all_get (IsPartAt w home) (log_of w home) (g.inv.logs home lh).parts r.0 r.1 in
      (part.0, subst (λ x. txn_of w x ≡ Some part.0) r.2 part.1)

  few_in_log : (home : ℕ) → home < cluster.regions → length (log_of w home) ≤ there
  few_in_log home lh =
      subst (λ n. n ≤ there) (length-map (log_of w home) (λ p. p.id))
      (few_ids (ids_of (log_of w home)) (log_distinct g.inv home lh) (all_put (WasSubmitted w) (ids_of (log_of w home)) (in_log home lh)))

  -- how many attempts a region's sessions may make and made, how many calls they have, and how many of these are answered
  abbrev attempts_at : ℕ → ℕ
  attempts_at q = sum_by (λ s. length s.calls * cluster.tries) (local q workload.sessions)

  abbrev submitted_at : ℕ → ℕ
  submitted_at q = length (node_at w q).submitted

  abbrev calls_at : ℕ → ℕ
  calls_at q = sum_by (λ s. length s.calls) (local q workload.sessions)

  abbrev answered_at : ℕ → ℕ
  answered_at q = sum_by (λ p. p.answered) (places_at q workload.sessions w.places)

  -- a session made no more attempts than it may
  abbrev KeepsToTries : Session → Type 0
  KeepsToTries t = attempts_by t.name (node_at w t.region).submitted ≤ length t.calls * cluster.tries

  module _ (q : ℕ) (lq : q < cluster.regions) where
    sound : IsSound (view_at w q) (node_at w q).here.resolved (done_ids (node_at w q).here)
    sound = g.inv.sound q lq

    few_done : length (node_at w q).here.done ≤ there
    few_done = subst (λ n. n ≤ there) (length-map (node_at w q).here.done (λ d. d.0)) (few_ids (done_ids (node_at w q).here) sound.done_once (done_known g.inv q lq))

    -- what is closed in a region's view was submitted
    closed_known : (id : TxnId) → IsClosed (view_at w q) id → WasSubmitted w id
    closed_known id c = by (any_at (λ log. HasPart log id) [] (view_at w q) (present_of_complete (view_at w q) id (complete_of_closed (view_at w q) id c)))
      where
        by : (home : ℕ) × (home < length (view_at w q)) × HasPart (log_at (view_at w q) home) id → WasSubmitted w id
        by r =
            let received : List Part = take (received_of w q r.0) (log_of w r.0) in
            let inserted : List Part = take (slice_index (node_at w q).here.inserted r.0) received in
            let seen : log_at (view_at w q) r.0 ≡ inserted = fronts_at (node_at w q).here.inserted (received_logs w q) r.0 ∙ ap (take (slice_index (node_at w q).here.inserted r.0)) (received_log w q r.0) in
            let front : IsFront inserted (log_of w r.0) =
            front_trans inserted received (log_of w r.0) (front_take (slice_index (node_at w q).here.inserted r.0) received) (front_take (received_of w q r.0) (log_of w r.0)) in
            let part : HasPart (log_of w r.0) id = any_front (λ p. p.id ≡ id) inserted (log_of w r.0) front (subst (λ l. HasPart l id) seen r.2) in
            let lh : r.0 < cluster.regions =
            subst (λ n. r.0 < n) (as_many _ _ (fronts_longer (node_at w q).here.inserted (received_logs w q)) ∙ as_many _ _ (fronts_longer (received_lengths w q) (logs_of w)) ∙ logs_length w ∙ g.inv.nodes) r.1 in
            in_log r.0 lh id (any_image (λ y. y ≡ id) (λ p. p.id) (log_of w r.0) part)

    few_resolved : length (node_at w q).here.resolved ≤ there
    unfolding known there
    few_resolved = subst (λ n. length (node_at w q).here.resolved ≤ n) (length-map (submissions w) (λ s. s.txn.id))
        (few_groups (view_at w q) (node_at w q).here.resolved sound.resolved_several sound.resolved_classes sound.resolved_once (map (λ s. s.txn.id) (submissions w))
        (all_map (AllIn (IsClosed (view_at w q))) (AllIn (Has (map (λ s. s.txn.id) (submissions w)))) (node_at w q).here.resolved
        (λ ids. all_map (IsClosed (view_at w q)) (Has (map (λ s. s.txn.id) (submissions w))) ids (λ id c. in_known id (closed_known id c))) sound.resolved_closed))

    few_received : sum (received_lengths w q) ≤ cluster.regions * there
    few_received =
        subst (λ n. sum (received_lengths w q) ≤ n * there) long
        (at_most_each (received_lengths w q) there (λ h lt.
        let lh : h < cluster.regions = subst (λ n. h < n) long lt in
        let a : received_of w q h ≤ length (log_of w h) = received_within g.inv q h lq lh in
        let b : length (log_of w h) ≤ there = few_in_log h lh in
        let c : received_of w q h ≤ there = omega arith in c))
      where
        long : length (received_lengths w q) ≡ cluster.regions
        long = length-set (node_at w q).received q (length (log_of w q)) ∙ (g.inv.sized q lq).received

    few_inserted : sum (node_at w q).here.inserted ≤ cluster.regions * there
    few_inserted =
        subst (λ n. sum (node_at w q).here.inserted ≤ n * there) (g.inv.sized q lq).inserted
        (at_most_each (node_at w q).here.inserted there (λ h lt.
        let lh : h < cluster.regions = subst (λ n. h < n) (g.inv.sized q lq).inserted lt in
        let z : get_or (node_at w q).here.inserted h 0 ≤ received_of w q h = (g.inv.lengths q h lq lh).inserted in
        let a : received_of w q h ≤ length (log_of w h) = received_within g.inv q h lq lh in
        let b : length (log_of w h) ≤ there = few_in_log h lh in
        let c : get_or (node_at w q).here.inserted h 0 ≤ there = omega arith in c))

    -- it was submitted by one of the region's sessions
    abbrev IsOfSession : Submission → Type 0
    IsOfSession x = AnyIn (λ s. x.session ≡ s.name) (local q workload.sessions)

    few_submitted : submitted_at q ≤ attempts_at q
    few_submitted =
        let a : length (node_at w q).submitted ≤ sum_by (λ s. attempts_by s.name (node_at w q).submitted) (local q workload.sessions) = counted (local q workload.sessions) (node_at w q).submitted each_of_session in
        let b : sum_by (λ s. attempts_by s.name (node_at w q).submitted) (local q workload.sessions) ≤ attempts_at q =
        under_list (λ s. attempts_by s.name (node_at w q).submitted) (λ s. length s.calls * cluster.tries) (local q workload.sessions)
        (all_put (λ s. attempts_by s.name (node_at w q).submitted ≤ length s.calls * cluster.tries) (local q workload.sessions) each_few) in
        omega arith
      where
        each_of_session : AllIn IsOfSession (node_at w q).submitted
        each_of_session = all_map (λ x. AnyIn (IsSubmissionOf cluster.tries q x) workload.sessions) IsOfSession (node_at w q).submitted (λ x e.
            let r : (s : Session) × Has workload.sessions s × IsSubmissionOf cluster.tries q x s = any_get (IsSubmissionOf cluster.tries q x) workload.sessions e in
            any_put (λ s. x.session ≡ s.name) (local q workload.sessions) r.0 (has_filter (λ s. eqb s.region q) workload.sessions r.0 r.1 (eq-eqb r.0.region q r.2.here)) r.2.name) (g.inv.sessions.known q lq)

        each_few : (s : Session) → Has (local q workload.sessions) s → attempts_by s.name (node_at w q).submitted ≤ length s.calls * cluster.tries
        each_few s h =
            let r : Has workload.sessions s × (eqb s.region q ≡ true) = has_of_filtered (λ t. eqb t.region q) workload.sessions s h in
            subst (λ p. attempts_by s.name (node_at w p).submitted ≤ length s.calls * cluster.tries) (eqb-true s.region q r.1)
            (all_get KeepsToTries workload.sessions (of_pairs workload.sessions w.places g.inv.sessions.places) s r.0)
          where
            of_pairs : (ss : List Session) (ps : List Place) → Pairwise (IsPlaceOf cluster.tries w) ss ps → AllIn KeepsToTries ss
            of_pairs [] ps pair = tt
            of_pairs (t ∷ ss) [] pair = absurd pair
            of_pairs (t ∷ ss) (p ∷ ps) pair = (attempts_within cluster.tries w t p pair.0, of_pairs ss ps pair.1)

    -- all but attempts and answers
    few_rest : sum (received_lengths w q) + sum (node_at w q).here.inserted + length (node_at w q).here.resolved + length (node_at w q).here.done ≤ (2 * cluster.regions + 2) * there
    few_rest =
        let a : sum (received_lengths w q) ≤ cluster.regions * there = few_received in
        let b : sum (node_at w q).here.inserted ≤ cluster.regions * there = few_inserted in
        let c : length (node_at w q).here.resolved ≤ there = few_resolved in
        let d : length (node_at w q).here.done ≤ there = few_done in
        let e : cluster.regions * there + cluster.regions * there + there + there ≡ (2 * cluster.regions + 2) * there = ring_each there cluster.regions in
        omega arith

    few_weight : weight q (own workload w q) ≤ submitted_at q + answered_at q + (2 * cluster.regions + 2) * there
    few_weight = let a : sum (received_lengths w q) + sum (node_at w q).here.inserted + length (node_at w q).here.resolved + length (node_at w q).here.done ≤ (2 * cluster.regions + 2) * there = few_rest in omega arith

  -- all regions together

  -- how many attempts there may be
  abbrev attempts : ℕ
  attempts = calls_in workload.sessions * cluster.tries

  all_submitted : sum_below submitted_at cluster.regions ≤ attempts
  all_submitted =
      let a : sum_below submitted_at cluster.regions ≤ sum_below attempts_at cluster.regions =
      sum_below_le submitted_at attempts_at cluster.regions few_submitted in
      let b : sum_below attempts_at cluster.regions ≤ sum_by (λ s. length s.calls * cluster.tries) workload.sessions =
      spread (λ s. length s.calls * cluster.tries) workload.sessions cluster.regions in
      let c : sum_by (λ s. length s.calls * cluster.tries) workload.sessions ≡ attempts = scaled cluster.tries workload.sessions in
      omega arith

  all_there : length (submissions w) ≤ attempts
  all_there = subst (λ n. n ≤ attempts) (sym (joined_length (λ n. n.submitted) no_node w.nodes))
      (subst (λ m. sum_below submitted_at m ≤ attempts) (sym g.inv.nodes) all_submitted)

  all_answered : sum_below answered_at cluster.regions ≤ calls_in workload.sessions
  all_answered =
      let a : sum_below answered_at cluster.regions ≤ sum_below calls_at cluster.regions =
      sum_below_le answered_at calls_at cluster.regions
      (λ q lt. answered_within (IsPlaceOf cluster.tries w) (λ s p r. r.answered) q workload.sessions w.places g.inv.sessions.places) in
      let b : sum_below calls_at cluster.regions ≤ sum_by (λ s. length s.calls) workload.sessions =
      spread (λ s. length s.calls) workload.sessions cluster.regions in
      omega arith

  all_rest : cluster.regions * ((2 * cluster.regions + 2) * length (submissions w)) ≤ cluster.regions * ((2 * cluster.regions + 2) * attempts)
  all_rest = mul-le cluster.regions ((2 * cluster.regions + 2) * length (submissions w)) cluster.regions ((2 * cluster.regions + 2) * attempts) (omega arith)
      (mul-le (2 * cluster.regions + 2) (length (submissions w)) (2 * cluster.regions + 2) attempts (omega arith) all_there)

  calls_tried : calls_in workload.sessions ≤ attempts
  calls_tried =
      let a : calls_in workload.sessions * 1 ≤ attempts = mul-le (calls_in workload.sessions) 1 (calls_in workload.sessions) cluster.tries (omega arith) ok.tries in
      omega arith

  -- how many attempts a region's sessions made, and how many calls are answered
  abbrev tried_and_answered : ℕ → ℕ
  tried_and_answered q = submitted_at q + answered_at q

  -- what bounds the weight of a region
  abbrev weight_limit : ℕ → ℕ
  weight_limit q = tried_and_answered q + (2 * cluster.regions + 2) * length (submissions w)

  -- what has happened is bounded
  pub weight_bounded : world_weight cluster.regions workload w ≤ most_events cluster workload
  unfolding there
  weight_bounded =
      let a : world_weight cluster.regions workload w ≤ sum_below weight_limit cluster.regions =
      sum_below_le (λ q. weight q (own workload w q)) weight_limit cluster.regions few_weight in
      let b : sum_below weight_limit cluster.regions ≡ sum_below tried_and_answered cluster.regions + sum_below (λ q. (2 * cluster.regions + 2) * length (submissions w)) cluster.regions =
      sum_below_added tried_and_answered (λ q. (2 * cluster.regions + 2) * length (submissions w)) cluster.regions in
      let c : sum_below tried_and_answered cluster.regions
      ≡ sum_below submitted_at cluster.regions + sum_below answered_at cluster.regions =
      sum_below_added submitted_at answered_at cluster.regions in
      let d : sum_below (λ q. (2 * cluster.regions + 2) * length (submissions w)) cluster.regions ≡ cluster.regions * ((2 * cluster.regions + 2) * length (submissions w)) =
      sum_below_const ((2 * cluster.regions + 2) * length (submissions w)) cluster.regions in
      let e : sum_below submitted_at cluster.regions ≤ attempts = all_submitted in
      let f : sum_below answered_at cluster.regions ≤ calls_in workload.sessions = all_answered in
      let h : cluster.regions * ((2 * cluster.regions + 2) * length (submissions w)) ≤ cluster.regions * ((2 * cluster.regions + 2) * attempts) = all_rest in
      let k : calls_in workload.sessions ≤ attempts = calls_tried in
      let l : attempts + attempts + cluster.regions * ((2 * cluster.regions + 2) * attempts)
      ≤ most_events cluster workload = ring_all attempts cluster.regions in
      chain a b c d e f h k l

-- so a list of legal events that all change something is not longer
lawful_after : (cluster : Cluster) → IsValidCluster cluster → (workload : Workload) → IsValidWorkload cluster workload → (w : World) (events : List Event) → HasInvariant cluster workload w
    → AreLegalFrom cluster workload w events → HasInvariant cluster workload (world_from cluster workload w events)
lawful_after cluster ok workload fits w [] g l = g
lawful_after cluster ok workload fits w (e ∷ events) g l =
    lawful_after cluster ok workload fits (next cluster workload w e) events (record { order = ordered g.order e; inv = next_keeps ok fits w g.order e l.0 g.inv }) l.1

pub events_few : (cluster : Cluster) → IsValidCluster cluster → (workload : Workload) → IsValidWorkload cluster workload → (w : World) (events : List Event) → HasInvariant cluster workload w
    → AreLegalFrom cluster workload w events → AllChange cluster workload w events → length events ≤ most_events cluster workload
events_few cluster ok workload fits w events g l c =
    let a : length events + world_weight cluster.regions workload w ≤ world_weight cluster.regions workload (world_from cluster workload w events) = events_weighed cluster ok workload fits w events g l c in
    let b : world_weight cluster.regions workload (world_from cluster workload w events) ≤ most_events cluster workload = weight_bounded ok (lawful_after cluster ok workload fits w events g l) in
    omega arith
