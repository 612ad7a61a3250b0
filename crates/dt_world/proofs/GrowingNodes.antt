-- What a region has submitted and done stays.
use Rattle.std.proofs.Common.{◌≡◌, ◌<◌, ◌+◌, ℕ, zero, suc, Bool, true, false, cond, eqb, ltb, leb, ◌&&◌, List, [], ◌∷◌, ◌++◌, length, get_or, set, take, drop}
use Rattle.std.proofs.Common.{slice_get, Some, None, refl, sym, ap, subst, inl, inr, arith}
use Rattle.std.specs.Prelude.{Option, option_and_then}
use Rattle.std.proofs.lemmas.List.{get_or-set_same, get_or-set_other, set_past}
use Rattle.dt_lists.specs.Lists.{IsFront, Either}
use Rattle.dt_lists.proofs.Callers.{either_le, either_nat, front_append, front_refl, front_trans}
use Rattle.dt_events.specs.declared.Event.{Event}
use Rattle.dt_events.specs.declared.Event.TheVariants.{Submit, Append, Deliver, Insert, Resolve, Execute, Answer}
use Rattle.dt_txn.specs.declared.Txn.{Txn}
use Rattle.dt_txn.specs.Replica.{executed}
use Rattle.dt_cluster.specs.declared.Cluster.{Cluster}
use Rattle.dt_workload.specs.declared.Session.{Session}
use Rattle.dt_workload.specs.declared.Ranked.{Ranked}
use Rattle.dt_workload.specs.declared.Workload.{Workload}
use Rattle.dt_session.specs.World.{World, Node, Place, asked_of, no_node, node_at, opening_world, received_of, session_at, taken_of, txn_of, with_node}
use Rattle.dt_session.specs.Step.{IsLegal, answered, called, next, node_submitted, placed, received, attempt_for, submitted}
use Rattle.dt_session.specs.Run.{AreLegalFrom, world_after, world_from}
use Rattle.dt_agreement.specs.LegalRun.{IsLegalRun}
use Rattle.dt_agreement.proofs.Callers.{run_front, world_from_append}

-- a node has at least what it had before
pub record NodeGrows (n m : Node) : Type 0 where
  pub submitted : IsFront n.submitted m.submitted
  pub done : IsFront n.here.done m.here.done

same_node : (n : Node) → NodeGrows n n
same_node n = record { submitted = front_refl n.submitted; done = front_refl n.here.done }

kept_node : (n m : Node) → m.submitted ≡ n.submitted → m.here.done ≡ n.here.done → NodeGrows n m
kept_node n m s d = record { submitted = subst (IsFront n.submitted) (sym s) (front_refl n.submitted); done = subst (IsFront n.here.done) (sym d) (front_refl n.here.done) }

grows_set : (nodes : List Node) (region : ℕ) (x : Node) → NodeGrows (get_or nodes region no_node) x → (r : ℕ) → NodeGrows (get_or nodes r no_node) (get_or (set nodes region x) r no_node)
grows_set nodes region x g r = by (either_nat r region) (either_le (suc region) (length nodes))
  where
    by : Either (r ≡ region) → Either (region < length nodes) → NodeGrows (get_or nodes r no_node) (get_or (set nodes region x) r no_node)
    by (inr n) l = subst (NodeGrows (get_or nodes r no_node)) (sym (get_or-set_other nodes region r x no_node n)) (same_node (get_or nodes r no_node))
    by (inl e) (inl lt) = subst (λ q. NodeGrows (get_or nodes q no_node) (get_or (set nodes region x) q no_node)) (sym e) (subst (NodeGrows (get_or nodes region no_node)) (sym (get_or-set_same nodes region x no_node lt)) g)
    by (inl e) (inr m) = subst (λ l. NodeGrows (get_or nodes r no_node) (get_or l r no_node)) (sym (set_past nodes region x (omega arith))) (same_node (get_or nodes r no_node))

module _ (cluster : Cluster) (workload : Workload) (w : World) where
  pub grows : (event : Event) (r : ℕ) → NodeGrows (node_at w r) (node_at (next cluster workload w event) r)
  grows (Submit region name) r = go (session_at workload.sessions w.places region name)
    where
      once : (session : Session) (place : Place) (o : Option Ranked) → NodeGrows (node_at w r) (node_at (called cluster workload w region session place o) r)
      once session place None = same_node (node_at w r)
      once session place (Some call) = grows_set w.nodes region (node_submitted (node_at w region) (attempt_for cluster w region session place call))
          (record { submitted = front_append (node_at w region).submitted (attempt_for cluster w region session place call ∷ []); done = front_refl (node_at w region).here.done }) r

      go : (o : Option (Session × Place)) → NodeGrows (node_at w r) (node_at (submitted cluster workload w region o) r)
      go None = same_node (node_at w r)
      go (Some (session, place)) = once session place (slice_get session.calls place.answered)
  grows (Append home source number) r = go (eqb number (taken_of w home source)) (option_and_then (txn_of w) (slice_get (asked_of w source home) number))
    where
      go : (b : Bool) (o : Option Txn) → NodeGrows (node_at w r) (node_at (cond b (placed w home source o) w) r)
      go false o = same_node (node_at w r)
      go true None = same_node (node_at w r)
      go true (Some txn) = grows_set w.nodes home _ (kept_node (node_at w home) _ refl refl) r
  grows (Deliver region home first last) r = go (leb first (received_of w region home) && ltb (received_of w region home) last)
    where
      go : (b : Bool) → NodeGrows (node_at w r) (node_at (cond b (received w region home last) w) r)
      go false = same_node (node_at w r)
      go true = grows_set w.nodes region _ (kept_node (node_at w region) (record (node_at w region) { received = set (node_at w region).received home last }) refl refl) r
  grows (Insert region home) r = grows_set w.nodes region _ (kept_node (node_at w region) _ refl refl) r
  grows (Resolve region ids) r = grows_set w.nodes region _ (kept_node (node_at w region) _ refl refl) r
  grows (Execute region id) r = go (txn_of w id)
    where
      go : (o : Option Txn) → NodeGrows (node_at w r) (node_at (with_node w region (record (node_at w region) { here = executed cluster.procs (node_at w region).here o })) r)
      go None = grows_set w.nodes region (record (node_at w region) { here = (node_at w region).here }) (same_node (node_at w region)) r
      go (Some txn) = grows_set w.nodes region (record (node_at w region) { here = executed cluster.procs (node_at w region).here (Some txn) })
          (record { submitted = front_refl (node_at w region).submitted; done = front_append (node_at w region).here.done _ }) r
  grows (Answer region name) r = go (session_at workload.sessions w.places region name)
    where
      go : (o : Option (Session × Place)) → NodeGrows (node_at w r) (node_at (answered workload w region o) r)
      go None = same_node (node_at w r)
      go (Some (session, place)) = same_node (node_at w r)

pub grows_on : (cluster : Cluster) (workload : Workload) (w : World) (events : List Event) (r : ℕ) → NodeGrows (node_at w r) (node_at (world_from cluster workload w events) r)
grows_on cluster workload w [] r = same_node (node_at w r)
grows_on cluster workload w (event ∷ events) r =
    let after = next cluster workload w event in
    let first = node_at w r in
    let second = node_at after r in
    let last = node_at (world_from cluster workload after events) r in
    let a : NodeGrows first second = grows cluster workload w event r in
    let b : NodeGrows second last = grows_on cluster workload after events r in
    record {
      submitted = front_trans first.submitted second.submitted last.submitted a.submitted b.submitted;
      done = front_trans first.here.done second.here.done last.here.done a.done b.done;
    }

-- events up to one of them, that one, and those after it

split_suc : {A : Type 0} (xs : List A) (i : ℕ) (x : A) → slice_get xs i ≡ Some x → (xs ≡ take i xs ++ x ∷ drop (suc i) xs) × (take (suc i) xs ≡ take i xs ++ x ∷ [])
split_suc [] i x e = cc
split_suc (y ∷ xs) zero x e = let same : y ≡ x = cc in (subst (λ z. y ∷ xs ≡ z ∷ xs) same refl, subst (λ z. y ∷ [] ≡ z ∷ []) same refl)
split_suc (y ∷ xs) (suc i) x e = let r : (xs ≡ take i xs ++ x ∷ drop (suc i) xs) × (take (suc i) xs ≡ take i xs ++ x ∷ []) = split_suc xs i x e in (ap (λ l. y ∷ l) r.0, ap (λ l. y ∷ l) r.1)

pub split_at : {A : Type 0} (xs : List A) (i : ℕ) (x : A) → slice_get xs i ≡ Some x → (xs ≡ take i xs ++ x ∷ drop (i + 1) xs) × (take (i + 1) xs ≡ take i xs ++ x ∷ [])
split_at xs i x e =
    let next_one : suc i ≡ i + 1 = omega arith in
    let r : (xs ≡ take i xs ++ x ∷ drop (suc i) xs) × (take (suc i) xs ≡ take i xs ++ x ∷ []) = split_suc xs i x e in
    (subst (λ n. xs ≡ take i xs ++ x ∷ drop n xs) next_one r.0, subst (λ n. take n xs ≡ take i xs ++ x ∷ []) next_one r.1)

pub take_drop : {A : Type 0} (xs : List A) (i : ℕ) → xs ≡ take i xs ++ drop i xs
take_drop xs zero = refl
take_drop [] (suc i) = refl
take_drop (x ∷ xs) (suc i) = ap (λ l. x ∷ l) (take_drop xs i)

module _ (cluster : Cluster) (workload : Workload) (events : List Event) where
  -- the world after the first n events grows to the last one
  pub grows_to : (i r : ℕ) → NodeGrows (node_at (world_after cluster workload (take i events)) r) (node_at (world_after cluster workload events) r)
  grows_to i r = subst (λ l. NodeGrows (node_at (world_after cluster workload (take i events)) r) (node_at (world_after cluster workload l) r)) (sym (take_drop events i))
      (subst (λ v. NodeGrows (node_at (world_after cluster workload (take i events)) r) (node_at v r)) (sym (world_from_append cluster workload (opening_world cluster workload) (take i events) (drop i events)))
      (grows_on cluster workload (world_after cluster workload (take i events)) (drop i events) r))

-- each event of a legal run is legal after those before it, which are one too
pub legal_at : {cluster : Cluster} {workload : Workload} {events : List Event} → IsLegalRun cluster workload events → (i : ℕ) (event : Event) → slice_get events i ≡ Some event
    → IsLegalRun cluster workload (take i events) × IsLegal cluster workload (world_after cluster workload (take i events)) event
legal_at {cluster = cluster} {workload = workload} {events = events} run i event e =
    let r : IsLegalRun cluster workload (take i events) × AreLegalFrom cluster workload (world_after cluster workload (take i events)) (event ∷ drop (i + 1) events) =
    run_front (take i events) (event ∷ drop (i + 1) events) (subst (IsLegalRun cluster workload) (split_at events i event e).0 run) in
    (r.0, r.1.0)

-- a world grows as more events follow
pub grows_past : (cluster : Cluster) (workload : Workload) (xs ys : List Event) (r : ℕ) → NodeGrows (node_at (world_after cluster workload xs) r) (node_at (world_after cluster workload (xs ++ ys)) r)
grows_past cluster workload xs ys r = subst (λ v. NodeGrows (node_at (world_after cluster workload xs) r) (node_at v r)) (sym (world_from_append cluster workload (opening_world cluster workload) xs ys))
    (grows_on cluster workload (world_after cluster workload xs) ys r)
