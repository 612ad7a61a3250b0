-- No list of a legal world is longer than the events that led to it.
use Rattle.std.proofs.Common.{◌≡◌, ◌<◌, ◌≤◌, ◌+◌, ◌⊎◌, ℕ, zero, suc, Bool, true, false, cond, ltb, leb, ◌&&◌, List, [], ◌∷◌, ◌++◌, length, map, get_or, set}
use Rattle.std.proofs.Common.{replicate, Some, None, refl, sym, subst, inl, inr, arith}
use Rattle.std.specs.Prelude.{Option}
use Rattle.std.proofs.lemmas.Bool.{cases_Bool}
use Rattle.std.proofs.lemmas.List.{length_push, get_or-set_same, get_or-set_other}
use Rattle.std.proofs.lemmas.Option.{some_pair_parts}
use Rattle.std.proofs.Math.Seq.{map-set_same}
use Rattle.dt_lists.specs.Lists.{AllIn, Either}
use Rattle.dt_lists.proofs.Callers.{all_at, all_map, either_nat, from_right, field_of_set, all_set}
use Rattle.dt_access.specs.Clash.{Bytes}
use Rattle.dt_access.specs.declared.TxnId.{TxnId}
use Rattle.dt_sched.specs.Sched.{parts_in}
use Rattle.dt_events.specs.declared.Event.{Event}
use Rattle.dt_events.specs.declared.Event.TheVariants.{Submit, Append, Deliver, Insert, Resolve, Execute, Answer}
use Rattle.dt_txn.specs.declared.Txn.{Txn}
use Rattle.dt_txn.specs.Replica.{Replica, executed, stepped}
use Rattle.dt_txn.specs.Execution.{one}
use Rattle.dt_proc.specs.Tree.{ProcTree}
use Rattle.dt_cluster.specs.declared.Cluster.{Cluster}
use Rattle.dt_cluster.specs.Valid.{IsValidCluster}
use Rattle.dt_workload.specs.declared.Session.{Session}
use Rattle.dt_workload.specs.declared.Workload.{Workload}
use Rattle.dt_workload.specs.Valid.{IsValidWorkload}
use Rattle.dt_session.specs.World.{World, Node, Place, idle_place, is_session, no_node, node_at, opening_node, opening_table, opening_world, logs_of, received_of, session_at, txn_of, with_place}
use Rattle.dt_session.specs.Step.{IsLegal, MayAnswer, answered, next, node_submitted, placed, received, attempt_for}
use Rattle.dt_session.specs.Run.{AreLegal, order_of, world_after}
use Rattle.dt_agreement.specs.Invariant.{Inv}
use Rattle.dt_agreement.specs.LegalRun.{IsLegalRun}
use Rattle.dt_agreement.proofs.Callers.{append_cases, logs_placed, legal_keeps, legal_more, world_after_more, Submits, next_call_submits}
use Rattle.dt_site.proofs.Lists.{parts_set}

-- a world whose lists are that short
pub record HasShortLists (w : World) (n : ℕ) : Type 0 where
  pub submitted : (region : ℕ) → length (node_at w region).submitted ≤ n
  pub parts : parts_in (logs_of w) ≤ n
  pub done : AllIn (λ x. length x.here.done ≤ n) w.nodes
  pub answered : AllIn (λ p. p.answered ≤ n) w.places

-- places

place_found : (P : Place → Type 0) (sessions : List Session) (places : List Place) (region : ℕ) (name : Bytes) (s : Session) (p : Place) → AllIn P places → session_at sessions places region name ≡ Some (s, p) → P p
place_found P [] places region name s p a e = cc
place_found P (t ∷ sessions) [] region name s p a e = cc
place_found P (t ∷ sessions) (x ∷ places) region name s p a e = go (cases_Bool (is_session region name t)) (place_found P sessions places region name s p a.1)
  where
    go : (is_session region name t ≡ true) ⊎ (is_session region name t ≡ false) → (session_at sessions places region name ≡ Some (s, p) → P p) → P p
    go (inl y) f =
        let is : ◌≡◌ {A = Option (Session × Place)} (Some (t, x)) (Some (s, p)) = rw y at e in
        subst P (some_pair_parts t s x p is).1 a.0
    go (inr n) f = f (rw n at e)

place_put : (P : Place → Type 0) (sessions : List Session) (places : List Place) (region : ℕ) (name : Bytes) (p : Place) → AllIn P places → P p → AllIn P (with_place sessions places region name p)
place_put P [] places region name p a b = a
place_put P (t ∷ sessions) [] region name p a b = tt
place_put P (t ∷ sessions) (x ∷ places) region name p a b = go (is_session region name t) (place_put P sessions places region name p a.1 b)
  where
    go : (c : Bool) → AllIn P (with_place sessions places region name p) → AllIn P (cond c (p ∷ places) (x ∷ with_place sessions places region name p))
    go true r = (b, a.1)
    go false r = (a.0, r)

-- one node more that is short, in the place of another

done_longer : (w : World) (n : ℕ) → HasShortLists w n → AllIn (λ x. length x.here.done ≤ n + 1) w.nodes
done_longer w n s = all_map _ _ w.nodes (λ x a. omega arith) s.done

-- what a region executed is longer by at most one after a step of its own
done_stepped : (procs : List ProcTree) (txn_of : TxnId → Option Txn) (here : Replica) (n : ℕ) (event : Event) → length here.done ≤ n → length (stepped procs txn_of here event).done ≤ n + 1
done_stepped procs txn_of here n (Submit region name) few = omega arith
done_stepped procs txn_of here n (Append home source number) few = omega arith
done_stepped procs txn_of here n (Deliver region home first last) few = omega arith
done_stepped procs txn_of here n (Insert region home) few = omega arith
done_stepped procs txn_of here n (Resolve region ids) few = omega arith
done_stepped procs txn_of here n (Answer region name) few = omega arith
done_stepped procs txn_of here n (Execute region id) few = go (txn_of id)
  where
    go : (o : Option Txn) → length (executed procs here o).done ≤ n + 1
    go None = omega arith
    go (Some txn) = let more = length_push here.done (txn.id, (one procs txn here.table).0) in omega (arith, more, few)

still_short : (w : World) (n : ℕ) → HasShortLists w n → HasShortLists w (n + 1)
still_short w n s = record {
  submitted = λ r. let a : length (node_at w r).submitted ≤ n = s.submitted r in omega arith;
  parts = let a : parts_in (logs_of w) ≤ n = s.parts in omega arith;
  done = done_longer w n s;
  answered =
      all_map _ _ w.places (λ p a. omega arith) s.answered;
}

-- where a node keeps its submissions and its log, has executed few, and the places are short
node_short : (w : World) (n region : ℕ) (x : Node) (places : List Place) → x.submitted ≡ (node_at w region).submitted → x.log ≡ (node_at w region).log → length x.here.done ≤ n + 1
    → AllIn (λ p. p.answered ≤ n + 1) places → HasShortLists w n → HasShortLists (record { nodes = set w.nodes region x; places = places }) (n + 1)
node_short w n region x places es el few a s = record {
  submitted = λ r. let same : (get_or (set w.nodes region x) r no_node).submitted ≡ (node_at w r).submitted = field_of_set (λ y. y.submitted) w.nodes region x no_node es r in
      let few : length (node_at w r).submitted ≤ n = s.submitted r in subst (λ l. length l ≤ n + 1) (sym same) (omega arith);
  parts = let few : parts_in (logs_of w) ≤ n = s.parts in subst (λ l. parts_in l ≤ n + 1) (sym (map-set_same (λ y. y.log) w.nodes region x no_node el)) (omega arith);
  done = all_set _ w.nodes region x (done_longer w n s) few;
  answered = a;
}

-- a region of the world executed few
done_at : (w : World) (n : ℕ) → HasShortLists w n → (region : ℕ) → length (node_at w region).here.done ≤ n
done_at w n s region = all_at (λ (x : Node). length x.here.done ≤ n) no_node w.nodes region (omega arith) s.done

places_short : (w : World) (n : ℕ) → HasShortLists w n → AllIn (λ p. p.answered ≤ n + 1) w.places
places_short w n s = all_map _ _ w.places (λ p a. omega arith) s.answered

none_long : {A : Type 0} (xs : List A) → xs ≡ [] → length xs ≤ 0
none_long xs e = subst (λ l. length l ≤ 0) (sym e) (omega arith)

module _ (cluster : Cluster) (ok : IsValidCluster cluster) (workload : Workload) (fits : IsValidWorkload cluster workload) where
  -- a region with the attempt that a submission makes
  abbrev with_attempt : {w : World} {region : ℕ} {name : Bytes} → Submits cluster workload w region name → Node
  with_attempt {w} {region} r = node_submitted (node_at w region) (attempt_for cluster w region r.session r.place r.call)

  next_short : (w : World) (order : List TxnId) (n : ℕ) (event : Event) → IsLegal cluster workload w event → Inv cluster workload w order → HasShortLists w n → HasShortLists (next cluster workload w event) (n + 1)
  next_short w order n (Submit region name) l i s =
      let r : Submits cluster workload w region name = next_call_submits i ok region name l.allowed in
      subst (λ v. HasShortLists v (n + 1)) (sym r.next) (record {
        submitted = λ q. subm r q (either_nat q region);
        parts = let few : parts_in (logs_of w) ≤ n = s.parts in subst (λ v. parts_in v ≤ n + 1)
            (sym (map-set_same (λ y. y.log) w.nodes region (with_attempt r) no_node refl)) (omega arith);
        done = all_set _ w.nodes region _ (done_longer w n s) (let few : length (node_at w region).here.done ≤ n = done_at w n s region in omega arith);
        answered = place_put _ workload.sessions w.places region r.session.name _ (places_short w n s) (place_found (λ p. p.answered ≤ n + 1) workload.sessions w.places region name r.session r.place (places_short w n s) r.found);
      })
    where
      subm : (r : Submits cluster workload w region name) (q : ℕ) → Either (q ≡ region)
          → length (get_or (set w.nodes region (with_attempt r)) q no_node).submitted ≤ n + 1
      subm r q (inl e) =
          let few : length (node_at w region).submitted ≤ n = s.submitted region in
          subst (λ x. length (get_or (set w.nodes region (with_attempt r)) x no_node).submitted ≤ n + 1) (sym e)
          (subst (λ x. length x.submitted ≤ n + 1) (sym (get_or-set_same w.nodes region (with_attempt r) no_node
          (subst (λ m. region < m) (sym i.nodes) l.regions)))
          (let more : length ((node_at w region).submitted ++ attempt_for cluster w region r.session r.place r.call ∷ []) ≡ length (node_at w region).submitted + 1 =
          length_push (node_at w region).submitted (attempt_for cluster w region r.session r.place r.call) in omega arith))
      subm r q (inr m) =
          let few : length (node_at w q).submitted ≤ n = s.submitted q in
          subst (λ x. length x.submitted ≤ n + 1) (sym (get_or-set_other w.nodes region q (with_attempt r) no_node m)) (omega arith)
  next_short w order n (Append home source number) l i s = elim (append_cases i home source number l.regions.0 l.regions.1 l.allowed) [
    | inl same ↦ subst (λ v. HasShortLists v (n + 1)) (sym same) (still_short w n s)
    | inr r ↦ subst (λ v. HasShortLists v (n + 1)) (sym r.2) (record {
      submitted = λ q. let same : (node_at (placed w home source (Some r.0)) q).submitted ≡ (node_at w q).submitted = field_of_set (λ y. y.submitted) w.nodes home _ no_node refl q in
          let few : length (node_at w q).submitted ≤ n = s.submitted q in subst (λ x. length x ≤ n + 1) (sym same) (omega arith);
      parts = let few : parts_in (logs_of w) ≤ n = s.parts in subst (λ v. parts_in v ≤ n + 1) (sym (logs_placed i home source l.regions.0 l.regions.1 r.0 r.1.number r.1.request r.1.found))
          (omega (arith, parts_set (logs_of w) home));
      done = all_set _ w.nodes home _ (done_longer w n s) (let few : length (node_at w home).here.done ≤ n = done_at w n s home in omega arith);
      answered = places_short w n s;
    })
  ]
  next_short w order n (Deliver region home first last) l i s = go (leb first (received_of w region home) && ltb (received_of w region home) last)
    where
      go : (b : Bool) → HasShortLists (cond b (received w region home last) w) (n + 1)
      go true = node_short w n region (record (node_at w region) { received = set (node_at w region).received home last }) w.places refl refl
          (let few : length (node_at w region).here.done ≤ n = done_at w n s region in omega arith) (places_short w n s) s
      go false = still_short w n s
  next_short w order n (Insert region home) l i s = node_short w n region (record (node_at w region) { here = stepped cluster.procs (txn_of w) (node_at w region).here (Insert region home) }) w.places refl refl
      (done_stepped cluster.procs (txn_of w) (node_at w region).here n (Insert region home) (done_at w n s region)) (places_short w n s) s
  next_short w order n (Resolve region ids) l i s = node_short w n region (record (node_at w region) { here = stepped cluster.procs (txn_of w) (node_at w region).here (Resolve region ids) }) w.places refl refl
      (done_stepped cluster.procs (txn_of w) (node_at w region).here n (Resolve region ids) (done_at w n s region)) (places_short w n s) s
  next_short w order n (Execute region id) l i s = node_short w n region (record (node_at w region) { here = stepped cluster.procs (txn_of w) (node_at w region).here (Execute region id) }) w.places refl refl
      (done_stepped cluster.procs (txn_of w) (node_at w region).here n (Execute region id) (done_at w n s region)) (places_short w n s) s
  next_short w order n (Answer region name) l i s = go (session_at workload.sessions w.places region name) refl l.allowed
    where
      go : (o : Option (Session × Place)) → session_at workload.sessions w.places region name ≡ o → MayAnswer cluster w region o → HasShortLists (answered workload w region o) (n + 1)
      go None e m = absurd m
      go (Some (session, place)) e m =
          let few : place.answered ≤ n = place_found (λ p. p.answered ≤ n) workload.sessions w.places region name session place s.answered e in
          let before : HasShortLists w (n + 1) = still_short w n s in
          record {
            submitted = before.submitted;
            parts = before.parts;
            done = before.done;
            answered =
                place_put (λ p. p.answered ≤ n + 1) workload.sessions w.places region session.name (record { answered = place.answered + 1; waits = None }) (places_short w n s) (omega arith);
          }

  opened_at : {A : Type 0} (f : Node → List A) (n region : ℕ) (x d : Node) → f x ≡ [] → f d ≡ [] → f (get_or (replicate n x) region d) ≡ []
  opened_at f zero region x d a b = b
  opened_at f (suc n) zero x d a b = a
  opened_at f (suc n) (suc region) x d a b = opened_at f n region x d a b

  abbrev opening_nodes : ℕ → List Node
  opening_nodes n = replicate n (opening_node cluster.regions (opening_table cluster))

  no_parts : (n : ℕ) → parts_in (map (λ x. x.log) (opening_nodes n)) ≤ 0
  no_parts zero = omega arith
  no_parts (suc n) = let a : parts_in (map (λ x. x.log) (opening_nodes n)) ≤ 0 = no_parts n in omega arith

  none_done : (n : ℕ) → AllIn (λ x. length x.here.done ≤ 0) (opening_nodes n)
  none_done zero = tt
  none_done (suc n) = (omega arith, none_done n)

  idle_short : (sessions : List Session) → AllIn (λ p. p.answered ≤ 0) (map (λ s. idle_place) sessions)
  idle_short [] = tt
  idle_short (s ∷ sessions) = (omega arith, idle_short sessions)

  -- a legal world is as short as its events
  pub legal_short : (events : List Event) → AreLegal cluster workload events → HasShortLists (world_after cluster workload events) (length events)
  legal_short events legal = from_right (λ es. AreLegal cluster workload es → HasShortLists (world_after cluster workload es) (length es))
      (λ l. opening_short)
      (λ es e keeps l.
      let r : AreLegal cluster workload es × IsLegal cluster workload (world_after cluster workload es) e = legal_more cluster workload es e l in
      let run : IsLegalRun cluster workload es = record { sound = ok; fits = fits; legal = r.0 } in
      subst (λ v. HasShortLists v (length (es ++ e ∷ []))) (sym (world_after_more cluster workload es e))
      (subst (λ n. HasShortLists (next cluster workload (world_after cluster workload es) e) n) (sym (length_push es e))
      (next_short (world_after cluster workload es) (order_of es) (length es) e r.1 (legal_keeps run) (keeps r.0))))
      events legal
    where
      opening_short : HasShortLists (opening_world cluster workload) 0
      opening_short = record {
        submitted = λ region. none_long _ (opened_at (λ x. x.submitted) cluster.regions region (opening_node cluster.regions (opening_table cluster)) no_node refl refl);
        parts = no_parts cluster.regions;
        done = none_done cluster.regions;
        answered = idle_short workload.sessions;
      }
