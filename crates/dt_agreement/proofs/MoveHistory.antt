-- The one history of a legal world: what roots every annotation in it gives what the theory of serial runs asks.
use Rattle.std.proofs.Common.{◌≡◌, ◌≢◌, ◌<◌, ℕ, zero, suc, true, false, eqb, List, [], ◌∷◌, ◌++◌, map, take, slice_get, Some, refl, sym, ap, ap₂, subst, subst₂, ◌∙◌, inl, inr, arith, eq-eqb}
use Rattle.std.specs.Prelude.{filter}
use Rattle.std.proofs.lemmas.Option.{same_Some}
use Rattle.dt_lists.specs.Lists.{AnyIn, AllIn, SomeThen, Has, Either}
use Rattle.dt_lists.proofs.Callers.{either_le}
use Rattle.dt_lists.proofs.Callers.{any_get, any_put, any_append_left, any_append_right, all_get, all_map, all_put, has_map, any_of_image}
use Rattle.dt_lists.proofs.Callers.{has_filter}
use Rattle.dt_access.specs.Clash.{Bytes, is_whole, uses_clash, clash}
use Rattle.dt_access.specs.Granules.{mode_of_move, unit_of}
use Rattle.dt_access.proofs.Callers.{clash_of_uses, moves_clash, unit_again, units_of_clash}
use Rattle.dt_access.specs.declared.Mode.{Mode}
use Rattle.dt_access.specs.declared.TxnId.{TxnId}
use Rattle.dt_access.specs.declared.Access.{Access}
use Rattle.dt_access.specs.declared.Part.{Part}
use Rattle.dt_sched.specs.Views.{log_at, HasPart, HasParts, AreClashing, Edge, here, Reaches, IsClosed, Precedes}
use Rattle.dt_sched.specs.Decide.{IsSound}
use Rattle.dt_lists.proofs.Callers.{chain_step}
use Rattle.dt_sched.proofs.Callers.{part_of_complete, edge_at_home, complete_of_closed}
use Rattle.dt_sched.proofs.Callers.{precedes_irreflexive, precedes_transitive, comparable_in_log}
use Rattle.dt_sched.proofs.Callers.{sound_longer}
use Rattle.dt_table.specs.Table.{Moved, opening_home, home_after}
use Rattle.dt_txn.specs.declared.Body.{Body}
use Rattle.dt_txn.specs.declared.txn.Body.TheVariants.{Call, Move}
use Rattle.dt_txn.specs.declared.Txn.{Txn}
use Rattle.dt_txn.specs.Transaction.{uses_of, targets_of, homes_of, entries_at, used_of, part_of, IsValid}
use Rattle.dt_txn.specs.Serial.{table_after}
use Rattle.dt_txn.specs.Replica.{done_ids}
use Rattle.dt_serial.specs.Order.{Ordered, IsDown, FollowsMove, IsShared, IsHistory, txn_ids, KeepsToKeys}
use Rattle.dt_serial.specs.Evidence.{MadeMove}
use Rattle.dt_serial.proofs.Callers.{down_of_order, looked_from, looked_ids, looked_members, move_made, same_moves, valid_keeps}
use Rattle.dt_cluster.specs.declared.Cluster.{Cluster}
use Rattle.dt_workload.specs.declared.Workload.{Workload}
use Rattle.dt_session.specs.World.{World, Submission, node_at, opening_table, logs_of, log_of, view_at, submissions, txn_of}
use Rattle.dt_session.specs.Run.{txns_of}
use Rattle.dt_agreement.specs.Invariant.{IsPartAt, history_of, HasRoot, IsRooted, Rooted, Inv}
use Rattle.dt_agreement.proofs.Submissions.{txn_id}
use Rattle.dt_agreement.proofs.Views.{log_is}
use Rattle.dt_agreement.proofs.Homes.{has_set_of}
use Rattle.dt_agreement.proofs.Logs.{logs_past}
use Rattle.dt_agreement.proofs.RegionViews.{view_longer, full_well_formed, done_known, order_closed, order_known}
use Rattle.dt_agreement.proofs.Annotations.{moves_its_unit, txns_submitted, txns_valid, unmoved_at_first, version_stays}

-- pairs of a list, by membership and by images

some_map_in : {A : Type 0} (R S : A → A → Type 0) (xs : List A) → ((x y : A) → Has xs x → Has xs y → R x y → S x y) → SomeThen R xs → SomeThen S xs
some_map_in R S [] f s = s
some_map_in R S (x ∷ xs) f (inl a) = let r : (y : _) × Has xs y × R x y = any_get (R x) xs a in inl (any_put (S x) xs r.0 r.1 (f x r.0 (inl refl) (inr r.1) r.2))
some_map_in R S (x ∷ xs) f (inr s) = inr (some_map_in R S xs (λ a b ha hb r. f a b (inr ha) (inr hb) r) s)

some_of_image : {A B : Type 0} (R : B → B → Type 0) (f : A → B) (xs : List A) → SomeThen R (map f xs) → SomeThen (λ x y. R (f x) (f y)) xs
some_of_image R f [] s = s
some_of_image R f (x ∷ xs) (inl a) = inl (any_of_image (R (f x)) f xs a)
some_of_image R f (x ∷ xs) (inr s) = inr (some_of_image R f xs s)

-- what a part lists

-- an entry is listed by the part at its home
pub listed : (body : Body) (home : ℕ) (access : List Access) (a : Access) → Has access a → a.home ≡ home → Has (map used_of (entries_at body home access)) (used_of a)
listed (Call proc args) home access a h e = has_map used_of (filter (λ x. eqb x.home home) access) a (has_filter (λ x. eqb x.home home) access a h (eq-eqb a.home home e))
listed (Move key target) home access a h e = has_map used_of access a h

-- how a move of a key's unit uses that unit
abbrev use_of_move : ℕ → Bytes → Bytes × Mode
use_of_move version key = (unit_of version key, mode_of_move version)

-- each part of a move lists the unit that it moves
pub listed_of_move : (cluster : Cluster) (regions : ℕ) (x : Txn) (key : Bytes) (target : ℕ) (home : ℕ) → IsValid cluster.procs cluster.version regions x → x.body ≡ Move key target
    → (part_of x home).keys ≡ (key, mode_of_move cluster.version) ∷ []
listed_of_move cluster regions x key target home valid e = ap (λ b. map used_of (entries_at b home x.access)) e ∙ valid.uses ∙ ap (uses_of cluster.procs cluster.version) e

-- what moves the unit of an entry's key clashes with each list that has the entry
meets_move : (version : ℕ) (a : Access) (uses : List (Bytes × Mode)) → Has uses (used_of a) → clash (use_of_move version a.key ∷ []) uses ≡ true
meets_move version a uses h = clash_of_uses (use_of_move version a.key ∷ []) uses
    (inl (any_put (λ b. uses_clash (use_of_move version a.key) b ≡ true) uses (used_of a) h (moves_clash version (use_of_move version a.key) (used_of a) refl (unit_again version a.key))))

-- an entry's home is one of the homes
pub home_of_entry : (x : Txn) (a : Access) → Has x.access a → Has (homes_of x) a.home
home_of_entry x a h = has_set_of (map (λ b. b.home) x.access ++ targets_of x.body) a.home (any_append_left (λ y. y ≡ a.home) (map (λ b. b.home) x.access) (targets_of x.body) (has_map (λ b. b.home) x.access a h))

pub home_of_target : (x : Txn) (key : Bytes) (target : ℕ) → x.body ≡ Move key target → Has (homes_of x) target
home_of_target x key target e =
    has_set_of (map (λ b. b.home) x.access ++ targets_of x.body) target
    (any_append_right (λ y. y ≡ target) (map (λ b. b.home) x.access) (targets_of x.body) (subst (λ b. Has (targets_of b) target) (sym e) (inl refl)))

-- the last of the first moves gives the home
pub home_after_last : (home : ℕ) (moves : List Moved) (c : ℕ) (m : Moved) → slice_get moves c ≡ Some m → home_after home (take (suc c) moves) ≡ m.target
home_after_last home [] c m e = cc
home_after_last home (x ∷ moves) zero m e = ap (λ y. y.target) (same_Some x m e)
home_after_last home (x ∷ moves) (suc c) m e = home_after_last x.target moves c m e

module _ {cluster : Cluster} {workload : Workload} {w : World} {order : List TxnId} (i : Inv cluster workload w order) where
  -- the ids of the transactions of ids
  pub order_ids : txn_ids (txns_of w order) ≡ order
  order_ids = looked_ids (txn_of w) (txn_id w) order (order_known i)

  pub done_txn_ids : (region : ℕ) → region < cluster.regions → txn_ids (txns_of w (done_ids (node_at w region).here)) ≡ done_ids (node_at w region).here
  done_txn_ids region lt = looked_ids (txn_of w) (txn_id w) (done_ids (node_at w region).here) (done_known i region lt)

  -- what a region executed comes, in the whole logs too, after all that precedes it
  pub done_down : (region : ℕ) → region < cluster.regions → IsDown (Precedes (logs_of w)) (done_ids (node_at w region).here)
  done_down region lt =
      let s : IsSound (logs_of w) (node_at w region).here.resolved (done_ids (node_at w region).here) =
      sound_longer (view_at w region) (logs_of w) (view_longer i region lt) (full_well_formed i) (node_at w region).here.resolved (done_ids (node_at w region).here) (i.sound region lt) in
      down_of_order (Precedes (logs_of w)) (done_ids (node_at w region).here) s.done_once (precedes_irreflexive (logs_of w)) s.done_downward s.done_in_order

  -- a part in the whole logs is that of its transaction
  pub part_there : (home : ℕ) (p : Part) → Has (log_at (logs_of w) home) p → IsPartAt w home p
  part_there home p h = by (either_le (suc home) cluster.regions)
    where
      by : Either (home < cluster.regions) → IsPartAt w home p
      by (inl lt) = all_get (IsPartAt w home) (log_of w home) (i.logs home lt).parts p (subst (λ l. Has l p) (log_is w home) h)
      by (inr n) = absurd (subst (λ l. Has l p) (logs_past cluster.regions w i.nodes home (omega arith)) h)

  -- a closed transaction has its part at each of its homes
  pub parts_of_closed : (id : TxnId) (x : Txn) (home : ℕ) → IsClosed (logs_of w) id → txn_of w id ≡ Some x → Has (homes_of x) home → HasPart (log_at (logs_of w) home) id
  parts_of_closed id x home c e h =
      let r : (at : ℕ) × (p : Part) × Has (log_at (logs_of w) at) p × (p.id ≡ id) × HasParts (logs_of w) p.homes id = part_of_complete (logs_of w) id (complete_of_closed (logs_of w) id c) in
      let part : IsPartAt w r.0 r.1 = part_there r.0 r.1 r.2 in
      let both : Some part.0 ≡ Some x = sym part.1 ∙ ap (txn_of w) r.3 ∙ e in
      let same : part.0 ≡ x = same_Some part.0 x both in
      all_get (λ at. HasPart (log_at (logs_of w) at) id) r.1.homes r.4 home (subst (λ l. Has l home) (sym (ap (λ p. p.homes) part.2 ∙ ap homes_of same)) h)

  -- the part of a known transaction
  pub part_keys : (home : ℕ) (p : Part) (x : Txn) → Has (log_at (logs_of w) home) p → txn_of w p.id ≡ Some x → p.keys ≡ (part_of x home).keys
  part_keys home p x h e =
      let part : IsPartAt w home p = part_there home p h in
      let both : Some part.0 ≡ Some x = sym part.1 ∙ e in
      ap (λ q. q.keys) (part.2 ∙ ap (λ t. part_of t home) (same_Some part.0 x both))

  -- a move of the history is made by one of the transactions of the order
  pub maker : (key : Bytes) (c : ℕ) (m : Moved) → slice_get (history_of cluster w order key) c ≡ Some m → MadeMove cluster.procs (txns_of w order) (opening_table cluster) key c m.by
  maker key c m e = move_made cluster.procs (txns_of w order) (opening_table cluster) key c m (unmoved_at_first cluster key) e

  -- as a move of the key's unit
  pub maker_found : (key : Bytes) (c : ℕ) (m : Moved) → (e : slice_get (history_of cluster w order key) c ≡ Some m)
      → (x : Txn) × (txn_of w m.by ≡ Some x) × (x.body ≡ Move (unit_of cluster.version key) m.target) × IsValid cluster.procs cluster.version cluster.regions x
  maker_found key c m e =
      let made : MadeMove cluster.procs (txns_of w order) (opening_table cluster) key c m.by = maker key c m e in
      let from : Has order made.mover.id × (txn_of w made.mover.id ≡ Some made.mover) = all_get (λ x. Has order x.id × (txn_of w x.id ≡ Some x)) (txns_of w order) (looked_from (txn_of w) (txn_id w) order) made.mover made.there in
      let both : Some m ≡ Some (record { target = made.target; by = m.by }) = sym e ∙ made.number in
      let same : m ≡ record { target = made.target; by = m.by } = same_Some m (record { target = made.target; by = m.by }) both in
      let target : made.target ≡ m.target = sym (ap (λ x. x.target) same) in
      let found : txn_of w m.by ≡ Some made.mover = subst (λ id. txn_of w id ≡ Some made.mover) made.id from.1 in
      let valid : IsValid cluster.procs cluster.version cluster.regions made.mover =
      all_get (IsValid cluster.procs cluster.version cluster.regions) (txns_of w order) (txns_valid cluster cluster.regions w i.valid order) made.mover made.there in
      (made.mover, found, moves_its_unit cluster made.mover made.moved key made.target valid made.body made.same ∙ ap (Move (unit_of cluster.version key)) target, valid)

  -- keys of one unit have the same moves
  pub history_of_unit : (k l : Bytes) → unit_of cluster.version k ≡ unit_of cluster.version l → history_of cluster w order k ≡ history_of cluster w order l
  history_of_unit k l same = same_moves (table_after cluster.procs (txns_of w order) (opening_table cluster)) cluster.version k l (version_stays cluster (txns_of w order) (opening_table cluster)) same

  -- each transaction of the order keeps to its keys, so in version 1 none takes a granule as a whole
  keep_to_keys : AllIn (KeepsToKeys cluster.procs cluster.version) (txns_of w order)
  keep_to_keys = all_map (IsValid cluster.procs cluster.version cluster.regions) (KeepsToKeys cluster.procs cluster.version) (txns_of w order)
      (valid_keeps cluster.procs cluster.version cluster.regions) (txns_valid cluster cluster.regions w i.valid order)

  narrow : (x : Txn) (a : Access) → Has (txns_of w order) x → Has x.access a → cluster.version ≢ 2 → is_whole a.mode ≡ false
  narrow x a hx ha = all_get (λ b. cluster.version ≢ 2 → is_whole b.mode ≡ false) x.access (all_get (KeepsToKeys cluster.procs cluster.version) (txns_of w order) keep_to_keys x hx).whole a ha

  module _ (rooted : Rooted cluster w order) where
    -- an entry of a transaction of the order is rooted
    pub root_of : (x : Txn) (a : Access) → Has (txns_of w order) x → Has x.access a → IsRooted cluster (logs_of w) (history_of cluster w order a.key) x.id a
    root_of x a hx ha =
        let r : (s : Submission) × Has (submissions w) s × (s.txn ≡ x) = txns_submitted w order x hx in
        let all : AllIn (λ b. IsRooted cluster (logs_of w) (history_of cluster w order b.key) r.0.txn.id b) r.0.txn.access =
        all_get (λ s. AllIn (λ b. IsRooted cluster (logs_of w) (history_of cluster w order b.key) s.txn.id b) s.txn.access) (submissions w) rooted r.0 r.1 in
        all_get (λ b. IsRooted cluster (logs_of w) (history_of cluster w order b.key) x.id b) x.access (subst (λ t. AllIn (λ b. IsRooted cluster (logs_of w) (history_of cluster w order b.key) t.id b) t.access) r.2 all) a ha

    in_order : (x : Txn) → Has (txns_of w order) x → Has order x.id × (txn_of w x.id ≡ Some x)
    in_order x hx = all_get (λ y. Has order y.id × (txn_of w y.id ≡ Some y)) (txns_of w order) (looked_from (txn_of w) (txn_id w) order) x hx

    -- the mover before an entry's annotated number precedes the transaction
    anchored_at : (x : Txn) (a : Access) → Has (txns_of w order) x → Has x.access a → FollowsMove (Precedes (logs_of w)) (history_of cluster w order a.key) a.counter x.id
    anchored_at x a hx ha = follows a.counter (root_of x a hx ha).root
      where
        closed : IsClosed (logs_of w) x.id
        closed = order_closed i x.id (in_order x hx).0

        there : HasPart (log_at (logs_of w) a.home) x.id
        there = parts_of_closed x.id x a.home closed (in_order x hx).1 (home_of_entry x a ha)

        follows : (c : ℕ) → HasRoot (logs_of w) x.id a.home (history_of cluster w order a.key) c → FollowsMove (Precedes (logs_of w)) (history_of cluster w order a.key) c x.id
        follows zero r = tt
        follows (suc c) r = (r.0, r.1, (ne, chain_step edge, inl r.3))
          where
            ne : r.0.by ≢ x.id
            ne e = r.3 (subst (λ u. Reaches (logs_of w) x.id u) (sym e) here)

            clashing : (p q : Part) → Has (log_at (logs_of w) a.home) p → Has (log_at (logs_of w) a.home) q → (p.id ≡ r.0.by) × (q.id ≡ x.id) → AreClashing r.0.by x.id p q
            clashing p q hp hq e =
                let m : (y : Txn) × (txn_of w r.0.by ≡ Some y) × (y.body ≡ Move (unit_of cluster.version a.key) r.0.target) × IsValid cluster.procs cluster.version cluster.regions y = maker_found a.key c r.0 r.1 in
                let left : p.keys ≡ use_of_move cluster.version a.key ∷ [] = part_keys a.home p m.0 hp (ap (txn_of w) e.0 ∙ m.1)
                ∙ listed_of_move cluster cluster.regions m.0 (unit_of cluster.version a.key) r.0.target a.home m.3 m.2 in
                let right : q.keys ≡ (part_of x a.home).keys = part_keys a.home q x hq (ap (txn_of w) e.1 ∙ (in_order x hx).1) in
                (e.0, e.1, subst₂ (λ k l. clash k l ≡ true) (sym left) (sym right) (meets_move cluster.version a (part_of x a.home).keys (listed x.body a.home x.access a ha refl)))

            edge : Edge (logs_of w) r.0.by x.id
            edge =
                edge_at_home (logs_of w) a.home r.0.by x.id ne
                (some_map_in _ (AreClashing r.0.by x.id) (log_at (logs_of w) a.home) clashing (some_of_image (λ u t. (u ≡ r.0.by) × (t ≡ x.id)) (λ p. p.id) (log_at (logs_of w) a.home) (r.4 there)))

    -- transactions with clashing entries of one number share a log
    shared : IsShared (Precedes (logs_of w)) (txns_of w order)
    shared x y hx hy ne a b ha hb e c =
        let unit : unit_of cluster.version a.key ≡ unit_of cluster.version b.key = units_of_clash cluster.version (used_of a) (used_of b) (λ other. (narrow x a hx ha other, narrow y b hy hb other)) c in
        let moves : take a.counter (history_of cluster w order a.key) ≡ take b.counter (history_of cluster w order b.key) = ap₂ take e (history_of_unit a.key b.key unit) in
        let home : a.home ≡ b.home = (root_of x a hx ha).home ∙ ap₂ (λ u l. home_after (opening_home cluster.regions cluster.homes u) l) unit moves ∙ sym (root_of y b hy hb).home in
        let px : HasPart (log_at (logs_of w) a.home) x.id = parts_of_closed x.id x a.home (order_closed i x.id (in_order x hx).0) (in_order x hx).1 (home_of_entry x a ha) in
        let py : HasPart (log_at (logs_of w) a.home) y.id = subst (λ h. HasPart (log_at (logs_of w) h) y.id) (sym home) (parts_of_closed y.id y b.home (order_closed i y.id (in_order y hy).0) (in_order y hy).1 (home_of_entry y b hb)) in
        let p : (p : Part) × Has (log_at (logs_of w) a.home) p × (p.id ≡ x.id) = any_get (λ p. p.id ≡ x.id) (log_at (logs_of w) a.home) px in
        let q : (q : Part) × Has (log_at (logs_of w) a.home) q × (q.id ≡ y.id) = any_get (λ q. q.id ≡ y.id) (log_at (logs_of w) a.home) py in
        let left : p.0.keys ≡ (part_of x a.home).keys = part_keys a.home p.0 x p.1 (ap (txn_of w) p.2 ∙ (in_order x hx).1) in
        let right : q.0.keys ≡ (part_of y a.home).keys = part_keys a.home q.0 y q.1 (ap (txn_of w) q.2 ∙ (in_order y hy).1) in
        let apart : p.0.id ≢ q.0.id = λ s. ne (sym p.2 ∙ s ∙ q.2) in
        let clashes : clash (part_of x a.home).keys (part_of y a.home).keys ≡ true = clash_of_uses (part_of x a.home).keys (part_of y a.home).keys
        (any_put (λ u. AnyIn (λ v. uses_clash u v ≡ true) (part_of y a.home).keys) (part_of x a.home).keys (used_of a) (listed x.body a.home x.access a ha refl)
        (any_put (λ v. uses_clash (used_of a) v ≡ true) (part_of y a.home).keys (used_of b) (listed y.body a.home y.access b hb (sym home)) c)) in
        subst₂ (λ u t. Ordered (Precedes (logs_of w)) u t) p.2 q.2 (comparable_in_log (logs_of w) a.home p.0 q.0 p.1 q.1 apart (subst₂ (λ k l. clash k l ≡ true) (sym left) (sym right) clashes))

    -- the order is a history
    pub order_is_history : IsHistory cluster.procs (Precedes (logs_of w)) (opening_table cluster) (txns_of w order)
    order_is_history = record {
      transitive = precedes_transitive (logs_of w);
      unmoved = unmoved_at_first cluster;
      keys = keep_to_keys;
      down = subst (IsDown (Precedes (logs_of w))) (sym order_ids) i.ordered.down;
      anchored = all_put _ (txns_of w order) (λ x hx. all_put (λ a. FollowsMove (Precedes (logs_of w)) (history_of cluster w order a.key) a.counter x.id) x.access (λ a ha. anchored_at x a hx ha));
      shared = shared;
    }

    -- what a region executed is a part of it
    pub region_members : (region : ℕ) → region < cluster.regions → AllIn (λ x. Has (txns_of w order) x) (txns_of w (done_ids (node_at w region).here))
    region_members region lt = looked_members (txn_of w) (txn_id w) (done_ids (node_at w region).here) order (all_put (Has order) (done_ids (node_at w region).here) (λ id h. (i.ordered.executed id).1 (region, lt, h)))

    pub region_down : (region : ℕ) → region < cluster.regions → IsDown (Precedes (logs_of w)) (txn_ids (txns_of w (done_ids (node_at w region).here)))
    region_down region lt = subst (IsDown (Precedes (logs_of w))) (sym (done_txn_ids region lt)) (done_down region lt)
