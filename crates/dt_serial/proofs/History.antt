-- A serial run and an order that fits it: the moves of a key, who is stale, and who is ordered.
use Rattle.std.proofs.Common.{◌≡◌, ◌≢◌, ◌<◌, ◌≤◌, ◌⊎◌, ℕ, zero, suc, Bool, true, cond, false, List, ◌∷◌, ◌++◌, length, slice_get, Some, None, refl, sym, ap, subst, ◌∙◌, inl, inr, arith}
use Rattle.std.specs.Prelude.{Option, option_map}
use Rattle.std.proofs.lemmas.Bool.{cases_lt, cases_order}
use Rattle.std.proofs.lemmas.List.{map-append}
use Rattle.std.proofs.lemmas.Option.{slice_get_within, slice_get-get_or}
use Rattle.dt_lists.specs.Lists.{AllIn, Has, EachThen, Either}
use Rattle.dt_lists.proofs.Callers.{any_get, all_get, all_put, each_map, each_across, has_map, Spot, spot_has, each_of_steps, each_at, PassesAtFront}
use Rattle.dt_lists.proofs.Callers.{if_passes, get_filtered}
use Rattle.dt_access.proofs.Callers.{among_of_has, either_id, not_among, units_of_clash}
use Rattle.dt_access.specs.Ids.{is_among}
use Rattle.dt_access.specs.Clash.{Bytes, is_whole, uses_clash}
use Rattle.dt_access.specs.Granules.{unit_of}
use Rattle.dt_access.specs.declared.TxnId.{TxnId}
use Rattle.dt_access.specs.declared.Access.{Access}
use Rattle.dt_proc.specs.Tree.{ProcTree}
use Rattle.dt_table.specs.Table.{Table, Moved, moves_of, counter_of, next_mover}
use Rattle.dt_txn.specs.declared.txn.Txn.{Txn}
use Rattle.dt_txn.specs.Serial.{table_after}
use Rattle.dt_serial.specs.Order.{txn_ids, Ordered, IsDown, FollowsMove, IsLive, ChangesBy, MayChange, KeepsToKeys, IsHistory}
use Rattle.dt_serial.specs.ReplayInner.{replay}
use Rattle.dt_serial.proofs.OneTransaction.{live_entries, IsMoveOf, change_of_one, clash_of_change, unit_of_change}
use Rattle.dt_serial.proofs.Rows.{same_moves}
use Rattle.dt_serial.proofs.Runs.{version_after, table_after_append, IsMoveAt, numbered_move, mover_ran, replay_append, replay_all, replay_none, chosen_moves, replay_moves}
use Rattle.dt_serial.proofs.PastOfId.{IsPast, past_of_down, same_past, down_preceders}

module _ (procs : List ProcTree) (order : TxnId → TxnId → Type 0) (start : Table) (txns : List Txn) (h : IsHistory procs order start txns) where
  -- places in the run

  pub ids_at : (x : Txn) (s : Spot txns x) → txn_ids txns ≡ txn_ids s.front ++ x.id ∷ txn_ids s.rest
  ids_at x s = ap txn_ids s.is ∙ map-append (λ y. y.id) s.front (x ∷ s.rest)

  pub down_at : (x : Txn) (s : Spot txns x) → IsDown order (txn_ids s.front ++ x.id ∷ txn_ids s.rest)
  down_at x s = subst (IsDown order) (ids_at x s) h.down

  pub past_at : (x : Txn) (s : Spot txns x) → IsPast order (is_among (txn_ids s.front)) x.id
  past_at x s = past_of_down order (txn_ids s.front) x.id (txn_ids s.rest) (down_at x s)

  pub apart_at : (x : Txn) (s : Spot txns x) (i : TxnId) → Has (txn_ids s.front) i → ¬ (Has (x.id ∷ txn_ids s.rest) i)
  apart_at x s i a b = each_across _ (txn_ids s.front) (x.id ∷ txn_ids s.rest) i i (down_at x s).once a b refl

  pub table_from : (x : Txn) (s : Spot txns x) → table_after procs txns start ≡ table_after procs (x ∷ s.rest) (table_after procs s.front start)
  table_from x s = ap (λ l. table_after procs l start) s.is ∙ table_after_append procs s.front (x ∷ s.rest) start

  -- the table before a transaction is the replay of those before it
  pub replay_before : (x : Txn) (s : Spot txns x) → replay procs (is_among (txn_ids s.front)) txns start start ≡ table_after procs s.front start
  replay_before x s =
      ap (λ l. replay procs (is_among (txn_ids s.front)) l start start) s.is
      ∙ replay_append procs (is_among (txn_ids s.front)) s.front (x ∷ s.rest) start start
      ∙ replay_none procs (is_among (txn_ids s.front)) (x ∷ s.rest) _ _ (all_put _ (x ∷ s.rest) (λ y k. not_among (txn_ids s.front) y.id (λ a. apart_at x s y.id a (has_map (λ z. z.id) (x ∷ s.rest) y k))))
      ∙ replay_all procs (is_among (txn_ids s.front)) s.front start (all_put _ s.front (λ y k. among_of_has (txn_ids s.front) y.id (has_map (λ z. z.id) s.front y k)))

  no_moves : (key : Bytes) → counter_of start key ≡ 0
  no_moves key = ap length (h.unmoved key)

  pub keys_at : (x : Txn) → Has txns x → KeepsToKeys procs start.version x
  keys_at x k = all_get (KeepsToKeys procs start.version) txns h.keys x k

  -- the version stays
  pub version_at : (xs : List Txn) → (table_after procs xs start).version ≡ start.version
  version_at xs = version_after procs start.version xs start refl

  -- keys of one unit have the same moves
  pub moves_same : (xs : List Txn) (a b : Bytes) → unit_of start.version a ≡ unit_of start.version b → moves_of (table_after procs xs start) a ≡ moves_of (table_after procs xs start) b
  moves_same xs a b same = same_moves (table_after procs xs start) start.version a b (version_at xs) same

  pub anchor_at : (x : Txn) (a : Access) → Has txns x → Has x.access a → FollowsMove order (moves_of (table_after procs txns start) a.key) a.counter x.id
  anchor_at x a k e = all_get _ x.access (all_get _ txns h.anchored x k) a e

  -- the moves of one key

  -- the mover of the move of this number was annotated with that number
  pub record IsMoveNumber (key : Bytes) (i : ℕ) (m : Moved) : Type 0 where
    pub mover : Txn
    pub at : Spot txns mover
    pub makes : IsMoveOf procs start.version mover (table_after procs at.front start) key m
    pub may : MayChange start.version mover key
    pub counters : AllIn (λ a. unit_of start.version a.key ≡ unit_of start.version key → a.counter ≡ i) mover.access

  pub index : (key : Bytes) (i : ℕ) (m : Moved) → slice_get (moves_of (table_after procs txns start) key) i ≡ Some m → IsMoveNumber key i m
  index key i m e =
      let r : IsMoveAt procs start.version txns start key i m = numbered_move procs start.version txns start key i m refl (omega (arith, no_moves key)) e in
      let there : Has txns r.mover = spot_has txns r.mover r.at in
      record {
        mover = r.mover;
        at = r.at;
        makes = r.makes;
        may = (change_of_one procs start.version r.mover (table_after procs r.at.front start) key (keys_at r.mover there) r.makes.changes).1;
        counters = all_put _ r.mover.access (λ a k same. exact r a.counter
            (subst (λ c. c ≤ a.counter) (ap length (moves_same r.at.front a.key key same) ∙ r.number) (all_get _ r.mover.access (live_entries r.mover (table_after procs r.at.front start) r.makes.live) a k))
            (subst (λ ms. FollowsMove order ms a.counter r.mover.id) (moves_same txns a.key key same) (anchor_at r.mover a there k)));
      }
    where
      exact : (r : IsMoveAt procs start.version txns start key i m) (c : ℕ) → i ≤ c → FollowsMove order (moves_of (table_after procs txns start) key) c r.mover.id → c ≡ i
      exact r zero le f = omega arith
      exact r (suc c) le f = close (cases_lt c i)
        where
          close : (c < i) ⊎ (i ≤ c) → suc c ≡ i
          close (inl lt) = omega arith
          close (inr low) =
              let before : Has (txn_ids r.at.front) (f.0).by = down_preceders order (txn_ids r.at.front) r.mover.id (txn_ids r.at.rest) (f.0).by (down_at r.mover r.at) f.2 in
              let later : slice_get (moves_of (table_after procs (r.mover ∷ r.at.rest) (table_after procs r.at.front start)) key) c ≡ Some f.0 = subst (λ t. slice_get (moves_of t key) c ≡ Some f.0) (table_from r.mover r.at) f.1 in
              let from : counter_of (table_after procs r.at.front start) key ≤ c = subst (λ n. n ≤ c) (sym r.number) low in
              absurd (apart_at r.mover r.at (f.0).by before (mover_ran procs (r.mover ∷ r.at.rest) (table_after procs r.at.front start) key c f.0 from later))

  -- each mover of a key precedes all later movers of that key
  pub chain : (key : Bytes) → EachThen (λ a b. order a.by b.by) (moves_of (table_after procs txns start) key)
  chain key = each_of_steps _ (λ x y z. h.transitive x.by y.by z.by) _ step
    where
      step : (i : ℕ) (a b : Moved) → slice_get (moves_of (table_after procs txns start) key) i ≡ Some a → slice_get (moves_of (table_after procs txns start) key) (suc i) ≡ Some b → order a.by b.by
      step i a b p q =
          let r : IsMoveNumber key (suc i) b = index key (suc i) b q in
          let e : (e : Access) × Has r.mover.access e × ChangesBy start.version key e = any_get _ r.mover.access r.may in
          let unit : unit_of start.version (e.0).key ≡ unit_of start.version key = unit_of_change start.version key e.0 e.2 in
          let number : (e.0).counter ≡ suc i = all_get _ r.mover.access r.counters e.0 e.1 unit in
          let f : FollowsMove order (moves_of (table_after procs txns start) key) (suc i) r.mover.id
          = subst (λ c. FollowsMove order (moves_of (table_after procs txns start) key) c r.mover.id) number
          (subst (λ ms. FollowsMove order ms (e.0).counter r.mover.id) (moves_same txns (e.0).key key unit) (anchor_at r.mover e.0 (spot_has txns r.mover r.at) e.1)) in
          let same : f.0 ≡ a = cc (f.1, p) in
          subst (λ c. order c b.by) (ap (λ c. c.by) same) (subst (order (f.0).by) r.makes.by f.2)

  -- a transaction is ordered with the mover that follows its annotated moves
  pub follower : (x : Txn) (a : Access) (m : Moved) → Has txns x → Has x.access a → slice_get (moves_of (table_after procs txns start) a.key) a.counter ≡ Some m → m.by ≢ x.id → Ordered order m.by x.id
  follower x a m k ka e ne =
      let r : IsMoveNumber a.key a.counter m = index a.key a.counter m e in
      let w : (w : Access) × Has r.mover.access w × ChangesBy start.version a.key w = any_get _ r.mover.access r.may in
      let number : (w.0).counter ≡ a.counter = all_get _ r.mover.access r.counters w.0 w.1 (unit_of_change start.version a.key w.0 w.2) in
      let clash : uses_clash ((w.0).key, (w.0).mode) (a.key, a.mode) ≡ true = clash_of_change start.version a.key w.0 a w.2 (inl refl) in
      subst (λ i. Ordered order i x.id) r.makes.by (h.shared r.mover x (spot_has txns r.mover r.at) k (λ s. ne (sym r.makes.by ∙ s)) w.0 a w.1 ka number clash)

  -- replays of pasts

  pub replayed_moves : (p : TxnId → Bool) (key : Bytes) → moves_of (replay procs p txns start start) key ≡ chosen_moves p (moves_of (table_after procs txns start) key)
  replayed_moves p key = replay_moves procs start.version p txns start start key refl refl (h.unmoved key ∙ sym (ap (chosen_moves p) (h.unmoved key)))

  -- a choice that is closed under the order chooses of the moves of a key a front
  pub closed_front : (p : TxnId → Bool) → ((u v : TxnId) → order u v → p v ≡ true → p u ≡ true) → (key : Bytes) → PassesAtFront (λ m. p m.by) (moves_of (table_after procs txns start) key)
  closed_front p closed key = each_map _ _ _ (λ a b r. closed a.by b.by r) (chain key)

  pub replayed_mover : (p : TxnId → Bool) → ((u v : TxnId) → order u v → p v ≡ true → p u ≡ true) → (key : Bytes) (c : ℕ)
      → next_mover (replay procs p txns start start) key c ≡ option_map (λ m. m.by) (if_passes (λ m. p m.by) (slice_get (moves_of (table_after procs txns start) key) c))
  replayed_mover p closed key c = ap (λ l. option_map (λ m. m.by) (slice_get l c)) (replayed_moves p key)
      ∙ ap (option_map (λ m. m.by)) (get_filtered (λ m. p m.by) (moves_of (table_after procs txns start) key) c (closed_front p closed key))

  -- after any two pasts of it, a transaction sees the same next movers
  pub same_movers : (x : Txn) (p q : TxnId → Bool) → Has txns x → IsPast order p x.id → IsPast order q x.id
      → AllIn (λ a. next_mover (replay procs p txns start start) a.key a.counter ≡ next_mover (replay procs q txns start start) a.key a.counter) x.access
  same_movers x p q k pp pq = all_put _ x.access (λ a ka.
      replayed_mover p pp.closed a.key a.counter ∙ ap (option_map (λ m. m.by)) (same a ka (slice_get (moves_of (table_after procs txns start) a.key) a.counter) refl) ∙ sym (replayed_mover q pq.closed a.key a.counter))
    where
      alike : (a : Access) (m : Moved) → Has x.access a → slice_get (moves_of (table_after procs txns start) a.key) a.counter ≡ Some m → Either (m.by ≡ x.id) → p m.by ≡ q m.by
      alike a m ka e (inl own) = ap p own ∙ pp.absent ∙ sym (ap q own ∙ pq.absent)
      alike a m ka e (inr ne) = same_past order p q x.id m.by pp pq (follower x a m k ka e ne)

      same : (a : Access) → Has x.access a → (o : Option Moved) → slice_get (moves_of (table_after procs txns start) a.key) a.counter ≡ o → if_passes (λ m. p m.by) o ≡ if_passes (λ m. q m.by) o
      same a ka None e = refl
      same a ka (Some m) e = ap (λ b. cond b (Some m) None) (alike a m ka e (either_id m.by x.id))

  -- live transactions

  -- the mover that follows the annotated moves of a live transaction is that transaction, or it comes after it
  pub live_before : (x : Txn) (s : Spot txns x) (a : Access) (m : Moved) → IsLive x (table_after procs s.front start) → Has x.access a
      → slice_get (moves_of (table_after procs txns start) a.key) a.counter ≡ Some m → (x.id ≡ m.by) ⊎ order x.id m.by
  live_before x s a m live ka e = go (either_id m.by x.id)
    where
      go : Either (m.by ≡ x.id) → (x.id ≡ m.by) ⊎ order x.id m.by
      go (inl own) = inl (sym own)
      go (inr ne) = elim (follower x a m (spot_has txns x s) ka e ne) [
        | inl r ↦ absurd (apart_at x s m.by
            (down_preceders order (txn_ids s.front) x.id (txn_ids s.rest) m.by (down_at x s) r)
            (mover_ran procs (x ∷ s.rest) (table_after procs s.front start) a.key a.counter m (all_get _ x.access (live_entries x (table_after procs s.front start) live) a ka)
            (subst (λ t. slice_get (moves_of t a.key) a.counter ≡ Some m) (table_from x s) e)))
        | inr r ↦ inr r
      ]

  there_before : (ms : List Moved) (c d : ℕ) (m : Moved) → c ≤ d → slice_get ms d ≡ Some m → (n : Moved) × (slice_get ms c ≡ Some n)
  there_before ms c d m le e = let lt : d < length ms = slice_get_within ms d m e in (_, slice_get-get_or ms c m (omega arith))

  -- where a live transaction was annotated with fewer moves of a key than another one, it precedes that one
  pub across_fewer : (x y : Txn) (s : Spot txns x) (a b : Access) → IsLive x (table_after procs s.front start) → Has txns y → Has x.access a → Has y.access b
      → unit_of start.version a.key ≡ unit_of start.version b.key → a.counter < b.counter → order x.id y.id
  across_fewer x y s a b live ky ka kb same lt = go b.counter lt (subst (λ ms. FollowsMove order ms b.counter y.id) (moves_same txns b.key a.key (sym same)) (anchor_at y b ky kb))
    where
      joined : (d : ℕ) (n m : Moved) → a.counter ≤ d → slice_get (moves_of (table_after procs txns start) a.key) a.counter ≡ Some n
          → slice_get (moves_of (table_after procs txns start) a.key) d ≡ Some m → (n ≡ m) ⊎ order n.by m.by
      joined d n m le p q = elim (cases_lt a.counter d) [
        | inl less ↦ inr (each_at _ (moves_of (table_after procs txns start) a.key) a.counter d n m (chain a.key) less p q)
        | inr ge ↦ inl (
            let at : a.counter ≡ d = omega arith in
            let r : slice_get (moves_of (table_after procs txns start) a.key) d ≡ Some n = subst (λ c. slice_get (moves_of (table_after procs txns start) a.key) c ≡ Some n) at p in
            cc (r, q))
      ]

      link : (n m : Moved) → (x.id ≡ n.by) ⊎ order x.id n.by → (n ≡ m) ⊎ order n.by m.by → order m.by y.id → order x.id y.id
      link n m (inl e) (inl f) r = subst (λ i. order i y.id) (sym (e ∙ ap (λ z. z.by) f)) r
      link n m (inl e) (inr f) r = h.transitive x.id m.by y.id (subst (λ i. order i m.by) (sym e) f) r
      link n m (inr e) (inl f) r = h.transitive x.id m.by y.id (subst (λ z. order x.id z.by) f e) r
      link n m (inr e) (inr f) r = h.transitive x.id n.by y.id e (h.transitive n.by m.by y.id f r)

      go : (c : ℕ) → a.counter < c → FollowsMove order (moves_of (table_after procs txns start) a.key) c y.id → order x.id y.id
      go zero less f = absurd (omega arith)
      go (suc d) less f =
          let le : a.counter ≤ d = omega arith in
          let n : (n : Moved) × (slice_get (moves_of (table_after procs txns start) a.key) a.counter ≡ Some n) = there_before (moves_of (table_after procs txns start) a.key) a.counter d f.0 le f.1 in
          link n.0 f.0 (live_before x s a n.0 live ka n.1) (joined d n.0 f.0 le n.1 f.1) f.2

  -- across moves: of two live transactions with uses that clash one precedes the other
  pub across : (x y : Txn) (s : Spot txns x) (r : Spot txns y) (a b : Access) → IsLive x (table_after procs s.front start) → IsLive y (table_after procs r.front start) → x.id ≢ y.id → Has x.access a
      → Has y.access b → uses_clash (a.key, a.mode) (b.key, b.mode) ≡ true → Ordered order x.id y.id
  across x y s r a b lx ly ne ka kb clash = go (cases_order a.counter b.counter)
    where
      narrow : (z : Txn) → Has txns z → (e : Access) → Has z.access e → start.version ≢ 2 → is_whole e.mode ≡ false
      narrow z k e ke = all_get _ z.access (keys_at z k).whole e ke

      same : unit_of start.version a.key ≡ unit_of start.version b.key
      same = units_of_clash start.version (a.key, a.mode) (b.key, b.mode) (λ n. (narrow x (spot_has txns x s) a ka n, narrow y (spot_has txns y r) b kb n)) clash

      go : (a.counter ≡ b.counter) ⊎ ((a.counter < b.counter) ⊎ (b.counter < a.counter)) → Ordered order x.id y.id
      go (inl e) = h.shared x y (spot_has txns x s) (spot_has txns y r) ne a b ka kb e clash
      go (inr (inl less)) = inl (across_fewer x y s a b lx (spot_has txns y r) ka kb same less)
      go (inr (inr more)) = inr (across_fewer y x r b a ly (spot_has txns x s) kb ka (sym same) more)
