-- One outcome: in each list whose transactions come after all that precedes them, a transaction does what it does in the
-- history, and the table is the replay of the history for those of the list.
use Rattle.std.proofs.Common.{◌≡◌, ◌≢◌, ◌<◌, ◌≤◌, ◌⊎◌, ℕ, zero, suc, Bool, true, false, cond, List, [], ◌∷◌, ◌++◌, length, slice_get, Some, None, refl, sym, ap}
use Rattle.std.proofs.Common.{subst, ◌∙◌}
use Rattle.std.proofs.Common.{append_assoc, append-nil, inl, inr, arith, le_antisymm, ◌↔◌}
use Rattle.std.specs.Prelude.{Option, option_map, filter}
use Rattle.std.proofs.lemmas.Bool.{cases_Bool, both_ways}
use Rattle.std.proofs.lemmas.List.{map-append}
use Rattle.std.proofs.lemmas.Option.{slice_get_within}
use Rattle.dt_lists.specs.Lists.{AnyIn, AllIn, Has, IsFront, Distinct, Either}
use Rattle.dt_lists.proofs.Callers.{any_map, any_get, any_put, any_of_image, any_append, any_append_left, all_get, all_put, all_append_left, all_map}
use Rattle.dt_lists.proofs.Callers.{each_append_right, has_map, Spot, spot, spot_has, has_middle, if_passes, get_filtered, front_filtered, same_by_key}
use Rattle.dt_lists.proofs.Callers.{of_filter, has_filter}
use Rattle.dt_access.proofs.Callers.{among_of_has, either_id, has_of_among, not_among, uses_of_clash}
use Rattle.dt_access.specs.Ids.{is_among}
use Rattle.dt_access.specs.Clash.{Bytes, uses_clash, clash}
use Rattle.dt_access.specs.Granules.{unit_of}
use Rattle.dt_access.specs.declared.TxnId.{TxnId}
use Rattle.dt_access.specs.declared.Access.{Access}
use Rattle.dt_proc.specs.Tree.{ProcTree}
use Rattle.dt_table.specs.declared.Effect.{Effect}
use Rattle.dt_table.specs.Table.{Table, Moved, value_of, moves_of, counter_of, next_mover, apply}
use Rattle.dt_txn.specs.declared.txn.Body.TheVariants.{Move}
use Rattle.dt_txn.specs.declared.txn.Txn.{Txn}
use Rattle.dt_txn.specs.declared.outcome.Outcome.{Outcome}
use Rattle.dt_txn.specs.Execution.{one}
use Rattle.dt_txn.specs.Serial.{after, outcomes, table_after}
use Rattle.dt_txn.specs.Staleness.{IsStaleOutcome}
use Rattle.dt_serial.specs.Order.{txn_ids, Ordered, IsDown, FollowsMove, IsLive, Changes, ChangesBy, MayChange, IsHistory, uses_in}
use Rattle.dt_serial.specs.ReplayInner.{replay}
use Rattle.dt_serial.proofs.Rows.{either_changes}
use Rattle.dt_serial.proofs.OneTransaction.{clash_of_change, mover_at, one_alike, live_entries, live_of_outcome, change_of_one}
use Rattle.dt_serial.proofs.Runs.{table_after_append, outcomes_ids, has_outcome_at, AlongRun, along_put, replay_append, replay_version, replay_alike, replay_none, replay_value, replay_swap}
use Rattle.dt_serial.proofs.PastOfId.{among_same, IsPast, past_of_down, same_past, down_front, down_closed, filter_ids, down_filter}
use Rattle.dt_serial.proofs.History.{down_at, past_at, apart_at, replay_before, keys_at, anchor_at, IsMoveNumber, index, follower, live_before, same_movers, across, closed_front, replayed_moves}
use Rattle.dt_serial.proofs.History.{replayed_mover}

module _ (procs : List ProcTree) (order : TxnId → TxnId → Type 0) (start : Table) (txns : List Txn) (h : IsHistory procs order start txns) where
  -- two live transactions that change one row are ordered
  changers : (x y : Txn) (s : Spot txns x) (r : Spot txns y) (key : Bytes) → x.id ≢ y.id → Changes start.version (one procs x (table_after procs s.front start)).1 key
      → IsLive y (table_after procs r.front start) → AnyIn (λ b. (b.key ≡ key) ⊎ ChangesBy start.version key b) y.access → Ordered order x.id y.id
  changers x y s r key ne cx ly ky =
      let lx : IsLive x (table_after procs s.front start) × MayChange start.version x key = change_of_one procs start.version x (table_after procs s.front start) key (keys_at procs order start txns h x (spot_has txns x s)) cx in
      let a : (a : Access) × Has x.access a × ChangesBy start.version key a = any_get _ x.access lx.1 in
      let b : (b : Access) × Has y.access b × ((b.key ≡ key) ⊎ ChangesBy start.version key b) = any_get _ y.access ky in
      let clash : uses_clash ((a.0).key, (a.0).mode) ((b.0).key, (b.0).mode) ≡ true = clash_of_change start.version key a.0 b.0 a.2 b.2 in
      across procs order start txns h x y s r a.0 b.0 lx.0 ly ne a.1 b.1 clash

  -- after any two pasts of it, a live transaction sees the same values
  same_values : (y : Txn) (r : Spot txns y) (p q : TxnId → Bool) → IsPast order p y.id → IsPast order q y.id → IsLive y (table_after procs r.front start)
      → AllIn (λ a. value_of (replay procs p txns start start) a.key ≡ value_of (replay procs q txns start start) a.key) y.access
  same_values y r p q pp pq ly = all_put _ y.access (λ a ka. replay_value procs start.version p q txns start start start a.key
      (along_put procs _ txns start (λ x s. at a ka x s (either_changes start.version (one procs x (table_after procs s.front start)).1 a.key) (either_id x.id y.id))) refl)
    where
      at : (a : Access) → Has y.access a → (x : Txn) (s : Spot txns x) → Either (Changes start.version (one procs x (table_after procs s.front start)).1 a.key) → Either (x.id ≡ y.id)
          → (¬ (Changes start.version (one procs x (table_after procs s.front start)).1 a.key)) ⊎ (p x.id ≡ q x.id)
      at a ka x s (inr n) own = inl n
      at a ka x s (inl c) (inl own) = inr (ap p own ∙ pp.absent ∙ sym (ap q own ∙ pq.absent))
      at a ka x s (inl c) (inr ne) = inr (same_past order p q y.id x.id pp pq (changers x y s r a.key ne c ly (any_map _ _ y.access (λ b e. inl e) (key_of y.access a ka))))
        where
          key_of : (access : List Access) (a : Access) → Has access a → AnyIn (λ b. b.key ≡ a.key) access
          key_of [] a k = k
          key_of (b ∷ access) a (inl e) = inl (ap (λ c. c.key) e)
          key_of (b ∷ access) a (inr k) = inr (key_of access a k)

  -- the step: on the replay of any past of it, a transaction does what it does in the history
  pub same_one : (y : Txn) (r : Spot txns y) (p : TxnId → Bool) → IsPast order p y.id → one procs y (replay procs p txns start start) ≡ one procs y (table_after procs r.front start)
  same_one y r p pp =
      let q : TxnId → Bool = is_among (txn_ids r.front) in
      let pq : IsPast order q y.id = past_at procs order start txns h y r in
      let before : replay procs q txns start start ≡ table_after procs r.front start = replay_before procs order start txns h y r in
      one_alike procs y (replay procs p txns start start) (replay procs q txns start start)
      (replay_version procs start.version p txns start start refl ∙ sym (replay_version procs start.version q txns start start refl))
      (same_movers procs order start txns h y p q (spot_has txns y r) pp pq)
      (λ live. same_values y r p q pp pq (subst (IsLive y) before live))
      ∙ ap (one procs y) before

  -- and then the table is the replay that has this transaction too
  pub same_after : (y : Txn) (r : Spot txns y) (p q : TxnId → Bool) → IsPast order p y.id → q y.id ≡ true → ((i : TxnId) → i ≢ y.id → q i ≡ p i)
      → after procs y (replay procs p txns start start) ≡ replay procs q txns start start
  same_after y r p q pp own others =
      ap (λ e. apply e (replay procs p txns start start)) (ap (λ o. o.1) (same_one y r p pp))
      ∙ ap (apply effect) without
      ∙ replay_swap procs start.version effect p r.rest (after procs y here) (replay procs p r.front start start) (replay_version procs start.version p r.front start start refl) apart
      ∙ sym with_it
    where
      here : Table
      here = table_after procs r.front start

      effect : Effect
      effect = (one procs y here).1

      split : (c : TxnId → Bool) → replay procs c txns start start ≡ replay procs c r.rest (after procs y here) (cond (c y.id) (apply effect (replay procs c r.front start start)) (replay procs c r.front start start))
      split c = ap (λ l. replay procs c l start start) r.is ∙ replay_append procs c r.front (y ∷ r.rest) start start

      without : replay procs p txns start start ≡ replay procs p r.rest (after procs y here) (replay procs p r.front start start)
      without = split p ∙ ap (λ b. replay procs p r.rest (after procs y here) (cond b (apply effect (replay procs p r.front start start)) (replay procs p r.front start start))) pp.absent

      not_front : (x : Txn) → Has r.front x → x.id ≢ y.id
      not_front x k e = apart_at procs order start txns h y r x.id (has_map (λ z. z.id) r.front x k) (inl (sym e))

      not_rest : (x : Txn) → Has r.rest x → x.id ≢ y.id
      not_rest x k e = all_get _ (txn_ids r.rest) (each_append_right _ (txn_ids r.front) (y.id ∷ txn_ids r.rest) (down_at procs order start txns h y r).once).0 x.id (has_map (λ z. z.id) r.rest x k) (sym e)

      with_it : replay procs q txns start start ≡ replay procs p r.rest (after procs y here) (apply effect (replay procs p r.front start start))
      with_it =
          split q
          ∙ ap (λ b. replay procs q r.rest (after procs y here) (cond b (apply effect (replay procs q r.front start start)) (replay procs q r.front start start))) own
          ∙ ap (λ t. replay procs q r.rest (after procs y here) (apply effect t)) (replay_alike procs q p r.front start start (all_put _ r.front (λ x k. others x.id (not_front x k))))
          ∙ replay_alike procs q p r.rest (after procs y here) _ (all_put _ r.rest (λ x k. others x.id (not_rest x k)))

      apart : AlongRun procs (λ x t. p x.id ≡ true → (key : Bytes) → Changes start.version (one procs x t).1 key → ¬ (Changes start.version effect key)) r.rest (after procs y here)
      apart = along_put procs _ r.rest (after procs y here) (λ x s chosen key cx cy.
          let whole : Spot txns x = record { front = r.front ++ y ∷ s.front; rest = s.rest; is = r.is ∙ ap (λ l. r.front ++ y ∷ l) s.is ∙ sym (append_assoc r.front (y ∷ s.front) (x ∷ s.rest)) } in
          let table : table_after procs whole.front start ≡ table_after procs s.front (after procs y here) = table_after_append procs r.front (y ∷ s.front) start in
          let changed : Changes start.version (one procs x (table_after procs whole.front start)).1 key = subst (λ t. Changes start.version (one procs x t).1 key) (sym table) cx in
          let ly : IsLive y here × MayChange start.version y key = change_of_one procs start.version y here key (keys_at procs order start txns h y (spot_has txns y r)) cy in
          let k : Has r.rest x = spot_has r.rest x s in
          let ordered : Ordered order x.id y.id = changers x y whole r key (not_rest x k) changed ly.0 (any_map _ _ y.access (λ b w. inr w) ly.1) in
          let alike : p x.id ≡ is_among (txn_ids r.front) x.id = same_past order p (is_among (txn_ids r.front)) y.id x.id pp (past_at procs order start txns h y r) ordered in
          let absent : is_among (txn_ids r.front) x.id ≡ false = not_among (txn_ids r.front) x.id (λ f. apart_at procs order start txns h y r x.id f (inr (has_map (λ z. z.id) r.rest x k))) in
          cc (chosen, alike, absent))

  -- lists of members of the history whose transactions come after all that precedes them

  -- the replay of the history for those of a list
  abbrev pub canon : List Txn → Table
  canon xs = replay procs (is_among (txn_ids xs)) txns start start

  canon_empty : canon [] ≡ start
  canon_empty = replay_none procs (is_among []) txns start start (all_put _ txns (λ x k. refl))

  pub past_in : (xs : List Txn) (y : Txn) (ys : List Txn) → IsDown order (txn_ids (xs ++ y ∷ ys)) → IsPast order (is_among (txn_ids xs)) y.id
  past_in xs y ys down = past_of_down order (txn_ids xs) y.id (txn_ids ys) (subst (IsDown order) (map-append (λ z. z.id) xs (y ∷ ys)) down)

  canon_step : (xs : List Txn) (y : Txn) (ys : List Txn) → Has txns y → IsDown order (txn_ids (xs ++ y ∷ ys)) → after procs y (canon xs) ≡ canon (xs ++ y ∷ [])
  canon_step xs y ys k down = same_after y (spot txns y k) (is_among (txn_ids xs)) (is_among (txn_ids (xs ++ y ∷ []))) (past_in xs y ys down)
      (among_of_has _ y.id (has_map (λ z. z.id) (xs ++ y ∷ []) y (has_middle xs y [])))
      (λ i ne. among_same _ _ i (less i ne) (more i))
    where
      ids : txn_ids (xs ++ y ∷ []) ≡ txn_ids xs ++ y.id ∷ []
      ids = map-append (λ z. z.id) xs (y ∷ [])

      less : (i : TxnId) → i ≢ y.id → Has (txn_ids (xs ++ y ∷ [])) i → Has (txn_ids xs) i
      less i ne k = elim (any_append _ (txn_ids xs) (y.id ∷ []) (subst (λ l. Has l i) ids k)) [
        | inl a ↦ a
        | inr b ↦ elim b [ inl e ↦ absurd (ne (sym e)) | inr n ↦ absurd n ]
      ]

      more : (i : TxnId) → Has (txn_ids xs) i → Has (txn_ids (xs ++ y ∷ [])) i
      more i k = subst (λ l. Has l i) (sym ids) (any_append_left _ (txn_ids xs) (y.id ∷ []) k)

  -- a list goes on from the replay for those that ran before
  walk : (xs ys : List Txn) → AllIn (λ x. Has txns x) ys → IsDown order (txn_ids (xs ++ ys)) → table_after procs ys (canon xs) ≡ canon (xs ++ ys)
  walk xs [] all down = ap canon (sym (append-nil xs))
  walk xs (y ∷ ys) all down =
      ap (table_after procs ys) (canon_step xs y ys all.0 down)
      ∙ walk (xs ++ y ∷ []) ys all.1 (subst (λ l. IsDown order (txn_ids l)) (sym (append_assoc xs (y ∷ []) ys)) down)
      ∙ ap canon (append_assoc xs (y ∷ []) ys)

  walk_outcomes : (xs ys : List Txn) → AllIn (λ x. Has txns x) ys → IsDown order (txn_ids (xs ++ ys)) → AllIn (λ r. Has (outcomes procs txns start) r) (outcomes procs ys (canon xs))
  walk_outcomes xs [] all down = tt
  walk_outcomes xs (y ∷ ys) all down =
      let r : Spot txns y = spot txns y all.0 in
      let same : one procs y (canon xs) ≡ one procs y (table_after procs r.front start) = same_one y r (is_among (txn_ids xs)) (past_in xs y ys down) in (
        subst (λ o. Has (outcomes procs txns start) (y.id, o)) (sym (ap (λ e. e.0) same)) (has_outcome_at procs txns start y r),
        subst (λ t. AllIn (λ r. Has (outcomes procs txns start) r) (outcomes procs ys t)) (sym (canon_step xs y ys all.0 down))
            (walk_outcomes (xs ++ y ∷ []) ys all.1 (subst (λ l. IsDown order (txn_ids l)) (sym (append_assoc xs (y ∷ []) ys)) down)),
      )

  -- the table after such a list is the replay of the history for those of the list
  pub one_table : (xs : List Txn) → AllIn (λ x. Has txns x) xs → IsDown order (txn_ids xs) → table_after procs xs start ≡ replay procs (is_among (txn_ids xs)) txns start start
  one_table xs all down = ap (table_after procs xs) (sym canon_empty) ∙ walk [] xs all down

  -- each transaction of such a list has the outcome that it has in the history
  pub one_outcome : (xs : List Txn) → AllIn (λ x. Has txns x) xs → IsDown order (txn_ids xs) → AllIn (λ r. Has (outcomes procs txns start) r) (outcomes procs xs start)
  one_outcome xs all down = subst (λ t. AllIn (λ r. Has (outcomes procs txns start) r) (outcomes procs xs t)) canon_empty (walk_outcomes [] xs all down)

  members_front : (xs : List Txn) (y : Txn) (ys : List Txn) → AllIn (λ x. Has txns x) (xs ++ y ∷ ys) → IsDown order (txn_ids (xs ++ y ∷ ys)) → table_after procs xs start ≡ canon xs
  members_front xs y ys all down = one_table xs (all_append_left _ xs (y ∷ ys) all) (down_front order (txn_ids xs) (txn_ids (y ∷ ys)) (subst (IsDown order) (map-append (λ z. z.id) xs (y ∷ ys)) down))

  -- two such lists with the same members end with equal tables
  pub one_set : (xs ys : List Txn) → AllIn (λ x. Has txns x) xs → AllIn (λ x. Has txns x) ys → IsDown order (txn_ids xs) → IsDown order (txn_ids ys)
      → ((i : TxnId) → Has (txn_ids xs) i ↔ Has (txn_ids ys) i) → table_after procs xs start ≡ table_after procs ys start
  one_set xs ys allx ally downx downy same =
      one_table xs allx downx
      ∙ replay_alike procs (is_among (txn_ids xs)) (is_among (txn_ids ys)) txns start start (all_put _ txns (λ x k. among_same (txn_ids xs) (txn_ids ys) x.id (same x.id).0 (same x.id).1))
      ∙ sym (one_table ys ally downy)

  -- so does the history, restricted to the members of the list
  pub one_restricted : (xs : List Txn) → AllIn (λ x. Has txns x) xs → IsDown order (txn_ids xs) → table_after procs xs start ≡ table_after procs (filter (λ x. is_among (txn_ids xs) x.id) txns) start
  one_restricted xs all down = one_set xs (filter (λ x. p x.id) txns) all (all_map _ _ (filter (λ x. p x.id) txns) (λ x k. k.0) (of_filter (λ x. p x.id) txns)) down
      (subst (IsDown order) (sym (filter_ids p txns)) (down_filter order p (txn_ids txns) h.down (λ u t r y. among_of_has (txn_ids xs) u (down_closed order (txn_ids xs) u t down r (has_of_among (txn_ids xs) t y)))))
      (λ i. (into i, back i))
    where
      p : TxnId → Bool
      p = is_among (txn_ids xs)

      into : (i : TxnId) → Has (txn_ids xs) i → Has (txn_ids (filter (λ x. p x.id) txns)) i
      into i k =
          let x : (x : Txn) × Has xs x × (x.id ≡ i) = any_get _ xs (any_of_image (λ j. j ≡ i) (λ x. x.id) xs k) in
          let y : p (x.0).id ≡ true = among_of_has (txn_ids xs) (x.0).id (has_map (λ z. z.id) xs x.0 x.1) in
          subst (Has (txn_ids (filter (λ x. p x.id) txns))) x.2 (has_map (λ z. z.id) (filter (λ x. p x.id) txns) x.0 (has_filter (λ x. p x.id) txns x.0 (all_get _ xs all x.0 x.1) y))

      back : (i : TxnId) → Has (txn_ids (filter (λ x. p x.id) txns)) i → Has (txn_ids xs) i
      back i k = has_of_among (txn_ids xs) i (all_get _ (filter p (txn_ids txns)) (of_filter p (txn_ids txns)) i (subst (λ l. Has l i) (filter_ids p txns) k)).1

  -- moves and counters in such a list

  closed_in : (xs : List Txn) → IsDown order (txn_ids xs) → (u v : TxnId) → order u v → is_among (txn_ids xs) v ≡ true → is_among (txn_ids xs) u ≡ true
  closed_in xs down u v r y = among_of_has (txn_ids xs) u (down_closed order (txn_ids xs) u v down r (has_of_among (txn_ids xs) v y))

  -- the moves of a key are the first ones of the history
  pub moves_front : (xs : List Txn) (key : Bytes) → AllIn (λ x. Has txns x) xs → IsDown order (txn_ids xs) → IsFront (moves_of (table_after procs xs start) key) (moves_of (table_after procs txns start) key)
  moves_front xs key all down = subst (λ l. IsFront l (moves_of (table_after procs txns start) key)) (sym (ap (λ t. moves_of t key) (one_table xs all down) ∙ replayed_moves procs order start txns h (is_among (txn_ids xs)) key))
      (front_filtered _ _ (closed_front procs order start txns h (is_among (txn_ids xs)) (closed_in xs down) key))

  -- the next mover of a transaction's entry is that of the history's last table, if it precedes the transaction
  pub flag_up : (xs : List Txn) (y : Txn) (ys : List Txn) (a : Access) (by : TxnId) → AllIn (λ x. Has txns x) (xs ++ y ∷ ys) → IsDown order (txn_ids (xs ++ y ∷ ys)) → Has y.access a
      → next_mover (table_after procs txns start) a.key a.counter ≡ Some by → order by y.id → next_mover (table_after procs xs start) a.key a.counter ≡ Some by
  flag_up xs y ys a by all down ka e r = ap (λ t. next_mover t a.key a.counter) (members_front xs y ys all down)
      ∙ replayed_mover procs order start txns h (is_among (txn_ids xs)) pp.closed a.key a.counter ∙ go (slice_get (moves_of (table_after procs txns start) a.key) a.counter) e
    where
      pp : IsPast order (is_among (txn_ids xs)) y.id
      pp = past_in xs y ys down

      go : (o : Option Moved) → option_map (λ m. m.by) o ≡ Some by → option_map (λ m. m.by) (if_passes (λ m. is_among (txn_ids xs) m.by) o) ≡ Some by
      go None e = cc
      go (Some m) e =
          let same : m.by ≡ by = cc in
          ap (λ b. option_map (λ m. m.by) (cond b (Some m) None)) (ap (is_among (txn_ids xs)) same ∙ pp.preceders by r) ∙ e

  -- when a transaction of such a list runs, its keys have been moved at least as often as it was annotated
  pub counters_reached : (xs : List Txn) (y : Txn) (ys : List Txn) → AllIn (λ x. Has txns x) (xs ++ y ∷ ys) → IsDown order (txn_ids (xs ++ y ∷ ys))
      → AllIn (λ a. a.counter ≤ counter_of (table_after procs xs start) a.key) y.access
  counters_reached xs y ys all down = all_put _ y.access (λ a ka. go a (a.counter) (anchor_at procs order start txns h y a (all_append_at all) ka))
    where
      all_append_at : AllIn (λ x. Has txns x) (xs ++ y ∷ ys) → Has txns y
      all_append_at every = all_get _ (xs ++ y ∷ ys) every y (has_middle xs y ys)

      pp : IsPast order (is_among (txn_ids xs)) y.id
      pp = past_in xs y ys down

      go : (a : Access) (c : ℕ) → FollowsMove order (moves_of (table_after procs txns start) a.key) c y.id → c ≤ counter_of (table_after procs xs start) a.key
      go a zero f = omega arith
      go a (suc c) f =
          let there : slice_get (moves_of (canon xs) a.key) c ≡ Some f.0 =
          ap (λ l. slice_get l c) (replayed_moves procs order start txns h (is_among (txn_ids xs)) a.key)
          ∙ get_filtered (λ m. is_among (txn_ids xs) m.by) _ c (closed_front procs order start txns h (is_among (txn_ids xs)) pp.closed a.key)
          ∙ ap (if_passes (λ m. is_among (txn_ids xs) m.by)) f.1
          ∙ ap (λ b. cond b (Some f.0) None) (pp.preceders (f.0).by f.2) in
          let lt : c < length (moves_of (canon xs) a.key) = slice_get_within _ c f.0 there in
          subst (λ t. suc c ≤ counter_of t a.key) (sym (members_front xs y ys all down)) lt

  -- and exactly as often, if it is not stale
  pub counters_exact : (xs : List Txn) (y : Txn) (ys : List Txn) → AllIn (λ x. Has txns x) (xs ++ y ∷ ys) → IsDown order (txn_ids (xs ++ y ∷ ys)) → IsLive y (table_after procs xs start)
      → AllIn (λ a. counter_of (table_after procs xs start) a.key ≡ a.counter) y.access
  counters_exact xs y ys all down live = all_put _ y.access (λ a ka. le_antisymm (all_get _ y.access (live_entries y (table_after procs xs start) live) a ka) (all_get _ y.access (counters_reached xs y ys all down) a ka))

  -- the next mover of an entry of such a list's transaction is that of the history's last table, and precedes it
  pub flag_down : (xs : List Txn) (y : Txn) (ys : List Txn) (a : Access) (by : TxnId) → AllIn (λ x. Has txns x) (xs ++ y ∷ ys) → IsDown order (txn_ids (xs ++ y ∷ ys)) → Has y.access a
      → next_mover (table_after procs xs start) a.key a.counter ≡ Some by → (next_mover (table_after procs txns start) a.key a.counter ≡ Some by) × order by y.id
  flag_down xs y ys a by all down ka e = go (slice_get (moves_of (table_after procs txns start) a.key) a.counter) refl
      (sym (ap (λ t. next_mover t a.key a.counter) (members_front xs y ys all down) ∙ replayed_mover procs order start txns h (is_among (txn_ids xs)) pp.closed a.key a.counter) ∙ e)
    where
      pp : IsPast order (is_among (txn_ids xs)) y.id
      pp = past_in xs y ys down

      known : Has txns y
      known = all_get _ (xs ++ y ∷ ys) all y (has_middle xs y ys)

      precedes : (m : Moved) → slice_get (moves_of (table_after procs txns start) a.key) a.counter ≡ Some m → is_among (txn_ids xs) m.by ≡ true → Either (m.by ≡ y.id) → order m.by y.id
      precedes m f chosen (inl own) = absurd (both_ways (is_among (txn_ids xs) y.id) pp.absent (sym (ap (is_among (txn_ids xs)) own) ∙ chosen))
      precedes m f chosen (inr ne) = elim (follower procs order start txns h y a m known ka f ne) [
        | inl r ↦ r
        | inr r ↦ absurd (both_ways (is_among (txn_ids xs) y.id) pp.absent (pp.closed y.id m.by r chosen))
      ]

      at : (m : Moved) → slice_get (moves_of (table_after procs txns start) a.key) a.counter ≡ Some m → (is_among (txn_ids xs) m.by ≡ true) ⊎ (is_among (txn_ids xs) m.by ≡ false)
          → option_map (λ n. n.by) (if_passes (λ n. is_among (txn_ids xs) n.by) (Some m)) ≡ Some by → (next_mover (table_after procs txns start) a.key a.counter ≡ Some by) × order by y.id
      at m f (inl chosen) g =
          let own : Some m.by ≡ Some by = ap (λ b. option_map (λ n. n.by) (cond b (Some m) None)) (sym chosen) ∙ g in
          let same : m.by ≡ by = cc in
          (ap (option_map (λ n. n.by)) f ∙ own, subst (λ i. order i y.id) same (precedes m f chosen (either_id m.by y.id)))
      at m f (inr dropped) g = let none : None ≡ Some by = ap (λ b. option_map (λ n. n.by) (cond b (Some m) None)) (sym dropped) ∙ g in cc

      go : (o : Option Moved) → slice_get (moves_of (table_after procs txns start) a.key) a.counter ≡ o → option_map (λ n. n.by) (if_passes (λ n. is_among (txn_ids xs) n.by) o) ≡ Some by
          → (next_mover (table_after procs txns start) a.key a.counter ≡ Some by) × order by y.id
      go None f g = cc
      go (Some m) f g = at m f (cases_Bool (is_among (txn_ids xs) m.by)) g

  -- each transaction has one outcome in the history
  pub single_outcome : (i : TxnId) (o p : Outcome) → Has (outcomes procs txns start) (i, o) → Has (outcomes procs txns start) (i, p) → o ≡ p
  single_outcome i o p a b = ap (λ r. r.1) (same_by_key (λ r. r.0) (outcomes procs txns start) (i, o) (i, p) (subst Distinct (sym (outcomes_ids procs txns start)) h.down.once) a b refl)

  -- a transaction whose outcome in the history is not stale is live where it ran
  live_there : (x : Txn) (s : Spot txns x) (o : Outcome) → Has (outcomes procs txns start) (x.id, o) → ¬ (IsStaleOutcome o) → IsLive x (table_after procs s.front start)
  live_there x s o k fresh = live_of_outcome procs x (table_after procs s.front start) (λ w. fresh (subst IsStaleOutcome (single_outcome x.id _ o (has_outcome_at procs txns start x s) k) w))

  -- across moves: of two transactions that are not stale, and whose uses clash, one precedes the other
  pub across_moves : (x y : Txn) (o p : Outcome) → Has txns x → Has txns y → x.id ≢ y.id → Has (outcomes procs txns start) (x.id, o) → Has (outcomes procs txns start) (y.id, p) → ¬ (IsStaleOutcome o)
      → ¬ (IsStaleOutcome p) → clash (uses_in x) (uses_in y) ≡ true → Ordered order x.id y.id
  across_moves x y o p kx ky ne ox py fx fy c =
      let s : Spot txns x = spot txns x kx in
      let r : Spot txns y = spot txns y ky in
      let a : (a : Access) × Has x.access a × AnyIn (λ v. uses_clash (a.key, a.mode) v ≡ true) (uses_in y)
      = any_get _ x.access (any_of_image (λ u. AnyIn (λ v. uses_clash u v ≡ true) (uses_in y)) (λ a. (a.key, a.mode)) x.access (uses_of_clash (uses_in x) (uses_in y) c)) in
      let b : (b : Access) × Has y.access b × (uses_clash ((a.0).key, (a.0).mode) (b.key, b.mode) ≡ true) = any_get _ y.access (any_of_image (λ v. uses_clash ((a.0).key, (a.0).mode) v ≡ true) (λ b. (b.key, b.mode)) y.access a.2) in
      across procs order start txns h x y s r a.0 b.0 (live_there x s o ox fx) (live_there y r p py fy) ne a.1 b.1 b.2

  -- the mover that follows the annotated moves of one that is not stale is itself, or comes after it
  pub before_next : (x : Txn) (o : Outcome) → Has txns x → Has (outcomes procs txns start) (x.id, o) → ¬ (IsStaleOutcome o)
      → AllIn (λ a. (by : TxnId) → next_mover (table_after procs txns start) a.key a.counter ≡ Some by → (x.id ≡ by) ⊎ order x.id by) x.access
  before_next x o k ox fresh = all_put _ x.access (λ a ka by e.
      let m : (m : Moved) × (slice_get (moves_of (table_after procs txns start) a.key) a.counter ≡ Some m) × (m.by ≡ by) = mover_at (moves_of (table_after procs txns start) a.key) a.counter by e in
      let s : Spot txns x = spot txns x k in
      subst (λ i. (x.id ≡ i) ⊎ order x.id i) m.2 (live_before procs order start txns h x s a m.0 (live_there x s o ox fresh) ka m.1))

  -- the move of each number was made by one that was annotated with this number
  pub move_numbered : (key : Bytes) (i : ℕ) (m : Moved) → slice_get (moves_of (table_after procs txns start) key) i ≡ Some m
      → AnyIn (λ x. (x.id ≡ m.by) × (x.body ≡ Move (unit_of start.version key) m.target)
      × AllIn (λ a. unit_of start.version a.key ≡ unit_of start.version key → a.counter ≡ i) x.access) txns
  move_numbered key i m e =
      let r : IsMoveNumber procs order start txns h key i m = index procs order start txns h key i m e in
      let there : Has txns r.mover = spot_has txns r.mover r.at in
      let unit : unit_of start.version r.makes.moved ≡ r.makes.moved = (keys_at procs order start txns h r.mover there).moves r.makes.moved m.target r.makes.body in
      any_put _ txns r.mover there (r.makes.by, r.makes.body ∙ ap (λ k. Move k m.target) (sym unit ∙ r.makes.same), r.counters)
