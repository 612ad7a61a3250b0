-- A history can be met: a move of a unit, one that was annotated after it, and one that was annotated before it and is
-- stale. The last two are not ordered, and a region may run them either way round.
use Rattle.std.proofs.Common.{◌≡◌, ◌≢◌, ◌⊎◌, ℕ, true, cond, List, [], ◌∷◌, ◌++◌, slice_get, None, refl, sym, ap, subst, ◌∙◌, inl, inr, arith}
use Rattle.std.specs.Prelude.{option_map}
use Rattle.std.specs.Cmp.Lexicographic.{bytes_decides}
use Rattle.dt_lists.specs.Lists.{AllIn, Has}
use Rattle.dt_lists.proofs.Callers.{all_get, get_front}
use Rattle.dt_access.specs.Clash.{Bytes, same_key, uses_clash}
use Rattle.dt_access.specs.Granules.{IsUnit, mode_of_move, unit_of}
use Rattle.dt_access.specs.declared.TxnId.{TxnId}
use Rattle.dt_access.specs.declared.Access.{Access}
use Rattle.dt_proc.specs.Tree.{ProcTree}
use Rattle.dt_table.specs.Table.{Table, Moved, moves_of}
use Rattle.dt_txn.specs.declared.txn.Body.TheVariants.{Move}
use Rattle.dt_txn.specs.declared.txn.Txn.{Txn}
use Rattle.dt_txn.specs.Execution.{stale_at}
use Rattle.dt_txn.specs.Serial.{after, table_after}
use Rattle.dt_serial.specs.Order.{Ordered, FollowsMove, IsHistory, IsPart, IsDown, IsLive, KeepsToKeys}
use Rattle.dt_table.proofs.Callers.{move_at}
use Rattle.dt_serial.proofs.OneTransaction.{one_live}
use Rattle.dt_serial.proofs.ValidTransactions.{move_narrow}
use Rattle.dt_serial.proofs.Runs.{after_moves, moves_grow}

abbrev move_use : ℕ → Bytes → ℕ → Access
move_use version key counter = record { key = key; mode = mode_of_move version; home = counter; counter = counter }

abbrev mover : ℕ → Bytes → Txn
mover version key = record { id = record { seq = 1; region = 0 }; rank = 5; body = Move key 1; access = move_use version key 0 ∷ [] }

abbrev later : ℕ → Bytes → Txn
later version key = record { id = record { seq = 2; region = 0 }; rank = 5; body = Move key 0; access = move_use version key 1 ∷ [] }

abbrev stale : ℕ → Bytes → Txn
stale version key = record { id = record { seq = 1; region = 1 }; rank = 5; body = Move key 2; access = move_use version key 0 ∷ [] }

-- the three of them in the order in which they run
abbrev three_txns : ℕ → Bytes → List Txn
three_txns version key = mover version key ∷ later version key ∷ stale version key ∷ []

-- the first move precedes the two others
abbrev First : TxnId → TxnId → Type 0
First u t = (u ≡ record { seq = 1; region = 0 }) × ((t ≡ record { seq = 2; region = 0 }) ⊎ (t ≡ record { seq = 1; region = 1 }))

no_later : (t : TxnId) → t ≡ record { seq = 1; region = 0 } → ¬ ((t ≡ record { seq = 2; region = 0 }) ⊎ (t ≡ record { seq = 1; region = 1 }))
no_later t e (inl f) = let s : ◌≡◌ {A = ℕ} 1 2 = ap (λ i. i.seq) (sym e ∙ f) in omega arith
no_later t e (inr f) = let s : ◌≡◌ {A = ℕ} 0 1 = ap (λ i. i.region) (sym e ∙ f) in omega arith

move_keeps : (procs : List ProcTree) (version : ℕ) (key : Bytes) (id : TxnId) (target counter : ℕ) → IsUnit version key
    → KeepsToKeys procs version (record { id = id; rank = 5; body = Move key target; access = move_use version key counter ∷ [] })
move_keeps procs version key id target counter unit = record {
  changes = λ reads q c. elim c [ inl e ↦ absurd e | inr e ↦ inl (inr (e, refl)) ];
  moves = λ k t is. let same : key ≡ k = cc in subst (IsUnit version) same unit;
  whole = (move_narrow version, tt);
}

mover_not_later : ◌≢◌ {A = TxnId} (record { seq = 1; region = 0 }) (record { seq = 2; region = 0 })
mover_not_later e = let s : ◌≡◌ {A = ℕ} 1 2 = ap (λ i. i.seq) e in omega arith

mover_not_stale : ◌≢◌ {A = TxnId} (record { seq = 1; region = 0 }) (record { seq = 1; region = 1 })
mover_not_stale e = let s : ◌≡◌ {A = ℕ} 0 1 = ap (λ i. i.region) e in omega arith

later_not_stale : ◌≢◌ {A = TxnId} (record { seq = 2; region = 0 }) (record { seq = 1; region = 1 })
later_not_stale e = let s : ◌≡◌ {A = ℕ} 2 1 = ap (λ i. i.seq) e in omega arith

later_first : IsDown First (record { seq = 1; region = 0 } ∷ record { seq = 2; region = 0 } ∷ record { seq = 1; region = 1 } ∷ [])
later_first = record {
  once = ((mover_not_later, (mover_not_stale, tt)), ((later_not_stale, tt), (tt, tt)));
  preceders = λ u t h r. elim r.1 [ inl e ↦ inl (inl (sym r.0, sym e)) | inr e ↦ inl (inr (inl (sym r.0, sym e))) ];
}

stale_first : IsDown First (record { seq = 1; region = 0 } ∷ record { seq = 1; region = 1 } ∷ record { seq = 2; region = 0 } ∷ [])
stale_first = record {
  once = ((mover_not_stale, (mover_not_later, tt)), ((λ e. later_not_stale (sym e), tt), (tt, tt)));
  preceders = λ u t h r. elim r.1 [ inl e ↦ inl (inr (inl (sym r.0, sym e))) | inr e ↦ inl (inl (sym r.0, sym e)) ];
}

abbrev CanBeShared : Txn → Txn → Type 0
CanBeShared x y = x.id ≢ y.id → (a b : Access) → Has x.access a → Has y.access b → a.counter ≡ b.counter → uses_clash (a.key, a.mode) (b.key, b.mode) ≡ true → Ordered First x.id y.id

differ : (version : ℕ) (key : Bytes) (a b : Access) → Has (move_use version key 1 ∷ []) a → Has (move_use version key 0 ∷ []) b → ¬ (a.counter ≡ b.counter)
differ version key a b (inl e) (inl f) s = let r : ◌≡◌ {A = ℕ} 1 0 = ap (λ c. c.counter) e ∙ s ∙ sym (ap (λ c. c.counter) f) in omega arith
differ version key a b (inl e) (inr f) s = f
differ version key a b (inr e) f s = e

pairs : (version : ℕ) (key : Bytes) → AllIn (λ x. AllIn (CanBeShared x) (three_txns version key)) (three_txns version key)
pairs version key = (
  (λ ne a b ha hb e c. absurd (ne refl), (λ ne a b ha hb e c. inl (refl, inl refl), (λ ne a b ha hb e c. inl (refl, inr refl), tt))),
  (
    (λ ne a b ha hb e c. inr (refl, inl refl), (λ ne a b ha hb e c. absurd (ne refl), (λ ne a b ha hb e c. absurd (differ version key a b ha hb e), tt))),
    (
      (λ ne a b ha hb e c. inr (refl, inr refl), (λ ne a b ha hb e c. absurd (differ version key b a hb ha (sym e)), (λ ne a b ha hb e c. absurd (ne refl), tt))),
      tt,
    ),
  ),
)

module _ (procs : List ProcTree) (start : Table) (unmoved : (key : Bytes) → moves_of start key ≡ []) (key : Bytes) (unit : IsUnit start.version key) where
  made : Moved
  made = record { target = 1; by = record { seq = 1; region = 0 } }

  live : IsLive (mover start.version key) start
  live = ap (λ l. stale_at (unit_of start.version key) 0 (option_map (λ m. m.by) (slice_get l 0)) None) (unmoved key)

  moved_once : moves_of (after procs (mover start.version key) start) key ≡ made ∷ []
  unfolding made
  moved_once =
      after_moves procs start.version (mover start.version key) start key refl
      ∙ ap (λ e. moves_of start key ++ move_at start.version key e.1.moved) (one_live procs (mover start.version key) start live)
      ∙ ap (λ l. l ++ cond (same_key (unit_of start.version key) (unit_of start.version key)) (made ∷ []) []) (unmoved key)
      ∙ ap (λ b. cond b (made ∷ []) []) ((bytes_decides (unit_of start.version key) (unit_of start.version key)).1 refl)

  first_move : (txns : List Txn) → FollowsMove First (moves_of (table_after procs txns (after procs (mover start.version key) start)) key) 1 (later start.version key).id
  unfolding made
  first_move txns = (made, get_front _ _ 0 made (moves_grow procs txns (after procs (mover start.version key) start) key) (ap (λ l. slice_get l 0) moved_once), (refl, inl refl))

  anchored_later : (txns : List Txn) → AllIn (λ a. FollowsMove First (moves_of (table_after procs txns (after procs (mover start.version key) start)) a.key) a.counter (later start.version key).id) (later start.version key).access
  anchored_later txns = (first_move txns, tt)

  pub three_are_history : IsHistory procs First start (three_txns start.version key)
  three_are_history = record {
    transitive = λ u v t r s. absurd (no_later v s.0 r.1);
    unmoved = unmoved;
    keys = (
      move_keeps procs start.version key (mover start.version key).id 1 0 unit,
      (
        move_keeps procs start.version key (later start.version key).id 0 1 unit,
        (move_keeps procs start.version key (stale start.version key).id 2 0 unit, tt),
      ),
    );
    down = later_first;
    anchored = ((tt, tt), (anchored_later (later start.version key ∷ stale start.version key ∷ []), ((tt, tt), tt)));
    shared = λ x y hx hy.
        let of_x : AllIn (CanBeShared x) (three_txns start.version key) = all_get (λ z. AllIn (CanBeShared z) (three_txns start.version key)) (three_txns start.version key) (pairs start.version key) x hx in
        all_get (CanBeShared x) (three_txns start.version key) of_x y hy;
  }

  -- both orders of the last two are parts of it
  abbrev IsPartOfRun : List Txn → Type 0
  IsPartOfRun = IsPart procs First start (three_txns start.version key)

  pub either_way : IsPartOfRun (three_txns start.version key) × IsPartOfRun (mover start.version key ∷ stale start.version key ∷ later start.version key ∷ [])
  either_way = (
    record { fits = three_are_history; members = (inl refl, (inr (inl refl), (inr (inr (inl refl)), tt))); down = later_first },
    record { fits = three_are_history; members = (inl refl, (inr (inr (inl refl)), (inr (inl refl), tt))); down = stale_first },
  )
