-- What one transaction sees and does: whether it is stale depends on the next movers alone, its result on the values, and
-- only a live one changes anything.
use Rattle.std.proofs.Common.{◌≡◌, ◌≤◌, ◌⊎◌, ℕ, zero, suc, true, false, cond, List, [], ◌∷◌, length, map, slice_get, Some, None, refl, sym, ap, ap₂, subst, ◌∙◌, inl, inr, arith}
use Rattle.std.specs.Prelude.{Option, option_map}
use Rattle.std.specs.Cmp.Lexicographic.{bytes_decides}
use Rattle.std.proofs.lemmas.Bool.{cases_Bool, or_left}
use Rattle.dt_lists.specs.Lists.{AllIn, Has}
use Rattle.dt_access.specs.Clash.{Bytes, may_change, same_key, uses_clash}
use Rattle.dt_access.specs.Granules.{unit_of}
use Rattle.dt_access.proofs.Callers.{moves_clash, uses_clash_symmetric, uses_of_row}
use Rattle.dt_access.specs.declared.TxnId.{TxnId}
use Rattle.dt_access.specs.declared.Access.{Access}
use Rattle.dt_text.specs.declared.Value.{Value}
use Rattle.dt_proc.specs.Tree.{ProcTree}
use Rattle.dt_eval.specs.Calls.{call_meaning}
use Rattle.dt_eval.specs.declared.Finish.{Finish}
use Rattle.dt_eval.specs.declared.finish.Finish.TheVariants as finish
use Rattle.dt_table.specs.declared.Effect.{Effect}
use Rattle.dt_table.specs.Table.{Table, Moved, value_of, moves_of, counter_of, next_mover}
use Rattle.dt_txn.specs.declared.txn.Body.{Body}
use Rattle.dt_txn.specs.declared.txn.Body.TheVariants.{Call, Move}
use Rattle.dt_txn.specs.declared.txn.Txn.{Txn}
use Rattle.dt_txn.specs.declared.outcome.Outcome.{Outcome}
use Rattle.dt_txn.specs.declared.outcome.Outcome.TheVariants.{Gave, Stale}
use Rattle.dt_txn.specs.Execution.{seen_of, see, stale_at, stale_of, reads_of, of_finish, result_of, unless_stale, one}
use Rattle.dt_txn.specs.Staleness.{IsStaleOutcome}
use Rattle.dt_serial.specs.Order.{Changes, ChangesBy, MayChange, KeepsToKeys, IsLive}
use Rattle.dt_table.proofs.Callers.{move_at}

-- next movers

pub next_none : (t : Table) (key : Bytes) (c : ℕ) → next_mover t key c ≡ None → counter_of t key ≤ c
next_none t key c e = past (moves_of t key) c e
  where
    past : (ms : List Moved) (c : ℕ) → option_map (λ m. m.by) (slice_get ms c) ≡ None → length ms ≤ c
    past [] c e = omega arith
    past (m ∷ ms) zero e = cc
    past (m ∷ ms) (suc c) e = let r : length ms ≤ c = past ms c e in omega arith

-- the move that the next mover made
pub mover_at : (ms : List Moved) (c : ℕ) (by : TxnId) → option_map (λ m. m.by) (slice_get ms c) ≡ Some by → (m : Moved) × (slice_get ms c ≡ Some m) × (m.by ≡ by)
mover_at ms c by e = go (slice_get ms c) refl e
  where
    go : (o : Option Moved) → slice_get ms c ≡ o → option_map (λ m. m.by) o ≡ Some by → (m : Moved) × (slice_get ms c ≡ Some m) × (m.by ≡ by)
    go None f e = cc
    go (Some m) f e = (m, f, cc)

-- staleness

pub stale_alike : (access : List Access) (t u : Table) → t.version ≡ u.version → AllIn (λ a. next_mover t a.key a.counter ≡ next_mover u a.key a.counter) access
    → stale_of access (map (seen_of t) access) ≡ stale_of access (map (seen_of u) access)
stale_alike [] t u is all = refl
stale_alike (a ∷ access) t u is all =
    let later : stale_of access (map (seen_of t) access) ≡ stale_of access (map (seen_of u) access) = stale_alike access t u is all.1 in
    λ i. stale_at (unit_of (is i) a.key) a.counter (all.0 i) (later i)

stale_at_none : (unit : Bytes) (had : ℕ) (m : Option TxnId) (later : Option Outcome) → stale_at unit had m later ≡ None → (m ≡ None) × (later ≡ None)
stale_at_none unit had None later e = (refl, e)
stale_at_none unit had (Some by) later e = cc

stale_none : (access : List Access) (t : Table) → stale_of access (map (seen_of t) access) ≡ None → AllIn (λ a. next_mover t a.key a.counter ≡ None) access
stale_none [] t e = tt
stale_none (a ∷ access) t e = let s : (next_mover t a.key a.counter ≡ None) × (stale_of access (map (seen_of t) access) ≡ None) = stale_at_none (unit_of t.version a.key) a.counter _ _ e in (s.0, stale_none access t s.1)

-- no key of a live transaction was moved since it was annotated
pub live_entries : (x : Txn) (t : Table) → IsLive x t → AllIn (λ a. counter_of t a.key ≤ a.counter) x.access
live_entries x t e = go x.access (stale_none x.access t e)
  where
    go : (access : List Access) → AllIn (λ a. next_mover t a.key a.counter ≡ None) access → AllIn (λ a. counter_of t a.key ≤ a.counter) access
    go [] all = tt
    go (a ∷ access) all = (next_none t a.key a.counter all.0, go access all.1)

-- the entry at which a transaction is stale
pub record IsStaleAt (access : List Access) (t : Table) (o : Outcome) : Type 0 where
  pub entry : Access
  pub there : Has access entry
  pub by : TxnId
  pub next : next_mover t entry.key entry.counter ≡ Some by
  pub is : o ≡ Stale (unit_of t.version entry.key) entry.counter by

pub stale_some : (access : List Access) (t : Table) (o : Outcome) → stale_of access (map (seen_of t) access) ≡ Some o → IsStaleAt access t o
stale_some [] t o e = cc
stale_some (a ∷ access) t o e = go (next_mover t a.key a.counter) refl (stale_some access t o) e
  where
    go : (m : Option TxnId) → next_mover t a.key a.counter ≡ m → (stale_of access (map (seen_of t) access) ≡ Some o → IsStaleAt access t o)
        → stale_at (unit_of t.version a.key) a.counter m (stale_of access (map (seen_of t) access)) ≡ Some o → IsStaleAt (a ∷ access) t o
    go None n rest e = let r : IsStaleAt access t o = rest e in record { entry = r.entry; there = inr r.there; by = r.by; next = r.next; is = r.is }
    go (Some by) n rest e = record { entry = a; there = inl refl; by = by; next = n; is = cc }

-- a transaction is live or stale
pub live_or_stale : (procs : List ProcTree) (x : Txn) (t : Table) → IsLive x t ⊎ IsStaleAt x.access t (one procs x t).0
live_or_stale procs x t = go (stale_of x.access (see x t)) refl
  where
    go : (s : Option Outcome) → stale_of x.access (see x t) ≡ s → IsLive x t ⊎ IsStaleAt x.access t (one procs x t).0
    go None e = inl e
    go (Some o) e = inr (subst (IsStaleAt x.access t) (sym (ap (λ s. (unless_stale s (result_of procs x.id x.body (reads_of x.access (see x t)))).0) e)) (stale_some x.access t o e))

pub live_of_outcome : (procs : List ProcTree) (x : Txn) (t : Table) → ¬ (IsStaleOutcome (one procs x t).0) → IsLive x t
live_of_outcome procs x t n = elim (live_or_stale procs x t) [ inl l ↦ l | inr s ↦ absurd (n (subst IsStaleOutcome (sym s.is) tt)) ]

-- results

pub reads_alike : (access : List Access) (t u : Table) → AllIn (λ a. value_of t a.key ≡ value_of u a.key) access → reads_of access (map (seen_of t) access) ≡ reads_of access (map (seen_of u) access)
reads_alike [] t u all = refl
reads_alike (a ∷ access) t u all = let head : ◌≡◌ {A = Bytes × Option Value} (a.key, value_of t a.key) (a.key, value_of u a.key) = ap (λ v. (a.key, v)) all.0 in ap₂ ◌∷◌ head (reads_alike access t u all.1)

pub one_live : (procs : List ProcTree) (x : Txn) (t : Table) → IsLive x t → one procs x t ≡ result_of procs x.id x.body (reads_of x.access (see x t))
one_live procs x t e = ap (λ s. unless_stale s (result_of procs x.id x.body (reads_of x.access (see x t)))) e

-- a transaction does alike on two tables where its keys have the same next movers and, if it is live, the same values
pub one_alike : (procs : List ProcTree) (x : Txn) (t u : Table) → t.version ≡ u.version → AllIn (λ a. next_mover t a.key a.counter ≡ next_mover u a.key a.counter) x.access
    → (IsLive x u → AllIn (λ a. value_of t a.key ≡ value_of u a.key) x.access) → one procs x t ≡ one procs x u
one_alike procs x t u is movers values = go (stale_of x.access (see x u)) refl
  where
    same : stale_of x.access (see x t) ≡ stale_of x.access (see x u)
    same = stale_alike x.access t u is movers

    go : (s : Option Outcome) → stale_of x.access (see x u) ≡ s → one procs x t ≡ one procs x u
    go None e = one_live procs x t (same ∙ e) ∙ ap (result_of procs x.id x.body) (reads_alike x.access t u (values e)) ∙ sym (one_live procs x u e)
    go (Some o) e = ap (λ s. unless_stale s (result_of procs x.id x.body (reads_of x.access (see x t)))) (same ∙ e) ∙ sym (ap (λ s. unless_stale s (result_of procs x.id x.body (reads_of x.access (see x u)))) e)

-- effects

change_of_result : (version : ℕ) (s : Option Outcome) (result : Outcome × Effect) (key : Bytes) → Changes version (unless_stale s result).1 key → (s ≡ None) × Changes version result.1 key
change_of_result version None result key c = (refl, c)
change_of_result version (Some o) result key (inl e) = absurd e
change_of_result version (Some o) result key (inr e) = absurd e

-- only a live transaction changes what is seen of a key, and it may change it
pub change_of_one : (procs : List ProcTree) (version : ℕ) (x : Txn) (t : Table) (key : Bytes) → KeepsToKeys procs version x → Changes version (one procs x t).1 key → IsLive x t × MayChange version x key
change_of_one procs version x t key keeps c =
    let r : (stale_of x.access (see x t) ≡ None) × Changes version (result_of procs x.id x.body (reads_of x.access (see x t))).1 key = change_of_result version _ _ key c in
    (r.0, keeps.changes _ key r.1)

-- an entry by which what is seen of a key may be changed clashes with each entry of that key, and with each other such one
pub clash_of_change : (version : ℕ) (key : Bytes) (a b : Access) → ChangesBy version key a → (b.key ≡ key) ⊎ ChangesBy version key b → uses_clash (a.key, a.mode) (b.key, b.mode) ≡ true
clash_of_change version key a b (inr m) used = moves_clash version (a.key, a.mode) (b.key, b.mode) m.1 (m.0 ∙ sym (unit_of_use used))
  where
    unit_of_use : (b.key ≡ key) ⊎ ChangesBy version key b → unit_of version b.key ≡ unit_of version key
    unit_of_use (inl e) = ap (unit_of version) e
    unit_of_use (inr (inl w)) = ap (unit_of version) w.0
    unit_of_use (inr (inr m)) = m.0
clash_of_change version key a b (inl w) (inl e) = uses_of_row (a.key, a.mode) (b.key, b.mode) (w.0 ∙ sym e) (or_left _ _ (ap may_change w.1))
clash_of_change version key a b (inl w) (inr (inl v)) = uses_of_row (a.key, a.mode) (b.key, b.mode) (w.0 ∙ sym v.0) (or_left _ _ (ap may_change w.1))
clash_of_change version key a b (inl w) (inr (inr m)) =
    uses_clash_symmetric (a.key, a.mode) (b.key, b.mode) ∙ moves_clash version (b.key, b.mode) (a.key, a.mode) m.1 (m.0 ∙ sym (ap (unit_of version) w.0))

-- such an entry is of the key's unit
pub unit_of_change : (version : ℕ) (key : Bytes) (a : Access) → ChangesBy version key a → unit_of version a.key ≡ unit_of version key
unit_of_change version key a (inl w) = ap (unit_of version) w.0
unit_of_change version key a (inr m) = m.0

-- moves

-- in this version, the transaction moves the unit of this key on this table
pub record IsMoveOf (procs : List ProcTree) (version : ℕ) (x : Txn) (t : Table) (key : Bytes) (m : Moved) : Type 0 where
  pub live : IsLive x t
  pub moved : Bytes
  pub same : unit_of version moved ≡ unit_of version key
  pub body : x.body ≡ Move moved m.target
  pub by : x.id ≡ m.by
  pub gave : (one procs x t).0 ≡ Gave []
  pub changes : Changes version (one procs x t).1 key

of_finish_moved : (f : Finish) → (of_finish f).1.moved ≡ None
of_finish_moved (finish.Gave values writes) = refl
of_finish_moved (finish.Aborted cause) = refl

-- what `IsMoveOf` says, of the parts of a transaction
record IsMoveIn (procs : List ProcTree) (version : ℕ) (id : TxnId) (body : Body) (s : Option Outcome) (reads : List (Bytes × Option Value)) (key : Bytes) (m : Moved) : Type 0 where
  live : s ≡ None
  moved : Bytes
  same : unit_of version moved ≡ unit_of version key
  is : body ≡ Move moved m.target
  by : id ≡ m.by
  gave : (unless_stale s (result_of procs id body reads)).0 ≡ Gave []
  changes : Changes version (unless_stale s (result_of procs id body reads)).1 key

move_in : (procs : List ProcTree) (version : ℕ) (id : TxnId) (body : Body) (s : Option Outcome) (reads : List (Bytes × Option Value)) (key : Bytes) (m : Moved)
    → move_at version key (unless_stale s (result_of procs id body reads)).1.moved ≡ m ∷ [] → IsMoveIn procs version id body s reads key m
move_in procs version id body (Some o) reads key m e = cc
move_in procs version id (Call proc args) None reads key m e =
    let n : move_at version key (of_finish (call_meaning procs proc args reads)).1.moved ≡ [] = ap (λ o. move_at version key o) (of_finish_moved (call_meaning procs proc args reads)) in cc
move_in procs version id (Move k target) None reads key m e = go (cases_Bool (same_key (unit_of version key) (unit_of version k)))
  where
    made : Moved
    made = record { target = target; by = id }

    go : (same_key (unit_of version key) (unit_of version k) ≡ true) ⊎ (same_key (unit_of version key) (unit_of version k) ≡ false) → IsMoveIn procs version id (Move k target) None reads key m
    go (inl y) =
        let is : unit_of version key ≡ unit_of version k = (bytes_decides (unit_of version key) (unit_of version k)).0 y in
        let list : made ∷ [] ≡ m ∷ [] = ap (λ b. cond b (made ∷ []) []) (sym y) ∙ e in
        let head : made ≡ m = cc in
        record { live = refl; moved = k; same = sym is; is = ap (Move k) (ap (λ x. x.target) head); by = ap (λ x. x.by) head; gave = refl; changes = inr (sym is) }
    go (inr n) = let list : [] ≡ m ∷ [] = ap (λ b. cond b (made ∷ []) []) (sym n) ∙ e in cc

pub move_of_one : (procs : List ProcTree) (version : ℕ) (x : Txn) (t : Table) (key : Bytes) (m : Moved) → move_at version key (one procs x t).1.moved ≡ m ∷ [] → IsMoveOf procs version x t key m
move_of_one procs version x t key m e =
    let r : IsMoveIn procs version x.id x.body (stale_of x.access (see x t)) (reads_of x.access (see x t)) key m = move_in procs version x.id x.body _ _ key m e in
    record { live = r.live; moved = r.moved; same = r.same; body = r.is; by = r.by; gave = r.gave; changes = r.changes }

pub move_at_cases : (version : ℕ) (o : Option (Bytes × ℕ × TxnId)) (key : Bytes) → (move_at version key o ≡ []) ⊎ ((m : Moved) × (move_at version key o ≡ m ∷ []))
move_at_cases version None key = inl refl
move_at_cases version (Some m) key = go (cases_Bool (same_key (unit_of version key) (unit_of version m.0)))
  where
    made : Moved
    made = record { target = m.1; by = m.2 }

    go : (same_key (unit_of version key) (unit_of version m.0) ≡ true) ⊎ (same_key (unit_of version key) (unit_of version m.0) ≡ false)
        → (move_at version key (Some m) ≡ []) ⊎ ((n : Moved) × (move_at version key (Some m) ≡ n ∷ []))
    go (inl y) = inr (made, ap (λ b. cond b (made ∷ []) []) y)
    go (inr n) = inl (ap (λ b. cond b (made ∷ []) []) n)
