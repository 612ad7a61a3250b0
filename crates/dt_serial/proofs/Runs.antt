-- Serial runs and replays: they go on where a front of them ends; moves only get more; and what a replay reads.
use Rattle.std.proofs.Common.{◌≡◌, ◌<◌, ◌≤◌, ◌⊎◌, ℕ, ◌+◌, Bool, true, false, cond, List, [], ◌∷◌, ◌++◌, length, map}
use Rattle.std.proofs.Common.{slice_get, Some, refl, sym, ap, ap₂, subst, ◌∙◌, append-nil, length-append, inl, inr, arith}
use Rattle.std.specs.Prelude.{filter}
use Rattle.std.proofs.lemmas.Bool.{cases_Bool, cases_lt}
use Rattle.std.proofs.lemmas.Option.{slice_get_within}
use Rattle.std.proofs.lemmas.List.Elements.{filter-append}
use Rattle.dt_lists.specs.Lists.{AllIn, Has, IsFront}
use Rattle.dt_lists.proofs.Callers.{any_append_right, has_map, front_refl, front_trans, Spot, spot_has, get_front, get_seam, all_of_gets}
use Rattle.dt_access.specs.Clash.{Bytes}
use Rattle.dt_access.specs.declared.TxnId.{TxnId}
use Rattle.dt_proc.specs.Tree.{ProcTree}
use Rattle.dt_table.specs.declared.Effect.{Effect}
use Rattle.dt_table.specs.Table.{Table, Moved, value_of, moves_of, counter_of, apply}
use Rattle.dt_txn.specs.declared.txn.Txn.{Txn}
use Rattle.dt_txn.specs.declared.outcome.Outcome.{Outcome}
use Rattle.dt_txn.specs.Execution.{one}
use Rattle.dt_txn.specs.Serial.{after, outcomes, table_after}
use Rattle.dt_serial.specs.Order.{txn_ids, Changes}
use Rattle.dt_serial.specs.ReplayInner.{replay}
use Rattle.dt_table.proofs.Callers.{move_at, moves_of-apply, version-apply}
use Rattle.dt_serial.proofs.Rows.{apply_value, apply_keeps_value, apply_swap}
use Rattle.dt_serial.proofs.OneTransaction.{IsMoveOf, move_of_one, move_at_cases}

-- serial runs

pub table_after_append : (procs : List ProcTree) (xs ys : List Txn) (t : Table) → table_after procs (xs ++ ys) t ≡ table_after procs ys (table_after procs xs t)
table_after_append procs [] ys t = refl
table_after_append procs (x ∷ xs) ys t = table_after_append procs xs ys (after procs x t)

pub outcomes_append : (procs : List ProcTree) (xs ys : List Txn) (t : Table) → outcomes procs (xs ++ ys) t ≡ outcomes procs xs t ++ outcomes procs ys (table_after procs xs t)
outcomes_append procs [] ys t = refl
outcomes_append procs (x ∷ xs) ys t = ap (λ l. (x.id, (one procs x t).0) ∷ l) (outcomes_append procs xs ys (after procs x t))

-- the ids of the outcomes are those of the transactions
pub outcomes_ids : (procs : List ProcTree) (xs : List Txn) (t : Table) → map (λ r. r.0) (outcomes procs xs t) ≡ txn_ids xs
outcomes_ids procs [] t = refl
outcomes_ids procs (x ∷ xs) t = ap (λ l. x.id ∷ l) (outcomes_ids procs xs (after procs x t))

pub has_outcome_at : (procs : List ProcTree) (xs : List Txn) (t : Table) (x : Txn) (s : Spot xs x) → Has (outcomes procs xs t) (x.id, (one procs x (table_after procs s.front t)).0)
has_outcome_at procs xs t x s = subst (λ l. Has (outcomes procs l t) (x.id, (one procs x (table_after procs s.front t)).0)) (sym s.is)
    (subst (λ l. Has l (x.id, (one procs x (table_after procs s.front t)).0)) (sym (outcomes_append procs s.front (x ∷ s.rest) t)) (any_append_right _ (outcomes procs s.front t) _ (inl refl)))

-- whose outcome it is, and where that one ran
pub record IsOutcomeAt (procs : List ProcTree) (xs : List Txn) (t : Table) (r : TxnId × Outcome) : Type 0 where
  pub txn : Txn
  pub at : Spot xs txn
  pub is : (txn.id, (one procs txn (table_after procs at.front t)).0) ≡ r

pub outcome_get : (procs : List ProcTree) (xs : List Txn) (t : Table) (r : TxnId × Outcome) → Has (outcomes procs xs t) r → IsOutcomeAt procs xs t r
outcome_get procs [] t r h = absurd h
outcome_get procs (x ∷ xs) t r (inl e) = record { txn = x; at = record { front = []; rest = xs; is = refl }; is = e }
outcome_get procs (x ∷ xs) t r (inr h) =
    let o : IsOutcomeAt procs xs (after procs x t) r = outcome_get procs xs (after procs x t) r h in
    record { txn = o.txn; at = record { front = x ∷ o.at.front; rest = o.at.rest; is = ap (λ l. x ∷ l) o.at.is }; is = o.is }

-- moves only get more

-- the version stays
pub after_version : (procs : List ProcTree) (version : ℕ) (x : Txn) (t : Table) → t.version ≡ version → (after procs x t).version ≡ version
after_version procs version x t is = version-apply (one procs x t).1 t ∙ is

pub version_after : (procs : List ProcTree) (version : ℕ) (xs : List Txn) (t : Table) → t.version ≡ version → (table_after procs xs t).version ≡ version
version_after procs version [] t is = is
version_after procs version (x ∷ xs) t is = version_after procs version xs (after procs x t) (after_version procs version x t is)

pub after_moves : (procs : List ProcTree) (version : ℕ) (x : Txn) (t : Table) (key : Bytes) → t.version ≡ version
    → moves_of (after procs x t) key ≡ moves_of t key ++ move_at version key (one procs x t).1.moved
after_moves procs version x t key is = moves_of-apply (one procs x t).1 t key ∙ ap (λ v. moves_of t key ++ move_at v key (one procs x t).1.moved) is

pub moves_grow : (procs : List ProcTree) (xs : List Txn) (t : Table) (key : Bytes) → IsFront (moves_of t key) (moves_of (table_after procs xs t) key)
moves_grow procs [] t key = front_refl (moves_of t key)
moves_grow procs (x ∷ xs) t key = front_trans _ _ _ (move_at t.version key (one procs x t).1.moved, sym (after_moves procs t.version x t key refl)) (moves_grow procs xs (after procs x t) key)

-- where in a run the move of this number was made
pub record IsMoveAt (procs : List ProcTree) (version : ℕ) (xs : List Txn) (t : Table) (key : Bytes) (i : ℕ) (m : Moved) : Type 0 where
  pub mover : Txn
  pub at : Spot xs mover
  pub number : counter_of (table_after procs at.front t) key ≡ i
  pub makes : IsMoveOf procs version mover (table_after procs at.front t) key m

pub numbered_move : (procs : List ProcTree) (version : ℕ) (xs : List Txn) (t : Table) (key : Bytes) (i : ℕ) (m : Moved)
    → t.version ≡ version → counter_of t key ≤ i → slice_get (moves_of (table_after procs xs t) key) i ≡ Some m → IsMoveAt procs version xs t key i m
numbered_move procs version [] t key i m is low e = let lt : i < length (moves_of t key) = slice_get_within (moves_of t key) i m e in absurd (omega arith)
numbered_move procs version (x ∷ xs) t key i m is low e = go (cases_lt i (counter_of (after procs x t) key)) (numbered_move procs version xs (after procs x t) key i m (after_version procs version x t is))
  where
    here : counter_of (after procs x t) key ≡ counter_of t key + length (move_at version key (one procs x t).1.moved)
    here = ap length (after_moves procs version x t key is) ∙ length-append (moves_of t key) (move_at version key (one procs x t).1.moved)

    made : i < counter_of (after procs x t) key → (move_at version key (one procs x t).1.moved ≡ []) ⊎ ((n : Moved) × (move_at version key (one procs x t).1.moved ≡ n ∷ [])) → IsMoveAt procs version (x ∷ xs) t key i m
    made lt (inl none) = let n : length (move_at version key (one procs x t).1.moved) ≡ 0 = ap length none in absurd (omega (arith, here))
    made lt (inr r) =
        let n : length (move_at version key (one procs x t).1.moved) ≡ 1 = ap length r.1 in
        let number : counter_of t key ≡ i = omega (arith, here) in
        let seam : slice_get (moves_of t key ++ r.0 ∷ []) (counter_of t key) ≡ Some r.0 = get_seam (moves_of t key) r.0 [] in
        let there : slice_get (moves_of (after procs x t) key) i ≡ Some r.0
        = subst (λ l. slice_get l i ≡ Some r.0) (sym (after_moves procs version x t key is ∙ ap (λ l. moves_of t key ++ l) r.1)) (subst (λ j. slice_get (moves_of t key ++ r.0 ∷ []) j ≡ Some r.0) number seam) in
        let last : slice_get (moves_of (table_after procs xs (after procs x t)) key) i ≡ Some r.0 = get_front _ _ i r.0 (moves_grow procs xs (after procs x t) key) there in
        let same : r.0 ≡ m = cc in
        record { mover = x; at = record { front = []; rest = xs; is = refl }; number = number; makes = move_of_one procs version x t key m (r.1 ∙ ap (λ z. z ∷ []) same) }

    go : (i < counter_of (after procs x t) key) ⊎ (counter_of (after procs x t) key ≤ i)
        → (counter_of (after procs x t) key ≤ i → slice_get (moves_of (table_after procs xs (after procs x t)) key) i ≡ Some m → IsMoveAt procs version xs (after procs x t) key i m) → IsMoveAt procs version (x ∷ xs) t key i m
    go (inl lt) later = made lt (move_at_cases version (one procs x t).1.moved key)
    go (inr le) later =
        let r : IsMoveAt procs version xs (after procs x t) key i m = later le e in
        record { mover = r.mover; at = record { front = x ∷ r.at.front; rest = r.at.rest; is = ap (λ l. x ∷ l) r.at.is }; number = r.number; makes = r.makes }

-- the mover of a later move is among those that ran
pub mover_ran : (procs : List ProcTree) (xs : List Txn) (t : Table) (key : Bytes) (i : ℕ) (m : Moved) → counter_of t key ≤ i → slice_get (moves_of (table_after procs xs t) key) i ≡ Some m → Has (txn_ids xs) m.by
mover_ran procs xs t key i m low e =
    let r : IsMoveAt procs t.version xs t key i m = numbered_move procs t.version xs t key i m refl low e in
    subst (Has (txn_ids xs)) r.makes.by (has_map (λ x. x.id) xs r.mover (spot_has xs r.mover r.at))

-- so after a run from a table without moves each mover is among those that ran
pub movers_ran : (procs : List ProcTree) (xs : List Txn) (t : Table) (key : Bytes) → moves_of t key ≡ [] → AllIn (λ m. Has (txn_ids xs) m.by) (moves_of (table_after procs xs t) key)
movers_ran procs xs t key none = all_of_gets _ (moves_of (table_after procs xs t) key) (λ i m e. mover_ran procs xs t key i m (omega (arith, ap length none)) e)

-- what holds of each transaction of a run, on the table on which it ran
abbrev pub AlongRun : List ProcTree → (Txn → Table → Type 0) → List Txn → Table → Type 0
AlongRun procs P [] t = Unit {0}
AlongRun procs P (x ∷ xs) t = P x t × AlongRun procs P xs (after procs x t)

pub along_put : (procs : List ProcTree) (P : Txn → Table → Type 0) (xs : List Txn) (t : Table) → ((x : Txn) (s : Spot xs x) → P x (table_after procs s.front t)) → AlongRun procs P xs t
along_put procs P [] t f = tt
along_put procs P (x ∷ xs) t f = (f x (record { front = []; rest = xs; is = refl }), along_put procs P xs (after procs x t) (λ y s. f y (record { front = x ∷ s.front; rest = s.rest; is = ap (λ l. x ∷ l) s.is })))

-- replays

pub replay_append : (procs : List ProcTree) (p : TxnId → Bool) (xs ys : List Txn) (t c : Table) → replay procs p (xs ++ ys) t c ≡ replay procs p ys (table_after procs xs t) (replay procs p xs t c)
replay_append procs p [] ys t c = refl
replay_append procs p (x ∷ xs) ys t c = replay_append procs p xs ys (after procs x t) _

pub replay_version : (procs : List ProcTree) (version : ℕ) (p : TxnId → Bool) (xs : List Txn) (t c : Table) → c.version ≡ version → (replay procs p xs t c).version ≡ version
replay_version procs version p [] t c is = is
replay_version procs version p (x ∷ xs) t c is = replay_version procs version p xs (after procs x t) _ (by (p x.id))
  where
    by : (b : Bool) → (cond b (apply (one procs x t).1 c) c).version ≡ version
    by true = version-apply (one procs x t).1 c ∙ is
    by false = is

pub replay_alike : (procs : List ProcTree) (p q : TxnId → Bool) (xs : List Txn) (t c : Table) → AllIn (λ x. p x.id ≡ q x.id) xs → replay procs p xs t c ≡ replay procs q xs t c
replay_alike procs p q [] t c all = refl
replay_alike procs p q (x ∷ xs) t c all = replay_alike procs p q xs (after procs x t) _ all.1 ∙ ap (λ b. replay procs q xs (after procs x t) (cond b (apply (one procs x t).1 c) c)) all.0

pub replay_all : (procs : List ProcTree) (p : TxnId → Bool) (xs : List Txn) (t : Table) → AllIn (λ x. p x.id ≡ true) xs → replay procs p xs t t ≡ table_after procs xs t
replay_all procs p [] t all = refl
replay_all procs p (x ∷ xs) t all = ap (λ b. replay procs p xs (after procs x t) (cond b (apply (one procs x t).1 t) t)) all.0 ∙ replay_all procs p xs (after procs x t) all.1

pub replay_none : (procs : List ProcTree) (p : TxnId → Bool) (xs : List Txn) (t c : Table) → AllIn (λ x. p x.id ≡ false) xs → replay procs p xs t c ≡ c
replay_none procs p [] t c all = refl
replay_none procs p (x ∷ xs) t c all = ap (λ b. replay procs p xs (after procs x t) (cond b (apply (one procs x t).1 c) c)) all.0 ∙ replay_none procs p xs (after procs x t) c all.1

-- the moves of a key in a replay are those of the chosen movers
abbrev pub chosen_moves : (TxnId → Bool) → List Moved → List Moved
chosen_moves p moves = filter (λ m. p m.by) moves

pub replay_moves : (procs : List ProcTree) (version : ℕ) (p : TxnId → Bool) (xs : List Txn) (t c : Table) (key : Bytes) → t.version ≡ version → c.version ≡ version → moves_of c key ≡ chosen_moves p (moves_of t key)
    → moves_of (replay procs p xs t c) key ≡ chosen_moves p (moves_of (table_after procs xs t) key)
replay_moves procs version p [] t c key is same e = e
replay_moves procs version p (x ∷ xs) t c key is same e =
    replay_moves procs version p xs (after procs x t) _ key (after_version procs version x t is) (replay_version procs version p (x ∷ []) t c same)
    (go (cases_Bool (p x.id)) (move_at_cases version (one procs x t).1.moved key))
  where
    made : List Moved
    made = move_at version key (one procs x t).1.moved

    goal : moves_of (cond (p x.id) (apply (one procs x t).1 c) c) key ≡ chosen_moves p (moves_of t key) ++ chosen_moves p made
        → moves_of (cond (p x.id) (apply (one procs x t).1 c) c) key ≡ chosen_moves p (moves_of (after procs x t) key)
    goal s = s ∙ sym (filter-append (λ m. p m.by) (moves_of t key) made) ∙ ap (chosen_moves p) (sym (after_moves procs version x t key is))

    kept : p x.id ≡ true → (move_at version key (one procs x t).1.moved ≡ []) ⊎ ((m : Moved) × (move_at version key (one procs x t).1.moved ≡ m ∷ [])) → chosen_moves p made ≡ made
    kept y (inl none) = ap (chosen_moves p) none ∙ sym none
    kept y (inr r) =
        let by : p (r.0).by ≡ true = ap p (sym (move_of_one procs version x t key r.0 r.1).by) ∙ y in
        ap (chosen_moves p) r.1 ∙ ap (λ b. cond b (r.0 ∷ []) []) by ∙ sym r.1

    dropped : p x.id ≡ false → (move_at version key (one procs x t).1.moved ≡ []) ⊎ ((m : Moved) × (move_at version key (one procs x t).1.moved ≡ m ∷ [])) → chosen_moves p made ≡ []
    dropped n (inl none) = ap (chosen_moves p) none
    dropped n (inr r) =
        let by : p (r.0).by ≡ false = ap p (sym (move_of_one procs version x t key r.0 r.1).by) ∙ n in
        ap (chosen_moves p) r.1 ∙ ap (λ b. cond b (r.0 ∷ []) []) by

    go : (p x.id ≡ true) ⊎ (p x.id ≡ false) → (move_at version key (one procs x t).1.moved ≡ []) ⊎ ((m : Moved) × (move_at version key (one procs x t).1.moved ≡ m ∷ []))
        → moves_of (cond (p x.id) (apply (one procs x t).1 c) c) key ≡ chosen_moves p (moves_of (after procs x t) key)
    go (inl y) s = goal (ap (λ b. moves_of (cond b (apply (one procs x t).1 c) c) key) y ∙ moves_of-apply (one procs x t).1 c key
        ∙ ap (λ v. moves_of c key ++ move_at v key (one procs x t).1.moved) same ∙ ap₂ ◌++◌ e (sym (kept y s)))
    go (inr n) s = goal (ap (λ b. moves_of (cond b (apply (one procs x t).1 c) c) key) n ∙ e ∙ sym (append-nil (chosen_moves p (moves_of t key))) ∙ ap (λ l. chosen_moves p (moves_of t key) ++ l) (sym (dropped n s)))

-- two replays read the same value of a key if they choose alike among those that change its row
pub replay_value : (procs : List ProcTree) (version : ℕ) (p q : TxnId → Bool) (xs : List Txn) (t c d : Table) (key : Bytes) → AlongRun procs (λ x t. (¬ (Changes version (one procs x t).1 key)) ⊎ (p x.id ≡ q x.id)) xs t
    → value_of c key ≡ value_of d key → value_of (replay procs p xs t c) key ≡ value_of (replay procs q xs t d) key
replay_value procs version p q [] t c d key all e = e
replay_value procs version p q (x ∷ xs) t c d key all e = replay_value procs version p q xs (after procs x t) _ _ key all.1 (go all.0)
  where
    keeps : (b : Bool) (u : Table) → ¬ (Changes version (one procs x t).1 key) → value_of (cond b (apply (one procs x t).1 u) u) key ≡ value_of u key
    keeps true u n = apply_keeps_value version (one procs x t).1 u key n
    keeps false u n = refl

    both : (b : Bool) → value_of (cond b (apply (one procs x t).1 c) c) key ≡ value_of (cond b (apply (one procs x t).1 d) d) key
    both true = apply_value (one procs x t).1 c d key e
    both false = e

    go : (¬ (Changes version (one procs x t).1 key)) ⊎ (p x.id ≡ q x.id) → value_of (cond (p x.id) (apply (one procs x t).1 c) c) key ≡ value_of (cond (q x.id) (apply (one procs x t).1 d) d) key
    go (inl n) = keeps (p x.id) c n ∙ e ∙ sym (keeps (q x.id) d n)
    go (inr same) = both (p x.id) ∙ ap (λ b. value_of (cond b (apply (one procs x t).1 d) d) key) same

-- an effect may come before a replay in which no chosen one changes a row that it changes
pub replay_swap : (procs : List ProcTree) (version : ℕ) (f : Effect) (p : TxnId → Bool) (xs : List Txn) (t c : Table) → c.version ≡ version
    → AlongRun procs (λ x t. p x.id ≡ true → (key : Bytes) → Changes version (one procs x t).1 key → ¬ (Changes version f key)) xs t → apply f (replay procs p xs t c) ≡ replay procs p xs t (apply f c)
replay_swap procs version f p [] t c is all = refl
replay_swap procs version f p (x ∷ xs) t c is all = replay_swap procs version f p xs (after procs x t) _ (replay_version procs version p (x ∷ []) t c is) all.1 ∙ ap (replay procs p xs (after procs x t)) (go (p x.id) all.0)
  where
    go : (b : Bool) → (b ≡ true → (key : Bytes) → Changes version (one procs x t).1 key → ¬ (Changes version f key)) → apply f (cond b (apply (one procs x t).1 c) c) ≡ cond b (apply (one procs x t).1 (apply f c)) (apply f c)
    go true apart = apply_swap f (one procs x t).1 c (λ key cf cx. apart refl key (subst (λ v. Changes v (one procs x t).1 key) is cx) (subst (λ v. Changes v f key) is cf))
    go false apart = refl
