-- What an effect does to a table, at one key and at one unit.
use Rattle.std.proofs.Common.{◌≡◌, ◌≢◌, ℕ, cond, List, [], ◌∷◌, ◌++◌, Some, None, IsSomeAnd, refl, sym, ap, ◌∙◌, inl, inr}
use Rattle.std.specs.Prelude.{Option, unwrap_or}
use Rattle.std.specs.FinMap.{get}
use Rattle.dt_lists.specs.Lists.{AnyIn, Either}
use Rattle.dt_lists.proofs.Callers.{either_any, either_or}
use Rattle.dt_access.specs.Clash.{Bytes, same_key}
use Rattle.dt_access.specs.Granules.{unit_of}
use Rattle.dt_access.specs.declared.TxnId.{TxnId}
use Rattle.dt_access.proofs.Callers.{same_key_other, test_of_key}
use Rattle.dt_text.specs.declared.Value.{Value}
use Rattle.dt_table.specs.declared.Effect.{Effect}
use Rattle.dt_table.specs.Table.{Table, Moved, value_of, moves_of, written, all_written, maybe_moved, apply}
use Rattle.dt_table.proofs.Callers.{all_written-keeps, get-put, homes-apply, regions-apply, same_table, version-apply}
use Rattle.dt_serial.specs.Order.{Changes}
use Rattle.dt_text.proofs.Callers.{either_bytes}

-- keys of one unit have the same moves
pub same_moves : (t : Table) (version : ℕ) (a b : Bytes) → t.version ≡ version → unit_of version a ≡ unit_of version b → moves_of t a ≡ moves_of t b
same_moves t version a b is same =
    ap (λ v. unwrap_or (get t.moves (unit_of v a)) []) is ∙ ap (λ u. unwrap_or (get t.moves u) []) same ∙ ap (λ v. unwrap_or (get t.moves (unit_of v b)) []) (sym is)

-- values

values_of_apply : (e : Effect) (t : Table) → (apply e t).values ≡ (all_written e.writes t).values
values_of_apply e t = by e.moved
  where
    by : (m : Option (Bytes × ℕ × TxnId)) → (maybe_moved m (all_written e.writes t)).values ≡ (all_written e.writes t).values
    by None = refl
    by (Some m) = refl

written_other : (t : Table) (key : Bytes) (v : Option Value) (q : Bytes) → q ≢ key → get (written t key v).values q ≡ get t.values q
written_other t key v q n = get-put t.values key v q ∙ ap (λ b. cond b (Some v) (get t.values q)) (same_key_other q key n)

written_same : (t : Table) (key : Bytes) (v : Option Value) (q : Bytes) → q ≡ key → get (written t key v).values q ≡ Some v
written_same t key v q e = get-put t.values key v q ∙ ap (λ b. cond b (Some v) (get t.values q)) (test_of_key q key e)

-- writes leave the values of other keys
all_written_keeps : (ws : List (Bytes × Option Value)) (t : Table) (q : Bytes) → ¬ (AnyIn (λ w. w.0 ≡ q) ws) → get (all_written ws t).values q ≡ get t.values q
all_written_keeps [] t q n = refl
all_written_keeps (w ∷ ws) t q n = all_written_keeps ws (written t w.0 w.1) q (λ a. n (inr a)) ∙ written_other t w.0 w.1 q (λ e. n (inl (sym e)))

-- and what they make of a value depends on that value alone
written_alike : (t u : Table) (key : Bytes) (v : Option Value) (q : Bytes) → get t.values q ≡ get u.values q → get (written t key v).values q ≡ get (written u key v).values q
written_alike t u key v q e = at (either_bytes q key)
  where
    at : Either (q ≡ key) → get (written t key v).values q ≡ get (written u key v).values q
    at (inl s) = written_same t key v q s ∙ sym (written_same u key v q s)
    at (inr n) = written_other t key v q n ∙ e ∙ sym (written_other u key v q n)

all_written_alike : (ws : List (Bytes × Option Value)) (t u : Table) (q : Bytes) → get t.values q ≡ get u.values q → get (all_written ws t).values q ≡ get (all_written ws u).values q
all_written_alike [] t u q e = e
all_written_alike (w ∷ ws) t u q e = all_written_alike ws (written t w.0 w.1) (written u w.0 w.1) q (written_alike t u w.0 w.1 q e)

values_kept : (e : Effect) (t : Table) (q : Bytes) → ¬ (AnyIn (λ w. w.0 ≡ q) e.writes) → get (apply e t).values q ≡ get t.values q
values_kept e t q n = ap (λ m. get m q) (values_of_apply e t) ∙ all_written_keeps e.writes t q n

values_alike : (f : Effect) (t u : Table) (q : Bytes) → get t.values q ≡ get u.values q → get (apply f t).values q ≡ get (apply f u).values q
values_alike f t u q e = ap (λ m. get m q) (values_of_apply f t) ∙ all_written_alike f.writes t u q e ∙ sym (ap (λ m. get m q) (values_of_apply f u))

-- moves

-- the effect moves this unit
abbrev MovesAt : ℕ → Effect → Bytes → Type 0
MovesAt version e unit = IsSomeAnd e.moved (λ m. unit_of version m.0 ≡ unit)

-- what stands at a unit after a move, if there is one
abbrev moves_after : Table → Option (Bytes × ℕ × TxnId) → Bytes → Option (List Moved)
moves_after t None w = get t.moves w
moves_after t (Some m) w = cond (same_key w (unit_of t.version m.0)) (Some (moves_of t m.0 ++ record { target = m.1; by = m.2 } ∷ [])) (get t.moves w)

moves_at : (e : Effect) (t : Table) (w : Bytes) → get (apply e t).moves w ≡ moves_after t e.moved w
moves_at e t w = ap (λ (x : Table). get (maybe_moved e.moved x).moves w) (all_written-keeps e.writes t) ∙ by e.moved
  where
    by : (m : Option (Bytes × ℕ × TxnId)) → get (maybe_moved m (record t { values = (all_written e.writes t).values })).moves w ≡ moves_after t m w
    by None = refl
    by (Some m) = get-put t.moves (unit_of t.version m.0) (moves_of t m.0 ++ record { target = m.1; by = m.2 } ∷ []) w

-- an effect leaves the moves of other units
moves_kept : (e : Effect) (t : Table) (version : ℕ) (w : Bytes) → t.version ≡ version → ¬ (MovesAt version e w) → get (apply e t).moves w ≡ get t.moves w
moves_kept e t version w is n = moves_at e t w ∙ by e.moved n
  where
    by : (m : Option (Bytes × ℕ × TxnId)) → ¬ (IsSomeAnd m (λ x. unit_of version x.0 ≡ w)) → moves_after t m w ≡ get t.moves w
    by None n = refl
    by (Some m) n =
        ap (λ b. cond b (Some (moves_of t m.0 ++ record { target = m.1; by = m.2 } ∷ [])) (get t.moves w))
        (same_key_other w (unit_of t.version m.0) (λ s. n (sym (s ∙ ap (λ v. unit_of v m.0) is))))

-- and what it makes of the moves of a unit depends on these moves alone
moves_alike : (f : Effect) (t u : Table) (w : Bytes) → t.version ≡ u.version → get t.moves w ≡ get u.moves w → get (apply f t).moves w ≡ get (apply f u).moves w
moves_alike f t u w is e = moves_at f t w ∙ by f.moved ∙ sym (moves_at f u w)
  where
    by : (m : Option (Bytes × ℕ × TxnId)) → moves_after t m w ≡ moves_after u m w
    by None = e
    by (Some m) = at (either_bytes w (unit_of t.version m.0))
      where
        made : List Moved
        made = record { target = m.1; by = m.2 } ∷ []

        at : Either (w ≡ unit_of t.version m.0)
            → cond (same_key w (unit_of t.version m.0)) (Some (moves_of t m.0 ++ made)) (get t.moves w) ≡ cond (same_key w (unit_of u.version m.0)) (Some (moves_of u m.0 ++ made)) (get u.moves w)
        at (inl s) =
            let there : w ≡ unit_of u.version m.0 = s ∙ ap (λ v. unit_of v m.0) is in
            ap (λ b. cond b (Some (moves_of t m.0 ++ made)) (get t.moves w)) (test_of_key w (unit_of t.version m.0) s)
            ∙ ap (λ k. Some (unwrap_or (get t.moves k) [] ++ made)) (sym s)
            ∙ ap (λ o. Some (unwrap_or o [] ++ made)) e
            ∙ ap (λ k. Some (unwrap_or (get u.moves k) [] ++ made)) there
            ∙ sym (ap (λ b. cond b (Some (moves_of u m.0 ++ made)) (get u.moves w)) (test_of_key w (unit_of u.version m.0) there))
        at (inr n) =
            ap (λ b. cond b (Some (moves_of t m.0 ++ made)) (get t.moves w)) (same_key_other w (unit_of t.version m.0) n)
            ∙ e
            ∙ sym (ap (λ b. cond b (Some (moves_of u m.0 ++ made)) (get u.moves w)) (same_key_other w (unit_of u.version m.0) (λ s. n (s ∙ sym (ap (λ v. unit_of v m.0) is)))))

either_writes : (e : Effect) (q : Bytes) → Either (AnyIn (λ w. w.0 ≡ q) e.writes)
either_writes e q = either_any _ e.writes (λ w. either_bytes w.0 q)

either_moves : (version : ℕ) (e : Effect) (w : Bytes) → Either (MovesAt version e w)
either_moves version e w = by e.moved
  where
    by : (m : Option (Bytes × ℕ × TxnId)) → Either (IsSomeAnd m (λ x. unit_of version x.0 ≡ w))
    by None = inr (λ e. e)
    by (Some m) = either_bytes (unit_of version m.0) w

pub either_changes : (version : ℕ) (e : Effect) (q : Bytes) → Either (Changes version e q)
either_changes version e q = either_or _ _ (either_writes e q) (either_moves version e (unit_of version q))

-- effects that change nothing of a common key may change places
pub apply_swap : (e f : Effect) (t : Table) → ((q : Bytes) → Changes t.version e q → ¬ (Changes t.version f q)) → apply e (apply f t) ≡ apply f (apply e t)
apply_swap e f t apart = same_table _ _
    (version-apply e (apply f t) ∙ version-apply f t ∙ sym (version-apply f (apply e t) ∙ version-apply e t))
    (regions-apply e (apply f t) ∙ regions-apply f t ∙ sym (regions-apply f (apply e t) ∙ regions-apply e t))
    (homes-apply e (apply f t) ∙ homes-apply f t ∙ sym (homes-apply f (apply e t) ∙ homes-apply e t))
    (λ q. at_key q (either_writes e q))
    (λ w. at_unit w (either_moves t.version e w))
  where
    at_key : (q : Bytes) → Either (AnyIn (λ w. w.0 ≡ q) e.writes) → get (apply e (apply f t)).values q ≡ get (apply f (apply e t)).values q
    at_key q (inl c) =
        let n : ¬ (AnyIn (λ w. w.0 ≡ q) f.writes) = λ d. apart q (inl c) (inl d) in
        values_alike e (apply f t) t q (values_kept f t q n) ∙ sym (values_kept f (apply e t) q n)
    at_key q (inr n) = values_kept e (apply f t) q n ∙ sym (values_alike f (apply e t) t q (values_kept e t q n))

    both_move : (w : Bytes) (m n : Option (Bytes × ℕ × TxnId)) → IsSomeAnd m (λ x. unit_of t.version x.0 ≡ w) → IsSomeAnd n (λ x. unit_of t.version x.0 ≡ w)
        → (q : Bytes) × IsSomeAnd m (λ x. unit_of t.version x.0 ≡ unit_of t.version q) × IsSomeAnd n (λ x. unit_of t.version x.0 ≡ unit_of t.version q)
    both_move w None n a b = absurd a
    both_move w (Some m) None a b = absurd b
    both_move w (Some m) (Some n) a b = (m.0, refl, b ∙ sym a)

    at_unit : (w : Bytes) → Either (MovesAt t.version e w) → get (apply e (apply f t)).moves w ≡ get (apply f (apply e t)).moves w
    at_unit w (inl c) =
        let n : ¬ (MovesAt t.version f w) = λ d. let r = both_move w e.moved f.moved c d in apart r.0 (inr r.1) (inr r.2) in
        moves_alike e (apply f t) t w (version-apply f t) (moves_kept f t t.version w refl n) ∙ sym (moves_kept f (apply e t) t.version w (version-apply e t) n)
    at_unit w (inr n) =
        moves_kept e (apply f t) t.version w (version-apply f t) n ∙ sym (moves_alike f (apply e t) t w (version-apply e t) (moves_kept e t t.version w refl n))

-- what is read

pub apply_keeps_value : (version : ℕ) (e : Effect) (t : Table) (q : Bytes) → ¬ (Changes version e q) → value_of (apply e t) q ≡ value_of t q
apply_keeps_value version e t q n = ap (λ r. unwrap_or r None) (values_kept e t q (λ w. n (inl w)))

pub apply_value : (f : Effect) (t u : Table) (q : Bytes) → value_of t q ≡ value_of u q → value_of (apply f t) q ≡ value_of (apply f u) q
apply_value f t u q e = ap (λ m. unwrap_or (get m q) None) (values_of_apply f t) ∙ by f.writes t u e ∙ sym (ap (λ m. unwrap_or (get m q) None) (values_of_apply f u))
  where
    step : (t u : Table) (key : Bytes) (v : Option Value) → value_of t q ≡ value_of u q → Either (q ≡ key) → value_of (written t key v) q ≡ value_of (written u key v) q
    step t u key v e (inl s) = ap (λ r. unwrap_or r None) (written_same t key v q s) ∙ sym (ap (λ r. unwrap_or r None) (written_same u key v q s))
    step t u key v e (inr n) = ap (λ r. unwrap_or r None) (written_other t key v q n) ∙ e ∙ sym (ap (λ r. unwrap_or r None) (written_other u key v q n))

    by : (ws : List (Bytes × Option Value)) (t u : Table) → value_of t q ≡ value_of u q → value_of (all_written ws t) q ≡ value_of (all_written ws u) q
    by [] t u e = e
    by (w ∷ ws) t u e = by ws (written t w.0 w.1) (written u w.0 w.1) (step t u w.0 w.1 e (either_bytes q w.0))
