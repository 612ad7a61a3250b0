-- A transaction that does not clash with another changes nothing of what the other sees.
use Rattle.std.proofs.Common.{◌≡◌, ℕ, true, false, cond, List, [], ◌∷◌, ◌++◌, length, map, slice_get, Some, None, IsSomeAnd, refl, sym, ap, ap₂, ◌∙◌, inl, inr}
use Rattle.std.specs.Prelude.{Option, option_map}
use Rattle.std.proofs.lemmas.Bool.{false≢true}
use Rattle.std.proofs.lemmas.List.{append-nil}
use Rattle.dt_lists.specs.Lists.{AllIn, Has}
use Rattle.dt_lists.proofs.Callers.{all_put, any_get, any_put, has_map}
use Rattle.dt_access.specs.Clash.{Bytes, clash, uses_clash}
use Rattle.dt_access.specs.Granules.{unit_of}
use Rattle.dt_access.specs.declared.Access.{Access}
use Rattle.dt_access.specs.declared.TxnId.{TxnId}
use Rattle.dt_access.proofs.Callers.{clash_of_uses, same_key_other}
use Rattle.dt_proc.specs.Tree.{ProcTree}
use Rattle.dt_table.specs.declared.Effect.{Effect}
use Rattle.dt_table.specs.Table.{Table, Moved, apply, moves_of, value_of}
use Rattle.dt_table.proofs.Callers.{move_at, moves_of-apply, version-apply}
use Rattle.dt_txn.specs.declared.txn.Txn.{Txn}
use Rattle.dt_txn.specs.Transaction.{IsValid, used_of}
use Rattle.dt_txn.specs.Execution.{one, see, seen_of}
use Rattle.dt_txn.specs.Serial.{after}
use Rattle.dt_serial.specs.Order.{Changes, ChangesBy, MayChange}
use Rattle.dt_serial.proofs.OneTransaction.{change_of_one, clash_of_change}
use Rattle.dt_serial.proofs.Rows.{apply_keeps_value}
use Rattle.dt_serial.proofs.ValidTransactions.{valid_keeps}

-- the moves of a unit that an effect does not move
moves_stay : (e : Effect) (t : Table) (key : Bytes) → ¬ (Changes t.version e key) → moves_of (apply e t) key ≡ moves_of t key
moves_stay e t key n = moves_of-apply e t key ∙ ap (λ (l : List Moved). moves_of t key ++ l) (none e.moved (λ m. n (inr m))) ∙ append-nil (moves_of t key)
  where
    none : (m : Option (Bytes × ℕ × TxnId)) → ¬ (IsSomeAnd m (λ x. unit_of t.version x.0 ≡ unit_of t.version key)) → move_at t.version key m ≡ []
    none None away = refl
    none (Some m) away = ap (λ b. cond b (record { target = m.1; by = m.2 } ∷ []) []) (same_key_other (unit_of t.version key) (unit_of t.version m.0) (λ e. away (sym e)))

-- what is seen of a key that an effect does not change
seen_stays : (e : Effect) (t : Table) (a : Access) → ¬ (Changes t.version e a.key) → seen_of (apply e t) a ≡ seen_of t a
seen_stays e t a n =
    let value : value_of (apply e t) a.key ≡ value_of t a.key = apply_keeps_value t.version e t a.key n in
    let moves : moves_of (apply e t) a.key ≡ moves_of t a.key = moves_stay e t a.key n in
    let version : (apply e t).version ≡ t.version = version-apply e t in
    λ i. record {
      unit = unit_of (version i) a.key;
      value = value i;
      counter = length (moves i);
      mover = option_map (λ (m : Moved). m.by) (slice_get (moves i) a.counter);
    }

all_seen : (t u : Table) (access : List Access) → AllIn (λ a. seen_of t a ≡ seen_of u a) access → map (seen_of t) access ≡ map (seen_of u) access
all_seen t u [] all = refl
all_seen t u (a ∷ access) all = ap₂ ◌∷◌ all.0 (all_seen t u access all.1)

-- the second sees after the first what it saw before
pub seen_apart : (procs : List ProcTree) (regions : ℕ) (first second : Txn) (t : Table) → IsValid procs t.version regions first
    → clash (map used_of first.access) (map used_of second.access) ≡ false → see second (after procs first t) ≡ see second t
seen_apart procs regions first second t valid apart =
    all_seen (after procs first t) t second.access (all_put _ second.access (λ a h. seen_stays (one procs first t).1 t a (untouched a h)))
  where
    untouched : (a : Access) → Has second.access a → ¬ (Changes t.version (one procs first t).1 a.key)
    untouched a h c =
        let may : MayChange t.version first a.key = (change_of_one procs t.version first t a.key (valid_keeps procs t.version regions first valid) c).1 in
        let x : (b : Access) × Has first.access b × ChangesBy t.version a.key b = any_get (ChangesBy t.version a.key) first.access may in
        let hit : uses_clash (used_of x.0) (used_of a) ≡ true = clash_of_change t.version a.key x.0 a x.2 (inl refl) in
        let clashes : clash (map used_of first.access) (map used_of second.access) ≡ true = clash_of_uses (map used_of first.access) (map used_of second.access)
        (any_put _ (map used_of first.access) (used_of x.0) (has_map used_of first.access x.0 x.1) (any_put _ (map used_of second.access) (used_of a) (has_map used_of second.access a h) hit)) in
        false≢true (sym apart ∙ clashes)
