-- A history by one order of ids is one by every other order that says the same of any two ids, and so is a part of it.
use Rattle.std.proofs.Common.{ℕ, zero, suc, List, inl, inr}
use Rattle.dt_lists.proofs.Callers.{all_map}
use Rattle.dt_access.specs.declared.TxnId.{TxnId}
use Rattle.dt_proc.specs.Tree.{ProcTree}
use Rattle.dt_table.specs.Table.{Moved, Table, moves_of}
use Rattle.dt_txn.specs.Serial.{table_after}
use Rattle.dt_txn.specs.declared.txn.Txn.{Txn}
use Rattle.dt_serial.specs.Order.{FollowsMove, IsDown, IsHistory, Ordered, txn_ids}

module _ (p q : TxnId → TxnId → Type 0) (to : (u t : TxnId) → p u t → q u t) (from : (u t : TxnId) → q u t → p u t) where
  pub down_as : (ids : List TxnId) → IsDown p ids → IsDown q ids
  down_as ids d = record { once = d.once; preceders = λ u t h r. d.preceders u t h (from u t r) }

  follows_as : (moves : List Moved) (c : ℕ) (t : TxnId) → FollowsMove p moves c t → FollowsMove q moves c t
  follows_as moves zero t f = tt
  follows_as moves (suc c) t f = (f.0, f.1, to (f.0).by t f.2)

  ordered_as : (u t : TxnId) → Ordered p u t → Ordered q u t
  ordered_as u t (inl r) = inl (to u t r)
  ordered_as u t (inr r) = inr (to t u r)

  pub history_as : (procs : List ProcTree) (start : Table) (txns : List Txn) → IsHistory procs p start txns → IsHistory procs q start txns
  history_as procs start txns h = record {
    transitive = λ u v t a b. to u t (h.transitive u v t (from u v a) (from v t b));
    unmoved = h.unmoved;
    keys = h.keys;
    down = down_as (txn_ids txns) h.down;
    anchored = all_map _ _ txns (λ x. all_map _ _ x.access (λ a. follows_as (moves_of (table_after procs txns start) a.key) a.counter x.id)) h.anchored;
    shared = λ x y hx hy ne a b ha hb e c. ordered_as x.id y.id (h.shared x y hx hy ne a b ha hb e c);
  }
