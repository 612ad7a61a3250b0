-- Why a transaction has its outcome.
use Rattle.std.proofs.Common.{◌≡◌, ◌⊎◌, ℕ, List, [], ◌∷◌, ◌++◌, length, slice_get, Some, refl, sym, ap, subst, ◌∙◌, inl, inr, arith}
use Rattle.dt_lists.specs.Lists.{AllIn, Has}
use Rattle.dt_lists.proofs.Callers.{any_map, any_append_left, all_put, Spot, spot_has, get_front}
use Rattle.dt_access.specs.Clash.{Bytes}
use Rattle.dt_access.specs.Granules.{unit_of}
use Rattle.dt_access.proofs.Callers.{unit_again}
use Rattle.dt_access.specs.declared.TxnId.{TxnId}
use Rattle.dt_proc.specs.Tree.{ProcTree}
use Rattle.dt_table.specs.Table.{Table, Moved, moves_of}
use Rattle.dt_txn.specs.declared.txn.Txn.{Txn}
use Rattle.dt_txn.specs.declared.outcome.Outcome.{Outcome}
use Rattle.dt_txn.specs.declared.outcome.Outcome.TheVariants.{Gave, Aborted, Stale}
use Rattle.dt_txn.specs.Execution.{see, reads_of, one}
use Rattle.dt_txn.specs.Serial.{outcomes, table_after}
use Rattle.dt_txn.specs.Staleness.{IsStaleOutcome}
use Rattle.dt_txn.proofs.Callers.{own_fresh}
use Rattle.dt_serial.specs.Order.{IsLive}
use Rattle.dt_serial.specs.Evidence.{MadeMove, own_outcome, IsGrounded, HasReason}
use Rattle.dt_serial.proofs.OneTransaction.{mover_at, IsStaleAt, live_or_stale, one_live}
use Rattle.dt_serial.proofs.Rows.{same_moves}
use Rattle.dt_serial.proofs.Runs.{version_after, table_after_append, outcomes_append, has_outcome_at, IsOutcomeAt, outcome_get, moves_grow, IsMoveAt, numbered_move}

-- the move of each number was made by one of the run
pub move_made : (procs : List ProcTree) (xs : List Txn) (start : Table) (key : Bytes) (i : ℕ) (m : Moved) → moves_of start key ≡ []
    → slice_get (moves_of (table_after procs xs start) key) i ≡ Some m → MadeMove procs xs start key i m.by
move_made procs xs start key i m none e =
    let r : IsMoveAt procs start.version xs start key i m = numbered_move procs start.version xs start key i m refl (omega (arith, ap length none)) e in
    record {
      mover = r.mover;
      moved = r.makes.moved;
      target = m.target;
      there = spot_has xs r.mover r.at;
      id = r.makes.by;
      body = r.makes.body;
      same = r.makes.same;
      gave = subst (Has (outcomes procs xs start)) (λ j. (r.makes.by j, r.makes.gave j)) (has_outcome_at procs xs start r.mover r.at);
      number = e;
    }

-- and stays made
pub made_stays : (procs : List ProcTree) (xs ys : List Txn) (start : Table) (key : Bytes) (had : ℕ) (by : TxnId) → MadeMove procs xs start key had by → MadeMove procs (xs ++ ys) start key had by
made_stays procs xs ys start key had by m = record {
  mover = m.mover;
  moved = m.moved;
  target = m.target;
  there = any_append_left _ xs ys m.there;
  id = m.id;
  body = m.body;
  same = m.same;
  gave = subst (λ l. Has l (by, Gave [])) (sym (outcomes_append procs xs ys start)) (any_append_left _ (outcomes procs xs start) _ m.gave);
  number = subst (λ t. slice_get (moves_of t key) had ≡ Some (record { target = m.target; by = by })) (sym (table_after_append procs xs ys start)) (get_front _ _ had _ (moves_grow procs ys (table_after procs xs start) key) m.number);
}

module _ (procs : List ProcTree) (start : Table) (unmoved : (key : Bytes) → moves_of start key ≡ []) (txns : List Txn) where
  stale_reason : (x : Txn) (s : Spot txns x) (o : Outcome) → IsStaleAt x.access (table_after procs s.front start) o → IsGrounded procs s.front txns start x o
  stale_reason x s o w =
      let t : Table = table_after procs s.front start in
      let key : Bytes = w.entry.key in
      let had : ℕ = w.entry.counter in
      let unit : Bytes = unit_of start.version key in
      let version : t.version ≡ start.version = version_after procs start.version s.front start refl in
      let seen : moves_of t key ≡ moves_of t unit = same_moves t start.version key unit version (sym (unit_again start.version key)) in
      let m : (m : Moved) × (slice_get (moves_of t key) had ≡ Some m) × (m.by ≡ w.by) = mover_at (moves_of t key) had w.by w.next in
      let there : slice_get (moves_of t unit) had ≡ Some m.0 = ap (λ ms. slice_get ms had) (sym seen) ∙ m.1 in
      let made : MadeMove procs s.front start unit had w.by = subst (MadeMove procs s.front start unit had) m.2 (move_made procs s.front start unit had m.0 (unmoved unit) there) in
      let stays : MadeMove procs txns start unit had w.by = subst (λ l. MadeMove procs l start unit had w.by) (sym s.is) (made_stays procs s.front (x ∷ s.rest) start unit had w.by made) in
      let told : o ≡ Stale unit had w.by = w.is ∙ ap (λ v. Stale (unit_of v key) had w.by) version in
      subst (IsGrounded procs s.front txns start x) (sym told) (any_map _ _ x.access (λ a e. (ap (λ b. unit_of start.version b.key) e, ap (λ b. b.counter) e)) w.there, made, stays)

  live_reason : (x : Txn) (s : Spot txns x) (o : Outcome) → own_outcome procs x (table_after procs s.front start) ≡ o → IsLive x (table_after procs s.front start) → ¬ (IsStaleOutcome o) → IsGrounded procs s.front txns start x o
  live_reason x s (Gave values) e live fresh = tt
  live_reason x s (Aborted cause) e live fresh = (live, e)
  live_reason x s (Stale key had by) e live fresh = absurd (fresh tt)

  reason_at : (x : Txn) (s : Spot txns x) → IsLive x (table_after procs s.front start) ⊎ IsStaleAt x.access (table_after procs s.front start) (one procs x (table_after procs s.front start)).0
      → IsGrounded procs s.front txns start x (one procs x (table_after procs s.front start)).0
  reason_at x s (inr w) = stale_reason x s (one procs x (table_after procs s.front start)).0 w
  reason_at x s (inl live) =
      let own : (one procs x (table_after procs s.front start)).0 ≡ own_outcome procs x (table_after procs s.front start) = ap (λ r. r.0) (one_live procs x (table_after procs s.front start) live) in
      live_reason x s (one procs x (table_after procs s.front start)).0 (sym own) live (λ k. own_fresh procs x.id x.body (reads_of x.access (see x (table_after procs s.front start))) (subst IsStaleOutcome own k))

  pub reasons : AllIn (λ r. HasReason procs txns start r) (outcomes procs txns start)
  reasons = all_put _ (outcomes procs txns start) (λ r k.
      let o : IsOutcomeAt procs txns start r = outcome_get procs txns start r k in
      record {
        txn = o.txn;
        front = o.at.front;
        rest = o.at.rest;
        is = o.at.is;
        id = ap (λ p. p.0) o.is;
        reason = subst (IsGrounded procs o.at.front txns start o.txn) (ap (λ p. p.1) o.is) (reason_at o.txn o.at (live_or_stale procs o.txn (table_after procs o.at.front start)));
      })
