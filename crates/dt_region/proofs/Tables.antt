-- A table that is one for n regions stays one: it annotates with regions, and is moved to regions. What a transaction
-- moves has a place left, where its body has one.
use Rattle.std.proofs.Common.{◌<◌, ℕ, true, false, cond, List, [], ◌∷◌, ◌++◌, map, Option, Some, None, sym, subst, ◌∙◌}
use Rattle.dt_lists.specs.Lists.{AllIn}
use Rattle.dt_lists.proofs.Callers.{all_append}
use Rattle.dt_access.specs.Clash.{Bytes, same_key}
use Rattle.dt_access.specs.declared.Access.{Access}
use Rattle.dt_access.specs.declared.Mode.{Mode}
use Rattle.dt_access.specs.declared.TxnId.{TxnId}
use Rattle.dt_text.specs.declared.Value.{Value}
use Rattle.dt_proc.specs.Tree.{ProcTree}
use Rattle.dt_eval.specs.Calls.{call_meaning}
use Rattle.dt_eval.specs.declared.Finish.{Finish}
use Rattle.dt_eval.specs.declared.finish.Finish.TheVariants as finish
use Rattle.dt_access.specs.Granules.{unit_of}
use Rattle.dt_table.specs.Table.{Table, HasPlaceFor, Moved, home_of, moves_of, apply}
use Rattle.dt_table.specs.declared.Effect.{Effect}
use Rattle.dt_table.proofs.Callers.{home_of-below, homes-apply, move_at, moves_of-apply, regions-apply}
use Rattle.dt_txn.specs.declared.txn.Body.{Body}
use Rattle.dt_txn.specs.declared.txn.Body.TheVariants.{Call, Move}
use Rattle.dt_txn.specs.declared.txn.Txn.{Txn}
use Rattle.dt_txn.specs.declared.outcome.Outcome.{Outcome}
use Rattle.dt_txn.specs.Transaction.{annotate, annotated, uses_of, targets_of, set_of, BodyFits, IsValid}
use Rattle.dt_txn.specs.Execution.{see, stale_of, reads_of, result_of, of_finish, unless_stale, one}
use Rattle.dt_txn.specs.Serial.{after}
use Rattle.dt_txn.proofs.Callers.{annotated_uses, with_number_all}
use Rattle.dt_region.specs.Conditions.{HasPlaceToMove, IsTableFor}

-- the effect moves to a region, if it moves at all
abbrev pub MovesWithin : ℕ → Option (Bytes × ℕ × TxnId) → Type 0
MovesWithin regions None = Unit {0}
MovesWithin regions (Some m) = m.1 < regions

finish_moves : (regions : ℕ) (f : Finish) → MovesWithin regions (of_finish f).1.moved
finish_moves regions (finish.Gave values writes) = tt
finish_moves regions (finish.Aborted cause) = tt

result_moves : (procs : List ProcTree) (version regions : ℕ) (id : TxnId) (body : Body) (reads : List (Bytes × Option Value)) → BodyFits procs version regions body
    → MovesWithin regions (result_of procs id body reads).1.moved
result_moves procs version regions id (Call proc args) reads fits = finish_moves regions (call_meaning procs proc args reads)
result_moves procs version regions id (Move key target) reads fits = fits.1

unless_moves : (regions : ℕ) (stale : Option Outcome) (r : Outcome × Effect) → MovesWithin regions r.1.moved → MovesWithin regions (unless_stale stale r).1.moved
unless_moves regions None r within = within
unless_moves regions (Some o) r within = tt

-- a valid transaction moves to a region, if it moves at all
one_moves : (procs : List ProcTree) (version regions : ℕ) (txn : Txn) (t : Table) → IsValid procs version regions txn → MovesWithin regions (one procs txn t).1.moved
one_moves procs version regions txn t valid =
    unless_moves regions (stale_of txn.access (see txn t)) (result_of procs txn.id txn.body (reads_of txn.access (see txn t)))
    (result_moves procs version regions txn.id txn.body (reads_of txn.access (see txn t)) valid.body)

move_within : (regions version : ℕ) (q : Bytes) (move : Option (Bytes × ℕ × TxnId)) → MovesWithin regions move → AllIn (λ m. m.target < regions) (move_at version q move)
move_within regions version q None within = tt
move_within regions version q (Some m) within =
    elim (same_key (unit_of version q) (unit_of version m.0)) as (λ b. AllIn (λ (x : Moved). x.target < regions) (cond b (record { target = m.1; by = m.2 } ∷ []) [])) [ true ↦ (within, tt) | false ↦ tt ]

apply_table : (regions : ℕ) (e : Effect) (t : Table) → IsTableFor regions t → MovesWithin regions e.moved → IsTableFor regions (apply e t)
apply_table regions e t fits within = record {
  sized = regions-apply e t ∙ fits.sized;
  homes = subst (AllIn (λ listed. listed.1 < regions)) (sym (homes-apply e t)) fits.homes;
  moves = λ key. subst (AllIn (λ (m : Moved). m.target < regions)) (sym (moves_of-apply e t key)) (all_append _ (moves_of t key) (move_at t.version key e.moved) (fits.moves key) (move_within regions t.version key e.moved within));
}

pub after_table : (procs : List ProcTree) (version regions : ℕ) (txn : Txn) (t : Table) → IsTableFor regions t → IsValid procs version regions txn → IsTableFor regions (after procs txn t)
after_table procs version regions txn t fits valid = apply_table regions (one procs txn t).1 t fits (one_moves procs version regions txn t valid)

-- a place is left for what a transaction moves, where one is left for what its body moves

finish_place : (t : Table) (f : Finish) → HasPlaceFor (of_finish f).1.moved t
finish_place t (finish.Gave values writes) = tt
finish_place t (finish.Aborted cause) = tt

result_place : (procs : List ProcTree) (id : TxnId) (body : Body) (reads : List (Bytes × Option Value)) (stale : Option Outcome) (t : Table) → HasPlaceToMove t body
    → HasPlaceFor (unless_stale stale (result_of procs id body reads)).1.moved t
result_place procs id body reads (Some o) t place = tt
result_place procs id (Call proc args) reads None t place = finish_place t (call_meaning procs proc args reads)
result_place procs id (Move key target) reads None t place = place

pub one_place : (procs : List ProcTree) (txn : Txn) (t : Table) → HasPlaceToMove t txn.body → HasPlaceFor (one procs txn t).1.moved t
one_place procs txn t place = result_place procs txn.id txn.body (reads_of txn.access (see txn t)) (stale_of txn.access (see txn t)) t place

-- the homes of all keys are regions
pub home_within : (regions : ℕ) (t : Table) → 0 < regions → IsTableFor regions t → (key : Bytes) → home_of t key < regions
home_within regions t some fits key =
    subst (λ n. home_of t key < n) fits.sized
    (home_of-below t key (subst (λ n. 0 < n) (sym fits.sized) some) (subst (λ n. AllIn (λ listed. listed.1 < n) t.homes) (sym fits.sized) fits.homes)
    (subst (λ n. AllIn (λ m. m.target < n) (moves_of t key)) (sym fits.sized) (fits.moves key)))

-- what such a table annotates is valid

access_within : (regions : ℕ) (t : Table) (uses : List (Bytes × Mode)) → ((key : Bytes) → home_of t key < regions) → AllIn (λ home. home < regions) (map (λ a. a.home) (map (annotated t) uses))
access_within regions t [] below = tt
access_within regions t (u ∷ uses) below = (below u.0, access_within regions t uses below)

targets_within : (procs : List ProcTree) (version regions : ℕ) (body : Body) → BodyFits procs version regions body → AllIn (λ home. home < regions) (targets_of body)
targets_within procs version regions (Call proc args) fits = tt
targets_within procs version regions (Move key target) fits = (fits.1, tt)

set_within : (regions : ℕ) (ns : List ℕ) → AllIn (λ n. n < regions) ns → AllIn (λ n. n < regions) (set_of ns)
set_within regions [] all = tt
set_within regions (n ∷ ns) all = with_number_all (λ m. m < regions) n (set_of ns) all.0 (set_within regions ns all.1)

pub annotate_valid : (procs : List ProcTree) (regions : ℕ) (id : TxnId) (rank : ℕ) (body : Body) (t : Table) → 0 < regions → IsTableFor regions t → BodyFits procs t.version regions body
    → IsValid procs t.version regions (annotate procs id rank body t)
annotate_valid procs regions id rank body t some fits can =
    let uses : List (Bytes × Mode) = uses_of procs t.version body in
    record {
      body = can;
      uses = annotated_uses t uses;
      homes = set_within regions (map (λ (a : Access). a.home) (map (annotated t) uses) ++ targets_of body)
          (all_append _ (map (λ (a : Access). a.home) (map (annotated t) uses)) (targets_of body) (access_within regions t uses (home_within regions t some fits)) (targets_within procs t.version regions body can));
    }
