-- When an order of ids fits a serial run of transactions (`IsHistory`), and when a list of its transactions is one that a
-- region may have run (`IsPart`). These two words carry all laws of this crate: a part has the outcomes, the moves and the
-- table of its history, whatever order it took where the order of ids leaves it free. Read next src/laws.rt.
use Rattle.std.specs.Prelude.{◌≡◌, ◌≢◌, ◌⊎◌, ℕ, zero, suc, Bool, true, false, List, [], map, slice_get, Option, Some, None, IsSomeAnd}
use Rattle.dt_lists.specs.Lists.{AnyIn, AllIn, Has, Distinct}
use Rattle.dt_access.specs.Ids.{StandsBefore}
use Rattle.dt_access.specs.Clash.{Bytes, is_whole, uses_clash}
use Rattle.dt_access.specs.Granules.{IsUnit, mode_of_move, unit_of}
use Rattle.dt_access.specs.declared.TxnId.{TxnId}
use Rattle.dt_access.specs.declared.Access.{Access}
use Rattle.dt_access.specs.declared.Mode.{Mode}
use Rattle.dt_access.specs.declared.Mode.TheVariants.{Write}
use Rattle.dt_text.specs.declared.Value.{Value}
use Rattle.dt_proc.specs.Tree.{ProcTree}
use Rattle.dt_table.specs.declared.Effect.{Effect}
use Rattle.dt_table.specs.Table.{Table, Moved, moves_of}
use Rattle.dt_txn.specs.declared.txn.Body.TheVariants.{Move}
use Rattle.dt_txn.specs.declared.txn.Txn.{Txn}
use Rattle.dt_txn.specs.Execution.{result_of, stale_of, see}
use Rattle.dt_txn.specs.Serial.{table_after}

-- the ids of transactions, in their order
abbrev pub txn_ids : List Txn → List TxnId
txn_ids txns = map (λ x. x.id) txns

-- one of the two precedes the other
abbrev pub Ordered : (TxnId → TxnId → Type 0) → TxnId → TxnId → Type 0
Ordered order u t = order u t ⊎ order t u

-- no id stands twice in the list, and all that precedes one of its ids stands before that id in the list
pub record IsDown (order : TxnId → TxnId → Type 0) (ids : List TxnId) : Type 0 where
  pub once : Distinct ids
  pub preceders : (u t : TxnId) → Has ids t → order u t → StandsBefore ids u t

-- t comes after the first n of these moves: the last one of them is there, and its mover precedes t; nothing is required for n = 0
abbrev pub FollowsMove : (TxnId → TxnId → Type 0) → List Moved → ℕ → TxnId → Type 0
FollowsMove order moves zero t = Unit {0}
FollowsMove order moves (suc c) t = (m : Moved) × (slice_get moves c ≡ Some m) × order m.by t

-- each transaction comes after the moves that it was annotated with: for each key that it uses, after as many of the
-- table's moves of that key's unit
abbrev pub IsAnchored : (TxnId → TxnId → Type 0) → Table → List Txn → Type 0
IsAnchored order table txns = AllIn (λ x. AllIn (λ a. FollowsMove order (moves_of table a.key) a.counter x.id) x.access) txns

-- of two transactions that have uses which clash and are annotated with the same number of moves one precedes the other
abbrev pub IsShared : (TxnId → TxnId → Type 0) → List Txn → Type 0
IsShared order txns =
    (x y : Txn) → Has txns x → Has txns y → x.id ≢ y.id
    → (a b : Access) → Has x.access a → Has y.access b → a.counter ≡ b.counter → uses_clash (a.key, a.mode) (b.key, b.mode) ≡ true
    → Ordered order x.id y.id

-- on this table the transaction is live: the unit of none of its keys was moved since it was annotated
abbrev pub IsLive : Txn → Table → Type 0
IsLive x t = stale_of x.access (see x t) ≡ None

-- in this version, the effect changes what is seen of this key: it writes it, or it moves its unit
abbrev pub Changes : ℕ → Effect → Bytes → Type 0
Changes version effect key = AnyIn (λ w. w.0 ≡ key) effect.writes ⊎ IsSomeAnd effect.moved (λ m. unit_of version m.0 ≡ unit_of version key)

-- by this entry a transaction may change what is seen of this key: it may write it, or move its unit
abbrev pub ChangesBy : ℕ → Bytes → Access → Type 0
ChangesBy version key a = ((a.key ≡ key) × (a.mode ≡ Write)) ⊎ ((unit_of version a.key ≡ unit_of version key) × (a.mode ≡ mode_of_move version))

-- the transaction has an entry by which it may change what is seen of this key
abbrev pub MayChange : ℕ → Txn → Bytes → Type 0
MayChange version x key = AnyIn (ChangesBy version key) x.access

-- the transaction keeps to its keys: whatever it reads, it changes only what it may change; what it moves is a unit; and
-- it takes granules as a whole in version 2 alone
pub record KeepsToKeys (procs : List ProcTree) (version : ℕ) (x : Txn) : Type 0 where
  pub changes : (reads : List (Bytes × Option Value)) (key : Bytes) → Changes version (result_of procs x.id x.body reads).1 key → MayChange version x key
  pub moves : (key : Bytes) (target : ℕ) → x.body ≡ Move key target → IsUnit version key
  pub whole : AllIn (λ a. version ≢ 2 → is_whole a.mode ≡ false) x.access

-- the transactions ran one after another from a table without moves, and the order fits that run
pub record IsHistory (procs : List ProcTree) (order : TxnId → TxnId → Type 0) (start : Table) (txns : List Txn) : Type 0 where
  pub transitive : (u v t : TxnId) → order u v → order v t → order u t
  pub unmoved : (key : Bytes) → moves_of start key ≡ []
  pub keys : AllIn (KeepsToKeys procs start.version) txns
  pub down : IsDown order (txn_ids txns)
  pub anchored : IsAnchored order (table_after procs txns start) txns
  pub shared : IsShared order txns

-- the transactions are some of those of a history, each after all that precedes it
pub record IsPart (procs : List ProcTree) (order : TxnId → TxnId → Type 0) (start : Table) (history txns : List Txn) : Type 0 where
  pub fits : IsHistory procs order start history
  pub members : AllIn (λ x. Has history x) txns
  pub down : IsDown order (txn_ids txns)

-- the order of two ids that a test decides
abbrev pub ByTest : (TxnId → TxnId → Bool) → TxnId → TxnId → Type 0
ByTest precedes u t = precedes u t ≡ true

-- the keys that a transaction uses, each with its mode
abbrev pub uses_in : Txn → List (Bytes × Mode)
uses_in x = map (λ a. (a.key, a.mode)) x.access
