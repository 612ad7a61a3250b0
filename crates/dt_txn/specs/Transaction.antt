-- A transaction: what is to be done, its rank among those that it is deadlocked with, and what the submitting region knew
-- of each key that it uses. One learns here how a body is annotated by a table (`annotate`), which regions are its homes,
-- and which part each home orders in its log. A move takes along all that is of the unit that it moves.
-- A transaction can be executed anywhere, since all that its meaning needs is the body, the procedures and a table. Read
-- next Execution.antt, which runs it, and Replica.antt, which places it.
use Rattle.std.specs.Prelude.{◌≡◌, ◌<◌, ◌==◌, nat_lt, ℕ, List, [], ◌∷◌, ◌++◌, map, filter, if◌then◌else◌}
use Rattle.dt_lists.specs.Lists.{AllIn}
use Rattle.dt_access.specs.Clash.{Bytes}
use Rattle.dt_access.specs.Granules.{IsUnit, mode_of_move}
use Rattle.dt_access.specs.declared.TxnId.{TxnId}
use Rattle.dt_access.specs.declared.Mode.{Mode}
use Rattle.dt_access.specs.declared.Access.{Access}
use Rattle.dt_access.specs.declared.Part.{Part}
use Rattle.dt_proc.specs.Tree.{ProcTree}
use Rattle.dt_eval.specs.Calls.{CallFits, call_keys}
use Rattle.dt_table.specs.Table.{Table, home_of, counter_of}
use Rattle.dt_txn.specs.declared.txn.Body.{Body}
use Rattle.dt_txn.specs.declared.txn.Body.TheVariants.{Call, Move}
use Rattle.dt_txn.specs.declared.txn.Txn.{Txn}

-- the keys that a body uses by these procedures in this version, in ascending order, each with its mode
abbrev pub uses_of : List ProcTree → ℕ → Body → List (Bytes × Mode)
uses_of procs version (Call proc args) = call_keys procs proc args
uses_of procs version (Move key target) = (key, mode_of_move version) ∷ []

-- the keys that a body uses, without their modes: they are the same in both versions
abbrev pub keys_used : List ProcTree → Body → List Bytes
keys_used procs (Call proc args) = map (λ u. u.0) (call_keys procs proc args)
keys_used procs (Move key target) = key ∷ []

-- a use of a key, with the home and the number of moves that a table gives it
abbrev pub annotated : Table → Bytes × Mode → Access
annotated t used = record { key = used.0; mode = used.1; home = home_of t used.0; counter = counter_of t used.0 }

-- the transaction of this id and rank for a body, as a region with these procedures and this table submits it
abbrev pub annotate : List ProcTree → TxnId → ℕ → Body → Table → Txn
annotate procs id rank body t = record { id = id; rank = rank; body = body; access = map (annotated t) (uses_of procs t.version body) }

-- the set with one more number, as an ascending list
abbrev pub with_number : ℕ → List ℕ → List ℕ
with_number n [] = n ∷ []
with_number n (m ∷ ms) = if nat_lt n m then n ∷ m ∷ ms else (if n == m then m ∷ ms else m ∷ with_number n ms)

-- the set of these numbers, as an ascending list
abbrev pub set_of : List ℕ → List ℕ
set_of [] = []
set_of (n ∷ ns) = with_number n (set_of ns)

-- where a move leads, if the body is one
abbrev pub targets_of : Body → List ℕ
targets_of (Call proc args) = []
targets_of (Move key target) = target ∷ []

-- the key and the mode of an access entry
abbrev pub used_of : Access → Bytes × Mode
used_of a = (a.key, a.mode)

-- the homes of a transaction: those of its keys, and for a move also its target
abbrev pub homes_of : Txn → List ℕ
homes_of txn = set_of (map (λ a. a.home) txn.access ++ targets_of txn.body)

-- the entries that the part at a home has: those of that home, and in each part of a move its one entry
abbrev pub entries_at : Body → ℕ → List Access → List Access
entries_at (Call proc args) home access = filter (λ a. a.home == home) access
entries_at (Move key target) home access = access

-- the part of a transaction at a home
abbrev pub part_of : Txn → ℕ → Part
part_of txn home = record {
  id = txn.id;
  rank = txn.rank;
  home = home;
  keys = map used_of (entries_at txn.body home txn.access);
  homes = homes_of txn;
}

-- the parts of a transaction, one for each home, in ascending order of homes
abbrev pub parts_of : Txn → List Part
parts_of txn = map (part_of txn) (homes_of txn)

-- a body can be run: a call names a procedure, which its arguments fit and by which they name keys
abbrev pub CanRun : List ProcTree → Body → Type 0
CanRun procs (Call proc args) = CallFits procs proc args
CanRun procs (Move key target) = Unit {0}

-- the body's call can be run, or its move leads a unit of this version to a region
abbrev pub BodyFits : List ProcTree → ℕ → ℕ → Body → Type 0
BodyFits procs version regions (Call proc args) = CallFits procs proc args
BodyFits procs version regions (Move key target) = IsUnit version key × (target < regions)

-- the access list has the keys that the body uses, in their modes of some version
abbrev pub HasItsUses : List ProcTree → Txn → Type 0
HasItsUses procs txn = (version : ℕ) × (map used_of txn.access ≡ uses_of procs version txn.body)

-- a transaction is valid for these procedures, in a cluster of this version with n regions: its body fits, it uses
-- the keys of its body in their modes, and its homes are regions
pub record IsValid (procs : List ProcTree) (version : ℕ) (regions : ℕ) (txn : Txn) : Type 0 where
  pub body : BodyFits procs version regions txn.body
  pub uses : map used_of txn.access ≡ uses_of procs version txn.body
  pub homes : AllIn (λ home. home < regions) (homes_of txn)
