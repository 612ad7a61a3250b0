-- Which calls are worth a thread. A round starts threads for these alone; no promise of a round speaks of it, since what a
-- round comes to depends on no thread. Read next: src/jobs.rt.
use Rattle.std.specs.Prelude.{◌≤◌, ◌+◌, ℕ, List, Option, Some, None, slice_get}
use Rattle.dt_proc.specs.Tree.{BlockTree, ProcTree, done, then}
use Rattle.dt_txn.specs.declared.txn.Body.{Body}
use Rattle.dt_txn.specs.declared.txn.Body.TheVariants.{Call, Move}

-- how many outermost statements a block has: an `if` is one of them, whatever its own blocks hold
abbrev pub outermost : BlockTree → ℕ
outermost done = 0
outermost (then s rest) = 1 + outermost rest

-- a procedure is long if its body has at least 4,000 outermost statements: each call of it executes at least that many, unless it aborts
abbrev pub IsLong : ProcTree → Type 0
IsLong proc = 4000 ≤ outermost proc.body

-- a procedure is there, and long
abbrev pub IsLongIn : Option ProcTree → Type 0
IsLongIn None = ⊥
IsLongIn (Some proc) = IsLong proc

-- what a transaction does is a call of a long procedure
abbrev pub IsLongBody : List ProcTree → Body → Type 0
IsLongBody procs (Call proc arguments) = IsLongIn (slice_get procs proc)
IsLongBody procs (Move key target) = ⊥
