-- Calls, which name their procedure by its number in a list of procedures. What a call needs before it may run, which
-- keys it uses, and how it ends; the parts of each are stated in Keys and Meaning. Transactions (dt_txn) speak of calls in
-- these words alone. Read next: Keys and Meaning.
use Rattle.std.specs.Prelude.{◌≡◌, ℕ, List, [], slice_get, Option, Some, None}
use Rattle.dt_text.specs.declared.Value.{Value}
use Rattle.dt_access.specs.Clash.{Bytes}
use Rattle.dt_access.specs.declared.Mode.{Mode}
use Rattle.dt_proc.specs.Tree.{ProcTree}
use Rattle.dt_proc.specs.Sound.{IsSoundProc}
use Rattle.dt_eval.specs.declared.finish.Finish.{Finish}
use Rattle.dt_eval.specs.declared.finish.Finish.TheVariants.{Gave}
use Rattle.dt_eval.specs.Meaning.{Fits, HasKeys, keys_of, meaning}

-- there is a procedure of this number, it is sound, the arguments fit it, and each of its declarations gives a key
pub record CallFits (procs : List ProcTree) (number : ℕ) (args : List Value) : Type 0 where
  pub body : ProcTree
  pub named : slice_get procs number ≡ Some body
  pub sound : IsSoundProc body
  pub fits : Fits body args
  pub keys : HasKeys body args

-- the keys that a call of a procedure uses, if there is one
abbrev pub keys_if : Option ProcTree → List Value → List (Bytes × Mode)
keys_if (Some body) args = keys_of body args
keys_if None args = []

-- the keys that a call uses, in ascending order, each with its mode
abbrev pub call_keys : List ProcTree → ℕ → List Value → List (Bytes × Mode)
call_keys procs number args = keys_if (slice_get procs number) args

-- how a call of a procedure ends, if there is one
abbrev pub meaning_if : Option ProcTree → List Value → List (Bytes × Option Value) → Finish
meaning_if (Some body) args reads = meaning body args reads
meaning_if None args reads = Gave [] []

-- how a call ends, from the values of the rows of its keys
abbrev pub call_meaning : List ProcTree → ℕ → List Value → List (Bytes × Option Value) → Finish
call_meaning procs number args reads = meaning_if (slice_get procs number) args reads
