-- Laws of the meaning of procedures: the meaning by cases is the function, only the keys of a call count for it, and only
-- keys that are declared for writing are written. Agreement between regions rests on the last two. Read next: `Execution`
-- of dt_txn, which runs calls.
use Rattle.std.specs.Prelude.{◌≡◌, ◌↔◌, List, map, Option}
use Rattle.dt_lists.specs.Lists.{AnyIn, AllIn}
use Rattle.dt_access.specs.Clash.{Bytes}
use Rattle.dt_access.specs.declared.Mode.TheVariants.{Write}
use Rattle.dt_text.specs.declared.Value.{Value}
use Rattle.dt_proc.specs.Tree.{ProcTree}
use Rattle.dt_proc.specs.Sound.{IsSoundProc}
use Rattle.dt_eval.specs.declared.finish.Finish.{Finish}
use Rattle.dt_eval.specs.Cases.{Means}
use Rattle.dt_eval.specs.Meaning.{Fits, keys_of, meaning, writes_in}

-- the meaning by cases and the function agree: so each call that fits ends in just one way
abbrev pub MeaningIsByCases : Type 0
MeaningIsByCases =
    (proc : ProcTree) (args : List Value) (reads : List (Bytes × Option Value)) (finish : Finish) → IsSoundProc proc → Fits proc args → Means proc args reads finish ↔ (meaning proc args reads ≡ finish)

-- what a call means depends on the values of its keys alone
abbrev pub KeysAloneCount : Type 0
KeysAloneCount =
    (proc : ProcTree) (args : List Value) (values others : Bytes → Option Value) → AllIn (λ u. values u.0 ≡ others u.0) (keys_of proc args) →
    meaning proc args (map (λ u. (u.0, values u.0)) (keys_of proc args)) ≡ meaning proc args (map (λ u. (u.0, others u.0)) (keys_of proc args))

-- only keys that are declared for writing are written
abbrev pub OnlyDeclaredAreWritten : Type 0
OnlyDeclaredAreWritten =
    (proc : ProcTree) (args : List Value) (reads : List (Bytes × Option Value)) → IsSoundProc proc → AllIn (λ w. AnyIn (λ u. (u.0 ≡ w.0) × (u.1 ≡ Write)) (keys_of proc args)) (writes_in (meaning proc args reads))
