-- Scaffolding: a frame, which is what the code keeps of a run, and the state of the run that it stands for. Only private
-- functions of this crate cite this. Read Meaning for what a run is.
use Rattle.std.specs.Prelude.{◌≡◌, ◌<◌, ℕ, ℤ, Bool, List, map, length, slice_index_or, [], Option, Some, None, Result, Ok, Err}
use Rattle.dt_proc.specs.declared.tree.KeyItem.{KeyItem}
use Rattle.dt_proc.specs.declared.tree.KeyItem.TheVariants as item
use Rattle.dt_syntax.specs.declared.operator.Op.{Op}
use Rattle.dt_proc.specs.declared.tree.Sort.{Sort}
use Rattle.dt_proc.specs.Sound.{TakesSort, HasSort, AreSound}
use Rattle.dt_proc.specs.Tree.{ExprTree, StmtTree, BlockTree, then, done}
use Rattle.dt_eval.specs.Data.{RunState, sort_of_datum}
use Rattle.dt_lists.specs.Lists.{AllIn}
use Rattle.dt_access.specs.Clash.{Bytes}
use Rattle.dt_eval.specs.Statements.{value_now}
use Rattle.dt_eval.specs.declared.frame.Frame.{Frame}
use Rattle.dt_eval.specs.declared.finish.Cause.TheVariants as cause
use Rattle.dt_eval.specs.declared.state.Datum.{Datum}
use Rattle.dt_eval.specs.declared.state.Datum.TheVariants.{Int, Bool as Truth}
use Rattle.dt_eval.specs.declared.finish.Cause.{Cause}
use Rattle.dt_eval.specs.declared.stop.Stop.{Stop}
use Rattle.dt_eval.specs.declared.stop.Stop.TheVariants.{Aborted, NoMemory}

-- a number that fits, or Overflow where there is none
abbrev pub or_overflow : Option ℤ → Result Datum Cause
or_overflow (Some z) = Ok (Int z)
or_overflow None = Err cause.Overflow

-- an operator takes these two operands
abbrev pub TakesBoth : Op → Datum → Datum → Type 0
TakesBoth o a b = TakesSort o (sort_of_datum a) × (sort_of_datum b ≡ sort_of_datum a)

-- the answer is the one given, or memory ran out
abbrev pub EvalAnswers : {A : Type 0} → Result A Cause → Result A Stop → Type 0
EvalAnswers told_in (Ok a) = told_in ≡ Ok a
EvalAnswers told_in (Err (Aborted c)) = told_in ≡ Err c
EvalAnswers told_in (Err NoMemory) = Unit {0}

-- the answer is the truth that was given, or memory ran out
abbrev pub TestAnswers : Result Datum Cause → Result Bool Stop → Type 0
TestAnswers told_in (Ok b) = told_in ≡ Ok (Truth b)
TestAnswers told_in (Err (Aborted c)) = told_in ≡ Err c
TestAnswers told_in (Err NoMemory) = Unit {0}

-- the state that a frame stands for
abbrev pub seen : Frame → RunState
seen f = record { variables = f.variables; rows = f.rows.1; given = f.given }

-- an expression has this sort in a frame
abbrev pub HasSortIn : Frame → ExprTree → Sort → Type 0
HasSortIn f e s = HasSort (map sort_of_datum f.variables) (length f.rows.0) e s

-- an expression has some sort in a frame
abbrev pub IsSorted : Frame → ExprTree → Type 0
IsSorted f e = (s : Sort) × HasSortIn f e s

-- what an expression gives in a frame
abbrev pub told_in : Frame → ExprTree → Result Datum Cause
told_in f e = value_now f.rows.0 (seen f) e

-- where there is a value, it has the sort
abbrev pub GivesSort : Sort → Result Datum Cause → Type 0
GivesSort s (Ok d) = sort_of_datum d ≡ s
GivesSort s (Err c) = Unit {0}

-- statements fit where a frame stands, some of its keys being for writing
abbrev pub IsSoundBlock : Frame → BlockTree → Type 0
IsSoundBlock f b = (writes : List Bool) × (length writes ≡ length f.rows.0) × AreSound (map sort_of_datum f.variables) writes b

-- a statement fits where a frame stands
abbrev pub IsSoundStep : Frame → StmtTree → Type 0
IsSoundStep f st = IsSoundBlock f (then st done)

-- the frame stands where the statements lead, or they abort with this cause, or memory ran out
abbrev pub RunReaches : Result RunState Cause → Frame → Result (Unit {0}) Stop → Type 0
RunReaches told_in now (Ok u) = told_in ≡ Ok (seen now)
RunReaches told_in now (Err (Aborted c)) = told_in ≡ Err c
RunReaches told_in now (Err NoMemory) = Unit {0}

-- the argument that a part of a key expression names is there
abbrev pub IsItemWithin : ℕ → KeyItem → Type 0
IsItemWithin n (item.Text t) = Unit {0}
IsItemWithin n (item.Param p) = p < n
IsItemWithin n (item.Show p) = p < n

-- the names are the keys at these places
abbrev pub ArePlaces : List Bytes → List Bytes → List ℕ → Type 0
ArePlaces names keys places = AllIn (λ p. p < length keys) places × (map (λ p. slice_index_or keys p []) places ≡ names)
