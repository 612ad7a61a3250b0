-- What a region may decide from its own view, and from what it has resolved and done: which transactions it may execute,
-- and which groups that wait for each other it may resolve. Both wait until all that reaches a transaction is complete,
-- so that another region, which has seen other fronts of the logs, decides alike. Read next: src/laws.rt, for why it
-- does; and Sched.antt, for who answers.
use Rattle.std.specs.Prelude.{◌⊎◌, ◌≤◌, List, length}
use Rattle.dt_lists.specs.Lists.{AllIn, Has, EachThen, Distinct}
use Rattle.dt_access.specs.declared.TxnId.{TxnId}
use Rattle.dt_sched.specs.Views.{View, Reaches, IsComplete, IsClosed, IsSooner, PrecedesBy, Precedes, IsClass, IsWellFormed}

-- t may be executed at a region that inserted this view, resolved these classes and has done these ids, where the order
-- breaks ties
pub record IsExecutableBy (order : View → TxnId → TxnId → Type 0) (view : View) (resolved : List (List TxnId)) (done : List TxnId) (t : TxnId) : Type 0 where
  -- all that it depends on is known
  pub closed : IsClosed view t
  -- it runs once
  pub waiting : ¬ (Has done t)
  -- all that precedes it has run
  pub preceders : (u : TxnId) → PrecedesBy order view u t → Has done u
  -- if it is deadlocked with others, their group was resolved
  pub settled : (ids : List TxnId) → IsClass view t ids → 2 ≤ length ids → Has resolved ids

-- t may be executed where ties are broken by rank and then by id: this is what `execute` asks for in the store
abbrev pub IsExecutable : View → List (List TxnId) → List TxnId → TxnId → Type 0
IsExecutable view resolved done t = IsExecutableBy IsSooner view resolved done t

-- the ids are a deadlocked group that a region which inserted this view may resolve now
pub record IsResolvable (view : View) (resolved : List (List TxnId)) (done : List TxnId) (ids : List TxnId) : Type 0 where
  -- they are a class, in ascending order
  pub group : (t : TxnId) × IsClass view t ids
  -- of at least two
  pub several : 2 ≤ length ids
  -- all of it is here
  pub complete : AllIn (IsComplete view) ids
  -- it was not resolved before
  pub unresolved : ¬ (Has resolved ids)
  -- everything outside that reaches it has run
  pub before : (u t : TxnId) → Has ids t → Reaches view u t → Has ids u ⊎ Has done u

-- nothing is left to do for a region that inserted this view, resolved these classes and has done these ids, where the
-- order breaks ties
pub record HasNothingToDoBy (order : View → TxnId → TxnId → Type 0) (view : View) (resolved : List (List TxnId)) (done : List TxnId) : Type 0 where
  pub none_executable : (t : TxnId) → ¬ (IsExecutableBy order view resolved done t)
  pub none_resolvable : (ids : List TxnId) → ¬ (IsResolvable view resolved done ids)

-- nothing is left to do where ties are broken by rank and then by id
abbrev pub HasNothingToDo : View → List (List TxnId) → List TxnId → Type 0
HasNothingToDo view resolved done = HasNothingToDoBy IsSooner view resolved done

-- all that precedes a done id is done
abbrev pub IsDownward : View → List TxnId → Type 0
IsDownward view done = (u t : TxnId) → Has done t → Precedes view u t → Has done u

-- what stays true at a region that inserted this view, resolved these classes and has done these ids
pub record IsSound (view : View) (resolved : List (List TxnId)) (done : List TxnId) : Type 0 where
  pub well_formed : IsWellFormed view
  -- what is done was done once, and is closed
  pub done_once : Distinct done
  pub done_closed : AllIn (IsClosed view) done
  -- all that precedes a done id was done before it
  pub done_downward : IsDownward view done
  pub done_in_order : EachThen (λ t later. ¬ (Precedes view later t)) done
  -- what is resolved was resolved once, and is the class of each of its members, which are at least two and closed
  pub resolved_once : Distinct resolved
  pub resolved_several : AllIn (λ ids. 2 ≤ length ids) resolved
  pub resolved_closed : AllIn (AllIn (IsClosed view)) resolved
  pub resolved_classes : AllIn (λ ids. AllIn (λ t. IsClass view t ids) ids) resolved
