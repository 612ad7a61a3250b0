-- What is left in the graph. Once all that reaches a transaction is done, it is out: nothing waits for it, and no later part
-- reaches it. So a scheduler may forget it, and answer from what is left alone. What it answers is stated of the whole view
-- (dt_sched); that what is left determines it is in proofs/LeftTransactions.antt and proofs/ExecutableTest.antt. Read next: `Waits`, for
-- what waits for what among these.
use Rattle.std.specs.Prelude.{◌≡◌, ◌⊎◌, ◌≤◌, List, length}
use Rattle.dt_lists.specs.Lists.{AnyIn, Has}
use Rattle.dt_access.specs.declared.TxnId.{TxnId}
use Rattle.dt_sched.specs.Views.{View, Edge, Reaches, IsPresent, IsClass}
use Rattle.dt_sched.specs.Decide.{IsSound}

-- t is out: all that reaches it is done, itself with it
abbrev pub IsOut : View → List TxnId → TxnId → Type 0
IsOut view done t = (u : TxnId) → Reaches view u t → Has done u

-- t is left: it has a part, and isn't out
abbrev pub IsLeft : View → List TxnId → TxnId → Type 0
IsLeft view done t = IsPresent view t × ¬ (IsOut view done t)

-- there is an edge from u to t, and both are left
abbrev pub LeftEdge : View → List TxnId → TxnId → TxnId → Type 0
LeftEdge view done u t = IsLeft view done u × Edge view u t × IsLeft view done t

-- of what is left, nothing but t itself reaches t
abbrev pub IsFree : View → List TxnId → TxnId → Type 0
IsFree view done t = (u : TxnId) → IsLeft view done u → Reaches view u t → u ≡ t

-- t is a member of a resolved class
abbrev pub IsInResolved : List (List TxnId) → TxnId → Type 0
IsInResolved resolved t = AnyIn (λ ids. Has ids t) resolved

-- what a scheduler keeps true of what was inserted, resolved and done, where each call was allowed
pub record IsOrderly (view : View) (resolved : List (List TxnId)) (done : List TxnId) : Type 0 where
  pub sound : IsSound view resolved done
  -- no member of a class of several is done before the class was resolved
  pub settled : (t : TxnId) (ids : List TxnId) → Has done t → IsClass view t ids → 2 ≤ length ids → Has resolved ids
  -- a class was resolved when all else that reaches it was done
  pub before : (ids : List TxnId) (u t : TxnId) → Has resolved ids → Has ids t → Reaches view u t → Has ids u ⊎ Has done u
