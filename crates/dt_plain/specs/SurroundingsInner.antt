-- What lies around a transaction in a view: the ids that have a part, those behind it (which reach it) and those ahead of
-- it (which it reaches), and how it is read off these lists whether the transaction may be executed, or its class
-- resolved. A scheduler answers from such lists. Read Decide.antt of dt_sched for what the answers mean, in terms of `Reaches` alone.
use Rattle.std.specs.Prelude.{◌≡◌, ◌≢◌, ◌⊎◌, ◌↔◌, ◌≤◌, List, length, true}
use Rattle.dt_lists.specs.Lists.{AnyIn, AllIn, SomeThen, Has, Distinct}
use Rattle.dt_access.specs.Clash.{clash}
use Rattle.dt_access.specs.declared.TxnId.{TxnId}
use Rattle.dt_access.specs.declared.Part.{Part}
use Rattle.dt_sched.specs.Views.{View, IsPresent, HasParts, IsComplete, AreClashing, Reaches, IsSooner}

-- where p stands before q in a log, it makes an edge: they are of different transactions, and clash
abbrev pub MakesEdge : Part → Part → Type 0
MakesEdge p q = (p.id ≢ q.id) × (clash p.keys q.keys ≡ true)

-- some part of the front makes an edge from u to t with the part
abbrev pub EdgeInto : List Part → Part → TxnId → TxnId → Type 0
EdgeInto front part u t = (u ≢ t) × AnyIn (λ p. AreClashing u t p part) front

-- there is an edge from u to t in the log
abbrev pub EdgeWithin : List Part → TxnId → TxnId → Type 0
EdgeWithin log u t = (u ≢ t) × SomeThen (AreClashing u t) log

-- the ids are those that have a part in the view, each once
pub record ArePresent (view : View) (ids : List TxnId) : Type 0 where
  pub distinct : Distinct ids
  pub members : (u : TxnId) → Has ids u ↔ IsPresent view u

-- the ids are those that reach t, each once
pub record AreBehind (view : View) (t : TxnId) (ids : List TxnId) : Type 0 where
  pub distinct : Distinct ids
  pub members : (u : TxnId) → Has ids u ↔ Reaches view u t

-- the ids are those that t reaches, each once
pub record AreAhead (view : View) (t : TxnId) (ids : List TxnId) : Type 0 where
  pub distinct : Distinct ids
  pub members : (u : TxnId) → Has ids u ↔ Reaches view t u

-- the part is one of t, and each home that it names has a part of t
abbrev pub ShowsComplete : View → TxnId → Part → Type 0
ShowsComplete view t p = (p.id ≡ t) × HasParts view p.homes t

-- of what reaches t, u is no obstacle to executing t: it is t, or done, or t reaches it too and it isn't sooner
abbrev pub IsNoObstacle : View → List TxnId → List TxnId → TxnId → TxnId → Type 0
IsNoObstacle view ahead done t u = (u ≡ t) ⊎ (Has done u ⊎ (Has ahead u × ¬ (IsSooner view u t)))

-- of what reaches t, u is complete and no obstacle to executing t
abbrev pub IsClear : View → List TxnId → List TxnId → TxnId → TxnId → Type 0
IsClear view ahead done t u = IsComplete view u × IsNoObstacle view ahead done t u

-- the ids are several, all complete, and not resolved before
abbrev pub AreCandidates : View → List (List TxnId) → List TxnId → Type 0
AreCandidates view resolved ids = (2 ≤ length ids) × AllIn (IsComplete view) ids × ¬ (Has resolved ids)

-- the class is the ids, and each id of `behind` is among them or done
abbrev pub IsUnhindered : List TxnId → List TxnId → List TxnId → List TxnId → Type 0
IsUnhindered behind class ids done = (class ≡ ids) × AllIn (λ u. Has ids u ⊎ Has done u) behind
