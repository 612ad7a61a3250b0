-- Scaffolding: links between ids, and a search along them, which finds from an id all that the links lead to, each once. A list
-- of links says nothing about logs; that it is the edges of a view, forth or turned round, stands in `GraphsInner`. Read next:
-- SurroundingsInner.antt, for what is read off what a search has found.
use Rattle.std.specs.Prelude.{◌≡◌, ◌⊎◌, ◌↔◌, List}
use Rattle.dt_lists.specs.Lists.{AnyIn, Has, IsFront, Distinct}
use Rattle.dt_access.specs.declared.TxnId.{TxnId}
use Rattle.dt_lists.specs.Chain.{Chain}
use Rattle.dt_plain.specs.declared.search.Link.{Link}

-- some link goes from u to t
abbrev pub IsLinked : List Link → TxnId → TxnId → Type 0
IsLinked links u t = AnyIn (λ l. (l.from ≡ u) × (l.to ≡ t)) links

-- what the links lead to from u in one step was added at the back of the list, as far as it was not there
pub record Follows (links : List Link) (u : TxnId) (old new : List TxnId) : Type 0 where
  pub front : IsFront old new
  pub distinct : Distinct new
  pub members : (t : TxnId) → Has new t ↔ (Has old t ⊎ IsLinked links u t)

-- the ids are what the links lead to from u, u itself with them, each once
pub record AreReached (links : List Link) (u : TxnId) (ids : List TxnId) : Type 0 where
  pub distinct : Distinct ids
  pub members : (t : TxnId) → Has ids t ↔ Chain (IsLinked links) u t
