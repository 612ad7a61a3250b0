-- Scaffolding: the graph that the plain scheduler gathers for an answer. It has the ids that have a part in the logs, and a link
-- for each edge, forth and turned round, so that a search along links finds what an id reaches and what reaches it. Edges and
-- reach themselves are those of the view (dt_sched). Read next: `LinksInner`, a search along links.
use Rattle.std.specs.Prelude.{◌⊎◌, ◌↔◌, List}
use Rattle.dt_lists.specs.Lists.{Has, Distinct}
use Rattle.dt_access.specs.declared.TxnId.{TxnId}
use Rattle.dt_access.specs.declared.Part.{Part}
use Rattle.dt_sched.specs.Views.{View, HasPart, Edge}
use Rattle.dt_plain.specs.SurroundingsInner.{ArePresent}
use Rattle.dt_plain.specs.LinksInner.{IsLinked}
use Rattle.dt_plain.specs.declared.search.Link.{Link}

-- the links from u to t where P u t were added
pub record Gains (P : TxnId → TxnId → Type 0) (old new : List Link) : Type 0 where
  pub members : (u t : TxnId) → IsLinked new u t ↔ (IsLinked old u t ⊎ P u t)

-- the links are the edges of the view
pub record AreEdges (view : View) (links : List Link) : Type 0 where
  pub members : (u t : TxnId) → IsLinked links u t ↔ Edge view u t

-- the links are the edges of the view, each turned round
pub record AreTurned (view : View) (links : List Link) : Type 0 where
  pub members : (u t : TxnId) → IsLinked links u t ↔ Edge view t u

-- a link turned round
abbrev pub turned_link : Link → Link
turned_link l = record { from = l.to; to = l.from }

-- the ids of the parts of the log were added to the list
pub record GetsIds (log : List Part) (old new : List TxnId) : Type 0 where
  pub distinct : Distinct new
  pub members : (u : TxnId) → Has new u ↔ (Has old u ⊎ HasPart log u)

-- the ids and the links, forth and back, are the graph of the view
pub record IsGraphOf (view : View) (ids : List TxnId) (links back : List Link) : Type 0 where
  pub whose : ArePresent view ids
  pub forth : AreEdges view links
  pub turned_round : AreTurned view back
