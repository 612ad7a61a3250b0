-- The dependency graph. Each home keeps a log of the parts of transactions that use its rows; what a region has inserted
-- of all logs is its view. Two parts that clash in one log make an edge from the earlier to the later. Logs of several
-- homes may disagree, so edges can form a cycle; ranks then break the tie, and ids where ranks are the same. Any order serves
-- for this that every view computes alike (Ties.antt). Read next: Decide.antt, for what a region may do with its view.
use Rattle.std.specs.Prelude.{◌≡◌, ◌≢◌, ◌<◌, ◌⊎◌, ◌↔◌, ℕ, List, [], get_or, map, length, true}
use Rattle.std.specs.List.{filter, flat_map}
use Rattle.dt_lists.specs.Lists.{AnyIn, AllIn, SomeThen, Has, IsFront, Pairwise, Distinct}
pub use Rattle.dt_lists.specs.Chain.{Chain, here, onward}
use Rattle.dt_access.specs.Ids.{Before, AreAscending, same_id}
use Rattle.dt_access.specs.Clash.{clash}
use Rattle.dt_access.specs.declared.TxnId.{TxnId}
use Rattle.dt_access.specs.declared.Part.{Part}

-- what a region has inserted: of each home's log, in the order of homes, a front
abbrev pub View : Type 0
View = List (List Part)

-- the ids of the parts of a log, in its order
abbrev pub ids_of : List Part → List TxnId
ids_of log = map (λ p. p.id) log

-- the front of one home's log
abbrev pub log_at : View → ℕ → List Part
log_at view home = get_or view home []

-- a part of the transaction is in the log
abbrev pub HasPart : List Part → TxnId → Type 0
HasPart log t = AnyIn (λ p. p.id ≡ t) log

-- the view is longer: each log goes on where the shorter view's ends
abbrev pub IsLonger : View → View → Type 0
IsLonger short long = Pairwise IsFront short long

-- p is a part of u, q is a part of t, and they clash
abbrev pub AreClashing : TxnId → TxnId → Part → Part → Type 0
AreClashing u t p q = (p.id ≡ u) × (q.id ≡ t) × (clash p.keys q.keys ≡ true)

-- there is an edge from u to t: they differ, and in some log u's part stands before t's part and clashes with it
abbrev pub Edge : View → TxnId → TxnId → Type 0
Edge view u t = (u ≢ t) × AnyIn (SomeThen (AreClashing u t)) view

-- u reaches t: u is t, or a chain of edges leads from u to t
abbrev pub Reaches : View → TxnId → TxnId → Type 0
Reaches view u t = Chain (Edge view) u t

-- t has a part in the view
abbrev pub IsPresent : View → TxnId → Type 0
IsPresent view t = AnyIn (λ log. HasPart log t) view

-- t has a part at each of the homes
abbrev pub HasParts : View → List ℕ → TxnId → Type 0
HasParts view homes t = AllIn (λ home. HasPart (log_at view home) t) homes

-- t is complete: it has a part in the view, and a part at each of its homes
abbrev pub IsComplete : View → TxnId → Type 0
IsComplete view t = AnyIn (AnyIn (λ p. (p.id ≡ t) × HasParts view p.homes t)) view

-- t is closed: everything that reaches it is complete
abbrev pub IsClosed : View → TxnId → Type 0
IsClosed view t = (u : TxnId) → Reaches view u t → IsComplete view u

-- u and t reach each other
abbrev pub Mutual : View → TxnId → TxnId → Type 0
Mutual view u t = Reaches view u t × Reaches view t u

-- the parts of t in the view, in the order of homes
abbrev pub parts_with : View → TxnId → List Part
parts_with view t = flat_map (filter (λ p. same_id p.id t)) view

-- the rank of t in the view: that of its first part, as all its parts have the same; 0 where it has none
abbrev pub rank_of : View → TxnId → ℕ
rank_of view t = get_or (map (λ p. p.rank) (parts_with view t)) 0 0

-- u is sooner than t: it has the lower rank, or the same rank and the smaller id
abbrev pub IsSooner : View → TxnId → TxnId → Type 0
IsSooner view u t = (rank_of view u < rank_of view t) ⊎ ((rank_of view u ≡ rank_of view t) × Before u t)

-- u precedes t where the order breaks ties: it reaches t, and where t reaches it too, it comes first in the order
abbrev pub PrecedesBy : (View → TxnId → TxnId → Type 0) → View → TxnId → TxnId → Type 0
PrecedesBy order view u t = (u ≢ t) × Reaches view u t × ((¬ (Reaches view t u)) ⊎ order view u t)

-- u precedes t: it reaches t, and where t reaches it too, it is the sooner one
abbrev pub Precedes : View → TxnId → TxnId → Type 0
Precedes view u t = PrecedesBy IsSooner view u t

-- the ids are the class of t, in ascending order: all that reach t and that t reaches
pub record IsClass (view : View) (t : TxnId) (ids : List TxnId) : Type 0 where
  pub ascending : AreAscending ids
  pub members : (u : TxnId) → Has ids u ↔ Mutual view u t

-- the view is that of logs: in a log each id stands once, at a home that its part names, and all parts of one
-- transaction name the same homes and the same rank
pub record IsWellFormed (view : View) : Type 0 where
  pub once : (home : ℕ) → Distinct (ids_of (log_at view home))
  pub homed : (home : ℕ) → AllIn (λ p. (p.home ≡ home) × Has p.homes home) (log_at view home)
  pub alike : (home other : ℕ) → AllIn (λ p. AllIn (λ q. p.id ≡ q.id → p.homes ≡ q.homes) (log_at view other)) (log_at view home)
  pub ranked : (home other : ℕ) → AllIn (λ p. AllIn (λ q. p.id ≡ q.id → p.rank ≡ q.rank) (log_at view other)) (log_at view home)

-- each transaction of the view has one home
abbrev pub HasOneHomeEach : View → Type 0
HasOneHomeEach view = AllIn (AllIn (λ p. length p.homes ≡ 1)) view

-- t stands alike in both views: it is closed in the longer one too, and has in both the same edges into it, the same
-- ids that reach it, the same class and the same preceders
pub record StandsAlike (short long : View) (t : TxnId) : Type 0 where
  pub closed : IsClosed long t
  pub edges : (u : TxnId) → Edge short u t ↔ Edge long u t
  pub reaching : (u : TxnId) → Reaches short u t ↔ Reaches long u t
  pub both_ways : (u : TxnId) → Mutual short u t ↔ Mutual long u t
  pub class : (ids : List TxnId) → IsClass short t ids ↔ IsClass long t ids
  pub preceders : (u : TxnId) → Precedes short u t ↔ Precedes long u t
