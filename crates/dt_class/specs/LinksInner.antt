-- How the code keeps a graph, for the private functions of this crate. A link is an edge that knows the place of the next
-- older link which begins where it begins, and of the next older one which ends where it ends; for each vertex the place
-- of its newest link of both kinds is kept. So the links of a vertex hang together, from the newest to the oldest, and a
-- search from it looks at no other link. Read next: FindsInner.antt, the search.
use Rattle.std.specs.Prelude.{◌≡◌, ◌≢◌, ℕ, ◌<◌, ◌^◌, List, length, get_or, Option, Some, None}
use Rattle.dt_lists.specs.Lists.{AnyIn, AllIn}
use Rattle.dt_class.specs.Graphs.{AdjEdge, AdjView, Leads}
use Rattle.dt_class.specs.declared.link.Link.{Link}
use Rattle.dt_class.specs.declared.link.Way.{Way}
use Rattle.dt_class.specs.declared.link.Way.TheVariants.{Forth, Back}

-- the edge that a link stands for
abbrev pub edge_of : Link → AdjEdge
edge_of l = record { source = l.source; target = l.target }

-- where a link begins for a search of this way: forth at its source, back at its target
abbrev pub near_end : Way → Link → ℕ
near_end Forth l = l.source
near_end Back l = l.target

-- where a link leads for a search of this way: forth to its target, back to its source
abbrev pub far_end : Way → Link → ℕ
far_end Forth l = l.target
far_end Back l = l.source

-- the place of the next older link that begins there too for a search of this way, if there is one
abbrev pub earlier_link : Way → Link → Option ℕ
earlier_link Forth l = l.earlier_from
earlier_link Back l = l.earlier_into

-- some link leads from u to v for a search of this way: forth where an edge goes from u to v, back where one goes from v
-- to u
abbrev pub IsStep : Way → List Link → ℕ → ℕ → Type 0
IsStep way links u v = AnyIn (λ l. (near_end way l ≡ u) × (far_end way l ≡ v)) links

-- u leads to v for a search of this way: forth where u reaches v in the graph, back where v reaches u
abbrev pub LeadsBy : Way → AdjView → ℕ → ℕ → Type 0
LeadsBy Forth graph u v = Leads graph u v
LeadsBy Back graph u v = Leads graph v u

-- the link at a place; at a place past the end a link that means nothing
abbrev pub link_at : List Link → ℕ → Link
link_at links i = get_or links i (record { source = 0; target = 0; earlier_from = None; earlier_into = None })

-- of the first n links, the newest one that begins at v for this way stands at this place; or none of them begins there
abbrev pub IsNewest : Way → List Link → ℕ → ℕ → Option ℕ → Type 0
IsNewest way links v n None = (i : ℕ) → i < n → near_end way (link_at links i) ≢ v
IsNewest way links v n (Some k) =
    (k < n) × (near_end way (link_at links k) ≡ v) × ((i : ℕ) → k < i → i < n → near_end way (link_at links i) ≢ v)

-- for a search of this way each vertex has the place of the newest link that begins there, and each link the place of the
-- newest one before it that begins where it begins; so all links of a vertex are found from its newest one on
pub record AreChained (way : Way) (links : List Link) (newest : List (Option ℕ)) : Type 0 where
  pub newest_first : (v : ℕ) → v < length newest → IsNewest way links v (length links) (get_or newest v None)
  pub earlier_next : (i : ℕ) → i < length links → IsNewest way links (near_end way (link_at links i)) i (earlier_link way (link_at links i))

-- both ends of each link are vertices: numbers below this one
abbrev pub AreBelow : ℕ → List Link → Type 0
AreBelow vertices links = AllIn (λ l. (l.source < vertices) × (l.target < vertices)) links

-- these links, with the newest ones of each vertex, keep a graph: both ways the links of each vertex hang together
pub record IsKept (links : List Link) (newest_from newest_into : List (Option ℕ)) : Type 0 where
  pub few : length newest_from < 2 ^ 32
  pub both_ways : length newest_into ≡ length newest_from
  pub below : AreBelow (length newest_from) links
  pub forth : AreChained Forth links newest_from
  pub back : AreChained Back links newest_into
