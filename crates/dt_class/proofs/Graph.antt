-- What links lead to is what edges lead to, and the lists of marked vertices are what is asked.
use Rattle.std.proofs.Common.{◌≡◌, ℕ, ◌<◌, ◌↔◌, Bool, true, false, List, [], ◌∷◌, get_or, map, Some, None, subst, inl, inr}
use Rattle.std.specs.Prelude.{filter}
use Rattle.dt_lists.specs.Lists.{Has}
use Rattle.dt_lists.specs.Chain.{Chain}
use Rattle.dt_lists.proofs.Callers.{all_any, any_map, any_image, any_of_image, all_put, chain_map, chain_takes_back, chain_turned, filter_all, filter_each, has_filter, has_of_filtered}
use Rattle.dt_class.specs.Graphs.{AdjView, IsEdge, Leads, IsInClass, AreVertices, IsSource, AreAllBlocked}
use Rattle.dt_class.specs.LinksInner.{edge_of, near_end, far_end, IsStep, LeadsBy, AreBelow}
use Rattle.dt_class.specs.FindsInner.{FoundView, IsMarked, IsReach, IsReachOf, IsLastStart, AreMarked}
use Rattle.dt_class.specs.declared.link.Link.{Link}
use Rattle.dt_class.specs.declared.link.Way.{Way}
use Rattle.dt_class.specs.declared.link.Way.TheVariants.{Forth, Back}
use Rattle.dt_class.proofs.Marks.{marked_within}

-- the graph that links stand for
abbrev graph_of : ℕ → List Link → AdjView
graph_of count links = record { vertices = count; edges = map edge_of links }

module _ (count : ℕ) (links : List Link) where
  edge_of_step : (u v : ℕ) → IsStep Forth links u v → IsEdge (graph_of count links) u v
  edge_of_step u v s = any_image (λ e. (e.source ≡ u) × (e.target ≡ v)) edge_of links s

  step_of_edge : (u v : ℕ) → IsEdge (graph_of count links) u v → IsStep Forth links u v
  step_of_edge u v e = any_of_image (λ e. (e.source ≡ u) × (e.target ≡ v)) edge_of links e

  turned : (u v : ℕ) → IsStep Forth links u v → IsStep Back links v u
  turned u v s = any_map _ _ links (λ l p. (p.1, p.0)) s

  turned_back : (u v : ℕ) → IsStep Back links u v → IsStep Forth links v u
  turned_back u v s = any_map _ _ links (λ l p. (p.1, p.0)) s

  -- of one start
  marked_of_reach : (way : Way) (u v : ℕ) (found : FoundView) → IsReach way links count (u ∷ []) found → IsMarked found.marks v ↔ Chain (IsStep way links) u v
  marked_of_reach way u v found r = (
    λ m. elim ((r.exact v).0 ((r.once.members v).0 m)) [ inl c ↦ c | inr z ↦ absurd z ],
    λ c. (r.once.members v).1 ((r.exact v).1 (inl c)),
  )

  pub reach_of_graph : (way : Way) (u : ℕ) (found : FoundView) → IsReach way links count (u ∷ []) found → IsReachOf (graph_of count links) way u found
  reach_of_graph Forth u found r =
      record {
        vertices = r.vertices;
        exact = λ v. (λ m. chain_map edge_of_step ((marked_of_reach Forth u v found r).0 m), λ c. (marked_of_reach Forth u v found r).1 (chain_map step_of_edge c));
      }
  reach_of_graph Back u found r =
      record {
        vertices = r.vertices;
        exact =
            λ v. (
              λ m. chain_turned (λ a b s. edge_of_step b a (turned_back a b s)) ((marked_of_reach Back u v found r).0 m),
              λ c. (marked_of_reach Back u v found r).1 (chain_turned (λ a b e. turned a b (step_of_edge a b e)) c),
            );
      }

  -- a link begins at a vertex
  step_below : AreBelow count links → (u v : ℕ) → IsStep Forth links u v → u < count
  step_below below u v s =
      let r : (l : Link) × Has links l × ((l.source < count) × (l.target < count)) × ((near_end Forth l ≡ u) × (far_end Forth l ≡ v)) = all_any _ _ links below s in
      subst (λ w. w < count) r.3.0 r.2.0

  module _ (below : AreBelow count links) (blocked : List ℕ) (found : FoundView) (r : IsReach Forth links count blocked found) where
    -- the last start is one that only its class leads to
    pub source_of_last : (f : ℕ) → IsLastStart Forth links count found.order (Some f) → IsSource (graph_of count links) blocked f
    source_of_last f last =
        record {
          vertex = last.0;
          first =
              λ u c. let steps : Chain (IsStep Forth links) u f = chain_map step_of_edge c in
              (chain_map edge_of_step (last.2 u (chain_takes_back (λ w. w < count) (λ a b e lt. step_below below a b e) steps last.0) steps), c);
          free = λ a. last.1 ((r.exact f).1 (any_map _ _ blocked (λ b c. chain_map step_of_edge c) a));
        }

    pub all_blocked : IsLastStart Forth links count found.order None → AreAllBlocked (graph_of count links) blocked
    all_blocked last = λ v lt. any_map _ _ blocked (λ b c. chain_map edge_of_step c) ((r.exact v).0 (last v lt))

-- all that reaches a source is its class
pub class_of_source : (graph : AdjView) (blocked : List ℕ) (v : ℕ) (list : List ℕ) → IsSource graph blocked v → AreVertices graph (λ u. Leads graph u v) list → AreVertices graph (IsInClass graph v) list
class_of_source graph blocked v list source a =
    record {
      ascending = a.ascending;
      within = a.within;
      members = λ u. (λ h. source.first u ((a.members u).0 h), λ c. (a.members u).1 c.1);
    }

-- the marked vertices are those that are reached
pub vertices_of_marks : (graph : AdjView) (way : Way) (u : ℕ) (found : FoundView) (list : List ℕ) → IsReachOf graph way u found → AreMarked found.marks list → AreVertices graph (LeadsBy way graph u) list
vertices_of_marks graph way u found list r m =
    record {
      ascending = m.ascending;
      within = all_put _ list (λ v h. subst (λ n. v < n) r.vertices (marked_within found.marks v ((m.members v).0 h)));
      members = λ v. (λ h. (r.exact v).0 ((m.members v).0 h), λ c. (m.members v).1 ((r.exact v).1 c));
    }

-- those of what the vertex reaches that also reach it are its class
pub class_of_marks : (graph : AdjView) (u : ℕ) (found : FoundView) (list : List ℕ) → AreVertices graph (LeadsBy Forth graph u) list → IsReachOf graph Back u found
    → AreVertices graph (IsInClass graph u) (filter (λ v. get_or found.marks v false) list)
class_of_marks graph u found list a r =
    let test : ℕ → Bool = λ v. get_or found.marks v false in
    record {
      ascending = filter_each _ test list a.ascending;
      within = filter_all _ test list a.within;
      members =
          λ v. (
            λ h. let k : Has list v × (test v ≡ true) = has_of_filtered test list v h in ((a.members v).0 k.0, (r.exact v).0 k.1),
            λ c. has_filter test list v ((a.members v).1 c.0) ((r.exact v).1 c.1),
          );
    }
