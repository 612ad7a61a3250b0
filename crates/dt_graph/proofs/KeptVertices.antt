-- The ready and the stuck numbers stand as the records of their vertices say, also after a vertex came to them or went from them.
use Rattle.std.proofs.Common.{◌≡◌, ◌≢◌, ◌≤◌, ◌<◌, ◌+◌, ◌^◌, ◌∙◌, ℕ, List, [], ◌∷◌, ◌++◌, length, map, get_or, set, Option, None, Some}
use Rattle.std.proofs.Common.{◌↔◌, IsTrue, is_some, true≢false, refl, sym, ap, subst, arith}
use Rattle.std.proofs.Math.ListN.{get_or-map as read_map}
use Rattle.std.proofs.Math.Seq.{map-set_same}
use Rattle.std.proofs.lemmas.List.{get_or-map, get_or-set_other, length-append, length-map, map-append, map-set, set-get_or}
use Rattle.std.proofs.lemmas.Option.{slice_get_within}
use Rattle.dt_lists.specs.Lists.{AllIn, Has}
use Rattle.dt_lists.proofs.Callers.{all_get, all_put, has_last, none_in_empty}
use Rattle.dt_waits.specs.declared.vertex.Vertex.{Vertex}
use Rattle.dt_waits.specs.Graph.{vertex_at}
use Rattle.dt_graph.specs.declared.kept.Kept.{Kept}
use Rattle.dt_graph.specs.declared.kept.Kind.{Kind}
use Rattle.dt_graph.specs.declared.kept.Kind.TheVariants as kind
use Rattle.dt_graph.specs.declared.kept.State.{State}
use Rattle.dt_graph.specs.declared.kept.State.TheVariants.{Neither, Ready, Stuck}
use Rattle.dt_graph.specs.SubsetInner.{IsSubset, PutsIn, Removes}
use Rattle.dt_graph.specs.VerticesInner.{AreMembers, AreVerticesKept, RecordsView, degrees_of, other_kind, place_of_kind, places_of_kind, state_of_kind, states_of, vertices_of}
use Rattle.dt_graph.proofs.Subsets.{absent_unplaced, added, at_front, has_placed, last_within, place_fits, placed_has, removed, removed_last, room_for, subset_added, subset_reached, subset_removed, subset_removed_last}
use Rattle.dt_graph.proofs.Subsets.{subset_room, unplaced_absent}

-- a vertex that is neither ready nor stuck has no place, and one that has a place in one list has none in the other
none_in : (k : Kind) → place_of_kind k Neither ≡ None
none_in kind.Ready = refl
none_in kind.Stuck = refl

place_put : (k : Kind) (p : ℕ) → place_of_kind k (state_of_kind k p) ≡ Some p
place_put kind.Ready p = refl
place_put kind.Stuck p = refl

place_beside : (k : Kind) (p : ℕ) → place_of_kind (other_kind k) (state_of_kind k p) ≡ None
place_beside kind.Ready p = refl
place_beside kind.Stuck p = refl

one_place : (k : Kind) (x : State) (p : ℕ) → place_of_kind k x ≡ Some p → place_of_kind (other_kind k) x ≡ None
one_place kind.Ready Neither p e = refl
one_place kind.Ready (Ready q) p e = refl
one_place kind.Ready (Stuck q) p e = cc
one_place kind.Stuck Neither p e = refl
one_place kind.Stuck (Ready q) p e = cc
one_place kind.Stuck (Stuck q) p e = refl

-- the place of a vertex stands in its state
place_read : (k : Kind) (states : List State) (i : ℕ) → get_or (map (place_of_kind k) states) i None ≡ place_of_kind k (get_or states i Neither)
place_read k states i = subst (λ n. get_or (map (place_of_kind k) states) i n ≡ place_of_kind k (get_or states i Neither)) (none_in k) (read_map (place_of_kind k) states i Neither)

-- a state with no place takes the place of one with none
places_beside : (k : Kind) (states : List State) (i : ℕ) (y : State) → place_of_kind k (get_or states i Neither) ≡ None → place_of_kind k y ≡ None → map (place_of_kind k) (set states i y) ≡ map (place_of_kind k) states
places_beside k states i y e n = map-set (place_of_kind k) states i y ∙ ap (set (map (place_of_kind k) states) i) (n ∙ sym (place_read k states i ∙ e)) ∙ set-get_or (map (place_of_kind k) states) i None

-- where a vertex comes to those of a kind, the others stay
pub put_beside : (k : Kind) (states : List State) (number place : ℕ) → place_of_kind (other_kind k) (get_or states number Neither) ≡ None
    → map (place_of_kind (other_kind k)) (set states number (state_of_kind k place)) ≡ map (place_of_kind (other_kind k)) states
put_beside k states number place none = places_beside (other_kind k) states number (state_of_kind k place) none (place_beside k place)

-- the list of those of a kind, with the states of all vertices
module _ (k : Kind) (states : List State) (items : List ℕ) (room : ℕ) (s : IsSubset items (map (place_of_kind k) states) room) (number : ℕ) (lt : number < length states) where
  within : (n : ℕ) → n < length states → n < length (map (place_of_kind k) states)
  within n m = subst (λ i. n < i) (sym (length-map states (place_of_kind k))) m

  -- whether a number is in the list is seen by the state of its vertex

  pub seen : (place : ℕ) → place_of_kind k (get_or states number Neither) ≡ Some place → Has items number
  seen place e = placed_has items (map (place_of_kind k) states) room s number (within number lt) place (place_read k states number ∙ e)

  pub unseen : place_of_kind k (get_or states number Neither) ≡ None → ¬ (Has items number)
  unseen e = unplaced_absent items (map (place_of_kind k) states) room s number (within number lt) (place_read k states number ∙ e)

  pub is_seen : IsTrue (is_some (place_of_kind k (get_or states number Neither))) ↔ Has items number
  is_seen = by (place_of_kind k (get_or states number Neither)) refl
    where
      by : (o : Option ℕ) → place_of_kind k (get_or states number Neither) ≡ o → IsTrue (is_some o) ↔ Has items number
      by (Some p) e = (λ t. seen p e, λ h. refl)
      by None e = (λ t. absurd (true≢false (sym t)), λ h. absurd (unseen e h))

  -- a number is put in that is not there

  module _ (absent : ¬ (Has items number)) where
    none : get_or (map (place_of_kind k) states) number None ≡ None
    none = absent_unplaced items (map (place_of_kind k) states) room s number (within number lt) absent

    pub no_place : place_of_kind k (get_or states number Neither) ≡ None
    no_place = sym (place_read k states number) ∙ none

    pub has_room : length items < room
    has_room = room_for items (map (place_of_kind k) states) room s number (within number lt) none

    pub fits_place : length items + 1 < 2 ^ 32
    fits_place = place_fits items (map (place_of_kind k) states) room s number (within number lt) none

    pub puts : PutsIn number items (items ++ number ∷ [])
    puts = added items (map (place_of_kind k) states) room s number (within number lt)

    pub put_in : number < 2 ^ 32 → (more : ℕ) → room ≤ more → IsSubset (items ++ number ∷ []) (map (place_of_kind k) (set states number (state_of_kind k (length items)))) more
    put_in small more le =
        subst (λ x. IsSubset (items ++ number ∷ []) x more) (sym (map-set (place_of_kind k) states number (state_of_kind k (length items)) ∙ ap (set (map (place_of_kind k) states) number) (place_put k (length items))))
        (subset_room _ _ room more le (subset_added items (map (place_of_kind k) states) room s number (within number lt) small none))

  module _ (place : ℕ) (is : place_of_kind k (get_or states number Neither) ≡ Some place) where
    at_place : get_or (map (place_of_kind k) states) number None ≡ Some place
    at_place = place_read k states number ∙ is

    -- a list that has it isn't empty
    pub some_in : (size : ℕ) → size ≡ 0 → ¬ (size ≡ length items)
    some_in size none same = none_in_empty items number (seen place is) (omega (arith, none, same))

    -- a number is taken out that was the last one
    module _ (front : List ℕ) (e : items ≡ front ++ number ∷ []) where
      pub removes_last : Removes number items front
      removes_last = removed_last items (map (place_of_kind k) states) room s number (within number lt) front e

      pub taken_last : IsSubset front (map (place_of_kind k) (set states number Neither)) room
      taken_last = subst (λ x. IsSubset front x room) (sym (map-set (place_of_kind k) states number Neither ∙ ap (set (map (place_of_kind k) states) number) (none_in k)))
          (subset_removed_last items (map (place_of_kind k) states) room s number (within number lt) front e)

      pub last_beside : map (place_of_kind (other_kind k)) (set states number Neither) ≡ map (place_of_kind (other_kind k)) states
      last_beside = places_beside (other_kind k) states number Neither (one_place k _ place is) (none_in (other_kind k))

    -- a number is taken out, and the last one put in its place
    module _ (front : List ℕ) (last : ℕ) (e : items ≡ front ++ last ∷ []) (ne : last ≢ number) where
      pub place_within : place < length front
      place_within = slice_get_within front place number (at_front items (map (place_of_kind k) states) room s number (within number lt) front last place e ne at_place)

      pub last_below : last < length states
      last_below = subst (λ n. last < n) (length-map states (place_of_kind k)) (last_within items (map (place_of_kind k) states) room s number (within number lt) front last place e ne at_place)

      pub removes : Removes number items (set front place last)
      removes = removed items (map (place_of_kind k) states) room s number (within number lt) front last place e ne at_place

      -- the states afterwards
      abbrev states_now : List State
      states_now = set (set states last (state_of_kind k place)) number Neither

      pub taken : IsSubset (set front place last) (map (place_of_kind k) states_now) room
      taken = subst (λ x. IsSubset (set front place last) x room) (sym mapped) (subset_removed items (map (place_of_kind k) states) room s number (within number lt) front last place e ne at_place)
        where
          mapped : map (place_of_kind k) states_now ≡ set (set (map (place_of_kind k) states) last (Some place)) number None
          mapped = map-set (place_of_kind k) (set states last (state_of_kind k place)) number Neither ∙ ap (set (map (place_of_kind k) (set states last (state_of_kind k place))) number) (none_in k)
              ∙ ap (λ x. set x number None) (map-set (place_of_kind k) states last (state_of_kind k place) ∙ ap (set (map (place_of_kind k) states) last) (place_put k place))

      pub taken_beside : map (place_of_kind (other_kind k)) states_now ≡ map (place_of_kind (other_kind k)) states
      taken_beside = places_beside (other_kind k) (set states last (state_of_kind k place)) number Neither number_none (none_in (other_kind k))
          ∙ places_beside (other_kind k) states last (state_of_kind k place) last_none (place_beside k place)
        where
          number_none : place_of_kind (other_kind k) (get_or (set states last (state_of_kind k place)) number Neither) ≡ None
          number_none = ap (place_of_kind (other_kind k)) (get_or-set_other states last number (state_of_kind k place) Neither (λ q. ne (sym q))) ∙ one_place k _ place is

          last_none : place_of_kind (other_kind k) (get_or states last Neither) ≡ None
          last_none =
              let there = subst (λ x. Has x last) (sym e) (has_last front last) in
              let p : (q : ℕ) × (get_or (map (place_of_kind k) states) last None ≡ Some q) = has_placed items (map (place_of_kind k) states) room s last (within last last_below) there in
              one_place k _ p.0 (sym (place_read k states last) ∙ p.1)

-- those of a kind stay right where none of them changes
pub members_same : (k : Kind) (old new : RecordsView) (items : List ℕ) (room more : ℕ) → AreMembers k old items room → places_of_kind k new ≡ places_of_kind k old
    → length new.vertices ≡ length old.vertices → new.first ≡ old.first
    → room ≤ more → AreMembers k new items more
members_same k old new items room more m places size first le = record {
  subset = subst (λ x. IsSubset items x more) (sym places) (subset_room _ _ _ _ le m.subset);
  kept = subst (λ f. AllIn (λ n. f ≤ n) items) (sym first) m.kept;
  sizes = sym (length-map new.states (place_of_kind k)) ∙ ap length places ∙ length-map old.states (place_of_kind k) ∙ m.sizes ∙ sym size;
}

pub members_beside : (k : Kind) (old new : RecordsView) (items : List ℕ) (room : ℕ) → AreMembers k old items room → places_of_kind k new ≡ places_of_kind k old
    → new ≡ record old { states = new.states } → AreMembers k new items room
members_beside k old new items room m places same = members_same k old new items room room m places (ap (λ x. length x.vertices) same) (ap (λ x. x.first) same) (omega arith)

-- where one of them went, and its place with it
pub members_removed : (k : Kind) (old new : RecordsView) (items rest : List ℕ) (room number : ℕ) → AreMembers k old items room → Removes number items rest → IsSubset rest (places_of_kind k new) room
    → length new.states ≡ length new.vertices → new.first ≡ old.first → AreMembers k new rest room
members_removed k old new items rest room number m gone subset sizes first = record {
  subset = subset;
  kept = subst (λ f. AllIn (λ n. f ≤ n) rest) (sym first) (all_put _ rest (λ n h. all_get _ items m.kept n ((gone n).0 h).0));
  sizes = sizes;
}

pub kept_same : (old new : RecordsView) (ready stuck : List ℕ) (r s more_r more_s : ℕ) → AreVerticesKept old ready stuck r s → new.states ≡ old.states → length new.vertices ≡ length old.vertices → new.first ≡ old.first
    → r ≤ more_r → s ≤ more_s → AreVerticesKept new ready stuck more_r more_s
kept_same old new ready stuck r s more_r more_s k states size first le_r le_s = record {
  are_ready = members_same kind.Ready old new ready r more_r k.are_ready (ap (map (place_of_kind kind.Ready)) states) size first le_r;
  are_stuck = members_same kind.Stuck old new stuck s more_s k.are_stuck (ap (map (place_of_kind kind.Stuck)) states) size first le_s;
}

-- where the first that is kept is forgotten
members_forgotten : (k : Kind) (old new : RecordsView) (items : List ℕ) (room : ℕ) → AreMembers k old items room → ¬ (Has items old.first)
    → new ≡ record old { first = old.first + 1; room = new.room } → AreMembers k new items room
members_forgotten k old new items room m out e = record {
  subset = subst (λ x. IsSubset items (places_of_kind k x) room) (sym e) m.subset;
  kept = subst (λ x. AllIn (λ n. x.first ≤ n) items) (sym e) (all_put _ items (λ n h. next n (all_get _ items m.kept n h) (λ q. out (subst (Has items) q h))));
  sizes = ap (λ x. length x.states) e ∙ m.sizes ∙ sym (ap (λ x. length x.vertices) e);
}
  where
    next : (n : ℕ) → old.first ≤ n → n ≢ old.first → old.first + 1 ≤ n
    next n le ne = grind (arith, le, ne)

pub kept_forgotten : (old new : RecordsView) (ready stuck : List ℕ) (r s : ℕ) → AreVerticesKept old ready stuck r s → ¬ (Has ready old.first) → ¬ (Has stuck old.first)
    → new ≡ record old { first = old.first + 1; room = new.room } → AreVerticesKept new ready stuck r s
kept_forgotten old new ready stuck r s k not_ready not_stuck e = record {
  are_ready = members_forgotten kind.Ready old new ready r k.are_ready not_ready e;
  are_stuck = members_forgotten kind.Stuck old new stuck s k.are_stuck not_stuck e;
}

-- where one is added that is neither ready nor stuck
members_pushed : (k : Kind) (old new : RecordsView) (items : List ℕ) (room : ℕ) (vertex : Vertex) → AreMembers k old items room → new.states ≡ old.states ++ Neither ∷ []
    → new.vertices ≡ old.vertices ++ vertex ∷ [] → new.first ≡ old.first → length old.vertices + 1 < 2 ^ 32 → length old.vertices + 1 ≤ room → AreMembers k new items room
members_pushed k old new items room vertex m states vertices first few fits = record {
  subset = subst (λ p. IsSubset items p room) (sym (ap (map (place_of_kind k)) states ∙ map-append (place_of_kind k) old.states (Neither ∷ []) ∙ ap (λ n. places_of_kind k old ++ n ∷ []) (none_in k)))
      (subset_reached items (places_of_kind k old) room room m.subset (subst (λ n. n + 1 < 2 ^ 32) (sym size) few) (subst (λ n. n + 1 ≤ room) (sym size) fits));
  kept = subst (λ f. AllIn (λ n. f ≤ n) items) (sym first) m.kept;
  sizes = ap length states ∙ length-append old.states (Neither ∷ []) ∙ ap (λ n. n + 1) m.sizes ∙ sym (length-append old.vertices (vertex ∷ [])) ∙ sym (ap length vertices);
}
  where
    size : length (places_of_kind k old) ≡ length old.vertices
    size = length-map old.states (place_of_kind k) ∙ m.sizes

pub kept_pushed : (old new : RecordsView) (ready stuck : List ℕ) (r s : ℕ) (vertex : Vertex) → AreVerticesKept old ready stuck r s → new.states ≡ old.states ++ Neither ∷ []
    → new.vertices ≡ old.vertices ++ vertex ∷ [] → new.first ≡ old.first
    → length old.vertices + 1 < 2 ^ 32 → length old.vertices + 1 ≤ r → length old.vertices + 1 ≤ s → AreVerticesKept new ready stuck r s
kept_pushed old new ready stuck r s vertex k states vertices first few fits_r fits_s = record {
  are_ready = members_pushed kind.Ready old new ready r vertex k.are_ready states vertices first few fits_r;
  are_stuck = members_pushed kind.Stuck old new stuck s vertex k.are_stuck states vertices first few fits_s;
}

pub below_kept : (kept : List Kept) (n : ℕ) → n < length (vertices_of kept) → n < length kept
below_kept kept n lt = subst (λ m. n < m) (length-map kept (λ k. k.vertex)) lt

-- the record of a number that is read, and one that is put in its place
module _ (kept : List Kept) (n : ℕ) (lt : n < length (vertices_of kept)) (k : Kept) (is : k ≡ get_or kept n k) where
  pub vertex_read : k.vertex ≡ vertex_at (vertices_of kept) n
  vertex_read = ap (λ x. x.vertex) is ∙ sym (get_or-map (λ x. x.vertex) kept n k _ (below_kept kept n lt))

  pub degree_read : k.degree ≡ get_or (degrees_of kept) n 0
  degree_read = ap (λ x. x.degree) is ∙ sym (get_or-map (λ x. x.degree) kept n k 0 (below_kept kept n lt))

  pub vertices_beside : (y : Kept) → y.vertex ≡ k.vertex → vertices_of (set kept n y) ≡ vertices_of kept
  vertices_beside y e = map-set_same (λ x. x.vertex) kept n y k (e ∙ ap (λ x. x.vertex) is)

  pub degrees_beside : (y : Kept) → y.degree ≡ k.degree → degrees_of (set kept n y) ≡ degrees_of kept
  degrees_beside y e = map-set_same (λ x. x.degree) kept n y k (e ∙ ap (λ x. x.degree) is)

  pub states_beside : (y : Kept) → y.state ≡ k.state → states_of (set kept n y) ≡ states_of kept
  states_beside y e = map-set_same (λ x. x.state) kept n y k (e ∙ ap (λ x. x.state) is)
