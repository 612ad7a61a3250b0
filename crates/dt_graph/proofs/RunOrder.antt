-- The vertices of a class in the order in which they run: they are gathered with their ranks and ids, and sorted by these.
use Rattle.std.proofs.Common.{◌≡◌, ◌+◌, ◌<◌, ◌≤◌, ◌⊎◌, ◌↔◌, ◌∙◌, ℕ, Bool, true, ◌&&◌, ◌==◌, List, [], ◌∷◌, ◌++◌, length, map, get_or, slice_get, take, Option}
use Rattle.std.proofs.Common.{None, Some, IsPermutation, IsSorted, refl, sym, ap, ap₂, subst, inl, inr, eqb-true, eq-eqb, arith}
use Rattle.std.proofs.lemmas.Bool.{and_from, and_parts}
use Rattle.std.proofs.lemmas.Bool.Decides.{nat_tests}
use Rattle.std.proofs.lemmas.List.{append-nil, map-append, take_all, take_more}
use Rattle.std.proofs.lemmas.List.Sorted.{IsPermutation-map}
use Rattle.std.specs.Ordering.{nat_cmp, ordering_then, is_lt}
use Rattle.std.specs.declared.cmp.Ordering.{Ordering}
use Rattle.std.proofs.lemmas.Option.{slice_get_within}
use Rattle.dt_lists.specs.Lists.{AllIn, Has, Distinct, EachThen}
use Rattle.dt_lists.proofs.Callers.{all_append, all_get, all_put, each_map, each_of_image, each_of_sorted, has_at, permuted_distinct, permuted_has}
use Rattle.dt_access.specs.Ids.{Before, same_id}
use Rattle.dt_access.specs.declared.TxnId.{TxnId}
use Rattle.dt_access.proofs.Callers.{by_parts, compare_less, compare_same, id_of_test, same_by_parts, same_id_turned, test_of_id}
use Rattle.dt_graph.specs.declared.graph.Member.{Member}
use Rattle.dt_waits.specs.Graph.{GraphView, vertex_at}
use Rattle.dt_graph.specs.SubsetInner.{StandsAtPlace}
use Rattle.dt_waits.specs.Steps.{RunInOrder, RunsBefore}
use Rattle.dt_waits.specs.Waits.{id_at}
use Rattle.dt_waits.proofs.Callers.{at_named}

-- the member is a vertex of the graph, with its id and its rank
abbrev pub IsMemberOf : GraphView → Member → Type 0
IsMemberOf g m = (slice_get g.ids m.vertex ≡ Some m.id) × (m.rank ≡ (vertex_at g.vertices m.vertex).rank)

-- the members are those of the ids
pub record AreMembers (g : GraphView) (ids : List TxnId) (members : List Member) : Type 0 where
  pub named : map (λ m. m.id) members ≡ ids
  pub are : AllIn (IsMemberOf g) members

-- one member more is gathered

pub members_more : (g : GraphView) (ids : List TxnId) (i : ℕ) (d : TxnId) (members : List Member) (rank vertex : ℕ) → i < length ids → AreMembers g (take i ids) members
    → slice_get g.ids vertex ≡ Some (get_or ids i d) → rank ≡ (vertex_at g.vertices vertex).rank → AreMembers g (take (i + 1) ids) (members ++ record { rank = rank; id = get_or ids i d; vertex = vertex } ∷ [])
members_more g ids i d members rank vertex lt a at is =
    let member : Member = record { rank = rank; id = get_or ids i d; vertex = vertex } in
    record {
      named = map-append (λ m. m.id) members (member ∷ []) ∙ ap (λ l. l ++ get_or ids i d ∷ []) a.named ∙ sym (take_more ids i d lt);
      are = all_append (IsMemberOf g) members (member ∷ []) a.are ((at, is), tt);
    }

pub all_numbered : (g : GraphView) (ids : List TxnId) (i : ℕ) (d : TxnId) (n : Option ℕ) → AllIn (Has g.ids) ids → i < length ids → n ≡ None → StandsAtPlace g.ids (get_or ids i d) n → ⊥
all_numbered g ids i d n there lt none is = subst (StandsAtPlace g.ids (get_or ids i d)) none is (all_get (Has g.ids) ids there (get_or ids i d) (has_at ids i d lt))

-- what is gathered of all ids
pub gathered : (g : GraphView) (ids : List TxnId) (i : ℕ) (members : List Member) → length ids ≤ i → AreMembers g (take i ids) members → AreMembers g ids members
gathered g ids i members le a = subst (λ l. AreMembers g l members) (take_all i ids le) a

-- where nothing is to come, all has come
pub all_came : (vertices : List ℕ) (left all sorted : List Member) → vertices ++ map (λ m. m.vertex) left ≡ map (λ m. m.vertex) all → all ≡ sorted → length left ≡ 0 → vertices ≡ map (λ m. m.vertex) sorted
all_came vertices [] all sorted e f z = sym (append-nil vertices) ∙ e ∙ ap (map (λ m. m.vertex)) f
all_came vertices (m ∷ left) all sorted e f z = absurd (omega (arith, z))

-- members as a sort compares them: by ranks, by ids, and at last by vertices

abbrev pub by_run : Member → Member → Ordering
by_run a b = ordering_then (nat_cmp a.rank b.rank) (ordering_then (by_parts a.id b.id) (nat_cmp a.vertex b.vertex))

IsEarlier : Member → Member → Type 0
IsEarlier a b = (a.rank < b.rank) ⊎ (a.rank ≡ b.rank) × ((a.id.seq < b.id.seq) ⊎ (a.id.seq ≡ b.id.seq) × ((a.id.region < b.id.region) ⊎ (a.id.region ≡ b.id.region) × (a.vertex < b.vertex)))

earlier_less : (a b : Member) → IsEarlier a b → is_lt (by_run a b) ≡ true
unfolding IsEarlier
earlier_less a b (inl h) = rw (compare_less a.rank b.rank h) refl
earlier_less a b (inr r) = by_id r.1
  where
    by_vertex : a.id.seq ≡ b.id.seq → (a.id.region < b.id.region) ⊎ (a.id.region ≡ b.id.region) × (a.vertex < b.vertex) → is_lt (by_run a b) ≡ true
    by_vertex e (inl h) = rw (r.0, compare_same b.rank, e, compare_same b.id.seq, compare_less a.id.region b.id.region h) refl
    by_vertex e (inr h) = rw (r.0, compare_same b.rank, e, compare_same b.id.seq, h.0, compare_same b.id.region, compare_less a.vertex b.vertex h.1) refl

    by_id : (a.id.seq < b.id.seq) ⊎ (a.id.seq ≡ b.id.seq) × ((a.id.region < b.id.region) ⊎ (a.id.region ≡ b.id.region) × (a.vertex < b.vertex)) → is_lt (by_run a b) ≡ true
    by_id (inl h) = rw (r.0, compare_same b.rank, compare_less a.id.seq b.id.seq h) refl
    by_id (inr s) = by_vertex s.0 s.1

member_by_parts : (a b : Member) → a.rank ≡ b.rank → a.id ≡ b.id → a.vertex ≡ b.vertex → a ≡ b
member_by_parts a b p q r = λ i. record { rank = p i; id = q i; vertex = r i }

earlier_total : (a b : Member) → ¬ (a ≡ b) → IsEarlier a b ⊎ IsEarlier b a
unfolding IsEarlier
earlier_total a b ne = by (λ p q r s. ne (member_by_parts a b p (same_by_parts a.id b.id q r) s))
  where
    by : (a.rank ≡ b.rank → a.id.seq ≡ b.id.seq → a.id.region ≡ b.id.region → a.vertex ≡ b.vertex → ⊥) → IsEarlier a b ⊎ IsEarlier b a
    by n = grind (arith, n)

earlier_onward : (a b c : Member) → IsEarlier a b → IsEarlier b c → IsEarlier a c
unfolding IsEarlier
earlier_onward a b c h k = grind (arith, h, k)

-- the test of two members

same_member : Member → Member → Bool
same_member a b = (a.rank == b.rank) && (same_id a.id b.id && (a.vertex == b.vertex))

tells : (a b : Member) → same_member a b ≡ true → a ≡ b
unfolding same_member
tells a b e =
    let r : (_ ≡ true) × (_ ≡ true) = and_parts (a.rank == b.rank) (same_id a.id b.id && (a.vertex == b.vertex)) e in
    let s : (_ ≡ true) × (_ ≡ true) = and_parts (same_id a.id b.id) (a.vertex == b.vertex) r.1 in
    member_by_parts a b (eqb-true a.rank b.rank r.0) (id_of_test a.id b.id s.0) (eqb-true a.vertex b.vertex s.1)

told : (a b : Member) → a ≡ b → same_member a b ≡ true
unfolding same_member
told a b e = and_from (a.rank == b.rank) (same_id a.id b.id && (a.vertex == b.vertex)) (eq-eqb a.rank b.rank (ap (λ m. m.rank) e))
    (and_from (same_id a.id b.id) (a.vertex == b.vertex) (test_of_id a.id b.id (ap (λ m. m.id) e)) (eq-eqb a.vertex b.vertex (ap (λ m. m.vertex) e)))

turned : (a b : Member) → same_member a b ≡ same_member b a
unfolding same_member
turned a b = grind (arith, nat_tests)

-- sorted, they run in order
module _ (g : GraphView) (ids : List TxnId) (members sorted : List Member) (once : Distinct ids) (a : AreMembers g ids members) (p : IsPermutation members sorted) (s : IsSorted by_run sorted) where
  are_sorted : AllIn (IsMemberOf g) sorted
  are_sorted = all_put (IsMemberOf g) sorted (λ m h. all_get (IsMemberOf g) members a.are m ((permuted_has members sorted p m).0 h))

  permuted_ids : IsPermutation ids (map (λ m. m.id) sorted)
  permuted_ids = subst (λ l. IsPermutation l (map (λ m. m.id) sorted)) a.named (IsPermutation-map (λ m. m.id) members sorted p)

  ids_of_vertices : (ms : List Member) → AllIn (IsMemberOf g) ms → map (id_at g.ids) (map (λ m. m.vertex) ms) ≡ map (λ m. m.id) ms
  ids_of_vertices [] all = refl
  ids_of_vertices (m ∷ ms) all = ap₂ ◌∷◌ (at_named g.ids m.vertex m.id all.0.0) (ids_of_vertices ms all.1)

  within : (ms : List Member) → AllIn (IsMemberOf g) ms → AllIn (λ v. v < length g.ids) (map (λ m. m.vertex) ms)
  within [] all = tt
  within (m ∷ ms) all = (slice_get_within g.ids m.vertex m.id all.0.0, within ms all.1)

  distinct_members : Distinct sorted
  distinct_members = permuted_distinct same_member tells told turned members sorted p
      (each_map _ _ members (λ x y ne e. ne (ap (λ m. m.id) e)) (each_of_image (λ x y. ¬ (x ≡ y)) (λ m. m.id) members (subst Distinct (sym a.named) once)))

  apart : EachThen (λ x y. ¬ (x.id ≡ y.id)) sorted
  apart = each_of_image (λ x y. ¬ (x ≡ y)) (λ m. m.id) sorted (permuted_distinct same_id id_of_test test_of_id same_id_turned ids (map (λ m. m.id) sorted) permuted_ids once)

  earlier : EachThen IsEarlier sorted
  earlier = each_of_sorted by_run IsEarlier (λ x y ne. elim (earlier_total x y ne) [ inl e ↦ inl e | inr e ↦ inr (earlier_less y x e) ]) earlier_onward sorted s distinct_members

  runs_before : (x y : Member) → IsMemberOf g x → IsMemberOf g y → IsEarlier x y → ¬ (x.id ≡ y.id) → RunsBefore g x.vertex y.vertex
  unfolding IsEarlier
  runs_before x y mx my (inl lt) ne = inl (subst (λ n. n < (vertex_at g.vertices y.vertex).rank) mx.1 (subst (λ n. x.rank < n) my.1 lt))
  runs_before x y mx my (inr r) ne = inr (sym mx.1 ∙ r.0 ∙ my.1, subst (λ t. Before t (id_at g.ids y.vertex)) (sym (at_named g.ids x.vertex x.id mx.0)) (subst (Before x.id) (sym (at_named g.ids y.vertex y.id my.0)) (by r.1)))
    where
      by : (x.id.seq < y.id.seq) ⊎ (x.id.seq ≡ y.id.seq) × ((x.id.region < y.id.region) ⊎ (x.id.region ≡ y.id.region) × (x.vertex < y.vertex)) → Before x.id y.id
      by (inl h) = inl h
      by (inr f) = elim f.1 [ inl h ↦ inr (f.0, h) | inr h ↦ absurd (ne (same_by_parts x.id y.id f.0 h.0)) ]

  later : (x : Member) (ms : List Member) → IsMemberOf g x → AllIn (IsMemberOf g) ms → AllIn (IsEarlier x) ms → AllIn (λ y. ¬ (x.id ≡ y.id)) ms → AllIn (RunsBefore g x.vertex) (map (λ m. m.vertex) ms)
  later x [] mx all e n = tt
  later x (y ∷ ms) mx all e n = (runs_before x y mx all.0 e.0 n.0, later x ms mx all.1 e.1 n.1)

  ordered : (ms : List Member) → AllIn (IsMemberOf g) ms → EachThen IsEarlier ms → EachThen (λ x y. ¬ (x.id ≡ y.id)) ms → EachThen (RunsBefore g) (map (λ m. m.vertex) ms)
  ordered [] all e n = tt
  ordered (m ∷ ms) all e n = (later m ms all.0 all.1 e.0 n.0, ordered ms all.1 e.1 n.1)

  pub run_in_order : RunInOrder g ids (map (λ m. m.vertex) sorted)
  run_in_order = record {
    within = within sorted are_sorted;
    names = λ t. subst (λ l. Has l t ↔ Has ids t) (sym (ids_of_vertices sorted are_sorted)) (permuted_has ids (map (λ m. m.id) sorted) permuted_ids t);
    ordered = ordered sorted are_sorted earlier apart;
  }
