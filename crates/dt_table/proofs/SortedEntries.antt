-- Entries with distinct keys that are sorted by key are the entries of the finite map.
use Rattle.std.proofs.Common.{◌≡◌, ◌+◌, ◌<◌, T, Bool, true, false, cond, ◌&&◌, List, [], ◌∷◌, map, length, get_or, refl, sym, ap, ◌∙◌, subst, arith, true≢false, Some, IsPermutation}
use Rattle.std.specs.declared.cmp.Ordering.{Ordering}
use Rattle.std.specs.declared.cmp.Ordering.TheVariants.{Less, Equal, Greater}
use Rattle.std.specs.Ordering.{nat_cmp, is_lt, is_eq, ordering_reverse}
use Rattle.std.specs.Cmp.Lexicographic.{slice_cmp, nat_list_cmp_total, nat_list_eq_equiv, texts_ties}
use Rattle.std.specs.List.{IsDistinct, AllByRecursion}
use Rattle.std.specs.List.Sorted.{IsSortedBy, IsStrictlySortedBy}
use Rattle.std.specs.Map.{lookup, keys_of}
use Rattle.std.specs.FinMap.{entries, from_entries, from_sorted, is_sorted, entries-from_sorted, get, get-from_sorted, get-from_entries, same_map}
use Rattle.std.specs.FinMap.{IsAntisymmetric, slice_cmp-IsAntisymmetric, nat_cmp-IsAntisymmetric}
use Rattle.std.specs.FinMap.Entries.{find, below_all}
use Rattle.std.proofs.lemmas.List.{get_or-map, length-map}
use Rattle.std.proofs.lemmas.List.Sorted.{IsPermutation-map}
use Rattle.std.proofs.lemmas.Map.Keys.{IsDistinct-IsPermutation, apart_from_distinct, sorted_from_all_adjacent}
use Rattle.indexmap.proofs.MapLemmas.{lookup_permutation}
use Rattle.dt_access.specs.Clash.{Bytes, same_key}

abbrev pub order : Bytes → Bytes → Ordering
order = slice_cmp nat_cmp

-- keys that neither order before the other are the same
pub exact : IsAntisymmetric order
exact = slice_cmp-IsAntisymmetric nat_cmp-IsAntisymmetric

-- `find` finds what a look-up by `==` finds
find-lookup : {V : Type 0} (es : List (Bytes × V)) (q : Bytes) → find order q es ≡ lookup (same_key q) es
find-lookup [] q = refl
find-lookup (e ∷ es) q = ap (λ b. cond b (Some e.1) (find order q es)) (sym (texts_ties q e.0)) ∙ ap (cond (same_key q e.0) (Some e.1)) (find-lookup es q)

-- so the map of the entries gives what a look-up finds
pub get-lookup : {V : Type 0} (es : List (Bytes × V)) (q : Bytes) → get (from_entries {R = order} es) q ≡ lookup (same_key q) es
get-lookup es q = get-from_entries nat_list_cmp_total es q ∙ find-lookup es q

both : (a b : Bool) → T a → T b → T (a && b)
both true b p q = q
both false b p q = p

below : {V : Type 0} (key : Bytes) (es : List (Bytes × V)) → AllByRecursion (λ y. order key y ≡ Less) (keys_of es) → T (below_all order key es)
below key [] h = tt
below key (e ∷ es) h = both (is_lt (order key e.0)) (below_all order key es) (subst (λ r. T (is_lt r)) (sym h.0) tt) (below key es h.1)

is_sorted-from_strict : {V : Type 0} (es : List (Bytes × V)) → IsStrictlySortedBy order (keys_of es) → T (is_sorted order es)
unfolding IsStrictlySortedBy
is_sorted-from_strict [] h = tt
is_sorted-from_strict (e ∷ es) h = both (below_all order e.0 es) (is_sorted order es) (below e.0 es h.0) (is_sorted-from_strict es h.1)

-- of two keys that differ, the one that is not above the other is below it
less : (a b : Bytes) → is_lt (order b a) ≡ false → same_key a b ≡ false → order a b ≡ Less
less a b not_above apart =
    elim (order a b) as (λ r. order a b ≡ r → r ≡ Less) [
      | Less ↦ λ e. refl
      | Equal ↦ λ e. absurd (true≢false (sym (texts_ties a b ∙ ap is_eq e) ∙ apart))
      | Greater ↦ λ e. absurd (true≢false (sym (ap is_lt (nat_list_cmp_total.antisymm b a ∙ ap ordering_reverse e)) ∙ not_above))
    ] refl

strict : {V : Type 0} (ps : List (Bytes × V)) → IsSortedBy (λ x y. is_lt (order x.0 y.0)) ps → IsDistinct same_key (keys_of ps) → IsStrictlySortedBy order (keys_of ps)
strict [] sorted distinct = sorted_from_all_adjacent nat_list_cmp_total [] [] (λ k h. absurd (omega arith))
strict {V} (p ∷ ps) sorted distinct =
    let all = p ∷ ps in
    let long = length-map all (λ (e : Bytes × V). e.0) in
    sorted_from_all_adjacent nat_list_cmp_total (keys_of all) p.0 (λ k h.
    let next : k + 1 < length all = omega (arith, long, h) in
    let later = get_or-map (λ (e : Bytes × V). e.0) all (k + 1) p p.0 next in
    let earlier = get_or-map (λ (e : Bytes × V). e.0) all k p p.0 (omega arith) in
    less (get_or (keys_of all) k p.0) (get_or (keys_of all) (k + 1) p.0) ((λ i. is_lt (order (later i) (earlier i))) ∙ sorted k p (omega arith) next)
    (apart_from_distinct same_key (keys_of all) k (k + 1) p.0 distinct (omega arith) h))

-- so they are the entries of the map
pub in_order-sorted : {V : Type 0} (es ps : List (Bytes × V)) → IsPermutation es ps → IsDistinct same_key (keys_of es) → IsSortedBy (λ x y. is_lt (order x.0 y.0)) ps
    → ps ≡ entries (from_entries {R = order} es)
in_order-sorted {V} es ps moves distinct sorted =
    let now = IsDistinct-IsPermutation same_key nat_list_eq_equiv.symm (keys_of es) (keys_of ps) (IsPermutation-map (λ (e : Bytes × V). e.0) es ps moves) distinct in
    let rising = is_sorted-from_strict ps (strict ps sorted now) in
    sym (entries-from_sorted order ps rising)
    ∙ ap entries (same_map nat_list_cmp_total exact (from_sorted ps) (from_entries es) (λ q.
    get-from_sorted order ps q rising ∙ find-lookup ps q
    ∙ lookup_permutation nat_list_eq_equiv es ps moves now (same_key q) (λ x y. nat_list_eq_equiv.congr q x y)
    ∙ sym (get-lookup es q)))

-- a list of references, sorted by what they refer to
pub IsSortedBy-map : {A B : Type 0} (f : A → B) (lt : B → B → Bool) (xs : List A) → IsSortedBy (λ x y. lt (f x) (f y)) xs → IsSortedBy lt (map f xs)
IsSortedBy-map f lt [] sorted k d low high = absurd (omega arith)
IsSortedBy-map f lt (x ∷ xs) sorted k d low high =
    let all = x ∷ xs in
    let next : k + 1 < length all = omega (arith, length-map all f, high) in
    let within : k < length all = omega arith in
    (λ i. lt (get_or-map f all (k + 1) x d next i) (get_or-map f all k x d within i)) ∙ sorted k x low next
