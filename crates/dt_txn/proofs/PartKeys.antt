-- The keys of parts.
use Rattle.std.proofs.Common.{◌≡◌, ◌∙◌, ◌<◌, ◌+◌, ℕ, List, [], ◌∷◌, ◌++◌, length, map, take, drop, get_or, sym, subst, refl, ap}
use Rattle.std.proofs.lemmas.Bool.{eq-eqb}
use Rattle.std.proofs.lemmas.List.{append_assoc, at_drop_more, map-append, take-append-drop, take_more}
use Rattle.dt_lists.proofs.Callers.{each_append_left, each_image, filter_each}
use Rattle.dt_access.specs.Clash.{Bytes}
use Rattle.dt_access.specs.Orders.{HasAscendingKeys, KeyBefore}
use Rattle.dt_access.specs.declared.Access.{Access}
use Rattle.dt_access.specs.declared.Mode.{Mode}
use Rattle.dt_txn.specs.declared.txn.Body.{Body}
use Rattle.dt_txn.specs.declared.txn.Body.TheVariants.{Call, Move}
use Rattle.dt_table.specs.Table.{Table}
use Rattle.dt_txn.specs.Accesses.{AreAscendingAccesses}
use Rattle.dt_txn.specs.Transaction.{annotated, entries_at, used_of}

-- the keys of a part stand in the order of the access list
part_ascends : (body : Body) (home : ℕ) (access : List Access) → AreAscendingAccesses access → HasAscendingKeys (map used_of (entries_at body home access))
part_ascends (Call proc args) home access each =
    each_image (λ a b. KeyBefore a.0 b.0) used_of _ (filter_each (λ a b. KeyBefore a.key b.key) _ access each)
part_ascends (Move key target) home access each = each_image (λ a b. KeyBefore a.0 b.0) used_of access each

-- keys that stand at the front of those of a part stand in order
keys_ascend : (body : Body) (home : ℕ) (access : List Access) (keys rest : List (Bytes × Mode))
    → keys ++ rest ≡ map used_of (entries_at body home access) → AreAscendingAccesses access → HasAscendingKeys keys
keys_ascend body home access keys rest e each =
    each_append_left (λ a b. KeyBefore a.0 b.0) keys rest
    (subst (λ (xs : List (Bytes × Mode)). HasAscendingKeys xs) (sym e) (part_ascends body home access each))

-- an entry of this home is in the part there, whatever the body
pub own_entry : (body : Body) (home : ℕ) (entry : Access) → entry.home ≡ home
    → (rest : List Access) → entries_at body home (entry ∷ rest) ≡ entry ∷ entries_at body home rest
own_entry (Call proc args) home entry e rest = rw (eq-eqb entry.home home e) refl
own_entry (Move key target) home entry e rest = refl

-- keys at the front of those of a part, with that of the next entry which the part has, stand in order
pub next_ascends : (body : Body) (home : ℕ) (access : List Access) (keys : List (Bytes × Mode)) (entry : Access) (i : ℕ)
    → ((rest : List Access) → entries_at body home (entry ∷ rest) ≡ entry ∷ entries_at body home rest)
    → keys ++ map used_of (entries_at body home (drop i access)) ≡ map used_of (entries_at body home access)
    → i < length access → entry ≡ get_or access i entry → AreAscendingAccesses access → HasAscendingKeys (keys ++ used_of entry ∷ [])
next_ascends body home access keys entry i has e below at each =
    let rest : List (Bytes × Mode) = map used_of (entries_at body home (drop (i + 1) access)) in
    let next : map used_of (entries_at body home (drop i access)) ≡ used_of entry ∷ rest =
    at_drop_more (λ (xs : List Access). map used_of (entries_at body home xs)) access i entry below
    ∙ ap (λ (a : Access). map used_of (entries_at body home (a ∷ drop (i + 1) access))) (sym at)
    ∙ ap (map used_of) (has (drop (i + 1) access)) in
    keys_ascend body home access (keys ++ used_of entry ∷ []) rest
    (append_assoc keys (used_of entry ∷ []) rest ∙ ap (λ (xs : List (Bytes × Mode)). keys ++ xs) (sym next) ∙ e) each

-- an annotated access list has the uses that it was made of
pub annotated_uses : (t : Table) (uses : List (Bytes × Mode)) → map used_of (map (annotated t) uses) ≡ uses
annotated_uses t [] = refl
annotated_uses t (u ∷ uses) = ap (λ (us : List (Bytes × Mode)). u ∷ us) (annotated_uses t uses)

-- annotated uses stand in the order of the uses
annotated_ascend : (t : Table) (uses : List (Bytes × Mode)) → HasAscendingKeys uses → AreAscendingAccesses (map (annotated t) uses)
annotated_ascend t uses each = each_image (λ a b. KeyBefore a.key b.key) (annotated t) uses each

-- and those of a front too
front_ascends : (t : Table) (uses items : List (Bytes × Mode)) (access : List Access) (i : ℕ)
    → HasAscendingKeys uses → items ≡ uses → access ≡ map (annotated t) (take i items) → AreAscendingAccesses access
front_ascends t uses items access i each same so_far =
    let front = each_append_left (λ a b. KeyBefore a.0 b.0) (take i uses) (drop i uses)
    (subst (λ (us : List (Bytes × Mode)). HasAscendingKeys us) (sym (take-append-drop i uses)) each) in
    subst AreAscendingAccesses (sym (so_far ∙ ap (λ (us : List (Bytes × Mode)). map (annotated t) (take i us)) same)) (annotated_ascend t (take i uses) front)

-- so too with the next one, which is annotated by the table
pub next_annotated : (t : Table) (uses items : List (Bytes × Mode)) (access : List Access) (used : Bytes × Mode) (i : ℕ) (next : Access)
    → HasAscendingKeys uses → items ≡ uses → access ≡ map (annotated t) (take i items)
    → i < length items → used ≡ get_or items i used → next ≡ annotated t used → AreAscendingAccesses (access ++ next ∷ [])
next_annotated t uses items access used i next each same so_far below at is =
    front_ascends t uses items (access ++ next ∷ []) (i + 1) each same
    (ap (λ (xs : List Access). xs ++ next ∷ []) so_far
    ∙ ap (λ (x : Access). map (annotated t) (take i items) ++ x ∷ []) (is ∙ ap (annotated t) at)
    ∙ sym (map-append (annotated t) (take i items) (get_or items i used ∷ []))
    ∙ ap (map (annotated t)) (sym (take_more items i used below)))
