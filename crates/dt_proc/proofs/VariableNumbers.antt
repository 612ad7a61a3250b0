-- Variables that are found by a map, one added and the last one removed.
use Rattle.std.proofs.Common.{◌≡◌, ℕ, suc, ◌<◌, ◌==◌, Bool, true, false, cond, List, [], ◌∷◌, ◌++◌, length, nat_eq, Option, Some, None, refl, sym, ap, ◌∙◌, subst, arith}
use Rattle.std.specs.Option.{option_map, is_some}
use Rattle.std.specs.declared.cmp.Ordering.{Ordering}
use Rattle.std.specs.Ordering.{nat_cmp}
use Rattle.std.specs.Cmp.Lexicographic.{pointwise, slice_cmp, texts_ties, bytes_decides}
use Rattle.std.specs.BTreeMap.{BTreeMap, get, is_at, Updates, UpdatesBy}
use Rattle.std.proofs.lemmas.Bool.Decides.{nat_tests}
use Rattle.dt_lists.proofs.Callers.{not_some}
use Rattle.dt_proc.specs.declared.tree.Sort.{Sort}
use Rattle.dt_proc.specs.Names.{entry_of}
use Rattle.dt_proc.specs.NumbersInner.{AreNumbers, is_number}

abbrev Variables : Type 0
Variables = List (List ℕ × Sort)

abbrev Entry : Type 0
Entry = Option (ℕ × Sort)

-- the entry of a name after one variable more
with_last : ℕ → List ℕ → Sort → List ℕ → Entry → Entry
with_last len n s name (Some r) = Some r
with_last len n s name None = cond (pointwise nat_eq n name) (Some (len, s)) None

abbrev next : Entry → Entry
next o = option_map {T = ℕ × Sort} {U = ℕ × Sort} (λ r. (suc r.0, r.1)) o

next_last : (len : ℕ) (n : List ℕ) (s : Sort) (name : List ℕ) (o : Entry) → next (with_last len n s name o) ≡ with_last (suc len) n s name (next o)
unfolding with_last
next_last len n s name (Some r) = refl
next_last len n s name None = inside (pointwise nat_eq n name)
  where
    inside : (b : Bool) → next (cond b (Some (len, s)) None) ≡ cond b (Some (suc len, s)) None
    inside true = refl
    inside false = refl

cond_last : (b : Bool) (x : Sort) (len : ℕ) (n : List ℕ) (s : Sort) (name : List ℕ) (o : Entry) →
    cond b (Some (0, x)) (with_last len n s name o) ≡ with_last len n s name (cond b (Some (0, x)) o)
unfolding with_last
cond_last true x len n s name o = refl
cond_last false x len n s name o = refl

entry_more : (vs : Variables) (n : List ℕ) (s : Sort) (name : List ℕ) → entry_of (vs ++ (n, s) ∷ []) name ≡ with_last (length vs) n s name (entry_of vs name)
unfolding with_last
entry_more [] n s name = refl
entry_more (v ∷ vs) n s name =
    ap (λ o. cond (pointwise nat_eq v.0 name) (Some (0, v.1)) (next o)) (entry_more vs n s name)
    ∙ ap (λ o. cond (pointwise nat_eq v.0 name) (Some (0, v.1)) o) (next_last (length vs) n s name (entry_of vs name))
    ∙ cond_last (pointwise nat_eq v.0 name) v.1 (suc (length vs)) n s name (next (entry_of vs name))

Below : ℕ → Entry → Type 0
Below most None = Unit {0}
Below most (Some r) = r.0 < most

next_below : (most : ℕ) (b : Bool) (x : Sort) (o : Entry) → Below most o → Below (suc most) (cond b (Some (0, x)) (next o))
unfolding Below
next_below most true x o h = omega arith
next_below most false x None h = tt
next_below most false x (Some r) h = omega arith

entry_below : (vs : Variables) (name : List ℕ) → Below (length vs) (entry_of vs name)
unfolding Below
entry_below [] name = tt
entry_below (v ∷ vs) name = next_below (length vs) (pointwise nat_eq v.0 name) v.1 (entry_of vs name) (entry_below vs name)

-- a key of the map is the name
at_is : (n q : List ℕ) → is_at (slice_cmp nat_cmp n) q ≡ pointwise nat_eq n q
at_is n q = sym (texts_ties n q)

abbrev Order : List ℕ → List ℕ → Ordering
Order = slice_cmp nat_cmp

last_other : (len : ℕ) (n : List ℕ) (s : Sort) (q : List ℕ) (o : Entry) → pointwise nat_eq n q ≡ false → with_last len n s q o ≡ o
unfolding with_last
last_other len n s q None e = ap (λ b. cond b (Some (len, s)) None) e
last_other len n s q (Some r) e = refl

last_own : (len : ℕ) (n : List ℕ) (s : Sort) (q : List ℕ) → pointwise nat_eq n q ≡ true → with_last len n s q None ≡ Some (len, s)
unfolding with_last
last_own len n s q e = ap (λ b. cond b (Some (len, s)) None) e

last_known : (len : ℕ) (n : List ℕ) (s : Sort) (q : List ℕ) (r : ℕ × Sort) → with_last len n s q (Some r) ≡ Some r
unfolding with_last
last_known len n s q r = refl

-- a variable with a new name
pub added_new : (m k : BTreeMap (List ℕ) (ℕ × Sort)) (vs : Variables) (n : List ℕ) (s : Sort) → AreNumbers m vs → get Order m n ≡ None →
    Updates Order m k n (Some (length vs, s)) → AreNumbers k (vs ++ (n, s) ∷ [])
added_new m k vs n s h new up q = chosen (pointwise nat_eq n q) refl
  where
    chosen : (b : Bool) → pointwise nat_eq n q ≡ b → get Order k q ≡ entry_of (vs ++ (n, s) ∷ []) q
    chosen true e =
        let here = up.0 q ∙ ap (λ b. cond b (Some (length vs, s)) (get Order m q)) (at_is n q ∙ e) in
        let none : entry_of vs q ≡ None = ap (entry_of vs) (sym ((bytes_decides n q).0 e)) ∙ sym (h n) ∙ new in
        here ∙ sym (entry_more vs n s q ∙ ap (with_last (length vs) n s q) none ∙ last_own (length vs) n s q e)
    chosen false e =
        let here = up.0 q ∙ ap (λ b. cond b (Some (length vs, s)) (get Order m q)) (at_is n q ∙ e) in
        here ∙ h q ∙ sym (entry_more vs n s q ∙ last_other (length vs) n s q (entry_of vs q) e)

known_same : (m : BTreeMap (List ℕ) (ℕ × Sort)) (vs : Variables) (n : List ℕ) (s : Sort) (r : ℕ × Sort) → entry_of vs n ≡ Some r → (q : List ℕ) →
    entry_of (vs ++ (n, s) ∷ []) q ≡ entry_of vs q
known_same m vs n s r known q = chosen (pointwise nat_eq n q) refl
  where
    chosen : (b : Bool) → pointwise nat_eq n q ≡ b → entry_of (vs ++ (n, s) ∷ []) q ≡ entry_of vs q
    chosen true e =
        let some : entry_of vs q ≡ Some r = ap (entry_of vs) (sym ((bytes_decides n q).0 e)) ∙ known in
        entry_more vs n s q ∙ ap (with_last (length vs) n s q) some ∙ last_known (length vs) n s q r ∙ sym some
    chosen false e = entry_more vs n s q ∙ last_other (length vs) n s q (entry_of vs q) e

-- a variable with a name that is there
pub added_known : (m : BTreeMap (List ℕ) (ℕ × Sort)) (vs : Variables) (n : List ℕ) (s : Sort) (r : ℕ × Sort) → AreNumbers m vs → get Order m n ≡ Some r →
    AreNumbers m (vs ++ (n, s) ∷ [])
added_known m vs n s r h known q = h q ∙ sym (known_same m vs n s r (sym (h n) ∙ known) q)

-- what the number of the last variable's name says of the others
last_number : (len : ℕ) (n : List ℕ) (s : Sort) (o : Entry) → Below len o → is_number len (with_last len n s n o) ≡ true → o ≡ None
unfolding with_last Below
last_number len n s None h e = refl
last_number len n s (Some r) h e = let same : r.0 ≡ len = grind (arith, nat_tests) in absurd (omega (arith, h, same))

pub removed : (m k : BTreeMap (List ℕ) (ℕ × Sort)) (vs : Variables) (n : List ℕ) (s : Sort) → AreNumbers m (vs ++ (n, s) ∷ []) →
    is_number (length vs) (get Order m n) ≡ true → UpdatesBy Order (Order n) m k None → AreNumbers k vs
removed m k vs n s h is up q = chosen (pointwise nat_eq n q) refl
  where
    none : entry_of vs n ≡ None
    none = last_number (length vs) n s (entry_of vs n) (entry_below vs n) (ap (is_number (length vs)) (sym (h n ∙ entry_more vs n s n)) ∙ is)

    chosen : (b : Bool) → pointwise nat_eq n q ≡ b → get Order k q ≡ entry_of vs q
    chosen true e = up.0 q ∙ ap (λ b. cond b None (get Order m q)) (at_is n q ∙ e) ∙ sym (ap (entry_of vs) (sym ((bytes_decides n q).0 e)) ∙ none)
    chosen false e =
        up.0 q ∙ ap (λ b. cond b None (get Order m q)) (at_is n q ∙ e) ∙ h q ∙ entry_more vs n s q ∙ last_other (length vs) n s q (entry_of vs q) e

-- an earlier one has the name
earlier : (len : ℕ) (n : List ℕ) (s : Sort) (o : Entry) → pointwise nat_eq n n ≡ true → is_number len (with_last len n s n o) ≡ false → (r : ℕ × Sort) × (o ≡ Some r)
unfolding with_last
earlier len n s (Some r) own e = (r, refl)
earlier len n s None own e =
    let here : is_number len (Some (len, s)) ≡ false = ap (is_number len) (sym (last_own len n s n own)) ∙ e in
    let differs : (len == len) ≡ false = here in
    absurd (grind (arith, nat_tests))

pub kept : (m : BTreeMap (List ℕ) (ℕ × Sort)) (vs : Variables) (n : List ℕ) (s : Sort) → AreNumbers m (vs ++ (n, s) ∷ []) →
    is_number (length vs) (get Order m n) ≡ false → AreNumbers m vs
kept m vs n s h other q =
    let known = earlier (length vs) n s (entry_of vs n) ((bytes_decides n n).1 refl) (ap (is_number (length vs)) (sym (h n ∙ entry_more vs n s n)) ∙ other) in
    h q ∙ known_same m vs n s known.0 known.1 q

pub some_entry : (o : Entry) → true ≡ is_some o → (r : ℕ × Sort) × (o ≡ Some r)
some_entry (Some r) e = (r, refl)
some_entry None e = absurd cc

pub added_as : (m k : BTreeMap (List ℕ) (ℕ × Sort)) (vs : Variables) (n key : List ℕ) (number : ℕ) (s : Sort) → AreNumbers m vs → false ≡ is_some (get Order m n) → length vs ≡ number → key ≡ n →
    Updates Order m k key (Some (number, s)) → AreNumbers k (vs ++ (n, s) ∷ [])
added_as m k vs n key number s h new len same up =
    let named : Updates Order m k n (Some (number, s)) = subst (λ v. Updates Order m k v (Some (number, s))) same up in
    let counted : Updates Order m k n (Some (length vs, s)) = subst (λ l. Updates Order m k n (Some (l, s))) (sym len) named in
    added_new m k vs n s h (not_some (get Order m n) new) counted
