-- The rows of the opening, each with what it has now: their keys, what stands at a place, and what a change does.
use Rattle.std.proofs.Common.{◌≡◌, ℕ, zero, suc, ◌+◌, ◌<◌, false, true, not, nat_lt, lt-ltb, cond, if◌then◌else◌, is_some, List, [], ◌∷◌, ◌++◌}
use Rattle.std.proofs.Common.{length, set, slice_get, take, replicate, append-nil, refl, sym, ap, ◌∙◌, subst, arith, Option, Some, None}
use Rattle.std.specs.Prelude.{position}
use Rattle.std.specs.Cmp.Lexicographic.{nat_list_eq_equiv}
use Rattle.std.specs.List.{IsDistinct, AllByRecursion, position_or_len}
use Rattle.std.specs.Map.{keys_of}
use Rattle.std.proofs.lemmas.List.{take_more}
use Rattle.std.proofs.lemmas.Grind.{flat_map-append}
use Rattle.std.proofs.lemmas.Option.{get_or_from_slice_get, slice_get_within}
use Rattle.indexmap.specs.IndexMap.{set_value_at}
use Rattle.std.proofs.lemmas.Map.Entries.{length-keys_of}
use Rattle.dt_access.specs.Clash.{Bytes, same_key}
use Rattle.dt_access.proofs.Callers.{same_key_self}
use Rattle.dt_text.specs.declared.Value.{Value}
use Rattle.dt_table.specs.RowsInner.{KeyValues, first_values, kept_value, rows_now}
use Rattle.dt_table.specs.StoredUnitInner.{keys_with_value}
use Rattle.dt_table.specs.declared.opened.Kept.{Kept}
use Rattle.dt_table.specs.declared.opened.Kept.TheVariants.{AsOpened, Now}

-- ---- keys

pub keys_of-rows_now : (rows : List (Bytes × Value)) (kept : List Kept) → length kept ≡ length rows → keys_of (rows_now rows kept) ≡ keys_of rows
keys_of-rows_now [] kept each = refl
keys_of-rows_now (r ∷ rows) [] each = absurd (omega (arith, each))
keys_of-rows_now (r ∷ rows) (k ∷ kept) each = ap (λ l. r.0 ∷ l) (keys_of-rows_now rows kept (omega (arith, each)))

pub length-rows_now : (rows : List (Bytes × Value)) (kept : List Kept) → length kept ≡ length rows → length (rows_now rows kept) ≡ length rows
length-rows_now [] kept each = refl
length-rows_now (r ∷ rows) [] each = absurd (omega (arith, each))
length-rows_now (r ∷ rows) (k ∷ kept) each = ap suc (length-rows_now rows kept (omega (arith, each)))

-- ---- places

all_at : {V : Type 0} (P : Bytes → Type 0) (es : List (Bytes × V)) (i : ℕ) (e : Bytes × V) → AllByRecursion P (keys_of es) → slice_get es i ≡ Some e → P e.0
all_at P [] i e all there = cc
all_at P (x ∷ es) zero e all there =
    let is : x ≡ e = cc in
    subst (λ y. P y.0) is all.0
all_at P (x ∷ es) (suc i) e all there = all_at P es i e all.1 there

or_len_at : {V : Type 0} (es : List (Bytes × V)) (i : ℕ) (e : Bytes × V) → IsDistinct same_key (keys_of es) → slice_get es i ≡ Some e → position_or_len (same_key e.0) (keys_of es) ≡ i
unfolding IsDistinct
or_len_at [] i e once there = cc
or_len_at (x ∷ es) zero e once there =
    let is : x ≡ e = cc in
    ap (λ b. cond (not b) (1 + position_or_len (same_key e.0) (keys_of es)) 0) (subst (λ y. same_key e.0 y.0 ≡ true) (sym is) (same_key_self e.0))
or_len_at (x ∷ es) (suc i) e once there =
    let apart : same_key e.0 x.0 ≡ false = nat_list_eq_equiv.symm e.0 x.0 ∙ all_at (λ y. same_key x.0 y ≡ false) es i e once.0 there in
    ap (λ b. cond (not b) (1 + position_or_len (same_key e.0) (keys_of es)) 0) apart ∙ ap (λ n. 1 + n) (or_len_at es i e once.1 there) ∙ omega arith

-- where no key stands twice, the place at which a key stands is its place
pub place_at : {V : Type 0} (es : List (Bytes × V)) (i : ℕ) (e : Bytes × V) → IsDistinct same_key (keys_of es) → slice_get es i ≡ Some e → position (same_key e.0) (keys_of es) ≡ Some i
place_at es i e once there =
    let within : i < length (keys_of es) = omega (arith, slice_get_within es i e there, length-keys_of es) in
    ap (λ n. cond (nat_lt n (length (keys_of es))) (Some n) None) (or_len_at es i e once there) ∙ ap (λ b. cond b (Some i) None) (lt-ltb i _ within)

-- the row at a place, and what is kept of it
pub row_at : (rows : List (Bytes × Value)) (kept : List Kept) (i : ℕ) (r : Bytes × Value) (k : Kept) → slice_get rows i ≡ Some r → slice_get kept i ≡ Some k
    → slice_get (rows_now rows kept) i ≡ Some (r.0, kept_value r.1 k)
row_at [] kept i r k there since = cc
row_at (x ∷ rows) [] i r k there since = cc
row_at (x ∷ rows) (y ∷ kept) zero r k there since =
    let is : x ≡ r = cc in
    let now : y ≡ k = cc in
    λ j. Some ((is j).0, kept_value (is j).1 (now j))
row_at (x ∷ rows) (y ∷ kept) (suc i) r k there since = row_at rows kept i r k there since

-- ---- what is made of them

-- where nothing has changed, they have their values of the opening
pub rows_now-unchanged : (rows : List (Bytes × Value)) → rows_now rows (replicate (length rows) AsOpened) ≡ first_values rows
rows_now-unchanged [] = refl
rows_now-unchanged (r ∷ rows) = ap (λ l. (r.0, Some r.1) ∷ l) (rows_now-unchanged rows)

-- a change of what is kept at a place is a change of the row there
pub rows_now-set : (rows : List (Bytes × Value)) (kept : List Kept) (i : ℕ) (w : Option Value) → rows_now rows (set kept i (Now w)) ≡ set_value_at (rows_now rows kept) i w
rows_now-set [] kept i w = refl
rows_now-set (r ∷ rows) [] i w = refl
rows_now-set (r ∷ rows) (k ∷ kept) zero w = refl
rows_now-set (r ∷ rows) (k ∷ kept) (suc i) w = ap (λ l. (r.0, kept_value r.1 k) ∷ l) (rows_now-set rows kept i w)

-- the keys with a value, one row further
next_row : (es : KeyValues) (i : ℕ) (e : Bytes × Option Value) → slice_get es i ≡ Some e
    → keys_with_value (take (i + 1) es) ≡ keys_with_value (take i es) ++ ((if is_some e.1 then e.0 ∷ [] else []) ++ [])
next_row es i e there =
    ap keys_with_value (take_more es i e (slice_get_within es i e there) ∙ ap (λ x. take i es ++ x ∷ []) (get_or_from_slice_get es i e e there))
    ∙ flat_map-append (λ (x : Bytes × Option Value). if is_some x.1 then x.0 ∷ [] else []) (take i es) (e ∷ [])

pub next_with_value : (es : KeyValues) (i : ℕ) (q : Bytes) (w : Option Value) → slice_get es i ≡ Some (q, w) → is_some w ≡ true
    → keys_with_value (take (i + 1) es) ≡ keys_with_value (take i es) ++ q ∷ []
next_with_value es i q w there has = next_row es i (q, w) there ∙ ap (λ b. keys_with_value (take i es) ++ ((if b then q ∷ [] else []) ++ [])) has

pub next_without_value : (es : KeyValues) (i : ℕ) (q : Bytes) (w : Option Value) → slice_get es i ≡ Some (q, w) → is_some w ≡ false
    → keys_with_value (take (i + 1) es) ≡ keys_with_value (take i es)
next_without_value es i q w there has =
    next_row es i (q, w) there ∙ ap (λ b. keys_with_value (take i es) ++ ((if b then q ∷ [] else []) ++ [])) has ∙ append-nil (keys_with_value (take i es))
