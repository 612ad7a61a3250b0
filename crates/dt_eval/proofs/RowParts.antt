-- Rows whose keys and values, and whether they were changed, are kept apart.
use Rattle.std.proofs.Common.{◌≡◌, ◌<◌, ℕ, zero, suc, Bool, true, false, List, [], ◌∷◌, length, get_or, set, map, replicate, refl, sym, ap, subst, ◌∙◌, arith}
use Rattle.std.specs.Prelude.{IfOk, Option, None, Result, Ok, Err}
use Rattle.std.specs.List.{list_all}
use Rattle.std.proofs.lemmas.Bool.{true≢false}
use Rattle.std.proofs.lemmas.List.{get_or_default, length-set}
use Rattle.dt_text.specs.declared.Value.{Value}
use Rattle.dt_access.specs.Clash.{Bytes}
use Rattle.dt_eval.specs.declared.state.Row.{Row}
use Rattle.dt_lists.specs.Lists.{AllIn, EachThen}
use Rattle.dt_access.specs.Orders.{KeyBefore}
use Rattle.dt_eval.specs.Data.{changed, declared_key, keys_in, names_at, value_in, with_value}
use Rattle.dt_eval.specs.Meaning.{unchanged, writes_of}
use Rattle.dt_eval.specs.RowsInner.{rows_in}
use Rattle.dt_eval.proofs.RowPlaces.{place_in_rows, row_changed, row_invariant, value_is}

-- before the first statement
pub rows_unchanged : (items : List (Bytes × Option Value)) → rows_in items (replicate (length items) false) ≡ map unchanged items
rows_unchanged [] = refl
rows_unchanged (item ∷ items) = ap (λ rows. unchanged item ∷ rows) (rows_unchanged items)

pub rows_made : (items : List (Bytes × Option Value)) (marks : List Bool) (n : ℕ) → marks ≡ replicate n false → n ≡ length items → rows_in items marks ≡ map unchanged items
rows_made items marks n made e = ap (rows_in items) (made ∙ ap (λ k. replicate k false) e) ∙ rows_unchanged items

pub view_made : (places : List ℕ) (items : List (Bytes × Option Value)) (rows : List Row) → rows ≡ map unchanged items →
    ◌≡◌ {A = List Bytes × List Row} (names_at places rows, rows) (names_at places (map unchanged items), map unchanged items)
view_made places items rows e = λ i. (names_at places (e i), e i)

pub rows_length : (items : List (Bytes × Option Value)) (marks : List Bool) → length marks ≡ length items → length (rows_in items marks) ≡ length items
rows_length [] marks e = refl
rows_length (item ∷ items) [] e = absurd (omega arith)
rows_length (item ∷ items) (c ∷ marks) e = ap suc (rows_length items marks (omega arith))

-- the row at a place
pub row_value : (items : List (Bytes × Option Value)) (marks : List Bool) (p : ℕ) (item : Bytes × Option Value) (d : Row) → length marks ≡ length items → p < length items
    → item ≡ get_or items p item → item.1 ≡ (get_or (rows_in items marks) p d).value
row_value [] marks p item d e below is = absurd (omega arith)
row_value (i ∷ items) [] p item d e below is = absurd (omega arith)
row_value (i ∷ items) (c ∷ marks) zero item d e below is = ap (λ (r : Bytes × Option Value). r.1) is
row_value (i ∷ items) (c ∷ marks) (suc p) item d e below is = row_value items marks p item d (omega arith) (omega arith) is

abbrev marked : Bytes × Option Value → Bool → Row
marked item c = record { key = item.0; value = item.1; changed = c }

-- the rows after the one at a place was set or cleared
pub rows_set : (items : List (Bytes × Option Value)) (marks : List Bool) (p : ℕ) (item : Bytes × Option Value) (d : Row) (v : Option Value) → length marks ≡ length items → p < length items
    → item ≡ get_or items p item → rows_in (set items p (item.0, v)) (set marks p true) ≡ set (rows_in items marks) p (changed v (get_or (rows_in items marks) p d))
rows_set [] marks p item d v e below is = absurd (omega arith)
rows_set (i ∷ items) [] p item d v e below is = absurd (omega arith)
rows_set (i ∷ items) (c ∷ marks) zero item d v e below is =
    ap (λ (r : Bytes × Option Value). changed v (unchanged r) ∷ rows_in items marks) is
rows_set (i ∷ items) (c ∷ marks) (suc p) item d v e below is =
    ap (λ (rows : List Row). marked i c ∷ rows) (rows_set items marks p item d v (omega arith) (omega arith) is)

module _ (items : List (Bytes × Option Value)) (marks : List Bool) (places : List ℕ) (k p : ℕ) (long : length marks ≡ length items)
    (all : AllIn (λ q. q < length (rows_in items marks)) places) (each : EachThen KeyBefore (keys_in (rows_in items marks))) (below : k < length (names_at places (rows_in items marks))) (is : p ≡ get_or places k p) where
  some_row : Row
  some_row = unchanged ([], None)

  pub place_in_items : p < length items
  place_in_items = subst (λ n. p < n) (rows_length items marks long) (place_in_rows (rows_in items marks) places k p some_row all each below is)

  pub place_in_marks : p < length marks
  place_in_marks = subst (λ n. p < n) (sym long) place_in_items

  -- the value of the row that the declaration names
  pub item_value : (item : Bytes × Option Value) → item ≡ get_or items p item → item.1 ≡ value_in (rows_in items marks) (declared_key (names_at places (rows_in items marks)) k)
  item_value item at = row_value items marks p item some_row long place_in_items at ∙ sym (value_is (rows_in items marks) places k p some_row all each below is)

  module _ (item : Bytes × Option Value) (v : Option Value) (at : item ≡ get_or items p item) where
    here : Row
    here = get_or (rows_in items marks) p some_row

    is_here : here ≡ get_or (rows_in items marks) p here
    unfolding here
    is_here = get_or_default (rows_in items marks) p some_row here (place_in_rows (rows_in items marks) places k p some_row all each below is)

    after : rows_in (set items p (item.0, v)) (set marks p true) ≡ set (rows_in items marks) p (changed v here)
    unfolding here
    after = rows_set items marks p item some_row v long place_in_items at

    sound_set : (length (set marks p true) ≡ length (set items p (item.0, v))) × AllIn (λ q. q < length (rows_in (set items p (item.0, v)) (set marks p true))) places
        × EachThen KeyBefore (keys_in (rows_in (set items p (item.0, v)) (set marks p true)))
    sound_set =
        let kept = row_invariant (rows_in items marks) places k p here v all each below is is_here in
        (length-set marks p true ∙ long ∙ sym (length-set items p (item.0, v)), subst (λ rs. AllIn (λ q. q < length rs) places) (sym after) kept.0, subst (λ rs. EachThen KeyBefore (keys_in rs)) (sym after) kept.1)

    -- what holds of the rows and places holds after the row of a key was changed
    pub items_sound : (ms : List Bool) → ms ≡ set marks p true → (length ms ≡ length (set items p (item.0, v))) × AllIn (λ q. q < length (rows_in (set items p (item.0, v)) ms)) places
        × EachThen KeyBefore (keys_in (rows_in (set items p (item.0, v)) ms))
    items_sound ms e = subst (λ (ms : List Bool). (length ms ≡ length (set items p (item.0, v))) × AllIn (λ q. q < length (rows_in (set items p (item.0, v)) ms)) places
        × EachThen KeyBefore (keys_in (rows_in (set items p (item.0, v)) ms))) (sym e) sound_set

    -- the names stay, and the row of the named key is changed
    pub items_changed : (ms : List Bool) → ms ≡ set marks p true → ◌≡◌ {A = List Bytes × List Row} (names_at places (rows_in (set items p (item.0, v)) ms), rows_in (set items p (item.0, v)) ms)
        (names_at places (rows_in items marks), with_value (declared_key (names_at places (rows_in items marks)) k) v (rows_in items marks))
    items_changed ms e =
        (λ i. (names_at places (rows_in (set items p (item.0, v)) (e i)), rows_in (set items p (item.0, v)) (e i)))
        ∙ (λ i. (names_at places (after i), after i)) ∙ row_changed (rows_in items marks) places k p here v all each below is is_here

-- where all were changed, all are written
pub written_where_changed : (items : List (Bytes × Option Value)) (marks : List Bool) → length marks ≡ length items → true ≡ list_all (λ c. c) marks → items ≡ writes_of (rows_in items marks)
written_where_changed [] marks e all = refl
written_where_changed (item ∷ items) [] e all = absurd (omega arith)
written_where_changed (item ∷ items) (true ∷ marks) e all = ap (λ rows. item ∷ rows) (written_where_changed items marks (omega arith) all)
written_where_changed (item ∷ items) (false ∷ marks) e all = absurd (true≢false all)

-- what is answered equals what equals it
pub ok_moved : {X E : Type 0} (a b : X) (r : Result X E) → IfOk r (λ x. x ≡ a) → a ≡ b → IfOk r (λ x. x ≡ b)
ok_moved a b (Ok x) h e = h ∙ e
ok_moved a b (Err x) h e = tt
