-- Rows by their places: the row at the place of a key is the row of that key.
use Rattle.std.proofs.Common.{◌≡◌, ℕ, zero, suc, ◌<◌, false, cond, List, [], ◌∷◌, map, length, get_or, set, refl, sym, ap, ap₂, subst, ◌∙◌, arith}
use Rattle.std.specs.Prelude.{Option}
use Rattle.std.proofs.lemmas.List.{get_or-map, length-map, length-set}
use Rattle.std.proofs.Math.Seq.{map-set_same}
use Rattle.dt_lists.specs.Lists.{AllIn, EachThen}
use Rattle.dt_lists.proofs.Callers.{all_or}
use Rattle.dt_text.specs.declared.Value.{Value}
use Rattle.dt_access.specs.Clash.{Bytes, same_key}
use Rattle.dt_access.specs.Orders.{KeyBefore}
use Rattle.dt_access.proofs.Callers.{same_key_after, same_key_before, same_key_self}
use Rattle.dt_eval.specs.declared.state.Row.{Row}
use Rattle.dt_eval.specs.Data.{declared_key, value_in, changed, with_value}
use Rattle.dt_eval.specs.Data.{keys_in, names_at}

below_keys : (rows : List Row) (p : ℕ) → p < length rows → p < length (keys_in rows)
below_keys rows p below = subst (λ n. p < n) (sym (length-map rows (λ (r : Row). r.key))) below

-- the key at a place behind the first row is not the first row's
behind_first : (r : Row) (rows : List Row) (p : ℕ) → p < length rows → AllIn (KeyBefore r.key) (keys_in rows) → same_key (get_or (keys_in rows) p []) r.key ≡ false
behind_first r rows p within behind = same_key_after (get_or (keys_in rows) p []) r.key (all_or (KeyBefore r.key) (keys_in rows) p [] behind (below_keys rows p within))

value_at : (rows : List Row) (p : ℕ) (d : Row) → p < length rows → EachThen KeyBefore (keys_in rows) → value_in rows (get_or (keys_in rows) p []) ≡ (get_or rows p d).value
value_at [] p d below each = absurd (omega arith)
value_at (r ∷ rows) zero d below each = ap (λ b. cond b r.value (value_in rows r.key)) (same_key_self r.key)
value_at (r ∷ rows) (suc p) d below each =
    let key : Bytes = get_or (keys_in rows) p [] in
    let within : p < length rows = omega arith in
    ap (λ b. cond b r.value (value_in rows (get_or (keys_in rows) p []))) (behind_first r rows p within each.0)
    ∙ value_at rows p d within each.1

-- the row of a key that stands before all others is not among them
with_value_none : (key : Bytes) (v : Option Value) (rows : List Row) → AllIn (KeyBefore key) (keys_in rows) → with_value key v rows ≡ rows
with_value_none key v [] all = refl
with_value_none key v (r ∷ rows) all = ap₂ ◌∷◌ (ap (λ b. cond b (changed v r) r) (same_key_before key r.key all.0)) (with_value_none key v rows all.1)

with_value_at : (rows : List Row) (p : ℕ) (d : Row) (v : Option Value) → p < length rows → EachThen KeyBefore (keys_in rows) → with_value (get_or (keys_in rows) p []) v rows ≡ set rows p (changed v (get_or rows p d))
with_value_at [] p d v below each = absurd (omega arith)
with_value_at (r ∷ rows) zero d v below each = ap₂ ◌∷◌ (ap (λ b. cond b (changed v r) r) (same_key_self r.key)) (with_value_none r.key v rows each.0)
with_value_at (r ∷ rows) (suc p) d v below each =
    let within : p < length rows = omega arith in
    ap₂ ◌∷◌
    (ap (λ b. cond b (changed v r) r) (behind_first r rows p within each.0))
    (with_value_at rows p d v within each.1)

place_below : (n : ℕ) (places : List ℕ) (k d : ℕ) → AllIn (λ p. p < n) places → k < length places → get_or places k d < n
place_below n [] k d all below = absurd (omega arith)
place_below n (p ∷ places) zero d all below = all.0
place_below n (p ∷ places) (suc k) d all below = place_below n places k d all.1 (omega arith)

module _ (rows : List Row) (places : List ℕ) (k p : ℕ) (d : Row) (all : AllIn (λ q. q < length rows) places) (each : EachThen KeyBefore (keys_in rows)) (below : k < length (names_at places rows)) (is : p ≡ get_or places k p) where
  in_places : k < length places
  in_places = subst (λ n. k < n) (length-map places (λ q. get_or (keys_in rows) q [])) below

  pub place_in_rows : p < length rows
  place_in_rows = subst (λ q. q < length rows) (sym is) (place_below (length rows) places k p all in_places)

  pub name_at_place : declared_key (names_at places rows) k ≡ get_or (keys_in rows) p []
  name_at_place = get_or-map (λ q. get_or (keys_in rows) q []) places k p [] in_places ∙ ap (λ q. get_or (keys_in rows) q []) (sym is)

  -- the value of the row that the declaration names
  pub value_is : value_in rows (declared_key (names_at places rows) k) ≡ (get_or rows p d).value
  value_is = ap (value_in rows) name_at_place ∙ value_at rows p d place_in_rows each

  -- the rows after that row was changed
  pub change_is : (v : Option Value) → with_value (declared_key (names_at places rows) k) v rows ≡ set rows p (changed v (get_or rows p d))
  change_is v = ap (λ n. with_value n v rows) name_at_place ∙ with_value_at rows p d v place_in_rows each

  pub keys_after : (v : Option Value) → keys_in (set rows p (changed v (get_or rows p d))) ≡ keys_in rows
  keys_after v = map-set_same (λ (r : Row). r.key) rows p (changed v (get_or rows p d)) d refl

module _ (rows : List Row) (places : List ℕ) (k p : ℕ) (d : Row) (v : Option Value)
    (all : AllIn (λ q. q < length rows) places) (each : EachThen KeyBefore (keys_in rows)) (below : k < length (names_at places rows)) (is : p ≡ get_or places k p) (item : d ≡ get_or rows p d) where
  set_is : set rows p (changed v d) ≡ set rows p (changed v (get_or rows p d))
  set_is = ap (λ x. set rows p (changed v x)) item

  set_keys : keys_in (set rows p (changed v d)) ≡ keys_in rows
  set_keys = ap keys_in set_is ∙ keys_after rows places k p d all each below is v

  -- what holds of the rows and places holds after the change
  pub row_invariant : AllIn (λ q. q < length (set rows p (changed v d))) places × EachThen KeyBefore (keys_in (set rows p (changed v d)))
  row_invariant = (subst (λ n. AllIn (λ q. q < n) places) (sym (length-set rows p (changed v d))) all, subst (EachThen KeyBefore) (sym set_keys) each)

  -- the names stay, and the row of the named key is changed
  pub row_changed : ◌≡◌ {A = List Bytes × List Row} (names_at places (set rows p (changed v d)), set rows p (changed v d)) (names_at places rows, with_value (declared_key (names_at places rows) k) v rows)
  row_changed =
      let names : names_at places (set rows p (changed v d)) ≡ names_at places rows = ap (λ keys. map (λ q. get_or keys q []) places) set_keys in
      let items : set rows p (changed v d) ≡ with_value (declared_key (names_at places rows) k) v rows = set_is ∙ sym (change_is rows places k p d all each below is v) in
      λ i. (names i, items i)
