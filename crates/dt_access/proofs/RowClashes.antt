-- Two ascending lists of keys clash on a row where a walk along both finds it.
use Rattle.std.proofs.Common.{◌≡◌, Bool, true, false, ◌&&◌, ◌||◌, List, [], ◌∷◌, refl, ap, sym, ◌∙◌, subst, length, arith}
use Rattle.std.specs.Ordering.{nat_cmp}
use Rattle.std.specs.declared.cmp.Ordering.TheVariants.{Less, Equal, Greater}
use Rattle.std.specs.Cmp.Lexicographic.{slice_cmp, nat_list_cmp_total, bytes_decides}
use Rattle.std.specs.List.{list_any}
use Rattle.dt_lists.specs.Lists.{AllIn}
use Rattle.dt_access.specs.declared.access.Mode.{Mode}
use Rattle.dt_access.specs.Clash.{Bytes, same_key, may_change, rows_clash}
use Rattle.dt_access.specs.ClashSearchInner.{meet_on_row}
use Rattle.dt_access.specs.Orders.{KeyBefore, HasAscendingKeys}
use Rattle.dt_access.proofs.KeyOrder.{same_key_before, same_key_after, same_key_equal, key_before_flip}

-- what is less than a key is less than all that are greater than the key
AllIn-before : (a b : Bytes) (bs : List (Bytes × Mode)) → KeyBefore a b → AllIn (λ y. KeyBefore b y.0) bs → AllIn (λ y. KeyBefore a y.0) bs
AllIn-before a b [] h all = tt
AllIn-before a b (y ∷ ys) h all =
    (nat_list_cmp_total.trans a b y.0 h all.0, AllIn-before a b ys h all.1)

-- a use of a key that is less than all keys of a list clashes with none of them
none-before : (a : Bytes × Mode) (bs : List (Bytes × Mode)) → AllIn (λ y. KeyBefore a.0 y.0) bs → list_any (rows_clash a) bs ≡ false
none-before a [] all = refl
none-before a (y ∷ ys) all =
    ap (λ t. t && (may_change a.1 || may_change y.1) || list_any (rows_clash a) ys) (same_key_before a.0 y.0 all.0) ∙ none-before a ys all.1

-- a use of a key that is less than all keys of the other list makes no clash
skip-right : (b : Bytes × Mode) (xs bs : List (Bytes × Mode)) → AllIn (λ x. KeyBefore b.0 x.0) xs → meet_on_row xs (b ∷ bs) ≡ meet_on_row xs bs
skip-right b [] bs all = refl
skip-right b (x ∷ xs) bs all =
    ap (λ t. t && (may_change x.1 || may_change b.1) || list_any (rows_clash x) bs || meet_on_row xs (b ∷ bs)) (same_key_after x.0 b.0 all.0) ∙ ap (λ t. list_any (rows_clash x) bs || t) (skip-right b xs bs all.1)

-- what is left of the first pair of uses, where their keys are the same and the first one clashes with no later one
or-heads : (same w later c d : Bool) → same ≡ true → later ≡ false → d ≡ c → (((same && w) || later) || d) ≡ (w || c)
or-heads same true later c d es el ed = ap (λ t. ((t && true) || later) || d) es
or-heads same false later c d es el ed =
    ap (λ t. ((t && false) || later) || d) es ∙ ap (λ t. t || d) el ∙ ed

-- `l` begins with `a` and goes on with `ls`, and `r` with `b` and `rs`
module _ (l r ls rs : List (Bytes × Mode)) (a b : Bytes × Mode) (el : l ≡ a ∷ ls) (er : r ≡ b ∷ rs) (asl : HasAscendingKeys l) (asr : HasAscendingKeys r) where
  al : HasAscendingKeys (a ∷ ls)
  al = subst HasAscendingKeys el asl

  ar : HasAscendingKeys (b ∷ rs)
  ar = subst HasAscendingKeys er asr

  -- the walk goes on in the left list past a key that is less than the first one of the right
  pub row-less : slice_cmp nat_cmp a.0 b.0 ≡ Less → HasAscendingKeys ls × HasAscendingKeys r × (meet_on_row ls r ≡ meet_on_row l r)
  row-less h =
      let none : list_any (rows_clash a) (b ∷ rs) ≡ false = none-before a (b ∷ rs) (h, AllIn-before a.0 b.0 rs h ar.0) in
      let step : meet_on_row (a ∷ ls) (b ∷ rs) ≡ meet_on_row ls (b ∷ rs) = ap (λ t. t || meet_on_row ls (b ∷ rs)) none in
      (al.1, asr, ap (meet_on_row ls) er ∙ sym step ∙ sym (ap (λ t. meet_on_row t (b ∷ rs)) el) ∙ sym (ap (meet_on_row l) er))

  -- and in the right list past a key that is less than the first one of the left
  pub row-greater : slice_cmp nat_cmp a.0 b.0 ≡ Greater → HasAscendingKeys l × HasAscendingKeys rs × (meet_on_row l rs ≡ meet_on_row l r)
  row-greater h =
      let after : KeyBefore b.0 a.0 = key_before_flip a.0 b.0 h in
      let step : meet_on_row (a ∷ ls) (b ∷ rs) ≡ meet_on_row (a ∷ ls) rs = skip-right b (a ∷ ls) rs (after, AllIn-before b.0 a.0 ls after al.0) in
      (asl, ar.1, ap (λ t. meet_on_row t rs) el ∙ sym step ∙ sym (ap (λ t. meet_on_row t (b ∷ rs)) el) ∙ sym (ap (meet_on_row l) er))

  -- where the first keys are the same, their modes clash or the rests do
  row-heads : slice_cmp nat_cmp a.0 b.0 ≡ Equal → meet_on_row l r ≡ ((may_change a.1 || may_change b.1) || meet_on_row ls rs)
  row-heads h =
      let k : same_key a.0 b.0 ≡ true = same_key_equal a.0 b.0 h in
      let e : a.0 ≡ b.0 = (bytes_decides a.0 b.0).0 k in
      let later : list_any (rows_clash a) rs ≡ false = none-before a rs (subst (λ q. AllIn (λ (y : Bytes × Mode). KeyBefore q y.0) rs) (sym e) ar.0) in
      let rest : meet_on_row ls (b ∷ rs) ≡ meet_on_row ls rs = skip-right b ls rs (subst (λ q. AllIn (λ (y : Bytes × Mode). KeyBefore q y.0) ls) e al.0) in
      ap (λ t. meet_on_row t r) el ∙ ap (meet_on_row (a ∷ ls)) er ∙ or-heads (same_key a.0 b.0) (may_change a.1 || may_change b.1) (list_any (rows_clash a) rs) (meet_on_row ls rs) (meet_on_row ls (b ∷ rs)) k later rest

  pub row-found : slice_cmp nat_cmp a.0 b.0 ≡ Equal → (may_change a.1 || may_change b.1) ≡ true → true ≡ meet_on_row l r
  row-found h w = sym (row-heads h ∙ ap (λ t. t || meet_on_row ls rs) w)

  pub row-equal : slice_cmp nat_cmp a.0 b.0 ≡ Equal → (may_change a.1 || may_change b.1) ≡ false → HasAscendingKeys ls × HasAscendingKeys rs × (meet_on_row ls rs ≡ meet_on_row l r)
  row-equal h w = (al.1, ar.1, sym (row-heads h ∙ ap (λ t. t || meet_on_row ls rs) w))

-- nothing clashes with an empty list
pub row-none : (l r : List (Bytes × Mode)) → length r ≡ 0 → false ≡ meet_on_row l r
row-none [] r h = refl
row-none (x ∷ xs) [] h = row-none xs [] h
row-none (x ∷ xs) (y ∷ ys) h = absurd (omega arith)
