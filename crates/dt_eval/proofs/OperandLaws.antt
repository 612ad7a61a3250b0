-- The meaning by cases and the function agree: what the cases lead to is what the function gives, and on what fits the
-- cases lead to what the function gives.
use Rattle.std.proofs.Common.{◌≡◌, ◌≢◌, ◌⊎◌, ◌<◌, ◌≤◌, ◌^◌, ℕ, ℤ, pos, negsuc, nat_le, nat_lt, Bool, true, false, not, cond, zero, suc}
use Rattle.std.proofs.Common.{◌++◌, length, Ok, Err, FitsSigned, w64, refl, sym, ap, subst, ◌∙◌, inl, inr, arith}
use Rattle.std.specs.Prelude.{◌+ℤ◌, ◌-ℤ◌, ◌*ℤ◌, ◌<ℤ◌, ◌≤ℤ◌, int_lt, int_le, int_div, int_rem, T, Result}
use Rattle.std.specs.Bool.{Decides}
use Rattle.std.specs.Ordering.{int_eq, is_lt, is_le, is_gt, is_ge, ordering_reverse}
use Rattle.std.specs.declared.cmp.Ordering.{Ordering}
use Rattle.std.specs.declared.cmp.Ordering.TheVariants as ord
use Rattle.std.specs.Cmp.Lexicographic.{bytes_decides, nat_list_cmp_total}
use Rattle.std.proofs.lemmas.Bool.{true≢false}
use Rattle.std.proofs.lemmas.Bool.Decides.{Decides-int_eq, Decides-ltb, Decides-like, Decides-not, leb_tells}
use Rattle.dt_access.specs.Clash.{Bytes, same_key}
use Rattle.dt_access.specs.Orders.{KeyBefore}
use Rattle.dt_syntax.specs.declared.operator.Op.{Op}
use Rattle.dt_syntax.specs.declared.operator.Op.TheVariants.{Or, And, Equal, Differ, Less, AtMost, More, AtLeast, Add, Sub, Join, Mul, Div, Rem}
use Rattle.dt_proc.specs.declared.tree.Sort.{Sort}
use Rattle.dt_proc.specs.declared.tree.Sort.TheVariants as sort
use Rattle.dt_proc.specs.Sound.{TakesSort}
use Rattle.dt_eval.specs.declared.finish.Cause.{Cause}
use Rattle.dt_eval.specs.declared.finish.Cause.TheVariants as cause
use Rattle.dt_eval.specs.declared.state.Datum.{Datum}
use Rattle.dt_eval.specs.declared.state.Datum.TheVariants.{Int, Text, Bool as Truth}
use Rattle.dt_eval.specs.Data.{sort_of_datum}
use Rattle.dt_eval.specs.Expressions.{is_small, in_range, is_zero, text_order, of_numbers, of_texts, of_truths, operate, decides}
use Rattle.dt_eval.specs.Cases as cases
use Rattle.dt_eval.specs.Cases.{TellsTruth, GivesIf, IsInRange, UnlessZero, OfNumbers, OfTexts, Operates}

-- a relation holds of what is answered, and of nothing else
abbrev pub Fixes : Result Datum Cause → (Result Datum Cause → Type 0) → Type 0
Fixes told R = R told × ((r : Result Datum Cause) → R r → told ≡ r)

tells : (b : Bool) (P : Type 0) → Decides b P → Fixes (Ok (Truth b)) (λ r. TellsTruth r P)
tells true P d = (inl (d.0 refl, refl), told)
  where
    told : (r : Result Datum Cause) → TellsTruth r P → Ok (Truth true) ≡ r
    told r (inl h) = sym h.1
    told r (inr h) = absurd (h.0 (d.0 refl))
tells false P d = (inr ((λ p. true≢false (sym (d.1 p))), refl), told)
  where
    told : (r : Result Datum Cause) → TellsTruth r P → Ok (Truth false) ≡ r
    told r (inl h) = absurd (true≢false (sym (d.1 h.0)))
    told r (inr h) = sym h.1

gives : (b : Bool) (P : Type 0) (x : Datum) (c : Cause) → Decides b P → Fixes (cond b (Ok x) (Err c)) (λ r. GivesIf r P x c)
gives true P x c d = (inl (d.0 refl, refl), told)
  where
    told : (r : Result Datum Cause) → GivesIf r P x c → Ok x ≡ r
    told r (inl h) = sym h.1
    told r (inr h) = absurd (h.0 (d.0 refl))
gives false P x c d = (inr ((λ p. true≢false (sym (d.1 p))), refl), told)
  where
    told : (r : Result Datum Cause) → GivesIf r P x c → Err c ≡ r
    told r (inl h) = absurd (true≢false (sym (d.1 h.0)))
    told r (inr h) = sym h.1

unless : (b : Bool) (z : ℤ) (x : Result Datum Cause) (R : Result Datum Cause → Type 0) → Decides b (z ≡ pos 0) → Fixes x R → Fixes (cond b (Err cause.Zero) x) (λ r. UnlessZero r z (R r))
unless true z x R d f = (inl (d.0 refl, refl), told)
  where
    told : (r : Result Datum Cause) → UnlessZero r z (R r) → Err cause.Zero ≡ r
    told r (inl h) = sym h.1
    told r (inr h) = absurd (h.0 (d.0 refl))
unless false z x R d f = (inr ((λ p. true≢false (sym (d.1 p))), f.0), told)
  where
    told : (r : Result Datum Cause) → UnlessZero r z (R r) → x ≡ r
    told r (inl h) = absurd (true≢false (sym (d.1 h.0)))
    told r (inr h) = f.1 r h.1

-- tests

T_decides : (b : Bool) → Decides b (T b)
T_decides true = (λ e. tt, λ t. refl)
T_decides false = (λ e. absurd (true≢false (sym e)), λ t. absurd t)

lt_decides : (a b : ℤ) → Decides (int_lt a b) (a <ℤ b)
lt_decides a b = Decides-like (int_lt a b) (λ t. record { lt = t }) (λ r. r.lt) (T_decides (int_lt a b))

le_decides : (a b : ℤ) → Decides (int_le a b) (a ≤ℤ b)
le_decides a b = Decides-like (int_le a b) (λ t. record { le = t }) (λ r. r.le) (T_decides (int_le a b))

small_decides : (z : ℤ) → Decides (is_small z) (FitsSigned w64 z)
small_decides (pos n) = Decides-like (nat_lt n (2 ^ 63)) (λ p. record { sfits = p }) (λ r. r.sfits) (Decides-ltb n (2 ^ 63))
small_decides (negsuc n) = Decides-like (nat_lt n (2 ^ 63)) (λ p. record { sfits = p }) (λ r. r.sfits) (Decides-ltb n (2 ^ 63))

zero_decides : (z : ℤ) → Decides (is_zero z) (z ≡ pos 0)
zero_decides (pos zero) = (λ e. refl, λ e. refl)
zero_decides (pos (suc n)) = (λ e. absurd (true≢false (sym e)), λ e. ap is_zero e)
zero_decides (negsuc n) = (λ e. absurd (true≢false (sym e)), λ e. ap is_zero e)

pub ranged : (z : ℤ) → Fixes (in_range z) (λ r. IsInRange r z)
ranged z = gives (is_small z) (FitsSigned w64 z) (Int z) cause.Overflow (small_decides z)

-- numbers

numbers : (o : Op) (a b : ℤ) → TakesSort o sort.Int → Fixes (of_numbers o a b) (OfNumbers o a b)
numbers Equal a b t = tells (int_eq a b) (a ≡ b) (Decides-int_eq a b)
numbers Differ a b t = tells (not (int_eq a b)) (a ≢ b) (Decides-not (int_eq a b) (Decides-int_eq a b))
numbers Less a b t = tells (int_lt a b) (a <ℤ b) (lt_decides a b)
numbers AtMost a b t = tells (int_le a b) (a ≤ℤ b) (le_decides a b)
numbers More a b t = tells (int_lt b a) (b <ℤ a) (lt_decides b a)
numbers AtLeast a b t = tells (int_le b a) (b ≤ℤ a) (le_decides b a)
numbers Add a b t = ranged (a +ℤ b)
numbers Sub a b t = ranged (a -ℤ b)
numbers Mul a b t = ranged (a *ℤ b)
numbers Div a b t = unless (is_zero b) b (in_range (int_div a b)) (λ r. IsInRange r (int_div a b)) (zero_decides b) (ranged (int_div a b))
numbers Rem a b t =
    unless (is_zero b) b (cond (is_small (int_div a b)) (Ok (Int (int_rem a b))) (Err cause.Overflow)) (λ r. GivesIf r (FitsSigned w64 (int_div a b)) (Int (int_rem a b)) cause.Overflow) (zero_decides b)
    (gives (is_small (int_div a b)) (FitsSigned w64 (int_div a b)) (Int (int_rem a b)) cause.Overflow (small_decides (int_div a b)))
numbers o a b t = cc

numbers_taken : (o : Op) (a b : ℤ) (r : Result Datum Cause) → OfNumbers o a b r → TakesSort o sort.Int
numbers_taken Equal a b r h = inl refl
numbers_taken Differ a b r h = inl refl
numbers_taken Less a b r h = inl refl
numbers_taken AtMost a b r h = inl refl
numbers_taken More a b r h = inl refl
numbers_taken AtLeast a b r h = inl refl
numbers_taken Add a b r h = refl
numbers_taken Sub a b r h = refl
numbers_taken Mul a b r h = refl
numbers_taken Div a b r h = refl
numbers_taken Rem a b r h = refl
numbers_taken o a b r h = absurd h

-- texts

text_reverse : (s t : Bytes) → text_order t s ≡ ordering_reverse (text_order s t)
text_reverse s t = nat_list_cmp_total.antisymm t s

text_lt : (o : Ordering) → Decides (is_lt o) (o ≡ ord.Less)
text_lt ord.Less = (λ e. refl, λ e. refl)
text_lt ord.Equal = (λ e. absurd (true≢false (sym e)), λ e. ap is_lt e)
text_lt ord.Greater = (λ e. absurd (true≢false (sym e)), λ e. ap is_lt e)

text_gt : (o : Ordering) → Decides (is_gt o) (ordering_reverse o ≡ ord.Less)
text_gt ord.Less = (λ e. absurd (true≢false (sym e)), λ e. ap is_lt e)
text_gt ord.Equal = (λ e. absurd (true≢false (sym e)), λ e. ap is_lt e)
text_gt ord.Greater = (λ e. refl, λ e. refl)

not_gt : (o : Ordering) → is_le o ≡ not (is_gt o)
not_gt ord.Less = refl
not_gt ord.Equal = refl
not_gt ord.Greater = refl

not_lt : (o : Ordering) → is_ge o ≡ not (is_lt o)
not_lt ord.Less = refl
not_lt ord.Equal = refl
not_lt ord.Greater = refl

less_decides : (s t : Bytes) → Decides (is_lt (text_order s t)) (KeyBefore s t)
less_decides s t = text_lt (text_order s t)

more_decides : (s t : Bytes) → Decides (is_gt (text_order s t)) (KeyBefore t s)
more_decides s t = Decides-like (is_gt (text_order s t)) (λ e. text_reverse s t ∙ e) (λ e. sym (text_reverse s t) ∙ e) (text_gt (text_order s t))

at_most_decides : (s t : Bytes) → Decides (is_le (text_order s t)) (¬ (KeyBefore t s))
at_most_decides s t = subst (λ b. Decides b (¬ (KeyBefore t s))) (sym (not_gt (text_order s t))) (Decides-not (is_gt (text_order s t)) (more_decides s t))

at_least_decides : (s t : Bytes) → Decides (is_ge (text_order s t)) (¬ (KeyBefore s t))
at_least_decides s t = subst (λ b. Decides b (¬ (KeyBefore s t))) (sym (not_lt (text_order s t))) (Decides-not (is_lt (text_order s t)) (less_decides s t))

same_decides : (s t : Bytes) → Decides (same_key s t) (s ≡ t)
same_decides s t = (λ e. (bytes_decides s t).0 e, λ e. (bytes_decides s t).1 e)

few_decides : (n m : ℕ) → Decides (nat_le n m) (n ≤ m)
few_decides n m = (λ e. of_yes n m e (leb_tells n m), λ h. yes_of n m h (leb_tells n m))
  where
    of_yes : (n m : ℕ) → nat_le n m ≡ true → ((nat_le n m ≡ true) × (n ≤ m)) ⊎ ((nat_le n m ≡ false) × (m < n)) → n ≤ m
    of_yes n m e (inl h) = h.1
    of_yes n m e (inr h) = absurd (true≢false (sym e ∙ h.0))

    yes_of : (n m : ℕ) → n ≤ m → ((nat_le n m ≡ true) × (n ≤ m)) ⊎ ((nat_le n m ≡ false) × (m < n)) → nat_le n m ≡ true
    yes_of n m h (inl k) = k.0
    yes_of n m h (inr k) = absurd (omega (arith, h, k.1))

texts : (o : Op) (s t : Bytes) → TakesSort o sort.Text → Fixes (of_texts o s t) (OfTexts o s t)
texts Equal s t k = tells (same_key s t) (s ≡ t) (same_decides s t)
texts Differ s t k = tells (not (same_key s t)) (s ≢ t) (Decides-not (same_key s t) (same_decides s t))
texts Less s t k = tells (is_lt (text_order s t)) (KeyBefore s t) (less_decides s t)
texts AtMost s t k = tells (is_le (text_order s t)) (¬ (KeyBefore t s)) (at_most_decides s t)
texts More s t k = tells (is_gt (text_order s t)) (KeyBefore t s) (more_decides s t)
texts AtLeast s t k = tells (is_ge (text_order s t)) (¬ (KeyBefore s t)) (at_least_decides s t)
texts Join s t k = gives (nat_le (length (s ++ t)) 256) (length (s ++ t) ≤ 256) (Text (s ++ t)) cause.Long (few_decides (length (s ++ t)) 256)
texts o s t k = cc

texts_taken : (o : Op) (s t : Bytes) (r : Result Datum Cause) → OfTexts o s t r → TakesSort o sort.Text
texts_taken Equal s t r h = inr refl
texts_taken Differ s t r h = inr refl
texts_taken Less s t r h = inr refl
texts_taken AtMost s t r h = inr refl
texts_taken More s t r h = inr refl
texts_taken AtLeast s t r h = inr refl
texts_taken Join s t r h = refl
texts_taken o s t r h = absurd h

-- truths

-- what compares takes numbers or texts
no_truths : (sort.Bool ≡ sort.Int) ⊎ (sort.Bool ≡ sort.Text) → ⊥
no_truths (inl e) = cc
no_truths (inr e) = cc

truths : (o : Op) (a b : Bool) → TakesSort o sort.Bool → Operates o (Truth a) (Truth b) (of_truths o a b)
truths Or a b t = refl
truths And a b t = refl
truths Equal a b t = absurd (no_truths t)
truths Differ a b t = absurd (no_truths t)
truths Less a b t = absurd (no_truths t)
truths AtMost a b t = absurd (no_truths t)
truths More a b t = absurd (no_truths t)
truths AtLeast a b t = absurd (no_truths t)
truths o a b t = cc

-- the function gives what the cases say of two operands
pub operate_is : (o : Op) (a b : Datum) (r : Result Datum Cause) → Operates o a b r → operate o a b ≡ r
operate_is o (Int a) (Int b) r h = (numbers o a b (numbers_taken o a b r h)).1 r h
operate_is o (Text s) (Text t) r h = (texts o s t (texts_taken o s t r h)).1 r h
operate_is Or (Truth a) (Truth b) r h = sym h
operate_is And (Truth a) (Truth b) r h = sym h
operate_is o a b r h = absurd h

-- operands of the sort that the operator takes have what the function gives
pub is_operate : (o : Op) (a b : Datum) (s : Sort) → TakesSort o s → sort_of_datum a ≡ s → sort_of_datum b ≡ s → Operates o a b (operate o a b)
is_operate o (Int a) (Int b) s t p q = (numbers o a b (subst (TakesSort o) (sym p) t)).0
is_operate o (Text x) (Text y) s t p q = (texts o x y (subst (TakesSort o) (sym p) t)).0
is_operate o (Truth a) (Truth b) s t p q = truths o a b (subst (TakesSort o) (sym p) t)
is_operate o a b s t p q = let e : sort_of_datum a ≡ sort_of_datum b = p ∙ sym q in cc

-- what decides
pub decides_is : (o : Op) (a : Datum) → cases.Decides o a → decides o a ≡ true
decides_is o a (inl h) = (λ i. decides (h.0 i) (h.1 i))
decides_is o a (inr h) = (λ i. decides (h.0 i) (h.1 i))

pub is_decides : (o : Op) (a : Datum) → decides o a ≡ true → cases.Decides o a
is_decides And (Truth false) e = inl (refl, refl)
is_decides And (Truth true) e = absurd (true≢false (sym e))
is_decides Or (Truth true) e = inr (refl, refl)
is_decides Or (Truth false) e = absurd (true≢false (sym e))
is_decides o a e = absurd (true≢false (sym e))
