-- Which words spell a number, and which spell none.
use Rattle.std.proofs.Common.{◌≡◌, ◌≢◌, ℕ, suc, zero, ◌+◌, ◌-◌, ◌*◌, ◌<◌, ◌≤◌, ◌^◌, List, ◌∷◌, length, get_or, take, drop, ℤ, pos}
use Rattle.std.proofs.Common.{negsuc, neg_ℤ, w64, FitsSigned, Option, Some, None, Result, Ok, Err, sym, ◌∙◌, ap, subst, arith}
use Rattle.std.specs.Int.{IsInRange}
use Rattle.std.specs.Option.{SomeIff}
use Rattle.std.specs.Result.{OkIff, result_ok}
use Rattle.dt_text.specs.Numbers.{ReadsNumber, ReadsSignedNumber, StartsPlainly, NumbersHaveOneSpelling}
use Rattle.std.specs.Char.{digit_value}
use Rattle.std.proofs.lemmas.Bool.Decides.{nat_tests}
use Rattle.std.proofs.lemmas.Int.Digits.{digits_more, digits_value_more}
use Rattle.std.specs.Fmt.{decimal, signed_decimal}
use Rattle.std.specs.Str.Parse.{AllDigits, digits_value}
use Rattle.std.proofs.lemmas.Str.Parse.{IsNumeralModel, numerals_by_value, tells_digits, digit_at, digits_value-take-le}
use Rattle.std.proofs.lemmas.Fmt.{digits_decimal, digits_value-decimal, decimal_nonempty, first_decimal, decimal-digits_value, decimal_digit, decimal_injective}

own : IsNumeralModel (AllDigits 10) (digits_value 10)
own = numerals_by_value (AllDigits 10) tells_digits

-- the printed form of a number is digits, and they write the number
pub decimal_digits : (n : ℕ) → n < 2 ^ 64 → AllDigits 10 (decimal n)
decimal_digits n h = digits_decimal own n h

pub decimal_value : (n : ℕ) → n < 2 ^ 64 → digits_value 10 (decimal n) ≡ n
decimal_value n h = digits_value-decimal own n h

-- the printed form of a number starts plainly
pub starts_plainly : (n : ℕ) → n < 2 ^ 64 → StartsPlainly (decimal n)
starts_plainly n small = (decimal_nonempty n small, alone n small)
  where
    alone : (n : ℕ) → n < 2 ^ 64 → get_or (decimal n) 0 0 ≡ 48 → length (decimal n) ≡ 1
    alone zero small e = ap length (decimal_digit 0 (omega arith))
    alone (suc n) small e = absurd (omega (arith, first_decimal (suc n) (omega arith) small))

pub no_number : (bs : List ℕ) → ¬ (StartsPlainly bs) → (n : ℕ) → n < 2 ^ 64 → bs ≢ decimal n
no_number bs padded n small e = padded (subst StartsPlainly (sym e) (starts_plainly n small))

-- digits of which the first is not zero are the printed form of the number that they write
pub digits_spell : (bs : List ℕ) → 0 < length bs → (get_or bs 0 0 ≡ 48 → length bs ≡ 1) → AllDigits 10 bs → digits_value 10 bs < 2 ^ 64 → bs ≡ decimal (digits_value 10 bs)
digits_spell bs some first all small = sym (decimal-digits_value own bs all some first small)

-- a digit of ASCII stands for its distance from `0`
pub digit_value_is : (c : ℕ) → 48 ≤ c → c ≤ 57 → digit_value c ≡ c - 48
digit_value_is c low high = grind (arith, nat_tests)

-- digits that go on with a digit, and the number that they write
pub goes_on : (bs : List ℕ) (i : ℕ) → i < length bs → AllDigits 10 (take i bs) → IsInRange 48 57 (get_or bs i 0)
    → AllDigits 10 (take (i + 1) bs) × (digits_value 10 (take i bs) * 10 + (get_or bs i 0 - 48) ≡ digits_value 10 (take (i + 1) bs))
goes_on bs i within before digit =
    let is = digit_value_is (get_or bs i 0) digit.0 digit.1 in
    (digits_more 10 bs i within before (omega (arith, is)), omega (arith, is, digits_value_more 10 bs i within))

-- digits that do not, or whose number has more than 64 bits so far
pub stops : (bs : List ℕ) (i : ℕ) → i < length bs → AllDigits 10 (take i bs) → ¬ (IsInRange 48 57 (get_or bs i 0) × (digits_value 10 (take i bs) * 10 + (get_or bs i 0 - 48) < 2 ^ 64))
    → ¬ (AllDigits 10 bs × (digits_value 10 bs < 2 ^ 64))
stops bs i within before other (all, small) =
    let digit = digit_at bs i all within in
    let value = (goes_on bs i within before digit).1 in
    other (digit, omega (arith, value, digits_value-take-le 10 bs (i + 1) (omega arith)))

-- what the digits of a word write is what it is read as, where it starts plainly
pub read_digits : (bs : List ℕ) (r : Option ℕ) → StartsPlainly bs → SomeIff r (AllDigits 10 bs × (digits_value 10 bs < 2 ^ 64)) (digits_value 10 bs) → ReadsNumber (2 ^ 64) bs r
read_digits bs None plain refused = λ n small e.
    refused (subst (λ ds. AllDigits 10 ds × (digits_value 10 ds < 2 ^ 64)) (sym e) (decimal_digits n small, omega (arith, decimal_value n small)))
read_digits bs (Some n) plain given =
    let spelt = digits_spell bs plain.0 plain.1 given.0.0 given.0.1 in
    (omega (arith, given.0.1, given.1), rw given.1 spelt)

-- the printed form of a number without a sign does not begin with `-`
pub no_minus : (n : ℕ) → n < 2 ^ 64 → get_or (decimal n) 0 0 ≢ 45
no_minus n small e = let first = digit_at (decimal n) 0 (decimal_digits n small) (decimal_nonempty n small) in absurd (omega (arith, first, e))

-- what a word with a `-` in front is read as
pub minus_none : (bs ds : List ℕ) → bs ≡ 45 ∷ ds → ((n : ℕ) → n < 2 ^ 64 → ds ≢ decimal n) → (z : ℤ) → FitsSigned w64 z → bs ≢ signed_decimal z
minus_none bs ds minus spells (pos n) fits e = no_minus n (omega arith) (ap (λ ds. get_or ds 0 0) (sym e ∙ minus))
minus_none bs ds minus spells (negsuc n) fits e = spells (suc n) (omega arith) (ap (drop 1) (sym minus ∙ e))

pub minus_some : (bs ds : List ℕ) (n : ℕ) (r : Option ℤ) → bs ≡ 45 ∷ ds → n < 2 ^ 64 → ds ≡ decimal n → SomeIff r ((0 < n) × (n ≤ 2 ^ 63)) (neg_ℤ (pos n)) → ReadsSignedNumber bs r
minus_some bs ds n None minus small spells refused = refuses
  where
    refuses : (z : ℤ) → FitsSigned w64 z → bs ≢ signed_decimal z
    refuses (pos m) fits e = no_minus m (omega arith) (ap (λ ds. get_or ds 0 0) (sym e ∙ minus))
    refuses (negsuc m) fits e =
        let same : n ≡ suc m = decimal_injective n (suc m) small (omega arith) (sym spells ∙ ap (drop 1) (sym minus ∙ e)) in
        refused (omega arith, omega arith)
minus_some bs ds zero (Some z) minus small spells given = absurd (omega (arith, given.0.0))
minus_some bs ds (suc n) (Some z) minus small spells given =
    rw given.1 (omega (arith, given.0.1), minus ∙ ap (λ ds. 45 ∷ ds) spells)

-- what a word without one is read as
pub plain_none : (bs : List ℕ) → get_or bs 0 0 ≢ 45 → ((n : ℕ) → n < 2 ^ 64 → bs ≢ decimal n) → (z : ℤ) → FitsSigned w64 z → bs ≢ signed_decimal z
plain_none bs plain spells (pos n) fits e = spells n (omega arith) e
plain_none bs plain spells (negsuc n) fits e = plain (ap (λ ds. get_or ds 0 0) e)

pub plain_some : (bs : List ℕ) (n : ℕ) (r : Option ℤ) → n < 2 ^ 64 → bs ≡ decimal n → SomeIff r (FitsSigned w64 (pos n)) (pos n) → ReadsSignedNumber bs r
plain_some bs n None small spells refused = refuses
  where
    refuses : (z : ℤ) → FitsSigned w64 z → bs ≢ signed_decimal z
    refuses (pos m) fits e = let same : n ≡ m = decimal_injective n m small (omega arith) (sym spells ∙ e) in refused (omega arith)
    refuses (negsuc m) fits e = no_minus n small (ap (λ ds. get_or ds 0 0) (sym spells ∙ e))
plain_some bs n (Some z) small spells given = rw given.1 (given.0, spells)

-- a number of fewer bits, read from one of 64
pub narrower : (k : ℕ) (bs : List ℕ) (n : ℕ) (r : Option ℕ) → k ≤ 2 ^ 64 → n < 2 ^ 64 → bs ≡ decimal n → SomeIff r (n < k) n → ReadsNumber k bs r
narrower k bs n None fits small spells refused = λ m below e. let same : n ≡ m = decimal_injective n m small (omega arith) (sym spells ∙ e) in refused (omega arith)
narrower k bs n (Some m) fits small spells given = rw given.1 (given.0, spells)

-- the value of a result, where it comes exactly under a fact
pub ok_where : {T E : Type 0} (r : Result T E) (P : Type 0) (v : T) → OkIff r P v → SomeIff (result_ok r) P v
ok_where (Ok x) P v h = h
ok_where (Err e) P v h = h

-- the law that a number has one spelling
pub one_spelling : NumbersHaveOneSpelling
one_spelling word n small = (
  λ is. rw is (starts_plainly n small, decimal_digits n small, decimal_value n small),
  λ (plain, all, value). digits_spell word plain.0 plain.1 all (omega (arith, value)) ∙ ap decimal value,
)

-- numbers of 32 bits with the same printed form are the same
pub same_number : (m n : ℕ) → m < 2 ^ 32 → n < 2 ^ 32 → decimal m ≡ decimal n → m ≡ n
same_number m n small_m small_n e = decimal_injective m n (omega arith) (omega arith) e
