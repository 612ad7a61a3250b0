-- Which words are numbers.
use Rattle.std.proofs.Common.{◌≡◌, ℕ, ◌<◌, ◌≤◌, ◌^◌, true, ◌||◌, ◌==◌, not, nat_lt, List, [], ◌∷◌, length, get_or, ℤ, pos, negsuc, w64, lt-ltb}
use Rattle.std.proofs.Common.{ltb-true}
use Rattle.std.proofs.Common.{FitsSigned, Option, Some, None, refl, subst, arith}
use Rattle.std.specs.Option.{option_map}
use Rattle.std.specs.List.{list_all}
use Rattle.std.specs.Fmt.{decimal}
use Rattle.std.specs.Str.Parse.{AllDigits, digits_value}
use Rattle.std.specs.Char.{digit_value}
use Rattle.std.proofs.lemmas.Bool.{and_from, and_parts}
use Rattle.std.proofs.lemmas.Bool.Decides.{nat_tests}
use Rattle.std.proofs.lemmas.Int.{ints}
use Rattle.std.proofs.lemmas.Option.{cond_some}
use Rattle.std.proofs.lemmas.Str.Parse.{digit_at}
use Rattle.dt_text.specs.Numbers.{ReadsSignedNumber}
use Rattle.dt_text.proofs.Callers.{one_spelling, digit_value_is}
use Rattle.dt_syntax.specs.declared.token.Token.TheVariants.{Int}
use Rattle.dt_syntax.specs.Tokens.{is_digit, whole_number}

digit_small : (c : ℕ) → is_digit c ≡ true → digit_value c < 10
digit_small c h =
    let low : 48 ≤ c = grind (arith, nat_tests) in
    let high : c ≤ 57 = grind (arith, nat_tests) in
    omega (arith, digit_value_is c low high)

small_digit : (c : ℕ) → digit_value c < 10 → is_digit c ≡ true
small_digit c h =
    let within = digit_at (c ∷ []) 0 (h, tt) (omega arith) in
    let low : 48 ≤ c = within.0 in
    let high : c ≤ 57 = within.1 in
    grind (arith, nat_tests)

all_digits : (bs : List ℕ) → list_all is_digit bs ≡ true → AllDigits 10 bs
all_digits [] h = tt
all_digits (b ∷ bs) h = (digit_small b ((and_parts _ _ h).0), all_digits bs ((and_parts _ _ h).1))

digits_all : (bs : List ℕ) → AllDigits 10 bs → list_all is_digit bs ≡ true
digits_all [] h = refl
digits_all (b ∷ bs) h = and_from _ _ (small_digit b h.0) (digits_all bs h.1)

plain_test : (a n : ℕ) → (a ≡ 48 → n ≡ 1) → (not (a == 48) || n == 1) ≡ true
plain_test a n h = grind (arith, nat_tests)

test_plain : (a n : ℕ) → (not (a == 48) || n == 1) ≡ true → a ≡ 48 → n ≡ 1
test_plain a n h e = grind (arith, nat_tests)

-- the printed form of a number that fits is that number
number_known : (word : List ℕ) (n : ℕ) → n < 2 ^ 63 → word ≡ decimal n → whole_number word ≡ Some n
number_known word n small is =
    let facts = (one_spelling word n (omega arith)).0 is in
    let value : digits_value 10 word ≡ n = facts.2 in
    let all : list_all is_digit word ≡ true = digits_all word facts.1 in
    let plain = plain_test (get_or word 0 0) (length word) facts.0.1 in
    let low : nat_lt (digits_value 10 word) (2 ^ 63) ≡ true = lt-ltb (digits_value 10 word) (2 ^ 63) (omega arith) in
    rw (all, plain, low, value) refl

-- a word that is a number is its printed form
number_spelled : (word : List ℕ) (n : ℕ) → 0 < length word → whole_number word ≡ Some n → (n < 2 ^ 63) × (word ≡ decimal n)
number_spelled word n some is =
    let facts = cond_some _ _ _ is in
    let all : list_all is_digit word ≡ true = (and_parts _ _ ((and_parts _ _ facts.0).0)).0 in
    let plain : (not (get_or word 0 0 == 48) || length word == 1) ≡ true = (and_parts _ _ ((and_parts _ _ facts.0).0)).1 in
    let low : digits_value 10 word < 2 ^ 63 = ltb-true (digits_value 10 word) (2 ^ 63) ((and_parts _ _ facts.0).1) in
    let value : digits_value 10 word ≡ n = facts.1 in
    let small : n < 2 ^ 63 = omega arith in
    (small, (one_spelling word n (omega arith)).1 ((some, test_plain _ _ plain), all_digits word all, value))

some_byte : (word : List ℕ) → is_digit (get_or word 0 0) ≡ true → 0 < length word
some_byte [] digit = absurd cc
some_byte (b ∷ bs) digit = omega arith

none_is : (o : Option ℕ) → ((n : ℕ) → o ≡ Some n → ⊥) → o ≡ None
none_is None h = refl
none_is (Some n) h = absurd (h n refl)

fits : (n : ℕ) → n < 2 ^ 63 → FitsSigned w64 (pos n)
fits n small = omega (arith, ints)

-- a word of which the first byte is a digit is read as the number that it writes
pub number_is : (word : List ℕ) (r : Option ℤ) → is_digit (get_or word 0 0) ≡ true → ReadsSignedNumber word r →
    option_map (λ z. Int z) r ≡ option_map (λ n. Int (pos n)) (whole_number word)
number_is word None digit none =
    let no = none_is (whole_number word) (λ n is.
    let spelled = number_spelled word n (some_byte word digit) is in
    none (pos n) (fits n spelled.0) spelled.1) in
    rw no refl
number_is word (Some (pos n)) digit h = rw (number_known word n (omega (arith, ints, h.0)) h.1) refl
number_is word (Some (negsuc n)) digit h =
    let never : is_digit 45 ≡ true = subst (λ w. is_digit (get_or w 0 0) ≡ true) h.1 digit in absurd cc

-- a number that a word writes is small
pub whole_small : (word : List ℕ) (n : ℕ) → whole_number word ≡ Some n → n < 2 ^ 63
whole_small word n is =
    let facts = cond_some _ _ _ is in
    let low : digits_value 10 word < 2 ^ 63 = ltb-true (digits_value 10 word) (2 ^ 63) ((and_parts _ _ facts.0).1) in
    let value : digits_value 10 word ≡ n = facts.1 in
    omega arith
