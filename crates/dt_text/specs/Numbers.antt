-- What it is to read a number. Its one spelling is its printed form: `0`, or digits of which the first is not `0`, with
-- `-` before them where it is less than 0. So no two words spell one number, and what was printed is read back as the
-- same number. Read next: Printed.antt, for how values are printed.
use Rattle.std.specs.Prelude.{◌≡◌, ◌≢◌, ℕ, ℤ, ◌<◌, ◌^◌, ◌↔◌, List, length, slice_index, Option, MatchOption, FitsSigned}
use Rattle.std.specs.Int.{w64}
use Rattle.std.specs.Fmt.{decimal, signed_decimal}
use Rattle.std.specs.Str.Parse.{AllDigits, digits_value}

-- the answer is the number below the bound that the word spells, and none where it spells no such number
abbrev pub ReadsNumber : ℕ → List ℕ → Option ℕ → Type 0
ReadsNumber bound word answer =
    MatchOption answer ((n : ℕ) → n < bound → word ≢ decimal n) (λ n. (n < bound) × (word ≡ decimal n))

-- the answer is the number of 64 bits with a sign that the word spells, and none where it spells no such number
abbrev pub ReadsSignedNumber : List ℕ → Option ℤ → Type 0
ReadsSignedNumber word answer =
    MatchOption answer ((z : ℤ) → FitsSigned w64 z → word ≢ signed_decimal z)
    (λ z. FitsSigned w64 z × (word ≡ signed_decimal z))

-- there is a byte, and a zero in front stands alone
abbrev pub StartsPlainly : List ℕ → Type 0
StartsPlainly word = (0 < length word) × (slice_index word 0 ≡ 48 → length word ≡ 1)

-- the printed form of a number is the one list of digits that starts plainly and writes the number
abbrev pub NumbersHaveOneSpelling : Type 0
NumbersHaveOneSpelling =
    (word : List ℕ) (n : ℕ) → n < 2 ^ 64 → (word ≡ decimal n) ↔ (StartsPlainly word × AllDigits 10 word × (digits_value 10 word ≡ n))
