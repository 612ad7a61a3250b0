-- What a key, a name and a text may be. Contracts see each of them as its bytes; the type's invariant says which bytes
-- these may be, so whoever holds a `Key` holds an `IsKey`. A key has at most 128 bytes, a name 32 and a text 256. Read
-- next: Printed.antt, for how they are printed, and Words.antt, for how a line is cut into words.
use Rattle.std.specs.Prelude.{ℕ, ◌<◌, ◌≤◌, Bool, ◌&&◌, ◌||◌, ◌==◌, nat_le, not, List, length, Option, position, IsTrue}
use Rattle.std.specs.List.{list_all}

-- a list of bytes, as contracts see a key, a name, a text, a line and a file
abbrev pub Bytes : Type 0
Bytes = List ℕ

-- whether a byte is one of `a` to `z` and `0` to `9`
abbrev pub is_letter_or_digit : ℕ → Bool
is_letter_or_digit b = nat_le 97 b && nat_le b 122 || nat_le 48 b && nat_le b 57

-- a byte that a name may have: a letter, a digit or `_`
abbrev pub is_name_byte : ℕ → Bool
is_name_byte b = is_letter_or_digit b || b == 95

-- a byte that a key may have: a letter, a digit, `/`, `_`, `.` or `-`
abbrev pub is_key_byte : ℕ → Bool
is_key_byte b = is_letter_or_digit b || b == 47 || b == 95 || b == 46 || b == 45

-- a byte that a text may have: a space or a visible character of ASCII
abbrev pub is_text_byte : ℕ → Bool
is_text_byte b = nat_le 32 b && nat_le b 126

-- a key: 1 to 128 bytes, each allowed in keys
abbrev pub IsKey : List ℕ → Type 0
IsKey bs = (0 < length bs) × (length bs ≤ 128) × IsTrue (list_all is_key_byte bs)

-- a name: 1 to 32 bytes, each allowed in names
abbrev pub IsName : List ℕ → Type 0
IsName bs = (0 < length bs) × (length bs ≤ 32) × IsTrue (list_all is_name_byte bs)

-- a text: 0 to 256 bytes, each allowed in texts
abbrev pub IsStr : List ℕ → Type 0
IsStr bs = (length bs ≤ 256) × IsTrue (list_all is_text_byte bs)

-- the least place of a byte that is not allowed, if there is one
abbrev pub first_outside : (ℕ → Bool) → List ℕ → Option ℕ
first_outside allowed bs = position (λ b. not (allowed b)) bs
