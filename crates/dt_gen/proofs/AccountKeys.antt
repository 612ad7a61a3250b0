-- The keys of the accounts, and the names of the sessions: that they are keys and names, and all different.
use Rattle.std.proofs.Common.{◌≡◌, ℕ, ◌+◌, ◌/◌, ◌%◌, ◌<◌, ◌≤◌, Bool, true, ◌&&◌, nat_lt, nat_le, length, get_or, drop, map, refl, ap, arith}
use Rattle.std.specs.List.{list_all, range_with_len}
use Rattle.std.specs.Fmt.{digits}
use Rattle.std.proofs.lemmas.Bool.{and_parts}
use Rattle.std.proofs.lemmas.Bool.Decides.{nat_tests}
use Rattle.std.proofs.lemmas.Fmt.{decimal_injective}
use Rattle.std.proofs.lemmas.List.FromFn.{length-map-range_with_len, get_or-map-range_with_len}
use Rattle.dt_text.specs.declared.Value.{Value}
use Rattle.dt_text.specs.Texts.{Bytes, IsKey, IsName, IsStr, is_key_byte, is_name_byte, is_text_byte}
use Rattle.dt_gen.specs.Load.{account, account_numbers, account_row, session_name}
use Rattle.dt_gen.proofs.Ranges.{each_passes}

-- whether bytes are a key, and also a text
is_key_and_text : Bytes → Bool
is_key_and_text bs = nat_lt 0 (length bs) && (nat_le (length bs) 128 && (list_all is_key_byte bs && list_all is_text_byte bs))

key_and_text : (bs : Bytes) → is_key_and_text bs ≡ true → IsKey bs × IsStr bs
unfolding is_key_and_text
key_and_text bs e =
    let keyed = list_all is_key_byte bs in
    let written = list_all is_text_byte bs in
    let some = and_parts (nat_lt 0 (length bs)) (nat_le (length bs) 128 && (keyed && written)) e in
    let few = and_parts (nat_le (length bs) 128) (keyed && written) some.1 in
    let bytes = and_parts keyed written few.1 in
    let lower : 0 < length bs = grind (arith, nat_tests, some.0) in
    let upper : length bs ≤ 128 = grind (arith, nat_tests, few.0) in
    ((lower, upper, bytes.0), (omega arith, bytes.1))

all_are_keys : list_all (λ q. is_key_and_text (account q)) (range_with_len 0 100) ≡ true
unfolding is_key_and_text digits
all_are_keys = refl

-- the key of an account is a key, and a text too
pub account_key : (q : ℕ) → q < 100 → IsKey (account q) × IsStr (account q)
account_key q h = key_and_text (account q) (each_passes (λ q. is_key_and_text (account q)) 0 100 all_are_keys q (omega arith) (omega arith))

-- different accounts have different keys
pub account_apart : (p q : ℕ) → account p ≡ account q → p ≡ q
account_apart p q e =
    let letter : 97 + p / 25 ≡ 97 + q / 25 = ap (λ bs. get_or bs 0 0) e in
    let place : p % 25 ≡ q % 25 = decimal_injective (p % 25) (q % 25) (omega arith) (omega arith) (ap (drop 2) e) in
    omega (arith, letter, place)

-- the rows of the accounts, by their numbers
pub account_there : (q : ℕ) (d : Bytes × Value) → q < 100 → get_or (map account_row account_numbers) q d ≡ account_row q
unfolding account_numbers
account_there q d h = get_or-map-range_with_len account_row 0 100 q q d h (omega arith)

pub accounts_length : length (map account_row account_numbers) ≡ 100
unfolding account_numbers
accounts_length = length-map-range_with_len account_row 0 100

is_name : Bytes → Bool
is_name bs = nat_lt 0 (length bs) && (nat_le (length bs) 32 && list_all is_name_byte bs)

name_of_test : (bs : Bytes) → is_name bs ≡ true → IsName bs
unfolding is_name
name_of_test bs e =
    let some = and_parts (nat_lt 0 (length bs)) (nat_le (length bs) 32 && list_all is_name_byte bs) e in
    let few = and_parts (nat_le (length bs) 32) (list_all is_name_byte bs) some.1 in
    let lower : 0 < length bs = grind (arith, nat_tests, some.0) in
    let upper : length bs ≤ 32 = grind (arith, nat_tests, few.0) in
    (lower, upper, few.1)

all_are_names : list_all (λ j. is_name (session_name j)) (range_with_len 0 64) ≡ true
unfolding is_name
all_are_names = refl

-- the name of a session is one
pub session_name_is : (j : ℕ) → j < 64 → IsName (session_name j)
session_name_is j h = name_of_test (session_name j) (each_passes (λ j. is_name (session_name j)) 0 64 all_are_names j (omega arith) (omega arith))

-- different sessions have different names
pub session_apart : (i j : ℕ) → session_name i ≡ session_name j → i ≡ j
session_apart i j e =
    let tens : 48 + i / 10 ≡ 48 + j / 10 = ap (λ bs. get_or bs 1 0) e in
    let ones : 48 + i % 10 ≡ 48 + j % 10 = ap (λ bs. get_or bs 2 0) e in
    omega (arith, tens, ones)
