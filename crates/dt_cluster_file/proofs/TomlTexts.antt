-- The texts and the numbers of a document of TOML: what is read of a string is no longer than what it is read from, an integer
-- has 64 bits, and what follows is no longer than what was there. `TomlTables` goes on with tables.
use Rattle.std.proofs.Common.{◌≡◌, inl, inr, ℕ, zero, suc, ◌+◌, ◌<◌, ◌≤◌, ◌^◌, ◌==◌, ◌&&◌, ◌||◌, not, ℤ, pos, unwrap_or, Bool, true}
use Rattle.std.proofs.Common.{false, nat_lt, nat_le, List, [], ◌∷◌, ◌++◌, length, take, drop, codes, Option, Some, None, is_some, FitsSigned, refl}
use Rattle.std.proofs.Common.{sym, ap, ◌∙◌, subst, arith}
use Rattle.std.proofs.lemmas.Bool.{and_parts, cases_Bool, false≢true}
use Rattle.std.proofs.lemmas.Bool.Decides.{nat_tests}
use Rattle.std.proofs.lemmas.List.{length-append, length-drop}
use Rattle.std.proofs.lemmas.Option.{none-some, same_Some}
use Rattle.std.proofs.lemmas.Str.{length-encode, len_utf8_bounds, len_utf8_ascii}
use Rattle.std.specs.Prelude.{if◌then◌else◌, option_map, option_and_then, encode_utf8}
use Rattle.std.specs.Int.{w64}
use Rattle.std.specs.Str.{bytes_eq}
use Rattle.std.specs.Float.Ieee.{inf, nan}
use Rattle.std.specs.List.{prefix_len}
use Rattle.std.specs.Str.Parse.{digits_value}
use Rattle.fast_float.specs.Text.{Parts, with_sign, scan, digits_of}
use Rattle.toml_parser.specs.Lexical.{Read, first, is_bare, is_non_eol, skip_ws, skip_from, skip_lines, skip_turn, starts_newline}
use Rattle.toml_parser.specs.Strings.{Key, after_piece, at_delims, body, escape, escape_char, hex_escape, hex_len, is_plain, key}
use Rattle.toml_parser.specs.Strings.{key_after, one_line, prepend, quoted, recursion_limit, simple_escape, simple_key, special, starts_string}
use Rattle.toml_parser.specs.Strings.{trim_newline}
use Rattle.toml_parser.specs.Numbers.{decimal_number, float_of, integer_of, is_decimal, looks_like_datetime, number, plain_number, prefixed_integer, radix_of, unquoted, word_len, word_value}
use Rattle.toml.specs.Parse.{read_map}
use Rattle.toml_datetime.specs.Parse.{parse_datetime}
use Rattle.toml_parser.specs.declared.scalar.Scalar.{Scalar}
use Rattle.toml_parser.specs.declared.scalar.Scalar.TheVariants.{Boolean, Integer, Float, Datetime}

-- ---- what a reading gave

-- what follows on each of two ways, follows
pub by_ways : {A P : Type 0} (b : Bool) (x y : Option A) (z : A) → (if b then x else y) ≡ Some z → (b ≡ true → x ≡ Some z → P) → (b ≡ false → y ≡ Some z → P) → P
by_ways true x y z h first_way second_way = first_way refl h
by_ways false x y z h first_way second_way = second_way refl h

-- the one way that gives something
pub one_way : {A : Type 0} (b : Bool) (x : Option A) (z : A) → (if b then x else None) ≡ Some z → (b ≡ true) × (x ≡ Some z)
one_way true x z h = (refl, h)
one_way false x z h = absurd (none-some z h)

-- what was read before the next reading
pub then_read : {A B : Type 0} (f : A → Option B) (o : Option A) (y : B) → option_and_then f o ≡ Some y → (x : A) × (o ≡ Some x) × (f x ≡ Some y)
then_read f None y h = absurd (none-some y h)
then_read f (Some x) y h = (x, refl, h)

-- what was read before it was changed
pub map_read : {A B : Type 0} (f : A → B) (o : Option A) (y : B) → option_map f o ≡ Some y → (x : A) × (o ≡ Some x) × (f x ≡ y)
map_read f None y h = absurd (none-some y h)
map_read f (Some x) y h = (x, refl, same_Some (f x) y h)

-- a reading that gave this, before this rest of the text
abbrev pub gave : {A : Type 0} → A → List ℕ → Read A
gave x rest = Some (x, rest)

-- the same reading gave the same
pub same_read : {A : Type 0} (a x : A) (b y : List ℕ) → gave a b ≡ gave x y → (a ≡ x) × (b ≡ y)
same_read {A} a x b y h = let p = same_Some {A = A × List ℕ} (a, b) (x, y) h in (ap (λ q. q.0) p, ap (λ q. q.1) p)

-- what was read and then changed
pub changed_read : {A B : Type 0} (f : A → B) (r : Read A) (y : B) (rest : List ℕ) → read_map f r ≡ gave y rest → (x : A) × (r ≡ gave x rest) × (f x ≡ y)
changed_read f None y rest h = absurd (none-some _ h)
changed_read f (Some (x, left)) y rest h = let is = same_read (f x) y left rest h in (x, ap (λ after. gave x after) is.1, is.0)

pub drop_within : (k : ℕ) (text : List ℕ) → length (drop k text) ≤ length text
drop_within k text = omega (arith, length-drop k text)

-- a text whose first byte is not 0 has a first byte
pub has_first : (text : List ℕ) → ¬ (first text ≡ 0) → 0 < length text
has_first [] h = absurd (h refl)
has_first (b ∷ text) h = omega arith

pub drop_one : (text : List ℕ) → 0 < length text → 1 + length (drop 1 text) ≡ length text
drop_one text h = omega (arith, h, length-drop 1 text)

-- ---- strings

abbrev gave_pair : ℕ → List ℕ → ℕ × List ℕ
gave_pair c rest = (c, rest)

encode_small : (c : ℕ) → c < 128 → length (encode_utf8 c) ≤ 1
encode_small c h = omega (arith, length-encode c, len_utf8_ascii c h)

encode_short : (c : ℕ) → length (encode_utf8 c) ≤ 4
encode_short c = omega (arith, length-encode c, (len_utf8_bounds c).1)

-- an escape of one letter stands for one byte
one_letter : (b c : ℕ) → simple_escape b ≡ Some c → (c < 128) × ¬ (b ≡ 0)
one_letter b c h = grind (arith, nat_tests)

hex_len_is : (b : ℕ) → nat_lt 0 (hex_len b) ≡ true → (2 ≤ hex_len b) × ¬ (b ≡ 0)
hex_len_is b h = grind (arith, nat_tests)

hex_read : (n : ℕ) (text : List ℕ) (c : ℕ) (rest : List ℕ) → hex_escape n text ≡ gave c rest → n + length rest ≤ length text
unfolding hex_escape
hex_read n text c rest h =
    let taken = one_way _ _ (c, rest) h in
    let enough : nat_le n (length text) ≡ true = (and_parts _ _ (and_parts _ _ taken.0).0).0 in
    let is : drop n text ≡ rest = (same_read _ c _ rest taken.1).1 in
    grind (arith, nat_tests, ap length is, length-drop n text, enough)

letter_read : (text : List ℕ) (c : ℕ) (rest : List ℕ) → option_map (λ c. gave_pair c (drop 1 text)) (simple_escape (first text)) ≡ gave c rest
    → length (encode_utf8 c) + length rest ≤ 1 + length text
letter_read text c rest h =
    let found = map_read (λ c. gave_pair c (drop 1 text)) (simple_escape (first text)) (c, rest) h in
    let letter = one_letter (first text) found.0 found.1 in
    let is : found.0 ≡ c = ap (λ p. p.0) found.2 in
    let left : drop 1 text ≡ rest = ap (λ p. p.1) found.2 in
    omega (arith, encode_small c (subst (λ b. b < 128) is letter.0), ap length left, drop_one text (has_first text letter.1))

hex_char_read : (text : List ℕ) (c : ℕ) (rest : List ℕ) → nat_lt 0 (hex_len (first text)) ≡ true → hex_escape (hex_len (first text)) (drop 1 text) ≡ gave c rest
    → length (encode_utf8 c) + length rest ≤ 1 + length text
hex_char_read text c rest some h =
    let is = hex_len_is (first text) some in
    omega (arith, is.0, encode_short c, drop_one text (has_first text is.1), hex_read (hex_len (first text)) (drop 1 text) c rest h)

escape_char_read : (text : List ℕ) (c : ℕ) (rest : List ℕ) → escape_char text ≡ gave c rest → length (encode_utf8 c) + length rest ≤ 1 + length text
unfolding escape_char
escape_char_read text c rest h =
    by_ways _ _ _ (c, rest) h
    (λ hex_so hex. hex_char_read text c rest hex_so hex)
    (λ simple_so simple. letter_read text c rest simple)

skip_within : (comments inside : Bool) (text : List ℕ) → length (skip_from comments inside text) ≤ length text
unfolding skip_from
skip_within comments inside [] = omega arith
skip_within comments inside (c ∷ cs) =
    let next = skip_within comments (unwrap_or (skip_turn comments inside c (first cs)) false) cs in
    elim (cases_Bool (is_some (skip_turn comments inside c (first cs)))) [
      | inl more ↦ rw more (omega arith)
      | inr stop ↦ rw stop (omega arith)
    ]

cut_read : (text bytes rest : List ℕ) → gave [] (skip_lines text) ≡ gave bytes rest → length bytes + length rest ≤ 1 + length text
cut_read text bytes rest h =
    let is = same_read [] bytes (skip_lines text) rest h in
    omega (arith, ap length is.0, ap length is.1, skip_within false false text)

-- what follows a backslash stands for no more bytes than it has with the backslash
escape_read : (multi : Bool) (text bytes rest : List ℕ) → escape multi text ≡ gave bytes rest → length bytes + length rest ≤ 1 + length text
unfolding escape
escape_read multi text bytes rest h =
    by_ways _ _ _ (bytes, rest) h
    (λ cut_so cut. cut_read text bytes rest cut)
    (λ char_so char.
    let (c, is, same) = changed_read encode_utf8 (escape_char text) bytes rest char in
    omega (arith, ap length same, escape_char_read text c rest is))

-- a piece of a string: the bytes that it stands for, or none at the end
abbrev Piece : Type 0
Piece = Option (List ℕ)

abbrev piece_length : Piece → ℕ
piece_length None = 0
piece_length (Some bytes) = length bytes

abbrev no_piece : Piece
no_piece = None

abbrev one_piece : List ℕ → Piece
one_piece bytes = Some bytes

ends_read : (k : ℕ) (text : List ℕ) (piece : Piece) (rest : List ℕ) → gave no_piece (drop k text) ≡ gave piece rest → piece_length piece + length rest ≤ length text
ends_read k text piece rest h =
    let is = same_read no_piece piece (drop k text) rest h in
    omega (arith, ap piece_length is.0, ap length is.1, drop_within k text)

byte_read : (b : ℕ) (text : List ℕ) (piece : Piece) (rest : List ℕ) → 0 < length text → gave (one_piece (b ∷ [])) (drop 1 text) ≡ gave piece rest
    → piece_length piece + length rest ≤ length text
byte_read b text piece rest some h =
    let is = same_read (one_piece (b ∷ [])) piece (drop 1 text) rest h in
    omega (arith, ap piece_length is.0, ap length is.1, drop_one text some)

delims_read : (delim : ℕ) (text : List ℕ) (piece : Piece) (rest : List ℕ) → 0 < length text → at_delims delim text ≡ gave piece rest
    → piece_length piece + length rest ≤ length text
delims_read delim text piece rest some h =
    let count = prefix_len (λ c. c == delim) text in
    let one = gave (one_piece (delim ∷ [])) (drop 1 text) in
    by_ways (count == 3) (gave no_piece (drop 3 text)) (if nat_lt count 6 then one else None) (piece, rest) h
    (λ end_so end. ends_read 3 text piece rest end)
    (λ one_so more. byte_read delim text piece rest some (one_way (nat_lt count 6) one (piece, rest) more).1)

-- a byte that is not plain, or an escape, or the end
byte_there : (b : ℕ) (text : List ℕ) → (first text == b) ≡ true → ¬ (b ≡ 0) → 0 < length text
byte_there b text is other = has_first text (λ e. other (grind (arith, nat_tests)))

newline_there : (text : List ℕ) → starts_newline text ≡ true → 0 < length text
newline_there [] h = absurd (false≢true h)
newline_there (b ∷ text) h = omega arith

escaped_read : (multi : Bool) (text : List ℕ) (piece : Piece) (rest : List ℕ) → (first text == 92) ≡ true → read_map one_piece (escape multi (drop 1 text)) ≡ gave piece rest
    → piece_length piece + length rest ≤ length text
escaped_read multi text piece rest is h =
    let (bytes, read, same) = changed_read one_piece (escape multi (drop 1 text)) piece rest h in
    omega (arith, ap piece_length same, escape_read multi (drop 1 text) bytes rest read, drop_one text (byte_there 92 text is (λ e. omega (arith, e))))

special_read : (delim : ℕ) (multi : Bool) (text : List ℕ) (piece : Piece) (rest : List ℕ) → ¬ (delim ≡ 0) → special delim multi text ≡ gave piece rest
    → piece_length piece + length rest ≤ length text
unfolding special
special_read delim multi text piece rest some h =
    by_ways _ _ _ (piece, rest) h
    (λ end_so end. by_ways _ _ _ (piece, rest) end
    (λ several_so several. delims_read delim text piece rest (byte_there delim text end_so some) several)
    (λ one_so one. ends_read 1 text piece rest one))
    (λ other_so other. by_ways _ _ _ (piece, rest) other
    (λ escaped_so escaped. escaped_read multi text piece rest escaped_so escaped)
    (λ line_so line.
    let taken = one_way _ _ (piece, rest) line in
    byte_read (first text) text piece rest (newline_there text (and_parts _ _ taken.0).1) taken.1))

-- a plain byte is one
plain_first : (delim : ℕ) (multi : Bool) (text : List ℕ) → is_plain delim multi (first text) ≡ true → 0 < length text
plain_first delim multi text h = has_first text (λ e. no_zero multi (subst (λ b. (is_non_eol b || (multi && b == 10)) ≡ true) e (and_parts _ _ h).1))
  where
    no_zero : (multi : Bool) → (is_non_eol 0 || (multi && 0 == 10)) ≡ true → ⊥
    no_zero true h = false≢true h
    no_zero false h = false≢true h

-- more bytes before what was read
prepend_read : (front : List ℕ) (r : Read (List ℕ)) (bytes rest : List ℕ) → prepend front r ≡ gave bytes rest
    → (more : List ℕ) × (r ≡ gave more rest) × (length bytes ≡ length front + length more)
prepend_read front r bytes rest h =
    let (more, read, same) = changed_read (λ more. front ++ more) r bytes rest h in
    (more, read, sym (ap length same) ∙ length-append front more)

-- a reader of strings that gives no more than it reads
abbrev KeepsWithin : (List ℕ → Read (List ℕ)) → Type 0
KeepsWithin read = (text bytes rest : List ℕ) → read text ≡ gave bytes rest → length bytes + length rest ≤ length text

piece_read : (more : List ℕ → Read (List ℕ)) → KeepsWithin more → (piece : Piece) (left bytes rest : List ℕ) → after_piece more piece left ≡ gave bytes rest
    → length bytes + length rest ≤ piece_length piece + length left
piece_read more within None left bytes rest h = let is = same_read [] bytes left rest h in omega (arith, ap length is.0, ap length is.1)
piece_read more within (Some front) left bytes rest h =
    let (later, read, same) = prepend_read front (more left) bytes rest h in
    omega (arith, same, within left later rest read)

plain_read : (more : List ℕ → Read (List ℕ)) → KeepsWithin more → (text bytes rest : List ℕ) → 0 < length text → prepend (first text ∷ []) (more (drop 1 text)) ≡ gave bytes rest
    → length bytes + length rest ≤ length text
plain_read more within text bytes rest some h =
    let (later, read, same) = prepend_read (first text ∷ []) (more (drop 1 text)) bytes rest h in
    omega (arith, same, drop_one text some, within (drop 1 text) later rest read)

-- a string is no longer than what it is read from, and what follows
pub body_read : (delim : ℕ) (multi : Bool) (n : ℕ) → ¬ (delim ≡ 0) → KeepsWithin (body delim multi n)
unfolding body
body_read delim multi zero some text bytes rest h = absurd (none-some _ h)
body_read delim multi (suc n) some text bytes rest h =
    let more = body_read delim multi n some in
    by_ways _ _ _ (bytes, rest) h
    (λ plain_so plain. plain_read (body delim multi n) more text bytes rest (plain_first delim multi text plain_so) plain)
    (λ other_so other.
    let (p, read, after) = then_read _ (special delim multi text) (bytes, rest) other in
    omega (arith, special_read delim multi text p.0 p.1 some read, piece_read (body delim multi n) more p.0 p.1 bytes rest after))

starts_so : (text : List ℕ) → starts_string text ≡ true → ¬ (first text ≡ 0)
starts_so text h e = grind (arith, nat_tests)

one_line_read : (text bytes rest : List ℕ) → starts_string text ≡ true → one_line text ≡ gave bytes rest → length bytes + length rest ≤ length text
unfolding one_line
one_line_read text bytes rest starts h =
    omega (arith, drop_within 1 text, body_read (first text) false (length text) (starts_so text starts) (drop 1 text) bytes rest h)

trim_within : (text : List ℕ) → length (trim_newline text) ≤ length text
trim_within text = by (first text == 10) (starts_newline text)
  where
    by : (a b : Bool) → length (if a then drop 1 text else if b then drop 2 text else text) ≤ length text
    by true b = drop_within 1 text
    by false true = drop_within 2 text
    by false false = omega arith

-- a string that is a value
pub quoted_read : (text bytes rest : List ℕ) → starts_string text ≡ true → quoted text ≡ gave bytes rest → length bytes + length rest ≤ length text
unfolding quoted
quoted_read text bytes rest starts h =
    by_ways _ _ _ (bytes, rest) h
    (λ several_so several.
    let read = body_read (first text) true (length text) (starts_so text starts) (trim_newline (drop 3 text)) bytes rest several in
    omega (arith, drop_within 3 text, trim_within (drop 3 text), read))
    (λ one_so one. one_line_read text bytes rest starts one)

-- ---- keys

pub skip_ws_within : (text : List ℕ) → length (skip_ws text) ≤ length text
unfolding skip_ws
skip_ws_within text = drop_within _ text

simple_key_read : (text part rest : List ℕ) → simple_key text ≡ gave part rest → length rest ≤ length text
unfolding simple_key
simple_key_read text part rest h =
    by_ways _ _ _ (part, rest) h
    (λ string_so string. omega (arith, one_line_read text part rest string_so string))
    (λ bare_so bare.
    let is = same_read (take (prefix_len is_bare text) text) part (drop (prefix_len is_bare text) text) rest (one_way _ _ (part, rest) bare).1 in
    omega (arith, ap length is.1, drop_within (prefix_len is_bare text) text))

key_after_read : (n : ℕ) (path : List (List ℕ)) (text : List ℕ) (found : Key) (rest : List ℕ) → key_after n path text ≡ gave found rest → length rest ≤ length text
unfolding key_after
key_after_read zero path text found rest h = absurd (none-some _ h)
key_after_read (suc n) path text found rest h =
    let (part, is, more) = then_read _ (simple_key text) (found, rest) h in
    let left = skip_ws part.1 in
    let within : length left ≤ length text = omega (arith, skip_ws_within part.1, simple_key_read text part.0 part.1 is) in
    by_ways _ _ _ (found, rest) more
    (λ dotted_so dotted.
    let next = key_after_read n (path ++ part.0 ∷ []) (skip_ws (drop 1 left)) found rest dotted in
    omega (arith, within, drop_within 1 left, skip_ws_within (drop 1 left), next))
    (λ last_so last. omega (arith, within, ap length (same_read (path, part.0) found left rest last).1))

pub key_read : (text : List ℕ) (found : Key) (rest : List ℕ) → key text ≡ gave found rest → length rest ≤ length text
key_read text found rest h = key_after_read recursion_limit [] text found rest h

-- ---- integers

abbrev Fits : ℤ → Type 0
Fits z = FitsSigned w64 z

-- where a scalar is an integer, it has 64 bits
abbrev IsFitting : Scalar → Type 0
IsFitting (Integer z) = Fits z
IsFitting (Boolean b) = Unit {0}
IsFitting (Float x) = Unit {0}
IsFitting (Datetime t) = Unit {0}

abbrev scalar_pair : Scalar → List ℕ → Scalar × List ℕ
scalar_pair s rest = (s, rest)

few_fit : (n : ℕ) → nat_lt n (2 ^ 63) ≡ true → Fits (pos n)
few_fit n small = grind (arith, nat_tests)

prefixed_fits : (radix : ℕ) (digits : List ℕ) (s : Scalar) → prefixed_integer radix digits ≡ Some s → IsFitting s
unfolding prefixed_integer
prefixed_fits radix digits s h =
    let taken = one_way _ _ s h in
    subst IsFitting (same_Some _ s taken.1) (few_fit (digits_value radix digits) (and_parts _ _ taken.0).1)

sign_fits : (negative : Bool) (n : ℕ) → (nat_lt n (2 ^ 63) || (negative && n == 2 ^ 63)) ≡ true → Fits (with_sign negative n)
sign_fits true zero h = grind (arith, nat_tests)
sign_fits true (suc n) h = grind (arith, nat_tests)
sign_fits false n h = grind (arith, nat_tests)

integer_fits : (negative : Bool) (n : ℕ) (s : Scalar) → integer_of negative n ≡ Some s → IsFitting s
integer_fits negative n s h =
    let taken = one_way _ _ s h in
    subst IsFitting (same_Some _ s taken.1) (sign_fits negative n taken.0)

float_fits : (negative : Bool) (p : Parts) (s : Scalar) → float_of negative p ≡ Some s → IsFitting s
float_fits negative p s h = subst IsFitting (same_Some _ s (one_way _ _ s h).1) tt

decimal_step : (negative infinite none bad point : Bool) (p : Parts) (s : Scalar)
    → (if infinite then Some (Float (inf negative)) else if none then Some (Float nan) else if bad then None
    else if point then float_of negative p else integer_of negative (digits_of p)) ≡ Some s
    → IsFitting s
decimal_step negative true none bad point p s h = subst IsFitting (same_Some (Float (inf negative)) s h) tt
decimal_step negative false true bad point p s h = subst IsFitting (same_Some (Float nan) s h) tt
decimal_step negative false false true point p s h = absurd (none-some s h)
decimal_step negative false false false true p s h = float_fits negative p s h
decimal_step negative false false false false p s h = integer_fits negative (digits_of p) s h

decimal_fits : (negative : Bool) (word : List ℕ) (s : Scalar) → decimal_number negative word ≡ Some s → IsFitting s
unfolding decimal_number
decimal_fits negative word s h =
    let p = scan word in
    decimal_step negative (bytes_eq word (codes "inf")) (bytes_eq word (codes "nan")) (not (p.len == length word && is_decimal p)) (p.point || nat_lt 0 (length p.exponent)) p s h

plain_step : (prefixed minus plus : Bool) (radix : ℕ) (word : List ℕ) (s : Scalar)
    → (if prefixed then prefixed_integer radix (drop 2 word) else if minus then decimal_number true (drop 1 word)
    else if plus then decimal_number false (drop 1 word) else decimal_number false word) ≡ Some s
    → IsFitting s
plain_step true minus plus radix word s h = prefixed_fits radix (drop 2 word) s h
plain_step false true plus radix word s h = decimal_fits true (drop 1 word) s h
plain_step false false true radix word s h = decimal_fits false (drop 1 word) s h
plain_step false false false radix word s h = decimal_fits false word s h

plain_fits : (word : List ℕ) (s : Scalar) → plain_number word ≡ Some s → IsFitting s
unfolding plain_number
plain_fits word s h = plain_step (not (radix_of word == 10)) (first word == 45) (first word == 43) (radix_of word) word s h

number_fits : (word : List ℕ) (s : Scalar) → number word ≡ Some s → IsFitting s
unfolding number
number_fits word s h = plain_fits _ s (one_way _ _ s h).1

word_step : (truth untruth date : Bool) (word : List ℕ) (s : Scalar)
    → (if truth then Some (Boolean true) else if untruth then Some (Boolean false) else if date then option_map Datetime (parse_datetime word) else number word) ≡ Some s
    → IsFitting s
word_step true untruth date word s h = subst IsFitting (same_Some (Boolean true) s h) tt
word_step false true date word s h = subst IsFitting (same_Some (Boolean false) s h) tt
word_step false false true word s h = let (t, is, same) = map_read Datetime (parse_datetime word) s h in subst IsFitting same tt
word_step false false false word s h = number_fits word s h

word_fits : (word : List ℕ) (s : Scalar) → word_value word ≡ Some s → IsFitting s
unfolding word_value
word_fits word s h = word_step (bytes_eq word (codes "true")) (bytes_eq word (codes "false")) (looks_like_datetime word) word s h

scalar_read : (text : List ℕ) (s : Scalar) (rest : List ℕ) → unquoted text ≡ gave s rest
    → (word_value (take (word_len text) text) ≡ Some s) × (length rest ≤ length text)
unfolding unquoted
scalar_read text s rest h =
    by_ways _ _ _ (s, rest) h
    (λ none_so none. absurd (none-some _ none))
    (λ some_so some. split (word_value (take (word_len text) text)) some)
  where
    split : (o : Option Scalar) → option_map (λ d. scalar_pair d (drop (word_len text) text)) o ≡ gave s rest → (o ≡ Some s) × (length rest ≤ length text)
    split None h = absurd (none-some _ h)
    split (Some d) h =
        let is = same_read d s (drop (word_len text) text) rest h in
        (ap Some is.0, omega (arith, ap length is.1, drop_within (word_len text) text))

-- an integer that is read has 64 bits
pub integer_read : (text : List ℕ) (z : ℤ) (rest : List ℕ) → unquoted text ≡ gave (Integer z) rest → FitsSigned w64 z
integer_read text z rest h = word_fits (take (word_len text) text) (Integer z) (scalar_read text (Integer z) rest h).0

pub unquoted_within : (text : List ℕ) (s : Scalar) (rest : List ℕ) → unquoted text ≡ gave s rest → length rest ≤ length text
unquoted_within text s rest h = (scalar_read text s rest h).1
