-- A text of procedures is cut into tokens, and nothing else of its bytes counts: words, numbers, texts and symbols, with
-- blanks and comments between them. Each token is the longest that begins at its place, so a text has one list of tokens.
-- That texts are written as in lines is stated in TextTokens. Read next: Grammar, for what tokens spell.
use Rattle.std.specs.Prelude.{ℕ, zero, suc, ◌+◌, ◌-◌, ◌^◌, pos, Bool, true, false, if◌then◌else◌, ◌==◌, ◌&&◌, ◌||◌, not, nat_le, nat_lt, nat_eq, List, [], ◌∷◌}
use Rattle.std.specs.Prelude.{length, take_while, slice_index, Option, Some, None, IsTrue, codes, ◌≡◌, ◌≤◌}
use Rattle.std.specs.Option.{option_map}
use Rattle.std.specs.List.{list_all}
use Rattle.std.specs.Str.Parse.{digits_value}
use Rattle.std.specs.Cmp.Lexicographic.{pointwise}
use Rattle.dt_text.specs.Texts.{is_name_byte, is_text_byte}
use Rattle.dt_syntax.specs.declared.operator.Op.TheVariants as op
use Rattle.dt_syntax.specs.declared.token.Token.{Token}
use Rattle.dt_syntax.specs.declared.token.Token.TheVariants.{Name, Int, Text, Op, Proc, Read, Write, Let, Set, Clear, If, Else, Abort, Give, Row, IntWord}
use Rattle.dt_syntax.specs.declared.token.Token.TheVariants.{TextWord, Has, Len, Show, Not, Truth, Open, Close, Begin, End, Comma, Semicolon, Colon, Is}
use Rattle.dt_syntax.specs.declared.token.Placed.{Placed}

-- the keywords of procedures and statements, each with its token
abbrev pub statement_words : List (List ℕ × Token)
statement_words =
    (codes "proc", Proc) ∷ (codes "read", Read) ∷ (codes "write", Write) ∷ (codes "let", Let) ∷ (codes "set", Set)
    ∷ (codes "clear", Clear) ∷ (codes "if", If) ∷ (codes "else", Else) ∷ (codes "abort", Abort) ∷ (codes "give", Give)
    ∷ (codes "row", Row) ∷ []

-- the keywords of expressions, each with its token
abbrev pub expression_words : List (List ℕ × Token)
expression_words =
    (codes "int", IntWord) ∷ (codes "text", TextWord) ∷ (codes "has", Has) ∷ (codes "len", Len) ∷ (codes "show", Show)
    ∷ (codes "and", Op op.And) ∷ (codes "or", Op op.Or) ∷ (codes "not", Not) ∷ (codes "true", Truth true)
    ∷ (codes "false", Truth false) ∷ []

-- the token of a word in a table
abbrev pub word_in : List (List ℕ × Token) → List ℕ → Option Token
word_in [] word = None
word_in (k ∷ table) word = if pointwise nat_eq word k.0 then Some k.1 else word_in table word

-- `0` to `9`
abbrev pub is_digit : ℕ → Bool
is_digit b = nat_le 48 b && nat_le b 57

-- `a` to `z`
abbrev pub is_letter : ℕ → Bool
is_letter b = nat_le 97 b && nat_le b 122

-- the number that digits write: `0`, or digits of which the first is not `0`, and at most 9223372036854775807
abbrev pub whole_number : List ℕ → Option ℕ
whole_number word =
    if list_all is_digit word && (not (slice_index word 0 == 48) || length word == 1) && nat_lt (digits_value 10 word) (2 ^ 63)
    then Some (digits_value 10 word) else None

-- a word that is no keyword: a number where it begins with a digit, and a name of at most 32 bytes where it begins with a letter
abbrev pub plain_word : List ℕ → Option Token
plain_word word =
    if is_digit (slice_index word 0) then option_map (λ n. Int (pos n)) (whole_number word)
    else (if is_letter (slice_index word 0) && nat_le (length word) 32 then Some (Name word) else None)

-- the first of two that is there
abbrev pub first_of : {A : Type 0} → Option A → Option A → Option A
first_of None b = b
first_of (Some a) b = Some a

-- the token of a whole word of letters, digits and `_`
abbrev pub word_token : List ℕ → Option Token
word_token word = first_of (word_in statement_words word) (first_of (word_in expression_words word) (plain_word word))

-- a byte before the items of a text
abbrev pub with_item : ℕ → Option (List ℕ × List ℕ) → Option (List ℕ × List ℕ)
with_item b rest = option_map (λ r. (b ∷ r.0, r.1)) rest

abbrev mutual
  -- what the items up to the `"` that closes a text stand for, and what follows that `"`. An item is a byte of texts other than `"` and `\`
  pub items_of : List ℕ → Option (List ℕ × List ℕ)
  items_of [] = None
  items_of (b ∷ bs) =
      if b == 34 then Some ([], bs)
      else (if b == 92 then escaped bs
      else (if is_text_byte b then with_item b (items_of bs) else None))

  -- the same after a `\`: a `"` or a `\`
  pub escaped : List ℕ → Option (List ℕ × List ℕ)
  escaped [] = None
  escaped (b ∷ bs) = if b == 34 || b == 92 then with_item b (items_of bs) else None

-- a token with the number of its bytes
abbrev pub Sized : Type 0
Sized = Token × ℕ

-- the token of a text whose items have been found in these bytes, after the `"` before them: a text has at most 256 items
abbrev pub text_found : List ℕ → Option (List ℕ × List ℕ) → Option Sized
text_found bs None = None
text_found bs (Some (text, rest)) = if nat_le (length text) 256 then Some (Text text, length bs - length rest + 1) else None

-- the text after a `"`
abbrev pub text_after : List ℕ → Option Sized
text_after bs = text_found bs (items_of bs)

-- the symbols of two bytes
abbrev pub double_sign : ℕ → ℕ → Option Token
double_sign b c =
    if c == 61 then
    (if b == 61 then Some (Op op.Equal)
    else (if b == 33 then Some (Op op.Differ)
    else (if b == 60 then Some (Op op.AtMost)
    else (if b == 62 then Some (Op op.AtLeast) else None))))
    else (if (b == 43) && (c == 43) then Some (Op op.Join) else None)

-- the symbols of one byte
abbrev pub single_sign : ℕ → Option Token
single_sign b =
    if b == 40 then Some Open
    else (if b == 41 then Some Close
    else (if b == 123 then Some Begin
    else (if b == 125 then Some End
    else (if b == 44 then Some Comma
    else (if b == 59 then Some Semicolon
    else (if b == 58 then Some Colon
    else (if b == 61 then Some Is
    else (if b == 60 then Some (Op op.Less)
    else (if b == 62 then Some (Op op.More)
    else (if b == 43 then Some (Op op.Add)
    else (if b == 45 then Some (Op op.Sub)
    else (if b == 42 then Some (Op op.Mul)
    else (if b == 47 then Some (Op op.Div)
    else (if b == 37 then Some (Op op.Rem) else None))))))))))))))

-- the symbol that begins with a byte: one of two bytes, if the next byte makes one, else one of one byte
abbrev pub sign_before : ℕ → List ℕ → Option Sized
sign_before b [] = option_map (λ t. (t, 1)) (single_sign b)
sign_before b (c ∷ bs) = first_of (option_map (λ t. (t, 2)) (double_sign b c)) (option_map (λ t. (t, 1)) (single_sign b))

-- the longest word of letters, digits and `_` that some bytes begin with, as a token
abbrev pub front_word : List ℕ → Option Sized
front_word bs = option_map (λ t. (t, length (take_while is_name_byte bs))) (word_token (take_while is_name_byte bs))

-- the token that some bytes begin with, the longest one
abbrev pub front_token : List ℕ → Option Sized
front_token [] = None
front_token (b ∷ bs) =
    if is_name_byte b then front_word (b ∷ bs)
    else (if b == 34 then text_after bs else sign_before b bs)

-- what separates tokens: spaces, tabs and ends of lines
abbrev pub is_blank : ℕ → Bool
is_blank b = b == 32 || b == 9 || b == 10 || b == 13

-- a byte within a line
abbrev pub is_no_line_end : ℕ → Bool
is_no_line_end b = not (b == 10)

-- the tokens of a text up to its end, or up to a place at which no token begins
pub record Lexed : Type 0 where
  pub tokens : List Placed
  pub bad : Option ℕ

-- a token at a place, and what there is after it; or none
abbrev pub with_front : ℕ → Option Sized → (ℕ → Lexed) → Lexed
with_front at None rest = record { tokens = []; bad = Some at }
with_front at (Some sized) rest =
    record (rest (sized.1 - 1)) { tokens = record { place = at; token = sized.0 } ∷ (rest (sized.1 - 1)).tokens }

-- the tokens of bytes that stand from a place of the text on, the first few of which belong to what was read already
unfoldable pub tokens_from : ℕ → ℕ → List ℕ → Lexed
tokens_from told at [] = record { tokens = []; bad = None }
tokens_from (suc told) at (b ∷ bs) = tokens_from told (at + 1) bs
tokens_from zero at (b ∷ bs) =
    if is_blank b then tokens_from 0 (at + 1) bs
    else (if b == 35 then tokens_from (length (take_while is_no_line_end bs)) (at + 1) bs
    else with_front at (front_token (b ∷ bs)) (λ more. tokens_from more (at + 1) bs))

-- the tokens of a text
abbrev pub tokens_of : List ℕ → Lexed
tokens_of text = tokens_from 0 0 text

-- no blank and no comment stands at the front
abbrev pub BeginsToken : List ℕ → Type 0
BeginsToken [] = Unit {0}
BeginsToken (b ∷ bs) = (is_blank b ≡ false) × ((b == 35) ≡ false)

-- the first item of a text stands for the byte, and the bytes follow it
abbrev pub ItemIs : ℕ → List ℕ → Option (ℕ × List ℕ) → Type 0
ItemIs first after None = items_of (first ∷ after) ≡ None
ItemIs first after (Some (byte, rest)) =
    (items_of (first ∷ after) ≡ with_item byte (items_of rest)) × IsTrue (is_text_byte byte) × (length rest ≤ length after)
