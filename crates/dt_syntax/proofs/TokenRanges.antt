-- The tokens of a text are sound: their numbers are in range, and their texts and names are such.
use Rattle.std.proofs.Common.{◌≡◌, ℕ, zero, suc, ◌+◌, ◌-◌, ◌<◌, ◌≤◌, Bool, true, false, cond, ◌&&◌, ◌||◌, ◌==◌, nat_le, nat_eq, pos, List, [], ◌∷◌, ◌++◌}
use Rattle.std.proofs.Common.{length, get_or, take_while, Option, Some, None, refl, arith}
use Rattle.std.specs.Option.{option_map}
use Rattle.std.specs.List.{list_all}
use Rattle.std.specs.Cmp.Lexicographic.{pointwise}
use Rattle.std.proofs.lemmas.Bool.{and_from, and_parts}
use Rattle.std.proofs.lemmas.Bool.Decides.{nat_tests}
use Rattle.dt_lists.specs.Lists.{AllIn}
use Rattle.dt_lists.proofs.Callers.{all_append_left, all_append_right}
use Rattle.dt_text.specs.Texts.{is_name_byte, is_text_byte}
use Rattle.dt_syntax.specs.declared.token.Token.{Token}
use Rattle.dt_syntax.specs.declared.token.Placed.{Placed}
use Rattle.dt_syntax.specs.declared.token.Token.TheVariants as tok
use Rattle.dt_syntax.specs.Tokens.{tokens_of, tokens_from, Lexed, with_front, front_token, front_word, word_token, word_in, statement_words, expression_words}
use Rattle.dt_syntax.specs.Tokens.{plain_word, whole_number, is_digit, is_letter, text_after, text_found, items_of, escaped, with_item, sign_before}
use Rattle.dt_syntax.specs.Tokens.{single_sign, double_sign, first_of, Sized, is_blank, is_no_line_end}
use Rattle.dt_syntax.specs.Limits.{IsSoundToken, AllSound}
use Rattle.dt_syntax.proofs.LexerLemmas.{all_taken, quote_or_slash}
use Rattle.dt_syntax.proofs.NumberTokens.{whole_small}
use Rattle.std.proofs.lemmas.Int.{ints}

abbrev Sound : Option Token → Type 0
Sound None = Unit {0}
Sound (Some t) = IsSoundToken t

abbrev SoundSized : Option Sized → Type 0
SoundSized None = Unit {0}
SoundSized (Some s) = IsSoundToken s.0

sized : (n : ℕ) (o : Option Token) → Sound o → SoundSized (option_map (λ t. (t, n)) o)
sized n None h = tt
sized n (Some t) h = h

first_sound : (a b : Option Token) → Sound a → Sound b → Sound (first_of a b)
first_sound None b h k = k
first_sound (Some t) b h k = h

first_sized : (a b : Option Sized) → SoundSized a → SoundSized b → SoundSized (first_of a b)
first_sized None b h k = k
first_sized (Some t) b h k = h

cond_sound : (b : Bool) (x y : Option Token) → (b ≡ true → Sound x) → Sound y → Sound (cond b x y)
cond_sound true x y h k = h refl
cond_sound false x y h k = k

table_sound : (table : List (List ℕ × Token)) (w : List ℕ) → AllIn (λ k. IsSoundToken k.1) table → Sound (word_in table w)
table_sound [] w h = tt
table_sound (k ∷ table) w h = cond_sound (pointwise nat_eq w k.0) (Some k.1) (word_in table w) (λ e. h.0) (table_sound table w h.1)

number_sound : (w : List ℕ) (o : Option ℕ) → whole_number w ≡ o → Sound (option_map (λ n. tok.Int (pos n)) o)
number_sound w None e = tt
number_sound w (Some n) e = let small = whole_small w n e in omega (arith, ints)

name_first : (w : List ℕ) → is_letter (get_or w 0 0) ≡ true → 0 < length w
name_first [] h = absurd cc
name_first (b ∷ w) h = omega arith

plain_sound : (w : List ℕ) → list_all is_name_byte w ≡ true → Sound (plain_word w)
plain_sound w all =
    cond_sound (is_digit (get_or w 0 0)) _ _ (λ e. number_sound w (whole_number w) refl)
    (cond_sound (is_letter (get_or w 0 0) && nat_le (length w) 32) (Some (tok.Name w)) None
    (λ e. let short : nat_le (length w) 32 ≡ true = (and_parts _ _ e).1 in
    let few : length w ≤ 32 = grind (arith, nat_tests) in
    (name_first w ((and_parts _ _ e).0), few, all))
    tt)

word_sound : (w : List ℕ) → list_all is_name_byte w ≡ true → Sound (word_token w)
word_sound w all =
    first_sound (word_in statement_words w) (first_of (word_in expression_words w) (plain_word w))
    (table_sound statement_words w (tt, (tt, (tt, (tt, (tt, (tt, (tt, (tt, (tt, (tt, (tt, tt))))))))))))
    (first_sound (word_in expression_words w) (plain_word w)
    (table_sound expression_words w (tt, (tt, (tt, (tt, (tt, (tt, (tt, (tt, (tt, (tt, tt)))))))))))
    (plain_sound w all))

-- the items of a text are bytes of texts
abbrev Items : Option (List ℕ × List ℕ) → Type 0
Items None = Unit {0}
Items (Some r) = list_all is_text_byte r.0 ≡ true

item_with : (b : ℕ) (o : Option (List ℕ × List ℕ)) → is_text_byte b ≡ true → Items o → Items (with_item b o)
item_with b None e h = tt
item_with b (Some r) e h = and_from _ _ e h

cond_items : (b : Bool) (x y : Option (List ℕ × List ℕ)) → (b ≡ true → Items x) → Items y → Items (cond b x y)
cond_items true x y h k = h refl
cond_items false x y h k = k

mutual
  items_sound : (bs : List ℕ) → Items (items_of bs)
  items_sound [] = tt
  items_sound (b ∷ bs) =
      cond_items (b == 34) (Some ([], bs)) _ (λ e. refl)
      (cond_items (b == 92) (escaped bs) _ (λ e. escaped_sound bs)
      (cond_items (is_text_byte b) (with_item b (items_of bs)) None (λ e. item_with b (items_of bs) e (items_sound bs)) tt))

  escaped_sound : (bs : List ℕ) → Items (escaped bs)
  escaped_sound [] = tt
  escaped_sound (b ∷ bs) =
      cond_items (b == 34 || b == 92) (with_item b (items_of bs)) None (λ e. item_with b (items_of bs) (quote_or_slash b e) (items_sound bs)) tt

found_sound : (bs : List ℕ) (o : Option (List ℕ × List ℕ)) → Items o → SoundSized (text_found bs o)
found_sound bs None h = tt
found_sound bs (Some r) h = chosen (nat_le (length r.0) 256) refl
  where
    chosen : (b : Bool) → nat_le (length r.0) 256 ≡ b → SoundSized (cond b (Some (tok.Text r.0, length bs - length r.1 + 1)) None)
    chosen true e = let few : length r.0 ≤ 256 = grind (arith, nat_tests) in (few, h)
    chosen false e = tt

single_sound : (b : ℕ) → Sound (single_sign b)
single_sound b =
    cond_sound (b == 40) _ _ (λ e. tt) (cond_sound (b == 41) _ _ (λ e. tt) (cond_sound (b == 123) _ _ (λ e. tt) (cond_sound (b == 125) _ _ (λ e. tt)
    (cond_sound (b == 44) _ _ (λ e. tt) (cond_sound (b == 59) _ _ (λ e. tt) (cond_sound (b == 58) _ _ (λ e. tt) (cond_sound (b == 61) _ _ (λ e. tt)
    (cond_sound (b == 60) _ _ (λ e. tt) (cond_sound (b == 62) _ _ (λ e. tt) (cond_sound (b == 43) _ _ (λ e. tt) (cond_sound (b == 45) _ _ (λ e. tt)
    (cond_sound (b == 42) _ _ (λ e. tt) (cond_sound (b == 47) _ _ (λ e. tt) (cond_sound (b == 37) _ _ (λ e. tt) tt))))))))))))))

double_sound : (b c : ℕ) → Sound (double_sign b c)
double_sound b c =
    cond_sound (c == 61) _ _
    (λ e. cond_sound (b == 61) _ _ (λ e. tt) (cond_sound (b == 33) _ _ (λ e. tt) (cond_sound (b == 60) _ _ (λ e. tt) (cond_sound (b == 62) _ _ (λ e. tt) tt))))
    (cond_sound ((b == 43) && (c == 43)) _ _ (λ e. tt) tt)

sign_sound : (b : ℕ) (bs : List ℕ) → SoundSized (sign_before b bs)
sign_sound b [] = sized 1 (single_sign b) (single_sound b)
sign_sound b (c ∷ bs) = first_sized _ _ (sized 2 (double_sign b c) (double_sound b c)) (sized 1 (single_sign b) (single_sound b))

cond_sized : (b : Bool) (x y : Option Sized) → SoundSized x → SoundSized y → SoundSized (cond b x y)
cond_sized true x y h k = h
cond_sized false x y h k = k

front_sound : (bs : List ℕ) → SoundSized (front_token bs)
front_sound [] = tt
front_sound (b ∷ bs) =
    cond_sized (is_name_byte b) (front_word (b ∷ bs)) _
    (sized (length (take_while is_name_byte (b ∷ bs))) (word_token (take_while is_name_byte (b ∷ bs))) (word_sound (take_while is_name_byte (b ∷ bs)) (all_taken is_name_byte (b ∷ bs))))
    (cond_sized (b == 34) (text_after bs) (sign_before b bs) (found_sound bs (items_of bs) (items_sound bs)) (sign_sound b bs))

with_sound : (place : ℕ) (o : Option Sized) (rest : ℕ → Lexed) → SoundSized o → ((n : ℕ) → AllSound (rest n).tokens) → AllSound (with_front place o rest).tokens
with_sound place None rest h k = tt
with_sound place (Some s) rest h k = (h, k (s.1 - 1))

cond_lexed : (b : Bool) (x y : Lexed) → AllSound x.tokens → AllSound y.tokens → AllSound (cond b x y).tokens
cond_lexed true x y h k = h
cond_lexed false x y h k = k

from_sound : (told place : ℕ) (bs : List ℕ) → AllSound (tokens_from told place bs).tokens
unfolding tokens_from
from_sound told place [] = tt
from_sound (suc told) place (b ∷ bs) = from_sound told (place + 1) bs
from_sound zero place (b ∷ bs) =
    cond_lexed (is_blank b) (tokens_from 0 (place + 1) bs) _ (from_sound 0 (place + 1) bs)
    (cond_lexed (b == 35) (tokens_from (length (take_while is_no_line_end bs)) (place + 1) bs) _ (from_sound (length (take_while is_no_line_end bs)) (place + 1) bs)
    (with_sound place (front_token (b ∷ bs)) (λ more. tokens_from more (place + 1) bs) (front_sound (b ∷ bs)) (λ n. from_sound n (place + 1) bs)))

-- the tokens of a text are sound
pub text_sound : (text : List ℕ) → AllSound (tokens_of text).tokens
text_sound text = from_sound 0 0 text

pub sound_left : (xs ys : List Placed) → AllSound (xs ++ ys) → AllSound xs
sound_left xs ys h = all_append_left _ xs ys h

pub sound_right : (xs ys : List Placed) → AllSound (xs ++ ys) → AllSound ys
sound_right xs ys h = all_append_right _ xs ys h
