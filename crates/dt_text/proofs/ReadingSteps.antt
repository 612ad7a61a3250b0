-- What the words from a place on are, by the byte at that place.
use Rattle.std.proofs.Common.{◌≡◌, ◌≢◌, ℕ, ◌+◌, Bool, true, false, cond, ◌==◌, ◌||◌, ◌&&◌, nat_lt, List, [], ◌∷◌, ◌++◌, length, Some, None, refl, arith, eq-eqb}
use Rattle.std.proofs.Common.{ne_eqb}
use Rattle.std.proofs.lemmas.Bool.Decides.{nat_tests}
use Rattle.dt_text.specs.Texts.{is_text_byte}
use Rattle.dt_text.specs.Words.{is_visible}
use Rattle.dt_text.specs.Reading.{with_word, words_from, bare_from, text_from, escape_from, after_text}
use Rattle.dt_text.specs.declared.word.Word.TheVariants.{Bare, Text}

-- between words
pub gap_end : (at : ℕ) → words_from at [] ≡ Some []
unfolding words_from
gap_end at = refl

pub gap_space : (at b : ℕ) (bs : List ℕ) → b ≡ 32 → words_from at (b ∷ bs) ≡ words_from (at + 1) bs
unfolding words_from
gap_space at b bs space = rw (eq-eqb b 32 space) refl

pub gap_quote : (at b : ℕ) (bs : List ℕ) → b ≡ 34 → words_from at (b ∷ bs) ≡ text_from [] (at + 1) bs
unfolding words_from
gap_quote at b bs quote =
    let no_space : b ≢ 32 = omega arith in
    rw (ne_eqb b 32 no_space, eq-eqb b 34 quote) refl

pub gap_bare : (at b : ℕ) (bs : List ℕ) → b ≢ 34 → is_visible b ≡ true → words_from at (b ∷ bs) ≡ bare_from at (at + 1) bs
unfolding words_from
gap_bare at b bs plain visible =
    let no_space : b ≢ 32 = grind (arith, nat_tests) in
    rw (ne_eqb b 32 no_space, ne_eqb b 34 plain, visible) refl

pub gap_bad : (at b : ℕ) (bs : List ℕ) → b ≢ 32 → is_visible b ≡ false → words_from at (b ∷ bs) ≡ None
unfolding words_from
gap_bad at b bs no_space bad =
    let plain : b ≢ 34 = grind (arith, nat_tests) in
    rw (ne_eqb b 32 no_space, ne_eqb b 34 plain, bad) refl

-- in a bare word
pub bare_end : (from at : ℕ) → bare_from from at [] ≡ with_word (Bare from at) (words_from at [])
unfolding words_from
bare_end from at = refl

pub bare_more : (from at b : ℕ) (bs : List ℕ) → is_visible b ≡ true → bare_from from at (b ∷ bs) ≡ bare_from from (at + 1) bs
unfolding words_from
bare_more from at b bs visible =
    let no_space : b ≢ 32 = grind (arith, nat_tests) in
    rw (ne_eqb b 32 no_space, visible) refl

pub bare_over : (from at b : ℕ) (bs : List ℕ) → is_visible b ≡ false → bare_from from at (b ∷ bs) ≡ with_word (Bare from at) (words_from at (b ∷ bs))
unfolding words_from
bare_over from at b bs over = by_space (b == 32) refl
  where
    by_space : (space : Bool) → (b == 32) ≡ space → bare_from from at (b ∷ bs) ≡ with_word (Bare from at) (words_from at (b ∷ bs))
    by_space true e = rw e refl
    by_space false e =
        let plain : b ≢ 34 = grind (arith, nat_tests) in
        rw (e, ne_eqb b 34 plain, over) refl

-- in a text word
pub text_end : (text : List ℕ) (at : ℕ) → text_from text at [] ≡ None
unfolding words_from
text_end text at = refl

pub text_quote : (text : List ℕ) (at b : ℕ) (bs : List ℕ) → b ≡ 34 → text_from text at (b ∷ bs) ≡ after_text text (at + 1) bs
unfolding words_from
text_quote text at b bs quote = rw (eq-eqb b 34 quote) refl

pub text_escape : (text : List ℕ) (at b : ℕ) (bs : List ℕ) → b ≡ 92 → text_from text at (b ∷ bs) ≡ escape_from text (at + 1) bs
unfolding words_from
text_escape text at b bs escape =
    let plain : b ≢ 34 = omega arith in
    rw (ne_eqb b 34 plain, eq-eqb b 92 escape) refl

pub text_plain : (text : List ℕ) (at b : ℕ) (bs : List ℕ) → b ≢ 34 → b ≢ 92 → text_from text at (b ∷ bs) ≡ cond (is_text_byte b && nat_lt (length text) 256) (text_from (text ++ b ∷ []) (at + 1) bs) None
unfolding words_from
text_plain text at b bs plain unescaped = rw (ne_eqb b 34 plain, ne_eqb b 92 unescaped) refl

pub escape_end : (text : List ℕ) (at : ℕ) → escape_from text at [] ≡ None
unfolding words_from
escape_end text at = refl

pub escape_more : (text : List ℕ) (at b : ℕ) (bs : List ℕ) → escape_from text at (b ∷ bs) ≡ cond ((b == 34 || b == 92) && nat_lt (length text) 256) (text_from (text ++ b ∷ []) (at + 1) bs) None
unfolding words_from
escape_more text at b bs = refl

-- after a text word
pub after_end : (text : List ℕ) (at : ℕ) → after_text text at [] ≡ with_word (Text text) (words_from at [])
unfolding words_from
after_end text at = refl

pub after_space : (text : List ℕ) (at b : ℕ) (bs : List ℕ) → b ≡ 32 → after_text text at (b ∷ bs) ≡ with_word (Text text) (words_from at (b ∷ bs))
unfolding words_from
after_space text at b bs space = rw (eq-eqb b 32 space) refl

pub after_other : (text : List ℕ) (at b : ℕ) (bs : List ℕ) → b ≢ 32 → after_text text at (b ∷ bs) ≡ None
unfolding words_from
after_other text at b bs other_byte = rw (ne_eqb b 32 other_byte) refl
