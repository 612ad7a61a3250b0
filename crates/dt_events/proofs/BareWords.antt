-- The bare words of a line, found one by one from a place on.
use Rattle.std.proofs.Common.{◌≡◌, ◌≢◌, ℕ, ◌+◌, ◌<◌, ◌≤◌, Bool, true, false, cond, ◌==◌, ◌||◌, ◌&&◌, nat_lt, List, []}
use Rattle.std.proofs.Common.{◌∷◌, ◌++◌, length, get_or, drop, map, Option, Some, None, refl, sym, ◌∙◌, ap, append-nil}
use Rattle.std.specs.Option.{option_map}
use Rattle.std.specs.List.{slice_range}
use Rattle.std.proofs.lemmas.Option.{same_Some}
use Rattle.dt_lists.proofs.Callers.{joined_more, joined_none, same_head, same_tail}
use Rattle.dt_text.specs.Texts.{is_text_byte}
use Rattle.dt_text.specs.Words.{is_visible}
use Rattle.dt_text.specs.Reading.{with_word, words_from, text_from, escape_from, after_text, BareEndsAt, words_of}
use Rattle.dt_text.proofs.Callers.{bare_begins, exact, no_more, no_word, text_begins}
use Rattle.dt_text.specs.declared.word.Word.{Word}
use Rattle.dt_text.specs.declared.word.Word.TheVariants.{Bare, Text}
use Rattle.dt_events.specs.Events.{bare_bytes, AreBareWords}

-- one more word before others, if it is bare
abbrev pub onto : Option (List ℕ) → Option (List (List ℕ)) → Option (List (List ℕ))
onto None bares = None
onto (Some word) bares = option_map (λ ws. word ∷ ws) bares

-- the bytes of the words, if all are bare
abbrev pub all_bare : List ℕ → List Word → Option (List (List ℕ))
all_bare line [] = Some []
all_bare line (word ∷ words) = onto (bare_bytes line word) (all_bare line words)

-- the same, if there are words
abbrev pub bares : List ℕ → Option (List Word) → Option (List (List ℕ))
bares line None = None
bares line (Some words) = all_bare line words

bares-with : (line : List ℕ) (word : Word) (words : Option (List Word)) → bares line (with_word word words) ≡ onto (bare_bytes line word) (bares line words)
bares-with line (Bare from to) None = refl
bares-with line (Text text) None = refl
bares-with line word (Some words) = refl

bares-cond : (line : List ℕ) (test : Bool) (xs ys : Option (List Word)) → bares line xs ≡ None → bares line ys ≡ None → bares line (cond test xs ys) ≡ None
bares-cond line true xs ys x y = x
bares-cond line false xs ys x y = y

-- after a text word there are no words that are all bare
bares-after : (line text : List ℕ) (at : ℕ) (bs : List ℕ) → bares line (after_text text at bs) ≡ None
unfolding words_from
bares-after line text at [] = refl
bares-after line text at (b ∷ bs) = bares-cond line (b == 32) _ _ (bares-with line (Text text) _) refl

mutual
  unfolding words_from

  bares-text : (line text : List ℕ) (at : ℕ) (bs : List ℕ) → bares line (text_from text at bs) ≡ None
  bares-text line text at [] = refl
  bares-text line text at (b ∷ bs) =
      bares-cond line (b == 34) _ _ (bares-after line text (at + 1) bs)
      (bares-cond line (b == 92) _ _ (bares-escape line text (at + 1) bs) (bares-cond line (is_text_byte b && nat_lt (length text) 256) _ _ (bares-text line (text ++ b ∷ []) (at + 1) bs) refl))

  bares-escape : (line text : List ℕ) (at : ℕ) (bs : List ℕ) → bares line (escape_from text at bs) ≡ None
  bares-escape line text at [] = refl
  bares-escape line text at (b ∷ bs) = bares-cond line ((b == 34 || b == 92) && nat_lt (length text) 256) _ _ (bares-text line (text ++ b ∷ []) (at + 1) bs) refl

-- the bare words from a place of a line on
abbrev pub bares_from : List ℕ → ℕ → Option (List (List ℕ))
bares_from line at = bares line (words_from at (drop at line))

-- no bare word begins at the place
pub no_bare : (line : List ℕ) (at : ℕ) → at < length line → get_or line at 0 ≢ 32 → is_visible (get_or line at 0) ≡ false → bares_from line at ≡ None
no_bare line at inside no_space bad = ap (bares line) (no_word line at inside no_space bad)

pub no_bare_text : (line : List ℕ) (at : ℕ) → at < length line → get_or line at 0 ≡ 34 → bares_from line at ≡ None
no_bare_text line at inside quote = ap (bares line) (text_begins line at inside quote) ∙ bares-text line [] (at + 1) _

-- a bare word from one place to another
one_bare : (line : List ℕ) (at end : ℕ) → at < length line → get_or line at 0 ≢ 34 → is_visible (get_or line at 0) ≡ true → BareEndsAt line (at + 1) end
    → bares_from line at ≡ option_map (λ ws. slice_range line at end ∷ ws) (bares_from line end)
one_bare line at end inside plain visible ends =
    ap (bares line) (bare_begins line at end inside plain visible ends) ∙ bares-with line (Bare at end) (words_from end (drop end line))

-- ---- the words of a line

-- those found, and those from the place on, are those of the line
abbrev pub AreSoFar : List ℕ → List (List ℕ) → ℕ → Type 0
AreSoFar line found at = option_map (λ ws. found ++ ws) (bares_from line at) ≡ bares line (words_of line)

-- no word is found yet, and only spaces stand before the place
pub bares_begin : (line : List ℕ) (found : List (List ℕ)) (at : ℕ) → found ≡ [] → words_from 0 (drop 0 line) ≡ words_from at (drop at line) → AreSoFar line found at
unfolding words_of
bares_begin line found at none gap = rw (none, joined_none) (ap (bares line) (sym gap))

-- one word more is found, and only spaces stand between it and the next place
pub bares_go_on : (line : List ℕ) (found : List (List ℕ)) (at end next : ℕ) → AreSoFar line found at → at < length line → get_or line at 0 ≢ 34 → is_visible (get_or line at 0) ≡ true
    → BareEndsAt line (at + 1) end → words_from end (drop end line) ≡ words_from next (drop next line) → AreSoFar line (found ++ slice_range line at end ∷ []) next
bares_go_on line found at end next before inside plain visible ends gap =
    joined_more found (slice_range line at end) (bares_from line next)
    ∙ ap (λ ws. option_map (λ vs. found ++ vs) (option_map (λ vs. slice_range line at end ∷ vs) (bares line ws))) (sym gap)
    ∙ ap (λ ws. option_map (λ vs. found ++ vs) ws) (sym (one_bare line at end inside plain visible ends))
    ∙ before

-- ---- the whole line

all_bare-map : (line : List ℕ) (words : List Word) (found : List (List ℕ)) → all_bare line words ≡ Some found → map (bare_bytes line) words ≡ map (λ w. Some w) found
all_bare-map line [] [] e = refl
all_bare-map line [] (w ∷ found) e = let h = same_Some _ _ e in cc
all_bare-map line (Text text ∷ words) found e = cc
all_bare-map line (Bare from to ∷ words) found e = by_rest (all_bare line words) (all_bare-map line words) e
  where
    by_rest : (rest : Option (List (List ℕ))) → ((ws : List (List ℕ)) → rest ≡ Some ws → map (bare_bytes line) words ≡ map (λ w. Some w) ws)
        → option_map (λ ws. slice_range line from to ∷ ws) rest ≡ Some found → map (bare_bytes line) (Bare from to ∷ words) ≡ map (λ w. Some w) found
    by_rest None others e = cc
    by_rest (Some ws) others e = rw (sym (same_Some _ _ e)) (ap (λ ms. Some (slice_range line from to) ∷ ms) (others ws refl))

map-all_bare : (line : List ℕ) (words : List Word) (found : List (List ℕ)) → map (bare_bytes line) words ≡ map (λ w. Some w) found → all_bare line words ≡ Some found
map-all_bare line [] [] e = refl
map-all_bare line [] (w ∷ found) e = cc
map-all_bare line (word ∷ words) [] e = cc
map-all_bare line (word ∷ words) (w ∷ found) e = rw (same_head e, map-all_bare line words found (same_tail e)) refl

-- each word is found
pub are_found : (line : List ℕ) (found : List (List ℕ)) (at : ℕ) → length line ≤ at → AreSoFar line found at → AreBareWords line found
are_found line found at past before = by_words (words_of line) refl
  where
    all : bares line (words_of line) ≡ Some found
    all = sym before ∙ ap (λ ws. option_map (λ vs. found ++ vs) (bares line ws)) (no_more line at past) ∙ ap Some (append-nil found)

    by_words : (words : Option (List Word)) → words_of line ≡ words → AreBareWords line found
    by_words None e = let h = ap (bares line) (sym e) ∙ all in cc
    by_words (Some words) e = (words, (exact line words).0 e, all_bare-map line words found (ap (bares line) (sym e) ∙ all))

-- a word from the place on is not bare, or the line is not made of words
pub none_found : (line : List ℕ) (found : List (List ℕ)) (at : ℕ) → AreSoFar line found at → bares_from line at ≡ None → (others : List (List ℕ)) → ¬ AreBareWords line others
none_found line found at before none others (words, are, same) =
    let is : words_of line ≡ Some words = (exact line words).1 are in
    let all : bares line (words_of line) ≡ Some others = ap (bares line) is ∙ map-all_bare line words others same in
    let no : bares line (words_of line) ≡ None = sym before ∙ ap (λ ws. option_map (λ vs. found ++ vs) ws) none in
    cc
