-- What the words from a place of a line on are, by the byte at that place of the line.
use Rattle.std.proofs.Common.{◌≡◌, ◌≢◌, ℕ, ◌+◌, ◌<◌, ◌≤◌, Bool, true, false, cond, ◌==◌, ◌||◌, ◌&&◌, nat_lt, List, []}
use Rattle.std.proofs.Common.{◌∷◌, ◌++◌, length, get_or, drop, Option, Some, None, refl, sym, ◌∙◌, ap, arith, append-nil}
use Rattle.std.specs.Option.{option_map}
use Rattle.std.proofs.lemmas.Bool.Decides.{nat_tests}
use Rattle.std.proofs.lemmas.List.{drop_all, drop_more}
use Rattle.dt_lists.proofs.Callers.{joined_more, joined_none}
use Rattle.dt_text.specs.Texts.{is_text_byte, IsStr}
use Rattle.dt_text.specs.Words.{is_visible}
use Rattle.dt_text.specs.Reading.{with_word, words_from, text_from, after_text, BareEndsAt, words_of}
use Rattle.dt_text.specs.ReadingInner.{WordAt, TextEndsAt, ItemAt}
use Rattle.dt_text.proofs.ReadingSteps as step
use Rattle.dt_text.specs.declared.word.Word.{Word}
use Rattle.dt_text.specs.declared.word.Word.TheVariants.{Bare, Text}

-- a space between words
pub gap_step : (line : List ℕ) (at : ℕ) → at < length line → get_or line at 0 ≡ 32 → words_from at (drop at line) ≡ words_from (at + 1) (drop (at + 1) line)
gap_step line at inside space = rw (drop_more line at 0 inside) (step.gap_space at _ _ space)

-- one more byte of a bare word
pub bare_step : (line : List ℕ) (at end : ℕ) → at < length line → is_visible (get_or line at 0) ≡ true → BareEndsAt line (at + 1) end → BareEndsAt line at end
bare_step line at end inside visible rest from = rw (drop_more line at 0 inside) (step.bare_more from at _ _ visible ∙ rest from)

-- the end of a bare word
pub bare_stop : (line : List ℕ) (at : ℕ) → at < length line → is_visible (get_or line at 0) ≡ false → BareEndsAt line at at
bare_stop line at inside over from = rw (drop_more line at 0 inside) (step.bare_over from at _ _ over)

pub bare_at_end : (line : List ℕ) (at : ℕ) → length line ≤ at → BareEndsAt line at at
bare_at_end line at past from = rw (drop_all at line past) (step.bare_end from at)

-- a bare word begins
pub bare_begins : (line : List ℕ) (at end : ℕ) → at < length line → get_or line at 0 ≢ 34 → is_visible (get_or line at 0) ≡ true → BareEndsAt line (at + 1) end
    → words_from at (drop at line) ≡ with_word (Bare at end) (words_from end (drop end line))
bare_begins line at end inside plain visible ends = rw (drop_more line at 0 inside) (step.gap_bare at _ _ plain visible ∙ ends at)

-- a bare word
pub bare_word : (line : List ℕ) (at end : ℕ) → at < length line → get_or line at 0 ≢ 34 → is_visible (get_or line at 0) ≡ true → at + 1 ≤ end
    → end ≤ length line → BareEndsAt line (at + 1) end → WordAt line at (Some (Bare at end, end))
bare_word line at end inside plain visible after within ends =
    (omega arith, within, (omega arith, within), bare_begins line at end inside plain visible ends)

-- no word
pub no_word : (line : List ℕ) (at : ℕ) → at < length line → get_or line at 0 ≢ 32 → is_visible (get_or line at 0) ≡ false → WordAt line at None
no_word line at inside no_space bad = rw (drop_more line at 0 inside) (step.gap_bad at _ _ no_space bad)

-- a text word begins
pub text_begins : (line : List ℕ) (at : ℕ) → at < length line → get_or line at 0 ≡ 34 → words_from at (drop at line) ≡ text_from [] (at + 1) (drop (at + 1) line)
text_begins line at inside quote = rw (drop_more line at 0 inside) (step.gap_quote at _ _ quote)

-- the last `"` of a text word
pub text_closes : (line text : List ℕ) (at : ℕ) → at < length line → get_or line at 0 ≡ 34 → text_from text at (drop at line) ≡ after_text text (at + 1) (drop (at + 1) line)
text_closes line text at inside quote = rw (drop_more line at 0 inside) (step.text_quote text at _ _ quote)

-- a text word without its last `"`
pub text_open : (line text : List ℕ) (at : ℕ) → length line ≤ at → text_from text at (drop at line) ≡ None
text_open line text at past = rw (drop_all at line past) (step.text_end text at)

-- after a text word
pub text_ends : (line text : List ℕ) (end : ℕ) → end ≤ length line → (end < length line → get_or line end 0 ≡ 32) → TextEndsAt line text end (Some (Text text, end))
text_ends line text end within may = (refl, refl, by_end (nat_lt end (length line)) refl)
  where
    by_end : (inside : Bool) → nat_lt end (length line) ≡ inside → after_text text end (drop end line) ≡ with_word (Text text) (words_from end (drop end line))
    by_end true e = let inside : end < length line = grind (arith, nat_tests) in rw (drop_more line end 0 inside) (step.after_space text end _ _ (may inside))
    by_end false e = let past : length line ≤ end = grind (arith, nat_tests) in rw (drop_all end line past) (step.after_end text end)

pub text_goes_on : (line text : List ℕ) (end : ℕ) → end < length line → get_or line end 0 ≢ 32 → TextEndsAt line text end None
text_goes_on line text end inside no_space = rw (drop_more line end 0 inside) (step.after_other text end _ _ no_space)

-- the items of a text word
pub plain_item : (line : List ℕ) (at : ℕ) → at < length line → get_or line at 0 ≢ 34 → get_or line at 0 ≢ 92 → is_text_byte (get_or line at 0) ≡ true → ItemAt line at (Some (get_or line at 0, at + 1))
plain_item line at inside plain unescaped allowed =
    (omega arith, omega arith, allowed, λ text. rw (drop_more line at 0 inside) (step.text_plain text at _ _ plain unescaped ∙ rw allowed refl))

pub bad_item : (line : List ℕ) (at : ℕ) → at < length line → get_or line at 0 ≢ 34 → get_or line at 0 ≢ 92 → is_text_byte (get_or line at 0) ≡ false → ItemAt line at None
bad_item line at inside plain unescaped bad = λ text. rw (drop_more line at 0 inside) (step.text_plain text at _ _ plain unescaped ∙ rw bad refl)

pub cut_item : (line : List ℕ) (at : ℕ) → at < length line → get_or line at 0 ≡ 92 → at + 1 ≡ length line → ItemAt line at None
cut_item line at inside escape last = λ text.
    let past : length line ≤ at + 1 = omega arith in
    rw (drop_more line at 0 inside) (step.text_escape text at _ _ escape ∙ rw (drop_all (at + 1) line past) (step.escape_end text (at + 1)))

escaped : (line text : List ℕ) (at : ℕ) → at + 1 < length line → get_or line at 0 ≡ 92
    → text_from text at (drop at line) ≡ cond ((get_or line (at + 1) 0 == 34 || get_or line (at + 1) 0 == 92) && nat_lt (length text) 256) (text_from (text ++ get_or line (at + 1) 0 ∷ []) (at + 1 + 1) (drop (at + 1 + 1) line)) None
escaped line text at inside escape =
    let here : at < length line = omega arith in
    rw (drop_more line at 0 here) (step.text_escape text at _ _ escape ∙ rw (drop_more line (at + 1) 0 inside) (step.escape_more text (at + 1) _ _))

pub escaped_item : (line : List ℕ) (at : ℕ) → at + 1 < length line → get_or line at 0 ≡ 92 → (get_or line (at + 1) 0 == 34 || get_or line (at + 1) 0 == 92) ≡ true → ItemAt line at (Some (get_or line (at + 1) 0, at + 2))
escaped_item line at inside escape which =
    let next : at + 2 ≡ at + 1 + 1 = omega arith in
    (omega arith, omega arith, grind (arith, nat_tests), λ text. rw next (escaped line text at inside escape ∙ rw which refl))

pub bad_escape : (line : List ℕ) (at : ℕ) → at + 1 < length line → get_or line at 0 ≡ 92 → (get_or line (at + 1) 0 == 34 || get_or line (at + 1) 0 == 92) ≡ false → ItemAt line at None
bad_escape line at inside escape which = λ text. escaped line text at inside escape ∙ rw which refl

-- a text word, from its first `"` to its last
pub text_word_at : (line text : List ℕ) (at close : ℕ) (found : Option (Word × ℕ)) → at < close → close < length line → get_or line close 0 ≡ 34 → IsStr text
    → words_from at (drop at line) ≡ text_from text close (drop close line) → TextEndsAt line text (close + 1) found → WordAt line at found
text_word_at line text at close None after inside quote allowed begun ended = begun ∙ (text_closes line text close inside quote ∙ ended)
text_word_at line text at close (Some (word, end)) after inside quote allowed begun (is, there, ended) =
    rw (is, there) (omega arith, omega arith, allowed, begun ∙ (text_closes line text close inside quote ∙ ended))

-- no word is found yet, and only spaces stand before the place
pub words_begin : (line : List ℕ) (found : List Word) (at : ℕ) → found ≡ [] → words_from 0 (drop 0 line) ≡ words_from at (drop at line) → option_map (λ ws. found ++ ws) (words_from at (drop at line)) ≡ words_of line
unfolding words_of
words_begin line found at none gap = rw (none, joined_none) (sym gap)

-- one word more is found, and only spaces stand between it and the place
pub words_go_on : (line : List ℕ) (found : List Word) (word : Word) (all : Option (List Word)) (at end next : ℕ)
    → option_map (λ ws. found ++ ws) (words_from at (drop at line)) ≡ all → words_from at (drop at line) ≡ with_word word (words_from end (drop end line))
    → words_from end (drop end line) ≡ words_from next (drop next line) → option_map (λ ws. (found ++ word ∷ []) ++ ws) (words_from next (drop next line)) ≡ all
words_go_on line found word all at end next before one gap =
    joined_more found word (words_from next (drop next line)) ∙ (ap (λ ws. option_map (λ vs. found ++ vs) (with_word word ws)) (sym gap) ∙ (ap (λ ws. option_map (λ vs. found ++ vs) ws) (sym one) ∙ before))

-- no word begins at the end
pub no_more : (line : List ℕ) (at : ℕ) → length line ≤ at → words_from at (drop at line) ≡ Some []
no_more line at past = rw (drop_all at line past) (step.gap_end at)

-- each word is found
pub words_end : (line : List ℕ) (found : List Word) (all : Option (List Word)) (at : ℕ) → length line ≤ at → option_map (λ ws. found ++ ws) (words_from at (drop at line)) ≡ all → Some found ≡ all
words_end line found all at past before =
    ap Some (sym (append-nil found)) ∙ (ap (λ ws. option_map (λ vs. found ++ vs) ws) (sym (no_more line at past)) ∙ before)
