-- How the tokens of some bytes come from those of what is left of them.
use Rattle.std.proofs.Common.{◌≡◌, ℕ, zero, suc, ◌+◌, ◌<◌, Bool, true, false, cond, ◌==◌, ◌||◌, List, [], ◌∷◌, ◌++◌, length, take, drop, Option}
use Rattle.std.proofs.Common.{refl, ap, ◌∙◌, arith, take_while, get_or, eq-eqb}
use Rattle.std.proofs.lemmas.Bool.Decides.{nat_tests}
use Rattle.std.proofs.lemmas.List.{drop_more, drop-drop}
use Rattle.std.proofs.lemmas.List.Folds.{length-prefix_len}
use Rattle.std.proofs.lemmas.List.Sums.{take_while-cons}
use Rattle.std.specs.Option.{option_map}
use Rattle.std.specs.List.{list_all}
use Rattle.dt_text.specs.Texts.{is_text_byte}
use Rattle.dt_syntax.specs.Tokens.{tokens_from, with_front, front_token, is_blank, is_no_line_end, BeginsToken}

-- what was read of a text, and what comes after it
abbrev pub with_items : List ℕ → Option (List ℕ × List ℕ) → Option (List ℕ × List ℕ)
with_items read rest = option_map (λ r. (read ++ r.0, r.1)) rest

-- bytes that were dealt with already are passed over
pub passed : (told at : ℕ) (bs : List ℕ) → tokens_from told at bs ≡ tokens_from 0 (at + told) (drop told bs)
unfolding tokens_from
passed zero at bs = ap (λ n. tokens_from 0 n bs) (omega arith)
passed (suc told) at [] = refl
passed (suc told) at (b ∷ bs) = passed told (at + 1) bs ∙ ap (λ n. tokens_from 0 n (drop told bs)) (omega arith)

-- a blank is passed over
pub gap_blank : (bs : List ℕ) (i : ℕ) → i < length bs → is_blank (get_or bs i 0) ≡ true →
    tokens_from 0 i (drop i bs) ≡ tokens_from 0 (i + 1) (drop (i + 1) bs)
unfolding tokens_from
gap_blank bs i lt blank = rw (drop_more bs i 0 lt, blank) refl

-- a comment is passed over
pub gap_comment : (bs : List ℕ) (i k : ℕ) → i < length bs → is_blank (get_or bs i 0) ≡ false → get_or bs i 0 ≡ 35 →
    k ≡ length (take_while is_no_line_end (drop (i + 1) bs)) →
    tokens_from 0 i (drop i bs) ≡ tokens_from 0 (i + 1 + k) (drop (i + 1 + k) bs)
unfolding tokens_from
gap_comment bs i k lt blank hash is =
    let test : (get_or bs i 0 == 35) ≡ true = eq-eqb _ _ hash in
    rw (drop_more bs i 0 lt, blank, test, ← is) (passed k (i + 1) (drop (i + 1) bs) ∙ ap (tokens_from 0 (i + 1 + k)) (drop-drop k (i + 1) bs))

-- what a token begins is that token, and then what follows it
pub at_front : (b : ℕ) (bs : List ℕ) (at : ℕ) → BeginsToken (b ∷ bs) →
    tokens_from 0 at (b ∷ bs) ≡ with_front at (front_token (b ∷ bs)) (λ more. tokens_from more (at + 1) bs)
unfolding tokens_from
at_front b bs at begins = rw (begins.0, begins.1) refl

pub take_while_front : (p : ℕ → Bool) (bs : List ℕ) → take (length (take_while p bs)) bs ≡ take_while p bs
take_while_front p bs = ap (λ n. take n bs) (length-prefix_len p bs)

all_of : (p : ℕ → Bool) (b : ℕ) (bs : List ℕ) (v : Bool) → p b ≡ v → list_all p bs ≡ true → list_all p (cond v (b ∷ bs) []) ≡ true
all_of p b bs true e h = rw e h
all_of p b bs false e h = refl

-- what is taken passes
pub all_taken : (p : ℕ → Bool) (bs : List ℕ) → list_all p (take_while p bs) ≡ true
all_taken p [] = refl
all_taken p (b ∷ bs) = rw (take_while-cons p b bs) (all_of p b (take_while p bs) (p b) refl (all_taken p bs))

-- a `"` and a `\` may stand in a text
pub quote_or_slash : (b : ℕ) → (b == 34 || b == 92) ≡ true → is_text_byte b ≡ true
quote_or_slash b e = grind (arith, nat_tests)
