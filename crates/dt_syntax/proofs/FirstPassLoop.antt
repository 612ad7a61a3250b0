-- How the first pass goes on over a text.
use Rattle.std.proofs.Common.{◌≡◌, inl, inr, ℕ, zero, suc, ◌+◌, ◌-◌, ◌<◌, ◌≤◌, ◌^◌, Bool, true, false, cond, ◌==◌, List, [], ◌∷◌, ◌++◌, length, drop}
use Rattle.std.proofs.Common.{take_while, Option, Some, None, refl, sym, ap, ◌∙◌, subst, arith, get_or, append_assoc, append-nil, length-append, length-drop}
use Rattle.std.specs.Option.{option_map}
use Rattle.std.proofs.lemmas.List.{drop_more, drop_all, drop-drop}
use Rattle.dt_text.specs.Texts.{is_name_byte}
use Rattle.dt_syntax.specs.declared.token.Token.{Token}
use Rattle.dt_syntax.specs.declared.token.Placed.{Placed}
use Rattle.dt_syntax.specs.declared.machine.Sym.{Sym}
use Rattle.dt_syntax.specs.declared.machine.Sym.TheVariants as expect
use Rattle.dt_syntax.specs.declared.counts.Counts.{Counts}
use Rattle.dt_syntax.specs.Tokens.{tokens_of, tokens_from, Lexed, with_front, front_token, front_word, word_token, text_after, text_found, items_of}
use Rattle.dt_syntax.specs.Tokens.{sign_before, single_sign, double_sign, first_of, Sized, BeginsToken}
use Rattle.dt_syntax.specs.Grammar.{at}
use Rattle.dt_syntax.specs.MachineInner.{advance, onward, run}
use Rattle.dt_syntax.specs.FirstPass.{is_proc, is_mode, is_comma, is_close, is_opening, is_closing, is_of_expression, is_too_many, NoneTooMany, StartsWell}
use Rattle.dt_syntax.specs.FirstPass.{PassesFirst, IsSyntaxFault, IsTooMany, backwards}
use Rattle.dt_syntax.specs.CountsInner.{counts_of, AreAtMost}
use Rattle.dt_syntax.proofs.MachineComplete.{grammar_read, beginning_read, run_joined}
use Rattle.dt_syntax.proofs.MachineSound.{read_begins, read_whole}
use Rattle.std.proofs.lemmas.List.Folds.{length-prefix_len}
use Rattle.std.proofs.lemmas.List.Sums.{take_while-cons, prefix_len-le-length}
use Rattle.dt_lists.proofs.Callers.{none_some, some_same}
use Rattle.dt_syntax.proofs.LexerLemmas.{passed, at_front}

-- the size of a token
abbrev pub FitsSize : ℕ → Option Sized → Type 0
FitsSize most None = Unit {0}
FitsSize most (Some s) = (1 ≤ s.1) × (s.1 ≤ most)

fits_map : (most n : ℕ) (o : Option Token) → 1 ≤ n → n ≤ most → FitsSize most (option_map (λ t. (t, n)) o)
fits_map most n None low high = tt
fits_map most n (Some t) low high = (low, high)

fits_first : (most : ℕ) (a b : Option Sized) → FitsSize most a → FitsSize most b → FitsSize most (first_of a b)
fits_first most None b fa fb = fb
fits_first most (Some s) b fa fb = fa

fits_text : (b : Bool) (t : Token) (n most : ℕ) → n + 1 ≤ most → FitsSize most (cond b (Some (t, n + 1)) None)
fits_text true t n most h = (omega arith, h)
fits_text false t n most h = tt

found_fits : (bs : List ℕ) (o : Option (List ℕ × List ℕ)) → FitsSize (suc (length bs)) (text_found bs o)
found_fits bs None = tt
found_fits bs (Some r) = fits_text _ _ (length bs - length r.1) (suc (length bs)) (omega arith)

sign_fits : (b : ℕ) (bs : List ℕ) → FitsSize (suc (length bs)) (sign_before b bs)
sign_fits b [] = fits_map _ 1 (single_sign b) (omega arith) (omega arith)
sign_fits b (c ∷ bs) =
    fits_first _ _ _ (fits_map _ 2 (double_sign b c) (omega arith) (omega arith)) (fits_map _ 1 (single_sign b) (omega arith) (omega arith))

taken_short : (p : ℕ → Bool) (bs : List ℕ) → length (take_while p bs) ≤ length bs
taken_short p bs = subst (λ n. n ≤ length bs) (sym (length-prefix_len p bs)) (prefix_len-le-length p bs)

some_taken : (b : ℕ) (bs : List ℕ) → is_name_byte b ≡ true → 1 ≤ length (take_while is_name_byte (b ∷ bs))
some_taken b bs e = rw (take_while-cons is_name_byte b bs, e) (omega arith)

chosen_fits : (v : Bool) (b : ℕ) (bs : List ℕ) → is_name_byte b ≡ v →
    FitsSize (suc (length bs)) (cond v (front_word (b ∷ bs)) (cond (b == 34) (text_after bs) (sign_before b bs)))
chosen_fits true b bs e = fits_map (suc (length bs)) (length (take_while is_name_byte (b ∷ bs))) (word_token (take_while is_name_byte (b ∷ bs))) (some_taken b bs e) (taken_short is_name_byte (b ∷ bs))
chosen_fits false b bs e = quoted (b == 34)
  where
    quoted : (q : Bool) → FitsSize (suc (length bs)) (cond q (text_after bs) (sign_before b bs))
    quoted true = found_fits bs (items_of bs)
    quoted false = sign_fits b bs

pub front_fits : (bs : List ℕ) → FitsSize (length bs) (front_token bs)
front_fits [] = tt
front_fits (b ∷ bs) = chosen_fits (is_name_byte b) b bs refl

-- tokens before others
abbrev pub before : List Placed → Lexed → Lexed
before ts l = record l { tokens = ts ++ l.tokens }

-- the first pass has read these tokens, and is at this place
pub record Reading (text : List ℕ) (tokens : List Placed) (stack : List Sym) (counts : Counts) (place : ℕ) : Type 0 where
  pub within : place ≤ length text
  pub starts : BeginsToken (drop place text)
  pub lexed : tokens_of text ≡ before tokens (tokens_from 0 place (drop place text))
  pub read : run (expect.Procs ∷ []) tokens ≡ Some stack
  pub few : NoneTooMany [] tokens
  pub counted : counts ≡ counts_of (backwards tokens [])
  pub short : length tokens ≤ place

-- at the end of the text there are no more tokens
no_more : (text : List ℕ) (place : ℕ) → length text ≤ place → tokens_from 0 place (drop place text) ≡ record { tokens = []; bad = None }
unfolding tokens_from
no_more text place le = rw (drop_all place text le) refl

some_byte : (text : List ℕ) (place : ℕ) → place < length text → (b : ℕ) × (bs : List ℕ) × (drop place text ≡ b ∷ bs)
some_byte text place lt = (get_or text place 0, drop (place + 1) text, drop_more text place 0 lt)

-- where no token begins, the place is bad
pub no_front : (text : List ℕ) (place : ℕ) → place < length text → BeginsToken (drop place text) → front_token (drop place text) ≡ None →
    tokens_from 0 place (drop place text) ≡ record { tokens = []; bad = Some place }
no_front text place lt starts none =
    let b = some_byte text place lt in
    let here = at_front b.0 b.1 place (subst BeginsToken b.2 starts) in
    let front : front_token (b.0 ∷ b.1) ≡ None = subst (λ v. front_token v ≡ None) b.2 none in
    ap (tokens_from 0 place) b.2 ∙ here ∙ ap (λ o. with_front place o (λ more. tokens_from more (place + 1) b.1)) front

-- where one begins, it is the next token
pub next_front : (text : List ℕ) (place : ℕ) (t : Token) (n : ℕ) → place < length text → BeginsToken (drop place text) → front_token (drop place text) ≡ Some (t, n) →
    tokens_from 0 place (drop place text) ≡ before (at place t ∷ []) (tokens_from 0 (place + n) (drop (place + n) text))
next_front text place t n lt starts is =
    let b = some_byte text place lt in
    let here = at_front b.0 b.1 place (subst BeginsToken b.2 starts) in
    let front : front_token (b.0 ∷ b.1) ≡ Some (t, n) = subst (λ v. front_token v ≡ Some (t, n)) b.2 is in
    let fits : FitsSize (length (b.0 ∷ b.1)) (Some (t, n)) = subst (FitsSize (length (b.0 ∷ b.1))) front (front_fits (b.0 ∷ b.1)) in
    let over = passed (n - 1) (place + 1) b.1 in
    let stands : place + 1 + (n - 1) ≡ place + n = omega (arith, fits.0) in
    let left : drop (n - 1) b.1 ≡ drop (place + n) text = left_is text place n b.0 b.1 b.2 fits.0 in
    ap (tokens_from 0 place) b.2 ∙ here ∙ ap (λ o. with_front place o (λ more. tokens_from more (place + 1) b.1)) front
    ∙ ap (before (at place t ∷ [])) (over ∙ ap (λ k. tokens_from 0 k (drop (n - 1) b.1)) stands ∙ ap (tokens_from 0 (place + n)) left)
  where
    left_is : (text : List ℕ) (place n b : ℕ) (bs : List ℕ) → drop place text ≡ b ∷ bs → 1 ≤ n → drop (n - 1) bs ≡ drop (place + n) text
    left_is text place (suc m) b bs e some =
        let one : suc m - 1 ≡ m = omega arith in
        ap (λ k. drop k bs) one ∙ ap (drop (suc m)) (sym e) ∙ drop-drop (suc m) place text
    left_is text place zero b bs e some = absurd (omega arith)

pub front_within : (text : List ℕ) (place : ℕ) (t : Token) (n : ℕ) → place < length text → front_token (drop place text) ≡ Some (t, n) →
    (1 ≤ n) × (place + n ≤ length text)
front_within text place t n lt is =
    let fits : FitsSize (length (drop place text)) (Some (t, n)) = subst (FitsSize (length (drop place text))) is (front_fits (drop place text)) in
    (fits.0, omega (arith, fits.1, length-drop place text))

pub few_more : (earlier ts : List Placed) (t : Placed) → NoneTooMany earlier ts → is_too_many (backwards ts earlier) t.token ≡ false → NoneTooMany earlier (ts ++ t ∷ [])
few_more earlier [] t few is = (is, tt)
few_more earlier (u ∷ ts) t few is = (few.0, few_more (u ∷ earlier) ts t few.1 is)

pub backwards_more : (earlier ts : List Placed) (t : Placed) → backwards (ts ++ t ∷ []) earlier ≡ t ∷ backwards ts earlier
backwards_more earlier [] t = refl
backwards_more earlier (u ∷ ts) t = backwards_more (u ∷ earlier) ts t

pub run_more : (ts : List Placed) (t : Placed) (stack : List Sym) → run (expect.Procs ∷ []) ts ≡ Some stack →
    run (expect.Procs ∷ []) (ts ++ t ∷ []) ≡ onward (advance stack t.token) (λ after. Some after)
run_more ts t stack is = run_joined (expect.Procs ∷ []) ts (t ∷ []) ∙ ap (λ o. onward o (λ s. run s (t ∷ []))) is

before_joined : (ts us : List Placed) (l : Lexed) → before ts (before us l) ≡ before (ts ++ us) l
before_joined ts us l = λ i. record { tokens = sym (append_assoc ts us l.tokens) i; bad = l.bad }

-- one token more
pub reads_on : (text : List ℕ) (tokens : List Placed) (stack after : List Sym) (counts counted : Counts) (place next n : ℕ) (t : Token) →
    Reading text tokens stack counts place → place < length text → front_token (drop place text) ≡ Some (t, n) → advance stack t ≡ Some after →
    is_too_many (backwards tokens []) t ≡ false → counted ≡ counts_of (at place t ∷ backwards tokens []) → place + n ≤ next → next ≤ length text →
    tokens_from 0 (place + n) (drop (place + n) text) ≡ tokens_from 0 next (drop next text) → BeginsToken (drop next text) →
    Reading text (tokens ++ at place t ∷ []) after counted next
reads_on text tokens stack after counts counted place next n t r lt front goes few count over within same starts = record {
  within = within;
  starts = starts;
  lexed = r.lexed ∙ ap (before tokens) (next_front text place t n lt r.starts front ∙ ap (before (at place t ∷ [])) same)
      ∙ before_joined tokens (at place t ∷ []) (tokens_from 0 next (drop next text));
  read = run_more tokens (at place t) stack r.read ∙ ap (λ o. onward o (λ s. Some s)) goes;
  few = few_more [] tokens (at place t) r.few few;
  counted = count ∙ ap counts_of (sym (backwards_more [] tokens (at place t)));
  short = omega (arith, length-append tokens (at place t ∷ []), r.short, (front_within text place t n lt front).0);
}

well : (text : List ℕ) (tokens : List Placed) (stack : List Sym) (counts : Counts) (place : ℕ) (after : List Placed) → Reading text tokens stack counts place →
    (tokens_from 0 place (drop place text)).tokens ≡ after → StartsWell text tokens after
well text tokens stack counts place after r is = record {
  tokens = ap (λ l. l.tokens) r.lexed ∙ ap (λ ts. tokens ++ ts) is;
  begins = read_begins tokens stack r.read;
  few = r.few;
}

pub bad_token : (text : List ℕ) (tokens : List Placed) (stack : List Sym) (counts : Counts) (place : ℕ) → Reading text tokens stack counts place → place < length text →
    front_token (drop place text) ≡ None → IsSyntaxFault text place
bad_token text tokens stack counts place r lt none =
    let here = no_front text place lt r.starts none in
    record { before = tokens; after = []; well = well text tokens stack counts place [] r (ap (λ l. l.tokens) here); told = inl (ap (λ l. l.bad) (r.lexed ∙ ap (before tokens) here)) }

pub refused : (text : List ℕ) (tokens : List Placed) (stack : List Sym) (counts : Counts) (place n : ℕ) (t : Token) → Reading text tokens stack counts place → place < length text →
    front_token (drop place text) ≡ Some (t, n) → advance stack t ≡ None → IsSyntaxFault text place
refused text tokens stack counts place n t r lt front none =
    let here = next_front text place t n lt r.starts front in
    record {
      before = tokens;
      after = at place t ∷ (tokens_from 0 (place + n) (drop (place + n) text)).tokens;
      well = well text tokens stack counts place _ r (ap (λ l. l.tokens) here);
      told = (
        refl,
        λ begins.
            let goes = beginning_read (tokens ++ at place t ∷ []) begins in
            let stops = run_more tokens (at place t) stack r.read ∙ ap (λ o. onward o (λ s. Some s)) none in
            none_some stops goes.1,
      );
    }

pub one_too_many : (text : List ℕ) (tokens : List Placed) (stack after : List Sym) (counts : Counts) (place n : ℕ) (t : Token) → Reading text tokens stack counts place → place < length text →
    front_token (drop place text) ≡ Some (t, n) → advance stack t ≡ Some after → is_too_many (backwards tokens []) t ≡ true → IsTooMany text place
one_too_many text tokens stack after counts place n t r lt front goes many =
    let here = next_front text place t n lt r.starts front in
    record {
      before = tokens;
      token = at place t;
      after = (tokens_from 0 (place + n) (drop (place + n) text)).tokens;
      well = well text tokens stack counts place _ r (ap (λ l. l.tokens) here);
      goes_on = read_begins (tokens ++ at place t ∷ []) after (run_more tokens (at place t) stack r.read ∙ ap (λ o. onward o (λ s. Some s)) goes);
      too_many = many;
      stands = refl;
    }

ended : (text : List ℕ) (tokens : List Placed) (stack : List Sym) (counts : Counts) (place : ℕ) → Reading text tokens stack counts place → length text ≤ place →
    tokens_of text ≡ record { tokens = tokens; bad = None }
ended text tokens stack counts place r le =
    r.lexed ∙ ap (before tokens) (no_more text place le) ∙ λ i. record { tokens = append-nil tokens i; bad = None }

pub passes : (text : List ℕ) (tokens : List Placed) (stack : List Sym) (counts : Counts) (place : ℕ) → Reading text tokens stack counts place → length text ≤ place →
    stack ≡ expect.Procs ∷ [] → PassesFirst text tokens
passes text tokens stack counts place r le is = record {
  whole = ended text tokens stack counts place r le;
  grammar = read_whole tokens (r.read ∙ ap Some is);
  few = r.few;
}

pub too_early : (text : List ℕ) (tokens : List Placed) (stack : List Sym) (counts : Counts) (place : ℕ) → Reading text tokens stack counts place → length text ≤ place →
    ¬ (stack ≡ expect.Procs ∷ []) → IsSyntaxFault text (length text)
too_early text tokens stack counts place r le other =
    let whole = ended text tokens stack counts place r le in
    record {
      before = tokens;
      after = [];
      well = record { tokens = ap (λ l. l.tokens) whole ∙ sym (append-nil tokens); begins = read_begins tokens stack r.read; few = r.few };
      told = inr (ap (λ l. l.bad) whole, refl, λ g. other (some_same (sym r.read ∙ grammar_read tokens g)));
    }

-- no count is above the number of the tokens
step_most : (p : Bool) (a n : ℕ) → a ≤ n → cond p (a + 1) a ≤ suc n
step_most true a n h = omega arith
step_most false a n h = omega arith

proc_most : (p q : Bool) (a n : ℕ) → a ≤ n → cond p 0 (cond q (a + 1) a) ≤ suc n
proc_most true q a n h = omega arith
proc_most false q a n h = step_most q a n h

row_most : (p : Bool) (a n : ℕ) → a ≤ n → cond p (a + 1) 0 ≤ suc n
row_most true a n h = omega arith
row_most false a n h = omega arith

open_most : (p q r : Bool) (a n : ℕ) → a ≤ n → cond p 0 (cond q (a + 1) (cond r (a - 1) a)) ≤ suc n
open_most true q r a n h = omega arith
open_most false true r a n h = omega arith
open_most false false true a n h = omega arith
open_most false false false a n h = omega arith

counts_most : (earlier : List Placed) → AreAtMost (length earlier) (counts_of earlier)
counts_most [] = (omega arith, omega arith, omega arith, omega arith, omega arith, omega arith)
counts_most (t ∷ earlier) =
    let h = counts_most earlier in (
      step_most (is_proc t.token) _ _ h.0,
      proc_most (is_proc t.token) (is_close t.token) _ _ h.1,
      proc_most (is_proc t.token) (is_comma t.token) _ _ h.2,
      proc_most (is_proc t.token) (is_mode t.token) _ _ h.3,
      row_most (is_of_expression t.token) _ _ h.4,
      open_most (is_proc t.token) (is_opening t.token) (is_closing t.token) _ _ h.5,
    )

length-backwards : (ts earlier : List Placed) → length (backwards ts earlier) ≡ length ts + length earlier
length-backwards [] earlier = omega arith
length-backwards (t ∷ ts) earlier = omega (arith, length-backwards ts (t ∷ earlier))

pub counts_small : (text : List ℕ) (tokens : List Placed) (stack : List Sym) (counts : Counts) (place : ℕ) → length text < 2 ^ 32 → Reading text tokens stack counts place →
    AreAtMost (2 ^ 32) counts
counts_small text tokens stack counts place small r =
    let h = counts_most (backwards tokens []) in
    let long = length-backwards tokens [] in
    subst (AreAtMost (2 ^ 32)) (sym r.counted) (
      omega (arith, h.0, long, r.short, r.within),
      omega (arith, h.1, long, r.short, r.within),
      omega (arith, h.2, long, r.short, r.within),
      omega (arith, h.3, long, r.short, r.within),
      omega (arith, h.4, long, r.short, r.within),
      omega (arith, h.5, long, r.short, r.within),
    )
