-- A text that the lexer finds is a text word of lines.
use Rattle.std.proofs.Common.{◌≡◌, ℕ, ◌+◌, ◌-◌, ◌≤◌, Bool, true, false, cond, ◌||◌, ◌==◌, nat_le, List, [], ◌∷◌, ◌++◌, length, Option, Some, None}
use Rattle.std.proofs.Common.{refl, sym, ap, ◌∙◌, subst, arith, append_assoc}
use Rattle.std.specs.List.{list_all}
use Rattle.std.proofs.lemmas.Bool.{and_from, and_parts}
use Rattle.std.proofs.lemmas.Bool.Decides.{nat_tests}
use Rattle.std.proofs.lemmas.List.{length-append}
use Rattle.dt_text.specs.Texts.{is_text_byte}
use Rattle.dt_text.specs.Printed.{text_item, text_items, text_word}
use Rattle.dt_syntax.specs.declared.token.Token.TheVariants.{Text}
use Rattle.dt_syntax.specs.Tokens.{items_of, escaped, with_item, text_found, text_after, Sized}
use Rattle.dt_syntax.specs.TextTokens.{IsTextWordBefore, TextTokensAreTextWords}
use Rattle.dt_lists.proofs.Callers.{same_tail, some_same}
use Rattle.dt_syntax.proofs.LexerLemmas.{quote_or_slash}

-- an item before others, as it was found
record IsFound (b : ℕ) (o : Option (List ℕ × List ℕ)) (t rest : List ℕ) : Type 0 where
  pub others : List ℕ
  pub found : o ≡ Some (others, rest)
  pub is : t ≡ b ∷ others

with_is : (b : ℕ) (o : Option (List ℕ × List ℕ)) (t rest : List ℕ) → with_item b o ≡ Some (t, rest) → IsFound b o t rest
with_is b None t rest e = absurd cc
with_is b (Some (u, vs)) t rest e =
    let p = some_same e in
    record { others = u; found = ap (λ (v : List ℕ). Some (u, v)) (ap (λ (q : List ℕ × List ℕ). q.1) p); is = sym (ap (λ (q : List ℕ × List ℕ). q.0) p) }

-- the bytes are the items of the text, the `"` after them, and the rest
abbrev ArePrinted : List ℕ → List ℕ → List ℕ → Type 0
ArePrinted bs t rest = (list_all is_text_byte t ≡ true) × (bs ≡ text_items t ++ 34 ∷ rest)

-- one item more
one_more : (b : ℕ) (item bs u t rest : List ℕ) → is_text_byte b ≡ true → text_item b ≡ item → t ≡ b ∷ u → ArePrinted bs u rest → ArePrinted (item ++ bs) t rest
one_more b item bs u t rest allowed is front (all, cut) =
    subst (λ v. ArePrinted (item ++ bs) v rest) (sym front) (
      and_from (is_text_byte b) (list_all is_text_byte u) allowed all,
      ap (λ v. item ++ v) cut ∙ sym (append_assoc item (text_items u) (34 ∷ rest)) ∙ ap (λ v. (v ++ text_items u) ++ 34 ∷ rest) (sym is),
    )

abbrev Found : Type 0
Found = Option (List ℕ × List ℕ)

-- what the first byte says of what is found, where it is known of the bytes after it
first_found : (b : ℕ) (bs t rest : List ℕ) → ((u : List ℕ) → items_of bs ≡ Some (u, rest) → ArePrinted bs u rest) →
    (escaped bs ≡ Some (t, rest) → ArePrinted (92 ∷ bs) t rest) → items_of (b ∷ bs) ≡ Some (t, rest) → ArePrinted (b ∷ bs) t rest
first_found b bs t rest after after_slash e = split (b == 34) (b == 92) (is_text_byte b) refl refl refl e
  where
    split : (p q r : Bool) → (b == 34) ≡ p → (b == 92) ≡ q → is_text_byte b ≡ r →
        cond {A = Found} p (Some ([], bs)) (cond {A = Found} q (escaped bs) (cond {A = Found} r (with_item b (items_of bs)) None)) ≡ Some (t, rest) →
        ArePrinted (b ∷ bs) t rest
    split true q r is other allowed h =
        let same : b ≡ 34 = grind (arith, nat_tests) in
        let p = some_same h in
        let none : [] ≡ t = ap (λ (q : List ℕ × List ℕ). q.0) p in
        let left : bs ≡ rest = ap (λ (q : List ℕ × List ℕ). q.1) p in
        subst (λ v. ArePrinted (b ∷ bs) v rest) none (refl, λ i. same i ∷ left i)
    split false true r is other allowed h =
        let same : b ≡ 92 = grind (arith, nat_tests) in
        subst (λ n. ArePrinted (n ∷ bs) t rest) (sym same) (after_slash h)
    split false false true is other allowed h =
        let w = with_is b (items_of bs) t rest h in
        let alone : text_item b ≡ b ∷ [] = rw (is, other) refl in
        one_more b (b ∷ []) bs w.others t rest allowed alone w.is (after w.others w.found)
    split false false false is other allowed h = absurd cc

second_found : (b : ℕ) (bs t rest : List ℕ) → ((u : List ℕ) → items_of bs ≡ Some (u, rest) → ArePrinted bs u rest) →
    escaped (b ∷ bs) ≡ Some (t, rest) → ArePrinted (92 ∷ b ∷ bs) t rest
second_found b bs t rest after e = split (b == 34 || b == 92) refl e
  where
    split : (p : Bool) → (b == 34 || b == 92) ≡ p → cond {A = Found} p (with_item b (items_of bs)) None ≡ Some (t, rest) → ArePrinted (92 ∷ b ∷ bs) t rest
    split true is h =
        let w = with_is b (items_of bs) t rest h in
        let two : text_item b ≡ 92 ∷ b ∷ [] = rw is refl in
        one_more b (92 ∷ b ∷ []) bs w.others t rest (quote_or_slash b is) two w.is (after w.others w.found)
    split false is h = absurd cc

mutual
  found : (bs t rest : List ℕ) → items_of bs ≡ Some (t, rest) → ArePrinted bs t rest
  found [] t rest e = absurd cc
  found (b ∷ bs) t rest e = first_found b bs t rest (λ u h. found bs u rest h) (λ h. found_escaped bs t rest h) e

  found_escaped : (bs t rest : List ℕ) → escaped bs ≡ Some (t, rest) → ArePrinted (92 ∷ bs) t rest
  found_escaped [] t rest e = absurd cc
  found_escaped (b ∷ bs) t rest e = second_found b bs t rest (λ u h. found bs u rest h) e

-- what stands as an item is found as one
item_found : (b : ℕ) (more : List ℕ) → is_text_byte b ≡ true → items_of (text_item b ++ more) ≡ with_item b (items_of more)
item_found b more allowed = split (b == 34) (b == 92) refl refl
  where
    -- what is read where the byte stands with a backslash, or alone
    read_where : Bool → Found
    read_where v = items_of (cond {A = List ℕ} v (92 ∷ b ∷ []) (b ∷ []) ++ more)

    with_slash : (b == 34 || b == 92) ≡ true → items_of (text_item b ++ more) ≡ with_item b (items_of more)
    with_slash is =
        ap read_where is
        ∙ (λ i. cond {A = Found} (is i) (with_item b (items_of more)) None)

    split : (p q : Bool) → (b == 34) ≡ p → (b == 92) ≡ q → items_of (text_item b ++ more) ≡ with_item b (items_of more)
    split true q is other = with_slash (λ i. is i || (b == 92))
    split false true is other = with_slash (λ i. is i || other i)
    split false false is other =
        let alone : (b == 34 || b == 92) ≡ false = λ i. is i || other i in
        ap read_where alone
        ∙ (λ i. cond {A = Found} (is i) (Some ([], more)) (cond {A = Found} (other i) (escaped more) (cond {A = Found} (allowed i) (with_item b (items_of more)) None)))

printed : (t rest : List ℕ) → list_all is_text_byte t ≡ true → items_of (text_items t ++ 34 ∷ rest) ≡ Some (t, rest)
printed [] rest all = refl
printed (b ∷ t) rest all =
    ap items_of (append_assoc (text_item b) (text_items t) (34 ∷ rest))
    ∙ item_found b (text_items t ++ 34 ∷ rest) (and_parts (is_text_byte b) (list_all is_text_byte t) all).0
    ∙ ap (with_item b) (printed t rest (and_parts (is_text_byte b) (list_all is_text_byte t) all).1)

-- the text that is found, with its size
record IsSized (bs t : List ℕ) (n : ℕ) (o : Option (List ℕ × List ℕ)) : Type 0 where
  pub rest : List ℕ
  pub few : length t ≤ 256
  pub found : o ≡ Some (t, rest)
  pub size : n ≡ length bs - length rest + 1

sized : (bs t : List ℕ) (n : ℕ) (o : Option (List ℕ × List ℕ)) → text_found bs o ≡ Some (Text t, n) → IsSized bs t n o
sized bs t n None e = absurd cc
sized bs t n (Some (u, rest)) e = split (nat_le (length u) 256) refl e
  where
    split : (p : Bool) → nat_le (length u) 256 ≡ p → cond {A = Option Sized} p (Some (Text u, length bs - length rest + 1)) None ≡ Some (Text t, n) → IsSized bs t n (Some (u, rest))
    split false is h = absurd cc
    split true is h =
        let pair : ◌≡◌ {A = Sized} (Text u, length bs - length rest + 1) (Text t, n) = some_same h in
        let token : Text u ≡ Text t = ap (λ (s : Sized). s.0) pair in
        let same : u ≡ t = cc in
        let few : length u ≤ 256 = grind (arith, nat_tests) in
        record { rest = rest; few = subst (λ v. length v ≤ 256) same few; found = ap (λ (v : List ℕ). Some (v, rest)) same; size = sym (ap (λ (s : Sized). s.1) pair) }

size_is : (bs t rest : List ℕ) → bs ≡ text_items t ++ 34 ∷ rest → length bs - length rest + 1 ≡ length (text_word t)
size_is bs t rest cut =
    let a = ap length cut ∙ length-append (text_items t) (34 ∷ rest) in
    let b = length-append (text_items t) (34 ∷ []) in
    omega (arith, a, b)

pub text_tokens_are_text_words : TextTokensAreTextWords
text_tokens_are_text_words bs t n = (λ e. forth (sized bs t n (items_of bs) e), back)
  where
    forth : IsSized bs t n (items_of bs) → IsTextWordBefore bs t n
    forth s =
        let p = found bs t s.rest s.found in
        record {
          text = (s.few, p.0);
          rest = s.rest;
          cut = ap (λ v. 34 ∷ v) (p.1 ∙ sym (append_assoc (text_items t) (34 ∷ []) s.rest));
          counted = s.size ∙ size_is bs t s.rest p.1;
        }

    back : IsTextWordBefore bs t n → text_after bs ≡ Some (Text t, n)
    back w =
        let cut : bs ≡ text_items t ++ 34 ∷ w.rest =
        same_tail w.cut ∙ append_assoc (text_items t) (34 ∷ []) w.rest in
        let is : items_of bs ≡ Some (t, w.rest) = ap items_of cut ∙ printed t w.rest w.text.1 in
        let few : nat_le (length t) 256 ≡ true = grind (arith, nat_tests, w.text.0) in
        ap (text_found bs) is ∙ ap (λ b. cond {A = Option Sized} b (Some (Text t, length bs - length w.rest + 1)) None) few
        ∙ ap (λ (m : ℕ). Some (Text t, m)) (size_is bs t w.rest cut ∙ sym w.counted)
