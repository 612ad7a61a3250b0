-- Expressions and statements are spelled in one way: what the same tokens spell is the same.
use Rattle.std.proofs.Common.{◌≡◌, inl, inr, ℕ, ◌+◌, ◌≤◌, List, [], ◌∷◌, ◌++◌, refl, sym, ap, ◌∙◌, subst, arith, append_assoc}
use Rattle.std.specs.List.{flat_map}
use Rattle.dt_lists.specs.Lists.{AllIn}
use Rattle.dt_syntax.specs.declared.token.Token.{Token}
use Rattle.dt_syntax.specs.declared.token.Token.TheVariants as tok
use Rattle.dt_syntax.specs.declared.token.Placed.{Placed}
use Rattle.dt_syntax.specs.declared.operator.Op.{Op}
use Rattle.dt_syntax.specs.declared.operator.Op.TheVariants as op
use Rattle.dt_syntax.specs.Fronts.{FrontStops, NoElse}
use Rattle.dt_syntax.specs.Grammar.{at, Bracketed, bracketed_tokens, Syntax, chain, minus, denial, int, text, truth, name, parens, of_key, made, Links, no_link}
use Rattle.dt_syntax.specs.Grammar.{link, syntax_tokens, links_tokens, level_of, IsLevel, AreLinks, reads_int, reads_text, reads_presence, makes_length}
use Rattle.dt_syntax.specs.Grammar.{makes_text, Item, row_item, value_item, item_tokens, items_tokens, IsItem, Statement, let_new, set_key, clear_key, when}
use Rattle.dt_syntax.specs.Grammar.{choose, abort, give, Statements, nothing, first, statement_tokens, statements_tokens, IsStatement, AreStatements}
use Rattle.dt_syntax.proofs.Shapes.{inner, up, chain_shape, links_stop, placed_is, same_op, six_stop, front_token, next_item, AreItems, items_stop}
use Rattle.dt_syntax.proofs.Shapes.{items_cut, StepShape, block, else_block, setting, setting_cut, step_shape, no_else, begins_other}
use Rattle.dt_lists.proofs.Callers.{same_head, same_tail}

-- two tokens in front are the same one
pub front_place_is : (p q : ℕ) (s t : Token) (us vs : List Placed) → at p s ∷ us ≡ at q t ∷ vs → p ≡ q
front_place_is p q s t us vs e = (placed_is p q s t (same_head e)).0

pub front_token_is : (p q : ℕ) (s t : Token) (us vs : List Placed) → at p s ∷ us ≡ at q t ∷ vs → s ≡ t
front_token_is p q s t us vs e = (placed_is p q s t (same_head e)).1

pub after_front : (p q : ℕ) (s t : Token) (us vs : List Placed) → at p s ∷ us ≡ at q t ∷ vs → us ≡ vs
after_front p q s t us vs e = same_tail e

pub same_name : (n m : List ℕ) → tok.Name n ≡ tok.Name m → n ≡ m
same_name n m e = cc

pub same_text : (n m : List ℕ) → tok.Text n ≡ tok.Text m → n ≡ m
same_text n m e = cc

pub one_bracketed : (b c : Bracketed) (r s : List Placed) → bracketed_tokens b ++ r ≡ bracketed_tokens c ++ s → (b ≡ c) × (r ≡ s)
one_bracketed b c r s e =
    let open_at = front_place_is b.open_at c.open_at tok.Open tok.Open _ _ e in
    let named = after_front b.open_at c.open_at tok.Open tok.Open _ _ e in
    let name_at = front_place_is b.name_at c.name_at (tok.Name b.name) (tok.Name c.name) _ _ named in
    let called = same_name b.name c.name (front_token_is b.name_at c.name_at (tok.Name b.name) (tok.Name c.name) _ _ named) in
    let closed = after_front b.name_at c.name_at (tok.Name b.name) (tok.Name c.name) _ _ named in
    let close_at = front_place_is b.close_at c.close_at tok.Close tok.Close r s closed in
    ((λ i. record { open_at = open_at i; name_at = name_at i; name = called i; close_at = close_at i }), after_front b.close_at c.close_at tok.Close tok.Close r s closed)

-- an expression in brackets, and what stands behind it
abbrev bracketed : ℕ → Syntax → ℕ → List Placed → List Placed
bracketed o x q rest = at o tok.Open ∷ (syntax_tokens x ++ at q tok.Close ∷ rest)

bracketed_cut : (o : ℕ) (x : Syntax) (q : ℕ) (rest : List Placed) → bracketed o x q rest ≡ at o tok.Open ∷ ((syntax_tokens x ++ at q tok.Close ∷ []) ++ rest)
bracketed_cut o x q rest = ap (λ v. at o tok.Open ∷ v) (inner (syntax_tokens x) (at q tok.Close) rest)

-- what the first token of an operand says of it, of what follows the token, and of what follows the operand
abbrev Form : Token → ℕ → List Placed → Syntax → List Placed → Type 0
Form (tok.Int z) p ts x rest = (x ≡ int p z) × (ts ≡ rest)
Form (tok.Text t) p ts x rest = (x ≡ text p t) × (ts ≡ rest)
Form (tok.Truth b) p ts x rest = (x ≡ truth p b) × (ts ≡ rest)
Form (tok.Name m) p ts x rest = (x ≡ name p m) × (ts ≡ rest)
Form tok.IntWord p ts x rest = (b : Bracketed) × (x ≡ of_key p reads_int b) × (bracketed_tokens b ++ rest ≡ ts)
Form tok.TextWord p ts x rest = (b : Bracketed) × (x ≡ of_key p reads_text b) × (bracketed_tokens b ++ rest ≡ ts)
Form tok.Has p ts x rest = (b : Bracketed) × (x ≡ of_key p reads_presence b) × (bracketed_tokens b ++ rest ≡ ts)
Form tok.Open p ts x rest = (y : Syntax) × (q : ℕ) × (x ≡ parens p y q) × IsLevel 0 y × (syntax_tokens y ++ at q tok.Close ∷ rest ≡ ts)
Form tok.Len p ts x rest =
    (o : ℕ) × (y : Syntax) × (q : ℕ) × (x ≡ made p makes_length o y q) × IsLevel 0 y × (bracketed o y q rest ≡ ts)
Form tok.Show p ts x rest =
    (o : ℕ) × (y : Syntax) × (q : ℕ) × (x ≡ made p makes_text o y q) × IsLevel 0 y × (bracketed o y q rest ≡ ts)
Form tok.Not p ts x rest = (y : Syntax) × (x ≡ denial p y) × IsLevel 6 y × (syntax_tokens y ++ rest ≡ ts)
Form (tok.Op o) p ts x rest = (y : Syntax) × (x ≡ minus p y) × IsLevel 6 y × (syntax_tokens y ++ rest ≡ ts)
Form t p ts x rest = ⊥

form_at : (t u : Placed) (ts us : List Placed) (x : Syntax) (rest : List Placed) → t ∷ ts ≡ u ∷ us → Form t.token t.place ts x rest → Form u.token u.place us x rest
form_at t u ts us x rest e h =
    subst (λ v. Form u.token u.place v x rest) (same_tail e)
    (subst (λ v. Form v.token v.place ts x rest) (same_head e) h)

operand_form : (n : ℕ) (x : Syntax) (rest : List Placed) (t : Placed) (ts : List Placed) → 5 ≤ n → IsLevel n x → syntax_tokens x ++ rest ≡ t ∷ ts →
    Form t.token t.place ts x rest
operand_form n (chain head links) rest t ts le h e = absurd (omega (arith, h.0))
operand_form n (minus p x) rest t ts le h e = form_at (at p (tok.Op op.Sub)) t (syntax_tokens x ++ rest) ts (minus p x) rest e (x, refl, h.1, refl)
operand_form n (denial p x) rest t ts le h e = form_at (at p tok.Not) t (syntax_tokens x ++ rest) ts (denial p x) rest e (x, refl, h.1, refl)
operand_form n (int p z) rest t ts le h e = form_at (at p (tok.Int z)) t rest ts (int p z) rest e (refl, refl)
operand_form n (text p z) rest t ts le h e = form_at (at p (tok.Text z)) t rest ts (text p z) rest e (refl, refl)
operand_form n (truth p z) rest t ts le h e = form_at (at p (tok.Truth z)) t rest ts (truth p z) rest e (refl, refl)
operand_form n (name p z) rest t ts le h e = form_at (at p (tok.Name z)) t rest ts (name p z) rest e (refl, refl)
operand_form n (parens p x q) rest t ts le h e =
    form_at (at p tok.Open) t ((syntax_tokens x ++ at q tok.Close ∷ []) ++ rest) ts (parens p x q) rest e
    (x, q, refl, h.1, inner (syntax_tokens x) (at q tok.Close) rest)
operand_form n (of_key p reads_int b) rest t ts le h e = form_at (at p tok.IntWord) t (bracketed_tokens b ++ rest) ts (of_key p reads_int b) rest e (b, refl, refl)
operand_form n (of_key p reads_text b) rest t ts le h e = form_at (at p tok.TextWord) t (bracketed_tokens b ++ rest) ts (of_key p reads_text b) rest e (b, refl, refl)
operand_form n (of_key p reads_presence b) rest t ts le h e = form_at (at p tok.Has) t (bracketed_tokens b ++ rest) ts (of_key p reads_presence b) rest e (b, refl, refl)
operand_form n (made p makes_length o x q) rest t ts le h e =
    form_at (at p tok.Len) t _ ts (made p makes_length o x q) rest e (o, x, q, refl, h.1, bracketed_cut o x q rest)
operand_form n (made p makes_text o x q) rest t ts le h e =
    form_at (at p tok.Show) t _ ts (made p makes_text o x q) rest e (o, x, q, refl, h.1, bracketed_cut o x q rest)

goes_on : (n p : ℕ) (o : Op) (us r : List Placed) → level_of o ≡ n → r ≡ at p (tok.Op o) ∷ us → FrontStops n r → ⊥
goes_on n p o us r level is stop = let low : FrontStops n (at p (tok.Op o) ∷ us) = subst (FrontStops n) is stop in omega (arith, level, low)

mutual
  pub one_syntax : (x y : Syntax) (n : ℕ) (r s : List Placed) → IsLevel n x → IsLevel n y → FrontStops n r → FrontStops n s →
      syntax_tokens x ++ r ≡ syntax_tokens y ++ s → (x ≡ y) × (r ≡ s)
  one_syntax (chain head links) y n r s h k fr fs e =
      let c = chain_shape y n h.0 k in
      let cut : syntax_tokens head ++ (links_tokens links ++ r) ≡ syntax_tokens c.head ++ (links_tokens c.links ++ s) =
      sym (append_assoc (syntax_tokens head) (links_tokens links) r) ∙ e ∙ ap (λ v. syntax_tokens v ++ s) c.is ∙ append_assoc (syntax_tokens c.head) (links_tokens c.links) s in
      let a = one_syntax head c.head (n + 1) (links_tokens links ++ r) (links_tokens c.links ++ s) (up n head h.1) c.level
      (links_stop links n r h.2 fr) (links_stop c.links n s c.good fs) cut in
      let b = one_links links c.links n r s h.2 c.good fr fs a.1 in
      ((λ i. chain (a.0 i) (b.0 i)) ∙ sym c.is, b.1)
  one_syntax (minus p x) y n r s h k fr fs e =
      let f = operand_form n y s (at p (tok.Op op.Sub)) (syntax_tokens x ++ r) (omega (arith, h.0)) k (sym e) in
      let a = one_syntax x f.0 6 r s h.1 f.2 (six_stop r n h.0 fr) (six_stop s n h.0 fs) (sym f.3) in
      (ap (minus p) a.0 ∙ sym f.1, a.1)
  one_syntax (denial p x) y n r s h k fr fs e =
      let f = operand_form n y s (at p tok.Not) (syntax_tokens x ++ r) (omega (arith, h.0)) k (sym e) in
      let a = one_syntax x f.0 6 r s h.1 f.2 (six_stop r n h.0 fr) (six_stop s n h.0 fs) (sym f.3) in
      (ap (denial p) a.0 ∙ sym f.1, a.1)
  one_syntax (int p z) y n r s h k fr fs e = let f = operand_form n y s (at p (tok.Int z)) r h k (sym e) in (sym f.0, f.1)
  one_syntax (text p z) y n r s h k fr fs e = let f = operand_form n y s (at p (tok.Text z)) r h k (sym e) in (sym f.0, f.1)
  one_syntax (truth p z) y n r s h k fr fs e = let f = operand_form n y s (at p (tok.Truth z)) r h k (sym e) in (sym f.0, f.1)
  one_syntax (name p z) y n r s h k fr fs e = let f = operand_form n y s (at p (tok.Name z)) r h k (sym e) in (sym f.0, f.1)
  one_syntax (parens p x q) y n r s h k fr fs e =
      let f = operand_form n y s (at p tok.Open) ((syntax_tokens x ++ at q tok.Close ∷ []) ++ r) h.0 k (sym e) in
      let a = one_syntax x f.0 0 (at q tok.Close ∷ r) (at f.1 tok.Close ∷ s) h.1 f.3 tt tt (inner (syntax_tokens x) (at q tok.Close) r ∙ sym f.4) in
      let place = front_place_is q f.1 tok.Close tok.Close r s a.1 in
      ((λ i. parens p (a.0 i) (place i)) ∙ sym f.2, after_front q f.1 tok.Close tok.Close r s a.1)
  one_syntax (of_key p reads_int b) y n r s h k fr fs e =
      let f = operand_form n y s (at p tok.IntWord) (bracketed_tokens b ++ r) h k (sym e) in
      let a = one_bracketed b f.0 r s (sym f.2) in
      (ap (of_key p reads_int) a.0 ∙ sym f.1, a.1)
  one_syntax (of_key p reads_text b) y n r s h k fr fs e =
      let f = operand_form n y s (at p tok.TextWord) (bracketed_tokens b ++ r) h k (sym e) in
      let a = one_bracketed b f.0 r s (sym f.2) in
      (ap (of_key p reads_text) a.0 ∙ sym f.1, a.1)
  one_syntax (of_key p reads_presence b) y n r s h k fr fs e =
      let f = operand_form n y s (at p tok.Has) (bracketed_tokens b ++ r) h k (sym e) in
      let a = one_bracketed b f.0 r s (sym f.2) in
      (ap (of_key p reads_presence) a.0 ∙ sym f.1, a.1)
  one_syntax (made p makes_length o x q) y n r s h k fr fs e =
      let f = operand_form n y s (at p tok.Len) _ h.0 k (sym e) in
      let us = syntax_tokens x ++ at q tok.Close ∷ r in
      let vs = syntax_tokens f.1 ++ at f.2 tok.Close ∷ s in
      let cut = bracketed_cut o x q r ∙ sym f.5 in
      let open_at = front_place_is o f.0 tok.Open tok.Open us vs cut in
      let a = one_syntax x f.1 0 (at q tok.Close ∷ r) (at f.2 tok.Close ∷ s) h.1 f.4 tt tt (after_front o f.0 tok.Open tok.Open us vs cut) in
      let place = front_place_is q f.2 tok.Close tok.Close r s a.1 in
      ((λ i. made p makes_length (open_at i) (a.0 i) (place i)) ∙ sym f.3, after_front q f.2 tok.Close tok.Close r s a.1)
  one_syntax (made p makes_text o x q) y n r s h k fr fs e =
      let f = operand_form n y s (at p tok.Show) _ h.0 k (sym e) in
      let us = syntax_tokens x ++ at q tok.Close ∷ r in
      let vs = syntax_tokens f.1 ++ at f.2 tok.Close ∷ s in
      let cut = bracketed_cut o x q r ∙ sym f.5 in
      let open_at = front_place_is o f.0 tok.Open tok.Open us vs cut in
      let a = one_syntax x f.1 0 (at q tok.Close ∷ r) (at f.2 tok.Close ∷ s) h.1 f.4 tt tt (after_front o f.0 tok.Open tok.Open us vs cut) in
      let place = front_place_is q f.2 tok.Close tok.Close r s a.1 in
      ((λ i. made p makes_text (open_at i) (a.0 i) (place i)) ∙ sym f.3, after_front q f.2 tok.Close tok.Close r s a.1)

  one_links : (l m : Links) (n : ℕ) (r s : List Placed) → AreLinks n l → AreLinks n m → FrontStops n r → FrontStops n s → links_tokens l ++ r ≡ links_tokens m ++ s →
      (l ≡ m) × (r ≡ s)
  one_links no_link no_link n r s h k fr fs e = (refl, e)
  one_links no_link (link p o x more) n r s h k fr fs e = absurd (goes_on n p o ((syntax_tokens x ++ links_tokens more) ++ s) r k.0 e fr)
  one_links (link p o x more) no_link n r s h k fr fs e = absurd (goes_on n p o ((syntax_tokens x ++ links_tokens more) ++ r) s h.0 (sym e) fs)
  one_links (link p o x more) (link q u y others) n r s h k fr fs e =
      let us = (syntax_tokens x ++ links_tokens more) ++ r in
      let vs = (syntax_tokens y ++ links_tokens others) ++ s in
      let place = front_place_is p q (tok.Op o) (tok.Op u) us vs e in
      let same = same_op o u (front_token_is p q (tok.Op o) (tok.Op u) us vs e) in
      let cut = sym (append_assoc (syntax_tokens x) (links_tokens more) r) ∙ after_front p q (tok.Op o) (tok.Op u) us vs e ∙ append_assoc (syntax_tokens y) (links_tokens others) s in
      let a = one_syntax x y (n + 1) (links_tokens more ++ r) (links_tokens others ++ s) (up n x h.1) (up n y k.1)
      (links_stop more n r h.3 fr) (links_stop others n s k.3 fs) cut in
      let b = one_links more others n r s h.3 k.3 fr fs a.1 in
      ((λ i. link (place i) (same i) (a.0 i) (b.0 i)), b.1)

-- what is joined by one token, up to another
module _ {A : Type 0} (joint end : Token) (spelled : A → List Placed) (Good : A → Type 0) (Stop : List Placed → Type 0) (differ : ¬ (joint ≡ end))
    (stop_joint : (p : ℕ) (us : List Placed) → Stop (at p joint ∷ us)) (stop_end : (p : ℕ) (us : List Placed) → Stop (at p end ∷ us))
    (one : (a b : A) (r s : List Placed) → Good a → Good b → Stop r → Stop s → spelled a ++ r ≡ spelled b ++ s → (a ≡ b) × (r ≡ s)) where
  abbrev pub all_of : List (ℕ × A) → List Placed
  all_of xs = flat_map (λ m. at m.0 joint ∷ spelled m.1) xs

  list_stops : (xs : List (ℕ × A)) (e : ℕ) (r : List Placed) → Stop (all_of xs ++ at e end ∷ r)
  list_stops [] e r = stop_end e r
  list_stops (m ∷ xs) e r = stop_joint m.0 ((spelled m.1 ++ all_of xs) ++ at e end ∷ r)

  pub one_list : (xs ys : List (ℕ × A)) (e f : ℕ) (r s : List Placed) → AllIn (λ m. Good m.1) xs → AllIn (λ m. Good m.1) ys →
      all_of xs ++ at e end ∷ r ≡ all_of ys ++ at f end ∷ s → (xs ≡ ys) × (e ≡ f) × (r ≡ s)
  one_list [] [] e f r s h k is = (refl, front_place_is e f end end r s is, after_front e f end end r s is)
  one_list [] (n ∷ ys) e f r s h k is = absurd (differ (sym (front_token_is e n.0 end joint r ((spelled n.1 ++ all_of ys) ++ at f end ∷ s) is)))
  one_list (m ∷ xs) [] e f r s h k is = absurd (differ (front_token_is m.0 f joint end ((spelled m.1 ++ all_of xs) ++ at e end ∷ r) s is))
  one_list (m ∷ xs) (n ∷ ys) e f r s h k is =
      let us = (spelled m.1 ++ all_of xs) ++ at e end ∷ r in
      let vs = (spelled n.1 ++ all_of ys) ++ at f end ∷ s in
      let place = front_place_is m.0 n.0 joint joint us vs is in
      let cut = sym (append_assoc (spelled m.1) (all_of xs) (at e end ∷ r)) ∙ after_front m.0 n.0 joint joint us vs is ∙ append_assoc (spelled n.1) (all_of ys) (at f end ∷ s) in
      let a = one m.1 n.1 (all_of xs ++ at e end ∷ r) (all_of ys ++ at f end ∷ s) h.0 k.0 (list_stops xs e r) (list_stops ys f s) cut in
      let b = one_list xs ys e f r s h.1 k.1 a.1 in
      ((λ i. (place i, a.0 i) ∷ b.0 i), b.1, b.2)

-- an expression does not begin with `row`
not_row : (p : ℕ) (us : List Placed) (x : Syntax) (s : List Placed) → at p tok.Row ∷ us ≡ syntax_tokens x ++ s → ⊥
not_row p us x s e =
    let f = front_token x in
    f.4 (sym (ap (λ v. v.token) (same_head (e ∙ ap (λ v. v ++ s) f.2))))

pub one_item : (i j : Item) (r s : List Placed) → IsItem i → IsItem j → FrontStops 0 r → FrontStops 0 s → item_tokens i ++ r ≡ item_tokens j ++ s → (i ≡ j) × (r ≡ s)
one_item (row_item p b) (row_item q c) r s h k fr fs e =
    let place = front_place_is p q tok.Row tok.Row (bracketed_tokens b ++ r) (bracketed_tokens c ++ s) e in
    let a = one_bracketed b c r s (after_front p q tok.Row tok.Row (bracketed_tokens b ++ r) (bracketed_tokens c ++ s) e) in
    ((λ i. row_item (place i) (a.0 i)), a.1)
one_item (row_item p b) (value_item y) r s h k fr fs e = absurd (not_row p (bracketed_tokens b ++ r) y s e)
one_item (value_item x) (row_item q c) r s h k fr fs e = absurd (not_row q (bracketed_tokens c ++ s) x r (sym e))
one_item (value_item x) (value_item y) r s h k fr fs e = let a = one_syntax x y 0 r s h k fr fs e in (ap value_item a.0, a.1)

no_comma : ¬ (tok.Comma ≡ tok.Semicolon)
no_comma e = cc

one_items : (xs ys : List (ℕ × Item)) (e f : ℕ) (r s : List Placed) → AreItems xs → AreItems ys →
    flat_map next_item xs ++ at e tok.Semicolon ∷ r ≡ flat_map next_item ys ++ at f tok.Semicolon ∷ s → (xs ≡ ys) × (e ≡ f) × (r ≡ s)
one_items = one_list tok.Comma tok.Semicolon item_tokens IsItem (FrontStops 0) no_comma (λ p us. tt) (λ p us. tt) one_item

-- a `let` and a `set`, after the word
record IsSameSetting (q w : ℕ) (n m : List ℕ) (i j : ℕ) (x y : Syntax) (e f : ℕ) (r s : List Placed) : Type 0 where
  pub name_at : q ≡ w
  pub named : n ≡ m
  pub is_at : i ≡ j
  pub value : x ≡ y
  pub end_at : e ≡ f
  pub rest : r ≡ s

one_setting : (q w : ℕ) (n m : List ℕ) (i j : ℕ) (x y : Syntax) (e f : ℕ) (r s : List Placed) → IsLevel 0 x → IsLevel 0 y →
    setting q n i x e r ≡ setting w m j y f s → IsSameSetting q w n m i j x y e f r s
one_setting q w n m i j x y e f r s h k is =
    let us = at i tok.Is ∷ (syntax_tokens x ++ at e tok.Semicolon ∷ r) in
    let vs = at j tok.Is ∷ (syntax_tokens y ++ at f tok.Semicolon ∷ s) in
    let one = after_front q w (tok.Name n) (tok.Name m) us vs is in
    let two = after_front i j tok.Is tok.Is (syntax_tokens x ++ at e tok.Semicolon ∷ r) (syntax_tokens y ++ at f tok.Semicolon ∷ s) one in
    let a = one_syntax x y 0 (at e tok.Semicolon ∷ r) (at f tok.Semicolon ∷ s) h k tt tt two in
    record {
      name_at = front_place_is q w (tok.Name n) (tok.Name m) us vs is;
      named = same_name n m (front_token_is q w (tok.Name n) (tok.Name m) us vs is);
      is_at = front_place_is i j tok.Is tok.Is (syntax_tokens x ++ at e tok.Semicolon ∷ r) (syntax_tokens y ++ at f tok.Semicolon ∷ s) one;
      value = a.0;
      end_at = front_place_is e f tok.Semicolon tok.Semicolon r s a.1;
      rest = after_front e f tok.Semicolon tok.Semicolon r s a.1;
    }

when_cut : (x : Syntax) (b : ℕ) (ss : Statements) (e : ℕ) (r : List Placed) →
    (syntax_tokens x ++ at b tok.Begin ∷ block ss e []) ++ r ≡ syntax_tokens x ++ at b tok.Begin ∷ block ss e r
when_cut x b ss e r =
    append_assoc (syntax_tokens x) (at b tok.Begin ∷ block ss e []) r
    ∙ ap (λ v. syntax_tokens x ++ at b tok.Begin ∷ v) (append_assoc (statements_tokens ss) (at e tok.End ∷ []) r)

choose_cut : (x : Syntax) (b : ℕ) (ss : Statements) (e w c : ℕ) (rs : Statements) (f : ℕ) (r : List Placed) →
    (syntax_tokens x ++ at b tok.Begin ∷ block ss e (else_block w c rs f [])) ++ r
    ≡ syntax_tokens x ++ at b tok.Begin ∷ block ss e (else_block w c rs f r)
choose_cut x b ss e w c rs f r =
    append_assoc (syntax_tokens x) _ r
    ∙ ap (λ v. syntax_tokens x ++ at b tok.Begin ∷ v) (append_assoc (statements_tokens ss) (at e tok.End ∷ else_block w c rs f []) r
    ∙ ap (λ v. statements_tokens ss ++ at e tok.End ∷ at w tok.Else ∷ at c tok.Begin ∷ v) (append_assoc (statements_tokens rs) (at f tok.End ∷ []) r))

an_else : (w : ℕ) (us r : List Placed) → NoElse r → r ≡ at w tok.Else ∷ us → ⊥
an_else w us r none is = subst NoElse is none refl

-- a block is spelled in one way
abbrev OneBlock : Statements → Type 0
OneBlock ss =
    (ts : Statements) (e f : ℕ) (r u : List Placed) → AreStatements ts → block ss e r ≡ block ts f u →
    (ss ≡ ts) × (e ≡ f) × (r ≡ u)

one_when : (p : ℕ) (x : Syntax) (b : ℕ) (ss : Statements) (e : ℕ) (t : Statement) (r u : List Placed) → OneBlock ss → IsLevel 0 x → NoElse r →
    StepShape tok.If p ((syntax_tokens x ++ at b tok.Begin ∷ block ss e []) ++ r) t u → (when p x b ss e ≡ t) × (r ≡ u)
one_when p x b ss e t r u one h nr (inl (y, c, ts, f, is, hy, kt, cut)) =
    let a = one_syntax x y 0 (at b tok.Begin ∷ block ss e r) (at c tok.Begin ∷ block ts f u) h hy tt tt
    (sym (when_cut x b ss e r) ∙ sym cut) in
    let place = front_place_is b c tok.Begin tok.Begin (block ss e r) (block ts f u) a.1 in
    let inside = one ts e f r u kt (after_front b c tok.Begin tok.Begin (block ss e r) (block ts f u) a.1) in
    ((λ j. when p (a.0 j) (place j) (inside.0 j) (inside.1 j)) ∙ sym is, inside.2)
one_when p x b ss e t r u one h nr (inr (y, c, ts, f, w, o, vs, g, is, hy, kt, kv, cut)) =
    let later = else_block w o vs g u in
    let a = one_syntax x y 0 (at b tok.Begin ∷ block ss e r) (at c tok.Begin ∷ block ts f later) h hy tt tt
    (sym (when_cut x b ss e r) ∙ sym cut) in
    let inside = one ts e f r later kt (after_front b c tok.Begin tok.Begin (block ss e r) (block ts f later) a.1) in
    absurd (an_else w (at o tok.Begin ∷ block vs g u) r nr inside.2)

one_choose : (p : ℕ) (x : Syntax) (b : ℕ) (ss : Statements) (e w c : ℕ) (rs : Statements) (f : ℕ) (t : Statement) (r u : List Placed) → OneBlock ss → OneBlock rs → IsLevel 0 x → NoElse u →
    StepShape tok.If p ((syntax_tokens x ++ at b tok.Begin ∷ block ss e (else_block w c rs f [])) ++ r) t u →
    (choose p x b ss e w c rs f ≡ t) × (r ≡ u)
one_choose p x b ss e w c rs f t r u one other h nu (inl (y, d, ts, g, is, hy, kt, cut)) =
    let later = else_block w c rs f r in
    let a = one_syntax x y 0 (at b tok.Begin ∷ block ss e later) (at d tok.Begin ∷ block ts g u) h hy tt tt
    (sym (choose_cut x b ss e w c rs f r) ∙ sym cut) in
    let inside = one ts e g later u kt (after_front b d tok.Begin tok.Begin (block ss e later) (block ts g u) a.1) in
    absurd (an_else w (at c tok.Begin ∷ block rs f r) u nu (sym inside.2))
one_choose p x b ss e w c rs f t r u one other h nu (inr (y, d, ts, g, v, o, vs, l, is, hy, kt, kv, cut)) =
    let later = else_block w c rs f r in
    let after = else_block v o vs l u in
    let a = one_syntax x y 0 (at b tok.Begin ∷ block ss e later) (at d tok.Begin ∷ block ts g after) h hy tt tt
    (sym (choose_cut x b ss e w c rs f r) ∙ sym cut) in
    let place = front_place_is b d tok.Begin tok.Begin (block ss e later) (block ts g after) a.1 in
    let inside = one ts e g later after kt (after_front b d tok.Begin tok.Begin (block ss e later) (block ts g after) a.1) in
    let else_at = front_place_is w v tok.Else tok.Else _ _ inside.2 in
    let begun = after_front w v tok.Else tok.Else (at c tok.Begin ∷ block rs f r) (at o tok.Begin ∷ block vs l u) inside.2 in
    let begin_at = front_place_is c o tok.Begin tok.Begin (block rs f r) (block vs l u) begun in
    let others = other vs f l r u kv (after_front c o tok.Begin tok.Begin (block rs f r) (block vs l u) begun) in
    ((λ j. choose p (a.0 j) (place j) (inside.0 j) (inside.1 j) (else_at j) (begin_at j) (others.0 j) (others.1 j)) ∙ sym is, others.2)

mutual
  pub one_statement : (s t : Statement) (r u : List Placed) → IsStatement s → IsStatement t → NoElse r → NoElse u → statement_tokens s ++ r ≡ statement_tokens t ++ u →
      (s ≡ t) × (r ≡ u)
  one_statement (let_new p q n i x e) t r u h k nr nu is =
      let f = step_shape t u (at p tok.Let) _ k (sym is) in
      let a = one_setting q f.0 n f.1 i f.2 x f.3 e f.4 r u h f.6 (setting_cut q n i x e r ∙ sym f.7) in
      ((λ j. let_new p (a.name_at j) (a.named j) (a.is_at j) (a.value j) (a.end_at j)) ∙ sym f.5, a.rest)
  one_statement (set_key p q n i x e) t r u h k nr nu is =
      let f = step_shape t u (at p tok.Set) _ k (sym is) in
      let a = one_setting q f.0 n f.1 i f.2 x f.3 e f.4 r u h f.6 (setting_cut q n i x e r ∙ sym f.7) in
      ((λ j. set_key p (a.name_at j) (a.named j) (a.is_at j) (a.value j) (a.end_at j)) ∙ sym f.5, a.rest)
  one_statement (clear_key p q n e) t r u h k nr nu is =
      let f = step_shape t u (at p tok.Clear) (at q (tok.Name n) ∷ at e tok.Semicolon ∷ r) k (sym is) in
      let us = at e tok.Semicolon ∷ r in
      let vs = at f.2 tok.Semicolon ∷ u in
      let place = front_place_is q f.0 (tok.Name n) (tok.Name f.1) us vs (sym f.4) in
      let called = same_name n f.1 (front_token_is q f.0 (tok.Name n) (tok.Name f.1) us vs (sym f.4)) in
      let after = after_front q f.0 (tok.Name n) (tok.Name f.1) us vs (sym f.4) in
      let end_at = front_place_is e f.2 tok.Semicolon tok.Semicolon r u after in
      ((λ j. clear_key p (place j) (called j) (end_at j)) ∙ sym f.3, after_front e f.2 tok.Semicolon tok.Semicolon r u after)
  one_statement (when p x b ss e) t r u h k nr nu is =
      one_when p x b ss e t r u (λ ts a f v w g. one_statements ss ts a f v w h.1 g) h.0 nr (step_shape t u (at p tok.If) ((syntax_tokens x ++ at b tok.Begin ∷ block ss e []) ++ r) k (sym is))
  one_statement (choose p x b ss e w c rs f) t r u h k nr nu is =
      one_choose p x b ss e w c rs f t r u (λ ts a g v z i. one_statements ss ts a g v z h.1 i) (λ ts a g v z i. one_statements rs ts a g v z h.2 i) h.0 nu
      (step_shape t u (at p tok.If)
      ((syntax_tokens x ++ at b tok.Begin ∷ block ss e (else_block w c rs f [])) ++ r) k (sym is))
  one_statement (abort p q n e) t r u h k nr nu is =
      let f = step_shape t u (at p tok.Abort) (at q (tok.Text n) ∷ at e tok.Semicolon ∷ r) k (sym is) in
      let us = at e tok.Semicolon ∷ r in
      let vs = at f.2 tok.Semicolon ∷ u in
      let place = front_place_is q f.0 (tok.Text n) (tok.Text f.1) us vs (sym f.4) in
      let said = same_text n f.1 (front_token_is q f.0 (tok.Text n) (tok.Text f.1) us vs (sym f.4)) in
      let after = after_front q f.0 (tok.Text n) (tok.Text f.1) us vs (sym f.4) in
      let end_at = front_place_is e f.2 tok.Semicolon tok.Semicolon r u after in
      ((λ j. abort p (place j) (said j) (end_at j)) ∙ sym f.3, after_front e f.2 tok.Semicolon tok.Semicolon r u after)
  one_statement (give p i more e) t r u h k nr nu is =
      let f = step_shape t u (at p tok.Give) ((items_tokens i more ++ at e tok.Semicolon ∷ []) ++ r) k (sym is) in
      let cut = items_cut i more e r (items_tokens i more ++ at e tok.Semicolon ∷ r) refl ∙ inner (items_tokens i more) (at e tok.Semicolon) r ∙ sym f.6
      ∙ sym (items_cut f.0 f.1 f.2 u (items_tokens f.0 f.1 ++ at f.2 tok.Semicolon ∷ u) refl) in
      let a = one_item i f.0 (flat_map next_item more ++ at e tok.Semicolon ∷ r) (flat_map next_item f.1 ++ at f.2 tok.Semicolon ∷ u) h.0 f.4
      (items_stop more e r) (items_stop f.1 f.2 u) cut in
      let b = one_items more f.1 e f.2 r u h.1 f.5 a.1 in
      ((λ j. give p (a.0 j) (b.0 j) (b.1 j)) ∙ sym f.3, b.2)

  pub one_statements : (ss ts : Statements) (e f : ℕ) (r u : List Placed) → AreStatements ss → AreStatements ts →
      block ss e r ≡ block ts f u → (ss ≡ ts) × (e ≡ f) × (r ≡ u)
  one_statements nothing nothing e f r u h k is = (refl, front_place_is e f tok.End tok.End r u is, after_front e f tok.End tok.End r u is)
  one_statements nothing (first t ts) e f r u h k is =
      absurd (begins_other t (block ts f u) (at e tok.End) r
      (sym (append_assoc (statement_tokens t) (statements_tokens ts) (at f tok.End ∷ u)) ∙ sym is) refl)
  one_statements (first s ss) nothing e f r u h k is =
      absurd (begins_other s (block ss e r) (at f tok.End) u
      (sym (append_assoc (statement_tokens s) (statements_tokens ss) (at e tok.End ∷ r)) ∙ is) refl)
  one_statements (first s ss) (first t ts) e f r u h k is =
      let cut = sym (append_assoc (statement_tokens s) (statements_tokens ss) (at e tok.End ∷ r)) ∙ is ∙ append_assoc (statement_tokens t) (statements_tokens ts) (at f tok.End ∷ u) in
      let a = one_statement s t (block ss e r) (block ts f u) h.0 k.0 (no_else ss e r) (no_else ts f u) cut in
      let b = one_statements ss ts e f r u h.1 k.1 a.1 in
      ((λ j. first (a.0 j) (b.0 j)), b.1, b.2)
