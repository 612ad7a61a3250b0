-- What the first token of a part of the grammar says of the part, and where a part ends.
use Rattle.std.proofs.Common.{◌≡◌, inl, inr, ℕ, suc, ◌+◌, ◌<◌, ◌≤◌, List, [], ◌∷◌, ◌++◌, refl, sym, ap, ◌∙◌, subst, arith, append_assoc, take, drop}
use Rattle.std.proofs.Common.{get_or, length, length-append, add-one, Bool, true, false, ◌-◌, ◌⊎◌}
use Rattle.std.proofs.Math.Seq.{take-length}
use Rattle.dt_syntax.specs.declared.token.Token.{Token}
use Rattle.dt_syntax.specs.declared.token.Token.TheVariants as tok
use Rattle.dt_syntax.specs.declared.token.Placed.{Placed}
use Rattle.dt_syntax.specs.declared.operator.Op.{Op}
use Rattle.dt_syntax.specs.declared.operator.Op.TheVariants as op
use Rattle.dt_syntax.specs.Grammar.{front_place, at, Bracketed, bracketed_tokens, Syntax, chain, minus, denial, int, text, truth, name, parens, of_key, made}
use Rattle.dt_syntax.specs.Grammar.{Links, no_link, link, syntax_tokens, links_tokens, level_of, IsLevel, AreLinks, reads_int, reads_text, reads_presence}
use Rattle.dt_syntax.specs.Grammar.{makes_length, makes_text, Item, item_tokens, items_tokens, IsItem, KeyPart, text_part, name_part, show_part, part_tokens}
use Rattle.dt_syntax.specs.Grammar.{KeySyntax, key_tokens, mode_token, params_tokens, statements_tokens, ProcSyntax, proc_tokens, Statement, let_new}
use Rattle.dt_syntax.specs.Grammar.{set_key, clear_key, when, choose, abort, give, Statements, nothing, first, statement_tokens, IsStatement, AreStatements}
use Rattle.dt_syntax.specs.Fronts.{Stops, FrontStops, joined_part, NoElse}
use Rattle.std.specs.List.{flat_map}
use Rattle.dt_lists.specs.Lists.{AllIn}
use Rattle.dt_lists.proofs.Callers.{same_head, same_tail}

pub up : (n : ℕ) (x : Syntax) → IsLevel (suc n) x → IsLevel (n + 1) x
up n x h = subst (λ m. IsLevel m x) (sym (add-one n)) h

-- an expression of a level below 5 is a first operand, and what follows it
pub record IsChain (n : ℕ) (x : Syntax) : Type 0 where
  pub head : Syntax
  pub links : Links
  pub is : x ≡ chain head links
  pub level : IsLevel (n + 1) head
  pub good : AreLinks n links

pub chain_shape : (x : Syntax) (n : ℕ) → n < 5 → IsLevel n x → IsChain n x
chain_shape (chain head links) n lt h = record { head = head; links = links; is = refl; level = up n head h.1; good = h.2 }
chain_shape (minus p x) n lt h = absurd (omega (arith, h.0))
chain_shape (denial p x) n lt h = absurd (omega (arith, h.0))
chain_shape (int p z) n lt h = absurd (omega (arith, h))
chain_shape (text p t) n lt h = absurd (omega (arith, h))
chain_shape (truth p b) n lt h = absurd (omega (arith, h))
chain_shape (name p b) n lt h = absurd (omega (arith, h))
chain_shape (parens p x q) n lt h = absurd (omega (arith, h.0))
chain_shape (of_key p r b) n lt h = absurd (omega (arith, h))
chain_shape (made p m o x q) n lt h = absurd (omega (arith, h.0))

stops_more : (n : ℕ) (t : Token) → Stops n t → Stops (suc n) t
stops_more n (tok.Op o) h = omega arith
stops_more n t h = tt

stops_after : (n : ℕ) (t : Token) → Stops n t → Stops (n + 1) t
stops_after n t h = subst (λ m. Stops m t) (sym (add-one n)) (stops_more n t h)

pub links_stop : (links : Links) (n : ℕ) (us : List Placed) → AreLinks n links → FrontStops n us → FrontStops (n + 1) (links_tokens links ++ us)
links_stop no_link n [] h stop = stop
links_stop no_link n (t ∷ ts) h stop = stops_after n t.token stop
links_stop (link p o x more) n us h stop = let is = h.0 in omega arith

-- the tokens of a chain, cut after the first operand
pub chain_cut : (head : Syntax) (links : Links) (rest ts : List Placed) → syntax_tokens (chain head links) ++ rest ≡ ts →
    syntax_tokens head ++ (links_tokens links ++ rest) ≡ ts
chain_cut head links rest ts e = sym (append_assoc (syntax_tokens head) (links_tokens links) rest) ∙ e

pub inner : (xs : List Placed) (y : Placed) (us : List Placed) → xs ++ y ∷ us ≡ (xs ++ y ∷ []) ++ us
inner xs y us = sym (append_assoc xs (y ∷ []) us)

-- what is left after the first token, as a slice has it
abbrev pub after_first : List Placed → List Placed
after_first ts = take (length ts - 1) (drop 1 ts)

pub left_is : (t : Placed) (ts : List Placed) → after_first (t ∷ ts) ≡ ts
left_is t ts = ap (λ n. take n ts) (let e : suc (length ts) - 1 ≡ length ts = omega arith in e) ∙ take-length ts

-- the first token of some, and the others
pub cut_first : (ts : List Placed) (one : Placed) → 1 ≤ length ts → one ≡ get_or ts 0 one → ts ≡ one ∷ after_first ts
cut_first [] one some is = absurd (omega arith)
cut_first (t ∷ ts) one some is = ap (λ v. v ∷ ts) (sym is) ∙ ap (λ v. one ∷ v) (sym (left_is t ts))

-- where one does, it is the first
pub record IsFirstLink (n : ℕ) (p : ℕ) (o : Op) (after : List Placed) (ls : Links) (rest : List Placed) : Type 0 where
  pub x : Syntax
  pub more : Links
  pub is : ls ≡ link p o x more
  pub level : IsLevel (n + 1) x
  pub good : AreLinks n more
  pub cut : syntax_tokens x ++ (links_tokens more ++ rest) ≡ after

pub placed_is : (p q : ℕ) (s t : Token) → at p s ≡ at q t → (p ≡ q) × (s ≡ t)
placed_is p q s t e = (ap (λ v. v.place) e, ap (λ v. v.token) e)

pub same_op : (o u : Op) → tok.Op o ≡ tok.Op u → o ≡ u
same_op o u e = cc

pub link_first : (n p : ℕ) (o : Op) (after : List Placed) (ls : Links) (rest ts : List Placed) → AreLinks n ls → FrontStops n rest →
    level_of o ≡ n → at p (tok.Op o) ∷ after ≡ ts → links_tokens ls ++ rest ≡ ts → IsFirstLink n p o after ls rest
link_first n p o after no_link [] ts h stop is e f = absurd stop
link_first n p o after no_link (t ∷ rest) ts h stop is e f =
    let same : at p (tok.Op o) ≡ t = same_head (e ∙ sym f) in
    let lower : level_of o < n = subst (λ v. Stops n v.token) (sym same) stop in
    absurd (omega arith)
link_first n p o after (link q u x more) rest ts h stop is e f =
    let joined = f ∙ sym e in
    let same = placed_is q p (tok.Op u) (tok.Op o) (same_head joined) in
    let operator = same_op u o same.1 in
    record {
      x = x;
      more = more;
      is = ap (λ v. link v u x more) same.0 ∙ ap (λ v. link p v x more) operator;
      level = up n x h.1;
      good = h.3;
      cut = sym (append_assoc (syntax_tokens x) (links_tokens more) rest) ∙ same_tail joined;
    }

pub six_stop : (us : List Placed) (n : ℕ) → n ≡ 5 → FrontStops n us → FrontStops 6 us
six_stop us n e stop = next us (subst (λ m. FrontStops m us) e stop)
  where
    next : (us : List Placed) → FrontStops 5 us → FrontStops 6 us
    next [] h = h
    next (t ∷ ts) h = stops_more 5 t.token h

-- an expression begins with a token that is no `row`
pub front_token : (x : Syntax) → (u : Placed) × (us : List Placed) × (syntax_tokens x ≡ u ∷ us) × (u.place ≡ front_place x) × ¬ (u.token ≡ tok.Row)
front_token (chain head links) = let f = front_token head in (f.0, f.1 ++ links_tokens links, ap (λ v. v ++ links_tokens links) f.2, f.3, f.4)
front_token (minus p x) = (at p (tok.Op op.Sub), syntax_tokens x, refl, refl, λ e. cc)
front_token (denial p x) = (at p tok.Not, syntax_tokens x, refl, refl, λ e. cc)
front_token (int p z) = (at p (tok.Int z), [], refl, refl, λ e. cc)
front_token (text p z) = (at p (tok.Text z), [], refl, refl, λ e. cc)
front_token (truth p z) = (at p (tok.Truth z), [], refl, refl, λ e. cc)
front_token (name p z) = (at p (tok.Name z), [], refl, refl, λ e. cc)
front_token (parens p x q) = (at p tok.Open, syntax_tokens x ++ at q tok.Close ∷ [], refl, refl, λ e. cc)
front_token (of_key p reads_int b) = (at p tok.IntWord, bracketed_tokens b, refl, refl, λ e. cc)
front_token (of_key p reads_text b) = (at p tok.TextWord, bracketed_tokens b, refl, refl, λ e. cc)
front_token (of_key p reads_presence b) = (at p tok.Has, bracketed_tokens b, refl, refl, λ e. cc)
front_token (made p makes_length o x q) = (at p tok.Len, at o tok.Open ∷ (syntax_tokens x ++ at q tok.Close ∷ []), refl, refl, λ e. cc)
front_token (made p makes_text o x q) = (at p tok.Show, at o tok.Open ∷ (syntax_tokens x ++ at q tok.Close ∷ []), refl, refl, λ e. cc)

abbrev pub next_item : ℕ × Item → List Placed
next_item m = at m.0 tok.Comma ∷ item_tokens m.1

abbrev pub AreItems : List (ℕ × Item) → Type 0
AreItems more = AllIn (λ m. IsItem m.1) more

pub items_stop : (more : List (ℕ × Item)) (e : ℕ) (us : List Placed) → FrontStops 0 (flat_map next_item more ++ at e tok.Semicolon ∷ us)
items_stop [] e us = tt
items_stop (m ∷ more) e us = tt

pub items_cut : (i : Item) (more : List (ℕ × Item)) (e : ℕ) (rest ts : List Placed) → items_tokens i more ++ at e tok.Semicolon ∷ rest ≡ ts →
    item_tokens i ++ (flat_map next_item more ++ at e tok.Semicolon ∷ rest) ≡ ts
items_cut i more e rest ts h = sym (append_assoc (item_tokens i) (flat_map next_item more) (at e tok.Semicolon ∷ rest)) ∙ h

-- a part that begins with `show`
pub part_show : (i : KeyPart) (rest : List Placed) (t : Placed) (ts : List Placed) → part_tokens i ++ rest ≡ t ∷ ts → t.token ≡ tok.Show →
    (p : ℕ) × (b : Bracketed) × (i ≡ show_part p b) × (bracketed_tokens b ++ rest ≡ ts)
part_show (text_part p t) rest u ts e is = let h = ap (λ v. v.token) (same_head e) in absurd cc
part_show (name_part p n) rest u ts e is = let h = ap (λ v. v.token) (same_head e) in absurd cc
part_show (show_part p b) rest u ts e is = (p, b, refl, same_tail e)

-- one more of a list, after the token that joins it to the others
pub record IsMore {A : Type 0} (joint : Token) (spelled : A → List Placed) (all : List (ℕ × A)) (last after : List Placed) : Type 0 where
  pub one : A
  pub joined_at : ℕ
  pub more : List (ℕ × A)
  pub is : all ≡ (joined_at, one) ∷ more
  pub cut : spelled one ++ (flat_map (λ m. at m.0 joint ∷ spelled m.1) more ++ last) ≡ after

pub more_next : {A : Type 0} (joint : Token) (spelled : A → List Placed) (all : List (ℕ × A)) (q : ℕ) (end : Token) (rest : List Placed) (p : ℕ) (after left : List Placed) →
    ¬ (joint ≡ end) → flat_map (λ m. at m.0 joint ∷ spelled m.1) all ++ at q end ∷ rest ≡ left → at p joint ∷ after ≡ left →
    IsMore joint spelled all (at q end ∷ rest) after
more_next joint spelled [] q end rest p after left differ e f =
    absurd (differ (ap (λ v. v.token) (same_head (f ∙ sym e))))
more_next joint spelled (m ∷ more) q end rest p after left differ e f = record {
  one = m.1;
  joined_at = m.0;
  more = more;
  is = refl;
  cut = sym (append_assoc (spelled m.1) (flat_map (λ m. at m.0 joint ∷ spelled m.1) more) (at q end ∷ rest))
      ∙ same_tail (e ∙ sym f);
}

pub more_end : {A : Type 0} (joint : Token) (spelled : A → List Placed) (all : List (ℕ × A)) (q : ℕ) (end : Token) (rest left : List Placed) →
    flat_map (λ m. at m.0 joint ∷ spelled m.1) all ++ at q end ∷ rest ≡ left → ((p : ℕ) (us : List Placed) → ¬ (at p joint ∷ us ≡ left)) →
    (all ≡ []) × (at q end ∷ rest ≡ left)
more_end joint spelled [] q end rest left e none = (refl, e)
more_end joint spelled (m ∷ more) q end rest left e none =
    absurd (none m.0 ((spelled m.1 ++ flat_map (λ m. at m.0 joint ∷ spelled m.1) more) ++ at q end ∷ rest) e)

pub no_comma_close : ¬ (tok.Comma ≡ tok.Close)
no_comma_close e = cc

pub no_join_semicolon : ¬ (tok.Op op.Join ≡ tok.Semicolon)
no_join_semicolon e = cc

-- a key comes first, or none
pub record IsFirstKey (all : List KeySyntax) (w : Bool) (p : ℕ) (last after : List Placed) : Type 0 where
  pub key : KeySyntax
  pub more : List KeySyntax
  pub is : all ≡ key ∷ more
  pub mode : key.write ≡ w
  pub cut : at key.name_at (tok.Name key.name) ∷ at key.is_at tok.Is ∷ (part_tokens key.first ++ (flat_map joined_part key.more ++ at key.end_at tok.Semicolon ∷
      (flat_map key_tokens more ++ last))) ≡ after

-- the tokens of a declaration from its second part on, and those behind it
abbrev pub from_more_parts : KeySyntax → List Placed → List Placed
from_more_parts k us = flat_map joined_part k.more ++ at k.end_at tok.Semicolon ∷ us

pub key_cut : (k : KeySyntax) (us : List Placed) →
    key_tokens k ++ us ≡ at k.word_at (mode_token k.write) ∷ at k.name_at (tok.Name k.name) ∷ at k.is_at tok.Is
    ∷ (part_tokens k.first ++ from_more_parts k us)
key_cut k us =
    ap (λ v. at k.word_at (mode_token k.write) ∷ at k.name_at (tok.Name k.name) ∷ at k.is_at tok.Is ∷ v)
    (append_assoc (part_tokens k.first) (from_more_parts k []) us
    ∙ ap (λ v. part_tokens k.first ++ v) (append_assoc (flat_map joined_part k.more) (at k.end_at tok.Semicolon ∷ []) us))

pub mode_is : (v w : Bool) → mode_token v ≡ mode_token w → v ≡ w
mode_is true true e = refl
mode_is false false e = refl
mode_is true false e = absurd cc
mode_is false true e = absurd cc

pub mode_begin : (w : Bool) → ¬ (tok.Begin ≡ mode_token w)
mode_begin true e = cc
mode_begin false e = cc

pub key_first : (all : List KeySyntax) (b : ℕ) (rest : List Placed) (t : Placed) (ts : List Placed) (w : Bool) → t.token ≡ mode_token w →
    flat_map key_tokens all ++ at b tok.Begin ∷ rest ≡ t ∷ ts → IsFirstKey all w t.place (at b tok.Begin ∷ rest) ts
key_first [] b rest t ts w is e = absurd (mode_begin w (ap (λ v. v.token) (same_head e) ∙ is))
key_first (k ∷ ks) b rest t ts w is e =
    let whole = sym (key_cut k (flat_map key_tokens ks ++ at b tok.Begin ∷ rest))
    ∙ sym (append_assoc (key_tokens k) (flat_map key_tokens ks) (at b tok.Begin ∷ rest)) ∙ e in
    record {
      key = k;
      more = ks;
      is = refl;
      mode = mode_is k.write w (ap (λ v. v.token) (same_head whole) ∙ is);
      cut = same_tail whole;
    }

pub key_none : (all : List KeySyntax) (b : ℕ) (rest : List Placed) (t : Placed) (ts : List Placed) → ¬ (t.token ≡ tok.Read) → ¬ (t.token ≡ tok.Write) →
    flat_map key_tokens all ++ at b tok.Begin ∷ rest ≡ t ∷ ts → (all ≡ []) × (ts ≡ rest)
key_none [] b rest t ts r w e = (refl, sym (same_tail e))
key_none (k ∷ ks) b rest t ts r w e = absurd (neither k.write (ap (λ v. v.token) (same_head whole)))
  where
    whole : at k.word_at (mode_token k.write) ∷ at k.name_at (tok.Name k.name) ∷ at k.is_at tok.Is
        ∷ (part_tokens k.first ++ (flat_map joined_part k.more ++ at k.end_at tok.Semicolon ∷ (flat_map key_tokens ks ++ at b tok.Begin ∷ rest))) ≡ t ∷ ts
    whole = sym (key_cut k (flat_map key_tokens ks ++ at b tok.Begin ∷ rest)) ∙ sym (append_assoc (key_tokens k) (flat_map key_tokens ks) (at b tok.Begin ∷ rest)) ∙ e

    neither : (v : Bool) → mode_token v ≡ t.token → ⊥
    neither true h = w (sym h)
    neither false h = r (sym h)

pub proc_cut : (p : ProcSyntax) (rest ts : List Placed) → proc_tokens p ++ rest ≡ ts →
    at p.word_at tok.Proc ∷ at p.name_at (tok.Name p.name) ∷ at p.open_at tok.Open ∷ (params_tokens p.params ++ at p.close_at tok.Close
    ∷ (flat_map key_tokens (p.key ∷ p.more_keys) ++ at p.begin_at tok.Begin ∷ (statements_tokens p.body ++ at p.end_at tok.End ∷ rest))) ≡ ts
proc_cut p rest ts e =
    let start : List Placed → List Placed = λ v. at p.word_at tok.Proc ∷ at p.name_at (tok.Name p.name) ∷ at p.open_at tok.Open ∷ v in
    let spelled = params_tokens p.params in
    let key = key_tokens p.key in
    let keys = flat_map key_tokens p.more_keys in
    let body = statements_tokens p.body in
    let last = body ++ at p.end_at tok.End ∷ [] in
    let behind_key = keys ++ at p.begin_at tok.Begin ∷ last in
    let behind_params = key ++ behind_key in
    let end : last ++ rest ≡ body ++ at p.end_at tok.End ∷ rest = append_assoc body (at p.end_at tok.End ∷ []) rest in
    let one : behind_params ++ rest ≡ (key ++ keys) ++ at p.begin_at tok.Begin ∷ (body ++ at p.end_at tok.End ∷ rest) =
    append_assoc key behind_key rest ∙ ap (λ v. key ++ v) (append_assoc keys (at p.begin_at tok.Begin ∷ last) rest ∙ ap (λ v. keys ++ at p.begin_at tok.Begin ∷ v) end)
    ∙ sym (append_assoc key keys (at p.begin_at tok.Begin ∷ (body ++ at p.end_at tok.End ∷ rest))) in
    ap start (sym (append_assoc spelled (at p.close_at tok.Close ∷ behind_params) rest
    ∙ ap (λ v. spelled ++ at p.close_at tok.Close ∷ v) one)) ∙ e

pub proc_longer : (p : ProcSyntax) (rest ts : List Placed) → proc_tokens p ++ rest ≡ ts → length rest < length ts
proc_longer p rest ts e = omega (arith, ap length e, length-append (proc_tokens p) rest)

-- the statements of a block with the `}`, and what stands behind it
abbrev pub block : Statements → ℕ → List Placed → List Placed
block ss e rest = statements_tokens ss ++ at e tok.End ∷ rest

abbrev pub else_block : ℕ → ℕ → Statements → ℕ → List Placed → List Placed
else_block w o rs f rest = at w tok.Else ∷ at o tok.Begin ∷ block rs f rest

pub no_else : (ss : Statements) (e : ℕ) (rest : List Placed) → NoElse (block ss e rest)
no_else nothing e rest = λ h. cc
no_else (first (let_new p q n i x f) ss) e rest = λ h. cc
no_else (first (set_key p q n i x f) ss) e rest = λ h. cc
no_else (first (clear_key p q n f) ss) e rest = λ h. cc
no_else (first (when p x b ts f) ss) e rest = λ h. cc
no_else (first (choose p x b ts f w c rs g) ss) e rest = λ h. cc
no_else (first (abort p q t f) ss) e rest = λ h. cc
no_else (first (give p i more f) ss) e rest = λ h. cc

pub begins_other : (s : Statement) (us : List Placed) (t : Placed) (ts : List Placed) → statement_tokens s ++ us ≡ t ∷ ts → ¬ (t.token ≡ tok.End)
begins_other (let_new p q n i x f) us t ts e = λ h. let a = ap (λ v. v.token) (same_head e) in cc
begins_other (set_key p q n i x f) us t ts e = λ h. let a = ap (λ v. v.token) (same_head e) in cc
begins_other (clear_key p q n f) us t ts e = λ h. let a = ap (λ v. v.token) (same_head e) in cc
begins_other (when p x b ss f) us t ts e = λ h. let a = ap (λ v. v.token) (same_head e) in cc
begins_other (choose p x b ss f w c rs g) us t ts e = λ h. let a = ap (λ v. v.token) (same_head e) in cc
begins_other (abort p q x f) us t ts e = λ h. let a = ap (λ v. v.token) (same_head e) in cc
begins_other (give p i more f) us t ts e = λ h. let a = ap (λ v. v.token) (same_head e) in cc

-- what a `let` and a `set` have in common, and what stands behind it
abbrev pub setting : ℕ → List ℕ → ℕ → Syntax → ℕ → List Placed → List Placed
setting q n i x e rest = at q (tok.Name n) ∷ at i tok.Is ∷ (syntax_tokens x ++ at e tok.Semicolon ∷ rest)

-- what the first token of a statement says of it
abbrev pub StepShape : Token → ℕ → List Placed → Statement → List Placed → Type 0
StepShape tok.Let p ts s rest =
    (q : ℕ) × (n : List ℕ) × (i : ℕ) × (x : Syntax) × (e : ℕ) × (s ≡ let_new p q n i x e) × IsLevel 0 x × (setting q n i x e rest ≡ ts)
StepShape tok.Set p ts s rest =
    (q : ℕ) × (n : List ℕ) × (i : ℕ) × (x : Syntax) × (e : ℕ) × (s ≡ set_key p q n i x e) × IsLevel 0 x × (setting q n i x e rest ≡ ts)
StepShape tok.Clear p ts s rest =
    (q : ℕ) × (n : List ℕ) × (e : ℕ) × (s ≡ clear_key p q n e) × (at q (tok.Name n) ∷ at e tok.Semicolon ∷ rest ≡ ts)
StepShape tok.If p ts s rest =
    ((x : Syntax) × (b : ℕ) × (ss : Statements) × (e : ℕ) × (s ≡ when p x b ss e) × IsLevel 0 x × AreStatements ss
    × (syntax_tokens x ++ at b tok.Begin ∷ block ss e rest ≡ ts))
    ⊎ ((x : Syntax) × (b : ℕ) × (ss : Statements) × (e : ℕ) × (w : ℕ) × (o : ℕ) × (rs : Statements) × (f : ℕ) × (s ≡ choose p x b ss e w o rs f)
    × IsLevel 0 x × AreStatements ss × AreStatements rs
    × (syntax_tokens x ++ at b tok.Begin ∷ block ss e (else_block w o rs f rest) ≡ ts))
StepShape tok.Abort p ts s rest =
    (q : ℕ) × (t : List ℕ) × (e : ℕ) × (s ≡ abort p q t e) × (at q (tok.Text t) ∷ at e tok.Semicolon ∷ rest ≡ ts)
StepShape tok.Give p ts s rest =
    (i : Item) × (more : List (ℕ × Item)) × (e : ℕ) × (s ≡ give p i more e) × IsItem i × AllIn (λ m. IsItem m.1) more
    × (items_tokens i more ++ at e tok.Semicolon ∷ rest ≡ ts)
StepShape t p ts s rest = ⊥

shape_at : (t u : Placed) (ts us : List Placed) (s : Statement) (rest : List Placed) → t ∷ ts ≡ u ∷ us →
    StepShape t.token t.place ts s rest → StepShape u.token u.place us s rest
shape_at t u ts us s rest e h =
    subst (λ v. StepShape u.token u.place v s rest) (same_tail e)
    (subst (λ v. StepShape v.token v.place ts s rest) (same_head e) h)

-- the tokens of what a `let` and a `set` have in common, and those behind it
pub setting_cut : (q : ℕ) (n : List ℕ) (i : ℕ) (x : Syntax) (e : ℕ) (rest : List Placed) →
    setting q n i x e rest ≡ at q (tok.Name n) ∷ at i tok.Is ∷ ((syntax_tokens x ++ at e tok.Semicolon ∷ []) ++ rest)
setting_cut q n i x e rest = ap (λ v. at q (tok.Name n) ∷ at i tok.Is ∷ v) (inner (syntax_tokens x) (at e tok.Semicolon) rest)

pub step_shape : (s : Statement) (rest : List Placed) (t : Placed) (ts : List Placed) → IsStatement s → statement_tokens s ++ rest ≡ t ∷ ts →
    StepShape t.token t.place ts s rest
step_shape (let_new p q n i x e) rest t ts h is =
    shape_at (at p tok.Let) t _ ts (let_new p q n i x e) rest is
    (q, n, i, x, e, refl, h, setting_cut q n i x e rest)
step_shape (set_key p q n i x e) rest t ts h is =
    shape_at (at p tok.Set) t _ ts (set_key p q n i x e) rest is
    (q, n, i, x, e, refl, h, setting_cut q n i x e rest)
step_shape (clear_key p q n e) rest t ts h is = shape_at (at p tok.Clear) t _ ts (clear_key p q n e) rest is (q, n, e, refl, refl)
step_shape (when p x b ss e) rest t ts h is =
    shape_at (at p tok.If) t _ ts (when p x b ss e) rest is
    (inl (
      x,
      b,
      ss,
      e,
      refl,
      h.0,
      h.1,
      ap (λ v. syntax_tokens x ++ at b tok.Begin ∷ v) (inner (statements_tokens ss) (at e tok.End) rest)
          ∙ sym (append_assoc (syntax_tokens x) (at b tok.Begin ∷ block ss e []) rest),
    ))
step_shape (choose p x b ss e w o rs f) rest t ts h is =
    shape_at (at p tok.If) t _ ts (choose p x b ss e w o rs f) rest is
    (inr (
      x,
      b,
      ss,
      e,
      w,
      o,
      rs,
      f,
      refl,
      h.0,
      h.1,
      h.2,
      ap (λ v. syntax_tokens x ++ at b tok.Begin ∷ (statements_tokens ss ++ at e tok.End ∷ at w tok.Else ∷ at o tok.Begin ∷ v)) (inner (statements_tokens rs) (at f tok.End) rest)
          ∙ ap (λ v. syntax_tokens x ++ at b tok.Begin ∷ v) (sym (append_assoc (statements_tokens ss) (at e tok.End ∷ else_block w o rs f []) rest))
          ∙ sym (append_assoc (syntax_tokens x) (at b tok.Begin ∷ block ss e (else_block w o rs f [])) rest),
    ))
step_shape (abort p q x e) rest t ts h is = shape_at (at p tok.Abort) t _ ts (abort p q x e) rest is (q, x, e, refl, refl)
step_shape (give p i more e) rest t ts h is =
    shape_at (at p tok.Give) t _ ts (give p i more e) rest is (i, more, e, refl, h.0, h.1, inner (items_tokens i more) (at e tok.Semicolon) rest)

pub step_when : (s : Statement) (rest ts : List Placed) (one : Placed) (k : Token) → IsStatement s → 1 ≤ length ts → one ≡ get_or ts 0 one →
    statement_tokens s ++ rest ≡ ts → one.token ≡ k → StepShape k one.place (after_first ts) s rest
step_when s rest ts one k h some is e same =
    subst (λ t. StepShape t one.place (after_first ts) s rest) same (step_shape s rest one (after_first ts) h (e ∙ cut_first ts one some is))

pub some_statement : (s : Statement) (rest ts : List Placed) → length ts < 1 → statement_tokens s ++ rest ≡ ts → ⊥
some_statement (let_new p q n i x e) rest ts none is = omega (arith, ap length is)
some_statement (set_key p q n i x e) rest ts none is = omega (arith, ap length is)
some_statement (clear_key p q n e) rest ts none is = omega (arith, ap length is)
some_statement (when p x b ss e) rest ts none is = omega (arith, ap length is)
some_statement (choose p x b ss e w o rs f) rest ts none is = omega (arith, ap length is)
some_statement (abort p q x e) rest ts none is = omega (arith, ap length is)
some_statement (give p i more e) rest ts none is = omega (arith, ap length is)

pub no_statement : (k : Token) (p : ℕ) (ts : List Placed) (s : Statement) (rest : List Placed) →
    ¬ (k ≡ tok.Let) → ¬ (k ≡ tok.Set) → ¬ (k ≡ tok.Clear) → ¬ (k ≡ tok.If) → ¬ (k ≡ tok.Abort) → ¬ (k ≡ tok.Give) → ¬ (StepShape k p ts s rest)
no_statement tok.Let p ts s rest a b c d e f h = a refl
no_statement tok.Set p ts s rest a b c d e f h = b refl
no_statement tok.Clear p ts s rest a b c d e f h = c refl
no_statement tok.If p ts s rest a b c d e f h = d refl
no_statement tok.Abort p ts s rest a b c d e f h = e refl
no_statement tok.Give p ts s rest a b c d e f h = f refl
no_statement t p ts s rest a b c d e f h = h
