-- What the machine has read is what some procedures begin with.
use Rattle.std.proofs.Common.{◌≡◌, ℕ, zero, suc, ◌≤◌, Bool, true, false, cond, ◌==◌, nat_le, pos, List, [], ◌∷◌, ◌++◌, Option, Some, None, refl, sym, ap, ◌∙◌, subst, arith, append_assoc, append-nil}
use Rattle.std.specs.List.{flat_map}
use Rattle.std.proofs.lemmas.Bool.Decides.{nat_tests}
use Rattle.dt_lists.specs.Lists.{AllIn}
use Rattle.dt_syntax.specs.declared.kinds.Kind.{Kind}
use Rattle.dt_syntax.specs.declared.kinds.Kind.TheVariants as kind
use Rattle.dt_syntax.specs.declared.operator.Op.{Op}
use Rattle.dt_syntax.specs.declared.operator.Op.TheVariants as op
use Rattle.dt_syntax.specs.declared.token.Token.{Token}
use Rattle.dt_syntax.specs.declared.token.Token.TheVariants as tok
use Rattle.dt_syntax.specs.declared.token.Placed.{Placed}
use Rattle.dt_syntax.specs.declared.machine.Sym.{Sym}
use Rattle.dt_syntax.specs.declared.machine.Sym.TheVariants as expect
use Rattle.dt_syntax.specs.MachineInner.{Turn, takes, passes, refuses, tails, after_operator, operand, operator, statement, turn, after_turn, advance, onward, run}
use Rattle.dt_syntax.specs.Grammar.{at, Bracketed, Syntax, chain, minus, denial, int, text, truth, name, parens, of_key, made, Links, no_link, link, syntax_tokens}
use Rattle.dt_syntax.specs.Grammar.{links_tokens, level_of, IsLevel, AreLinks, reads_int, reads_text, reads_presence, makes_length, makes_text, Param}
use Rattle.dt_syntax.specs.Grammar.{kind_token, Params, no_param, params, params_tokens, KeyPart, text_part, name_part, show_part, part_tokens}
use Rattle.dt_syntax.specs.Grammar.{KeySyntax, key_tokens, Item, row_item, value_item, item_tokens, let_new, set_key, clear_key, when, choose, abort, give}
use Rattle.dt_syntax.specs.Grammar.{Statements, nothing, first, statements_tokens, IsItem, AreStatements, ProcSyntax, procs_tokens, AreProcSyntaxes, InGrammar}
use Rattle.dt_syntax.specs.Grammar.{Begins}
use Rattle.dt_syntax.specs.Fronts.{comma_param, joined_part}
use Rattle.dt_syntax.proofs.Shapes.{next_item}

-- what stands from the keys of a procedure on
record Rest : Type 0 where
  more_keys : List KeySyntax
  begin_at : ℕ
  body : Statements
  end_at : ℕ
  good : AreStatements body

abbrev rest_tokens : Rest → List Placed
rest_tokens r = flat_map key_tokens r.more_keys ++ at r.begin_at tok.Begin ∷ (statements_tokens r.body ++ at r.end_at tok.End ∷ [])

abbrev with_key : KeySyntax → Rest → Rest
with_key key r = record { more_keys = key ∷ r.more_keys; begin_at = r.begin_at; body = r.body; end_at = r.end_at; good = r.good }

-- statements, with the `}` that closes them
record Closed : Type 0 where
  body : Statements
  end_at : ℕ
  good : AreStatements body

abbrev closed_tokens : Closed → List Placed
closed_tokens c = statements_tokens c.body ++ at c.end_at tok.End ∷ []

-- `else` and its block
record Otherwise : Type 0 where
  else_at : ℕ
  begin_at : ℕ
  block : Closed

abbrev otherwise_tokens : Otherwise → List Placed
otherwise_tokens o = at o.else_at tok.Else ∷ at o.begin_at tok.Begin ∷ closed_tokens o.block

abbrev Otherwises : Type 0
Otherwises = Option Otherwise

abbrev otherwises_tokens : Otherwises → List Placed
otherwises_tokens None = []
otherwises_tokens (Some o) = otherwise_tokens o

-- a text of each part of the grammar that may be expected
abbrev Tree : Sym → Type 0
Tree expect.Procs = (ps : List ProcSyntax) × AreProcSyntaxes ps
Tree expect.Name = ℕ × List ℕ
Tree expect.Text = ℕ × List ℕ
Tree expect.Open = ℕ
Tree expect.Close = ℕ
Tree expect.Begin = ℕ
Tree expect.Colon = ℕ
Tree expect.Is = ℕ
Tree expect.Semicolon = ℕ
Tree expect.Params = Params × ℕ
Tree expect.MoreParams = List (ℕ × Param) × ℕ
Tree expect.Kind = ℕ × Kind
Tree expect.Keys = KeySyntax × Rest
Tree expect.MoreKeys = Rest
Tree expect.Part = KeyPart
Tree expect.MoreParts = List (ℕ × KeyPart) × ℕ
Tree expect.Statements = Closed
Tree expect.AfterIf = Otherwises × Closed
Tree expect.Item = (i : Item) × IsItem i
Tree expect.MoreItems = ((more : List (ℕ × Item)) × AllIn (λ m. IsItem m.1) more) × ℕ
Tree (expect.Level n) = (x : Syntax) × IsLevel n x
Tree (expect.Tail n) = (ls : Links) × AreLinks n ls

abbrev spelled : (s : Sym) → Tree s → List Placed
spelled expect.Procs t = procs_tokens t.0
spelled expect.Name t = at t.0 (tok.Name t.1) ∷ []
spelled expect.Text t = at t.0 (tok.Text t.1) ∷ []
spelled expect.Open t = at t tok.Open ∷ []
spelled expect.Close t = at t tok.Close ∷ []
spelled expect.Begin t = at t tok.Begin ∷ []
spelled expect.Colon t = at t tok.Colon ∷ []
spelled expect.Is t = at t tok.Is ∷ []
spelled expect.Semicolon t = at t tok.Semicolon ∷ []
spelled expect.Params t = params_tokens t.0 ++ at t.1 tok.Close ∷ []
spelled expect.MoreParams t = flat_map comma_param t.0 ++ at t.1 tok.Close ∷ []
spelled expect.Kind t = at t.0 (kind_token t.1) ∷ []
spelled expect.Keys t = key_tokens t.0 ++ rest_tokens t.1
spelled expect.MoreKeys t = rest_tokens t
spelled expect.Part t = part_tokens t
spelled expect.MoreParts t = flat_map joined_part t.0 ++ at t.1 tok.Semicolon ∷ []
spelled expect.Statements t = closed_tokens t
spelled expect.AfterIf t = otherwises_tokens t.0 ++ closed_tokens t.1
spelled expect.Item t = item_tokens t.0
spelled expect.MoreItems t = flat_map next_item t.0.0 ++ at t.1 tok.Semicolon ∷ []
spelled (expect.Level n) t = syntax_tokens t.0
spelled (expect.Tail n) t = links_tokens t.0

-- a text of each of what is expected
abbrev Trees : List Sym → Type 0
Trees [] = Unit {0}
Trees (s ∷ st) = Tree s × Trees st

abbrev all_spelled : (st : List Sym) → Trees st → List Placed
all_spelled [] t = []
all_spelled (s ∷ st) t = spelled s t.0 ++ all_spelled st t.1

-- a text of what was expected begins with the token, and goes on with a text of what is expected after it
abbrev Back : Sym → Placed → Turn → Type 0
Back s t (takes after) =
    (st : List Sym) (tree : Trees (after ++ st)) → (whole : Tree s) × (rest : Trees st) × (spelled s whole ++ all_spelled st rest ≡ t ∷ all_spelled (after ++ st) tree)
Back s t passes = (empty : Tree s) × (spelled s empty ≡ [])
Back s t refuses = Unit {0}

-- an operand, and the operators after it, down to the level
abbrev Climbed : (n : ℕ) → Syntax → (st : List Sym) → Trees (tails n ++ st) → Type 0
Climbed n x st tree = (y : Syntax) × IsLevel n y × (rest : Trees st) × (syntax_tokens y ++ all_spelled st rest ≡ syntax_tokens x ++ all_spelled (tails n ++ st) tree)

climb : (n : ℕ) (x : Syntax) → IsLevel 5 x → (5 ≤ n → IsLevel n x) → (st : List Sym) (tree : Trees (tails n ++ st)) → Climbed n x st tree
climb zero x h all st (l4, (l3, (l2, (l1, (l0, rest))))) = (
  chain (chain (chain (chain (chain x l4.0) l3.0) l2.0) l1.0) l0.0,
  (omega arith, (omega arith, (omega arith, (omega arith, (omega arith, h, l4.1), l3.1), l2.1), l1.1), l0.1),
  rest,
  simp append_assoc,
)
climb (suc zero) x h all st (l4, (l3, (l2, (l1, rest)))) = (
  chain (chain (chain (chain x l4.0) l3.0) l2.0) l1.0,
  (omega arith, (omega arith, (omega arith, (omega arith, h, l4.1), l3.1), l2.1), l1.1),
  rest,
  simp append_assoc,
)
climb (suc (suc zero)) x h all st (l4, (l3, (l2, rest))) =
    (chain (chain (chain x l4.0) l3.0) l2.0, (omega arith, (omega arith, (omega arith, h, l4.1), l3.1), l2.1), rest, simp append_assoc)
climb (suc (suc (suc zero))) x h all st (l4, (l3, rest)) =
    (chain (chain x l4.0) l3.0, (omega arith, (omega arith, h, l4.1), l3.1), rest, simp append_assoc)
climb (suc (suc (suc (suc zero)))) x h all st (l4, rest) =
    (chain x l4.0, (omega arith, h, l4.1), rest, append_assoc (syntax_tokens x) (links_tokens l4.0) (all_spelled st rest))
climb (suc (suc (suc (suc (suc n))))) x h all st rest = (x, all (omega arith), rest, refl)

prefix_back : (b : Bool) (n : ℕ) (t : Placed) (x : Syntax → Syntax) → nat_le n 5 ≡ b →
    ((y : Syntax) → syntax_tokens (x y) ≡ t ∷ syntax_tokens y) → ((y : Syntax) → IsLevel 6 y → IsLevel 5 (x y)) →
    Back (expect.Level n) t (cond b (takes (expect.Level 6 ∷ tails n)) refuses)
prefix_back false n t x e spells fits = tt
prefix_back true n t x e spells fits = λ st tree.
    let few : n ≤ 5 = grind (arith, nat_tests) in
    let y = climb n (x tree.0.0) (fits tree.0.0 tree.0.1) (λ h. let five : 5 ≡ n = omega arith in subst (λ m. IsLevel m (x tree.0.0)) five (fits tree.0.0 tree.0.1)) st tree.1 in
    ((y.0, y.1), y.2, y.3 ∙ ap (λ v. v ++ all_spelled (tails n ++ st) tree.1) (spells tree.0.0))

-- a name in brackets
abbrev in_brackets : ℕ → ℕ × List ℕ → ℕ → Bracketed
in_brackets o m c = record { open_at = o; name_at = m.0; name = m.1; close_at = c }

-- an operand up to its `)`, and what stands behind it
closed : (n : ℕ) (x : Syntax) (q : ℕ) (st : List Sym) (tree : Trees (tails n ++ st)) →
    (syntax_tokens x ++ at q tok.Close ∷ []) ++ all_spelled (tails n ++ st) tree ≡ syntax_tokens x ++ at q tok.Close ∷ all_spelled (tails n ++ st) tree
closed n x q st tree = append_assoc (syntax_tokens x) (at q tok.Close ∷ []) (all_spelled (tails n ++ st) tree)

operand_back : (n : ℕ) (t : Token) (p : ℕ) → Back (expect.Level n) (at p t) (operand n t)
operand_back n (tok.Int z) p = λ st tree. let y = climb n (int p z) (omega arith) (λ h. h) st tree in ((y.0, y.1), y.2, y.3)
operand_back n (tok.Text b) p = λ st tree. let y = climb n (text p b) (omega arith) (λ h. h) st tree in ((y.0, y.1), y.2, y.3)
operand_back n (tok.Truth b) p = λ st tree. let y = climb n (truth p b) (omega arith) (λ h. h) st tree in ((y.0, y.1), y.2, y.3)
operand_back n (tok.Name b) p = λ st tree. let y = climb n (name p b) (omega arith) (λ h. h) st tree in ((y.0, y.1), y.2, y.3)
operand_back n tok.Open p = λ st (x, (q, tree)).
    let y = climb n (parens p x.0 q) (omega arith, x.1) (λ h. (h, x.1)) st tree in
    ((y.0, y.1), y.2, y.3 ∙ ap (λ v. at p tok.Open ∷ v) (closed n x.0 q st tree))
operand_back n tok.IntWord p = λ st (o, (m, (c, tree))).
    let y = climb n (of_key p reads_int (in_brackets o m c)) (omega arith) (λ h. h) st tree in ((y.0, y.1), y.2, y.3)
operand_back n tok.TextWord p = λ st (o, (m, (c, tree))).
    let y = climb n (of_key p reads_text (in_brackets o m c)) (omega arith) (λ h. h) st tree in ((y.0, y.1), y.2, y.3)
operand_back n tok.Has p = λ st (o, (m, (c, tree))).
    let y = climb n (of_key p reads_presence (in_brackets o m c)) (omega arith) (λ h. h) st tree in ((y.0, y.1), y.2, y.3)
operand_back n tok.Len p = λ st (o, (x, (q, tree))).
    let y = climb n (made p makes_length o x.0 q) (omega arith, x.1) (λ h. (h, x.1)) st tree in
    ((y.0, y.1), y.2, y.3 ∙ ap (λ v. at p tok.Len ∷ at o tok.Open ∷ v) (closed n x.0 q st tree))
operand_back n tok.Show p = λ st (o, (x, (q, tree))).
    let y = climb n (made p makes_text o x.0 q) (omega arith, x.1) (λ h. (h, x.1)) st tree in
    ((y.0, y.1), y.2, y.3 ∙ ap (λ v. at p tok.Show ∷ at o tok.Open ∷ v) (closed n x.0 q st tree))
operand_back n tok.Not p = prefix_back (nat_le n 5) n (at p tok.Not) (denial p) refl (λ y. refl) (λ y h. (refl, h))
operand_back n (tok.Op op.Sub) p = prefix_back (nat_le n 5) n (at p (tok.Op op.Sub)) (minus p) refl (λ y. refl) (λ y h. (refl, h))
operand_back n t p = tt

one_more : (p : ℕ) (o : Op) (n : ℕ) → level_of o ≡ n → ¬ (n ≡ 2) → (st : List Sym) (tree : Trees (expect.Level (suc n) ∷ expect.Tail n ∷ st)) →
    (whole : Tree (expect.Tail n)) × (rest : Trees st)
    × (links_tokens whole.0 ++ all_spelled st rest ≡ at p (tok.Op o) ∷ all_spelled (expect.Level (suc n) ∷ expect.Tail n ∷ st) tree)
one_more p o n e other st (x, (more, rest)) = (
  (link p o x.0 more.0, (e, x.1, (λ two. absurd (other two)), more.1)),
  rest,
  ap (λ v. at p (tok.Op o) ∷ v) (append_assoc (syntax_tokens x.0) (links_tokens more.0) (all_spelled st rest)),
)

comparison : (p : ℕ) (o : Op) → level_of o ≡ 2 → (st : List Sym) (tree : Trees (expect.Level 3 ∷ st)) →
    (whole : Tree (expect.Tail 2)) × (rest : Trees st)
    × (links_tokens whole.0 ++ all_spelled st rest ≡ at p (tok.Op o) ∷ all_spelled (expect.Level 3 ∷ st) tree)
comparison p o e st (x, rest) = (
  (link p o x.0 no_link, (e, x.1, (λ two. refl), tt)),
  rest,
  ap (λ v. at p (tok.Op o) ∷ v) (append_assoc (syntax_tokens x.0) [] (all_spelled st rest)),
)

operator_taken : (o : Op) (p : ℕ) → Back (expect.Tail (level_of o)) (at p (tok.Op o)) (takes (after_operator o))
operator_taken op.Or p = one_more p op.Or 0 refl (λ e. absurd (omega arith))
operator_taken op.And p = one_more p op.And 1 refl (λ e. absurd (omega arith))
operator_taken op.Equal p = comparison p op.Equal refl
operator_taken op.Differ p = comparison p op.Differ refl
operator_taken op.Less p = comparison p op.Less refl
operator_taken op.AtMost p = comparison p op.AtMost refl
operator_taken op.More p = comparison p op.More refl
operator_taken op.AtLeast p = comparison p op.AtLeast refl
operator_taken op.Add p = one_more p op.Add 3 refl (λ e. absurd (omega arith))
operator_taken op.Sub p = one_more p op.Sub 3 refl (λ e. absurd (omega arith))
operator_taken op.Join p = one_more p op.Join 3 refl (λ e. absurd (omega arith))
operator_taken op.Mul p = one_more p op.Mul 4 refl (λ e. absurd (omega arith))
operator_taken op.Div p = one_more p op.Div 4 refl (λ e. absurd (omega arith))
operator_taken op.Rem p = one_more p op.Rem 4 refl (λ e. absurd (omega arith))

operator_case : (b : Bool) (n : ℕ) (o : Op) (p : ℕ) → (level_of o == n) ≡ b →
    Back (expect.Tail n) (at p (tok.Op o)) (cond b (takes (after_operator o)) passes)
operator_case true n o p e =
    let same : level_of o ≡ n = grind (arith, nat_tests) in
    subst (λ m. Back (expect.Tail m) (at p (tok.Op o)) (takes (after_operator o))) same (operator_taken o p)
operator_case false n o p e = ((no_link, tt), refl)

operator_back : (n : ℕ) (t : Token) (p : ℕ) → Back (expect.Tail n) (at p t) (operator n t)
operator_back n (tok.Op o) p = operator_case (level_of o == n) n o p refl
operator_back n t p = ((no_link, tt), refl)

statement_back : (t : Token) (p : ℕ) → Back expect.Statements (at p t) (statement t)
statement_back tok.Let p = λ st (m, (i, (x, (e, (c, rest))))).
    (record { body = first (let_new p m.0 m.1 i x.0 e) c.body; end_at = c.end_at; good = (x.1, c.good) }, rest, simp append_assoc)
statement_back tok.Set p = λ st (m, (i, (x, (e, (c, rest))))).
    (record { body = first (set_key p m.0 m.1 i x.0 e) c.body; end_at = c.end_at; good = (x.1, c.good) }, rest, simp append_assoc)
statement_back tok.Clear p = λ st (m, (e, (c, rest))).
    (record { body = first (clear_key p m.0 m.1 e) c.body; end_at = c.end_at; good = (tt, c.good) }, rest, simp append_assoc)
statement_back tok.If p = λ st (x, (b, (a, (o, rest)))). chosen st x b a o.0 o.1 rest
  where
    chosen : (st : List Sym) (x : Tree (expect.Level 0)) (b : ℕ) (a : Closed) (o : Otherwises) (c : Closed) (rest : Trees st) →
        (whole : Closed) × (after : Trees st) × (closed_tokens whole ++ all_spelled st after
        ≡ at p tok.If ∷ all_spelled (expect.Level 0 ∷ expect.Begin ∷ expect.Statements ∷ expect.AfterIf ∷ st) (x, (b, (a, ((o, c), rest)))))
    chosen st x b a None c rest =
        (record { body = first (when p x.0 b a.body a.end_at) c.body; end_at = c.end_at; good = ((x.1, a.good), c.good) }, rest, simp append_assoc)
    chosen st x b a (Some o) c rest =
        (record { body = first (choose p x.0 b a.body a.end_at o.else_at o.begin_at o.block.body o.block.end_at) c.body; end_at = c.end_at; good = ((x.1, a.good, o.block.good), c.good) }, rest, simp append_assoc)
statement_back tok.Abort p = λ st (m, (e, (c, rest))).
    (record { body = first (abort p m.0 m.1 e) c.body; end_at = c.end_at; good = (tt, c.good) }, rest, simp append_assoc)
statement_back tok.Give p = λ st (i, (m, (c, rest))).
    (record { body = first (give p i.0 m.0.0 m.1) c.body; end_at = c.end_at; good = ((i.1, m.0.1), c.good) }, rest, simp append_assoc)
statement_back tok.End p = λ st rest. (record { body = nothing; end_at = p; good = tt }, rest, refl)
statement_back t p = tt

-- statements with no `else` before them
no_else : (u : Turn) (t : Placed) → Back expect.Statements t u → Back expect.AfterIf t u
no_else (takes after) t back = λ st tree. let b = back st tree in ((None, b.0), b.1, b.2)
no_else passes t back = ((None, back.0), back.1)
no_else refuses t back = tt

-- an item that is no row
as_item : (u : Turn) (t : Placed) → Back (expect.Level 0) t u → Back expect.Item t u
as_item (takes after) t back = λ st tree. let b = back st tree in ((value_item b.0.0, b.0.1), b.1, b.2)
as_item passes t back = ((value_item back.0.0, back.0.1), back.1)
as_item refuses t back = tt

back : (s : Sym) (t : Token) (p : ℕ) → Back s (at p t) (turn s t)
back expect.Procs tok.Proc p = λ st (m, (o, (ps, (k, (procs, rest))))). (
  (
    record {
      word_at = p;
      name_at = m.0;
      name = m.1;
      open_at = o;
      params = ps.0;
      close_at = ps.1;
      key = k.0;
      more_keys = k.1.more_keys;
      begin_at = k.1.begin_at;
      body = k.1.body;
      end_at = k.1.end_at;
    } ∷ procs.0,
    (k.1.good, procs.1),
  ),
  rest,
  simp append_assoc,
)
back expect.Procs t p = tt
back expect.Name (tok.Name n) p = λ st rest. ((p, n), rest, refl)
back expect.Name t p = tt
back expect.Text (tok.Text n) p = λ st rest. ((p, n), rest, refl)
back expect.Text t p = tt
back expect.Open tok.Open p = λ st rest. (p, rest, refl)
back expect.Open t p = tt
back expect.Close tok.Close p = λ st rest. (p, rest, refl)
back expect.Close t p = tt
back expect.Begin tok.Begin p = λ st rest. (p, rest, refl)
back expect.Begin t p = tt
back expect.Colon tok.Colon p = λ st rest. (p, rest, refl)
back expect.Colon t p = tt
back expect.Is tok.Is p = λ st rest. (p, rest, refl)
back expect.Is t p = tt
back expect.Semicolon tok.Semicolon p = λ st rest. (p, rest, refl)
back expect.Semicolon t p = tt
back expect.Params (tok.Name n) p = λ st (c, (k, (more, rest))).
    ((params (record { name_at = p; name = n; colon_at = c; kind_at = k.0; kind = k.1 }) more.0, more.1), rest, simp append_assoc)
back expect.Params tok.Close p = λ st rest. ((no_param, p), rest, refl)
back expect.Params t p = tt
back expect.MoreParams tok.Comma p = λ st (m, (c, (k, (more, rest)))).
    (((p, record { name_at = m.0; name = m.1; colon_at = c; kind_at = k.0; kind = k.1 }) ∷ more.0, more.1), rest, simp append_assoc)
back expect.MoreParams tok.Close p = λ st rest. (([], p), rest, refl)
back expect.MoreParams t p = tt
back expect.Kind tok.IntWord p = λ st rest. ((p, kind.Int), rest, refl)
back expect.Kind tok.TextWord p = λ st rest. ((p, kind.Text), rest, refl)
back expect.Kind t p = tt
back expect.Keys tok.Read p = λ st (m, (i, (part, (more, (r, rest))))). ((record { word_at = p; write = false; name_at = m.0; name = m.1; is_at = i; first = part; more = more.0; end_at = more.1 }, r), rest, simp append_assoc)
back expect.Keys tok.Write p = λ st (m, (i, (part, (more, (r, rest))))). ((record { word_at = p; write = true; name_at = m.0; name = m.1; is_at = i; first = part; more = more.0; end_at = more.1 }, r), rest, simp append_assoc)
back expect.Keys t p = tt
back expect.MoreKeys tok.Read p = λ st (m, (i, (part, (more, (r, rest))))).
    let key : KeySyntax = record { word_at = p; write = false; name_at = m.0; name = m.1; is_at = i; first = part; more = more.0; end_at = more.1 } in
    (with_key key r, rest, simp append_assoc)
back expect.MoreKeys tok.Write p = λ st (m, (i, (part, (more, (r, rest))))).
    let key : KeySyntax = record { word_at = p; write = true; name_at = m.0; name = m.1; is_at = i; first = part; more = more.0; end_at = more.1 } in
    (with_key key r, rest, simp append_assoc)
back expect.MoreKeys tok.Begin p = λ st (c, rest).
    (record { more_keys = []; begin_at = p; body = c.body; end_at = c.end_at; good = c.good }, rest, refl)
back expect.MoreKeys t p = tt
back expect.Part (tok.Text n) p = λ st rest. (text_part p n, rest, refl)
back expect.Part (tok.Name n) p = λ st rest. (name_part p n, rest, refl)
back expect.Part tok.Show p = λ st (o, (m, (c, rest))). (show_part p (in_brackets o m c), rest, refl)
back expect.Part t p = tt
back expect.MoreParts (tok.Op op.Join) p = λ st (part, (more, rest)). (((p, part) ∷ more.0, more.1), rest, simp append_assoc)
back expect.MoreParts tok.Semicolon p = λ st rest. (([], p), rest, refl)
back expect.MoreParts t p = tt
back expect.Statements t p = statement_back t p
back expect.AfterIf tok.Else p = λ st (b, (a, (c, rest))).
    ((Some (record { else_at = p; begin_at = b; block = a }), c), rest, simp append_assoc)
back expect.AfterIf t p = no_else (statement t) (at p t) (statement_back t p)
back expect.Item tok.Row p = λ st (o, (m, (c, rest))). ((row_item p (in_brackets o m c), tt), rest, refl)
back expect.Item t p = as_item (operand 0 t) (at p t) (operand_back 0 t p)
back expect.MoreItems tok.Comma p = λ st (i, (more, rest)). ((((p, i.0) ∷ more.0.0, (i.1, more.0.1)), more.1), rest, simp append_assoc)
back expect.MoreItems tok.Semicolon p = λ st rest. ((([], tt), p), rest, refl)
back expect.MoreItems t p = tt
back (expect.Level n) t p = operand_back n t p
back (expect.Tail n) t p = operator_back n t p

some_rest : Rest
some_rest = record { more_keys = []; begin_at = 0; body = nothing; end_at = 0; good = tt }

some_key : KeySyntax
some_key = record { word_at = 0; write = true; name_at = 0; name = []; is_at = 0; first = text_part 0 []; more = []; end_at = 0 }

some_level : (n : ℕ) → (x : Syntax) × IsLevel n x
some_level zero = (
  chain (chain (chain (chain (chain (int 0 (pos 0)) no_link) no_link) no_link) no_link) no_link,
  (omega arith, (omega arith, (omega arith, (omega arith, (omega arith, omega arith, tt), tt), tt), tt), tt),
)
some_level (suc zero) = (
  chain (chain (chain (chain (int 0 (pos 0)) no_link) no_link) no_link) no_link,
  (omega arith, (omega arith, (omega arith, (omega arith, omega arith, tt), tt), tt), tt),
)
some_level (suc (suc zero)) = (chain (chain (chain (int 0 (pos 0)) no_link) no_link) no_link, (omega arith, (omega arith, (omega arith, omega arith, tt), tt), tt))
some_level (suc (suc (suc zero))) = (chain (chain (int 0 (pos 0)) no_link) no_link, (omega arith, (omega arith, omega arith, tt), tt))
some_level (suc (suc (suc (suc zero)))) = (chain (int 0 (pos 0)) no_link, (omega arith, omega arith, tt))
some_level (suc (suc (suc (suc (suc n))))) = (int 0 (pos 0), omega arith)

-- each part of the grammar has a text
some_tree : (s : Sym) → Tree s
some_tree expect.Procs = ([], tt)
some_tree expect.Name = (0, [])
some_tree expect.Text = (0, [])
some_tree expect.Open = 0
some_tree expect.Close = 0
some_tree expect.Begin = 0
some_tree expect.Colon = 0
some_tree expect.Is = 0
some_tree expect.Semicolon = 0
some_tree expect.Params = (no_param, 0)
some_tree expect.MoreParams = ([], 0)
some_tree expect.Kind = (0, kind.Int)
some_tree expect.Keys = (some_key, some_rest)
some_tree expect.MoreKeys = some_rest
some_tree expect.Part = text_part 0 []
some_tree expect.MoreParts = ([], 0)
some_tree expect.Statements = record { body = nothing; end_at = 0; good = tt }
some_tree expect.AfterIf = (None, record { body = nothing; end_at = 0; good = tt })
some_tree expect.Item = (row_item 0 (record { open_at = 0; name_at = 0; name = []; close_at = 0 }), tt)
some_tree expect.MoreItems = (([], tt), 0)
some_tree (expect.Level n) = some_level n
some_tree (expect.Tail n) = (no_link, tt)

some_trees : (st : List Sym) → Trees st
some_trees [] = tt
some_trees (s ∷ st) = (some_tree s, some_trees st)

back_turn : (u : Turn) (s : Sym) (t : Placed) (below after : List Sym) → Back s t u → after_turn u below (advance below t.token) ≡ Some after →
    ((tree : Trees after) → advance below t.token ≡ Some after → (whole : Trees below) × (all_spelled below whole ≡ t ∷ all_spelled after tree)) →
    (tree : Trees after) → (whole : Trees (s ∷ below)) × (all_spelled (s ∷ below) whole ≡ t ∷ all_spelled after tree)
back_turn (takes now) s t below after back e deeper =
    let is : now ++ below ≡ after = cc in
    subst (λ a. (tree : Trees a) → (whole : Trees (s ∷ below)) × (all_spelled (s ∷ below) whole ≡ t ∷ all_spelled a tree)) is
    (λ tree. let b = back below tree in ((b.0, b.1), b.2))
back_turn passes s t below after back e deeper = λ tree.
    let d = deeper tree e in ((back.0, d.0), ap (λ v. v ++ all_spelled below d.0) back.1 ∙ d.1)
back_turn refuses s t below after back e deeper = absurd cc

-- a token that is taken: a text of what was expected begins with it
back_step : (st : List Sym) (t : Placed) (after : List Sym) → advance st t.token ≡ Some after → (tree : Trees after) →
    (whole : Trees st) × (all_spelled st whole ≡ t ∷ all_spelled after tree)
back_step [] t after e = λ tree. absurd cc
back_step (s ∷ below) t after e =
    back_turn (turn s t.token) s t below after (back s t.token t.place) e (λ tree deep. back_step below t after deep tree)

-- what was read of what is expected is what a text of it begins with
back_run : (st : List Sym) (ts : List Placed) (after : List Sym) → run st ts ≡ Some after → (tree : Trees after) →
    (whole : Trees st) × (all_spelled st whole ≡ ts ++ all_spelled after tree)
back_run st [] after e tree =
    let same : st ≡ after = cc in
    subst (λ a. (tree : Trees a) → (whole : Trees st) × (all_spelled st whole ≡ all_spelled a tree)) same (λ t. (t, refl)) tree
back_run st (t ∷ ts) after e tree = later (advance st t.token) refl e (λ middle goes. back_run middle ts after goes tree)
  where
    later : (o : Option (List Sym)) → advance st t.token ≡ o → onward o (λ s. run s ts) ≡ Some after →
        ((middle : List Sym) → run middle ts ≡ Some after → (w : Trees middle) × (all_spelled middle w ≡ ts ++ all_spelled after tree)) →
        (whole : Trees st) × (all_spelled st whole ≡ t ∷ (ts ++ all_spelled after tree))
    later None is goes rest = absurd cc
    later (Some middle) is goes rest =
        let r = rest middle goes in
        let b = back_step st t middle is r.0 in
        (b.0, b.1 ∙ ap (λ v. t ∷ v) r.1)

-- what the machine has read is what some procedures begin with
pub read_begins : (ts : List Placed) (after : List Sym) → run (expect.Procs ∷ []) ts ≡ Some after → Begins ts
read_begins ts after e =
    let b = back_run (expect.Procs ∷ []) ts after e (some_trees after) in
    (all_spelled after (some_trees after), (b.0.0.0, b.0.0.1, sym (append-nil (procs_tokens b.0.0.0)) ∙ b.1))

-- and where only more procedures may follow, it is all the tokens of some
pub read_whole : (ts : List Placed) → run (expect.Procs ∷ []) ts ≡ Some (expect.Procs ∷ []) → InGrammar ts
read_whole ts e =
    let b = back_run (expect.Procs ∷ []) ts (expect.Procs ∷ []) e (([], tt), tt) in
    (b.0.0.0, b.0.0.1, sym (append-nil (procs_tokens b.0.0.0)) ∙ b.1 ∙ append-nil ts)
